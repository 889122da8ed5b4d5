-- Each word of the table is computed, and found to be the one that stands there.
use Rattle.std.proofs.Common.{refl}
use Rattle.csp_crc.specs.Register.{place, places}
use Rattle.csp_crc.proofs.Words.{words, word_at}
use Rattle.csp_crc.proofs.tables.after_12.Goals as goal

pub returns : goal.returns
unfolding words places place
returns c = word_at 12 _ c.args.byte refl c.ranges.byte.fits

use Rattle.std.proofs.Common.{arith}
use Rattle.csp_picture.proofs.laws.labels_stand_apart.Goals as goal

pub returns : goal.returns
returns c links upper lower below = record { labels = omega (arith, below); numbers = omega (arith, below); sides = omega arith; columns = omega arith }

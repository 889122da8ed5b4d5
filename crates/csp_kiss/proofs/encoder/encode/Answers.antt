use Rattle.std.proofs.Common.{ap, ◌∙◌}
use Rattle.std.specs.Int.{w32, to_be_bytes}
use Rattle.csp_crc.specs.Crc.{crc_of}
use Rattle.csp_kiss.specs.Frame.{covered, frame}
use Rattle.csp_kiss.specs.Stream.{events}
use Rattle.csp_kiss.proofs.RoundTrip.{frame_from, events-packet}
use Rattle.csp_kiss.proofs.encoder.encode.Goals as goal

pub returns-clause-written : goal.returns-clause-written
unfolding frame
returns-clause-written c =
    rw (c.push-3.ensures.items, c.push_escaped-3.ensures.items, c.push_escaped-2.ensures.items, c.push_escaped.ensures.items, c.push-2.ensures.items, c.push.ensures.items, c.clear.ensures, c.to_be_bytes-2.ensures, c.checksum.ensures, c.to_be_bytes.ensures)
    (frame_from (to_be_bytes w32 c.args.header) c.args.payload.now (to_be_bytes w32 (crc_of (covered c.args.cover c.args.header c.args.payload.now))))

pub returns-clause-read : goal.returns-clause-read
returns-clause-read c mtu short =
    ap (events c.args.cover mtu) (returns-clause-written c) ∙ events-packet c.args.cover mtu c.args.header c.args.payload.now c.ranges.header.fits short

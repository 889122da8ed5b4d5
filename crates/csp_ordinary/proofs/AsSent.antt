-- A packet that is as it was sent, by the transmission that its origin names, is not counted as changed.
use Rattle.std.proofs.Common.{◌≡◌, ◌==◌, ◌&&◌, true, false, not, Option, sym, ap, ◌∙◌}
use Rattle.std.specs.Option.{option_and_then}
use Rattle.std.specs.Str.{bytes_eq}
use Rattle.std.proofs.lemmas.Bool.{eq-eqb}
use Rattle.std.proofs.lemmas.Slice.Eq.{bytes_eq-Decides}
use Rattle.csp_buffer.specs.Content.{Content}
use Rattle.csp_record.specs.Passed.{differs, is_changed}
use Rattle.csp_record.specs.Record.{PlainRecord}
use Rattle.csp_record.specs.Transmissions.{transmission}
use Rattle.csp_ordinary.specs.AsSent.{IsAsSent}

pub unchanged : (r : PlainRecord) (b : Content) → IsAsSent r b.header b.payload b.trace → is_changed r b ≡ false
unchanged r b is =
    let headers : (b.header == is.sent.header) ≡ true = eq-eqb b.header is.sent.header (sym is.header_is) in
    let payloads : bytes_eq b.payload is.sent.payload ≡ true = (bytes_eq-Decides b.payload is.sent.payload).1 (sym is.payload_is) in
    ap (λ (o : Option Content). differs o b) (ap (option_and_then (transmission r)) is.named ∙ is.shown) ∙ (λ i. not (headers i && payloads i))

use Rattle.std.proofs.Common.{List, ℕ, ◌-◌, ◌++◌, length, min, take, ap, sym, ◌∙◌}
use Rattle.csp_base.specs.declared.limits.TheConstants.{MAX_PAYLOAD}
use Rattle.csp_kiss.specs.Reading.{Reading, going, kept_bytes, room}
use Rattle.csp_tap.specs.Pieces.{stage_of}
use Rattle.csp_tap.proofs.Pieces.{kept_fit}
use Rattle.csp_tap.proofs.piece.Piece.keep.Goals as goal

pub returns : goal.returns
returns c =
    let at = c.self.inside in
    let bytes : List ℕ = c.args.bytes.now in
    let with : List ℕ → Reading = λ plain. record { cover = at.cover; mtu = MAX_PAYLOAD; stage = stage_of at.stage; plain = plain } in
    ap with (c.put.ensures ∙ ap (λ fit. at.plain.items ++ take fit bytes) c.min-fit.ensures
    ∙ ap (λ n. at.plain.items ++ take (min (room MAX_PAYLOAD - n) (length bytes)) bytes) c.len.ensures.value ∙ sym (kept_fit at.plain.items bytes c.self.invariant))
    ∙ ap (λ (r : Reading). going r r.stage (kept_bytes MAX_PAYLOAD r.plain bytes)) c.self.view_is

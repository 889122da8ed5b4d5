use Rattle.std.proofs.Common.{List, ℕ, ◌-◌, length, drop, take, ap, sym, ◌∙◌, arith}
use Rattle.std.proofs.lemmas.List.{length-drop}
use Rattle.csp_base.specs.declared.limits.TheConstants.{MAX_PAYLOAD}
use Rattle.csp_kiss.specs.Reading.{Reading}
use Rattle.csp_kiss.proofs.Public.{take_all}
use Rattle.csp_tap.specs.Pieces.{gone_through, stage_of}
use Rattle.csp_tap.specs.declared.piece.Stage.{Stage}
use Rattle.csp_tap.proofs.Pieces.{gone_start}
use Rattle.csp_tap.proofs.piece.Piece.go_through.Goals as goal

pub returns-in-Start-len1-up : goal.returns-in-Start-len1-up
returns-in-Start-len1-up c =
    let within = c.self.inside in
    let bytes : List ℕ = c.args.bytes.now in
    let rest : List ℕ = take (length bytes - 1) (drop 1 bytes) in
    let at : Stage → Reading = λ stage. record { cover = within.cover; mtu = MAX_PAYLOAD; stage = stage_of stage; plain = within.plain.items } in
    c.keep.ensures
    ∙ sym (gone_start (at within.stage) bytes rest (ap stage_of c.in-Start-len1-up.is-0) (omega (arith, c.in-Start-len1-up.len_at_least))
    (take_all (length bytes - 1) (drop 1 bytes) (omega (arith, length-drop 1 bytes))) c.self.invariant (sym c.contains.ensures.value ∙ c.if-not-contains.true))
    ∙ ap (λ (r : Reading). gone_through r bytes) c.self.view_is

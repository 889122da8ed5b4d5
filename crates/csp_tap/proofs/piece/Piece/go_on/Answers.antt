use Rattle.std.proofs.Common.{ℕ, [], ◌∷◌, ap, sym, ◌∙◌}
use Rattle.std.proofs.lemmas.Bool.{ne_eqb}
use Rattle.csp_base.specs.declared.limits.TheConstants.{MAX_PAYLOAD}
use Rattle.csp_kiss.specs.Reading.{Reading, going, kept_bytes}
use Rattle.csp_kiss.specs.declared.TheConstants.{FESC}
use Rattle.csp_tap.specs.Pieces.{gone_on, stage_of}
use Rattle.csp_tap.specs.declared.piece.Stage.{Stage}
use Rattle.csp_tap.proofs.Pieces.{kept_plain}
use Rattle.csp_tap.proofs.piece.Piece.go_on.Goals as goal

pub returns-in-Plain-2 : goal.returns-in-Plain-2
returns-in-Plain-2 c =
    let r : Reading = c.args.self.now in
    let byte : ℕ = c.args.byte in
    let at = ap (λ (r : Reading). r.stage) (sym c.self.view_is) ∙ ap stage_of c.in-Plain.is in
    let mtu = ap (λ (r : Reading). r.mtu) (sym c.self.view_is) in
    c.keep.ensures
    ∙ (λ i. going r (at i) (kept_bytes (sym mtu i) r.plain (byte ∷ [])))
    ∙ sym (kept_plain r byte at (ne_eqb byte FESC c.if-byte-eq-FESC.false))

pub returns-in-220 : goal.returns-in-220
returns-in-220 c =
    let within = c.self.inside in
    let at : Stage → Reading = λ stage. record { cover = within.cover; mtu = MAX_PAYLOAD; stage = stage_of stage; plain = within.plain.items } in
    c.keep-in-220.ensures
    ∙ (λ i. gone_on (at (sym c.in-Escape.is i)) (sym c.in-220.is i))
    ∙ ap (λ (r : Reading). gone_on r c.args.byte) c.self.view_is

pub returns-in-221 : goal.returns-in-221
returns-in-221 c =
    let within = c.self.inside in
    let at : Stage → Reading = λ stage. record { cover = within.cover; mtu = MAX_PAYLOAD; stage = stage_of stage; plain = within.plain.items } in
    c.keep-in-221.ensures
    ∙ (λ i. gone_on (at (sym c.in-Escape.is i)) (sym c.in-221.is i))
    ∙ ap (λ (r : Reading). gone_on r c.args.byte) c.self.view_is

use Rattle.std.proofs.Common.{◌≡◌, ◌++◌, [], ◌∷◌, sym, ap, ◌∙◌}
use Rattle.std.specs.String.{string_bytes}
use Rattle.std.proofs.lemmas.Result.{IfOk-equal}
use Rattle.csp_route.specs.Routes.{kept_key}
use Rattle.csp_route.specs.Text.{names_of}
use Rattle.csp_route.specs.Written.{target_text, via_text, name_at}
use Rattle.csp_route.proofs.Texts.{name_here, pieces}
use Rattle.csp_route.proofs.writing.push_row.Goals as goal

pub returns-clause-text : goal.returns-clause-text
returns-clause-text c =
    let front = (string_bytes c.args.out.now ++ target_text (kept_key c.args.row.now)) ++ 32 ∷ [] in
    let name : c.as_str.result.now ≡ name_at (names_of c.args.ifaces.now) c.args.row.now.iface = c.as_str.ensures.value ∙ sym (name_here c.args.ifaces.now c.args.row.now.iface c.index-ifaces-from.result c.requires (cc)) in
    IfOk-equal c.push_via.result _ _ _ c.push_via.ensures.text (
    ap (λ bs. bs ++ via_text c.args.row.now.via) (c.in_ok-push_str-2.ensures.bytes
    ∙ ap (λ bs. bs ++ c.as_str.result.now) (c.in_ok-push_str.ensures.bytes ∙ ap (λ bs. bs ++ 32 ∷ []) c.in_ok-push_target.ensures.text)
    ∙ ap (λ bs. front ++ bs) name)
    ∙ pieces (string_bytes c.args.out.now) (target_text (kept_key c.args.row.now)) (name_at (names_of c.args.ifaces.now) c.args.row.now.iface) (via_text c.args.row.now.via))

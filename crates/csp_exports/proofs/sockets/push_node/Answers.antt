use Rattle.std.proofs.Common.{ap, ◌∙◌, ◌++◌}
use Rattle.std.specs.List.{enumerate_from, flat_map}
use Rattle.std.specs.String.{string_bytes}
use Rattle.csp_report.specs.Lines.{text_of}
use Rattle.csp_scene.specs.Scene.{PlainNode}
use Rattle.csp_exports.specs.Unused.{app_lines}
use Rattle.csp_exports.proofs.sockets.push_node.Goals as goal

pub returns : goal.returns
returns c =
    let name = c.as_str.ensures.value ∙ ap (λ (n : PlainNode). n.name) c.node.view_is in
    let apps = c.as_slice.ensures.value ∙ ap (λ (n : PlainNode). n.apps) c.node.view_is in
    c.in_ok-push_apps.ensures ∙ (λ i. string_bytes c.args.out.now ++ text_of (flat_map (λ a. app_lines c.args.parties.now c.args.place a.0 (name i) a.1) (enumerate_from 0 (apps i))))

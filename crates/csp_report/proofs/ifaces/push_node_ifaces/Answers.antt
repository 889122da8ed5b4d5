use Rattle.std.proofs.Common.{ℕ, ◌<◌, ◌++◌, ap, sym, ◌∙◌, length, arith}
use Rattle.std.specs.String.{string_bytes}
use Rattle.csp_scene.specs.Links.{touches}
use Rattle.csp_scene.specs.Scene.{PlainLink}
use Rattle.csp_report.specs.Lines.{Line, ended_line}
use Rattle.csp_report.specs.Parties.{entries_at}
use Rattle.csp_report.specs.Ifaces.{iface_line}
use Rattle.csp_log.specs.declared.who.Who.TheVariants as who
use Rattle.csp_report.proofs.IfaceLines.{touching, passing}
use Rattle.csp_report.proofs.ifaces.push_node_ifaces.Goals as goal
use Rattle.csp_report.proofs.ifaces.push_node_ifaces.Goals.{then-touches+in_ok-push_iface, else-touches}

pub loop-link-preserved : goal.loop-link-preserved
loop-link-preserved c =
    let line : ℕ → PlainLink → Line = λ k link. iface_line c.args.node.now link.name (entries_at c.args.parties.now (who.Iface c.args.place k)) in
    let asked = ap (λ place. touches place c.link-item.result) (sym c.from.ensures) ∙ sym c.touches.ensures in
    let within : c.loop-link.link-index < length c.args.links.now = omega arith in
    elim c.if-touches.branch [
      | then-touches+in_ok-push_iface w ↦ (
        rw (w.out-is, w.number-is)
            (touching line c.args.place c.loop-link.number c.loop-link.link-index c.args.links.now c.link-item.result (string_bytes c.loop-link.out) _ _ within c.link-item.is (asked ∙ w.if-touches.true) c.loop-link.invariant.0
            (w.in_ok-push_iface.ensures
            ∙ ap (λ name. string_bytes c.loop-link.out ++ ended_line (iface_line c.args.node.now name (entries_at c.args.parties.now (who.Iface c.args.place c.loop-link.number)))) (w.as_str.ensures.value ∙ ap (λ (link : PlainLink). link.name) c.link.view_is))),
        omega arith,
      )
      | else-touches w ↦ (
        rw (w.out-is, w.number-is)
            (passing line c.args.place c.loop-link.number c.loop-link.link-index c.args.links.now c.link-item.result (string_bytes c.loop-link.out) _ within c.link-item.is (asked ∙ w.if-touches.false) c.loop-link.invariant.0),
        omega arith,
      )
    ]

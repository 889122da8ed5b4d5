use Rattle.std.proofs.Common.{◌∷◌, ap, sym, ◌∙◌}
use Rattle.std.specs.Prelude.{codes}
use Rattle.std.specs.String.{string_bytes}
use Rattle.csp_record.specs.Record.{PlainRecord}
use Rattle.csp_report.specs.Lines.{ended_line}
use Rattle.csp_report.specs.Parties.{events_at}
use Rattle.csp_report.specs.Events.{all_discards, discard_words}
use Rattle.csp_report.specs.Report.{router_words}
use Rattle.csp_log.specs.declared.who.Who.TheVariants as who
use Rattle.csp_report.proofs.Joining.{said_otherwise}
use Rattle.csp_report.proofs.routers.push_discarder.Goals as goal

pub returns-in-Some : goal.returns-in-Some
returns-in-Some c =
    let name = c.args.name.now in
    said_otherwise c.push_discarding.result (string_bytes c.push_discarding.new.out) (string_bytes c.args.out.now) _ _
    (ap (λ events. ended_line (codes "router" ∷ name ∷ discard_words events all_discards)) (c.events_at-events.ensures ∙ ap (λ parties. events_at parties (who.Router c.args.place)) (c.as_slice-parties.ensures.value ∙ ap (λ (r : PlainRecord). r.parties) c.run.view_is))
    ∙ ap (λ addr. ended_line (router_words c.args.run.now c.args.place name addr)) (sym c.in-Some.is))
    c.push_discarding.ensures

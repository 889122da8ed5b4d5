use Rattle.std.proofs.Common.{ℕ, List, sym, ◌∙◌, ap, subst}
use Rattle.std.specs.List.{slice_get}
use Rattle.std.specs.Option.{option_map}
use Rattle.std.specs.Prelude.{OnOk}
use Rattle.csp_record.specs.Traffic.{Gains}
use Rattle.csp_record.proofs.Gaining.{entry-told}
use Rattle.csp_record.proofs.payloads.add_entry.Goals as goal

pub returns-in-Some : goal.returns-in-Some
returns-in-Some c =
    let told = entry-told c.args.way c.args.app in
    subst (λ (more : ℕ → ℕ → List (List ℕ)). OnOk c.add_told.result (Gains c.args.table.now.entries c.add_told.new.table.entries more))
    (λ i s o. told s o c.args.ends.now (slice_get c.args.log.now.entries c.args.index) c.moved.result c.events.result.now c.in-Some.payload.now
    c.moved.ensures c.events.ensures (sym (ap (option_map (λ bytes. bytes.now)) c.in-Some.is) ∙ c.carried.ensures) i)
    c.add_told.ensures

-- What the text of a report tells of the numbers of transmissions holds of the record that it is made of.
use Rattle.std.proofs.Common.{◌≡◌, ◌⊎◌, inl, inr, ◌≤◌, [], ap, subst, arith}
use Rattle.csp_iface.specs.declared.sender.TheConstants.{IDS}
use Rattle.csp_record.specs.Record.{PlainRecord}
use Rattle.csp_log.specs.declared.who.Who.TheVariants as who
use Rattle.csp_scene.specs.Ranges.{IsScene}
use Rattle.csp_scene.specs.Scene.{PlainScene}
use Rattle.csp_topology.specs.Parties.{parties_of}
use Rattle.csp_consistent.proofs.Public.{Logged, IsIfaceAt, IsOwner, IsOf, logged}
use Rattle.csp_consistent.specs.Reading.{entries_of}
use Rattle.csp_consistent.specs.Runs.{AreLogsOf}
use Rattle.csp_ordinary.specs.Ordinary.{transmissions, HasNumbersForAll}
use Rattle.csp_report.specs.Report.{report}
use Rattle.csp_told.proofs.SentLines.{sent_within}
use Rattle.csp_told.specs.WithinNumbers.{SendsWithinNumbers}

-- so no bus wore out its numbers
pub told_within : (scene : PlainScene) (r : PlainRecord) → IsScene scene → AreLogsOf (parties_of scene) r.parties → SendsWithinNumbers scene (report scene r) → HasNumbersForAll scene r
told_within scene r is are told node number l on can = by (logged scene r (who.Iface node number) are)
  where
    by : (entries_of r (who.Iface node number) ≡ []) ⊎ Logged (IsOf scene) (who.Iface node number) r.parties → transmissions (entries_of r (who.Iface node number)) ≤ IDS
    by (inl none) = omega (arith, ap transmissions none)
    by (inr log) =
        let at : IsIfaceAt scene.nodes scene.links node number log.opening.party = subst (λ w. IsOwner scene.nodes scene.links w log.opening.party) log.name log.holds in
        sent_within scene r is are told node number at.node l at.there on can

-- In the lanes between an interface and its link no buffer was left; and what the entries of a name did was on its own queues.
use Rattle.std.proofs.Common.{◌≡◌, ℕ, ◌+◌, Bool, true, false, Some, List, [], ◌∷◌, length, slice_get, refl, sym, subst, arith}
use Rattle.std.specs.Prelude.{if◌then◌else◌}
use Rattle.std.specs.List.{AllByRecursion}
use Rattle.csp_conserved.proofs.Frames.{rx_bare, tx_bare}
use Rattle.csp_conserved.proofs.Ifaces.{IsBare}
use Rattle.csp_consistent.proofs.Public.{AreLanes, end_lanes_of, IsJoint, joint, each_last, entries_in, who_is}
use Rattle.csp_consistent.specs.Lanes.{AreInOrder, IsInOrder}
use Rattle.csp_consistent.specs.Queues.{MayAsk, UseTheirQueues}
use Rattle.csp_consistent.specs.Reading.{entries_of, gets, left_in, puts}
use Rattle.csp_consistent.specs.Runs.{AreLogsOf}
use Rattle.csp_log.specs.declared.entry.Entry.{Entry}
use Rattle.csp_log.specs.declared.places.End.{End}
use Rattle.csp_log.specs.declared.places.QueueId.TheVariants as queue
use Rattle.csp_record.specs.Record.{PlainPartyLog, PlainRecord}
use Rattle.csp_log.specs.Who.{is_who}
use Rattle.csp_log.specs.declared.who.Who.{Who}
use Rattle.csp_scene.proofs.Public.{AllByRecursion-append}
use Rattle.csp_scene.specs.Kept.{AreLinksAfter}
use Rattle.csp_scene.specs.Links.{links_at}
use Rattle.csp_scene.specs.Scene.{PlainLink, PlainScene}
use Rattle.csp_topology.proofs.Public.{home_placed}
use Rattle.csp_topology.specs.Lanes.{PlainLane}
use Rattle.csp_topology.specs.Parties.{parties_of}

-- nothing with a buffer was left on the way from an interface to its link, and back
pub record IsBareAt (r : PlainRecord) (node number : ℕ) : Type 0 where
  pub tx : AllByRecursion IsBare (left_in r node (queue.Tx number) 0)
  pub rx : AllByRecursion IsBare (left_in r node (queue.Rx number) 0)

lane_bare : (r : PlainRecord) (l : PlainLane) → IsInOrder r l → AllByRecursion IsBare (puts l.from.queue (entries_of r l.from.who)) → AllByRecursion IsBare (left_in r l.node l.queue 0)
lane_bare r l order all = each_last IsBare (gets l.to.queue (entries_of r l.to.who)) (left_in r l.node l.queue 0) (subst (AllByRecursion IsBare) (sym order.kept.order) all)

module _ (scene : PlainScene) (r : PlainRecord) (are : AreLogsOf (parties_of scene) r.parties) where
  end_bare : (number at : ℕ) (l : PlainLink) (end : End) → AreLanes r number l at end → IsBareAt r end.node end.iface
  end_bare number at l end lanes = record {
    tx = lane_bare r _ lanes.0 (tx_bare scene r are end.node end.iface end.iface);
    rx = lane_bare r _ lanes.1 (rx_bare scene r are number at);
  }

  pub bare_at : (node number : ℕ) (l : PlainLink) → AreLinksAfter (length scene.nodes) [] scene.links → AreInOrder scene r → slice_get (links_at node scene.links) number ≡ Some l → IsBareAt r node number
  bare_at node number l after order on =
      let first : 0 + number ≡ number = omega arith in
      by (subst (λ k. IsJoint scene.links l (record { node = node; iface = k })) first (joint (length scene.nodes) node scene.links [] number l after on))
    where
      by : IsJoint scene.links l (record { node = node; iface = number }) → IsBareAt r node number
      by j = let end : End = record { node = node; iface = number } in end_bare j.number j.at l end (end_lanes_of scene r j.number l j.at end (home_placed scene after) order j.there j.on)

-- the entries of a name are on queues that it may use
pub may_in : (w : Who) (logs : List PlainPartyLog) → UseTheirQueues logs → AllByRecursion (λ e. MayAsk w e.op) (entries_in w logs)
may_in w [] h = tt
may_in w (log ∷ logs) h =
    AllByRecursion-append (λ (e : Entry). MayAsk w e.op) (if is_who w log.who then log.entries else []) (entries_in w logs) (by (is_who w log.who) refl) (may_in w logs h.1)
  where
    by : (b : Bool) → is_who w log.who ≡ b → AllByRecursion (λ (e : Entry). MayAsk w e.op) (if b then log.entries else [])
    by true e = subst (λ (v : Who). AllByRecursion (λ (x : Entry). MayAsk v x.op) log.entries) (sym (who_is w log.who e)) h.0
    by false e = tt

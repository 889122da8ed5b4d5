-- What an interface on a hub accepts: packets of the other interfaces of that hub which go to its node, each at most as often as the plan of faults makes
-- copies of its first frame; and, where the run was ordinary on the hub, as they were sent.
use Rattle.std.specs.Prelude.{ℕ, ◌≡◌, ◌≢◌, ◌≤◌, ◌⊎◌, true, Some, List, slice_get, count_by}
use Rattle.std.specs.List.{AllByRecursion, filter_map}
use Rattle.csp_base.specs.declared.traces.Origin.{Origin}
use Rattle.csp_base.specs.declared.traces.Trace.{Trace}
use Rattle.csp_buffer.specs.Content.{Content}
use Rattle.csp_consistent.specs.Addressed.{addressee}
use Rattle.csp_consistent.specs.Reading.{entries_of}
use Rattle.csp_delivery.specs.Delivery.{MakesOfFirst, names, origin_at}
use Rattle.csp_base.specs.declared.address.TheConstants.{BROADCAST}
use Rattle.csp_log.specs.Moving.{moved_in}
use Rattle.csp_log.specs.declared.places.End.{End}
use Rattle.csp_ordinary.specs.AsSent.{IsAsSent}
use Rattle.csp_ordinary.specs.Ordinary.{IsOrdinaryOn}
use Rattle.csp_record.specs.Passed.{put_in}
use Rattle.csp_record.specs.Record.{PlainRecord}
use Rattle.csp_record.specs.Transmissions.{transmission}
use Rattle.csp_log.specs.declared.who.Who.TheVariants as who
use Rattle.csp_scene.specs.Scene.{PlainLink, PlainNode, PlainScene}

-- the packets that the interface at an end accepted: those that it put into the inbox of its node
abbrev pub accepted : PlainRecord → End → List Content
accepted r end = filter_map (λ e. put_in (moved_in e)) (entries_of r (who.Iface end.node end.iface))

-- a transmission that goes to this node is for the node of an address where that is its own, and for every node where it is 31
abbrev pub IsFor : (addr next : ℕ) → Type 0
IsFor addr next = (next ≡ addr) ⊎ (next ≡ BROADCAST)

-- a packet with this trace, accepted at an end whose node has this address: it names a transmission of the interface at another end of the hub, and the
-- next hop of that, or its destination where it has none, is this address or 31
pub record IsOfAnother (r : PlainRecord) (l : PlainLink) (at addr : ℕ) (t : Trace) : Type 0 where
  pub place : ℕ
  pub apart : place ≢ at
  pub end : End
  pub there : slice_get l.ends place ≡ Some end
  pub serial : ℕ
  pub named : t.origin ≡ Some (origin_at end serial)
  pub sent : Content
  pub shown : transmission r (origin_at end serial) ≡ Some sent
  pub next : ℕ
  pub goes : addressee r (origin_at end serial) ≡ Some next
  pub here : IsFor addr next

-- of the packets that were accepted at an end as many as the plan makes copies of the first frame of this transmission, from the hub's end in this place, name
-- it, or fewer
pub record IsCopied (r : PlainRecord) (number : ℕ) (l : PlainLink) (place : ℕ) (o : Origin) (end : End) : Type 0 where
  pub copies : ℕ
  pub makes : MakesOfFirst l.plan (entries_of r (who.Link number)) place o copies
  pub alone : (n : ℕ) → MakesOfFirst l.plan (entries_of r (who.Link number)) place o n → n ≡ copies
  pub most : count_by (λ b. names o b.trace) (accepted r end) ≤ copies

-- what the interface at an end of a hub accepts, at a node with this address
pub record IsDelivery (r : PlainRecord) (number : ℕ) (l : PlainLink) (at : ℕ) (end : End) (addr : ℕ) : Type 0 where
  pub of_another : AllByRecursion (λ b. IsOfAnother r l at addr b.trace) (accepted r end)
  pub copied : (place serial : ℕ) (from : End) → slice_get l.ends place ≡ Some from → IsCopied r number l place (origin_at from serial) end
  pub as_sent : IsOrdinaryOn r number l → AllByRecursion (λ b. IsAsSent r b.header b.payload b.trace) (accepted r end)

-- at each end of each hub of a scene only packets of the other ends are accepted that go to its node or to every node, each at most as often as the plan makes
-- copies of its first frame, and as they were sent where the run was ordinary on that hub
abbrev pub DeliverOnHubs : PlainScene → PlainRecord → Type 0
DeliverOnHubs scene r =
    (number : ℕ) (l : PlainLink) (at : ℕ) (end : End) (node : PlainNode) (addr : ℕ) → slice_get scene.links number ≡ Some l → l.hub ≡ true → slice_get l.ends at ≡ Some end
    → slice_get scene.nodes end.node ≡ Some node → node.addr ≡ Some addr → IsDelivery r number l at end addr

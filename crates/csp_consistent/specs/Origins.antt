-- Consistent, part 6: each packet that an interface pushed to an inbox was sent by the interface at the other end of its link, on a hub at another.
use Rattle.std.specs.Prelude.{◌≡◌, ◌≢◌, ℕ, ◌+◌, Some, slice_get}
use Rattle.std.specs.List.{AllByRecursion}
use Rattle.csp_base.specs.declared.traces.Origin.{Origin}
use Rattle.csp_buffer.specs.Content.{Content}
use Rattle.csp_log.specs.declared.places.End.{End}
use Rattle.csp_log.specs.declared.places.QueueId.TheVariants as queue
use Rattle.csp_log.specs.declared.shown.ItemShown.{ItemShown}
use Rattle.csp_log.specs.declared.shown.ItemShown.TheVariants as item
use Rattle.csp_record.specs.Record.{PlainRecord}
use Rattle.csp_record.specs.Transmissions.{transmission}
use Rattle.csp_log.specs.declared.who.Who.TheVariants as who
use Rattle.csp_scene.specs.Scene.{PlainScene, PlainLink}
use Rattle.csp_consistent.specs.Reading.{entries_of, puts}

-- two ends are different ones of one link or hub
pub record AreJoined (scene : PlainScene) (a b : End) : Type 0 where
  pub number : ℕ
  pub link : PlainLink
  pub there : slice_get scene.links number ≡ Some link
  pub one : ℕ
  pub other : ℕ
  pub at_one : slice_get link.ends one ≡ Some a
  pub at_other : slice_get link.ends other ≡ Some b
  pub apart : one ≢ other

-- a packet that came in at an end: its origin names a transmission that the record shows, of an interface at another end of the link; it has
-- the tag of what was sent, and one hop more
pub record IsSentFromBeyond (scene : PlainScene) (r : PlainRecord) (end : End) (b : Content) : Type 0 where
  pub origin : Origin
  pub named : b.trace.origin ≡ Some origin
  pub beyond : AreJoined scene end (record { node = origin.node; iface = origin.iface })
  pub sent : Content
  pub shown : transmission r origin ≡ Some sent
  pub tag : b.trace.tag ≡ sent.trace.tag
  pub hops : b.trace.hops ≡ sent.trace.hops + 1

-- what an interface put into an inbox is a packet that was sent by another end of its link
abbrev pub IsSent : PlainScene → PlainRecord → End → ItemShown → Type 0
IsSent scene r end (item.Packet mark b) = IsSentFromBeyond scene r end b
IsSent scene r end (item.Frame _) = ⊥
IsSent scene r end (item.Note _) = ⊥

-- all that the interfaces put into inboxes was sent at other ends of their links
abbrev pub HaveOrigins : PlainScene → PlainRecord → Type 0
HaveOrigins scene r = (end : End) → AllByRecursion (IsSent scene r end) (puts queue.Inbox (entries_of r (who.Iface end.node end.iface)))

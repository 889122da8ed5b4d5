-- What has to hold of a record that its report can tell the prefixes of its connections.
use Rattle.std.specs.Prelude.{ℕ, ◌<◌, ◌^◌, ⊤, IfSome, List, length}
use Rattle.std.specs.List.{AllByRecursion}
use Rattle.csp_prefix.specs.Prefix.{IsOpened}
use Rattle.csp_base.specs.declared.limits.TheConstants.{SLOTS}
use Rattle.csp_log.specs.PlainLog.{all_events}
use Rattle.csp_log.specs.declared.event.Event.{Event}
use Rattle.csp_log.specs.declared.event.Event.TheVariants as event
use Rattle.csp_record.specs.Record.{PlainPartyLog, PlainRecord}
use Rattle.csp_record.specs.declared.connections.Opening.{Opening}
use Rattle.csp_scene.specs.Links.{node_at}
use Rattle.csp_scene.specs.Scene.{PlainScene, PlainNode}

-- a connection that became open is of an application that its node has, on one of the slots
pub record IsReadable (nodes : List PlainNode) (node number : ℕ) (x : Opening) : Type 0 where
  pub app : number < length (node_at nodes node).apps
  pub slot : x.slot < SLOTS

-- each connection that a record opened is on a slot of an application that its node has
abbrev pub AreReadable : PlainScene → PlainRecord → Type 0
AreReadable scene r = (node app : ℕ) (x : Opening) → IsOpened r node app x → IsReadable scene.nodes node app x

-- where an event tells that a connection is open, its number and that of its peer are of 32 bits
abbrev pub OpensNumbered : Event → Type 0
OpensNumbered (event.Opened app slot nth peer) = IfSome nth (λ number. number < 2 ^ 32) × IfSome peer (λ flow. flow.1 < 2 ^ 32)
OpensNumbered _ = ⊤

-- each event of a party that tells an opening has numbers of 32 bits
abbrev pub TellsNumbered : PlainPartyLog → Type 0
TellsNumbered party = AllByRecursion OpensNumbered (all_events party.entries)

-- What a scene's applications leave undone: they forge no packet of the reliable transport, and ask for no reliable connection with all
-- nodes at once. And what they then put into their lanes.
use Rattle.std.specs.Prelude.{◌≡◌, ◌≢◌, ◌<◌, true, false, ⊤, IfSome}
use Rattle.std.specs.List.{AllByRecursion}
use Rattle.csp_app.specs.PlainStep.{PlainStep}
use Rattle.csp_app.specs.PlainStep as step
use Rattle.csp_header.specs.Word.{header_at}
use Rattle.csp_log.specs.declared.note.Note.{Note}
use Rattle.csp_log.specs.declared.note.Note.TheVariants as note
use Rattle.csp_log.specs.declared.places.QueueId.TheVariants as queue
use Rattle.csp_log.specs.declared.places.TheConstants.{UNMARKED}
use Rattle.csp_log.specs.declared.shown.AnswerShown.{AnswerShown}
use Rattle.csp_log.specs.declared.shown.AnswerShown.TheVariants as answer
use Rattle.csp_log.specs.declared.shown.ItemShown.{ItemShown}
use Rattle.csp_log.specs.declared.shown.ItemShown.TheVariants as item
use Rattle.csp_log.specs.declared.shown.OpShown.{OpShown}
use Rattle.csp_log.specs.declared.shown.OpShown.TheVariants as op
use Rattle.csp_ports.specs.Asking.{is_reliable}
use Rattle.csp_scene.specs.Scene.{PlainNode, PlainScene}
use Rattle.csp_stack.specs.Readings.{broadcast}

-- a step forges no packet of the reliable transport: a packet that it sends with a header of its own lacks the transport's flag
abbrev pub IsUnforged : PlainStep → Type 0
IsUnforged (step.Raw header bytes) = is_reliable (header_at header).flags.0 ≡ false
IsUnforged _ = ⊤

-- a step asks for no reliable connection with the broadcast address
abbrev pub IsToOne : PlainStep → Type 0
IsToOne (step.Connect slot dest port prio flags from) = is_reliable flags ≡ true → dest ≢ broadcast
IsToOne _ = ⊤

-- this holds of each step of each application of a node
abbrev pub HasSteps : (PlainStep → Type 0) → PlainNode → Type 0
HasSteps P node = AllByRecursion (λ app. AllByRecursion P app.steps) node.apps

-- no step of a scene forges a packet of the reliable transport
abbrev pub HasNoForgeries : PlainScene → Type 0
HasNoForgeries scene = AllByRecursion (HasSteps IsUnforged) scene.nodes

-- no step of a scene asks for a reliable connection with the broadcast address
abbrev pub HasNoBroadcasts : PlainScene → Type 0
HasNoBroadcasts scene = AllByRecursion (HasSteps IsToOne) scene.nodes

-- a request for a connection: with numbers of as many bits as a header has for them, and with one node where it is to be reliable
abbrev pub AsksWell : Note → Type 0
AsksWell (note.Connect slot dest port prio flags from) = (dest < 32) × (port < 64) × (flags < 256) × (is_reliable flags ≡ true → dest ≢ broadcast) × IfSome from (λ own. own < 64)
AsksWell _ = ⊤

-- what such an application put into its `Up`: a packet that goes out with the header that it has is none of the reliable transport
abbrev pub ComesWell : ItemShown → Type 0
ComesWell (item.Packet mark b) = mark ≡ UNMARKED → is_reliable (header_at b.header).flags.0 ≡ false
ComesWell (item.Frame _) = ⊤
ComesWell (item.Note n) = AsksWell n

-- what a router popped from an `Up` is such
abbrev pub GetsWell : OpShown → AnswerShown → Type 0
GetsWell (op.Pop (queue.Up k)) (answer.Popped i) = ComesWell i
GetsWell _ _ = ⊤

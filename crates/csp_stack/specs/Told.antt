-- what a turn comes to, once its answer is known
use Rattle.std.specs.Prelude.{List, [], ◌∷◌, ◌++◌, Some}
use Rattle.csp_buffer.specs.Content.{Content}
use Rattle.csp_log.specs.declared.event.Discard.{Discard}
use Rattle.csp_log.specs.declared.event.Event.{Event}
use Rattle.csp_log.specs.declared.event.Event.TheVariants as event
use Rattle.csp_ports.specs.Came.{Came}
use Rattle.csp_ports.specs.PlainPorts.{PlainPorts}
use Rattle.csp_stack.specs.Router.{Leaving, State}

-- the state after it, and what it reports
pub record Told : Type 0 where
  pub state : State
  pub events : List Event

-- nothing comes of an answer: the state as it was, and no report
abbrev pub unchanged : State → Told
unchanged s = record { state = s; events = [] }

-- of a packet nothing comes but this report: its buffer joins the trash
abbrev pub spent : State → Event → Content → Told
spent s e b = record { state = record s { trash = s.trash ++ b ∷ [] }; events = e ∷ [] }

-- a packet is discarded for this reason
abbrev pub discarded : State → Discard → Content → Told
discarded s why b = spent s (event.Discarded why) b

-- a packet is to go out
abbrev pub leaving : State → Leaving → Told
leaving s o = record { state = record s { out = Some o }; events = [] }

-- the ports are changed so
abbrev pub with_ports : State → PlainPorts → State
with_ports s ports = record s { ports = ports }

-- what comes of a step of the ports: what they let go joins the trash
abbrev pub ported : State → Came → Told
ported s c = record { state = record s { ports = c.ports; trash = s.trash ++ c.loose }; events = c.events }

-- and so does a packet besides
abbrev pub absorbed : Content → Told → Told
absorbed b t = record t { state = record t.state { trash = t.state.trash ++ b ∷ [] } }

-- this is reported before the rest
abbrev pub reporting : Event → Told → Told
reporting e t = record t { events = e ∷ t.events }

-- and so are these
abbrev pub after_all : List Event → Told → Told
after_all es t = record t { events = es ++ t.events }

-- a buffer is the first of the trash again
abbrev pub kept : State → Content → Told
kept s b = record { state = record s { trash = b ∷ s.trash }; events = [] }

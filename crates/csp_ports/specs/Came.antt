-- what comes of a step of a node's ports
use Rattle.std.specs.Prelude.{◌≡◌, List, [], ◌∷◌, ◌++◌, map}
use Rattle.csp_buffer.specs.Content.{Content}
use Rattle.csp_buffer.specs.PlainBuffer.{PlainBuffer}
use Rattle.csp_deck.specs.Keeping.{PlainPile, with_contents}
use Rattle.csp_log.specs.declared.event.Discard.{Discard}
use Rattle.csp_log.specs.declared.event.Event.{Event}
use Rattle.csp_log.specs.declared.event.Event.TheVariants as event
use Rattle.csp_ports.specs.PlainPorts.{PlainPorts, PortsAt, with_ports_at}

-- the ports after it, the buffers that are not needed any more, which join the trash in this order, and what is reported
pub record Came : Type 0 where
  pub ports : PlainPorts
  pub loose : List Content
  pub events : List Event

-- a step that leaves these ports, and of which nothing else comes
abbrev pub come : PlainPorts → Came
come p = record { ports = p; loose = []; events = [] }

-- first the one, then the other
abbrev pub then : Came → (PlainPorts → Came) → Came
then c next = let d = next c.ports in record { ports = d.ports; loose = c.loose ++ d.loose; events = c.events ++ d.events }

-- this is reported before the rest
abbrev pub reporting : Event → Came → Came
reporting e c = record c { events = e ∷ c.events }

-- a packet is discarded for this reason
abbrev pub discarding : Discard → Content → PlainPorts → Came
discarding why b p = record { ports = p; loose = b ∷ []; events = event.Discarded why ∷ [] }

-- the pictures of buffers
abbrev pub pictures : List PlainBuffer → List Content
pictures bs = map (λ b. b.picture) bs

-- what the code of a step works on: the ports, the trash, and the report
pub record AtWork : Type 0 where
  pub ports : PortsAt
  pub trash : PlainPile
  pub report : List Event

-- these ports with this trash and this report
abbrev pub at_work : PortsAt → PlainPile → List Event → AtWork
at_work p trash report = record { ports = p; trash = trash; report = report }

-- the code comes to it: its ports are these, the trash has the buffers besides those before, and the report the events
pub record Comes (old new : AtWork) (c : Came) : Type 0 where
  pub ports : new.ports ≡ with_ports_at old.ports c.ports
  pub trash : new.trash ≡ with_contents old.trash (old.trash.contents ++ c.loose)
  pub events : new.report ≡ old.report ++ c.events

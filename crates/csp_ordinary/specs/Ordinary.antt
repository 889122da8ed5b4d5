-- When the run of a record was ordinary: no link or hub damaged a frame in a way that could pass unnoticed, no bus wore out its numbers, and no two
-- interfaces of a hub sent packets of one source.
use Rattle.std.specs.Prelude.{◌≡◌, ℕ, ◌+◌, ◌≤◌, Bool, true, false, Some, List, slice_get, count_by}
use Rattle.std.specs.List.{AllByRecursion}
use Rattle.csp_buffer.specs.Content.{Content}
use Rattle.csp_header.specs.Word.{header_at}
use Rattle.csp_hub.specs.Applied.{frames_popped}
use Rattle.csp_iface.specs.declared.sender.TheConstants.{IDS}
use Rattle.csp_link.specs.Fates.{fate_of}
use Rattle.csp_link.specs.declared.fault.FaultKind.{FaultKind}
use Rattle.csp_link.specs.declared.fault.FaultKind.TheVariants as fault
use Rattle.csp_log.specs.PlainLog.{all_events}
use Rattle.csp_log.specs.declared.entry.Entry.{Entry}
use Rattle.csp_log.specs.declared.event.Event.{Event}
use Rattle.csp_log.specs.declared.event.Event.TheVariants as event
use Rattle.csp_log.specs.declared.frame.Frame.{Frame}
use Rattle.csp_log.specs.declared.places.End.{End}
use Rattle.csp_log.specs.declared.places.LinkKind.TheVariants as link
use Rattle.csp_record.specs.Record.{PlainRecord}
use Rattle.csp_record.specs.Transmissions.{transmission}
use Rattle.csp_log.specs.declared.who.Who.TheVariants as who
use Rattle.csp_scene.specs.Links.{links_at}
use Rattle.csp_scene.specs.Scene.{PlainScene, PlainLink}
use Rattle.csp_consistent.specs.Reading.{entries_of}
use Rattle.csp_ordinary.specs.Harmless.{IsHarmless}

-- of the frames from an end of a link or a hub the plan harms none: its flip of the frame that was popped in this place, counted from 1, is harmless
abbrev pub HarmsNoneOf : PlainLink → (end : ℕ) → List Entry → Type 0
HarmsNoneOf l end es = (k : ℕ) (f : Frame) → slice_get (frames_popped end es) k ≡ Some f → IsHarmless l.kind (fate_of end (k + 1) l.plan).flip f

-- no frame of a CAN bus or a hub was flipped, none of a KISS link whose CRC is of the payload alone, and on one whose CRC covers the header each
-- flip turned a plain byte into a plain byte
abbrev pub IsUndamaged : PlainScene → PlainRecord → Type 0
IsUndamaged scene r = (number : ℕ) (l : PlainLink) (end : ℕ) → slice_get scene.links number ≡ Some l → HarmsNoneOf l end (entries_of r (who.Link number))

-- a fault turns a bit over
abbrev pub is_flip : FaultKind → Bool
is_flip (fault.Flip bit) = true
is_flip _ = false

-- no line of a scenario flips a bit
abbrev pub HasNoFlips : PlainScene → Type 0
HasNoFlips scene = AllByRecursion (λ l. AllByRecursion (λ f. is_flip f.kind ≡ false) l.plan) scene.links

-- no line of a scenario states a hub
abbrev pub HasNoHubs : PlainScene → Type 0
HasNoHubs scene = AllByRecursion (λ l. l.hub ≡ false) scene.links

-- an event tells that a transmission began
abbrev pub is_transmission : Event → Bool
is_transmission (event.Transmitted serial) = true
is_transmission _ = false

-- how many transmissions began by these entries
abbrev pub transmissions : List Entry → ℕ
transmissions es = count_by is_transmission (all_events es)

-- each interface on a CAN bus made no more transmissions than there are numbers for them
abbrev pub HasNumbersForAll : PlainScene → PlainRecord → Type 0
HasNumbersForAll scene r = (node number : ℕ) (l : PlainLink) → slice_get (links_at node scene.links) number ≡ Some l → l.kind ≡ link.Can → transmissions (entries_of r (who.Iface node number)) ≤ IDS

-- the interface at an end transmitted a packet of this source
pub record SentFrom (r : PlainRecord) (end : End) (source : ℕ) : Type 0 where
  pub serial : ℕ
  pub packet : Content
  pub shown : transmission r (record { node = end.node; iface = end.iface; serial = serial }) ≡ Some packet
  pub source_is : (header_at packet.header).src ≡ source

-- no two interfaces of this hub transmitted packets of one source
abbrev pub AreApartOn : PlainRecord → PlainLink → Type 0
AreApartOn r l = (i j : ℕ) (a b : End) (source : ℕ) → slice_get l.ends i ≡ Some a → slice_get l.ends j ≡ Some b → SentFrom r a source → SentFrom r b source → i ≡ j

-- no two interfaces of one hub transmitted packets of one source
abbrev pub AreSourcesApart : PlainScene → PlainRecord → Type 0
AreSourcesApart scene r = AllByRecursion (λ l. l.hub ≡ true → AreApartOn r l) scene.links

-- a run was ordinary: no link or hub harmed a frame in a way that could pass unnoticed, no bus wore out its numbers, and on no hub two interfaces
-- transmitted packets of one source
pub record IsOrdinary (scene : PlainScene) (r : PlainRecord) : Type 0 where
  pub undamaged : IsUndamaged scene r
  pub numbers : HasNumbersForAll scene r
  pub sources : AreSourcesApart scene r

-- a run was ordinary on one link or hub, the one in this place: none of its frames was harmed, on a CAN bus or a hub no interface at an end made
-- more transmissions than there are numbers for them, and on a hub no two transmitted packets of one source
pub record IsOrdinaryOn (r : PlainRecord) (number : ℕ) (l : PlainLink) : Type 0 where
  pub undamaged : (end : ℕ) → HarmsNoneOf l end (entries_of r (who.Link number))
  pub numbers : l.kind ≡ link.Can → AllByRecursion (λ end. transmissions (entries_of r (who.Iface end.node end.iface)) ≤ IDS) l.ends
  pub sources : l.hub ≡ true → AreApartOn r l

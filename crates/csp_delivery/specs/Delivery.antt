-- What names a transmission, which of its frames comes first, and how often the plan of a hub copies that.
use Rattle.std.specs.Prelude.{◌≡◌, ◌≢◌, ℕ, ◌+◌, ◌==◌, ◌&&◌, ◌≤◌, Bool, true, false, Some, List, count_by, filter_map, length, slice_get, unwrap_or}
use Rattle.std.specs.List.{AllByRecursion}
use Rattle.std.specs.Option.{option_map_or}
use Rattle.csp_base.specs.declared.traces.Origin.{Origin}
use Rattle.csp_base.specs.declared.traces.Trace.{Trace}
use Rattle.csp_can.specs.Identifiers.{identifier_of}
use Rattle.csp_can.specs.declared.identifiers.Kind.{Kind}
use Rattle.csp_can.specs.declared.identifiers.Kind.TheVariants.{Begin, More}
use Rattle.csp_consistent.specs.Reading.{entries_of, gets}
use Rattle.csp_hub.specs.Applied as hub
use Rattle.csp_link.specs.Copies.{copies_of}
use Rattle.csp_link.specs.Fates.{fate_of}
use Rattle.csp_link.specs.Turns.{frame_in}
use Rattle.csp_link.specs.declared.fates.Fate.{Fate}
use Rattle.csp_link.specs.declared.fault.Fault.{Fault}
use Rattle.csp_log.specs.declared.entry.Entry.{Entry}
use Rattle.csp_log.specs.declared.frame.Frame.{Frame}
use Rattle.csp_log.specs.declared.places.End.{End}
use Rattle.csp_log.specs.declared.places.QueueId.TheVariants as queue
use Rattle.csp_log.specs.declared.shown.ItemShown.{ItemShown}
use Rattle.csp_record.specs.Record.{PlainRecord}
use Rattle.csp_log.specs.declared.who.Who.TheVariants as who
use Rattle.csp_scene.specs.Scene.{PlainLink, PlainScene}

-- whether two origins are one transmission
abbrev pub same_origin : Origin → Origin → Bool
same_origin a b = a.node == b.node && a.iface == b.iface && a.serial == b.serial

-- whether a trace names this transmission
abbrev pub names : Origin → Trace → Bool
names o t = option_map_or (same_origin o) t.origin false

-- whether a frame of this kind opens a packet
abbrev pub is_begin : Kind → Bool
is_begin Begin = true
is_begin More = false

-- whether a frame is the first of this transmission: a BEGIN frame with its trace
abbrev pub is_first_of : Origin → Frame → Bool
is_first_of o f = names o f.trace && is_begin (identifier_of (unwrap_or f.can 0)).kind

-- how many of these frames are the first of this transmission
abbrev pub firsts : Origin → List Frame → ℕ
firsts o fs = count_by (is_first_of o) fs

-- the frames among items
abbrev pub frames_among : List ItemShown → List Frame
frames_among is = filter_map frame_in is

-- the transmission of this serial by the interface at an end
abbrev pub origin_at : End → ℕ → Origin
origin_at end serial = record { node = end.node; iface = end.iface; serial = serial }

-- the frames that the interface at an end got
abbrev pub frames_got : PlainRecord → End → List Frame
frames_got r end = frames_among (gets (queue.Rx end.iface) (entries_of r (who.Iface end.node end.iface)))

-- how many copies are made of a frame that has this fate: of a lost one none
abbrev pub copies_made : Fate → Frame → ℕ
copies_made fate f = length (copies_of fate f)

-- the plan makes so many copies of the first frame of a transmission that comes from the end of a hub in this place
pub data MakesOfFirst (plan : List Fault) (es : List Entry) (place : ℕ) (o : Origin) (n : ℕ) : Type 0 where
  -- none, where the hub popped no such frame from that end
  never : n ≡ 0 → AllByRecursion (λ f. is_first_of o f ≡ false) (hub.frames_popped place es) → MakesOfFirst plan es place o n
  -- as many as the fate says that the plan has for that frame, by its number among those popped from that end, counted from 1
  once : (k : ℕ) (f : Frame) → slice_get (hub.frames_popped place es) k ≡ Some f → is_first_of o f ≡ true → n ≡ copies_made (fate_of place (k + 1) plan) f → MakesOfFirst plan es place o n

-- the plan makes one number of copies of the first frame of a transmission from this end of a hub, and to no end of it come more
pub record IsFirstCopied (r : PlainRecord) (number : ℕ) (l : PlainLink) (place : ℕ) (o : Origin) : Type 0 where
  pub many : ℕ
  pub makes : MakesOfFirst l.plan (entries_of r (who.Link number)) place o many
  pub alone : (n : ℕ) → MakesOfFirst l.plan (entries_of r (who.Link number)) place o n → n ≡ many
  pub few : (at : ℕ) (end : End) → slice_get l.ends at ≡ Some end → firsts o (frames_got r end) ≤ many

-- of each transmission from each end of each hub the plan makes one number of copies of the first frame, and to no end of that hub come more
abbrev pub AreFirstsCopied : PlainScene → PlainRecord → Type 0
AreFirstsCopied scene r =
    (number : ℕ) (l : PlainLink) (place : ℕ) (from : End) (serial : ℕ) → slice_get scene.links number ≡ Some l → l.hub ≡ true → slice_get l.ends place ≡ Some from
    → IsFirstCopied r number l place (origin_at from serial)

-- a transmission is of the interface of this number at this node
abbrev pub IsOf : Origin → (node number : ℕ) → Type 0
IsOf o node number = (o.node ≡ node) × (o.iface ≡ number)

-- a transmission is of none of these ends, but perhaps of the one in this place
abbrev pub IsOfNoOther : List End → (at : ℕ) → Origin → Type 0
IsOfNoOther ends at o = (k : ℕ) (other : End) → slice_get ends k ≡ Some other → k ≢ at → IsOf o other.node other.iface → ⊥

-- over a hub no first frame of a transmission comes to an end where it is of no other end of that hub
abbrev pub AreFirstsOfOthers : PlainScene → PlainRecord → Type 0
AreFirstsOfOthers scene r =
    (number : ℕ) (l : PlainLink) (at : ℕ) (end : End) (o : Origin) → slice_get scene.links number ≡ Some l → l.hub ≡ true → slice_get l.ends at ≡ Some end → IsOfNoOther l.ends at o → firsts o (frames_got r end) ≡ 0

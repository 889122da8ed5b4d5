-- what each queue carries: the condition of a push, and the promise of a pop
use Rattle.std.specs.Prelude.{◌≡◌, ◌≢◌, ◌/◌, ◌^◌, ◌<◌, ◌≤◌, List, [], ◌∷◌, length, Option, None, ⊤, IsSomeAnd}
use Rattle.csp_base.specs.Priority.{prio_of}
use Rattle.csp_base.specs.declared.priority.Prio.{Prio}
use Rattle.csp_base.specs.declared.priority.Prio.TheVariants.{Critical, High, Normal, Low}
use Rattle.csp_buffer.specs.Content.{Content}
use Rattle.csp_log.specs.declared.note.Note.{Note}
use Rattle.csp_log.specs.declared.note.Note.TheVariants as note
use Rattle.csp_log.specs.declared.places.Carries.TheVariants as lane
use Rattle.csp_log.specs.declared.places.Place.{Place}
use Rattle.csp_log.specs.declared.places.Place.TheVariants as place
use Rattle.csp_log.specs.declared.places.QueueId.{QueueId}
use Rattle.csp_log.specs.declared.places.QueueId.TheVariants as queue
use Rattle.csp_log.specs.declared.places.Rule.{Rule}
use Rattle.csp_log.specs.declared.places.Rule.TheVariants as rule
use Rattle.csp_base.specs.declared.limits.TheConstants.{SLOTS}
use Rattle.csp_log.specs.declared.places.TheConstants.{UNMARKED, IFACES, MAX_DATA}
use Rattle.csp_log.specs.declared.shown.ItemShown.{ItemShown}
use Rattle.csp_log.specs.declared.shown.ItemShown.TheVariants as item

-- the priority in a packet's header: its top two bits
abbrev pub priority_of : Content → Prio
priority_of b = prio_of (b.header / 2 ^ 30)

-- requests of an application, on its slots
abbrev pub IsRequest : Note → Type 0
IsRequest (note.Bind _ _) = ⊤
IsRequest (note.Connect slot _ _ _ _ _) = slot < SLOTS
IsRequest (note.Close slot) = slot < SLOTS
IsRequest note.Bound = ⊥
IsRequest (note.Connected _) = ⊥
IsRequest (note.Refused _) = ⊥
IsRequest (note.Closed _) = ⊥
IsRequest (note.Down _) = ⊥

-- answers and reports of a router, on the application's slots
abbrev pub IsReply : Note → Type 0
IsReply (note.Bind _ _) = ⊥
IsReply (note.Connect _ _ _ _ _ _) = ⊥
IsReply (note.Close _) = ⊥
IsReply note.Bound = ⊤
IsReply (note.Connected slot) = slot < SLOTS
IsReply (note.Refused _) = ⊤
IsReply (note.Closed slot) = slot < SLOTS
IsReply (note.Down slot) = slot < SLOTS

-- the inbox: packets marked with the number of an interface, or with none
abbrev pub IsInboxItem : ItemShown → Type 0
IsInboxItem (item.Packet mark _) = mark ≢ UNMARKED → mark < IFACES
IsInboxItem (item.Frame _) = ⊥
IsInboxItem (item.Note _) = ⊥

-- one of its four queues: such packets of this priority
abbrev pub IsOfPriority : Prio → ItemShown → Type 0
IsOfPriority p (item.Packet mark b) = (mark ≢ UNMARKED → mark < IFACES) × (priority_of b ≡ p)
IsOfPriority p (item.Frame _) = ⊥
IsOfPriority p (item.Note _) = ⊥

-- from an application: packets without a mark, packets for a slot with 1 to MAX_DATA bytes, and requests
abbrev pub IsUpItem : ItemShown → Type 0
IsUpItem (item.Packet mark b) = mark ≢ UNMARKED → (mark < SLOTS) × (1 ≤ length b.payload) × (length b.payload ≤ MAX_DATA)
IsUpItem (item.Frame _) = ⊥
IsUpItem (item.Note n) = IsRequest n

-- to an application: packets of a slot, and replies
abbrev pub IsDownItem : ItemShown → Type 0
IsDownItem (item.Packet mark _) = mark < SLOTS
IsDownItem (item.Frame _) = ⊥
IsDownItem (item.Note n) = IsReply n

-- to an interface: packets marked with the address of the next hop, or with none
abbrev pub IsOutItem : ItemShown → Type 0
IsOutItem (item.Packet mark _) = mark ≢ UNMARKED → mark < 32
IsOutItem (item.Frame _) = ⊥
IsOutItem (item.Note _) = ⊥

-- a KISS link: frames without an identifier
abbrev pub IsKissItem : ItemShown → Type 0
IsKissItem (item.Packet _ _) = ⊥
IsKissItem (item.Frame f) = f.can ≡ None
IsKissItem (item.Note _) = ⊥

-- a CAN link: frames of at most 8 bytes with an identifier of 29 bits
abbrev pub IsCanItem : ItemShown → Type 0
IsCanItem (item.Packet _ _) = ⊥
IsCanItem (item.Frame f) = IsSomeAnd f.can (λ id. id < 2 ^ 29) × (length f.bytes.items ≤ 8)
IsCanItem (item.Note _) = ⊥

-- a queue under this rule carries this item
abbrev pub IsCarried : Rule → ItemShown → Type 0
IsCarried rule.Inbox i = IsInboxItem i
IsCarried (rule.Priority p) i = IsOfPriority p i
IsCarried (rule.Lane lane.Up) i = IsUpItem i
IsCarried (rule.Lane lane.Down) i = IsDownItem i
IsCarried (rule.Lane lane.Out) i = IsOutItem i
IsCarried (rule.Lane lane.Kiss) i = IsKissItem i
IsCarried (rule.Lane lane.Can) i = IsCanItem i

-- there is a queue, and it carries this item
abbrev pub IsCarriedIn : Option Rule → ItemShown → Type 0
IsCarriedIn r i = IsSomeAnd r (λ rule. IsCarried rule i)

-- where a push of this item goes: in the inbox, to the queue of its header's priority
abbrev pub place_for : QueueId → ItemShown → Place
place_for queue.Inbox (item.Packet _ b) = place.Inbox (priority_of b)
place_for l _ = place.Lane l

-- where a pop looks, in order: in the inbox, at the queues of all priorities, the most urgent first
abbrev pub places_of : QueueId → List Place
places_of queue.Inbox = place.Inbox Critical ∷ place.Inbox High ∷ place.Inbox Normal ∷ place.Inbox Low ∷ []
places_of l = place.Lane l ∷ []

-- the queues of the inbox that come before that of this priority
abbrev pub places_before : Prio → List Place
places_before Critical = []
places_before High = place.Inbox Critical ∷ []
places_before Normal = place.Inbox Critical ∷ place.Inbox High ∷ []
places_before Low = place.Inbox Critical ∷ place.Inbox High ∷ place.Inbox Normal ∷ []

-- the places that a pop which gave this item passed over: in the inbox, the queues of more urgent priorities
abbrev pub passed_over : QueueId → ItemShown → List Place
passed_over queue.Inbox (item.Packet _ b) = places_before (priority_of b)
passed_over _ _ = []

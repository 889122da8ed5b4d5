-- Whose lists serve a party: those of its own node, and for a link those of the nodes at its ends.
use Rattle.std.specs.Prelude.{ℕ, ◌==◌, Bool, false, Option, None, Some, List, [], slice_get, slice_set}
use Rattle.std.specs.Option.{option_map, option_and_then}
use Rattle.csp_lists.specs.PlainDeck.{PlainDeck, answer_of, rule_of, IsEmptyAt, IsFullAt}
use Rattle.csp_log.specs.declared.places.Carries.TheVariants as lane
use Rattle.csp_log.specs.declared.places.End.{End}
use Rattle.csp_log.specs.declared.places.Place.{Place}
use Rattle.csp_log.specs.declared.places.Place.TheVariants as place
use Rattle.csp_log.specs.declared.places.QueueId.{QueueId}
use Rattle.csp_log.specs.declared.places.QueueId.TheVariants as queue
use Rattle.csp_log.specs.declared.places.Rule.{Rule}
use Rattle.csp_log.specs.declared.places.Rule.TheVariants as rule
use Rattle.csp_log.specs.declared.shown.AnswerShown.{AnswerShown}
use Rattle.csp_log.specs.declared.shown.OpShown.{OpShown}
use Rattle.csp_log.specs.declared.shown.OpShown.TheVariants as op
use Rattle.csp_log.specs.Who.{node_of}
use Rattle.csp_log.specs.declared.who.Who.{Who}
use Rattle.csp_log.specs.declared.who.Who.TheVariants as who

-- the lane of a link at one of its ends: the node there, and the name of the lane at that node
abbrev pub at_end : List End → QueueId → Option (ℕ × QueueId)
at_end ends (queue.Tx k) = option_map (λ e. (e.node, queue.Tx e.iface)) (slice_get ends k)
at_end ends (queue.Rx k) = option_map (λ e. (e.node, queue.Rx e.iface)) (slice_get ends k)
at_end ends queue.Inbox = None
at_end ends (queue.Up _) = None
at_end ends (queue.Down _) = None
at_end ends (queue.Out _) = None

-- where a queue of a party is, with the ends of all links: at which node, and its name there. A link's lanes are at
-- its ends, any other party's queues at its own node
abbrev pub goes : List (List End) → Who → QueueId → Option (ℕ × QueueId)
goes links (who.Link link) q = option_and_then (λ ends. at_end ends q) (slice_get links link)
goes links (who.Router node) q = Some (node, q)
goes links (who.Bridge node) q = Some (node, q)
goes links (who.Iface node _) q = Some (node, q)
goes links (who.App node _) q = Some (node, q)

-- an operation with the name of its queue at the node where that is
abbrev pub at_queue : (QueueId → OpShown) → ℕ × QueueId → ℕ × OpShown
at_queue asked there = (there.0, asked there.1)

-- the node whose lists serve an operation, and the operation there; of the pool the party's own node, and a link has none
abbrev pub served : List (List End) → Who → OpShown → Option (ℕ × OpShown)
served links w op.Nothing = option_map (λ node. (node, op.Nothing)) (node_of w)
served links w op.Take = option_map (λ node. (node, op.Take)) (node_of w)
served links w (op.Give b) = option_map (λ node. (node, op.Give b)) (node_of w)
served links w (op.Push q i) = option_map (at_queue (λ there. op.Push there i)) (goes links w q)
served links w (op.Pop q) = option_map (at_queue op.Pop) (goes links w q)

-- the lists of who has none: a pool without room, and no queue
abbrev pub no_lists : PlainDeck
no_lists = record { pool = record { room = 0; items = [] }; shape = record { ifaces = 0; apps = 0 }; queues = [] }

-- what an operation is answered over the lists of a node, and the lists of all nodes after it
abbrev pub answer_at : List PlainDeck → OpShown → ℕ × OpShown → Option PlainDeck → AnswerShown × List PlainDeck
answer_at decks o there None = ((answer_of no_lists o).0, decks)
answer_at decks o there (Some d) = ((answer_of d there.1).0, slice_set decks there.0 (answer_of d there.1).1)

-- what the lists answer where an operation goes, if it goes anywhere, and all lists afterwards
abbrev pub answer_there : List PlainDeck → OpShown → Option (ℕ × OpShown) → AnswerShown × List PlainDeck
answer_there decks o None = ((answer_of no_lists o).0, decks)
answer_there decks o (Some there) = answer_at decks o there (slice_get decks there.0)

-- what a party's operation is answered over the lists of all nodes, and those lists after it
abbrev pub answer_in : List PlainDeck → List (List End) → Who → OpShown → AnswerShown × List PlainDeck
answer_in decks links w o = answer_there decks o (served links w o)

-- whether the lists of this node serve it
abbrev pub is_there : ℕ → Option (ℕ × OpShown) → Bool
is_there node None = false
is_there node (Some there) = there.0 == node

-- an operation of a party goes to the lists of this node
abbrev pub is_served_at : List (List End) → Who → OpShown → ℕ → Bool
is_served_at links w o node = is_there node (served links w o)

-- a link sees lanes of frames alone
abbrev pub of_frames : Rule → Option Rule
of_frames (rule.Lane lane.Kiss) = Some (rule.Lane lane.Kiss)
of_frames (rule.Lane lane.Can) = Some (rule.Lane lane.Can)
of_frames (rule.Lane lane.Up) = None
of_frames (rule.Lane lane.Down) = None
of_frames (rule.Lane lane.Out) = None
of_frames rule.Inbox = None
of_frames (rule.Priority _) = None

-- what a queue carries as a party sees it: a link sees frames alone
abbrev pub seen_by : Who → Option Rule → Option Rule
seen_by (who.Link _) r = option_and_then of_frames r
seen_by (who.Router _) r = r
seen_by (who.Bridge _) r = r
seen_by (who.Iface _ _) r = r
seen_by (who.App _ _) r = r

-- what a queue of a party carries
abbrev pub rule_there : List PlainDeck → Option (ℕ × QueueId) → Option Rule
rule_there decks None = None
rule_there decks (Some there) = option_and_then (λ d. rule_of d there.1) (slice_get decks there.0)

-- what a queue of a party carries, if there is such a queue
abbrev pub rule_in : List PlainDeck → List (List End) → Who → QueueId → Option Rule
rule_in decks links w q = seen_by w (rule_there decks (goes links w q))

-- where a place of a party's lists is
abbrev pub place_in : List (List End) → Who → Place → Option (ℕ × Place)
place_in links w (place.Lane q) = option_map (λ there. (there.0, place.Lane there.1)) (goes links w q)
place_in links w place.Pool = option_map (λ node. (node, place.Pool)) (node_of w)
place_in links w (place.Inbox p) = option_map (λ node. (node, place.Inbox p)) (node_of w)
place_in links w place.Router = None
place_in links w (place.Iface _) = None
place_in links w (place.App _) = None

-- those lists, or the lists of who has none
abbrev pub or_none : Option PlainDeck → PlainDeck
or_none None = no_lists
or_none (Some d) = d

-- something is true of the lists and the place that a party's place is
abbrev pub IsThere : (PlainDeck → Place → Type 0) → List PlainDeck → Place → Option (ℕ × Place) → Type 0
IsThere Is decks p None = Is no_lists p
IsThere Is decks p (Some there) = Is (or_none (slice_get decks there.0)) there.1

-- it has nothing there, and no room
abbrev pub IsEmptyIn : List PlainDeck → List (List End) → Who → Place → Type 0
IsEmptyIn decks links w p = IsThere IsEmptyAt decks p (place_in links w p)

-- a place that a party names has no room
abbrev pub IsFullIn : List PlainDeck → List (List End) → Who → Place → Type 0
IsFullIn decks links w p = IsThere IsFullAt decks p (place_in links w p)

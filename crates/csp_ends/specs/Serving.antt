-- How a deck over what a party has in hand serves one operation, and what it says of an empty place and of a full one.
use Rattle.std.specs.Prelude.{◌≡◌, ◌⊎◌, ⊤, ℕ, Option, Some, List, IfSome}
use Rattle.std.specs.List.{AllByRecursion}
use Rattle.csp_base.specs.declared.priority.Prio.{Prio}
use Rattle.csp_ends.specs.Causes.{CauseOf, HasGotAllAt, HasNothingAt, HasNoRoomAt}
use Rattle.csp_ends.specs.Ends.{PlainNodeQueues, PlainHome, PlainEnds, inbox_of}
use Rattle.csp_ends.specs.Moves.{ends_after, room_for}
use Rattle.csp_inbox.specs.Passes as inbox
use Rattle.csp_log.specs.declared.places.Place.{Place}
use Rattle.csp_log.specs.declared.places.Place.TheVariants as place
use Rattle.csp_log.specs.declared.shown.AnswerShown.{AnswerShown}
use Rattle.csp_log.specs.declared.shown.OpShown.{OpShown}
use Rattle.csp_pool.specs.Hands as hands

-- an operation of a party with these ends, over the queues of these nodes, was answered so, for its cause, and left the party with those
pub record Serves (nodes : List PlainNodeQueues) (d : PlainEnds) (o : OpShown) (a : AnswerShown) (e : PlainEnds) : Type 0 where
  pub ends : e ≡ ends_after (room_for nodes d.home) o a d
  pub cause : CauseOf d o a

-- a look into the pool by which these passes of a node became those found it empty
abbrev pub FoundPoolEmpty : Option PlainHome → Option PlainHome → Type 0
FoundPoolEmpty (Some h) (Some k) = k.pool.hand ≡ hands.found_empty h.pool.hand
FoundPoolEmpty _ _ = ⊤

-- or full, where the pool has room for so many
abbrev pub FoundPoolFull : ℕ → Option PlainHome → Option PlainHome → Type 0
FoundPoolFull room (Some h) (Some k) = k.pool.hand ≡ hands.found_full room h.pool.hand
FoundPoolFull room _ _ = ⊤

-- a push by which this pass became that found the queue of a priority full, or it was not looked at
abbrev pub FoundInboxFull : Prio → Option inbox.PlainPass → Option inbox.PlainPass → Type 0
FoundInboxFull p (Some x) (Some y) = (y ≡ x) ⊎ (inbox.mail_at y p ≡ inbox.found_full x.role.room (inbox.mail_at x p))
FoundInboxFull p _ _ = ⊤

-- at a moment of the operation that led from the first ends to the second, this place was empty, by what the party knew
abbrev pub WasEmpty : PlainEnds → PlainEnds → Place → Type 0
WasEmpty d e place.Pool = FoundPoolEmpty d.home e.home
WasEmpty d e (place.Inbox p) = IfSome (inbox_of d.home) (HasGotAllAt p)
WasEmpty d e (place.Lane q) = AllByRecursion (HasNothingAt q) d.sides
WasEmpty d e _ = ⊤

-- at such a moment this place was full
abbrev pub WasFull : List PlainNodeQueues → PlainEnds → PlainEnds → Place → Type 0
WasFull nodes d e place.Pool = FoundPoolFull (room_for nodes d.home) d.home e.home
WasFull nodes d e (place.Inbox p) = FoundInboxFull p (inbox_of d.home) (inbox_of e.home)
WasFull nodes d e (place.Lane q) = AllByRecursion (HasNoRoomAt q) d.sides
WasFull nodes d e _ = ⊤

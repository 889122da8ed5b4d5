-- What the turns of a party do to what it has in hand.
use Rattle.std.specs.Prelude.{ℕ, ◌+◌, ◌==◌, Bool, true, false, Option, None, Some, List, [], ◌∷◌, ◌++◌, length, map, max, cond, nat_lt, slice_get}
use Rattle.std.specs.Option.{option_map}
use Rattle.csp_base.specs.declared.priority.Prio.{Prio}
use Rattle.csp_base.specs.declared.priority.Prio.TheVariants.{Critical, High, Normal, Low}
use Rattle.csp_consistent.specs.Reading.{put_by, got_by, with_priority}
use Rattle.csp_ends.specs.Ends.{PlainNodeQueues, PlainSide, PlainHome, PlainEnds}
use Rattle.csp_ends.specs.Sides.{beside}
use Rattle.csp_inbox.specs.Marks.{mark_of}
use Rattle.csp_inbox.specs.Passes as inbox
use Rattle.csp_inbox.specs.declared.hand.Mail.{Mail}
use Rattle.csp_inbox.specs.declared.hand.Role.{Role}
use Rattle.csp_lane.specs.Ends.{PlainEnd, end_with, with_item}
use Rattle.csp_lane.specs.Marks.{marks_in}
use Rattle.csp_log.specs.declared.entry.Entry.{Entry}
use Rattle.csp_log.specs.declared.places.QueueId.{QueueId}
use Rattle.csp_log.specs.declared.places.QueueId.TheVariants as queue
use Rattle.csp_log.specs.declared.shown.AnswerShown.{AnswerShown}
use Rattle.csp_log.specs.declared.shown.AnswerShown.TheVariants as answer
use Rattle.csp_log.specs.declared.shown.ItemShown.{ItemShown}
use Rattle.csp_log.specs.declared.shown.OpShown.{OpShown}
use Rattle.csp_log.specs.declared.shown.OpShown.TheVariants as op
use Rattle.csp_pool.specs.Hands as hands
use Rattle.csp_pool.specs.PlainPool as pool
use Rattle.csp_pool.specs.declared.hand.Hand.{Hand}

-- what a turn puts into the lane of a name, or gets from it
abbrev pub moved_by : Bool → QueueId → OpShown → AnswerShown → List ItemShown
moved_by true q o a = put_by q o a
moved_by false q o a = got_by q o a

-- the marks of these items, each of which tells of so many of another lane
abbrev pub marks_along : Option ℕ → ℕ → List ItemShown → List ℕ
marks_along about n [] = []
marks_along about n (i ∷ is) = marks_in about n ++ marks_along about n is

-- an end of a lane through which these items went besides, when so many had gone through the other lane of which its marks tell
abbrev pub with_items : PlainEnd → ℕ → List ItemShown → PlainEnd
with_items e n is = end_with e (e.items ++ is) (e.marks ++ marks_along e.about n is) e.known

-- an end with another in its place that is called so
abbrev pub side_with : PlainSide → PlainEnd → PlainSide
side_with s e = record { queue = s.queue; node = s.node; lane = s.lane; puts = s.puts; end = e }

-- an end after a turn of the party that has these
abbrev pub side_after : List PlainSide → OpShown → AnswerShown → PlainSide → PlainSide
side_after sides o a s = side_with s (with_items s.end (beside sides s) (moved_by s.puts s.queue o a))

-- an end through which this item went besides, when so many had gone through that other lane
abbrev pub side_through : PlainSide → ItemShown → ℕ → PlainSide
side_through s i n = side_with s (with_item s.end i n)

-- a party's passes of its own node, where that of the pool did and knows this
abbrev pub with_hand : PlainHome → Hand → PlainHome
with_hand h v = record { node = h.node; pool = record { pool = h.pool.pool; hand = v }; inbox = h.inbox }

-- and where that of the inbox is this
abbrev pub with_inbox : PlainHome → Option inbox.PlainPass → PlainHome
with_inbox h x = record { node = h.node; pool = h.pool; inbox = x }

-- the pass of a pool with room for so many after a turn: a take or a give, or a look that found it empty or full
abbrev pub hand_after : ℕ → OpShown → AnswerShown → Hand → Hand
hand_after room op.Take (answer.Taken b) v = hands.took v b.number
hand_after room op.Take answer.NoBuffer v = hands.found_empty v
hand_after room (op.Give b) answer.Given v = hands.gave v b.number
hand_after room (op.Give b) (answer.PoolFull _) v = hands.found_full room v
hand_after room _ _ v = v

-- the pass of a pool, which has this hand then
abbrev pub pass_after : ℕ → OpShown → AnswerShown → pool.PlainPass → pool.PlainPass
pass_after room o a p = record { pool = p.pool; hand = hand_after room o a p.hand }

-- a push of its own item that found the queue of a priority full
abbrev pub is_crammed : Role → Prio → OpShown → AnswerShown → Bool
is_crammed r p (op.Push queue.Inbox i) (answer.Full _) = cond (mark_of i == r.mark) (nat_lt 0 (length (with_priority p (i ∷ [])))) false
is_crammed r p _ _ = false

-- what a pass did and knows of one priority after a turn
abbrev pub mail_after : Role → Prio → OpShown → AnswerShown → Mail → Mail
mail_after r p o a v = inbox.mail (v.kept ++ with_priority p (put_by queue.Inbox o a)) (v.got ++ with_priority p (got_by queue.Inbox o a)) v.known v.known_got
    (cond (is_crammed r p o a) (max v.puts_floor (r.room + inbox.known_gets v)) v.puts_floor)

-- the pass of an inbox after a turn
abbrev pub post_after : OpShown → AnswerShown → inbox.PlainPass → inbox.PlainPass
post_after o a p = record {
  inbox = p.inbox;
  role = p.role;
  critical = mail_after p.role Critical o a p.critical;
  high = mail_after p.role High o a p.high;
  normal = mail_after p.role Normal o a p.normal;
  low = mail_after p.role Low o a p.low;
}

-- a party's passes of its own node after a turn
abbrev pub home_after : ℕ → OpShown → AnswerShown → PlainHome → PlainHome
home_after room o a h = record { node = h.node; pool = pass_after room o a h.pool; inbox = option_map (post_after o a) h.inbox }

-- all that a party has in hand after a turn, where the pool of its node has room for so many buffers
abbrev pub ends_after : ℕ → OpShown → AnswerShown → PlainEnds → PlainEnds
ends_after room o a e = record { home = option_map (home_after room o a) e.home; sides = map (side_after e.sides o a) e.sides }

-- and after the turns of these entries
abbrev pub ends_after_all : ℕ → PlainEnds → List Entry → PlainEnds
ends_after_all room e [] = e
ends_after_all room e (x ∷ xs) = ends_after_all room (ends_after room x.op x.answer e) xs

-- how many buffers the pool of a node has room for
abbrev pub room_among : Option PlainNodeQueues → ℕ
room_among None = 0
room_among (Some q) = q.pool.capacity

-- how many buffers the pool of a party's node has room for: a link has no node
abbrev pub room_for : List PlainNodeQueues → Option PlainHome → ℕ
room_for nodes None = 0
room_for nodes (Some h) = room_among (slice_get nodes h.node)

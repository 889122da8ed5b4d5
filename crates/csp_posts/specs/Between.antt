-- What holds of the posts of a threaded run between two rounds, and what a meeting lets them know.
use Rattle.std.specs.Prelude.{◌≡◌, ◌≢◌, ◌<◌, ◌≤◌, ◌+◌, ◌==◌, ⊤, ℕ, Bool, true, false, Option, None, Some, List, [], length, if◌then◌else◌, slice_get}
use Rattle.std.specs.List.{AllByRecursion, AllZip, sum_by}
use Rattle.csp_base.specs.declared.priority.Prio.{Prio}
use Rattle.csp_consistent.specs.Pools.{given, taken}
use Rattle.csp_consistent.specs.Prompt.{AllAfter, CrammedAt, IsLanePrompt, LackedAt, PassedNone}
use Rattle.csp_consistent.specs.Reading.{gets, puts, with_mark, with_priority}
use Rattle.csp_consistent.specs.Rounds.{early}
use Rattle.csp_ends.specs.Ends.{PlainSide, PlainHome, PlainNodeQueues}
use Rattle.csp_ends.specs.Moves.{room_among}
use Rattle.csp_ends.specs.Traced.{AreTraced}
use Rattle.csp_inbox.specs.Marks.{mark_of}
use Rattle.csp_inbox.specs.Marks as marks
use Rattle.csp_inbox.specs.Passes as inbox
use Rattle.csp_log.specs.declared.entry.Entry.{Entry}
use Rattle.csp_log.specs.declared.places.QueueId.TheVariants as queue
use Rattle.csp_log.specs.declared.shown.OpShown.{OpShown}
use Rattle.csp_log.specs.declared.shown.OpShown.TheVariants as op
use Rattle.csp_pool.specs.Tallies.{known_total}
use Rattle.csp_pool.specs.declared.hand.Hand.{Hand}
use Rattle.csp_posts.specs.Posts.{PlainPost}
use Rattle.csp_log.specs.declared.who.Who.{Who}

-- two ends of different parties are those of one lane, the one that puts and the one that gets
pub record AreJoined (posts : List PlainPost) (i j : ℕ) (s : PlainPost) (x : PlainSide) (t : PlainPost) (y : PlainSide) : Type 0 where
  pub first : slice_get posts i ≡ Some s
  pub second : slice_get posts j ≡ Some t
  pub apart : i ≢ j
  pub a : ℕ
  pub b : ℕ
  pub from : slice_get s.ends.sides a ≡ Some x
  pub to : slice_get t.ends.sides b ≡ Some y
  pub puts : x.puts ≡ true
  pub gets : y.puts ≡ false
  pub node : y.node ≡ x.node
  pub lane : y.lane ≡ x.lane

-- between rounds, of a lane from one end of one party to one of another: no look overlooked what earlier rounds had put, and no push was
-- refused for what earlier rounds had got
abbrev pub IsLaneBetween : PlainPost → PlainSide → PlainPost → PlainSide → Type 0
IsLaneBetween s x t y = IsLanePrompt x.end.room x.queue s.entries y.queue t.entries

-- each end knows at least all that went through the other
pub record HaveMetAt (x y : PlainSide) : Type 0 where
  pub puts : length x.end.items ≤ y.end.known
  pub gets : length y.end.items ≤ x.end.known

-- an operation that pushes pushes what has this mark
abbrev pub IsMarked : ℕ → OpShown → Type 0
IsMarked mark (op.Push q i) = mark_of i ≡ mark
IsMarked mark _ = ⊤

-- of a priority, the one party that gets from an inbox passed over nothing that another had put under this mark in earlier rounds
abbrev pub PassesMarked : Prio → ℕ → List Entry → List Entry → Type 0
PassesMarked p mark putter getter =
    AllAfter (λ before e. PassedNone p mark (length (with_mark mark (with_priority p (puts queue.Inbox (early e.time putter))))) before e.op e.answer) [] getter

-- between rounds, of an inbox that one party reads and another, or itself, writes: the one passed over nothing that earlier rounds had put
-- under the other's mark; the other was refused with its own mark only with a floor of the room and what earlier rounds had got
pub record IsInboxBetween (hub : PlainPost) (s : PlainPost) (y : inbox.PlainPass) (p : Prio) : Type 0 where
  pub passed : PassesMarked p y.role.mark s.entries hub.entries
  pub full : AllByRecursion (λ e. IsMarked y.role.mark e.op → CrammedAt p (y.role.room + length (with_priority p (gets queue.Inbox (early e.time hub.entries)))) (inbox.mail_at y p).puts_floor e.op e.answer)
      s.entries

-- two passes of the inbox of one node, the one that reads and the other, or the reader's own
pub record ShareInbox (posts : List PlainPost) (i j : ℕ) (hub : PlainPost) (x : inbox.PlainPass) (s : PlainPost) (y : inbox.PlainPass) : Type 0 where
  pub first : slice_get posts i ≡ Some hub
  pub second : slice_get posts j ≡ Some s
  pub g : PlainHome
  pub h : PlainHome
  pub hub_home : hub.ends.home ≡ Some g
  pub home : s.ends.home ≡ Some h
  pub node : h.node ≡ g.node
  pub hub_pass : g.inbox ≡ Some x
  pub pass : h.inbox ≡ Some y
  pub reads : x.role.reads ≡ true

-- the reader knows what the other put under its mark, and the other what was got
pub record HaveMetInbox (x y : inbox.PlainPass) (p : Prio) : Type 0 where
  pub puts : length (marks.with_mark y.role.mark (inbox.mail_at y p).kept) ≤ inbox.known_puts (inbox.mail_at x p) y.role.mark
  pub gets : length (inbox.mail_at x p).got ≤ inbox.known_gets (inbox.mail_at y p)

-- whether a party is of this node
abbrev pub is_home : ℕ → Option PlainHome → Bool
is_home node None = false
is_home node (Some h) = h.node == node

-- a number of each party of a node, added up
abbrev pub over_home : ℕ → (PlainPost → ℕ) → List PlainPost → ℕ
over_home node count posts = sum_by (λ s. if is_home node s.ends.home then count s else 0) posts

-- how many buffers the parties of a node gave in earlier rounds, and took
abbrev pub early_given : ℕ → ℕ → List PlainPost → ℕ
early_given node time posts = over_home node (λ s. length (given (early time s.entries))) posts

-- how many they took in earlier rounds
abbrev pub early_taken : ℕ → ℕ → List PlainPost → ℕ
early_taken node time posts = over_home node (λ s. length (taken (early time s.entries))) posts

-- between rounds, of a party and its pool, which had so many buffers at first: it found it empty only with a floor of these and what earlier
-- rounds gave, and full only with one of these, which the opening put, and what earlier rounds took
abbrev pub IsPoolBetween : ℕ → List PlainPost → PlainPost → PlainHome → Type 0
IsPoolBetween room posts s h =
    AllByRecursion (λ e. LackedAt (room + early_given h.node e.time posts) h.pool.hand.takes.floor (room + early_taken h.node e.time posts) h.pool.hand.puts.floor e.op e.answer) s.entries

-- how many buffers a party put into its pool, those of the opening among them
abbrev pub pool_puts : Option PlainHome → ℕ
pool_puts None = 0
pool_puts (Some h) = length h.pool.hand.put

-- how many it took
abbrev pub pool_takes : Option PlainHome → ℕ
pool_takes None = 0
pool_takes (Some h) = length h.pool.hand.taken

-- how many buffers the parties of a node put into their pool, those of the opening among them, and took
abbrev pub all_put : ℕ → List PlainPost → ℕ
all_put node posts = over_home node (λ s. pool_puts s.ends.home) posts

-- how many they took
abbrev pub all_taken : ℕ → List PlainPost → ℕ
all_taken node posts = over_home node (λ s. pool_takes s.ends.home) posts

-- a party knows of all puts and takes of its pool
pub record HasMetPool (posts : List PlainPost) (h : PlainHome) : Type 0 where
  pub puts : all_put h.node posts ≤ known_total h.pool.hand.puts
  pub takes : all_taken h.node posts ≤ known_total h.pool.hand.takes

-- what holds between rounds, before the round of this time, of all posts over these queues
pub record AreInRounds (nodes : List PlainNodeQueues) (time : ℕ) (posts : List PlainPost) : Type 0 where
  pub times : AllByRecursion (λ s. AllByRecursion (λ e. e.time < time) s.entries) posts
  pub lanes : (i j : ℕ) (s t : PlainPost) (x y : PlainSide) → AreJoined posts i j s x t y → IsLaneBetween s x t y
  pub inboxes : (i j : ℕ) (hub s : PlainPost) (x y : inbox.PlainPass) (p : Prio) → ShareInbox posts i j hub x s y → IsInboxBetween hub s y p
  pub pools : (i : ℕ) (s : PlainPost) (h : PlainHome) → slice_get posts i ≡ Some s → s.ends.home ≡ Some h → IsPoolBetween (room_among (slice_get nodes h.node)) posts s h

-- all parties have met: each knows what the others did
pub record HaveMet (posts : List PlainPost) : Type 0 where
  pub lanes : (i j : ℕ) (s t : PlainPost) (x y : PlainSide) → AreJoined posts i j s x t y → HaveMetAt x y
  pub inboxes : (i j : ℕ) (hub s : PlainPost) (x y : inbox.PlainPass) (p : Prio) → ShareInbox posts i j hub x s y → HaveMetInbox x y p
  pub pools : (i : ℕ) (s : PlainPost) (h : PlainHome) → slice_get posts i ≡ Some s → s.ends.home ≡ Some h → HasMetPool posts h

-- what each party has in hand tells what its log says, where a party of this name had put these numbers into its pool at the opening; and those of
-- a node are as many as its pool has room for
pub record AreAllTraced (nodes : List PlainNodeQueues) (opened : Who → List ℕ) (posts : List PlainPost) : Type 0 where
  pub each : AllByRecursion (λ s. AreTraced (opened s.who) s.entries s.ends) posts
  pub whole : (node : ℕ) → over_home node (λ s. length (opened s.who)) posts ≡ room_among (slice_get nodes node)

-- an end after a meeting: it only knows more
pub record HasHeardAt (x y : PlainSide) : Type 0 where
  pub queue : y.queue ≡ x.queue
  pub node : y.node ≡ x.node
  pub lane : y.lane ≡ x.lane
  pub puts : y.puts ≡ x.puts
  pub room : y.end.room ≡ x.end.room
  pub items : y.end.items ≡ x.end.items

-- a pass of the pool after a meeting
pub record HasHeardPool (v w : Hand) : Type 0 where
  pub put : w.put ≡ v.put
  pub taken : w.taken ≡ v.taken
  pub puts_floor : v.puts.floor ≤ w.puts.floor
  pub takes_floor : v.takes.floor ≤ w.takes.floor

-- a priority of a pass of the inbox after a meeting
pub record HasHeardMail (x y : inbox.PlainPass) (p : Prio) : Type 0 where
  pub kept : (inbox.mail_at y p).kept ≡ (inbox.mail_at x p).kept
  pub got : (inbox.mail_at y p).got ≡ (inbox.mail_at x p).got
  pub floor : (inbox.mail_at x p).puts_floor ≤ (inbox.mail_at y p).puts_floor

-- a pass of the inbox after a meeting
pub record HasHeardInbox (x y : inbox.PlainPass) : Type 0 where
  pub role : y.role ≡ x.role
  pub mail : (p : Prio) → HasHeardMail x y p

-- the same of a pass of the inbox that a party may have, which it has after the meeting too
abbrev pub HasHeardAny : Option inbox.PlainPass → Option inbox.PlainPass → Type 0
HasHeardAny None None = ⊤
HasHeardAny (Some x) (Some y) = HasHeardInbox x y
HasHeardAny _ _ = ⊥

-- a party's passes of its node after a meeting
pub record HasHeardHome (g h : PlainHome) : Type 0 where
  pub node : h.node ≡ g.node
  pub pool : HasHeardPool g.pool.hand h.pool.hand
  pub inbox : HasHeardAny g.inbox h.inbox

-- the same where a party may have none
abbrev pub HasHeardOf : Option PlainHome → Option PlainHome → Type 0
HasHeardOf None None = ⊤
HasHeardOf (Some g) (Some h) = HasHeardHome g h
HasHeardOf _ _ = ⊥

-- a party after a meeting: it did nothing and only knows more
pub record HasHeard (s t : PlainPost) : Type 0 where
  pub who : t.who ≡ s.who
  pub party : t.party ≡ s.party
  pub entries : t.entries ≡ s.entries
  pub home : HasHeardOf s.ends.home t.ends.home
  pub sides : AllZip HasHeardAt s.ends.sides t.ends.sides

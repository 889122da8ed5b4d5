-- What a meeting of two parties lets each know.
use Rattle.std.specs.Prelude.{◌≡◌, ◌≢◌, ◌≤◌, ◌+◌, ◌==◌, ⊤, ℕ, Bool, true, false, Option, None, Some, List, length, IfSome}
use Rattle.std.specs.List.{AllByRecursion, AllZip}
use Rattle.csp_base.specs.declared.priority.Prio.{Prio}
use Rattle.csp_ends.specs.Ends.{PlainNodeQueues, PlainSide, PlainHome, PlainEnds}
use Rattle.csp_inbox.specs.Marks.{with_mark}
use Rattle.csp_inbox.specs.Passes.{PlainPass as Post, IsPassOf as IsPostOf, mail_at, known_puts, known_gets}
use Rattle.csp_inbox.specs.declared.hand.Mail.{Mail}
use Rattle.csp_lane.specs.Ends.{knowing}
use Rattle.csp_pool.specs.Hands.{DidNothing, KnowsAll}
use Rattle.csp_pool.specs.PlainPool.{PlainPass, IsPassOf}
use Rattle.csp_pool.specs.Tallies.{Tally, accounted, known_total}
use Rattle.csp_pool.specs.declared.hand.Hand.{Hand}

-- the same end of a lane, which may know more
pub record KnowsMoreAt (x y : PlainSide) : Type 0 where
  pub queue : y.queue ≡ x.queue
  pub node : y.node ≡ x.node
  pub lane : y.lane ≡ x.lane
  pub puts : y.puts ≡ x.puts
  pub end : y.end ≡ knowing x.end y.end.known
  pub known : x.end.known ≤ y.end.known

-- what a pass knows of all puts, or of all takes: no less, with no lower floor, and it has told no less
pub record KnowsMoreOf (t u : Tally) : Type 0 where
  pub known : known_total t ≤ known_total u
  pub floor : t.floor ≤ u.floor
  pub untold : u.untold ≤ t.untold

-- the same pass of a pool, which may know more
pub record KnowsMorePool (p q : PlainPass) : Type 0 where
  pub pool : q.pool ≡ p.pool
  pub did : DidNothing p.hand q.hand
  pub puts : KnowsMoreOf p.hand.puts q.hand.puts
  pub takes : KnowsMoreOf p.hand.takes q.hand.takes

-- of one priority
pub record KnowsMoreMail (v w : Mail) : Type 0 where
  pub kept : w.kept ≡ v.kept
  pub got : w.got ≡ v.got
  pub floor : w.puts_floor ≡ v.puts_floor
  pub puts : (mark : ℕ) → known_puts v mark ≤ known_puts w mark
  pub gets : known_gets v ≤ known_gets w

-- the same pass of an inbox
pub record KnowsMorePass (x y : Post) : Type 0 where
  pub inbox : y.inbox ≡ x.inbox
  pub role : y.role ≡ x.role
  pub mail : (p : Prio) → KnowsMoreMail (mail_at x p) (mail_at y p)

-- where there is one
abbrev pub KnowsMoreInbox : Option Post → Option Post → Type 0
KnowsMoreInbox None None = ⊤
KnowsMoreInbox (Some x) (Some y) = KnowsMorePass x y
KnowsMoreInbox _ _ = ⊥

-- whether a party has the pass that reads the inbox
abbrev pub reads_inbox : Option Post → Bool
reads_inbox None = false
reads_inbox (Some x) = x.role.reads

-- whether it leads its node: it has that pass
abbrev pub leads : PlainHome → Bool
leads h = reads_inbox h.inbox

-- the same passes of a node
pub record KnowsMoreHome (g h : PlainHome) : Type 0 where
  pub node : h.node ≡ g.node
  pub pool : KnowsMorePool g.pool h.pool
  pub inbox : KnowsMoreInbox g.inbox h.inbox
  -- only a leader is told what others did
  pub itself : leads g ≡ false → (h.pool.hand.puts.counted ≡ g.pool.hand.puts.counted) × (h.pool.hand.takes.counted ≡ g.pool.hand.takes.counted)

-- of a party that has a node
abbrev pub KnowsMoreHomes : Option PlainHome → Option PlainHome → Type 0
KnowsMoreHomes None None = ⊤
KnowsMoreHomes (Some g) (Some h) = KnowsMoreHome g h
KnowsMoreHomes _ _ = ⊥

-- all that a party has in hand is the same, and it may know more
pub record KnowsMore (d e : PlainEnds) : Type 0 where
  pub home : KnowsMoreHomes d.home e.home
  pub sides : AllZip KnowsMoreAt d.sides e.sides

-- where two ends are those of one lane, each knows all that went through the other
abbrev pub HaveMetSides : PlainSide → PlainSide → Type 0
HaveMetSides x y = x.node ≡ y.node → x.lane ≡ y.lane → x.puts ≢ y.puts → (length x.end.items ≤ y.end.known) × (length y.end.items ≤ x.end.known)

-- each end of the one party and each of the other
abbrev pub HaveMetLanes : List PlainSide → List PlainSide → Type 0
HaveMetLanes xs ys = AllByRecursion (λ x. AllByRecursion (HaveMetSides x) ys) xs

-- the reader of an inbox knows what the other put under its mark, and the other what was got
pub record HaveMetMail (mark : ℕ) (v w : Mail) : Type 0 where
  pub puts : length (with_mark mark w.kept) ≤ known_puts v mark
  pub gets : length v.got ≤ known_gets w

-- of each priority, where both have a pass
abbrev pub HaveMetInboxes : Option Post → Option Post → Type 0
HaveMetInboxes (Some x) (Some y) = (p : Prio) → HaveMetMail y.role.mark (mail_at x p) (mail_at y p)
HaveMetInboxes _ _ = ⊤

-- the other has told the leader all that it did
abbrev pub HasToldAll : Hand → Type 0
HasToldAll v = (v.puts.untold ≡ 0) × (v.takes.untold ≡ 0)

-- the passes of a home are of the queues of this node
pub record IsOfNode (n : PlainNodeQueues) (h : PlainHome) : Type 0 where
  pub pool : IsPassOf n.pool h.pool
  pub inbox : IfSome h.inbox (IsPostOf n.inbox)

-- the leader of a node and another party of it: as to the inbox they know what the other did, and of the pool the other has told all
pub record HaveMetAtHome (g h : PlainHome) : Type 0 where
  pub inbox : HaveMetInboxes g.inbox h.inbox
  pub told : HasToldAll h.pool.hand

-- where the first leads the node of both
abbrev pub HaveMetHomes : Option PlainHome → Option PlainHome → Type 0
HaveMetHomes (Some g) (Some h) = g.node ≡ h.node → leads g ≡ true → HaveMetAtHome g h
HaveMetHomes _ _ = ⊤

-- two parties have met
pub record HaveMetEnds (d e : PlainEnds) : Type 0 where
  pub lanes : HaveMetLanes d.sides e.sides
  pub homes : HaveMetHomes d.home e.home

-- the other knows of as many puts and takes of the pool as the leader did
abbrev pub InformsAt : PlainHome → PlainHome → Type 0
InformsAt g h = KnowsAll h.pool.hand g.pool.hand

-- where the first leads the node of both
abbrev pub Informs : Option PlainHome → Option PlainHome → Type 0
Informs (Some g) (Some h) = g.node ≡ h.node → leads g ≡ true → InformsAt g h
Informs _ _ = ⊤

-- the two answer together for as many puts and takes as before, and the second answers for no more that others told
pub record KeepCountsAt (g h g' h' : PlainHome) : Type 0 where
  pub puts : accounted g'.pool.hand.puts + accounted h'.pool.hand.puts ≡ accounted g.pool.hand.puts + accounted h.pool.hand.puts
  pub takes : accounted g'.pool.hand.takes + accounted h'.pool.hand.takes ≡ accounted g.pool.hand.takes + accounted h.pool.hand.takes
  pub puts_heard : h'.pool.hand.puts.counted ≡ h.pool.hand.puts.counted
  pub takes_heard : h'.pool.hand.takes.counted ≡ h.pool.hand.takes.counted

-- the same where the first leads the node of both, and else neither changes
abbrev pub KeepCountsBy : (same leads : Bool) → (g h g' h' : PlainHome) → Type 0
KeepCountsBy true true g h g' h' = KeepCountsAt g h g' h'
KeepCountsBy true false g h g' h' = (g' ≡ g) × (h' ≡ h)
KeepCountsBy false lead g h g' h' = (g' ≡ g) × (h' ≡ h)

-- where two parties have nodes; a party without one has none still
abbrev pub KeepCounts : (g h g' h' : Option PlainHome) → Type 0
KeepCounts (Some g) (Some h) (Some g') (Some h') = KeepCountsBy (g.node == h.node) (leads g) g h g' h'
KeepCounts g h g' h' = (g' ≡ g) × (h' ≡ h)

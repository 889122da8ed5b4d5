-- Turns keep the books of the pools.
use Rattle.std.proofs.Common.{◌≡◌, ◌+◌, ◌==◌, ℕ, Bool, true, false, List, [], ◌∷◌, ◌++◌, Option, None, Some, length, refl, sym, ap, ◌∙◌, subst, arith, length-append}
use Rattle.std.specs.Prelude.{IfSome, IsSomeAnd, if◌then◌else◌}
use Rattle.std.specs.List.{AllByRecursion, AllZip}
use Rattle.std.specs.Option.{option_map}
use Rattle.std.proofs.lemmas.Bool.{eq-eqb}
use Rattle.std.proofs.lemmas.List.Elements.{filter-append}
use Rattle.std.proofs.lemmas.Option.{same_Some}
use Rattle.csp_base.specs.Priority.{prio_number}
use Rattle.csp_base.specs.declared.priority.Prio.{Prio}
use Rattle.csp_base.specs.declared.priority.Prio.TheVariants.{Critical, High, Normal, Low}
use Rattle.csp_consistent.specs.Reading.{put_by, with_priority}
use Rattle.csp_deck.specs.Carried.{priority_of}
use Rattle.csp_ends.specs.Causes.{CauseOf, HaveCauses}
use Rattle.csp_ends.specs.Ends.{PlainNodeQueues, PlainHome, PlainEnds, inbox_of}
use Rattle.csp_ends.specs.Moves.{ends_after, ends_after_all, hand_after, home_after, post_after, room_for}
use Rattle.csp_inbox.specs.Marks.{mark_of, with_mark}
use Rattle.csp_inbox.specs.Passes.{PlainPass as Post, mail_at}
use Rattle.csp_log.specs.declared.entry.Entry.{Entry}
use Rattle.csp_log.specs.declared.places.QueueId.TheVariants as queue
use Rattle.csp_log.specs.declared.shown.AnswerShown.{AnswerShown}
use Rattle.csp_log.specs.declared.shown.AnswerShown.TheVariants as answer
use Rattle.csp_log.specs.declared.shown.ItemShown.{ItemShown}
use Rattle.csp_log.specs.declared.shown.ItemShown.TheVariants as item
use Rattle.csp_log.specs.declared.shown.OpShown.{OpShown}
use Rattle.csp_log.specs.declared.shown.OpShown.TheVariants as op
use Rattle.csp_meeting.specs.Meeting.{leads, reads_inbox}
use Rattle.csp_pool.specs.Tallies.{accounted}
use Rattle.csp_pool.specs.declared.hand.Hand.{Hand}
use Rattle.csp_posts.specs.Between.{is_home, over_home, pool_puts, pool_takes}
use Rattle.csp_posts.specs.Books.{AreInBooks, HasBooks, IsMarked}
use Rattle.csp_posts.specs.Meetings.{puts_for, takes_for}
use Rattle.csp_posts.specs.Posts.{AreTurns, PlainPost}
use Rattle.csp_posts.proofs.Books.{after_some, before_some, zip_at, zip_from}
use Rattle.csp_posts.proofs.Sweeping.{over_cons}

-- a hand whose books stay right: what it answers for grows as what it does
record StaysRight (v w : Hand) : Type 0 where
  puts : accounted w.puts + length v.put ≡ accounted v.puts + length w.put
  takes : accounted w.takes + length v.taken ≡ accounted v.takes + length w.taken
  puts_heard : w.puts.counted ≡ v.puts.counted
  takes_heard : w.takes.counted ≡ v.takes.counted

nothing_done : (v : Hand) → StaysRight v v
nothing_done v = record { puts = refl; takes = refl; puts_heard = refl; takes_heard = refl }

one_more : (ns : List ℕ) (n : ℕ) → length (ns ++ n ∷ []) ≡ length ns + 1
one_more ns n = length-append ns (n ∷ [])

hand_right : (room : ℕ) (o : OpShown) (a : AnswerShown) (v : Hand) → StaysRight v (hand_after room o a v)
hand_right room op.Nothing a v = nothing_done v
hand_right room op.Take a v = taken a where
  taken : (a : AnswerShown) → StaysRight v (hand_after room op.Take a v)
  taken (answer.Taken b) = record { puts = refl; takes = let e = one_more v.taken b.number in omega (arith, e); puts_heard = refl; takes_heard = refl }
  taken answer.NoBuffer = record { puts = refl; takes = refl; puts_heard = refl; takes_heard = refl }
  taken _ = nothing_done v
hand_right room (op.Give b) a v = given a where
  given : (a : AnswerShown) → StaysRight v (hand_after room (op.Give b) a v)
  given answer.Given = record { puts = let e = one_more v.put b.number in omega (arith, e); takes = refl; puts_heard = refl; takes_heard = refl }
  given (answer.PoolFull c) = record { puts = refl; takes = refl; puts_heard = refl; takes_heard = refl }
  given _ = nothing_done v
hand_right room (op.Push q i) a v = nothing_done v
hand_right room (op.Pop q) a v = nothing_done v

-- all that a pass puts has its mark
of_mark : (m : ℕ) (i : ItemShown) → mark_of i ≡ m → with_mark m (i ∷ []) ≡ i ∷ []
of_mark m i e = rw (eq-eqb (mark_of i) m e) refl

of_one : (m : ℕ) (p : Prio) (i : ItemShown) → mark_of i ≡ m → with_mark m (with_priority p (i ∷ [])) ≡ with_priority p (i ∷ [])
of_one m p (item.Packet k b) e = by (prio_number (priority_of b) == prio_number p) where
  by : (c : Bool) → with_mark m ((if c then item.Packet k b ∷ [] else []) ++ []) ≡ (if c then item.Packet k b ∷ [] else []) ++ []
  by true = of_mark m (item.Packet k b) e
  by false = refl
of_one m p (item.Frame f) e = refl
of_one m p (item.Note n) e = refl

put_marked : (m : ℕ) (p : Prio) (o : OpShown) (a : AnswerShown) → ((i : ItemShown) → o ≡ op.Push queue.Inbox i → a ≡ answer.Pushed → mark_of i ≡ m)
    → with_mark m (with_priority p (put_by queue.Inbox o a)) ≡ with_priority p (put_by queue.Inbox o a)
put_marked m p op.Nothing a own = refl
put_marked m p op.Take a own = refl
put_marked m p (op.Give b) a own = refl
put_marked m p (op.Pop q) a own = refl
put_marked m p (op.Push queue.Inbox i) a own = by a (own i refl) where
  by : (a : AnswerShown) → (a ≡ answer.Pushed → mark_of i ≡ m) → with_mark m (with_priority p (put_by queue.Inbox (op.Push queue.Inbox i) a)) ≡ with_priority p (put_by queue.Inbox (op.Push queue.Inbox i) a)
  by answer.Pushed h = of_one m p i (h refl)
  by _ h = refl
put_marked m p (op.Push q i) a own = none a where
  none : (a : AnswerShown) → with_mark m (with_priority p (put_by queue.Inbox (op.Push q i) a)) ≡ with_priority p (put_by queue.Inbox (op.Push q i) a)
  none answer.Pushed = refl
  none _ = refl

kept_after : (o : OpShown) (a : AnswerShown) (x : Post) (p : Prio) → (mail_at (post_after o a x) p).kept ≡ (mail_at x p).kept ++ with_priority p (put_by queue.Inbox o a)
kept_after o a x Critical = refl
kept_after o a x High = refl
kept_after o a x Normal = refl
kept_after o a x Low = refl

marked_after : (o : OpShown) (a : AnswerShown) (x : Post) → ((i : ItemShown) → o ≡ op.Push queue.Inbox i → a ≡ answer.Pushed → mark_of i ≡ x.role.mark) → IsMarked x → IsMarked (post_after o a x)
marked_after o a x own h p =
    let m = x.role.mark in
    ap (with_mark m) (kept_after o a x p)
    ∙ filter-append (λ (i : ItemShown). mark_of i == m) (mail_at x p).kept (with_priority p (put_by queue.Inbox o a))
    ∙ (λ i. h p i ++ put_marked m p o a own i)
    ∙ sym (kept_after o a x p)

-- a home whose books stay right
record HomeRight (g h : PlainHome) : Type 0 where
  node : h.node ≡ g.node
  hand : StaysRight g.pool.hand h.pool.hand
  leads : leads h ≡ leads g
  marked : IfSome g.inbox IsMarked → IfSome h.inbox IsMarked

abbrev HomesRight : Option PlainHome → Option PlainHome → Type 0
HomesRight None None = Unit
HomesRight (Some g) (Some h) = HomeRight g h
HomesRight _ _ = ⊥

right_none : (h : Option PlainHome) → HomesRight h h
right_none None = tt
right_none (Some h) = record { node = refl; hand = nothing_done h.pool.hand; leads = refl; marked = λ m. m }

right_both : (f g h : Option PlainHome) → HomesRight f g → HomesRight g h → HomesRight f h
right_both None None h a b = b
right_both (Some f) (Some g) (Some h) a b = record {
  node = b.node ∙ a.node;
  hand = record {
    puts = let x = a.hand.puts in let y = b.hand.puts in omega (arith, x, y);
    takes = let x = a.hand.takes in let y = b.hand.takes in omega (arith, x, y);
    puts_heard = b.hand.puts_heard ∙ a.hand.puts_heard;
    takes_heard = b.hand.takes_heard ∙ a.hand.takes_heard;
  };
  leads = b.leads ∙ a.leads;
  marked = λ m. b.marked (a.marked m);
}
right_both (Some f) (Some g) None a b = absurd b
right_both None (Some g) h a b = absurd a
right_both (Some f) None h a b = absurd a

reads_after : (o : OpShown) (a : AnswerShown) (x : Option Post) → reads_inbox (option_map (post_after o a) x) ≡ reads_inbox x
reads_after o a None = refl
reads_after o a (Some x) = refl

-- the mark of what was pushed into an inbox
pushed_own : (e : PlainEnds) (o : OpShown) (a : AnswerShown) → CauseOf e o a → (x : Post) → inbox_of e.home ≡ Some x → (i : ItemShown) → o ≡ op.Push queue.Inbox i → a ≡ answer.Pushed → mark_of i ≡ x.role.mark
pushed_own e o a cause x there i is_push is_pushed =
    let at = subst (λ (b : AnswerShown). CauseOf e (op.Push queue.Inbox i) b) is_pushed (subst (λ (q : OpShown). CauseOf e q a) is_push cause) in
    subst (λ y. IsSomeAnd y (λ z. mark_of i ≡ z.role.mark)) there at

right_after : (room : ℕ) (e : PlainEnds) (o : OpShown) (a : AnswerShown) → CauseOf e o a → HomesRight e.home (option_map (home_after room o a) e.home)
right_after room e o a cause = by e.home refl where
  by : (h : Option PlainHome) → e.home ≡ h → HomesRight h (option_map (home_after room o a) h)
  by None there = tt
  by (Some h) there = record {
    node = refl;
    hand = hand_right room o a h.pool.hand;
    leads = reads_after o a h.inbox;
    marked = marks h.inbox (ap inbox_of there);
  } where
    marks : (x : Option Post) → inbox_of e.home ≡ x → IfSome x IsMarked → IfSome (option_map (post_after o a) x) IsMarked
    marks None at m = m
    marks (Some x) at m = marked_after o a x (pushed_own e o a cause x at) m

right_all : (room : ℕ) (e : PlainEnds) (es : List Entry) → HaveCauses room e es → HomesRight e.home (ends_after_all room e es).home
right_all room e [] cause = right_none e.home
right_all room e (x ∷ xs) cause = right_both e.home (ends_after room x.op x.answer e).home (ends_after_all room (ends_after room x.op x.answer e) xs).home
    (right_after room e x.op x.answer cause.0) (right_all room (ends_after room x.op x.answer e) xs cause.1)

right_turns : (nodes : List PlainNodeQueues) (time count : ℕ) (s t : PlainPost) → AreTurns nodes time count s t → HomesRight s.ends.home t.ends.home
right_turns nodes time count s t turns = subst (λ (e : PlainEnds). HomesRight s.ends.home e.home) (sym turns.ends) (right_all (room_for nodes s.ends.home) s.ends turns.more turns.causes)

-- what all parties of a node answer for grows as what they do
grown : (node : ℕ) (f did : Option PlainHome → ℕ) (xs ys : List PlainPost)
    → ((g h : PlainHome) → HomeRight g h → f (Some h) + did (Some g) ≡ f (Some g) + did (Some h)) → AllZip (λ (s t : PlainPost). HomesRight s.ends.home t.ends.home) xs ys
    → over_home node (λ (s : PlainPost). f s.ends.home) ys + over_home node (λ (s : PlainPost). did s.ends.home) xs ≡ over_home node (λ (s : PlainPost). f s.ends.home) xs + over_home node (λ (s : PlainPost). did s.ends.home) ys
grown node f did [] [] same m = refl
grown node f did (x ∷ xs) (y ∷ ys) same m =
    let a = over_cons node (λ (s : PlainPost). f s.ends.home) y ys in
    let b = over_cons node (λ (s : PlainPost). did s.ends.home) x xs in
    let c = over_cons node (λ (s : PlainPost). f s.ends.home) x xs in
    let d = over_cons node (λ (s : PlainPost). did s.ends.home) y ys in
    let one = part x.ends.home y.ends.home m.0 in
    let rest = grown node f did xs ys same m.1 in
    omega (arith, a, b, c, d, one, rest) where
      part : (g h : Option PlainHome) → HomesRight g h → (if is_home node h then f h else 0) + (if is_home node g then did g else 0) ≡ (if is_home node g then f g else 0) + (if is_home node h then did h else 0)
      part None None k = refl
      part (Some g) (Some h) k = subst (λ n. (if n == node then f (Some h) else 0) + (if g.node == node then did (Some g) else 0) ≡ (if g.node == node then f (Some g) else 0) + (if n == node then did (Some h) else 0)) (sym k.node) (by (g.node == node)) where
        by : (c : Bool) → (if c then f (Some h) else 0) + (if c then did (Some g) else 0) ≡ (if c then f (Some g) else 0) + (if c then did (Some h) else 0)
        by true = same g h k
        by false = refl
      part None (Some h) k = absurd k
      part (Some g) None k = absurd k
grown node f did [] (y ∷ ys) same m = absurd m
grown node f did (x ∷ xs) [] same m = absurd m

all_right : (nodes : List PlainNodeQueues) (time count : ℕ) (xs ys : List PlainPost) → AllZip (AreTurns nodes time count) xs ys → AllZip (λ (s t : PlainPost). HomesRight s.ends.home t.ends.home) xs ys
all_right nodes time count [] [] m = tt
all_right nodes time count (x ∷ xs) (y ∷ ys) m = (right_turns nodes time count x y m.0, all_right nodes time count xs ys m.1)
all_right nodes time count [] (y ∷ ys) m = absurd m
all_right nodes time count (x ∷ xs) [] m = absurd m

right_from : (g h : Option PlainHome) (k : PlainHome) → HomesRight g h → h ≡ Some k → (j : PlainHome) × (g ≡ Some j) × HomeRight j k
right_from = before_some HomesRight (λ k m. m)

right_to : (g h : Option PlainHome) (j : PlainHome) → HomesRight g h → g ≡ Some j → (k : PlainHome) × (h ≡ Some k) × HomeRight j k
right_to = after_some HomesRight (λ k m. m)

books_right : (xs ys : List PlainPost) → AllZip (λ (s t : PlainPost). HomesRight s.ends.home t.ends.home) xs ys → AllByRecursion (λ (s : PlainPost). IfSome s.ends.home HasBooks) xs → AllByRecursion (λ (s : PlainPost). IfSome s.ends.home HasBooks) ys
books_right [] [] m b = tt
books_right (x ∷ xs) (y ∷ ys) m b = (one x.ends.home y.ends.home m.0 b.0, books_right xs ys m.1 b.1) where
  one : (g h : Option PlainHome) → HomesRight g h → IfSome g HasBooks → IfSome h HasBooks
  one None None k c = c
  one (Some g) (Some h) k c = record {
    itself = record { puts = λ e. k.hand.puts_heard ∙ c.itself.puts (sym k.leads ∙ e); takes = λ e. k.hand.takes_heard ∙ c.itself.takes (sym k.leads ∙ e) };
    marked = k.marked c.marked;
  }
  one None (Some h) k c = absurd k
  one (Some g) None k c = absurd k
books_right [] (y ∷ ys) m b = absurd m
books_right (x ∷ xs) [] m b = absurd m

-- a round keeps the books
pub turns_keep : (nodes : List PlainNodeQueues) (time count : ℕ) (xs ys : List PlainPost) → AllZip (AreTurns nodes time count) xs ys → AreInBooks xs → AreInBooks ys
turns_keep nodes time count xs ys turns b =
    let m = all_right nodes time count xs ys turns in
    let R : PlainPost → PlainPost → Type 0 = λ s t. HomesRight s.ends.home t.ends.home in
    record {
      puts = λ node. let g = grown node puts_for pool_puts xs ys (λ g h k. k.hand.puts) m in let e = b.puts node in omega (arith, g, e);
      takes = λ node. let g = grown node takes_for pool_takes xs ys (λ g h k. k.hand.takes) m in let e = b.takes node in omega (arith, g, e);
      each = books_right xs ys m b.each;
      led = λ j s h at its.
          let x = zip_at R xs ys j s m at in
          let g = right_from x.0.ends.home s.ends.home h x.2 its in
          let l = b.led j x.0 g.0 x.1 g.1 in
          let y = zip_from R xs ys l.at l.leader m l.there in
          let k = right_to l.leader.ends.home y.0.ends.home l.home y.2 l.its in
          record { at = l.at; leader = y.0; home = k.0; there = y.1; its = k.1; node = k.2.node ∙ l.node ∙ sym g.2.node; leads = k.2.leads ∙ l.leads };
      first = λ i j r s g h at_i at_j its_r its_s node lead.
          let x = zip_at R xs ys i r m at_i in
          let y = zip_at R xs ys j s m at_j in
          let a = right_from x.0.ends.home r.ends.home g x.2 its_r in
          let c = right_from y.0.ends.home s.ends.home h y.2 its_s in
          b.first i j x.0 y.0 a.0 c.0 x.1 y.1 a.1 c.1 (sym c.2.node ∙ node ∙ a.2.node) (sym a.2.leads ∙ lead);
    }

-- A round keeps what floors a party must have at its pool: over all posts of a node.
use Rattle.std.proofs.Common.{◌≡◌, ℕ, ◌+◌, ◌≤◌, Bool, true, false, max, Option, Some, None, List, [], ◌∷◌, length, option_map, IfSome, refl, sym, ap, ◌∙◌, arith, le_trans, length-append}
use Rattle.std.proofs.Math.Nat.{le-max_left, le-max_right, max-le}
use Rattle.std.proofs.lemmas.List.Sums.{sum_by-cons}
use Rattle.std.specs.Prelude.{if◌then◌else◌, ◌==◌}
use Rattle.std.specs.List.{AllByRecursion, AllZip}
use Rattle.csp_consistent.specs.Pools.{given, taken}
use Rattle.csp_consistent.specs.Prompt.{LackedAt}
use Rattle.csp_ends.specs.Ends.{PlainHome, PlainEnds}
use Rattle.csp_ends.specs.Moves.{ends_after, ends_after_all, hand_after, home_after}
use Rattle.csp_ends.specs.Traced.{AreTraced, IsHomeTraced}
use Rattle.csp_log.specs.declared.entry.Entry.{Entry}
use Rattle.csp_log.specs.declared.shown.AnswerShown.{AnswerShown}
use Rattle.csp_log.specs.declared.shown.AnswerShown.TheVariants as answer
use Rattle.csp_log.specs.declared.shown.OpShown.{OpShown}
use Rattle.csp_log.specs.declared.shown.OpShown.TheVariants as op
use Rattle.csp_pool.specs.Tallies.{Tally, known_total}
use Rattle.csp_pool.specs.declared.hand.Hand.{Hand}
use Rattle.csp_posts.specs.Between.{all_put, all_taken, is_home, over_home, pool_puts, pool_takes}
use Rattle.csp_posts.specs.Posts.{PlainPost}
use Rattle.csp_log.specs.declared.who.Who.{Who}
use Rattle.csp_standing.proofs.Turns.{home_later}

-- with more takes and gives it is so still
pub lacked_more : (a b c d n m : ℕ) (o : OpShown) (x : AnswerShown) → b ≤ n → d ≤ m → LackedAt a b c d o x → LackedAt a n c m o x
lacked_more a b c d n m op.Take answer.NoBuffer h k lacked = le_trans lacked h
lacked_more a b c d n m (op.Give i) (answer.PoolFull j) h k lacked = le_trans lacked k
lacked_more a b c d n m _ _ h k lacked = tt

more_known : (t : Tally) → known_total t ≤ max t.known (t.counted + (t.untold + 1))
more_known t = max-le (le-max_left t.known _) (le_trans (omega arith) (le-max_right t.known (t.counted + (t.untold + 1))))

puts_known : (room n : ℕ) (o : OpShown) (a : AnswerShown) (v : Hand) → n ≤ known_total v.puts → n ≤ known_total (hand_after room o a v).puts
puts_known room n op.Take (answer.Taken b) v h = h
puts_known room n op.Take answer.NoBuffer v h = h
puts_known room n (op.Give b) answer.Given v h = le_trans h (more_known v.puts)
puts_known room n (op.Give b) (answer.PoolFull c) v h = h
puts_known room n _ _ v h = h

takes_known : (room n : ℕ) (o : OpShown) (a : AnswerShown) (v : Hand) → n ≤ known_total v.takes → n ≤ known_total (hand_after room o a v).takes
takes_known room n op.Take (answer.Taken b) v h = le_trans h (more_known v.takes)
takes_known room n op.Take answer.NoBuffer v h = h
takes_known room n (op.Give b) answer.Given v h = h
takes_known room n (op.Give b) (answer.PoolFull c) v h = h
takes_known room n _ _ v h = h

-- the floor that a look leaves
lacked_here : (room p t : ℕ) (o : OpShown) (a : AnswerShown) (v : Hand) → p ≤ known_total v.puts → t ≤ known_total v.takes
    → LackedAt p (hand_after room o a v).takes.floor (room + t) (hand_after room o a v).puts.floor o a
lacked_here room p t op.Take answer.NoBuffer v h k = le_trans h (le-max_right v.takes.floor (known_total v.puts))
lacked_here room p t (op.Give b) (answer.PoolFull c) v h k = le_trans (omega (arith, k)) (le-max_right v.puts.floor (room + known_total v.takes))
lacked_here room p t _ _ v h k = tt

-- the looks of these turns at the pool
pub pool_looks : (room p t : ℕ) (more : List Entry) (e : PlainEnds) (g h : PlainHome) → e.home ≡ Some g → (ends_after_all room e more).home ≡ Some h
    → p ≤ known_total g.pool.hand.puts → t ≤ known_total g.pool.hand.takes
    → AllByRecursion (λ m. LackedAt p h.pool.hand.takes.floor (room + t) h.pool.hand.puts.floor m.op m.answer) more
pool_looks room p t [] e g h at there puts takes = tt
pool_looks room p t (m ∷ more) e g h at there puts takes =
    let next : (ends_after room m.op m.answer e).home ≡ Some (home_after room m.op m.answer g) = ap (option_map (home_after room m.op m.answer)) at in
    let v : Hand = hand_after room m.op m.answer g.pool.hand in (
      lacked_more p v.takes.floor (room + t) v.puts.floor h.pool.hand.takes.floor h.pool.hand.puts.floor m.op m.answer
          (home_later room more (ends_after room m.op m.answer e) (home_after room m.op m.answer g) h next there).takes
          (home_later room more (ends_after room m.op m.answer e) (home_after room m.op m.answer g) h next there).puts
          (lacked_here room p t m.op m.answer g.pool.hand puts takes),
      pool_looks room p t more (ends_after room m.op m.answer e) (home_after room m.op m.answer g) h next there
          (puts_known room p m.op m.answer g.pool.hand puts) (takes_known room t m.op m.answer g.pool.hand takes),
    )

-- sums over the parties of a node
if_same : (a b : Bool) (n m : ℕ) → b ≡ a → n ≡ m → (if b then n else 0) ≡ (if a then m else 0)
if_same a b n m e f = ap (λ c. if c then n else 0) e ∙ ap (λ k. if a then k else 0) f

pub sums_same : (node : ℕ) (f g : PlainPost → ℕ) (R : PlainPost → PlainPost → Type 0) (posts after : List PlainPost)
    → ((s t : PlainPost) → R s t → is_home node t.ends.home ≡ is_home node s.ends.home) → ((s t : PlainPost) → R s t → g t ≡ f s)
    → AllZip R posts after → over_home node g after ≡ over_home node f posts
sums_same node f g R [] [] home same zip = refl
sums_same node f g R [] (t ∷ after) home same zip = absurd zip
sums_same node f g R (s ∷ posts) [] home same zip = absurd zip
sums_same node f g R (s ∷ posts) (t ∷ after) home same zip =
    sum_by-cons (λ (u : PlainPost). if is_home node u.ends.home then g u else 0) t after
    ∙ ap (λ n. n + over_home node g after) (if_same (is_home node s.ends.home) (is_home node t.ends.home) (g t) (f s) (home s t zip.0) (same s t zip.0))
    ∙ ap (λ n. (if is_home node s.ends.home then f s else 0) + n) (sums_same node f g R posts after home same zip.1)
    ∙ sym (sum_by-cons (λ (u : PlainPost). if is_home node u.ends.home then f u else 0) s posts)

-- sums of two numbers of each
pub sums_add : (node : ℕ) (f g h : PlainPost → ℕ) (P : PlainPost → Type 0) (posts : List PlainPost)
    → ((s : PlainPost) → P s → (if is_home node s.ends.home then f s else 0) ≡ (if is_home node s.ends.home then g s + h s else 0)) → AllByRecursion P posts
    → over_home node f posts ≡ over_home node g posts + over_home node h posts
sums_add node f g h P [] each all = refl
sums_add node f g h P (s ∷ posts) each all =
    sum_by-cons (λ (u : PlainPost). if is_home node u.ends.home then f u else 0) s posts
    ∙ ap (λ n. n + over_home node f posts) (each s all.0)
    ∙ ap (λ n. (if is_home node s.ends.home then g s + h s else 0) + n) (sums_add node f g h P posts each all.1)
    ∙ apart (is_home node s.ends.home) (g s) (h s) (over_home node g posts) (over_home node h posts)
    ∙ ap (λ n. n + ((if is_home node s.ends.home then h s else 0) + over_home node h posts)) (sym (sum_by-cons (λ (u : PlainPost). if is_home node u.ends.home then g u else 0) s posts))
    ∙ ap (λ n. over_home node g (s ∷ posts) + n) (sym (sum_by-cons (λ (u : PlainPost). if is_home node u.ends.home then h u else 0) s posts))
  where
    apart : (b : Bool) (n m p q : ℕ) → (if b then n + m else 0) + (p + q) ≡ ((if b then n else 0) + p) + ((if b then m else 0) + q)
    apart true n m p q = omega arith
    apart false n m p q = omega arith

-- what a party put into its pool is what it had put at the opening, and what it gave
put_told : (node : ℕ) (opened : List ℕ) (es : List Entry) (home : Option PlainHome) → IfSome home (IsHomeTraced opened es)
    → (if is_home node home then pool_puts home else 0) ≡ (if is_home node home then length opened + length (given es) else 0)
put_told node opened es None told = refl
put_told node opened es (Some h) told = ap (λ n. if h.node == node then n else 0) (ap length told.put ∙ length-append opened (given es))

taken_told : (node : ℕ) (opened : List ℕ) (es : List Entry) (home : Option PlainHome) → IfSome home (IsHomeTraced opened es)
    → (if is_home node home then pool_takes home else 0) ≡ (if is_home node home then length (taken es) else 0)
taken_told node opened es None told = refl
taken_told node opened es (Some h) told = ap (λ n. if h.node == node then n else 0) (ap length told.taken)

pub puts_told : (node : ℕ) (opened : Who → List ℕ) (posts : List PlainPost) → AllByRecursion (λ s. AreTraced (opened s.who) s.entries s.ends) posts
    → all_put node posts ≡ over_home node (λ s. length (opened s.who)) posts + over_home node (λ s. length (given s.entries)) posts
puts_told node opened posts all =
    sums_add node (λ s. pool_puts s.ends.home) (λ s. length (opened s.who)) (λ s. length (given s.entries)) (λ s. AreTraced (opened s.who) s.entries s.ends) posts
    (λ s told. put_told node (opened s.who) s.entries s.ends.home told.home) all

pub takes_told : (node : ℕ) (opened : Who → List ℕ) (posts : List PlainPost) → AllByRecursion (λ s. AreTraced (opened s.who) s.entries s.ends) posts
    → all_taken node posts ≡ over_home node (λ s. length (taken s.entries)) posts
takes_told node opened [] all = refl
takes_told node opened (s ∷ posts) all =
    sum_by-cons (λ (u : PlainPost). if is_home node u.ends.home then pool_takes u.ends.home else 0) s posts
    ∙ ap (λ n. n + all_taken node posts) (taken_told node (opened s.who) s.entries s.ends.home all.0.home)
    ∙ ap (λ n. (if is_home node s.ends.home then length (taken s.entries) else 0) + n) (takes_told node opened posts all.1)
    ∙ sym (sum_by-cons (λ (u : PlainPost). if is_home node u.ends.home then length (taken u.entries) else 0) s posts)

-- What turns leave of an end of a lane, and of a party's passes of its node.
use Rattle.std.proofs.Common.{◌≡◌, ℕ, ◌+◌, ◌≤◌, Bool, true, false, cond, Option, Some, None, List, [], ◌∷◌, map, max, option_map, unwrap_or, slice_get, refl, sym, ap, ◌∙◌, subst, le_refl, le_trans}
use Rattle.std.proofs.Math.Nat.{le-max_left}
use Rattle.csp_base.specs.declared.priority.Prio.{Prio}
use Rattle.csp_base.specs.declared.priority.Prio.TheVariants.{Critical, High, Normal, Low}
use Rattle.csp_ends.specs.Ends.{PlainSide, PlainHome, PlainEnds}
use Rattle.csp_ends.specs.Moves.{ends_after, ends_after_all, hand_after, home_after, is_crammed, mail_after, post_after, side_after}
use Rattle.csp_inbox.specs.Passes as inbox
use Rattle.csp_log.specs.declared.entry.Entry.{Entry}
use Rattle.csp_log.specs.declared.shown.AnswerShown.{AnswerShown}
use Rattle.csp_log.specs.declared.shown.AnswerShown.TheVariants as answer
use Rattle.csp_log.specs.declared.shown.OpShown.{OpShown}
use Rattle.csp_log.specs.declared.shown.OpShown.TheVariants as op
use Rattle.csp_pool.specs.declared.hand.Hand.{Hand}
use Rattle.csp_posts.specs.Between.{is_home}
use Rattle.csp_standing.proofs.ListPlaces.{mapped_at, mapped_some}

-- an end after turns
pub record IsSideAfter (x y : PlainSide) : Type 0 where
  pub queue : y.queue ≡ x.queue
  pub node : y.node ≡ x.node
  pub lane : y.lane ≡ x.lane
  pub puts : y.puts ≡ x.puts
  pub room : y.end.room ≡ x.end.room

pub side_before : (room : ℕ) (more : List Entry) (e : PlainEnds) (a : ℕ) (y : PlainSide) → slice_get (ends_after_all room e more).sides a ≡ Some y
    → (x : PlainSide) × (slice_get e.sides a ≡ Some x) × IsSideAfter x y
side_before room [] e a y at = (y, at, record { queue = refl; node = refl; lane = refl; puts = refl; room = refl })
side_before room (m ∷ more) e a y at =
    let later : (z : PlainSide) × (slice_get (map (side_after e.sides m.op m.answer) e.sides) a ≡ Some z) × IsSideAfter z y = side_before room more (ends_after room m.op m.answer e) a y at in
    let first : (x : PlainSide) × (slice_get e.sides a ≡ Some x) × (side_after e.sides m.op m.answer x ≡ later.0) = mapped_at (side_after e.sides m.op m.answer) e.sides a later.0 later.1 in
    let rest : IsSideAfter (side_after e.sides m.op m.answer first.0) y = subst (λ z. IsSideAfter z y) (sym first.2) later.2 in
    (first.0, first.1, record { queue = rest.queue; node = rest.node; lane = rest.lane; puts = rest.puts; room = rest.room })

-- a pass of an inbox after turns
pub record IsPassAfter (x y : inbox.PlainPass) : Type 0 where
  pub role : y.role ≡ x.role
  pub floors : (p : Prio) → (inbox.mail_at x p).puts_floor ≤ (inbox.mail_at y p).puts_floor

-- a party's passes after turns
pub record IsHomeAfter (g h : PlainHome) : Type 0 where
  pub node : h.node ≡ g.node
  pub takes : g.pool.hand.takes.floor ≤ h.pool.hand.takes.floor
  pub puts : g.pool.hand.puts.floor ≤ h.pool.hand.puts.floor
  pub inbox : (y : inbox.PlainPass) → h.inbox ≡ Some y → (x : inbox.PlainPass) × (g.inbox ≡ Some x) × IsPassAfter x y

-- the mail of each priority after a turn
pub mail_post : (p : Prio) (o : OpShown) (a : AnswerShown) (x : inbox.PlainPass) → inbox.mail_at (post_after o a x) p ≡ mail_after x.role p o a (inbox.mail_at x p)
mail_post Critical o a x = refl
mail_post High o a x = refl
mail_post Normal o a x = refl
mail_post Low o a x = refl

floor_kept : (b : Bool) (n m : ℕ) → n ≤ cond b (max n m) n
floor_kept true n m = le-max_left n m
floor_kept false n m = le_refl n

pass_step : (o : OpShown) (a : AnswerShown) (x : inbox.PlainPass) → IsPassAfter x (post_after o a x)
pass_step o a x = record {
  role = refl;
  floors = λ p. subst (λ v. (inbox.mail_at x p).puts_floor ≤ v.puts_floor) (sym (mail_post p o a x))
      (floor_kept (is_crammed x.role p o a) (inbox.mail_at x p).puts_floor (x.role.room + inbox.known_gets (inbox.mail_at x p)));
}

takes_kept : (room : ℕ) (o : OpShown) (a : AnswerShown) (v : Hand) → v.takes.floor ≤ (hand_after room o a v).takes.floor
takes_kept room op.Take (answer.Taken b) v = le_refl v.takes.floor
takes_kept room op.Take answer.NoBuffer v = le-max_left v.takes.floor _
takes_kept room (op.Give b) answer.Given v = le_refl v.takes.floor
takes_kept room (op.Give b) (answer.PoolFull c) v = le_refl v.takes.floor
takes_kept room _ _ v = le_refl v.takes.floor

puts_kept : (room : ℕ) (o : OpShown) (a : AnswerShown) (v : Hand) → v.puts.floor ≤ (hand_after room o a v).puts.floor
puts_kept room op.Take (answer.Taken b) v = le_refl v.puts.floor
puts_kept room op.Take answer.NoBuffer v = le_refl v.puts.floor
puts_kept room (op.Give b) answer.Given v = le_refl v.puts.floor
puts_kept room (op.Give b) (answer.PoolFull c) v = le-max_left v.puts.floor _
puts_kept room _ _ v = le_refl v.puts.floor

home_same : (h : PlainHome) → IsHomeAfter h h
home_same h = record { node = refl; takes = le_refl _; puts = le_refl _; inbox = λ y at. (y, at, record { role = refl; floors = λ p. le_refl _ }) }

home_step : (room : ℕ) (o : OpShown) (a : AnswerShown) (h : PlainHome) → IsHomeAfter h (home_after room o a h)
home_step room o a h = record {
  node = refl;
  takes = takes_kept room o a h.pool.hand;
  puts = puts_kept room o a h.pool.hand;
  inbox = λ y at.
      let first : (x : inbox.PlainPass) × (h.inbox ≡ Some x) × (post_after o a x ≡ y) = mapped_some (post_after o a) h.inbox y at in
      (first.0, first.1, subst (IsPassAfter first.0) first.2 (pass_step o a first.0));
}

pass_chain : (x y z : inbox.PlainPass) → IsPassAfter x y → IsPassAfter y z → IsPassAfter x z
pass_chain x y z a b = record { role = b.role ∙ a.role; floors = λ p. le_trans (a.floors p) (b.floors p) }

home_chain : (f g h : PlainHome) → IsHomeAfter f g → IsHomeAfter g h → IsHomeAfter f h
home_chain f g h a b = record {
  node = b.node ∙ a.node;
  takes = le_trans a.takes b.takes;
  puts = le_trans a.puts b.puts;
  inbox = λ z at.
      let later : (y : inbox.PlainPass) × (g.inbox ≡ Some y) × IsPassAfter y z = b.inbox z at in
      let first : (x : inbox.PlainPass) × (f.inbox ≡ Some x) × IsPassAfter x later.0 = a.inbox later.0 later.1 in
      (first.0, first.1, pass_chain first.0 later.0 z first.2 later.2);
}

pub home_before : (room : ℕ) (more : List Entry) (e : PlainEnds) (h : PlainHome) → (ends_after_all room e more).home ≡ Some h → (g : PlainHome) × (e.home ≡ Some g) × IsHomeAfter g h
home_before room [] e h at = (h, at, home_same h)
home_before room (m ∷ more) e h at =
    let later : (g : PlainHome) × (option_map (home_after room m.op m.answer) e.home ≡ Some g) × IsHomeAfter g h = home_before room more (ends_after room m.op m.answer e) h at in
    let first : (f : PlainHome) × (e.home ≡ Some f) × (home_after room m.op m.answer f ≡ later.0) = mapped_some (home_after room m.op m.answer) e.home later.0 later.1 in
    (first.0, first.1, home_chain first.0 later.0 h (subst (IsHomeAfter first.0) first.2 (home_step room m.op m.answer first.0)) later.2)

-- a party's home is the one that it has
pub home_later : (room : ℕ) (more : List Entry) (e : PlainEnds) (g h : PlainHome) → e.home ≡ Some g → (ends_after_all room e more).home ≡ Some h → IsHomeAfter g h
home_later room more e g h at there =
    let b : (f : PlainHome) × (e.home ≡ Some f) × IsHomeAfter f h = home_before room more e h there in
    subst (λ f. IsHomeAfter f h) (ap (λ o. unwrap_or o g) (sym b.1 ∙ at)) b.2

node_step : (room : ℕ) (o : OpShown) (a : AnswerShown) (node : ℕ) (home : Option PlainHome) → is_home node (option_map (home_after room o a) home) ≡ is_home node home
node_step room o a node None = refl
node_step room o a node (Some h) = refl

-- and it is at its node still
pub node_kept : (room : ℕ) (more : List Entry) (e : PlainEnds) (node : ℕ) → is_home node (ends_after_all room e more).home ≡ is_home node e.home
node_kept room [] e node = refl
node_kept room (m ∷ more) e node = node_kept room more (ends_after room m.op m.answer e) node ∙ node_step room m.op m.answer node e.home

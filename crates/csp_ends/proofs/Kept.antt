-- What a turn keeps of what a party has in hand, whatever was asked and answered.
use Rattle.std.proofs.Common.{◌≡◌, ℕ, Bool, true, false, cond, Option, None, Some, List, [], ◌∷◌, map, slice_get, refl, sym, ap, subst, ◌∙◌}
use Rattle.std.specs.Prelude.{IfSome, IsSomeAnd, MatchOption, MatchResult, Result, Ok, Err}
use Rattle.std.specs.List.{AllByRecursion}
use Rattle.std.specs.Option.{option_map}
use Rattle.std.proofs.lemmas.Option.{same_Some, slice_get-map}
use Rattle.csp_arena.specs.Cells.{RegionName}
use Rattle.csp_consistent.specs.Reading.{is_queue}
use Rattle.csp_ends.specs.Ends.{PlainNodeQueues, PlainSide, PlainHome, PlainEnds, IsHomeOf, IsSideOf, AreOf, IsWithin, AreApart, AreEnds, region_of, region_or, inbox_of, side_named, rule_of}
use Rattle.csp_ends.proofs.Backs.{tallies_same}
use Rattle.csp_ends.specs.Moves.{side_after, hand_after, post_after, home_after, ends_after, room_for}
use Rattle.csp_ends.specs.Serving.{Serves}
use Rattle.csp_ends.specs.Sides.{IsBacked}
use Rattle.csp_ends.proofs.Lists.{there_then}
use Rattle.csp_inbox.specs.Passes as inbox
use Rattle.csp_lane.specs.Ends.{IsEndOf}
use Rattle.csp_log.specs.declared.places.QueueId.{QueueId}
use Rattle.csp_log.specs.declared.places.QueueId.TheVariants as queue
use Rattle.csp_log.specs.declared.places.Rule.{Rule}
use Rattle.csp_log.specs.declared.places.Rule.TheVariants as rule
use Rattle.csp_log.specs.declared.shown.AnswerShown.{AnswerShown}
use Rattle.csp_log.specs.declared.shown.AnswerShown.TheVariants as answer
use Rattle.csp_log.specs.declared.shown.OpShown.{OpShown}
use Rattle.csp_log.specs.declared.shown.OpShown.TheVariants as op
use Rattle.csp_pool.specs.PlainPool as pool
use Rattle.csp_pool.specs.declared.hand.Hand.{Hand}

-- the region of a pool's pass
hand_region : (room : ℕ) (o : OpShown) (a : AnswerShown) (v : Hand) → (hand_after room o a v).region ≡ v.region
hand_region room op.Take (answer.Taken b) v = refl
hand_region room op.Take answer.NoBuffer v = refl
hand_region room (op.Give b) answer.Given v = refl
hand_region room (op.Give b) (answer.PoolFull c) v = refl
hand_region room _ _ v = refl

home_region : (room : ℕ) (o : OpShown) (a : AnswerShown) (h : Option PlainHome) → region_or (option_map (home_after room o a) h) ≡ region_or h
home_region room o a None = refl
home_region room o a (Some h) = hand_region room o a h.pool.hand

pub region_kept : (room : ℕ) (o : OpShown) (a : AnswerShown) (e : PlainEnds) → region_of (ends_after room o a e) ≡ region_of e
region_kept room o a e = home_region room o a e.home

-- the room of its node's pool
pub room_kept : (nodes : List PlainNodeQueues) (room : ℕ) (o : OpShown) (a : AnswerShown) (h : Option PlainHome) → room_for nodes (option_map (home_after room o a) h) ≡ room_for nodes h
room_kept nodes room o a None = refl
room_kept nodes room o a (Some h) = refl

-- that its passes and ends are of these queues
home_kept : (nodes : List PlainNodeQueues) (room : ℕ) (o : OpShown) (a : AnswerShown) (h : Option PlainHome) → IfSome h (IsHomeOf nodes) → IfSome (option_map (home_after room o a) h) (IsHomeOf nodes)
home_kept nodes room o a None of_it = tt
home_kept nodes room o a (Some h) of_it =
    there_then (slice_get nodes h.node)
    (λ (q : PlainNodeQueues). pool.IsPassOf q.pool h.pool × IfSome h.inbox (inbox.IsPassOf q.inbox))
    (λ (q : PlainNodeQueues). pool.IsPassOf q.pool (home_after room o a h).pool × IfSome (option_map (post_after o a) h.inbox) (inbox.IsPassOf q.inbox))
    (λ q both. (both.0, posted q h.inbox both.1)) of_it
  where
    posted : (q : PlainNodeQueues) (x : Option inbox.PlainPass) → IfSome x (inbox.IsPassOf q.inbox) → IfSome (option_map (post_after o a) x) (inbox.IsPassOf q.inbox)
    posted q None is = tt
    posted q (Some x) is = record { inbox = is.inbox; room = is.room }

side_kept : (nodes : List PlainNodeQueues) (all : List PlainSide) (o : OpShown) (a : AnswerShown) (s : PlainSide) → IsSideOf nodes s → IsSideOf nodes (side_after all o a s)
side_kept nodes all o a s of_it =
    there_then (slice_get nodes s.node)
    (λ (q : PlainNodeQueues). IsSomeAnd (slice_get q.lanes s.lane) (λ l. IsEndOf l s.end))
    (λ (q : PlainNodeQueues). IsSomeAnd (slice_get q.lanes s.lane) (λ l. IsEndOf l (side_after all o a s).end))
    (λ q. there_then (slice_get q.lanes s.lane) (λ l. IsEndOf l s.end) (λ l. IsEndOf l (side_after all o a s).end) (λ l is. record { lane = is.lane; room = is.room; tally = is.tally; about = is.about })) of_it

-- what a turn keeps of each end, it keeps of all
each_kept : (P Q : PlainSide → Type 0) (all : List PlainSide) (o : OpShown) (a : AnswerShown) → ((s : PlainSide) → P s → Q (side_after all o a s)) → (sides : List PlainSide) → AllByRecursion P sides → AllByRecursion Q (map (side_after all o a) sides)
each_kept P Q all o a keeps [] each = tt
each_kept P Q all o a keeps (s ∷ sides) each = (keeps s each.0, each_kept P Q all o a keeps sides each.1)

pub of_it_kept : (nodes : List PlainNodeQueues) (room : ℕ) (o : OpShown) (a : AnswerShown) (e : PlainEnds) → AreOf nodes e → AreOf nodes (ends_after room o a e)
of_it_kept nodes room o a e of_it = record {
  home = home_kept nodes room o a e.home of_it.home;
  sides = each_kept (IsSideOf nodes) (IsSideOf nodes) e.sides o a (side_kept nodes e.sides o a) e.sides of_it.sides;
}

-- that they are what a party may have
inbox_kept : (region : RegionName) (room : ℕ) (o : OpShown) (a : AnswerShown) (h : Option PlainHome)
    → IfSome (inbox_of h) (λ p. p.role.token.name ≡ region) → IfSome (inbox_of (option_map (home_after room o a) h)) (λ p. p.role.token.name ≡ region)
inbox_kept region room o a None is = tt
inbox_kept region room o a (Some h) is = posted h.inbox is
  where
    posted : (x : Option inbox.PlainPass) → IfSome x (λ p. p.role.token.name ≡ region) → IfSome (option_map (post_after o a) x) (λ p. p.role.token.name ≡ region)
    posted None is = tt
    posted (Some x) is = is

-- where an end stands after a turn, one of its name stood before
stood : (all : List PlainSide) (o : OpShown) (a : AnswerShown) (x : Option PlainSide) (t : PlainSide) → option_map (side_after all o a) x ≡ Some t → (s : PlainSide) × (x ≡ Some s) × (s.queue ≡ t.queue)
stood all o a None t e = absurd cc
stood all o a (Some s) t e = (s, refl, ap (λ (y : PlainSide). y.queue) (same_Some (side_after all o a s) t e))

apart_kept : (all : List PlainSide) (o : OpShown) (a : AnswerShown) (sides : List PlainSide) → AreApart sides → AreApart (map (side_after all o a) sides)
apart_kept all o a sides apart = λ j k s t first second same.
    let (x, there, name) = stood all o a (slice_get sides j) s (sym (slice_get-map (side_after all o a) sides j) ∙ first) in
    let (y, here, called) = stood all o a (slice_get sides k) t (sym (slice_get-map (side_after all o a) sides k) ∙ second) in
    apart j k x y there here (ap (λ q. is_queue q y.queue) name ∙ ap (is_queue s.queue) called ∙ same)

pub whole_kept : (room : ℕ) (o : OpShown) (a : AnswerShown) (e : PlainEnds) → AreEnds e → AreEnds (ends_after room o a e)
whole_kept room o a e whole = record {
  within = subst (λ r. AllByRecursion (IsWithin r) (map (side_after e.sides o a) e.sides)) (sym (region_kept room o a e)) (each_kept (IsWithin (region_of e)) (IsWithin (region_of e)) e.sides o a (λ s is. is) e.sides whole.within);
  inbox = inbox_kept (region_of (ends_after room o a e)) room o a e.home (subst (λ r. IfSome (inbox_of e.home) (λ p. p.role.token.name ≡ r)) (sym (region_kept room o a e)) whole.inbox);
  lanes = each_kept (λ (s : PlainSide). is_queue queue.Inbox s.queue ≡ false) (λ (s : PlainSide). is_queue queue.Inbox s.queue ≡ false) e.sides o a (λ s is. is) e.sides whole.lanes;
  apart = apart_kept e.sides o a e.sides whole.apart;
  backed = each_kept (IsBacked e.sides) (IsBacked (map (side_after e.sides o a) e.sides)) e.sides o a
      (λ s is. is ∙ sym (tallies_same (side_after e.sides o a) (λ x. refl) (λ x. refl) (λ x. refl) s e.sides)) e.sides whole.backed;
}

-- what its queues carry
abbrev carried_by : Option PlainSide → Option Rule
carried_by x = option_map (λ s. rule.Lane s.end.carries) x

picked : (all : List PlainSide) (o : OpShown) (a : AnswerShown) (b : Bool) (s : PlainSide) (x y : Option PlainSide) → carried_by x ≡ carried_by y → carried_by (cond b (Some (side_after all o a s)) x) ≡ carried_by (cond b (Some s) y)
picked all o a true s x y e = refl
picked all o a false s x y e = e

sides_carry : (q : QueueId) (all : List PlainSide) (o : OpShown) (a : AnswerShown) (sides : List PlainSide) → carried_by (side_named q (map (side_after all o a) sides)) ≡ carried_by (side_named q sides)
sides_carry q all o a [] = refl
sides_carry q all o a (s ∷ sides) = picked all o a (is_queue q s.queue) s (side_named q (map (side_after all o a) sides)) (side_named q sides) (sides_carry q all o a sides)

posts_carry : (room : ℕ) (o : OpShown) (a : AnswerShown) (h : Option PlainHome) → option_map (λ _. rule.Inbox) (inbox_of (option_map (home_after room o a) h)) ≡ option_map (λ _. rule.Inbox) (inbox_of h)
posts_carry room o a None = refl
posts_carry room o a (Some h) = posted h.inbox
  where
    posted : (x : Option inbox.PlainPass) → option_map (λ _. rule.Inbox) (option_map (post_after o a) x) ≡ option_map (λ _. rule.Inbox) x
    posted None = refl
    posted (Some x) = refl

pub rules_kept : (room : ℕ) (o : OpShown) (a : AnswerShown) (e : PlainEnds) (q : QueueId) → rule_of (ends_after room o a e) q ≡ rule_of e q
rules_kept room o a e queue.Inbox = posts_carry room o a e.home
rules_kept room o a e (queue.Up k) = sides_carry (queue.Up k) e.sides o a e.sides
rules_kept room o a e (queue.Down k) = sides_carry (queue.Down k) e.sides o a e.sides
rules_kept room o a e (queue.Out k) = sides_carry (queue.Out k) e.sides o a e.sides
rules_kept room o a e (queue.Tx k) = sides_carry (queue.Tx k) e.sides o a e.sides
rules_kept room o a e (queue.Rx k) = sides_carry (queue.Rx k) e.sides o a e.sides

-- all of these, of one turn
pub record Keeps (nodes : List PlainNodeQueues) (d e : PlainEnds) : Type 0 where
  pub of_it : AreOf nodes e
  pub whole : AreEnds e
  pub region : region_of e ≡ region_of d
  pub rules : (q : QueueId) → rule_of e q ≡ rule_of d q

pub keeps : (nodes : List PlainNodeQueues) (d : PlainEnds) (o : OpShown) (a : AnswerShown) (e : PlainEnds) → Serves nodes d o a e → AreOf nodes d → AreEnds d → Keeps nodes d e
keeps nodes d o a e serves of_it whole =
    let room = room_for nodes d.home in
    subst (Keeps nodes d) (sym serves.ends) (record { of_it = of_it_kept nodes room o a d of_it; whole = whole_kept room o a d whole; region = region_kept room o a d; rules = rules_kept room o a d })

-- by whichever answer
pub option_keeps : {X : Type 0} (nodes : List PlainNodeQueues) (d : PlainEnds) (o : OpShown) (none : AnswerShown) (some : X → AnswerShown) (r : Option X) (e : PlainEnds)
    → MatchOption r (Serves nodes d o none e) (λ x. Serves nodes d o (some x) e) → AreOf nodes d → AreEnds d → Keeps nodes d e
option_keeps nodes d o none some None e serves of_it whole = keeps nodes d o none e serves of_it whole
option_keeps nodes d o none some (Some x) e serves of_it whole = keeps nodes d o (some x) e serves of_it whole

pub result_keeps : {X Y : Type 0} (nodes : List PlainNodeQueues) (d : PlainEnds) (o : OpShown) (ok : X → AnswerShown) (err : Y → AnswerShown) (r : Result X Y) (e : PlainEnds)
    → MatchResult r (λ x. Serves nodes d o (ok x) e) (λ y. Serves nodes d o (err y) e) → AreOf nodes d → AreEnds d → Keeps nodes d e
result_keeps nodes d o ok err (Ok x) e serves of_it whole = keeps nodes d o (ok x) e serves of_it whole
result_keeps nodes d o ok err (Err y) e serves of_it whole = keeps nodes d o (err y) e serves of_it whole

-- Turns leave what a party has in hand as it is, but for what went through it and what it found.
use Rattle.std.proofs.Common.{◌≡◌, ℕ, Option, None, Some, List, [], ◌∷◌, map, refl, ap, ◌∙◌}
use Rattle.std.specs.Option.{option_map}
use Rattle.csp_ends.proofs.Public.{of_it_kept, room_kept, whole_kept}
use Rattle.csp_ends.specs.Ends.{PlainNodeQueues, PlainSide, PlainHome, PlainEnds, AreOf, AreEnds}
use Rattle.csp_ends.specs.Moves.{side_after, hand_after, home_after, post_after, ends_after, ends_after_all, room_for}
use Rattle.csp_inbox.specs.Passes as inbox
use Rattle.csp_log.specs.declared.entry.Entry.{Entry}
use Rattle.csp_log.specs.declared.shown.AnswerShown.{AnswerShown}
use Rattle.csp_log.specs.declared.shown.AnswerShown.TheVariants as answer
use Rattle.csp_log.specs.declared.shown.OpShown.{OpShown}
use Rattle.csp_log.specs.declared.shown.OpShown.TheVariants as op
use Rattle.csp_pool.specs.declared.hand.Hand.{Hand}
use Rattle.csp_posts.specs.Still.{still_side, still_hand, still_inbox, still_home, still}

-- the hand of a pool's pass
hand_still : (room : ℕ) (o : OpShown) (a : AnswerShown) (v : Hand) → still_hand (hand_after room o a v) ≡ still_hand v
hand_still room op.Nothing a v = refl
hand_still room op.Take a v = taken a where
  taken : (a : AnswerShown) → still_hand (hand_after room op.Take a v) ≡ still_hand v
  taken (answer.Taken b) = refl
  taken answer.NoBuffer = refl
  taken _ = refl
hand_still room (op.Give b) a v = given a where
  given : (a : AnswerShown) → still_hand (hand_after room (op.Give b) a v) ≡ still_hand v
  given answer.Given = refl
  given (answer.PoolFull c) = refl
  given _ = refl
hand_still room (op.Push q i) a v = refl
hand_still room (op.Pop q) a v = refl

inbox_still : (o : OpShown) (a : AnswerShown) (x : Option inbox.PlainPass) → option_map still_inbox (option_map (post_after o a) x) ≡ option_map still_inbox x
inbox_still o a None = refl
inbox_still o a (Some x) = refl

-- the passes of a node
home_still : (room : ℕ) (o : OpShown) (a : AnswerShown) (h : Option PlainHome) → option_map still_home (option_map (home_after room o a) h) ≡ option_map still_home h
home_still room o a None = refl
home_still room o a (Some h) = ap (λ (k : PlainHome). Some k)
    (ap (λ (v : Hand). let k : PlainHome = record { node = h.node; pool = record { pool = h.pool.pool; hand = v }; inbox = option_map still_inbox (option_map (post_after o a) h.inbox) } in k) (hand_still room o a h.pool.hand)
    ∙ ap (λ (x : Option inbox.PlainPass). let k : PlainHome = record { node = h.node; pool = record { pool = h.pool.pool; hand = still_hand h.pool.hand }; inbox = x } in k) (inbox_still o a h.inbox))

sides_still : (ends : List PlainSide) (o : OpShown) (a : AnswerShown) (ss : List PlainSide) → map still_side (map (side_after ends o a) ss) ≡ map still_side ss
sides_still ends o a [] = refl
sides_still ends o a (s ∷ ss) = ap (λ (rest : List PlainSide). still_side s ∷ rest) (sides_still ends o a ss)

-- all of it, after one turn
still_after : (room : ℕ) (o : OpShown) (a : AnswerShown) (e : PlainEnds) → still (ends_after room o a e) ≡ still e
still_after room o a e =
    ap (λ (h : Option PlainHome). let k : PlainEnds = record { home = h; sides = map still_side (map (side_after e.sides o a) e.sides) } in k) (home_still room o a e.home)
    ∙ ap (λ (ss : List PlainSide). let k : PlainEnds = record { home = option_map still_home e.home; sides = ss } in k) (sides_still e.sides o a e.sides)

-- and after many
pub still_after_all : (room : ℕ) (e : PlainEnds) (es : List Entry) → still (ends_after_all room e es) ≡ still e
still_after_all room e [] = refl
still_after_all room e (x ∷ xs) = still_after_all room (ends_after room x.op x.answer e) xs ∙ still_after room x.op x.answer e

-- the room of its pool
pub room_after : (nodes : List PlainNodeQueues) (room : ℕ) (e : PlainEnds) (es : List Entry) → room_for nodes (ends_after_all room e es).home ≡ room_for nodes e.home
room_after nodes room e [] = refl
room_after nodes room e (x ∷ xs) = room_after nodes room (ends_after room x.op x.answer e) xs ∙ room_kept nodes room x.op x.answer e.home

-- it stays of the queues that it was of, and as every party's ends are
pub of_it_after_all : (nodes : List PlainNodeQueues) (room : ℕ) (e : PlainEnds) (es : List Entry) → AreOf nodes e → AreOf nodes (ends_after_all room e es)
of_it_after_all nodes room e [] g = g
of_it_after_all nodes room e (x ∷ xs) g = of_it_after_all nodes room (ends_after room x.op x.answer e) xs (of_it_kept nodes room x.op x.answer e g)

pub are_ends_after_all : (room : ℕ) (e : PlainEnds) (es : List Entry) → AreEnds e → AreEnds (ends_after_all room e es)
are_ends_after_all room e [] g = g
are_ends_after_all room e (x ∷ xs) g = are_ends_after_all room (ends_after room x.op x.answer e) xs (whole_kept room x.op x.answer e g)

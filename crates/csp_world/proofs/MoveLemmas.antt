-- Lemmas on the moves of a schedule that is stated step by step.
use Rattle.std.proofs.Common.{◌≡◌, ℕ, suc, ◌+◌, ◌<◌, ◌≤◌, List, [], ◌∷◌, length, map, cond, not, refl, sym, ◌∙◌, ap, arith, drop, get_or}
use Rattle.std.specs.List.{position_or_len}
use Rattle.std.proofs.Math.ListN.{drop_of_length-le}
use Rattle.std.proofs.Math.Seq.{drop-cons}
use Rattle.csp_log.specs.Who.{is_who}
use Rattle.csp_log.specs.declared.who.Who.{Who}
use Rattle.csp_scene.specs.declared.scenario.Move.{Move}
use Rattle.csp_scene.specs.declared.scenario.Move.TheVariants as move
use Rattle.csp_world.specs.World.{PlainWorld, entries}
use Rattle.csp_world.specs.Schedule.{names, place_named, moved, moves}
use Rattle.csp_world.proofs.ScheduleLemmas.{Steady, steady_turn}

-- a move keeps the parties' names, adds at most one entry, and completes at most one round
pub record Made (w v : PlainWorld) : Type 0 where
  pub names : names v ≡ names w
  pub time : v.time ≤ w.time + 1
  pub entries : entries v ≤ entries w + 1

made_turn : (w v : PlainWorld) → Steady w v → Made w v
made_turn w v s = record { names = s.names; time = omega (arith, s.time); entries = s.entries }

pub made_move : (w : PlainWorld) (m : Move) → Made w (moved w m)
made_move w move.Tick = record { names = refl; time = omega arith; entries = omega arith }
made_move w (move.Turn party) = made_turn w _ (steady_turn w (place_named (names w) party))

first_move : (w : PlainWorld) (m : Move) (ms : List Move) → moves w (m ∷ ms) ≡ moves (moved w m) ms
unfolding moves
first_move w m ms = refl

no_move : (w : PlainWorld) → moves w [] ≡ w
unfolding moves
no_move w = refl

-- one more move is made
pub move_made : (w v : PlainWorld) (ms : List Move) (i : ℕ) (d : Move) → i < length ms → v ≡ moved w (get_or ms i d) → moves v (drop (i + 1) ms) ≡ moves w (drop i ms)
move_made w v ms i d h e =
    let n : i + 1 ≡ suc i = omega arith in
    let next : drop (i + 1) ms ≡ drop (suc i) ms = ap (λ k. drop k ms) n in
    ap (λ u. moves u (drop (i + 1) ms)) e
    ∙ ap (moves (moved w (get_or ms i d))) next
    ∙ sym (first_move w (get_or ms i d) (drop (suc i) ms))
    ∙ sym (ap (moves w) (drop-cons ms i d h))

pub moves_done : (w : PlainWorld) (ms : List Move) (i : ℕ) → length ms ≤ i → moves w (drop i ms) ≡ w
moves_done w ms i h = ap (moves w) (drop_of_length-le ms h) ∙ no_move w

-- the place of the party of a name, among parties that are seen as others of the same names
pub place_seen : {X Y : Type 0} (party : Who) (who : X → Who) (other : Y → Who) (see : X → Y) (xs : List X) → ((x : X) → other (see x) ≡ who x)
    → position_or_len (λ x. is_who party (who x)) xs ≡ place_named (map other (map see xs)) party
place_seen party who other see [] same = refl
place_seen party who other see (x ∷ xs) same = rw (same x) (ap (λ n. cond (not (is_who party (who x))) (1 + n) 0) (place_seen party who other see xs same))

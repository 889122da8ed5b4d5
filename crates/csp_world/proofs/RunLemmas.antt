-- Lemmas on the rounds of a run.
use Rattle.csp_party.specs.Any.{is_done}
use Rattle.std.proofs.Common.{◌≡◌, ℕ, zero, suc, ◌+◌, ◌-◌, ◌/◌, ◌<◌, ◌≤◌, true, false, None, Some, [], refl, sym, ◌∙◌, ap, arith, List, ◌∷◌, length, sum_by}
use Rattle.std.specs.Prelude.{nat_le}
use Rattle.std.specs.List.{list_all}
use Rattle.std.proofs.lemmas.Bool.{false≢true}
use Rattle.std.proofs.lemmas.Grind.{common_steps}
use Rattle.std.proofs.lemmas.List.Sums.{sum_by-cons}
use Rattle.csp_log.specs.Weights.{answer_bytes, op_bytes, weight_of, weight_of_all}
use Rattle.csp_log.specs.declared.entry.Entry.{Entry}
use Rattle.csp_log.specs.declared.weights.TheConstants.{WEIGHT_BYTES}
use Rattle.csp_scene.specs.Scene.{PlainScene}
use Rattle.csp_world.specs.declared.limits.TheConstants.{MAX_ENTRIES}
use Rattle.csp_world.specs.declared.rounds.Order.{Order}
use Rattle.csp_record.specs.Record.{PlainRecord}
use Rattle.csp_world.specs.Record.{record_of, sim_record}
use Rattle.csp_world.specs.Schedule.{next_order, round, rounds, run, run_as, run_rounds, run_moves}
use Rattle.csp_world.specs.World.{PlainMember, PlainWorld, finished, entries, weight}
use Rattle.csp_world.specs.Opening.{opening}

-- each entry weighs one at least
log_weighs : (es : List Entry) → length es ≤ weight_of_all es
log_weighs [] = omega arith
log_weighs (e ∷ es) = added (length es) (weight_of_all es) (weight_of_all (e ∷ es)) ((op_bytes e.op + answer_bytes e.answer) / WEIGHT_BYTES) (log_weighs es) (sum_by-cons weight_of e es)
  where
    added : (n m all more : ℕ) → n ≤ m → all ≡ 1 + more + m → suc n ≤ all
    added n m all more h e = omega (arith, h, e)

-- so there are no more entries than they weigh
pub entries_weigh : (w : PlainWorld) → entries w ≤ weight w
entries_weigh w = logs_weigh w.members
  where
    added : (a b c d e f : ℕ) → a ≤ b → c ≤ d → e ≡ a + c → f ≡ b + d → e ≤ f
    added a b c d e f h k p q = omega (arith, h, k, p, q)

    logs_weigh : (ms : List PlainMember) → sum_by (λ m. length m.entries) ms ≤ sum_by (λ m. weight_of_all m.entries) ms
    logs_weigh [] = omega arith
    logs_weigh (m ∷ ms) =
        added (length m.entries) (weight_of_all m.entries) (sum_by (λ (p : PlainMember). length p.entries) ms) (sum_by (λ (p : PlainMember). weight_of_all p.entries) ms) _ _ (log_weighs m.entries) (logs_weigh ms)
        (sum_by-cons (λ (p : PlainMember). length p.entries) m ms) (sum_by-cons (λ (p : PlainMember). weight_of_all p.entries) m ms)

-- where every application has ended before the first round, none is made
pub run_at_once : (most : ℕ) (o : Order) (w : PlainWorld) → finished w ≡ true → run_rounds most o w ≡ Some w
unfolding run_rounds
run_at_once most o w f = rw f refl

-- any other run is its rounds
pub run_later : (most : ℕ) (o : Order) (w : PlainWorld) → finished w ≡ false → rounds most o w ≡ run_rounds most o w
unfolding run_rounds
run_later most o w f = rw f refl

rounds_zero : (o : Order) (w : PlainWorld) → rounds zero o w ≡ Some w
unfolding rounds
rounds_zero o w = refl

pub rounds_over : (n : ℕ) (o : Order) (w : PlainWorld) → n ≡ 0 → rounds n o w ≡ Some w
rounds_over n o w e = ap (λ k. rounds k o w) e ∙ rounds_zero o w

finished_suc : (n : ℕ) (o : Order) (w : PlainWorld) → finished (round o w) ≡ true → rounds (suc n) o w ≡ Some (round o w)
unfolding rounds
finished_suc n o w f = rw f refl

limit_suc : (n : ℕ) (o : Order) (w : PlainWorld) → finished (round o w) ≡ false → nat_le MAX_ENTRIES (weight (round o w)) ≡ true → rounds (suc n) o w ≡ None
unfolding rounds
limit_suc n o w f h = rw (f, h) refl

on_suc : (n : ℕ) (o : Order) (w : PlainWorld) → finished (round o w) ≡ false → nat_le MAX_ENTRIES (weight (round o w)) ≡ false → rounds (suc n) o w ≡ rounds n (next_order (length w.members) o) (round o w)
unfolding rounds
on_suc n o w f h = rw (f, h) refl

-- after a round every application has ended
pub round_finished : (most i : ℕ) (o : Order) (w v : PlainWorld) → i < most → v ≡ round o w → finished v ≡ true → rounds (most - i) o w ≡ Some v
round_finished most i o w v h e f =
    let n : most - i ≡ suc (most - (i + 1)) = omega arith in
    ap (λ k. rounds k o w) n ∙ finished_suc (most - (i + 1)) o w (ap finished (sym e) ∙ f) ∙ ap Some (sym e)

-- after a round the logs have reached the limit
pub round_limit : (most i : ℕ) (o : Order) (w v : PlainWorld) → i < most → v ≡ round o w → finished v ≡ false → MAX_ENTRIES ≤ weight v → rounds (most - i) o w ≡ None
round_limit most i o w v h e f full =
    let n : most - i ≡ suc (most - (i + 1)) = omega arith in
    let at : nat_le MAX_ENTRIES (weight v) ≡ true = grind (arith, common_steps) in
    ap (λ k. rounds k o w) n ∙ limit_suc (most - (i + 1)) o w (ap finished (sym e) ∙ f) (ap (λ u. nat_le MAX_ENTRIES (weight u)) (sym e) ∙ at)

-- after a round neither is so: the rounds that are left go on from there
pub round_on : (most i : ℕ) (o p : Order) (w v : PlainWorld) → i < most → v ≡ round o w → p ≡ next_order (length w.members) o → finished v ≡ false → weight v < MAX_ENTRIES → rounds (most - (i + 1)) p v ≡ rounds (most - i) o w
round_on most i o p w v h e next f few =
    let n : most - i ≡ suc (most - (i + 1)) = omega arith in
    let at : nat_le MAX_ENTRIES (weight v) ≡ false = grind (arith, common_steps) in
    ap (rounds (most - (i + 1)) p) e
    ∙ ap (λ q. rounds (most - (i + 1)) q (round o w)) next
    ∙ sym (ap (λ k. rounds k o w) n ∙ on_suc (most - (i + 1)) o w (ap finished (sym e) ∙ f) (ap (λ u. nat_le MAX_ENTRIES (weight u)) (sym e) ∙ at))

-- some application has not ended, so there is a party
pub some_parties : (w : PlainWorld) → finished w ≡ false → 0 < length w.members
some_parties w f = by_case w.members f where
  by_case : (ms : List PlainMember) → list_all (λ m. is_done m.party) ms ≡ false → 0 < length ms
  by_case [] f = absurd (false≢true (sym f))
  by_case (m ∷ ms) f = omega arith

-- after the moves
pub moves_finished : (w : PlainWorld) → finished w ≡ true → run_moves w ≡ Some w
unfolding run_moves
moves_finished w f = rw f refl

pub moves_limit : (w : PlainWorld) → finished w ≡ false → MAX_ENTRIES ≤ weight w → run_moves w ≡ None
unfolding run_moves
moves_limit w f full =
    let at : nat_le MAX_ENTRIES (weight w) ≡ true = grind (arith, common_steps) in
    rw (f, at) refl

pub moves_over : (w : PlainWorld) → finished w ≡ false → weight w < MAX_ENTRIES → run_moves w ≡ Some w
unfolding run_moves
moves_over w f few =
    let at : nat_le MAX_ENTRIES (weight w) ≡ false = grind (arith, common_steps) in
    rw (f, at) refl

-- a scene's run is that of its schedule from its opening
pub run_from : (scene : PlainScene) (w : PlainWorld) → w ≡ opening scene → run scene ≡ run_as scene.schedule scene.until w
unfolding run
run_from scene w e = ap (run_as scene.schedule scene.until) (sym e)

-- the record of a run's last world
pub recorded : (scene : PlainScene) (w : PlainWorld) (r : PlainRecord) → run scene ≡ Some w → r ≡ record_of w → sim_record scene ≡ Some r
unfolding sim_record
recorded scene w r e s = rw e (ap Some (sym s))

pub not_recorded : (scene : PlainScene) → run scene ≡ None → sim_record scene ≡ None
unfolding sim_record
not_recorded scene e = rw e refl

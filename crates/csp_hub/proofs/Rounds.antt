-- a hub that has nothing to do looks into the queues of its ends, once round the circle
use Rattle.std.proofs.Common.{◌≡◌, ℕ, zero, suc, ◌+◌, ◌-◌, ◌<◌, ◌≤◌, Bool, true, false, ◌&&◌, Option, Some, None, List, [], ◌∷◌, ◌++◌, length, get_or, refl, sym, ap, ◌∙◌, subst, arith}
use Rattle.std.specs.List.{list_all, range_with_len, remove}
use Rattle.std.specs.Prelude.{All, IsSome, is_none, slice_set, if◌then◌else◌}
use Rattle.std.proofs.lemmas.Bool.{le-ltb, lt-ltb}
use Rattle.std.proofs.lemmas.List.{set-get_or}
use Rattle.std.proofs.lemmas.List.Elements.{All-append, All-map, All-nil}
use Rattle.std.proofs.lemmas.List.FromFn.{get_or-range_with_len, length-range_with_len}
use Rattle.csp_deck.specs.Circles.{IsLook, LooksInto, state_missed}
use Rattle.csp_deck.specs.Runs.{Steps}
use Rattle.csp_hub.specs.Applied.{hub_steps}
use Rattle.csp_hub.specs.Asking.{doing_of, op_of, without}
use Rattle.csp_hub.specs.Circling.{circle, between_turns, sources}
use Rattle.csp_hub.specs.PlainHub.{PlainEnd, PlainHub, end_at, next_end, no_end, uses}
use Rattle.csp_hub.specs.Planning.{first_rule, has_room, is_idle}
use Rattle.csp_hub.specs.Room.{IsHub}
use Rattle.csp_hub.specs.Telling.{tells}
use Rattle.csp_hub.specs.declared.doing.Doing.{Doing}
use Rattle.csp_hub.specs.declared.doing.Doing.TheVariants as doing
use Rattle.csp_link.specs.Holding.{first_due}
use Rattle.csp_link.specs.declared.held.Held.{Held}
use Rattle.csp_log.specs.declared.places.QueueId.{QueueId}
use Rattle.csp_log.specs.declared.places.QueueId.TheVariants as queue
use Rattle.csp_log.specs.declared.shown.AnswerShown.TheVariants as answer
use Rattle.csp_hub.proofs.Others.{both}
use Rattle.csp_hub.proofs.Sound.{lane_there}

-- looks one after the other
looks_both : (p : Steps PlainHub) (now : ℕ) (s u t : PlainHub) (qs rs : List QueueId) → LooksInto p now s qs u → LooksInto p now u rs t → LooksInto p now s (qs ++ rs) t
looks_both p now s u t [] rs same later = subst (λ (x : PlainHub). LooksInto p now x rs t) (sym same) later
looks_both p now s u t (q ∷ qs) rs looks later = (looks.0, looks_both p now (state_missed p now s) u t qs rs looks.1 later)

none_is : {X : Type 0} (o : Option X) → is_none o ≡ true → o ≡ None
none_is None e = refl
none_is (Some x) e = absurd cc

-- ---- with room at every end, and nothing that is due

all_rooms : (now : ℕ) (es : List PlainEnd) → list_all (is_idle now) es ≡ true → list_all has_room es ≡ true
all_rooms now [] e = refl
all_rooms now (x ∷ xs) e =
    let parts = both (is_idle now x) (list_all (is_idle now) xs) e in
    let here = (both (has_room x) (is_none (first_due now x.held)) parts.0).0 in
    ap (λ b. b && list_all has_room xs) here ∙ all_rooms now xs parts.1

other_rooms : (k : ℕ) (es : List PlainEnd) → list_all has_room es ≡ true → list_all has_room (remove es k) ≡ true
other_rooms zero [] e = refl
other_rooms (suc k) [] e = refl
other_rooms zero (x ∷ xs) e = (both (has_room x) (list_all has_room xs) e).1
other_rooms (suc k) (x ∷ xs) e = let parts = both (has_room x) (list_all has_room xs) e in ap (λ b. b && list_all has_room (remove xs k)) parts.0 ∙ other_rooms k xs parts.1

none_due_at : (now k : ℕ) (es : List PlainEnd) → list_all (is_idle now) es ≡ true → first_due now (end_at k es).held ≡ None
none_due_at now k [] e = refl
none_due_at now zero (x ∷ xs) e = none_is (first_due now x.held) (both (has_room x) (is_none (first_due now x.held)) (both (is_idle now x) (list_all (is_idle now) xs) e).0).1
none_due_at now (suc k) (x ∷ xs) e = none_due_at now k xs (both (is_idle now x) (list_all (is_idle now) xs) e).1

module _ (now : ℕ) (es : List PlainEnd) (idle : list_all (is_idle now) es ≡ true) where
  -- between two turns, with this end to be served
  abbrev resting : ℕ → PlainHub
  resting k = record { ends = es; serving = k; doing = doing.Rest }

  abbrev missed_by : ℕ → Option (ℕ × Held) → Bool → PlainHub
  missed_by k found few = tells (record { ends = slice_set es k (without found (end_at k es)); serving = k; doing = doing_of (first_rule found few) }) now answer.Empty

  room : (k : ℕ) → list_all has_room (remove es k) ≡ true
  room k = other_rooms k es (all_rooms now es idle)

  -- it looks into the queue of that end, and then the next one is to be served
  look : (k : ℕ) → IsLook hub_steps now (resting k) (queue.Tx k)
  look k = record {
    goes_on = refl;
    asks = λ i. op_of k (first_rule (none_due_at now k es idle i) (room k i));
    events = refl;
  }

  missed : (k : ℕ) → state_missed hub_steps now (resting k) ≡ resting (next_end (length es) k)
  missed k =
      (λ i. missed_by k (none_due_at now k es idle i) (room k i))
      ∙ ap (λ (xs : List PlainEnd). record { ends = xs; serving = next_end (length xs) k; doing = doing.Rest }) (set-get_or es k no_end)

  next_up : (k : ℕ) → k + 1 < length es → state_missed hub_steps now (resting k) ≡ resting (k + 1)
  next_up k within = missed k ∙ ap (λ b. resting (if b then k + 1 else 0)) (lt-ltb (k + 1) (length es) within)

  next_first : (k : ℕ) → length es ≤ k + 1 → state_missed hub_steps now (resting k) ≡ resting 0
  next_first k past = missed k ∙ ap (λ b. resting (if b then k + 1 else 0)) (le-ltb (k + 1) (length es) past)

  -- from an end on to the last
  to_last : (m k : ℕ) → k + suc m ≡ length es → LooksInto hub_steps now (resting k) (sources k (suc m)) (resting 0)
  to_last zero k e = (look k, next_first k (omega (arith, e)))
  to_last (suc m) k e =
      (look k, subst (λ (x : PlainHub). LooksInto hub_steps now x (sources (k + 1) (suc m)) (resting 0)) (sym (next_up k (omega (arith, e)))) (to_last m (k + 1) (omega (arith, e))))

  -- and from the first on
  up_to : (m k : ℕ) → k + m < length es → LooksInto hub_steps now (resting k) (sources k m) (resting (k + m))
  up_to zero k within = let same : k ≡ k + 0 = omega arith in ap resting same
  up_to (suc m) k within =
      let same : k + 1 + m ≡ k + suc m = omega arith in (
        look k,
        subst (λ (x : PlainHub). LooksInto hub_steps now x (sources (k + 1) m) (resting (k + suc m))) (sym (next_up k (omega (arith, within))))
            (subst (λ j. LooksInto hub_steps now (resting (k + 1)) (sources (k + 1) m) (resting j)) same (up_to m (k + 1) (omega (arith, within)))),
      )

  once_round : (k : ℕ) → k < length es → LooksInto hub_steps now (resting k) (sources k (length es - k) ++ sources 0 k) (resting k)
  once_round k within =
      let rest : suc (length es - k - 1) ≡ length es - k = omega (arith, within) in
      let same : 0 + k ≡ k = omega arith in
      looks_both hub_steps now (resting k) (resting 0) (resting k) (sources k (length es - k)) (sources 0 k)
      (subst (λ n. LooksInto hub_steps now (resting k) (sources k n) (resting 0)) rest (to_last (length es - k - 1) k (omega (arith, within))))
      (subst (λ j. LooksInto hub_steps now (resting 0) (sources 0 k) (resting j)) same (up_to k 0 (omega (arith, within))))

looks_by : (now k : ℕ) (es : List PlainEnd) (d : Doing) (b : Bool) → list_all (is_idle now) es ≡ b → k < length es
    → LooksInto hub_steps now (record { ends = es; serving = k; doing = d }) (between_turns d b (length es) k) (record { ends = es; serving = k; doing = d })
looks_by now k es doing.Rest true idle within = once_round now es idle k within
looks_by now k es doing.Rest false idle within = refl
looks_by now k es (doing.Push _ _) b idle within = refl
looks_by now k es doing.Pop b idle within = refl
looks_by now k es doing.Wait b idle within = refl

-- the queues of the circle are looked into, and all of them are its own
pub circle_looks : (h : PlainHub) (now : ℕ) → IsHub h → LooksInto hub_steps now h (circle h now) h
circle_looks h now hub = looks_by now h.serving h.ends h.doing (list_all (is_idle now) h.ends) refl hub.serving

used_from : (h : PlainHub) (first many : ℕ) → first + many ≤ length h.ends → All (λ q. IsSome (uses h q)) (sources first many)
used_from h first many within =
    All-map (λ q. IsSome (uses h q)) queue.Tx (range_with_len first many)
    (λ i d inside.
    let long = length-range_with_len first many in
    let is = get_or-range_with_len first many i d (omega (arith, long, inside)) in
    subst (λ r. IsSome r) (sym (lane_there (length h.ends) (get_or (range_with_len first many) i d) (omega (arith, is, long, inside, within)))) refl)

used_by : (h : PlainHub) (d : Doing) (b : Bool) → h.serving < length h.ends → All (λ q. IsSome (uses h q)) (between_turns d b (length h.ends) h.serving)
used_by h doing.Rest true within =
    All-append (λ q. IsSome (uses h q)) (sources h.serving (length h.ends - h.serving)) (sources 0 h.serving)
    (used_from h h.serving (length h.ends - h.serving) (omega (arith, within))) (used_from h 0 h.serving (omega (arith, within)))
used_by h doing.Rest false within = All-nil (λ q. IsSome (uses h q))
used_by h (doing.Push _ _) b within = All-nil (λ q. IsSome (uses h q))
used_by h doing.Pop b within = All-nil (λ q. IsSome (uses h q))
used_by h doing.Wait b within = All-nil (λ q. IsSome (uses h q))

pub circle_used : (h : PlainHub) (now : ℕ) → IsHub h → All (λ q. IsSome (uses h q)) (circle h now)
circle_used h now hub = used_by h h.doing (list_all (is_idle now) h.ends) hub.serving

-- a turn of a hub makes of what it pops what the plan says, and loses nothing of what it holds
use Rattle.std.proofs.Common.{◌≡◌, ◌≢◌, ℕ, zero, suc, ◌+◌, ◌<◌, Bool, true, false, eqb, Option, Some, None, List, [], ◌∷◌, ◌++◌, map, take, drop, length, refl, sym, ap, ◌∙◌, subst, arith}
use Rattle.std.specs.List.{list_all, remove}
use Rattle.std.specs.List.Sorted.{IsPermutation}
use Rattle.std.specs.Prelude.{nat_le, slice_set, if◌then◌else◌}
use Rattle.std.proofs.lemmas.Bool.{eqb-true, eqb-false}
use Rattle.std.proofs.lemmas.List.{append_assoc, append-nil, get_or-map, get_or-set_other, get_or-set_same, length-append, length-set, map-append, set-get_or, set-set}
use Rattle.std.proofs.lemmas.List.Concat.{flat_map-append}
use Rattle.std.proofs.lemmas.List.FromFn.{get_or-map-range_with_len, length-map-range_with_len}
use Rattle.std.proofs.lemmas.List.Sorted.{IsPermutation-refl, IsPermutation-trans, IsPermutation-append_left, IsPermutation-append_right, IsPermutation-middle}
use Rattle.csp_deck.specs.Runs.{IsRun, IsStep, Runs, state_after, step_after}
use Rattle.csp_hub.specs.Applied.{AppliesPlan, hub_steps, popped_by, pushed_by, made_of, made_after, frames_popped, frames_pushed}
use Rattle.csp_hub.specs.Asking.{asked, doing_of, op_of, without}
use Rattle.csp_hub.specs.PlainHub.{PlainEnd, PlainHub, end_at, no_end, opening, opening_end, others, served, with_served}
use Rattle.csp_hub.specs.Planning.{first_rule, has_room}
use Rattle.csp_hub.specs.Telling.{fate_of_next, copies_held, held_for_others, kept, sent, tells, after_answer}
use Rattle.csp_link.specs.Applied.{frames_in}
use Rattle.csp_link.specs.Copies.{copies_of, held_copies, held_until}
use Rattle.csp_link.specs.Fates.{fate_at, fate_of, fates_of}
use Rattle.csp_link.specs.Holding.{first_due}
use Rattle.csp_link.specs.Turns.{frame_in}
use Rattle.csp_link.specs.declared.fates.Fate.{Fate}
use Rattle.csp_link.specs.declared.fault.Fault.{Fault}
use Rattle.csp_link.specs.declared.held.Held.{Held}
use Rattle.csp_link.proofs.Public.{Stands, stands, fates_are}
use Rattle.csp_log.specs.Pictures.{Fits}
use Rattle.csp_log.specs.declared.entry.Entry.{Entry}
use Rattle.csp_log.specs.declared.frame.Frame.{Frame}
use Rattle.csp_log.specs.declared.shown.ItemShown.{ItemShown}
use Rattle.csp_log.specs.declared.shown.ItemShown.TheVariants as item
use Rattle.csp_log.specs.declared.shown.AnswerShown.{AnswerShown}
use Rattle.csp_log.specs.declared.shown.AnswerShown.TheVariants as answer
use Rattle.csp_hub.proofs.Ends.{as_many, fates_asked, fates_tells}
use Rattle.csp_hub.proofs.Sound.{next_there}

-- ---- one end

-- one end led to the other: these frames were popped from it, those were made for it, and these were pushed to it
pub record Went (a b : PlainEnd) (popped made pushed : List Frame) : Type 0 where
  pub fates : b.fates ≡ a.fates
  pub count : b.popped ≡ a.popped + length popped
  pub same : IsPermutation (frames_in a.held ++ made) (pushed ++ frames_in b.held)

nothing_made : (e : PlainEnd) → IsPermutation (frames_in e.held ++ []) (frames_in e.held)
nothing_made e = subst (λ fs. IsPermutation fs (frames_in e.held)) (sym (append-nil (frames_in e.held))) (IsPermutation-refl (frames_in e.held))

went_none : (e : PlainEnd) → Went e e [] [] []
went_none e = record { fates = refl; count = omega arith; same = nothing_made e }

-- a held frame is pushed
went_pushed : (e : PlainEnd) (place : ℕ) (h : Held) → Stands e.held place h → Went e (without (Some (place, h)) e) [] [] (h.frame ∷ [])
went_pushed e place h stood =
    let front : List Held = take place e.held in
    let back : List Held = drop (suc place) e.held in
    let cut : frames_in e.held ++ [] ≡ frames_in front ++ h.frame ∷ frames_in back =
    append-nil (frames_in e.held) ∙ ap frames_in (sym stood.parts) ∙ map-append (λ (x : Held). x.frame) front (h ∷ back) in
    record {
      fates = refl;
      count = omega arith;
      same = subst (λ fs. IsPermutation fs (h.frame ∷ frames_in (remove e.held place))) (sym cut)
          (subst (λ fs. IsPermutation (frames_in front ++ h.frame ∷ frames_in back) (h.frame ∷ fs)) (sym (map-append (λ (x : Held). x.frame) front back))
          (IsPermutation-middle (frames_in front) h.frame (frames_in back)));
    }

-- a frame is popped from it
went_sent : (e : PlainEnd) (f : Frame) → Went e (sent e) (f ∷ []) [] []
went_sent e f = record { fates = refl; count = omega arith; same = nothing_made e }

frames_held : (due : ℕ) (frames : List Frame) → frames_in (map (held_until due) frames) ≡ frames
frames_held due [] = refl
frames_held due (f ∷ fs) = ap (λ gs. f ∷ gs) (frames_held due fs)

-- copies of a frame are held for it
went_heard : (e : PlainEnd) (fate : Fate) (now : ℕ) (f : Frame) → Went e (copies_held (held_copies fate now f) e) [] (copies_of fate f) []
went_heard e fate now f =
    let all : frames_in e.held ++ copies_of fate f ≡ frames_in (e.held ++ held_copies fate now f) =
    ap (λ fs. frames_in e.held ++ fs) (sym (frames_held (now + fate.delay) (copies_of fate f))) ∙ sym (map-append (λ (x : Held). x.frame) e.held (held_copies fate now f)) in
    record {
      fates = refl;
      count = omega arith;
      same = subst (λ fs. IsPermutation fs (frames_in (e.held ++ held_copies fate now f))) (sym all) (IsPermutation-refl (frames_in (e.held ++ held_copies fate now f)));
    }

-- a frame comes back into its place
kept_same : (e : PlainEnd) (place : ℕ) (h : Held) (i : ItemShown) → Stands e.held place h → i ≡ item.Frame h.frame → kept place h.due (frame_in i) (without (Some (place, h)) e) ≡ e
kept_same e place h i stood is =
    ap (λ x. kept place h.due (frame_in x) (without (Some (place, h)) e)) is ∙ ap (λ (hs : List Held). record e { held = hs }) stood.back

-- ---- among the others

at_set_same : (k : ℕ) (es : List PlainEnd) (e : PlainEnd) → k < length es → end_at k (slice_set es k e) ≡ e
at_set_same k es e within = get_or-set_same es k e no_end within

at_set_other : (k j : ℕ) (es : List PlainEnd) (e : PlainEnd) → k ≢ j → end_at j (slice_set es k e) ≡ end_at j es
at_set_other k j es e apart = get_or-set_other es k j e no_end (λ same. apart (sym same))

at_own : (k : ℕ) (copies : List Held) (es : List PlainEnd) → end_at k (held_for_others k copies es) ≡ end_at k es
at_own k copies [] = refl
at_own zero copies (e ∷ es) = refl
at_own (suc k) copies (e ∷ es) = at_own k copies es

at_other : (k j : ℕ) (copies : List Held) (es : List PlainEnd) → k ≢ j → j < length es → end_at j (held_for_others k copies es) ≡ copies_held copies (end_at j es)
at_other k j copies [] apart within = absurd (omega arith)
at_other zero zero copies (e ∷ es) apart within = absurd (apart refl)
at_other zero (suc j) copies (e ∷ es) apart within = get_or-map (copies_held copies) es j no_end no_end (omega arith)
at_other (suc k) zero copies (e ∷ es) apart within = refl
at_other (suc k) (suc j) copies (e ∷ es) apart within = at_other k j copies es (λ same. apart (ap suc same)) (omega arith)

-- what holds of the end that is served and of every other holds of each
each : (s k : ℕ) (P : ℕ → Bool → Type 0) → P s true → (s ≢ k → P k false) → P k (eqb s k)
each s k P own other = by (eqb s k) refl
  where
    by : (b : Bool) → eqb s k ≡ b → P k b
    by true e = subst (λ j. P j true) (eqb-true s k e) own
    by false e = other (eqb-false s k e)

-- an end where a list is as another
went_alike : (k : ℕ) (es fs : List PlainEnd) → fs ≡ es → Went (end_at k es) (end_at k fs) [] [] []
went_alike k es fs same = subst (λ (gs : List PlainEnd). Went (end_at k es) (end_at k gs) [] [] []) (sym same) (went_none (end_at k es))

-- a held frame of the end that is served is pushed
pushed_at : (s k place : ℕ) (h : Held) (es : List PlainEnd) → s < length es → Stands (end_at s es).held place h
    → Went (end_at k es) (end_at k (slice_set es s (without (Some (place, h)) (end_at s es)))) [] [] (if eqb s k then h.frame ∷ [] else [])
pushed_at s k place h es within stood =
    let next : List PlainEnd = slice_set es s (without (Some (place, h)) (end_at s es)) in
    each s k (λ j b. Went (end_at j es) (end_at j next) [] [] (if b then h.frame ∷ [] else []))
    (subst (λ (e : PlainEnd). Went (end_at s es) e [] [] (h.frame ∷ [])) (sym (at_set_same s es (without (Some (place, h)) (end_at s es)) within)) (went_pushed (end_at s es) place h stood))
    (λ apart. subst (λ (e : PlainEnd). Went (end_at k es) e [] [] []) (sym (at_set_other s k es (without (Some (place, h)) (end_at s es)) apart)) (went_none (end_at k es)))

-- it comes back
back_at : (s place : ℕ) (h : Held) (i : ItemShown) (es : List PlainEnd) → s < length es → Stands (end_at s es).held place h → i ≡ item.Frame h.frame
    → let out : List PlainEnd = slice_set es s (without (Some (place, h)) (end_at s es)) in slice_set out s (kept place h.due (frame_in i) (end_at s out)) ≡ es
back_at s place h i es within stood is =
    let gone : PlainEnd = without (Some (place, h)) (end_at s es) in
    ap (λ (e : PlainEnd). slice_set (slice_set es s gone) s (kept place h.due (frame_in i) e)) (at_set_same s es gone within)
    ∙ set-set es s gone (kept place h.due (frame_in i) gone)
    ∙ ap (λ (e : PlainEnd). slice_set es s e) (kept_same (end_at s es) place h i stood is)
    ∙ set-get_or es s no_end

-- a frame is popped from the end that is served
popped_at : (s k now : ℕ) (f : Frame) (fate : Fate) (es : List PlainEnd) → s < length es → k < length es → fate ≡ fate_of_next (end_at s es)
    → Went (end_at k es) (end_at k (held_for_others s (held_copies (fate_of_next (end_at s es)) now f) (slice_set es s (sent (end_at s es)))))
    (if eqb s k then f ∷ [] else []) (if eqb s k then [] else copies_of fate f) []
popped_at s k now f fate es within inside is =
    let copies : List Held = held_copies (fate_of_next (end_at s es)) now f in
    let after : List PlainEnd = slice_set es s (sent (end_at s es)) in
    let next : List PlainEnd = held_for_others s copies after in
    each s k (λ j b. Went (end_at j es) (end_at j next) (if b then f ∷ [] else []) (if b then [] else copies_of fate f) [])
    (subst (λ (e : PlainEnd). Went (end_at s es) e (f ∷ []) [] []) (sym (at_own s copies after ∙ at_set_same s es (sent (end_at s es)) within)) (went_sent (end_at s es) f))
    (λ apart.
    let long : k < length after = (let same = length-set es s (sent (end_at s es)) in omega (arith, same, inside)) in
    subst (λ (e : PlainEnd). Went (end_at k es) e [] (copies_of fate f) []) (sym (at_other s k copies after apart long ∙ ap (copies_held copies) (at_set_other s k es (sent (end_at s es)) apart)))
    (subst (λ (x : Fate). Went (end_at k es) (copies_held copies (end_at k es)) [] (copies_of x f) []) (sym is) (went_heard (end_at k es) (fate_of_next (end_at s es)) now f)))

-- ---- a turn

-- the hub from its question on, where this frame is the first that is due
abbrev asked_by : PlainHub → Option (ℕ × Held) → Bool → PlainHub
asked_by h found few = record (with_served h (without found (served h))) { doing = doing_of (first_rule found few) }

asked_same : (s : ℕ) (es : List PlainEnd) → slice_set es s (end_at s es) ≡ es
asked_same s es = set-get_or es s no_end

turn_by : (plan : List Fault) (before : List Entry) (h : PlainHub) (now k : ℕ) (found : Option (ℕ × Held)) (few : Bool) (a : AnswerShown)
    → h.serving < length h.ends → k < length h.ends → fate_of h.serving (length (frames_popped h.serving before) + 1) plan ≡ fate_of_next (served h)
    → first_due now (served h).held ≡ found → Fits (op_of h.serving (first_rule found few)) a
    → Went (end_at k h.ends) (end_at k (tells (asked_by h found few) now a).ends)
    (popped_by k (op_of h.serving (first_rule found few)) a) (made_of plan k before (op_of h.serving (first_rule found few)) a) (pushed_by k (op_of h.serving (first_rule found few)) a)
turn_by plan before h now k (Some p) few answer.Pushed within inside fate e f = pushed_at h.serving k p.0 p.1 h.ends within (stands (λ x. nat_le x.due now) (served h).held p.0 p.1 e)
turn_by plan before h now k (Some p) few (answer.Full i) within inside fate e f =
    went_alike k h.ends (tells (asked_by h (Some p) few) now (answer.Full i)).ends (back_at h.serving p.0 p.1 i h.ends within (stands (λ x. nat_le x.due now) (served h).held p.0 p.1 e) f)
turn_by plan before h now k None true (answer.Popped (item.Frame g)) within inside fate e f =
    subst (λ (es : List PlainEnd). Went (end_at k h.ends)
    (end_at k (held_for_others h.serving (held_copies (fate_of_next (end_at h.serving es)) now g) (slice_set es h.serving (sent (end_at h.serving es)))))
    (if eqb h.serving k then g ∷ [] else []) (if eqb h.serving k then [] else copies_of (fate_of h.serving (length (frames_popped h.serving before) + 1) plan) g) [])
    (sym (asked_same h.serving h.ends)) (popped_at h.serving k now g (fate_of h.serving (length (frames_popped h.serving before) + 1) plan) h.ends within inside fate)
turn_by plan before h now k None true (answer.Popped (item.Packet _ _)) within inside fate e f = went_alike k h.ends (slice_set h.ends h.serving (served h)) (asked_same h.serving h.ends)
turn_by plan before h now k None true (answer.Popped (item.Note _)) within inside fate e f = went_alike k h.ends (slice_set h.ends h.serving (served h)) (asked_same h.serving h.ends)
turn_by plan before h now k None true answer.Empty within inside fate e f = went_alike k h.ends (slice_set h.ends h.serving (served h)) (asked_same h.serving h.ends)
turn_by plan before h now k None false answer.Nothing within inside fate e f = went_alike k h.ends (slice_set h.ends h.serving (served h)) (asked_same h.serving h.ends)
turn_by plan before h now k _ _ _ within inside fate e f = absurd f

-- what is known of a hub after these entries
record Known (plan : List Fault) (before : List Entry) (h : PlainHub) : Type 0 where
  serving : h.serving < length h.ends
  fates : (j : ℕ) → j < length h.ends → (end_at j h.ends).fates ≡ fates_of j plan
  popped : (j : ℕ) → j < length h.ends → (end_at j h.ends).popped ≡ length (frames_popped j before)

step_went : (plan : List Fault) (before : List Entry) (h : PlainHub) (e : Entry) (k : ℕ) → Known plan before h → k < length h.ends → IsStep hub_steps h e
    → Went (end_at k h.ends) (end_at k (step_after hub_steps h e).ends) (popped_by k e.op e.answer) (made_of plan k before e.op e.answer) (pushed_by k e.op e.answer)
step_went plan before h e k known inside step =
    let s : ℕ = h.serving in
    let fate : fate_of s (length (frames_popped s before) + 1) plan ≡ fate_of_next (served h) =
    sym (fates_are s (length (frames_popped s before) + 1) plan) ∙ (λ i. fate_at (sym (known.fates s known.serving) i) (sym (known.popped s known.serving) i + 1)) in
    subst (λ o. Went (end_at k h.ends) (end_at k (step_after hub_steps h e).ends) (popped_by k o e.answer) (made_of plan k before o e.answer) (pushed_by k o e.answer)) (sym step.op)
    (turn_by plan before h e.time k (first_due e.time (served h).held) (list_all has_room (others h)) e.answer known.serving inside fate refl step.fits)

as_many_ends : (h : PlainHub) (e : Entry) → length (step_after hub_steps h e).ends ≡ length h.ends
as_many_ends h e = as_many (tells (asked h e.time) e.time e.answer) h (fates_tells (asked h e.time) e.time e.answer ∙ fates_asked h e.time)

popped_more : (j : ℕ) (before : List Entry) (e : Entry) → length (frames_popped j (before ++ e ∷ [])) ≡ length (frames_popped j before) + length (popped_by j e.op e.answer)
popped_more j before e =
    ap length (flat_map-append (λ (x : Entry). popped_by j x.op x.answer) before (e ∷ []) ∙ ap (λ fs. frames_popped j before ++ fs) (append-nil (popped_by j e.op e.answer)))
    ∙ length-append (frames_popped j before) (popped_by j e.op e.answer)

known_after : (plan : List Fault) (before : List Entry) (h : PlainHub) (e : Entry) → Known plan before h → IsStep hub_steps h e → Known plan (before ++ e ∷ []) (step_after hub_steps h e)
known_after plan before h e known step =
    let many = as_many_ends h e in
    record {
      serving = next_there (length (step_after hub_steps h e).ends) (after_answer e.time (asked h e.time).doing e.answer (asked h e.time)).serving (omega (arith, many, known.serving));
      fates = λ j inside. let here : j < length h.ends = omega (arith, many, inside) in (step_went plan before h e j known here step).fates ∙ known.fates j here;
      popped = λ j inside.
          let here : j < length h.ends = omega (arith, many, inside) in
          (step_went plan before h e j known here step).count ∙ ap (λ n. n + length (popped_by j e.op e.answer)) (known.popped j here) ∙ sym (popped_more j before e);
    }

-- so much follows from a turn and the turns after it
one_then : (held made pushed next made_later pushed_later last : List Frame) → IsPermutation (held ++ made) (pushed ++ next) → IsPermutation (next ++ made_later) (pushed_later ++ last)
    → IsPermutation (held ++ (made ++ made_later)) ((pushed ++ pushed_later) ++ last)
one_then held made pushed next made_later pushed_later last first later =
    subst (λ fs. IsPermutation fs ((pushed ++ pushed_later) ++ last)) (append_assoc held made made_later)
    (IsPermutation-trans ((held ++ made) ++ made_later) ((pushed ++ next) ++ made_later) ((pushed ++ pushed_later) ++ last)
    (IsPermutation-append_left made_later (held ++ made) (pushed ++ next) first)
    (subst (λ fs. IsPermutation fs ((pushed ++ pushed_later) ++ last)) (sym (append_assoc pushed next made_later))
    (subst (λ fs. IsPermutation (pushed ++ (next ++ made_later)) fs) (sym (append_assoc pushed pushed_later last))
    (IsPermutation-append_right pushed (next ++ made_later) (pushed_later ++ last) later))))

run_many : (es : List Entry) (h : PlainHub) → length (state_after hub_steps h es).ends ≡ length h.ends
run_many [] h = refl
run_many (e ∷ es) h = run_many es (step_after hub_steps h e) ∙ as_many_ends h e

run_went : (plan : List Fault) (es before : List Entry) (time : ℕ) (h z : PlainHub) (k : ℕ) → Known plan before h → k < length h.ends → IsRun hub_steps time h es → state_after hub_steps h es ≡ z
    → IsPermutation (frames_in (end_at k h.ends).held ++ made_after plan k before es) (frames_pushed k es ++ frames_in (end_at k z.ends).held)
run_went plan [] before time h z k known inside run e =
    subst (λ (x : PlainHub). IsPermutation (frames_in (end_at k h.ends).held ++ []) (frames_in (end_at k x.ends).held)) e (nothing_made (end_at k h.ends))
run_went plan (x ∷ es) before time h z k known inside run e =
    let next : PlainHub = step_after hub_steps h x in
    let here : k < length next.ends = (let many = as_many_ends h x in omega (arith, many, inside)) in
    let later = run_went plan es (before ++ x ∷ []) x.time next z k (known_after plan before h x known run.1) here run.2 e in
    let first = (step_went plan before h x k known inside run.1).same in
    one_then (frames_in (end_at k h.ends).held) (made_of plan k before x.op x.answer) (pushed_by k x.op x.answer) (frames_in (end_at k next.ends).held)
    (made_after plan k (before ++ x ∷ []) es) (frames_pushed k es) (frames_in (end_at k z.ends).held) first later

opens_as : (ends : ℕ) (plan : List Fault) (j : ℕ) → j < ends → end_at j (opening ends plan).ends ≡ opening_end plan j
opens_as ends plan j inside = get_or-map-range_with_len (opening_end plan) 0 ends j j no_end inside (omega arith)

opens_empty : (ends : ℕ) (plan : List Fault) (j : ℕ) → j < ends → (end_at j (opening ends plan).ends).held ≡ []
opens_empty ends plan j inside = ap (λ (e : PlainEnd). e.held) (opens_as ends plan j inside)

known_first : (ends : ℕ) (plan : List Fault) → 0 < ends → Known plan [] (opening ends plan)
known_first ends plan some =
    let long = length-map-range_with_len (opening_end plan) 0 ends in
    let here : (j : ℕ) → j < length (opening ends plan).ends → j < ends = λ j inside. omega (arith, long, inside) in
    record {
      serving = omega (arith, long, some);
      fates = λ j inside. ap (λ (e : PlainEnd). e.fates) (opens_as ends plan j (here j inside));
      popped = λ j inside. ap (λ (e : PlainEnd). e.popped) (opens_as ends plan j (here j inside));
    }

-- from the opening on
pub applies : (ends : ℕ) (plan : List Fault) (es : List Entry) (h : PlainHub) → Runs hub_steps (opening ends plan) es h → AppliesPlan plan es h
applies ends plan es h runs k inside =
    let before : PlainHub = opening ends plan in
    let many : length h.ends ≡ length before.ends = ap (λ (x : PlainHub). length x.ends) (sym runs.reached) ∙ run_many es before in
    let long = length-map-range_with_len (opening_end plan) 0 ends in
    let here : k < ends = omega (arith, many, long, inside) in
    subst (λ (hs : List Held). IsPermutation (frames_in hs ++ made_after plan k [] es) (frames_pushed k es ++ frames_in (end_at k h.ends).held)) (opens_empty ends plan k here)
    (run_went plan es [] 0 before h k (known_first ends plan (omega (arith, here))) (omega (arith, many, inside)) runs.run runs.reached)

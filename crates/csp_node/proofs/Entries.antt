-- How many entries logs have, and what they weigh.
use Rattle.std.proofs.Common.{◌≡◌, ◌⊎◌, inl, inr, ℕ, true, ◌+◌, ◌-◌, ◌*◌, ◌<◌, ◌≤◌, ◌^◌, List, [], ◌∷◌, length, map, sum_by, refl, sym, ap, ◌∙◌, subst, arith, length-append, le_of_eq}
use Rattle.std.specs.List.{AllByRecursion, AllZip}
use Rattle.std.proofs.lemmas.List.Sums.{sum_by-cons}
use Rattle.csp_consistent.specs.Rounds.{early}
use Rattle.csp_deck.specs.Runs.{last_time}
use Rattle.csp_ends.specs.Ends.{PlainNodeQueues}
use Rattle.csp_log.specs.Weights.{weight_of_all}
use Rattle.csp_log.specs.declared.entry.Entry.{Entry}
use Rattle.csp_node.specs.Rounds.{IsShort, plains, weight, weight_early}
use Rattle.csp_party.specs.Any.{has_ended}
use Rattle.csp_posts.specs.Between.{HasHeard}
use Rattle.csp_posts.specs.Posts.{AreTurns, PlainPost}
use Rattle.csp_posts.specs.Ready.{HasTurned}
use Rattle.csp_posts.specs.Seen.{SeenPost}
use Rattle.csp_standing.proofs.Public.{early_now}

pub sum_mapped : {X Y : Type 0} (f : Y → ℕ) (g : X → Y) (xs : List X) → sum_by f (map g xs) ≡ sum_by (λ x. f (g x)) xs
sum_mapped f g [] = refl
sum_mapped f g (x ∷ xs) = sum_by-cons f (g x) (map g xs) ∙ ap (λ (n : ℕ). f (g x) + n) (sum_mapped f g xs) ∙ sym (sum_by-cons (λ y. f (g y)) x xs)

-- a log has room for the turns of a round
pub room_left : (rounds : ℕ) (posts : List SeenPost) → AllByRecursion (IsShort rounds) (plains posts) → rounds ≤ 2 ^ 20 → AllByRecursion (λ s. length s.plain.entries + 8 ≤ 2 ^ 32 - 2) posts
room_left rounds [] short few = tt
room_left rounds (s ∷ posts) short few = (omega (arith, short.0, few), room_left rounds posts short.1 few)

-- a round
more_of : (a b c now : ℕ) → a ≤ 8 * now → c ≤ 8 → b ≡ a + c → b ≤ 8 * (now + 1)
more_of a b c now h k e = omega (arith, h, k, e)

few_more : (nodes : List PlainNodeQueues) (now : ℕ) (s t : PlainPost) (turns : AreTurns nodes now 8 s t) → length turns.more ≤ 8
few_more nodes now s t turns = told turns.all
  where
    told : (length turns.more ≡ 8) ⊎ ((has_ended t.party ≡ true) × (length turns.more ≤ 8)) → length turns.more ≤ 8
    told (inl e) = omega (arith, e)
    told (inr h) = h.1

short_after : (nodes : List PlainNodeQueues) (now : ℕ) (s t : PlainPost) → AreTurns nodes now 8 s t → IsShort now s → IsShort (now + 1) t
short_after nodes now s t turns short =
    more_of (length s.entries) (length t.entries) (length turns.more) now short (few_more nodes now s t turns) (ap length turns.entries ∙ length-append s.entries turns.more)

pub all_short : (nodes : List PlainNodeQueues) (now : ℕ) (posts met after : List PlainPost) → AllZip HasHeard posts met → AllZip (AreTurns nodes now 8) met after → AllByRecursion (IsShort now) posts → AllByRecursion (IsShort (now + 1)) after
all_short nodes now [] [] [] m t all = tt
all_short nodes now (r ∷ posts) (s ∷ met) (t ∷ after) m turns all =
    (short_after nodes now s t turns.0 (subst (λ (es : List Entry). length es ≤ 8 * now) (sym m.0.entries) all.0), all_short nodes now posts met after m.1 turns.1 all.1)
all_short nodes now [] (s ∷ met) after m turns all = absurd m
all_short nodes now (r ∷ posts) [] after m turns all = absurd m
all_short nodes now [] [] (t ∷ after) m turns all = absurd turns
all_short nodes now (r ∷ posts) (s ∷ met) [] m turns all = absurd turns

-- before it the logs had the entries of the rounds before
before_turns : (nodes : List PlainNodeQueues) (now : ℕ) (s t : PlainPost) → AreTurns nodes now 8 s t → AllByRecursion (λ e. e.time < now) s.entries → early now t.entries ≡ s.entries
before_turns nodes now s t turns old = ap (early now) turns.entries ∙ early_now now now s.entries turns.more old turns.times refl

pub early_after : (nodes : List PlainNodeQueues) (now : ℕ) (posts met after : List PlainPost) → AllZip HasHeard posts met → AllZip (AreTurns nodes now 8) met after → AllByRecursion (λ s. AllByRecursion (λ e. e.time < now) s.entries) posts
    → weight_early now after ≡ weight posts
early_after nodes now [] [] [] m t all = refl
early_after nodes now (r ∷ posts) (s ∷ met) (t ∷ after) m turns all =
    sum_by-cons (λ (u : PlainPost). weight_of_all (early now u.entries)) t after
    ∙ ap (λ (es : List Entry). weight_of_all es + weight_early now after) (before_turns nodes now s t turns.0 (subst (AllByRecursion (λ e. e.time < now)) (sym m.0.entries) all.0) ∙ m.0.entries)
    ∙ ap (λ (n : ℕ). weight_of_all r.entries + n) (early_after nodes now posts met after m.1 turns.1 all.1)
    ∙ sym (sum_by-cons (λ (u : PlainPost). weight_of_all u.entries) r posts)
early_after nodes now [] (s ∷ met) after m turns all = absurd m
early_after nodes now (r ∷ posts) [] after m turns all = absurd m
early_after nodes now [] [] (t ∷ after) m turns all = absurd turns
early_after nodes now (r ∷ posts) (s ∷ met) [] m turns all = absurd turns

-- none was later
pub last_within : (now first : ℕ) (es : List Entry) → first ≤ now → AllByRecursion (λ e. e.time < now) es → last_time first es ≤ now
last_within now first [] h all = h
last_within now first (e ∷ es) h all = last_within now e.time es (omega (arith, all.0)) all.1

pub all_late : (now : ℕ) (posts : List PlainPost) → AllByRecursion (λ s. AllByRecursion (λ e. e.time < now) s.entries) posts → AllByRecursion (λ s. last_time 0 s.entries ≤ now) posts
all_late now [] all = tt
all_late now (s ∷ posts) all = (last_within now 0 s.entries (omega arith) all.0, all_late now posts all.1)

-- a round of parties that are seen
pub all_turned : (nodes : List PlainNodeQueues) (now : ℕ) (met after : List SeenPost) → AllZip (HasTurned nodes now 8) met after → AllZip (AreTurns nodes now 8) (plains met) (plains after)
all_turned nodes now [] [] turned = tt
all_turned nodes now (s ∷ met) (t ∷ after) turned = (turned.0.turns, all_turned nodes now met after turned.1)
all_turned nodes now [] (t ∷ after) turned = absurd turned
all_turned nodes now (s ∷ met) [] turned = absurd turned

-- what is true of each party seen
pub each_plain : (P : PlainPost → Type 0) (posts : List SeenPost) → AllByRecursion (λ s. P s.plain) posts → AllByRecursion P (plains posts)
each_plain P [] all = tt
each_plain P (s ∷ posts) all = (all.0, each_plain P posts all.1)

-- before the first round
pub none_long : (posts : List PlainPost) → AllByRecursion (λ s. s.entries ≡ []) posts → AllByRecursion (IsShort 0) posts
none_long [] all = tt
none_long (s ∷ posts) all = (le_of_eq (ap length all.0), none_long posts all.1)

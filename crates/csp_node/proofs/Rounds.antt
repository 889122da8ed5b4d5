-- The rounds that were made, read off the logs: the greatest time is that of the last round.
use Rattle.std.proofs.Common.{◌≡◌, ◌⊎◌, inl, inr, ℕ, zero, suc, ◌+◌, ◌<◌, ◌≤◌, ◌==◌, ◌&&◌, Bool, true, false, cond, List, [], ◌∷◌, length, filter, max, refl, ap, arith, eqb-true}
use Rattle.std.specs.Prelude.{if◌then◌else◌}
use Rattle.std.specs.List.{AllByRecursion, list_all}
use Rattle.csp_consistent.specs.Rounds.{HaveMadeRounds, app_turns, is_app, turns_in}
use Rattle.csp_log.specs.declared.entry.Entry.{Entry}
use Rattle.csp_node.specs.Rounds.{plains}
use Rattle.csp_party.specs.Any.{is_done}
use Rattle.csp_posts.specs.Posts.{PlainPost}
use Rattle.csp_posts.specs.Seen.{SeenPost}
use Rattle.csp_standing.specs.Played.{are_done, logs_of}
use Rattle.csp_telling.specs.Closed.{rounds_in, rounds_of}
use Rattle.csp_topology.specs.Parties.{PlainOpening}

max_least : (a b n : ℕ) → a ≤ n → b ≤ n → max a b ≤ n
max_least a b n h k = omega (arith, h, k)

left_below : (r a b : ℕ) → r < a → r < max a b
left_below r a b h = omega (arith, h)

right_below : (r a b : ℕ) → r < b → r < max a b
right_below r a b h = omega (arith, h)

-- no time is of a later round
within_log : (rounds : ℕ) (es : List Entry) → AllByRecursion (λ e. e.time < rounds) es → rounds_in es ≤ rounds
within_log rounds [] all = omega arith
within_log rounds (e ∷ es) all = max_least (e.time + 1) (rounds_in es) rounds (omega (arith, all.0)) (within_log rounds es all.1)

within_all : (rounds : ℕ) (posts : List PlainPost) → AllByRecursion (λ s. AllByRecursion (λ e. e.time < rounds) s.entries) posts → rounds_of posts ≤ rounds
within_all rounds [] all = omega arith
within_all rounds (s ∷ posts) all = max_least (rounds_in s.entries) (rounds_of posts) rounds (within_log rounds s.entries all.0) (within_all rounds posts all.1)

-- one is of a round in which a turn was made
turned_in : (round : ℕ) (es : List Entry) → 0 < turns_in round es → round < rounds_in es
turned_in round [] h = absurd (omega (arith, h))
turned_in round (e ∷ es) h = told (turned_in round es) (e.time == round) refl h
  where
    told : (0 < turns_in round es → round < rounds_in es) → (b : Bool) → (e.time == round) ≡ b → 0 < length (cond b (e ∷ filter (λ (x : Entry). x.time == round) es) (filter (λ (x : Entry). x.time == round) es)) → round < max (e.time + 1) (rounds_in es)
    told later true same more = left_below round (e.time + 1) (rounds_in es) (omega (arith, eqb-true e.time round same))
    told later false other more = right_below round (e.time + 1) (rounds_in es) (later more)

if_turns : (b : Bool) (n : ℕ) → 0 < (if b then n else 0) → 0 < n
if_turns true n h = h
if_turns false n h = absurd (omega (arith, h))

one_of : (a b : ℕ) → 0 < a + b → (0 < a) ⊎ (0 < b)
one_of zero b h = inr (omega (arith, h))
one_of (suc a) b h = inl (omega arith)

turned_among : (round : ℕ) (os : List PlainOpening) (posts : List PlainPost) → 0 < app_turns round os (logs_of posts) → round < rounds_of posts
turned_among round [] posts h = absurd (omega (arith, h))
turned_among round (o ∷ os) [] h = absurd (omega (arith, h))
turned_among round (o ∷ os) (s ∷ posts) h =
    elim (one_of (if is_app o.party then turns_in round s.entries else 0) (app_turns round os (logs_of posts)) h) [
      | inl here ↦ left_below round (rounds_in s.entries) (rounds_of posts) (turned_in round s.entries (if_turns (is_app o.party) (turns_in round s.entries) here))
      | inr later ↦ right_below round (rounds_in s.entries) (rounds_of posts) (turned_among round os posts later)
    ]

-- the rounds that a close counts are those that were made
pub rounds_made : (os : List PlainOpening) (posts : List PlainPost) (rounds : ℕ) → HaveMadeRounds rounds os (logs_of posts) → AllByRecursion (λ s. AllByRecursion (λ e. e.time < rounds) s.entries) posts → rounds_of posts ≡ rounds
rounds_made os posts zero made times = omega (arith, within_all 0 posts times)
rounds_made os posts (suc last) made times = omega (arith, within_all (suc last) posts times, turned_among last os posts (made.used last (omega arith)))

-- it finds that each application has ended where that is so
pub finished_plain : (posts : List SeenPost) → list_all (λ s. is_done s.plain.party) posts ≡ are_done (plains posts)
finished_plain [] = refl
finished_plain (s ∷ posts) = ap (λ b. is_done s.plain.party && b) (finished_plain posts)

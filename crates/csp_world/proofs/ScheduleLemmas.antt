-- Lemmas on turns that follow each other.
use Rattle.std.proofs.Common.{◌≡◌, ℕ, zero, suc, ◌+◌, ◌-◌, ◌<◌, ◌≤◌, Bool, true, false, Option, None, Some, List, [], ◌∷◌, ◌++◌, length, refl, sym, ◌∙◌, ap, arith}
use Rattle.std.specs.Prelude.{slice_get, replicate, if◌then◌else◌}
use Rattle.std.specs.List.{range_with_len, flat_map}
use Rattle.std.proofs.Math.Seq.{map-set_same}
use Rattle.std.proofs.lemmas.List.{length-set, length-append, replicate-append-replicate}
use Rattle.std.proofs.lemmas.List.Sums.{sum_by-set, get_or-le-sum_by}
use Rattle.std.proofs.lemmas.Option.{slice_get_within, get_or_from_slice_get}
use Rattle.csp_log.specs.declared.shown.AnswerShown.{AnswerShown}
use Rattle.csp_lists.specs.PlainDeck.{PlainDeck}
use Rattle.csp_party.specs.Any.{has_ended}
use Rattle.csp_world.specs.declared.limits.TheConstants.{TURNS_PER_ROUND}
use Rattle.csp_world.specs.declared.rounds.Order.{Order}
use Rattle.csp_world.specs.Seen.{log_len}
use Rattle.csp_world.specs.World.{PlainMember, PlainWorld, answered, told, turned, turned_with, turn_at, turn, tick, entries}
use Rattle.csp_draw.specs.Draws.{next_draw, drawn}
use Rattle.csp_world.specs.Schedule.{names, turns, round, drawn_places, draws, places_in}

-- a turn keeps the parties' names and the time, and adds at most one entry
pub record Steady (w v : PlainWorld) : Type 0 where
  pub members : length v.members ≡ length w.members
  pub names : names v ≡ names w
  pub time : v.time ≡ w.time
  pub entries : entries v ≤ entries w + 1

steady_same : (w : PlainWorld) → Steady w w
steady_same w = record { members = refl; names = refl; time = refl; entries = omega arith }

steady_by : (w : PlainWorld) (place : ℕ) (m : PlainMember) (a : AnswerShown × List PlainDeck) → slice_get w.members place ≡ Some m → Steady w (turned_with w place m a)
steady_by w place m a e =
    let within = slice_get_within w.members place m e in
    let here = get_or_from_slice_get w.members place m m e in
    let all = sum_by-set (λ (p : PlainMember). length p.entries) w.members place (told m w.time a.0) m within in
    let had : length (told m w.time a.0).entries ≡ length m.entries + 1 = simp length-append in
    let was = ap (λ (p : PlainMember). length p.entries) here in
    record {
      members = length-set w.members place _;
      names = map-set_same (λ (p : PlainMember). p.who) w.members place (told m w.time a.0) m (sym (ap (λ (p : PlainMember). p.who) here));
      time = refl;
      entries = omega (arith, all, had, was);
    }

steady_if : (b : Bool) (w : PlainWorld) (place : ℕ) (m : PlainMember) → slice_get w.members place ≡ Some m → Steady w (if b then w else turned w place m)
steady_if true w place m e = steady_same w
steady_if false w place m e = steady_by w place m (answered w.decks w.links w.time m) e

steady_at : (w : PlainWorld) (place : ℕ) (o : Option PlainMember) → slice_get w.members place ≡ o → Steady w (turn_at w place o)
steady_at w place None e = steady_same w
steady_at w place (Some m) e = steady_if (has_ended m.party) w place m e

pub steady_turn : (w : PlainWorld) (place : ℕ) → Steady w (turn w place)
unfolding turn
steady_turn w place = steady_at w place (slice_get w.members place) refl

-- several turns keep the number of parties and the time
pub record Still (w v : PlainWorld) : Type 0 where
  pub members : length v.members ≡ length w.members
  pub time : v.time ≡ w.time

pub still_turns : (w : PlainWorld) (places : List ℕ) → Still w (turns w places)
unfolding turns
still_turns w [] = record { members = refl; time = refl }
still_turns w (place ∷ places) =
    let first = steady_turn w place in
    let rest = still_turns (turn w place) places in
    record { members = rest.members ∙ first.members; time = rest.time ∙ first.time }

-- turns one after the other
pub turns_both : (w : PlainWorld) (xs ys : List ℕ) → turns w (xs ++ ys) ≡ turns (turns w xs) ys
unfolding turns
turns_both w [] ys = refl
turns_both w (x ∷ xs) ys = turns_both (turn w x) xs ys

pub first_turn : (w : PlainWorld) (place : ℕ) (places : List ℕ) → turns w (place ∷ places) ≡ turns (turn w place) places
unfolding turns
first_turn w place places = refl

-- no more turns
pub none_left : (w : PlainWorld) → turns w [] ≡ w
unfolding turns
none_left w = refl

-- one more of a party's turns is made
pub turn_made : (w : PlainWorld) (place i : ℕ) → i < TURNS_PER_ROUND → turns (turn w place) (replicate (TURNS_PER_ROUND - (i + 1)) place) ≡ turns w (replicate (TURNS_PER_ROUND - i) place)
turn_made w place i h =
    let e : TURNS_PER_ROUND - i ≡ suc (TURNS_PER_ROUND - (i + 1)) = omega arith in
    sym (ap (λ n. turns w (replicate n place)) e ∙ first_turn w place (replicate (TURNS_PER_ROUND - (i + 1)) place))

pub turns_done : (w : PlainWorld) (n place : ℕ) → n ≡ 0 → turns w (replicate n place) ≡ w
turns_done w n place e = ap (λ k. turns w (replicate k place)) e ∙ none_left w

-- the turns of the parties from a place on
abbrev pub places_from : ℕ → ℕ → List ℕ
places_from first count = flat_map (λ place. replicate TURNS_PER_ROUND place) (range_with_len first count)

-- the turns of one more party are made
pub party_made : (w v : PlainWorld) (place last : ℕ) → place < last → v ≡ turns w (replicate TURNS_PER_ROUND place) → turns v (places_from (place + 1) (last - (place + 1))) ≡ turns w (places_from place (last - place))
party_made w v place last h e =
    let n : last - place ≡ suc (last - (place + 1)) = omega arith in
    ap (λ u. turns u (places_from (place + 1) (last - (place + 1)))) e
    ∙ sym (turns_both w (replicate TURNS_PER_ROUND place) (places_from (place + 1) (last - (place + 1))))
    ∙ sym (ap (λ k. turns w (places_from place k)) n)

pub parties_done : (w : PlainWorld) (place n : ℕ) → n ≡ 0 → turns w (places_from place n) ≡ w
parties_done w place n e = ap (λ k. turns w (places_from place k)) e ∙ none_left w

-- one more turn is drawn
next_drawn : (w : PlainWorld) (parties n x : ℕ) → turns w (drawn_places parties (suc n) x) ≡ turns (turn w (drawn parties (next_draw x))) (drawn_places parties n (next_draw x))
unfolding drawn_places
next_drawn w parties n x = first_turn w (drawn parties (next_draw x)) (drawn_places parties n (next_draw x))

pub draw_made : (w v : PlainWorld) (parties last i x y : ℕ) → i < last → y ≡ next_draw x → v ≡ turn w (drawn parties y) → turns v (drawn_places parties (last - (i + 1)) y) ≡ turns w (drawn_places parties (last - i) x)
draw_made w v parties last i x y h d e =
    let n : last - i ≡ suc (last - (i + 1)) = omega arith in
    ap (λ u. turns u (drawn_places parties (last - (i + 1)) y)) e
    ∙ ap (λ z. turns (turn w (drawn parties z)) (drawn_places parties (last - (i + 1)) z)) d
    ∙ sym (next_drawn w parties (last - (i + 1)) x)
    ∙ sym (ap (λ k. turns w (drawn_places parties k x)) n)

none_drawn : (w : PlainWorld) (parties x : ℕ) → turns w (drawn_places parties zero x) ≡ w
unfolding drawn_places
none_drawn w parties x = none_left w

pub draws_done : (w : PlainWorld) (parties n x : ℕ) → n ≡ 0 → turns w (drawn_places parties n x) ≡ w
draws_done w parties n x e = ap (λ k. turns w (drawn_places parties k x)) e ∙ none_drawn w parties x

next_draws : (n x : ℕ) → draws (suc n) x ≡ draws n (next_draw x)
unfolding draws
next_draws n x = refl

pub number_made : (last i x y : ℕ) → i < last → y ≡ next_draw x → draws (last - (i + 1)) y ≡ draws (last - i) x
number_made last i x y h d =
    let n : last - i ≡ suc (last - (i + 1)) = omega arith in
    ap (draws (last - (i + 1))) d ∙ sym (next_draws (last - (i + 1)) x) ∙ sym (ap (λ k. draws k x) n)

no_draws : (x : ℕ) → draws zero x ≡ x
unfolding draws
no_draws x = refl

pub number_done : (n x : ℕ) → n ≡ 0 → draws n x ≡ x
number_done n x e = ap (λ k. draws k x) e ∙ no_draws x

-- a round is its turns, then a tick
pub round_made : (w v : PlainWorld) (o : Order) → v ≡ turns w (places_in (length w.members) o) → tick v ≡ round o w
unfolding round
round_made w v o e = ap tick e

-- a round keeps the number of parties, and the time is one more
pub round_time : (w : PlainWorld) (o : Order) → (round o w).time ≡ w.time + 1
unfolding round
round_time w o = ap (λ t. t + 1) (still_turns w (places_in (length w.members) o)).time

pub round_members : (w : PlainWorld) (o : Order) → length (round o w).members ≡ length w.members
unfolding round
round_members w o = (still_turns w (places_in (length w.members) o)).members

-- no log is longer than all together
pub log_within : (w : PlainWorld) (place : ℕ) → log_len (slice_get w.members place) ≤ entries w
log_within w place = by_case (slice_get w.members place) refl where
  by_case : (o : Option PlainMember) → slice_get w.members place ≡ o → log_len o ≤ entries w
  by_case None e = omega arith
  by_case (Some party) e =
      let h = get_or-le-sum_by (λ (p : PlainMember). length p.entries) w.members place party (slice_get_within w.members place party e) in
      rw (get_or_from_slice_get w.members place party party e) at h

-- of so many turns some are taken, and the others are left
pub some_taken : (w v : PlainWorld) (place taken : ℕ) → taken ≤ TURNS_PER_ROUND → v ≡ turns w (replicate taken place) → turns v (replicate (TURNS_PER_ROUND - taken) place) ≡ turns w (replicate TURNS_PER_ROUND place)
some_taken w v place taken few e =
    let all : taken + (TURNS_PER_ROUND - taken) ≡ TURNS_PER_ROUND = omega arith in
    ap (λ u. turns u (replicate (TURNS_PER_ROUND - taken) place)) e
    ∙ sym (turns_both w (replicate taken place) (replicate (TURNS_PER_ROUND - taken) place))
    ∙ ap (turns w) (replicate-append-replicate taken (TURNS_PER_ROUND - taken) place ∙ ap (λ n. replicate n place) all)

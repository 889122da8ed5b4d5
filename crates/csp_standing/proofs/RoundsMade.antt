-- A round of eight turns of each party is one round more of the record.
use Rattle.std.proofs.Common.{◌≡◌, ◌⊎◌, inl, inr, ℕ, suc, ◌+◌, ◌<◌, ◌≤◌, ◌==◌, ◌&&◌, Bool, true, false, cond, List, [], ◌∷◌, ◌++◌, length, map, filter, ltb, refl, sym, ap, ◌∙◌, subst, arith, append-nil, length-append, ltb-true, ltb-false, eq-eqb, eqb-true}
use Rattle.std.proofs.lemmas.List.Elements.{filter-append}
use Rattle.std.specs.Prelude.{if◌then◌else◌}
use Rattle.std.specs.List.{AllByRecursion, AllZip}
use Rattle.csp_consistent.specs.Rounds.{HasMadeRounds, HaveMadeRounds, IsMadeInRounds, IsRound, app_turns, early, have_apps_ended, is_app, party_after, turns_in}
use Rattle.csp_deck.specs.Runs.{state_after, step_after}
use Rattle.csp_ends.specs.Ends.{PlainNodeQueues}
use Rattle.csp_log.specs.declared.entry.Entry.{Entry}
use Rattle.csp_party.specs.Any.{PlainParty, a_router, a_bridge, an_iface, an_app, a_link, a_hub, has_ended, is_done}
use Rattle.csp_posts.specs.Posts.{AreTurns, PlainPost}
use Rattle.csp_record.specs.Record.{PlainPartyLog, PlainRecord}
use Rattle.csp_scene.proofs.Public.{AllByRecursion-append, AllByRecursion-map}
use Rattle.csp_scene.specs.Scene.{PlainScene}
use Rattle.csp_standing.proofs.Early.{all_early, early_before}
use Rattle.csp_standing.specs.Played.{HasRunFrom, HaveRunFrom, are_done, logs_of}
use Rattle.csp_standing.specs.Shown.{AreLoggedBy}
use Rattle.csp_topology.specs.Parties.{PlainOpening, parties_of, party_steps}

-- counts of the entries of a round
not_now : (a b : ℕ) → (a ≡ b → ⊥) → (a == b) ≡ false
not_now a b never =
    told (a == b) refl
  where
    told : (c : Bool) → (a == b) ≡ c → c ≡ false
    told true e = absurd (never (eqb-true a b e))
    told false e = refl

none_in : (round : ℕ) (es : List Entry) → AllByRecursion (λ e. e.time ≡ round → ⊥) es → turns_in round es ≡ 0
none_in round [] all = refl
none_in round (e ∷ es) all = ap (λ b. length (cond b (e ∷ filter (λ (x : Entry). x.time == round) es) (filter (λ (x : Entry). x.time == round) es))) (not_now e.time round all.0) ∙ none_in round es all.1

all_in : (round : ℕ) (es : List Entry) → AllByRecursion (λ e. e.time ≡ round) es → turns_in round es ≡ length es
all_in round [] all = refl
all_in round (e ∷ es) all =
    ap (λ b. length (cond b (e ∷ filter (λ (x : Entry). x.time == round) es) (filter (λ (x : Entry). x.time == round) es))) (eq-eqb e.time round all.0) ∙ ap (λ n. suc n) (all_in round es all.1)

turns_append : (round : ℕ) (es more : List Entry) → turns_in round (es ++ more) ≡ turns_in round es + turns_in round more
turns_append round es more = ap length (filter-append (λ (e : Entry). e.time == round) es more) ∙ length-append (filter (λ (e : Entry). e.time == round) es) (filter (λ (e : Entry). e.time == round) more)

-- in a round before this one a party's turns are what they were
turns_before : (now round : ℕ) (es more : List Entry) → AllByRecursion (λ e. e.time ≡ now) more → round < now → turns_in round (es ++ more) ≡ turns_in round es
turns_before now round es more at h =
    turns_append round es more
    ∙ ap (λ n. turns_in round es + n) (none_in round more (AllByRecursion-map (λ (e : Entry). e.time ≡ now) (λ e. e.time ≡ round → ⊥) more (λ e g k. omega (arith, g, k, h)) at))
    ∙ omega arith

-- in this one they are those of this round
turns_now : (now : ℕ) (es more : List Entry) → AllByRecursion (λ e. e.time < now) es → AllByRecursion (λ e. e.time ≡ now) more → turns_in now (es ++ more) ≡ length more
turns_now now es more old at =
    turns_append now es more
    ∙ ap (λ n. n + turns_in now more) (none_in now es (AllByRecursion-map (λ (e : Entry). e.time < now) (λ e. e.time ≡ now → ⊥) es (λ e g k. omega (arith, g, k)) old))
    ∙ ap (λ n. 0 + n) (all_in now more at) ∙ omega arith

all_now : (now : ℕ) (es more : List Entry) → AllByRecursion (λ e. e.time < now) es → AllByRecursion (λ e. e.time ≡ now) more → AllByRecursion (λ e. e.time < now + 1) (es ++ more)
all_now now es more old at =
    AllByRecursion-append (λ (e : Entry). e.time < now + 1) es more
    (AllByRecursion-map (λ (e : Entry). e.time < now) (λ e. e.time < now + 1) es (λ e h. omega (arith, h)) old)
    (AllByRecursion-map (λ (e : Entry). e.time ≡ now) (λ e. e.time < now + 1) more (λ e h. omega (arith, h)) at)

old_round : (o : PlainOpening) (now round : ℕ) (es more : List Entry) → AllByRecursion (λ e. e.time ≡ now) more → round < now → IsRound o es round → IsRound o (es ++ more) round
old_round o now round es more at h one =
    let same : turns_in round (es ++ more) ≡ turns_in round es = turns_before now round es more at h in
    let before : early round (es ++ more) ≡ early round es = early_before now round es more at (omega (arith, h)) in
    let after : early (round + 1) (es ++ more) ≡ early (round + 1) es = early_before now (round + 1) es more at (omega (arith, h)) in
    record {
      most = subst (λ n. n ≤ 8) (sym same) one.most;
      fewer = λ few. ap (λ xs. has_ended (party_after o xs)) after ∙ one.fewer (subst (λ n. n < 8) same few);
      none = λ ended. same ∙ one.none (ap (λ xs. has_ended (party_after o xs)) (sym before) ∙ ended);
    }

this_round : (o : PlainOpening) (nodes : List PlainNodeQueues) (now : ℕ) (s t : PlainPost) (d : AreTurns nodes now 8 s t) → HasRunFrom o s → HasRunFrom o t → AllByRecursion (λ e. e.time < now) s.entries
    → IsRound o (s.entries ++ d.more) now
this_round o nodes now s t d from to old =
    let count : turns_in now (s.entries ++ d.more) ≡ length d.more = turns_now now s.entries d.more old d.times in
    record {
      most = subst (λ n. n ≤ 8) (sym count) (most d.all);
      fewer = λ few. ap (λ xs. has_ended (party_after o xs)) (all_early (now + 1) (s.entries ++ d.more) (all_now now s.entries d.more old d.times) ∙ sym d.entries)
          ∙ ap has_ended to.reached ∙ fewer d.all (subst (λ n. n < 8) count few);
      none = λ ended. count ∙ ap length (d.none (ap has_ended (sym from.reached) ∙ ap (λ xs. has_ended (party_after o xs)) (sym (early_before now now s.entries d.more d.times (omega arith) ∙ all_early now s.entries old)) ∙ ended));
    }
  where
    most : (length d.more ≡ 8) ⊎ ((has_ended t.party ≡ true) × (length d.more ≤ 8)) → length d.more ≤ 8
    most (inl e) = omega (arith, e)
    most (inr h) = h.1

    fewer : (length d.more ≡ 8) ⊎ ((has_ended t.party ≡ true) × (length d.more ≤ 8)) → length d.more < 8 → has_ended t.party ≡ true
    fewer (inl e) few = absurd (omega (arith, e, few))
    fewer (inr h) few = h.0

one_more : (o : PlainOpening) (nodes : List PlainNodeQueues) (now : ℕ) (s t : PlainPost) → HasMadeRounds now o s.entries → AreTurns nodes now 8 s t → HasRunFrom o s → HasRunFrom o t → HasMadeRounds (now + 1) o t.entries
one_more o nodes now s t made d from to =
    subst (HasMadeRounds (now + 1) o) (sym d.entries) (record {
      within = all_now now s.entries d.more made.within d.times;
      each = λ round h. told round h (ltb round now) refl;
    })
  where
    told : (round : ℕ) → round < now + 1 → (b : Bool) → ltb round now ≡ b → IsRound o (s.entries ++ d.more) round
    told round h true e = old_round o now round s.entries d.more d.times (ltb-true round now e) (made.each round (ltb-true round now e))
    told round h false e = subst (IsRound o (s.entries ++ d.more)) (same round h (ltb-false round now e)) (this_round o nodes now s t d from to made.within)
      where
        same : (round : ℕ) → round < now + 1 → now ≤ round → now ≡ round
        same round h k = omega (arith, h, k)

made_each : (nodes : List PlainNodeQueues) (now : ℕ) (os : List PlainOpening) (posts after : List PlainPost) → AllZip (HasMadeRounds now) os (logs_of posts) → HaveRunFrom os posts → HaveRunFrom os after
    → AllZip (AreTurns nodes now 8) posts after → AllZip (HasMadeRounds (now + 1)) os (logs_of after)
made_each nodes now [] [] [] made from to zip = tt
made_each nodes now [] [] (t ∷ after) made from to zip = absurd zip
made_each nodes now [] (s ∷ posts) after made from to zip = absurd made
made_each nodes now (o ∷ os) [] after made from to zip = absurd made
made_each nodes now (o ∷ os) (s ∷ posts) [] made from to zip = absurd zip
made_each nodes now (o ∷ os) (s ∷ posts) (t ∷ after) made from to zip =
    (one_more o nodes now s t made.0 zip.0 from.0 to.0, made_each nodes now os posts after made.1 from.1 to.1 zip.1)

-- the applications' turns of earlier rounds are what they were
apps_before : (nodes : List PlainNodeQueues) (now round : ℕ) (os : List PlainOpening) (posts after : List PlainPost) → round < now → AllZip (AreTurns nodes now 8) posts after
    → app_turns round os (logs_of after) ≡ app_turns round os (logs_of posts)
apps_before nodes now round [] posts after h zip = refl
apps_before nodes now round (o ∷ os) [] [] h zip = refl
apps_before nodes now round (o ∷ os) [] (t ∷ after) h zip = absurd zip
apps_before nodes now round (o ∷ os) (s ∷ posts) [] h zip = absurd zip
apps_before nodes now round (o ∷ os) (s ∷ posts) (t ∷ after) h zip =
    ap (λ n. (if is_app o.party then n else 0) + app_turns round os (logs_of after)) (ap (turns_in round) zip.0.entries ∙ turns_before now round s.entries zip.0.more zip.0.times h)
    ∙ ap (λ n. (if is_app o.party then turns_in round s.entries else 0) + n) (apps_before nodes now round os posts after h zip.1)

-- a party is an application still
app_step : (p : PlainParty) (e : Entry) → is_app (step_after party_steps p e) ≡ is_app p
app_step (a_router r) e = refl
app_step (a_bridge b) e = refl
app_step (an_iface i) e = refl
app_step (an_app a) e = refl
app_step (a_link l) e = refl
app_step (a_hub h) e = refl

app_kept : (p : PlainParty) (es : List Entry) → is_app (state_after party_steps p es) ≡ is_app p
app_kept p [] = refl
app_kept p (e ∷ es) = app_kept (step_after party_steps p e) es ∙ app_step p e

-- one that is not done is an application, and has not ended
undone_app : (p : PlainParty) → is_done p ≡ false → is_app p ≡ true
undone_app (an_app a) e = refl
undone_app (a_router r) e = absurd cc
undone_app (a_bridge b) e = absurd cc
undone_app (an_iface i) e = absurd cc
undone_app (a_link l) e = absurd cc
undone_app (a_hub h) e = absurd cc

undone_goes : (p : PlainParty) → is_done p ≡ false → has_ended p ≡ false
undone_goes (an_app a) e = e
undone_goes (a_router r) e = absurd cc
undone_goes (a_bridge b) e = absurd cc
undone_goes (an_iface i) e = absurd cc
undone_goes (a_link l) e = absurd cc
undone_goes (a_hub h) e = absurd cc

-- it makes a turn in the round: had it made none, it would be what it was
makes_one : (nodes : List PlainNodeQueues) (now : ℕ) (o : PlainOpening) (s t : PlainPost) (d : AreTurns nodes now 8 s t) → HasRunFrom o s → HasRunFrom o t → has_ended s.party ≡ false → 0 < length d.more
makes_one nodes now o s t d from to going =
    by_more d.more refl
  where
    still : d.more ≡ [] → t.party ≡ s.party
    still none = sym to.reached ∙ ap (party_after o) (d.entries ∙ ap (λ es. s.entries ++ es) none ∙ append-nil s.entries) ∙ from.reached

    by_all : d.more ≡ [] → (length d.more ≡ 8) ⊎ ((has_ended t.party ≡ true) × (length d.more ≤ 8)) → 0 < length d.more
    by_all none (inl e) = omega (arith, e)
    by_all none (inr h) = absurd (never (sym h.0 ∙ ap has_ended (still none) ∙ going))
      where
        never : true ≡ false → ⊥
        never e = absurd cc

    by_more : (more : List Entry) → d.more ≡ more → 0 < length d.more
    by_more [] none = by_all none d.all
    by_more (e ∷ es) some = subst (λ xs. 0 < length xs) (sym some) (omega arith)

app_turns_now : (nodes : List PlainNodeQueues) (now : ℕ) (o : PlainOpening) (s t : PlainPost) → HasMadeRounds now o s.entries → AreTurns nodes now 8 s t → HasRunFrom o s → HasRunFrom o t → is_done s.party ≡ false
    → 0 < (if is_app o.party then turns_in now t.entries else 0)
app_turns_now nodes now o s t made d from to undone =
    subst (λ n. 0 < n) (sym (ap (λ b. if b then turns_in now t.entries else 0) app ∙ ap (turns_in now) d.entries ∙ turns_now now s.entries d.more made.within d.times))
    (makes_one nodes now o s t d from to (undone_goes s.party undone))
  where
    app : is_app o.party ≡ true
    app = sym (app_kept o.party s.entries) ∙ ap is_app from.reached ∙ undone_app s.party undone

apps_now : (nodes : List PlainNodeQueues) (now : ℕ) (os : List PlainOpening) (posts after : List PlainPost) → AllZip (HasMadeRounds now) os (logs_of posts) → HaveRunFrom os posts → HaveRunFrom os after
    → are_done posts ≡ false → AllZip (AreTurns nodes now 8) posts after → 0 < app_turns now os (logs_of after)
apps_now nodes now [] [] after made from to undone zip = absurd cc
apps_now nodes now [] (s ∷ posts) after made from to undone zip = absurd made
apps_now nodes now (o ∷ os) [] after made from to undone zip = absurd made
apps_now nodes now (o ∷ os) (s ∷ posts) [] made from to undone zip = absurd zip
apps_now nodes now (o ∷ os) (s ∷ posts) (t ∷ after) made from to undone zip =
    told (λ rest. apps_now nodes now os posts after made.1 from.1 to.1 rest zip.1) (is_done s.party) refl undone
  where
    less : (a b : ℕ) → 0 < a → 0 < a + b
    less a b h = omega (arith, h)

    more : (a b : ℕ) → 0 < b → 0 < a + b
    more a b h = omega (arith, h)

    told : (are_done posts ≡ false → 0 < app_turns now os (logs_of after)) → (b : Bool) → is_done s.party ≡ b → (b && are_done posts) ≡ false → 0 < app_turns now (o ∷ os) (logs_of (t ∷ after))
    told others true e rest = more (if is_app o.party then turns_in now t.entries else 0) (app_turns now os (logs_of after)) (others rest)
    told others false e rest = less (if is_app o.party then turns_in now t.entries else 0) (app_turns now os (logs_of after)) (app_turns_now nodes now o s t made.0 zip.0 from.0 to.0 e)

pub one_round : (nodes : List PlainNodeQueues) (now : ℕ) (os : List PlainOpening) (posts after : List PlainPost) → HaveMadeRounds now os (logs_of posts) → HaveRunFrom os posts → HaveRunFrom os after
    → are_done posts ≡ false → AllZip (AreTurns nodes now 8) posts after → HaveMadeRounds (now + 1) os (logs_of after)
one_round nodes now os posts after made from to undone zip =
    record {
      each = made_each nodes now os posts after made.each from to zip;
      used = λ round h. told round h (ltb round now) refl;
    }
  where
    told : (round : ℕ) → round < now + 1 → (b : Bool) → ltb round now ≡ b → 0 < app_turns round os (logs_of after)
    told round h true e = subst (λ n. 0 < n) (sym (apps_before nodes now round os posts after (ltb-true round now e) zip)) (made.used round (ltb-true round now e))
    told round h false e = subst (λ n. 0 < app_turns n os (logs_of after)) (same round h (ltb-false round now e)) (apps_now nodes now os posts after made.each from to undone zip)
      where
        same : (round : ℕ) → round < now + 1 → now ≤ round → now ≡ round
        same round h k = omega (arith, h, k)

-- no round
none_made : (o : PlainOpening) (es : List Entry) → es ≡ [] → HasMadeRounds 0 o es
none_made o es none = record { within = subst (λ xs. AllByRecursion (λ (e : Entry). e.time < 0) xs) (sym none) tt; each = λ round h. absurd (omega (arith, h)) }

none_each : (os : List PlainOpening) (posts : List PlainPost) → HaveRunFrom os posts → AllByRecursion (λ s. s.entries ≡ []) posts → AllZip (HasMadeRounds 0) os (logs_of posts)
none_each [] [] from none = tt
none_each [] (s ∷ posts) from none = absurd from
none_each (o ∷ os) [] from none = absurd from
none_each (o ∷ os) (s ∷ posts) from none = (none_made o s.entries none.0, none_each os posts from.1 none.1)

pub no_round : (os : List PlainOpening) (posts : List PlainPost) → HaveRunFrom os posts → AllByRecursion (λ s. s.entries ≡ []) posts → HaveMadeRounds 0 os (logs_of posts)
no_round os posts from none = record { each = none_each os posts from none; used = λ round h. absurd (omega (arith, h)) }

-- read off a record
same_logs : (posts : List PlainPost) (logs : List PlainPartyLog) → AreLoggedBy posts logs → logs_of posts ≡ map (λ (log : PlainPartyLog). log.entries) logs
same_logs [] [] zip = refl
same_logs [] (log ∷ logs) zip = absurd zip
same_logs (s ∷ posts) [] zip = absurd zip
same_logs (s ∷ posts) (log ∷ logs) zip = ap (λ es. es ∷ logs_of posts) (sym zip.0.entries) ∙ ap (λ ess. log.entries ∷ ess) (same_logs posts logs zip.1)

apps_ended : (os : List PlainOpening) (posts : List PlainPost) → HaveRunFrom os posts → have_apps_ended os (logs_of posts) ≡ are_done posts
apps_ended [] [] from = refl
apps_ended [] (s ∷ posts) from = absurd from
apps_ended (o ∷ os) [] from = absurd from
apps_ended (o ∷ os) (s ∷ posts) from = ap (λ p. is_done p && have_apps_ended os (logs_of posts)) from.0.reached ∙ ap (λ b. is_done s.party && b) (apps_ended os posts from.1)

pub rounds_shown : (scene : PlainScene) (r : PlainRecord) (posts : List PlainPost) → HaveMadeRounds r.rounds (parties_of scene) (logs_of posts) → HaveRunFrom (parties_of scene) posts → r.finished ≡ are_done posts
    → AreLoggedBy posts r.parties → IsMadeInRounds scene r
rounds_shown scene r posts made from finished logged = record {
  rounds = subst (HaveMadeRounds r.rounds (parties_of scene)) (same_logs posts r.parties logged) made;
  finished = finished ∙ sym (apps_ended (parties_of scene) posts from) ∙ ap (have_apps_ended (parties_of scene)) (same_logs posts r.parties logged);
}

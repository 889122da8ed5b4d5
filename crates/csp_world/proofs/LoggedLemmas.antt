-- The log of each party is that of a run of its turns from its opening.
use Rattle.std.proofs.Common.{◌≡◌, ℕ, zero, suc, ◌+◌, ◌≤◌, false, Some, List, [], ◌∷◌, ◌++◌, map, set, refl, sym, subst, ap, ◌∙◌, arith}
use Rattle.std.specs.Prelude.{slice_get}
use Rattle.std.proofs.lemmas.Option.{same_Some}
use Rattle.csp_topology.specs.Parties.{PlainOpening, party_steps}
use Rattle.csp_consistent.specs.Runs.{AreLogsOf}
use Rattle.csp_deck.specs.Runs.{Steps, IsRun, IsStep, last_time, state_after, step_after}
use Rattle.csp_deck.specs.Step.{entry_of}
use Rattle.csp_log.specs.Pictures.{Fits}
use Rattle.csp_log.specs.declared.entry.Entry.{Entry}
use Rattle.csp_log.specs.declared.shown.AnswerShown.{AnswerShown}
use Rattle.csp_party.specs.Any.{PlainParty, asked, asks, events, has_ended, present_step}
use Rattle.csp_world.proofs.AnsweredLemmas.{fits_answer}
use Rattle.csp_world.specs.Opening.{new_member}
use Rattle.csp_world.specs.Record.{member_log}
use Rattle.csp_world.specs.World.{PlainMember, PlainWorld, answered, told, turned}

-- a party has taken the turns of its log from this opening, none of them after this time
pub record IsLogged (time : ℕ) (o : PlainOpening) (m : PlainMember) : Type 0 where
  pub who : m.who ≡ o.who
  pub run : IsRun party_steps 0 o.party m.entries
  pub reached : state_after party_steps o.party m.entries ≡ m.party
  pub late : last_time 0 m.entries ≤ time

abbrev pub AreLogged : ℕ → List PlainOpening → List PlainMember → Type 0
AreLogged time [] [] = Unit {0}
AreLogged time [] (m ∷ ms) = ⊥
AreLogged time (o ∷ os) [] = ⊥
AreLogged time (o ∷ os) (m ∷ ms) = IsLogged time o m × AreLogged time os ms

-- a run and one more turn
run-push : {S : Type 0} (p : Steps S) (time : ℕ) (s : S) (es : List Entry) (e : Entry) → IsRun p time s es → last_time time es ≤ e.time → IsStep p (state_after p s es) e → IsRun p time s (es ++ e ∷ [])
run-push p time s [] e run late step = (late, step, tt)
run-push p time s (x ∷ es) e run late step = (run.0, run.1, run-push p x.time (step_after p s x) es e run.2 late step)

state-push : {S : Type 0} (p : Steps S) (s : S) (es : List Entry) (e : Entry) → state_after p s (es ++ e ∷ []) ≡ step_after p (state_after p s es) e
state-push p s [] e = refl
state-push p s (x ∷ es) e = state-push p (step_after p s x) es e

last-push : (time : ℕ) (es : List Entry) (e : Entry) → last_time time (es ++ e ∷ []) ≡ e.time
last-push time [] e = refl
last-push time (x ∷ es) e = last-push x.time es e

-- it takes one more
logged_told : (time : ℕ) (o : PlainOpening) (m : PlainMember) (a : AnswerShown) → has_ended m.party ≡ false → Fits (asks m.party time) a → IsLogged time o m → IsLogged time o (told m time a)
logged_told time o m a goes fits l =
    let e : Entry = entry_of time (asks m.party time) a (events (asked m.party time) time a) in
    let step : IsStep party_steps m.party e = record { goes_on = goes; op = refl; fits = fits; events = refl } in
    record {
      who = l.who;
      run = run-push party_steps 0 o.party m.entries e l.run l.late (subst (λ (p : PlainParty). IsStep party_steps p e) (sym l.reached) step);
      reached = state-push party_steps o.party m.entries e ∙ ap (λ (p : PlainParty). step_after party_steps p e) l.reached;
      late = omega (arith, last-push 0 m.entries e);
    }

logged_set : (time : ℕ) (os : List PlainOpening) (ms : List PlainMember) (place : ℕ) (m n : PlainMember) → slice_get ms place ≡ Some m → ((o : PlainOpening) → IsLogged time o m → IsLogged time o n)
    → AreLogged time os ms → AreLogged time os (set ms place n)
logged_set time [] [] place m n at f h = absurd cc
logged_set time [] (x ∷ ms) place m n at f h = absurd h
logged_set time (o ∷ os) [] place m n at f h = absurd h
logged_set time (o ∷ os) (x ∷ ms) zero m n at f h = (f o (subst (IsLogged time o) (same_Some x m at) h.0), h.1)
logged_set time (o ∷ os) (x ∷ ms) (suc place) m n at f h = (h.0, logged_set time os ms place m n at f h.1)

-- in a turn of a world
pub logged_turned : (w : PlainWorld) (os : List PlainOpening) (place : ℕ) (m : PlainMember) → slice_get w.members place ≡ Some m → has_ended m.party ≡ false → AreLogged w.time os w.members
    → AreLogged (turned w place m).time os (turned w place m).members
logged_turned w os place m at e h =
    let a = answered w.decks w.links w.time m in
    logged_set w.time os w.members place m (told m w.time a.0) at
    (λ o l. logged_told w.time o m a.0 e (fits_answer w.decks w.links m.who (asks m.party w.time)) l) h

-- and in a tick
pub logged_tick : (time : ℕ) (os : List PlainOpening) (ms : List PlainMember) → AreLogged time os ms → AreLogged (time + 1) os ms
logged_tick time [] [] h = tt
logged_tick time [] (m ∷ ms) h = absurd h
logged_tick time (o ∷ os) [] h = absurd h
logged_tick time (o ∷ os) (m ∷ ms) h = (
  record {
    who = h.0.who;
    run = h.0.run;
    reached = h.0.reached;
    late = let late = h.0.late in omega (arith, late);
  },
  logged_tick time os ms h.1,
)

-- at the opening each log is empty
pub logged_opened : (os : List PlainOpening) → AreLogged 0 os (map new_member os)
logged_opened [] = tt
logged_opened (o ∷ os) = (record { who = refl; run = tt; reached = refl; late = omega arith }, logged_opened os)

-- the logs of the record are those
pub logged_logs : (time : ℕ) (os : List PlainOpening) (ms : List PlainMember) → AreLogged time os ms → AreLogsOf os (map member_log ms)
logged_logs time [] [] h = tt
logged_logs time [] (m ∷ ms) h = absurd h
logged_logs time (o ∷ os) [] h = absurd h
logged_logs time (o ∷ os) (m ∷ ms) h = (
  record { who = h.0.who; run = h.0.run; step = ap present_step (sym h.0.reached) },
  logged_logs time os ms h.1,
)

-- Consistent, part 7: in each round that was made each party makes eight turns, or ends; and some application makes a turn.
use Rattle.std.specs.Prelude.{◌≡◌, ℕ, ◌+◌, ◌<◌, ◌≤◌, ◌==◌, ◌&&◌, Bool, true, false, List, ◌∷◌, length, map, nat_lt, if◌then◌else◌}
use Rattle.std.specs.List.{AllByRecursion, AllZip, filter}
use Rattle.csp_deck.specs.Runs.{state_after}
use Rattle.csp_log.specs.declared.entry.Entry.{Entry}
use Rattle.csp_party.specs.Any.{PlainParty, a_router, a_bridge, an_iface, an_app, a_link, a_hub, has_ended, is_done}
use Rattle.csp_record.specs.Record.{PlainPartyLog, PlainRecord}
use Rattle.csp_scene.specs.Scene.{PlainScene}
use Rattle.csp_topology.specs.Parties.{PlainOpening, parties_of, party_steps}

-- the entries of rounds before this one
abbrev pub early : ℕ → List Entry → List Entry
early round es = filter (λ e. nat_lt e.time round) es

-- how many turns these entries are of in a round
abbrev pub turns_in : ℕ → List Entry → ℕ
turns_in round es = length (filter (λ e. e.time == round) es)

-- a party after these turns since its opening
abbrev pub party_after : PlainOpening → List Entry → PlainParty
party_after o es = state_after party_steps o.party es

-- a round of a party: eight turns, fewer only where the party has ended by the end of the round, and none where it had ended before
pub record IsRound (o : PlainOpening) (es : List Entry) (round : ℕ) : Type 0 where
  pub most : turns_in round es ≤ 8
  pub fewer : turns_in round es < 8 → has_ended (party_after o (early (round + 1) es)) ≡ true
  pub none : has_ended (party_after o (early round es)) ≡ true → turns_in round es ≡ 0

-- a party made so many rounds, and no turn besides
pub record HasMadeRounds (rounds : ℕ) (o : PlainOpening) (es : List Entry) : Type 0 where
  pub within : AllByRecursion (λ e. e.time < rounds) es
  pub each : (round : ℕ) → round < rounds → IsRound o es round

-- whether a party is an application
abbrev pub is_app : PlainParty → Bool
is_app (a_router _) = false
is_app (a_bridge _) = false
is_app (an_iface _) = false
is_app (an_app _) = true
is_app (a_link _) = false
is_app (a_hub _) = false

-- how many turns the applications made in a round
abbrev pub app_turns : ℕ → List PlainOpening → List (List Entry) → ℕ
app_turns round (o ∷ os) (es ∷ logs) = (if is_app o.party then turns_in round es else 0) + app_turns round os logs
app_turns round _ _ = 0

-- whether each application has ended
abbrev pub have_apps_ended : List PlainOpening → List (List Entry) → Bool
have_apps_ended (o ∷ os) (es ∷ logs) = is_done (party_after o es) && have_apps_ended os logs
have_apps_ended _ _ = true

-- parties that opened so made so many rounds, each of them with a turn of an application
pub record HaveMadeRounds (rounds : ℕ) (os : List PlainOpening) (logs : List (List Entry)) : Type 0 where
  pub each : AllZip (HasMadeRounds rounds) os logs
  pub used : (round : ℕ) → round < rounds → 0 < app_turns round os logs

-- the entries of each log
abbrev pub entries_by : PlainRecord → List (List Entry)
entries_by r = map (λ (log : PlainPartyLog). log.entries) r.parties

-- the record was made in rounds, and says whether all applications have ended
pub record IsMadeInRounds (scene : PlainScene) (r : PlainRecord) : Type 0 where
  pub rounds : HaveMadeRounds r.rounds (parties_of scene) (entries_by r)
  pub finished : r.finished ≡ have_apps_ended (parties_of scene) (entries_by r)

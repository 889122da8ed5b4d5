-- Consistent, part 1: each party's entries are a run of its turns from its opening in the scene.
use Rattle.std.specs.Prelude.{◌≡◌, List, [], ◌∷◌, ⊤}
use Rattle.csp_deck.specs.Runs.{IsRun, state_after}
use Rattle.csp_party.specs.Any.{present_step}
use Rattle.csp_record.specs.Record.{PlainPartyLog}
use Rattle.csp_topology.specs.Parties.{PlainOpening, party_steps}

-- the log is that of this party: its entries are a run of its turns from its opening, in which time never falls; and its step is that of its
-- state after its last entry
pub record IsLogOf (o : PlainOpening) (log : PlainPartyLog) : Type 0 where
  pub who : log.who ≡ o.who
  pub run : IsRun party_steps 0 o.party log.entries
  pub step : log.step ≡ present_step (state_after party_steps o.party log.entries)

-- the logs are those of these parties, one for each, in their order
abbrev pub AreLogsOf : List PlainOpening → List PlainPartyLog → Type 0
AreLogsOf [] [] = ⊤
AreLogsOf (o ∷ os) (log ∷ logs) = IsLogOf o log × AreLogsOf os logs
AreLogsOf _ _ = ⊥

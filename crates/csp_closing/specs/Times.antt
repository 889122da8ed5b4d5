-- The rounds of a run, by the logs of its parties.
use Rattle.std.specs.Prelude.{◌≤◌, ◌<◌, ◌^◌, ℕ, List, [], ◌∷◌, max}
use Rattle.std.specs.List.{AllByRecursion}
use Rattle.csp_deck.specs.Runs.{last_time}
use Rattle.csp_log.specs.declared.entry.Entry.{Entry}
use Rattle.csp_record.specs.Record.{PlainPartyLog}
use Rattle.csp_telling.specs.Closed.{rounds_in}

-- the rounds of all these logs
abbrev pub rounds_among : List PlainPartyLog → ℕ
rounds_among [] = 0
rounds_among (log ∷ logs) = max (rounds_in log.entries) (rounds_among logs)

-- no entry of a log is later than its last one, and all are early
pub record IsOrdered (es : List Entry) : Type 0 where
  pub last : AllByRecursion (λ e. e.time ≤ last_time 0 es) es
  pub early : AllByRecursion (λ e. e.time < 2 ^ 62) es

-- so it is of each log
abbrev pub AreOrdered : List PlainPartyLog → Type 0
AreOrdered logs = AllByRecursion (λ (log : PlainPartyLog). IsOrdered log.entries) logs

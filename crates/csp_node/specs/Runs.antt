-- How the run of a network in threads stops.
use Rattle.std.specs.Prelude.{◌≡◌, ◌⊎◌, ◌-◌, ◌<◌, ◌≤◌, ℕ, false, sum_by}
use Rattle.csp_consistent.specs.Rounds.{early}
use Rattle.csp_log.specs.Weights.{weight_of_all}
use Rattle.csp_record.specs.Record.{PlainPartyLog, PlainRecord}

-- what the entries of all logs of a record weigh together
abbrev pub weight_in : PlainRecord → ℕ
weight_in r = sum_by (λ (log : PlainPartyLog). weight_of_all log.entries) r.parties

-- what those of before this round weigh
abbrev pub weight_before : ℕ → PlainRecord → ℕ
weight_before round r = sum_by (λ (log : PlainPartyLog). weight_of_all (early round log.entries)) r.parties

-- it made no more rounds than this; before its last round its entries weighed less than the limit; and where it is not finished, it made as many
-- rounds, or its entries weigh the limit at least
pub record HasStopped (until limit : ℕ) (r : PlainRecord) : Type 0 where
  pub most : r.rounds ≤ until
  pub before : 0 < r.rounds → weight_before (r.rounds - 1) r < limit
  pub unfinished : r.finished ≡ false → (r.rounds ≡ until) ⊎ (limit ≤ weight_in r)

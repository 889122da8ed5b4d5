-- What a party holds of buffers: what it held at first and received since, less what it handed over.
use Rattle.std.specs.Prelude.{◌≡◌, ℕ, ◌+◌, List}
use Rattle.std.specs.List.{AllZip}
use Rattle.csp_deck.specs.Runs.{handed_over, received, state_after}
use Rattle.csp_deck.specs.Step.{times}
use Rattle.csp_log.specs.declared.entry.Entry.{Entry}
use Rattle.csp_party.specs.Any.{PlainParty, holds}
use Rattle.csp_record.specs.Record.{PlainPartyLog}
use Rattle.csp_topology.specs.Parties.{PlainOpening, party_steps}

-- after these entries a party holds each number as often as it held it at first and received it, less as often as it handed it over
abbrev pub KeepsNumbers : PlainParty → List Entry → Type 0
KeepsNumbers p es = (k : ℕ) → times k (holds (state_after party_steps p es)) + times k (handed_over es) ≡ times k (holds p) + times k (received es)

-- each of these parties holds, by its log, what it held at first and received, less what it handed over
abbrev pub KeepNumbers : List PlainOpening → List PlainPartyLog → Type 0
KeepNumbers os logs = AllZip (λ (o : PlainOpening) (log : PlainPartyLog). KeepsNumbers o.party log.entries) os logs

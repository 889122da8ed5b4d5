-- The header words of the packets that a record shows to be sent.
use Rattle.std.specs.Prelude.{List}
use Rattle.std.specs.List.{AllByRecursion, filter_map}
use Rattle.csp_buffer.specs.Content.{Content}
use Rattle.csp_log.specs.Headers.{IsWord}
use Rattle.csp_log.specs.Moving.{moved_in}
use Rattle.csp_log.specs.declared.entry.Entry.{Entry}
use Rattle.csp_record.specs.Record.{PlainPartyLog, PlainRecord}
use Rattle.csp_record.specs.Transmissions.{fetched}

-- the packets that a party fetched from an `Out`
abbrev pub all_fetched : List Entry → List Content
all_fetched es = filter_map (λ e. fetched (moved_in e)) es

-- the header of each packet that a party fetched is a word of 32 bits
abbrev pub FetchesWords : PlainPartyLog → Type 0
FetchesWords party = AllByRecursion IsWord (all_fetched party.entries)

-- the header of each packet that a record shows to be fetched from an `Out` is a word of 32 bits
abbrev pub HasWords : PlainRecord → Type 0
HasWords r = AllByRecursion FetchesWords r.parties

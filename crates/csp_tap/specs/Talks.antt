-- Who talks to whom: the packets of a stream by their source, destination, destination port and source port.
use Rattle.std.specs.Prelude.{ℕ, ◌+◌, ◌/◌, ◌%◌, ◌^◌, ◌==◌, not, List, [], ◌∷◌, ◌++◌, length, map, filter, codes, unwrap_or}
use Rattle.std.specs.BTreeMap.{insert_entry, is_at}
use Rattle.std.specs.Fmt.{decimal}
use Rattle.std.specs.List.{filter_map, flat_map, range_with_len, sum_by}
use Rattle.std.specs.Map.{lookup}
use Rattle.std.specs.Ordering.{nat_cmp}
use Rattle.csp_kiss.specs.GoingOn.{packet_of}
use Rattle.csp_kiss.specs.declared.event.KissEvent.{KissEvent}
use Rattle.csp_kiss.specs.declared.progress.KissPacket.{KissPacket}
use Rattle.csp_tap.specs.Words.{words}
use Rattle.csp_tap.specs.declared.talks.Tally.{Tally}
use Rattle.csp_tap.specs.declared.talks.TheConstants.{TALKS}

-- the packets among events
abbrev pub packets_in : List KissEvent → List KissPacket
packets_in events = filter_map packet_of events

-- a packet's talk: its source, destination, destination port and source port as one number, in this order from the top, so that the order of
-- these numbers is that of the four
abbrev pub talk_of : ℕ → ℕ
talk_of header = header / 2 ^ 8 % TALKS

-- the packets of a talk
abbrev pub of_talk : ℕ → List KissPacket → List KissPacket
of_talk talk packets = filter (λ p. talk_of p.header == talk) packets

-- how many they are, and how many bytes they have
abbrev pub tally : List KissPacket → Tally
tally packets = record { packets = length packets; bytes = sum_by (λ p. length p.payload.items) packets }

-- the talks that occur, in order, each with its tally
unfoldable pub table : List KissPacket → List (ℕ × Tally)
table packets = map (λ talk. (talk, tally (of_talk talk packets))) (filter (λ talk. not (length (of_talk talk packets) == 0)) (range_with_len 0 TALKS))

-- the four numbers of a talk
abbrev pub talk_words : ℕ → List (List ℕ)
talk_words talk = decimal (talk / 2 ^ 17) ∷ decimal (talk / 2 ^ 12 % 32) ∷ decimal (talk / 2 ^ 6 % 64) ∷ decimal (talk % 64) ∷ []

-- a tally
abbrev pub tally_words : Tally → List (List ℕ)
tally_words tally = codes "packets" ∷ decimal tally.packets ∷ codes "bytes" ∷ decimal tally.bytes ∷ []

-- the line of a talk
abbrev pub talk_line : ℕ × Tally → List ℕ
talk_line (talk, tally) = codes "talk" ++ (words (talk_words talk) ++ (words (tally_words tally) ++ 10 ∷ []))

-- the lines of talks
abbrev pub talk_lines : List (ℕ × Tally) → List ℕ
talk_lines talks = flat_map talk_line talks

-- the tally that stands for a talk: of nothing where none does
abbrev pub tally_at : List (ℕ × Tally) → ℕ → Tally
tally_at talks talk = unwrap_or (lookup (is_at (nat_cmp talk)) talks) (record { packets = 0; bytes = 0 })

-- with a packet more of this talk and of so many bytes
abbrev pub with_packet : List (ℕ × Tally) → (talk bytes : ℕ) → List (ℕ × Tally)
with_packet talks talk bytes =
    let before = tally_at talks talk in
    insert_entry nat_cmp talks talk (record { packets = before.packets + 1; bytes = before.bytes + bytes })

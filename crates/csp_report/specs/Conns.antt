-- What the report tells of the connections of an application.
use Rattle.std.specs.Prelude.{ℕ, ◌==◌, ◌+◌, if◌then◌else◌, Option, None, Some, List, [], ◌∷◌, ◌++◌, map, codes, slice_get}
use Rattle.std.specs.List.{flat_map, enumerate_from}
use Rattle.std.specs.Option.{option_map, option_and_then}
use Rattle.std.specs.Fmt.{decimal}
use Rattle.hex.specs.Hex.{encode_lower}
use Rattle.csp_log.specs.PlainLog.{all_events}
use Rattle.csp_log.specs.declared.entry.Entry.{Entry}
use Rattle.csp_log.specs.declared.event.Event.{Event}
use Rattle.csp_scene.specs.Scene.{PlainNode}
use Rattle.csp_record.specs.declared.connections.Opening.{Opening}
use Rattle.csp_record.specs.Connections.{openings}
use Rattle.csp_base.specs.Seat.{seat}
use Rattle.csp_record.specs.Payloads.{sent, took}
use Rattle.csp_report.specs.Blobs.{collected_lines}
use Rattle.csp_report.specs.Lines.{Line, conn_words}

-- a peer's flow: the name of its node, and its number there; none where there is no peer, and where no node has that place
abbrev pub peer_flow : List PlainNode → Option (ℕ × ℕ) → Option (List ℕ × ℕ)
peer_flow nodes peer = option_and_then (λ flow. option_map (λ node. (node.name, flow.1)) (slice_get nodes flow.0)) peer

-- `rdp NTH peer NODE2 NTH2`, or `rdp NTH peer none`
abbrev pub rdp_words : ℕ → Option (List ℕ × ℕ) → Line
rdp_words nth None = codes "rdp" ∷ decimal nth ∷ codes "peer" ∷ codes "none" ∷ []
rdp_words nth (Some flow) = codes "rdp" ∷ decimal nth ∷ codes "peer" ∷ flow.0 ∷ decimal flow.1 ∷ []

-- the same, or `plain`
abbrev pub kind_words : Option ℕ → Option (List ℕ × ℕ) → Line
kind_words None flow = codes "plain" ∷ []
kind_words (Some nth) flow = rdp_words nth flow

-- `conn NODE APP SLOT ORD plain`, or `conn NODE APP SLOT ORD rdp NTH peer NODE2 NTH2`
abbrev pub opening_line : List PlainNode → List ℕ → List ℕ → Opening → Line
opening_line nodes node app opening = conn_words (codes "conn") node app opening.slot opening.ordinal ++ kind_words opening.nth (peer_flow nodes opening.peer)

-- a payload as a word: `-` where it has no bytes, else two hexadecimal digits for each, in lower case
abbrev pub bytes_word : List ℕ → List ℕ
bytes_word [] = codes "-"
bytes_word (byte ∷ bytes) = encode_lower (byte ∷ bytes)

-- `sent NODE APP SLOT ORD I HEX` for each of these payloads, I from 1; or with `took`
abbrev pub payload_lines : List ℕ → List ℕ → List ℕ → ℕ → ℕ → List (List ℕ) → List Line
payload_lines word node app slot ordinal payloads =
    map (λ payload. conn_words word node app slot ordinal ++ decimal (payload.0 + 1) ∷ bytes_word payload.1 ∷ []) (enumerate_from 0 payloads)

-- what went each way on the connections, by slot and ordinal; and the events by which the application tells of blobs
pub record Traffics : Type 0 where
  pub sent_on : ℕ → ℕ → List (List ℕ)
  pub took_on : ℕ → ℕ → List (List ℕ)
  pub told : List Event

-- the lines of a connection that became open: what was sent on it, then what was taken, then the blobs that were collected
abbrev pub opening_lines : List PlainNode → List ℕ → List ℕ → Traffics → Opening → List Line
opening_lines nodes node app traffic opening =
    opening_line nodes node app opening
    ∷ payload_lines (codes "sent") node app opening.slot opening.ordinal (traffic.sent_on opening.slot opening.ordinal)
    ++ payload_lines (codes "took") node app opening.slot opening.ordinal (traffic.took_on opening.slot opening.ordinal)
    ++ collected_lines node app opening.slot opening.ordinal traffic.told

-- the lines of a slot: those of its openings, in order of time and so of their ordinals
abbrev pub slot_lines : List PlainNode → List ℕ → List ℕ → Traffics → List Opening → ℕ → List Line
slot_lines nodes node app traffic opened slot = flat_map (λ opening. if opening.slot == slot then opening_lines nodes node app traffic opening else []) opened

-- the slots in their order
abbrev pub all_slots : List ℕ
all_slots = 0 ∷ 1 ∷ 2 ∷ 3 ∷ []

-- what the log of its router and its own log tell of the connections of the application with this number
abbrev pub traffic_of : ℕ → List Entry → List Entry → Traffics
traffic_of number router own = record { sent_on = λ slot ordinal. sent (seat number slot) ordinal router; took_on = λ slot ordinal. took (seat number slot) ordinal own; told = all_events own }

-- the lines of all its connections, by these logs
abbrev pub conn_lines : List PlainNode → List ℕ → List ℕ → ℕ → List Entry → List Entry → List Line
conn_lines nodes node app number router own = flat_map (slot_lines nodes node app (traffic_of number router own) (openings number router)) all_slots

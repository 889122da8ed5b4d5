-- The text of the scenario in which so many packets are sent, line by line.
use Rattle.std.specs.Prelude.{ℕ, zero, suc, ◌+◌, ◌/◌, ◌%◌, ◌==◌, if◌then◌else◌, List, [], ◌∷◌, ◌++◌, map, codes}
use Rattle.std.specs.List.{range_with_len}
use Rattle.std.specs.Fmt.{decimal}
use Rattle.csp_draw.specs.Draws.{next_draw, drawn}
use Rattle.csp_gen.specs.Lines.{text_of}
use Rattle.csp_gen.specs.declared.faults.TheConstants.{PACKETS_PER_FAULT, FIRST_FRAME, LEAST_GAP, GAPS}

-- the network: how many rounds it may run, three nodes, two links, three routes
abbrev pub network_lines : List (List ℕ)
network_lines =
    codes "until 40000"
    ∷ codes "node ground 1 buffers 32 seed 65400"
    ∷ codes "node relay 2 buffers 32"
    ∷ codes "node payload 3 buffers 32"
    ∷ codes "link radio kiss ground relay"
    ∷ codes "link bus can relay payload"
    ∷ codes "route ground 0/0 radio"
    ∷ codes "route relay 1 radio, 3 bus"
    ∷ codes "route payload 0/0 bus"
    ∷ []

-- x(j): x(0) is the number of packets, and each other is the draw after the one before
unfoldable pub number_at : ℕ → ℕ → ℕ
number_at packets zero = packets
number_at packets (suc j) = next_draw (number_at packets j)

-- f(j): from each fault to the next there are 10 to 29 frames
unfoldable pub frame_at : ℕ → ℕ → ℕ
frame_at packets zero = FIRST_FRAME
frame_at packets (suc j) = frame_at packets j + LEAST_GAP + drawn GAPS (number_at packets (suc j))

-- what happens to the frame of the j-th fault, by j mod 3
abbrev pub harm_of : ℕ → List ℕ
harm_of j = if j % 3 == 1 then codes "lose" else if j % 3 == 2 then codes "repeat 1" else codes "delay 5"

-- the line of the j-th fault, of a frame from the ground to the relay
abbrev pub fault_line : ℕ → ℕ → List ℕ
fault_line packets j = codes "fault radio ab " ++ decimal (frame_at packets j) ++ codes " " ++ harm_of j

-- the faults, from the first on: one for each twenty packets
abbrev pub fault_lines : ℕ → List (List ℕ)
fault_lines packets = map (fault_line packets) (range_with_len 1 (packets / PACKETS_PER_FAULT))

-- an application sends so many packets on a reliable connection, and one takes as many
abbrev pub sender_lines : ℕ → List (List ℕ)
sender_lines packets = codes "app ground ops" ∷ codes "connect 0 3 10 crc rdp" ∷ (codes "burst 0 " ++ decimal packets ++ codes " 100") ∷ []

-- the lines of the payload's application, which takes so many packets
abbrev pub taker_lines : ℕ → List (List ℕ)
taker_lines packets = codes "app payload cam" ∷ codes "bind 10 rdp" ∷ (codes "recv 0 " ++ decimal packets) ∷ []

-- all lines, in order
unfoldable pub scenario_lines : ℕ → List (List ℕ)
scenario_lines packets = network_lines ++ fault_lines packets ++ sender_lines packets ++ taker_lines packets

-- the text: its lines joined, each with the line feed that ends it
unfoldable pub gen_text : ℕ → List ℕ
gen_text packets = text_of (scenario_lines packets)

-- The frames of a packet are a chain.
use Rattle.std.proofs.Common.{◌≡◌, ℕ, zero, suc, ◌+◌, ◌*◌, ◌/◌, ◌%◌, ◌^◌, ◌<◌, ◌≤◌, List, [], ◌∷◌, ◌++◌, length, map, take, drop, refl, sym, subst, ap, ◌∙◌, arith}
use Rattle.std.specs.List.{flat_map, AllByRecursion}
use Rattle.std.proofs.lemmas.List.{length-append, length-take, length-drop, take-append-drop}
use Rattle.std.proofs.lemmas.Nat.{from_be_bytes-to_be_bytes_2, from_be_bytes-to_be_bytes_4}
use Rattle.csp_base.specs.declared.limits.TheConstants.{MAX_PAYLOAD}
use Rattle.csp_can.specs.declared.frames.CanFrame.{CanFrame}
use Rattle.csp_can.specs.declared.identifiers.Identifier.{Identifier}
use Rattle.csp_can.specs.declared.identifiers.Kind.{Kind}
use Rattle.csp_can.specs.declared.identifiers.Kind.TheVariants.{Begin, More}
use Rattle.csp_can.specs.Identifiers.{identifier_number, identifier_of, kind_bit, kind_of, key_of}
use Rattle.csp_can.specs.Frames.{Frame, read_frame, written, IsOnBus}
use Rattle.csp_can.specs.Fragments.{begin_bytes, more_frames, frames_after, first_head, fragments_of}
use Rattle.csp_can.specs.Chains.{CountsDown, Chain}
use Rattle.csp_can.specs.Alone.{ReadsAs}
use Rattle.csp_can.proofs.Feeding.{OfKey, reads_as}

-- each part has its bits
abbrev pub InBits : Identifier → Type 0
InBits i = (i.source < 32) × (i.dest < 32) × (i.remain < 256) × (i.id < 1024)

kind_round : (kind : Kind) (rest top : ℕ) → rest < 2 ^ 18 → kind_of ((top * 2 ^ 19 + kind_bit kind * 2 ^ 18 + rest) / 2 ^ 18 % 2) ≡ kind
kind_round Begin rest top h = let e : (top * 2 ^ 19 + 0 * 2 ^ 18 + rest) / 2 ^ 18 % 2 ≡ 0 = omega arith in ap kind_of e
kind_round More rest top h = let e : (top * 2 ^ 19 + 1 * 2 ^ 18 + rest) / 2 ^ 18 % 2 ≡ 1 = omega arith in ap kind_of e

bit_small : (kind : Kind) → kind_bit kind ≤ 1
bit_small Begin = omega arith
bit_small More = omega arith

-- an identifier is read as it was written
identifier_round : (i : Identifier) → InBits i → identifier_of (identifier_number i) ≡ i
identifier_round i bits =
    let bit = bit_small i.kind in
    let n = identifier_number i in
    let source : n / 2 ^ 24 ≡ i.source = omega arith in
    let dest : n / 2 ^ 19 % 32 ≡ i.dest = omega arith in
    let remain : n / 2 ^ 10 % 256 ≡ i.remain = omega arith in
    let id : n % 1024 ≡ i.id = omega arith in
    let top : (i.source * 32 + i.dest) * 2 ^ 19 + kind_bit i.kind * 2 ^ 18 + (i.remain * 2 ^ 10 + i.id) ≡ n = omega arith in
    let kind : kind_of (n / 2 ^ 18 % 2) ≡ i.kind = ap (λ (m : ℕ). kind_of (m / 2 ^ 18 % 2)) (sym top) ∙ kind_round i.kind (i.remain * 2 ^ 10 + i.id) (i.source * 32 + i.dest) (omega arith) in
    λ j. record { source = source j; dest = dest j; kind = kind j; remain = remain j; id = id j }

abbrev AllInBits : List Frame → Type 0
AllInBits [] = Unit {0}
AllInBits (f ∷ fs) = InBits f.head × AllInBits fs

-- frames are read as they were written
frames_round : (fs : List Frame) → AllInBits fs → map read_frame (map written fs) ≡ fs
frames_round [] bits = refl
frames_round (f ∷ fs) bits = λ i. record { head = identifier_round f.head bits.0 i; bytes = f.bytes } ∷ frames_round fs bits.1 i

more_in_bits : (head : Identifier) (n : ℕ) (rest : List ℕ) → InBits head → n ≤ 2 ^ 8 → AllInBits (more_frames head n rest)
more_in_bits head zero rest bits h = tt
more_in_bits head (suc n) rest bits h = ((bits.0, bits.1, omega arith, bits.3), more_in_bits head n (drop 8 rest) bits (omega arith))

more_of_key : (head : Identifier) (n : ℕ) (rest : List ℕ) → OfKey (key_of head) (more_frames head n rest)
more_of_key head zero rest = tt
more_of_key head (suc n) rest = (refl, more_of_key head n (drop 8 rest))

more_counts_down : (head : Identifier) (n : ℕ) (rest : List ℕ) → CountsDown n (more_frames head n rest)
more_counts_down head zero rest = tt
more_counts_down head (suc n) rest = (refl, omega arith, more_counts_down head n (drop 8 rest))

-- the MORE frames carry the rest of the payload
more_bytes : (head : Identifier) (n : ℕ) (rest : List ℕ) → length rest ≤ 8 * n → flat_map (λ f. f.bytes) (more_frames head n rest) ≡ rest
more_bytes head zero [] h = refl
more_bytes head zero (x ∷ xs) h = absurd (omega arith)
more_bytes head (suc n) rest h =
    let less : length (drop 8 rest) ≤ 8 * n = omega (arith, length-drop 8 rest) in
    ap (λ (bs : List ℕ). take 8 rest ++ bs) (more_bytes head n (drop 8 rest) less) ∙ take-append-drop 8 rest

taken_few : (n : ℕ) (xs : List ℕ) → length (take n xs) ≤ n
taken_few n xs = omega (arith, length-take n xs)

-- and at most 8 bytes each
more_few : (head : Identifier) (m : ℕ) (rest : List ℕ) (n : ℕ) → length (flat_map (λ f. f.bytes) (take n (more_frames head m rest))) ≤ 8 * n
more_few head zero rest zero = omega arith
more_few head zero rest (suc n) = omega arith
more_few head (suc m) rest zero = omega arith
more_few head (suc m) rest (suc n) =
    omega (arith, taken_few 8 rest, more_few head m (drop 8 rest) n, length-append (take 8 rest) (flat_map (λ f. f.bytes) (take n (more_frames head m (drop 8 rest)))))

more_count : (head : Identifier) (n : ℕ) (rest : List ℕ) → length (more_frames head n rest) ≡ n
more_count head zero rest = refl
more_count head (suc n) rest = ap suc (more_count head n (drop 8 rest))

-- the frames of a packet are a chain
pub fragments_chain : (header : ℕ) (payload : List ℕ) (dest id : ℕ) → header < 2 ^ 32 → length payload ≤ MAX_PAYLOAD → Chain (fragments_of header payload dest id) header payload
fragments_chain header payload dest id word fits =
    let head = first_head header payload dest id in
    let n = frames_after (length payload) in
    let more = more_frames head n (drop 2 payload) in
    let covered : length (drop 2 payload) ≤ 8 * n = omega (arith, length-drop 2 payload) in
    record {
      kind = refl;
      enough = omega arith;
      header_is = from_be_bytes-to_be_bytes_4 header word;
      length_is = from_be_bytes-to_be_bytes_2 (length payload) (omega arith);
      counts_down = more_counts_down head n (drop 2 payload);
      payload_is = ap (λ (bs : List ℕ). take 2 payload ++ bs) (more_bytes head n (drop 2 payload) covered) ∙ take-append-drop 2 payload;
      no_shorter = λ j less.
          omega (arith, more_count head n (drop 2 payload), more_few head n (drop 2 payload) j, taken_few 2 payload, length-append (take 2 payload) (flat_map (λ f. f.bytes) (take j more)));
    }

first_in_bits : (header : ℕ) (payload : List ℕ) (dest id : ℕ) → dest < 32 → id < 1024 → length payload ≤ MAX_PAYLOAD → InBits (first_head header payload dest id)
first_in_bits header payload dest id d i fits = (omega arith, d, omega arith, i)

pub fragments_read : (header : ℕ) (payload : List ℕ) (dest id : ℕ) → dest < 32 → id < 1024 → length payload ≤ MAX_PAYLOAD → map read_frame (map written (fragments_of header payload dest id)) ≡ fragments_of header payload dest id
fragments_read header payload dest id d i fits =
    let first = first_in_bits header payload dest id d i fits in
    frames_round (fragments_of header payload dest id)
    (first, more_in_bits (first_head header payload dest id) (frames_after (length payload)) (drop 2 payload) first (omega arith))

-- the frames that stand on the bus for a packet are a chain, and read as it
pub fragments_whole : (header : ℕ) (payload : List ℕ) (dest id : ℕ) (frames : List CanFrame) → header < 2 ^ 32 → dest < 32 → id < 1024 → length payload ≤ MAX_PAYLOAD
    → frames ≡ map written (fragments_of header payload dest id) → Chain (map read_frame frames) header payload × ((mtu : ℕ) → length payload ≤ mtu → ReadsAs mtu (map read_frame frames) header payload)
fragments_whole header payload dest id frames word d i fits are =
    let read : map read_frame frames ≡ fragments_of header payload dest id = ap (map read_frame) are ∙ fragments_read header payload dest id d i fits in
    let chain = fragments_chain header payload dest id word fits in
    let key = more_of_key (first_head header payload dest id) (frames_after (length payload)) (drop 2 payload) in
    subst (λ (fs : List Frame). Chain fs header payload × ((mtu : ℕ) → length payload ≤ mtu → ReadsAs mtu fs header payload)) (sym read)
    (chain, λ mtu short. reads_as mtu (fragments_of header payload dest id) header payload chain key short)

-- each frame is one that a bus carries
number_fits : (i : Identifier) → InBits i → identifier_number i < 2 ^ 29
number_fits i bits = omega (arith, bit_small i.kind, bits.0, bits.1, bits.2, bits.3)

more_on_bus : (head : Identifier) (n : ℕ) (rest : List ℕ) → InBits head → n < 257 → AllByRecursion IsOnBus (map written (more_frames head n rest))
more_on_bus head zero rest bits h = tt
more_on_bus head (suc n) rest bits h =
    ((number_fits (record head { kind = More; remain = n }) (bits.0, bits.1, omega arith, bits.3), taken_few 8 rest), more_on_bus head n (drop 8 rest) bits (omega arith))

begin_few : (header : ℕ) (payload : List ℕ) → length (begin_bytes header payload) ≤ 8
begin_few header payload = omega (arith, taken_few 2 payload)

pub fragments_on_bus : (header : ℕ) (payload : List ℕ) (dest id : ℕ) → dest < 32 → id < 1024 → length payload ≤ MAX_PAYLOAD → AllByRecursion IsOnBus (map written (fragments_of header payload dest id))
fragments_on_bus header payload dest id d i fits =
    let first = first_in_bits header payload dest id d i fits in
    ((number_fits (first_head header payload dest id) first, begin_few header payload), more_on_bus (first_head header payload dest id) (frames_after (length payload)) (drop 2 payload) first (omega arith))

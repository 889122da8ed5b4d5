-- Frames of a KISS link, and what is read of a stream of them.
use Rattle.std.proofs.Common.{length-append, ◌≡◌, ℕ, ◌+◌, ◌*◌, ◌-◌, ◌≤◌, Bool, true, false, List, [], ◌∷◌, ◌++◌, length, take, drop, Option, None, Some, refl, sym, subst, arith}
use Rattle.std.proofs.lemmas.Bool.{ltb-false}
use Rattle.std.proofs.lemmas.List.{length-drop, length-take}
use Rattle.std.specs.Int.{from_be_bytes, to_be_bytes, w32}
use Rattle.std.specs.Prelude.{◌==◌, IfSome, if◌then◌else◌, nat_lt}
use Rattle.csp_crc.specs.Crc.{crc_of}
use Rattle.csp_kiss.proofs.Public.{ended, going_on, read_step}
use Rattle.csp_kiss.specs.Frame.{covered, escape_of, escaped, frame}
use Rattle.csp_kiss.specs.GoingOn.{Progress, packet_of, read_on}
use Rattle.csp_kiss.specs.Reading.{Reading, after, answer, answers, continued, going, kept_bytes, told}
use Rattle.csp_kiss.specs.Stream.{compared, judged}
use Rattle.csp_kiss.specs.declared.TheConstants.{FEND, FESC, TFEND, TFESC}
use Rattle.csp_kiss.specs.declared.event.KissEvent.TheVariants.{Packet, TooLong, Short, BadCrc}
use Rattle.csp_kiss.specs.declared.event.KissEvent.{KissEvent}
use Rattle.csp_kiss.specs.declared.progress.KissPacket.{KissPacket}
use Rattle.csp_kiss.specs.declared.stage.Stage.TheVariants.{Outside, Start, Plain, Escape}
use Rattle.csp_kiss.specs.declared.stage.Stage.{Stage}

-- ---- a frame

escape_short : (byte : ℕ) → length (escape_of byte) ≤ 2
escape_short byte = go (byte == FEND) (byte == FESC)
  where
    go : (a b : Bool) → length (if a then FESC ∷ TFEND ∷ [] else if b then FESC ∷ TFESC ∷ [] else byte ∷ []) ≤ 2
    go true b = omega arith
    go false true = omega arith
    go false false = omega arith

escaped_short : (bytes : List ℕ) → length (escaped bytes) ≤ 2 * length bytes
escaped_short [] = omega arith
escaped_short (byte ∷ bytes) = omega (arith, escape_short byte, escaped_short bytes, length-append (escape_of byte) (escaped bytes))

-- a frame is at most twice the header, the payload and the CRC, and three bytes more
pub frame_short : (cover : Bool) (header : ℕ) (payload : List ℕ) → length payload ≤ 256 → length (frame cover header payload) ≤ 531
unfolding frame
frame_short cover header payload h =
    let last : List ℕ = to_be_bytes w32 (crc_of (covered cover header payload)) in
    let inner : List ℕ = to_be_bytes w32 header ++ (payload ++ last) in
    let back : length (payload ++ last) ≡ length payload + 4 = length-append payload last in
    let all : length inner ≡ 4 + length (payload ++ last) = length-append (to_be_bytes w32 header) (payload ++ last) in
    let twice = escaped_short inner in
    let whole : length (escaped inner ++ FEND ∷ []) ≡ length (escaped inner) + 1 = length-append (escaped inner) (FEND ∷ []) in
    omega (arith, h, back, all, twice, whole)

-- ---- what is read

-- a packet that is judged good is no longer than the reader's mtu
judged_short : (cover : Bool) (mtu : ℕ) (bytes : List ℕ) → IfSome (packet_of (judged cover mtu bytes)) (λ p. length p.payload.items ≤ mtu)
unfolding judged compared
judged_short cover mtu bytes =
    go (nat_lt (mtu + 8) (length bytes)) (nat_lt (length bytes) 8) (from_be_bytes w32 (drop (length bytes - 4) bytes) == crc_of (covered cover (from_be_bytes w32 (take 4 (take (length bytes - 4) bytes))) (drop 4 (take (length bytes - 4) bytes)))) refl
  where
    go : (a b c : Bool) → nat_lt (mtu + 8) (length bytes) ≡ a
        → IfSome (packet_of (if a then TooLong else if b then Short else if c then Packet (from_be_bytes w32 (take 4 (take (length bytes - 4) bytes))) (record { items = drop 4 (take (length bytes - 4) bytes) }) else BadCrc (from_be_bytes w32 (drop (length bytes - 4) bytes)) (crc_of (covered cover (from_be_bytes w32 (take 4 (take (length bytes - 4) bytes))) (drop 4 (take (length bytes - 4) bytes)))))) (λ p. length p.payload.items ≤ mtu)
    go true b c e = tt
    go false true c e = tt
    go false false true e = let fits = ltb-false (mtu + 8) (length bytes) e in omega (arith, fits, length-take (length bytes - 4) bytes, length-drop 4 (take (length bytes - 4) bytes))
    go false false false e = tt

-- a reader judges by the same mtu later on
continued_same : (r : Reading) (s : Stage) (byte : ℕ) → (continued r s byte).mtu ≡ r.mtu
continued_same r Outside byte = refl
continued_same r Start byte = refl
continued_same r Escape byte = refl
continued_same r Plain byte = go (byte == FESC)
  where
    go : (b : Bool) → (if b then going r Escape r.plain else going r Plain (kept_bytes r.mtu r.plain (byte ∷ []))).mtu ≡ r.mtu
    go true = refl
    go false = refl

after_same : (r : Reading) (byte : ℕ) → (after r byte).mtu ≡ r.mtu
after_same r byte = go (byte == FEND)
  where
    go : (b : Bool) → (if b then going r Start [] else continued r r.stage byte).mtu ≡ r.mtu
    go true = refl
    go false = continued_same r r.stage byte

abbrev IsShortPacket : KissPacket → Type 0
IsShortPacket p = length p.payload.items ≤ 256

abbrev IsShortEvent : KissEvent → Type 0
IsShortEvent event = IfSome (packet_of event) IsShortPacket

-- as far as it is read, the mtu is as small, and a packet is short
pub record IsRead (p : Progress) : Type 0 where
  pub mtu : p.reading.mtu ≤ 256
  pub packet : IfSome p.packet (λ k. length k.payload.items ≤ 256)

ended_read : (o : Option KissPacket) (r : Reading) (left : List ℕ) (later : Progress) → r.mtu ≤ 256 → IfSome o IsShortPacket → IsRead later → IsRead (ended o r left later)
ended_read (Some packet) r left later h short rest = record { mtu = h; packet = short }
ended_read None r left later h short rest = record { mtu = rest.mtu; packet = rest.packet }

going_read : (o : Option KissEvent) (r : Reading) (left : List ℕ) (later : Progress) → r.mtu ≤ 256 → IfSome o IsShortEvent → IsRead later → IsRead (going_on o r left later)
going_read None r left later h short rest = rest
going_read (Some event) r left later h short rest = ended_read (packet_of event) r left later h short rest

some_shorter : (o : Option KissPacket) (m : ℕ) → m ≤ 256 → IfSome o (λ p. length p.payload.items ≤ m) → IfSome o IsShortPacket
some_shorter None m less h = tt
some_shorter (Some p) m less h = omega (arith, less, h)

told_short : (r : Reading) (s : Stage) → r.mtu ≤ 256 → IfSome (told r s) IsShortEvent
told_short r Outside h = tt
told_short r Start h = tt
told_short r Plain h = some_shorter (packet_of (judged r.cover r.mtu r.plain)) r.mtu h (judged_short r.cover r.mtu r.plain)
told_short r Escape h = some_shorter (packet_of (judged r.cover r.mtu r.plain)) r.mtu h (judged_short r.cover r.mtu r.plain)

answer_short : (r : Reading) (byte : ℕ) → r.mtu ≤ 256 → IfSome (answer r byte) IsShortEvent
answer_short r byte h = go (byte == FEND)
  where
    go : (b : Bool) → IfSome (if b then told r r.stage else None) IsShortEvent
    go true = told_short r r.stage h
    go false = tt

none_read : (r : Reading) → r.mtu ≤ 256 → IsRead (read_on r [])
unfolding read_on answers
none_read r h = record { mtu = h; packet = tt }

pub all_read : (r : Reading) (bytes : List ℕ) → r.mtu ≤ 256 → IsRead (read_on r bytes)
all_read r [] h = none_read r h
all_read r (byte ∷ bytes) h =
    let next : (after r byte).mtu ≤ 256 = omega (arith, h, after_same r byte) in
    subst IsRead (sym (read_step r byte bytes)) (going_read (answer r byte) (after r byte) bytes (read_on (after r byte) bytes) next (answer_short r byte h) (all_read (after r byte) bytes next))

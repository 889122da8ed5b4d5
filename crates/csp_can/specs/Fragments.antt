use Rattle.std.specs.Prelude.{ℕ, zero, suc, ◌+◌, ◌-◌, ◌/◌, List, [], ◌∷◌, ◌++◌, length, take, drop}
use Rattle.std.specs.Int.{to_be_bytes, w16, w32}
use Rattle.csp_can.specs.declared.identifiers.Kind.TheVariants.{Begin, More}
use Rattle.csp_can.specs.declared.identifiers.Identifier.{Identifier}
use Rattle.csp_header.specs.Word.{header_at}
use Rattle.csp_can.specs.Frames.{Frame}

-- the data of a BEGIN frame: 4 header bytes, 2 length bytes, up to 2 payload bytes
abbrev pub begin_bytes : ℕ → List ℕ → List ℕ
begin_bytes header payload = to_be_bytes w32 header ++ to_be_bytes w16 (length payload) ++ take 2 payload

-- the MORE frame of what is left of a payload: up to 8 bytes, and it tells how many frames come after it
abbrev pub more_frame : Identifier → ℕ → List ℕ → Frame
more_frame head remain rest = record { head = record head { kind = More; remain = remain }; bytes = take 8 rest }

-- the n MORE frames of what is left of a payload, each filled before the next
abbrev pub more_frames : Identifier → ℕ → List ℕ → List Frame
more_frames head zero rest = []
more_frames head (suc n) rest =
    more_frame head n rest ∷ more_frames head n (drop 8 rest)

-- how many MORE frames a payload of this length needs
abbrev pub frames_after : ℕ → ℕ
frames_after len = (len - 2 + 7) / 8

-- the head of a packet's first frame
abbrev pub first_head : ℕ → List ℕ → ℕ → ℕ → Identifier
first_head header payload dest id =
    record {
      source = (header_at header).src;
      dest = dest;
      kind = Begin;
      remain = frames_after (length payload);
      id = id;
    }

-- the frames of a packet, each filled before the next
abbrev pub fragments_of : ℕ → List ℕ → ℕ → ℕ → List Frame
fragments_of header payload dest id =
    let head = first_head header payload dest id in
    record { head = head; bytes = begin_bytes header payload } ∷ more_frames head (frames_after (length payload)) (drop 2 payload)

-- replies as bytes
use Rattle.std.specs.Prelude.{ℕ, ◌-◌, List, ◌∷◌, ◌++◌, length, replicate}
use Rattle.std.specs.List.{flat_map}
use Rattle.std.specs.Int.{to_be_bytes, w32}
use Rattle.csp_cmp.specs.declared.request.CmpRequest.{CmpRequest}
use Rattle.csp_cmp.specs.declared.request.CmpRequest.TheVariants.{Ident, Stats, Peek, Clock}
use Rattle.csp_cmp.specs.declared.replies.TheConstants.{REPLY, MODEL, REVISION, DATE, TIME, HOST_ROOM, MODEL_ROOM, REVISION_ROOM, DATE_ROOM, TIME_ROOM}
use Rattle.csp_cmp.specs.Codes.{code_number}
use Rattle.csp_cmp.specs.Requests.{code_in, fields_of}

-- a text in a field of so many bytes: behind it stand zeros
abbrev pub padded : List ℕ → ℕ → List ℕ
padded text room = text ++ replicate (room - length text) 0

-- the reply that repeats a request: its type is another
abbrev pub same_bytes : CmpRequest → List ℕ
same_bytes r = REPLY ∷ code_number (code_in r) ∷ fields_of r

-- the reply of a node of this name to the question who it is: its name, its model, its revision, a date, a time
abbrev pub ident_bytes : List ℕ → List ℕ
ident_bytes host =
    same_bytes Ident ++ padded host HOST_ROOM ++ padded MODEL.now MODEL_ROOM ++ padded REVISION.now REVISION_ROOM
    ++ padded DATE.now DATE_ROOM ++ padded TIME.now TIME_ROOM

-- the reply to a question for the counts of an interface: the name as it came, and the counts, 32 bits each
abbrev pub stats_bytes : List ℕ → List ℕ → List ℕ
stats_bytes iface counts = same_bytes (Stats iface) ++ flat_map (to_be_bytes w32) counts

-- the reply to a question for memory: where it is, how much, and the bytes there
abbrev pub peek_bytes : ℕ → List ℕ → List ℕ
peek_bytes addr bytes = same_bytes (Peek addr (length bytes)) ++ bytes

-- the reply to a question for the time, or to one that sets it: seconds and nanoseconds
abbrev pub clock_bytes : ℕ → ℕ → List ℕ
clock_bytes sec nsec = same_bytes (Clock sec nsec)

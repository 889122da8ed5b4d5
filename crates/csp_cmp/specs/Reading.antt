-- what bytes are as a request
use Rattle.std.specs.Prelude.{ℕ, ◌+◌, ◌==◌, nat_lt, if◌then◌else◌, Option, Some, None, Result, Ok, Err, List, [], ◌∷◌, length, take, drop, slice_index, slice_get}
use Rattle.std.specs.Int.{from_be_bytes, w32}
use Rattle.csp_cmp.specs.declared.code.Code.{Code}
use Rattle.csp_cmp.specs.declared.code.Code.TheVariants.{Ident, RouteSet, Stats, Peek, Poke, Clock}
use Rattle.csp_cmp.specs.declared.errors.CmpError.{CmpError}
use Rattle.csp_cmp.specs.declared.errors.CmpError.TheVariants.{Short, BadType, BadCode, BadCount, BadLength}
use Rattle.csp_cmp.specs.declared.request.CmpRequest.{CmpRequest}
use Rattle.csp_cmp.specs.declared.request.CmpRequest.TheVariants as request
use Rattle.csp_cmp.specs.declared.request.TheConstants.{NAME_LEN}
use Rattle.csp_cmp.specs.declared.reading.TheConstants.{REQUEST, MAX_CHUNK}
use Rattle.csp_cmp.specs.Codes.{code_of}

-- the number of 32 bits that begins at this byte
abbrev pub number_at : List ℕ → ℕ → ℕ
number_at bytes at = from_be_bytes w32 (take 4 (drop at bytes))

-- the name that begins at this byte
abbrev pub name_at : List ℕ → ℕ → List ℕ
name_at bytes at = take NAME_LEN (drop at bytes)

-- how many bytes of memory a request says that it asks for or brings, where it says so: byte 6 of a peek and of a poke
abbrev pub chunk_of : Code → List ℕ → Option ℕ
chunk_of Ident bytes = None
chunk_of RouteSet bytes = None
chunk_of Stats bytes = None
chunk_of Peek bytes = slice_get bytes 6
chunk_of Poke bytes = slice_get bytes 6
chunk_of Clock bytes = None

-- a count, or 0 where none is there
abbrev pub count_or_zero : Option ℕ → ℕ
count_or_zero None = 0
count_or_zero (Some n) = n

-- how many bytes a request needs, its type and its code with them
abbrev pub need_of : Code → List ℕ → ℕ
need_of Ident bytes = 2
need_of RouteSet bytes = 15
need_of Stats bytes = 13
need_of Peek bytes = 7
need_of Poke bytes = 7 + count_or_zero (chunk_of Poke bytes)
need_of Clock bytes = 10

-- the request that so many bytes are
abbrev pub read_as : Code → List ℕ → CmpRequest
read_as Ident bytes = request.Ident
read_as RouteSet bytes = request.RouteSet (slice_index bytes 2) (slice_index bytes 3) (name_at bytes 4)
read_as Stats bytes = request.Stats (name_at bytes 2)
read_as Peek bytes = request.Peek (number_at bytes 2) (count_or_zero (chunk_of Peek bytes))
read_as Poke bytes = request.Poke (number_at bytes 2) (record { items = take (count_or_zero (chunk_of Poke bytes)) (drop 7 bytes) })
read_as Clock bytes = request.Clock (number_at bytes 2) (number_at bytes 6)

-- a request whose count of memory is this is refused where that is over MAX_CHUNK
abbrev pub if_few : Option ℕ → Result CmpRequest CmpError → Result CmpRequest CmpError
if_few None rest = rest
if_few (Some count) rest = if nat_lt MAX_CHUNK count then Err (BadCount count) else rest

-- a request of a code is refused where the bytes are fewer than it needs
abbrev pub if_whole : Code → List ℕ → Result CmpRequest CmpError
if_whole code bytes = if nat_lt (length bytes) (need_of code bytes) then Err (BadLength (need_of code bytes)) else Ok (read_as code bytes)

-- bytes of this number as a code: first what they say of memory is looked at, then whether they are enough
abbrev pub by_code : ℕ → Option Code → List ℕ → Result CmpRequest CmpError
by_code number None bytes = Err (BadCode number)
by_code number (Some code) bytes = if_few (chunk_of code bytes) (if_whole code bytes)

-- bytes as a request: first their type is looked at, then their code
abbrev pub decoded : List ℕ → Result CmpRequest CmpError
decoded [] = Err Short
decoded (kind ∷ []) = Err Short
decoded (kind ∷ number ∷ fields) =
    if kind == REQUEST then by_code number (code_of number) (kind ∷ number ∷ fields) else Err (BadType kind)

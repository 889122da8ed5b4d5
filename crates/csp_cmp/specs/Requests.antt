-- requests as bytes
use Rattle.std.specs.Prelude.{◌≡◌, ℕ, List, [], ◌∷◌, ◌++◌, length}
use Rattle.std.specs.Int.{to_be_bytes, w32}
use Rattle.csp_cmp.specs.declared.code.Code.{Code}
use Rattle.csp_cmp.specs.declared.code.Code.TheVariants as code
use Rattle.csp_cmp.specs.declared.request.CmpRequest.{CmpRequest}
use Rattle.csp_cmp.specs.declared.request.CmpRequest.TheVariants.{Ident, RouteSet, Stats, Peek, Poke, Clock}
use Rattle.csp_cmp.specs.declared.reading.TheConstants.{REQUEST}
use Rattle.csp_cmp.specs.Codes.{code_number}

-- the code of a request
abbrev pub code_in : CmpRequest → Code
code_in Ident = code.Ident
code_in (RouteSet dest via iface) = code.RouteSet
code_in (Stats iface) = code.Stats
code_in (Peek addr len) = code.Peek
code_in (Poke addr bytes) = code.Poke
code_in (Clock sec nsec) = code.Clock

-- what stands behind the type and the code: the fields in their order, numbers of 32 bits most significant byte first
abbrev pub fields_of : CmpRequest → List ℕ
fields_of Ident = []
fields_of (RouteSet dest via iface) = dest ∷ via ∷ iface
fields_of (Stats iface) = iface
fields_of (Peek addr len) = to_be_bytes w32 addr ++ len ∷ []
fields_of (Poke addr bytes) = to_be_bytes w32 addr ++ length bytes.items ∷ bytes.items
fields_of (Clock sec nsec) = to_be_bytes w32 sec ++ to_be_bytes w32 nsec

-- how many bytes of memory a request asks for or brings
abbrev pub chunk_in : CmpRequest → ℕ
chunk_in Ident = 0
chunk_in (RouteSet dest via iface) = 0
chunk_in (Stats iface) = 0
chunk_in (Peek addr len) = len
chunk_in (Poke addr bytes) = length bytes.items
chunk_in (Clock sec nsec) = 0

-- the bytes of a request
abbrev pub request_bytes : CmpRequest → List ℕ
request_bytes r = REQUEST ∷ code_number (code_in r) ∷ fields_of r

-- a list begins with another
abbrev pub Begins : List ℕ → List ℕ → Type 0
Begins bytes front = (rest : List ℕ) × (bytes ≡ front ++ rest)

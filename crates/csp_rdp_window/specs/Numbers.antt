-- buffers and their numbers
use Rattle.std.specs.Prelude.{ℕ, ◌==◌, List, [], ◌∷◌, Option, Some, None, Result, Ok, Err, count_by}
use Rattle.csp_buffer.specs.PlainBuffer.{PlainBuffer, with_picture}

-- how often a number is in a list
abbrev pub times : ℕ → List ℕ → ℕ
times k numbers = count_by (λ n. n == k) numbers

-- a buffer with other bytes, and else as it is
abbrev pub with_payload : List ℕ → PlainBuffer → PlainBuffer
with_payload bytes b = with_picture b (record b.picture { payload = bytes })

-- the number of a buffer, if there is one
abbrev pub number_in : Option PlainBuffer → List ℕ
number_in None = []
number_in (Some b) = b.picture.number ∷ []

-- the number of a buffer that is handed back
abbrev pub left_over : {A : Type 0} → Result A PlainBuffer → List ℕ
left_over (Ok _) = []
left_over (Err b) = b.picture.number ∷ []

-- a connection neither loses nor doubles a buffer: lists of the same numbers, and what that needs of the connection
use Rattle.std.specs.Prelude.{◌≡◌, ◌<◌, ℕ, List, [], ◌∷◌, length, ⊤}
use Rattle.csp_rdp_window.specs.Numbers.{times}
use Rattle.csp_rdp_window.specs.Receiving.{Kept}
use Rattle.csp_rdp.specs.Machine.{PlainRdp}
use Rattle.csp_rdp.specs.Sound.{IsUnopened}

-- two lists of buffer numbers are the same up to their order: each number is in both as often, and they are equally long
pub record Balanced (xs ys : List ℕ) : Type 0 where
  pub numbers : (k : ℕ) → times k xs ≡ times k ys
  pub count : length xs ≡ length ys

-- the indices of what is kept rise, and the first of them is past this one
abbrev pub IsInOrder : ℕ → List Kept → Type 0
IsInOrder last [] = ⊤
IsInOrder last (k ∷ ks) = (last < k.index) × IsInOrder k.index ks

-- a connection is whole: before it is open it keeps nothing and nothing was delivered, and what it keeps is past what was delivered, in order and each index once
pub record IsWhole (r : PlainRdp) : Type 0 where
  pub unopened : IsUnopened r.state r.recv
  pub ordered : IsInOrder r.recv.cur r.recv.kept

-- What contracts see of a pool and of its passes.
use Rattle.std.specs.Prelude.{◌≡◌, ℕ, List, map}
use Rattle.atomic_table.specs.Seated.{TableId}
use Rattle.csp_buffer.specs.PlainBuffer.{PlainBuffer}
use Rattle.csp_pool.specs.declared.hand.Hand.{Hand}

-- a pool: its name, and how many buffers it has room for
pub record PlainPool : Type 0 where
  pub name : TableId
  pub capacity : ℕ

-- a pass: the name of its pool, and what it has done and knows
pub record PlainPass : Type 0 where
  pub pool : TableId
  pub hand : Hand

-- it is a pass of this pool
abbrev pub IsPassOf : PlainPool → PlainPass → Type 0
IsPassOf p pass = pass.pool ≡ p.name

-- it is a pass of the same pool still
abbrev pub SamePool : PlainPass → PlainPass → Type 0
SamePool first last = last.pool ≡ first.pool

-- the numbers of buffers, in their order
abbrev pub numbers : List PlainBuffer → List ℕ
numbers bs = map (λ b. b.picture.number) bs

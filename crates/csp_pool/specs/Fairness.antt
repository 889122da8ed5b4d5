-- The rule of a pool: `Fair items views`, of the buffers in it and of what all its passes and notes have done and know.
use Rattle.std.specs.Prelude.{◌≡◌, ◌≤◌, ℕ, ◌+◌, ◌==◌, List, [], ◌++◌, length}
use Rattle.std.specs.List.{sum_by, count_by}
use mathlib.Core.Option.{some}
use lib.ListN.{get_elem?}
use Rattle.csp_arena.specs.Cells.{RegionName}
use Rattle.csp_buffer.specs.Memory.{AreAllOf}
use Rattle.csp_buffer.specs.PlainBuffer.{PlainBuffer}
use Rattle.csp_pool.specs.declared.hand.Hand.{Hand}
use Rattle.csp_pool.specs.Hands.{IsLive, IsAlone}
use Rattle.csp_pool.specs.PlainPool.{numbers}
use Rattle.csp_pool.specs.Tallies.{Tally, accounted}

-- how many puts, and takes, all these passes have made
abbrev pub puts_of : List Hand → ℕ
puts_of views = sum_by (λ v. length v.put) views

-- how many buffers all passes took
abbrev pub takes_of : List Hand → ℕ
takes_of views = sum_by (λ v. length v.taken) views

-- a measure of lists that adds up, such as the length, or how often a number is there
abbrev pub IsAdditive : (List ℕ → ℕ) → Type 0
IsAdditive m = (xs ys : List ℕ) → m (xs ++ ys) ≡ m xs + m ys

-- what is known of it was done, and every floor was reached, n times being done
pub record IsSound (n : ℕ) (t : Tally) : Type 0 where
  pub known : t.known ≤ n
  pub reached : t.floor ≤ n

-- a pass or note fits a pool of this region, of so many puts and takes
pub record FitsIn (region : RegionName) (puts takes : ℕ) (v : Hand) : Type 0 where
  pub puts_true : IsSound puts v.puts
  pub takes_true : IsSound takes v.takes
  -- passes know the region
  pub live : IsLive v → v.region ≡ region
  -- what isn't a pass has no lists
  pub idle : v.opens + v.part ≡ 0 → (v.put ≡ []) × (v.taken ≡ [])
  -- only the opening pass is split
  pub away : v.opens ≡ 0 → v.out ≡ 0

-- the rule of a pool: all buffers are of its region, what was put was taken or is there, and what passes and notes tell and know is so
pub record Fair (items : List PlainBuffer) (views : List Hand) : Type 0 where
  pub region : RegionName
  pub of_it : AreAllOf region items
  -- one pass opened the pool, and as many passes were split off as are out
  pub one_opens : sum_by (λ v. v.opens) views ≡ 1
  pub parted : sum_by (λ v. v.part) views ≡ sum_by (λ v. v.out) views
  -- by every measure, what was put is what was taken and what is there
  pub weighs : (m : List ℕ → ℕ) → IsAdditive m → sum_by (λ v. m v.put) views ≡ sum_by (λ v. m v.taken) views + m (numbers items)
  -- what all answer for is what was done
  pub puts_told : sum_by (λ v. accounted v.puts) views ≡ puts_of views
  pub takes_told : sum_by (λ v. accounted v.takes) views ≡ takes_of views
  pub fits : (i : ℕ) (v : Hand) → get_elem? views i ≡ some v → FitsIn region (puts_of views) (takes_of views) v

-- the hand that is left once all passes were joined, while buffers of the numbers `left` are in the pool: what was put is, as a multiset, what was taken and what is left, and every floor was reached
pub record Closes (v : Hand) (left : List ℕ) : Type 0 where
  pub whole : (k : ℕ) → count_by (λ n. n == k) v.put ≡ count_by (λ n. n == k) v.taken + count_by (λ n. n == k) left
  pub counted : length v.put ≡ length v.taken + length left
  pub puts_reached : v.puts.floor ≤ length v.put
  pub takes_reached : v.takes.floor ≤ length v.taken

-- so it is, where this hand is alone
abbrev pub HasClosed : Hand → List ℕ → Type 0
HasClosed v left = IsAlone v → Closes v left

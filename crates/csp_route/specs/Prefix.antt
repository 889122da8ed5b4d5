-- Prefixes of addresses: what a row of the table covers.
use Rattle.std.specs.Prelude.{◌≡◌, ℕ, ◌-◌, ◌%◌, ◌^◌}
use Rattle.std.specs.Ordering.{ordering_then, nat_cmp}
use Rattle.std.specs.declared.cmp.Ordering.{Ordering}
use Rattle.csp_route.specs.declared.prefix.Prefix.{Prefix}
use Rattle.csp_route.specs.declared.prefix.TheConstants.{MAX_MASK}

-- the address with every bit after the first `mask` of its five cleared
abbrev pub masked : ℕ → ℕ → ℕ
masked addr mask = addr - addr % 2 ^ (MAX_MASK - mask)

-- the prefix of this length of an address
abbrev pub prefix_of : ℕ → ℕ → Prefix
prefix_of addr mask = record { addr = masked addr mask; mask = mask }

-- the first `mask` bits of the address are those of the prefix
abbrev pub Covers : Prefix → ℕ → Type 0
Covers prefix addr = masked addr prefix.mask ≡ prefix.addr

-- prefixes stand in the order of their address, then of their mask
abbrev pub prefix_cmp : Prefix → Prefix → Ordering
prefix_cmp p q = ordering_then (nat_cmp p.addr q.addr) (nat_cmp p.mask q.mask)

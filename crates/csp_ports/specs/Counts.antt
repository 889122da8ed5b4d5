-- how far a node's ports have come
use Rattle.std.specs.Prelude.{ℕ, ◌-◌, ◌^◌, ◌≤◌, max, fold, List, [], ◌∷◌, ◌++◌, map}
use Rattle.std.specs.List.{All, flat_map}
use Rattle.csp_ports.specs.PlainPorts.{PlainPorts, machines_of, terms_of}
use Rattle.csp_rdp.specs.Counts.{IsFar}
use Rattle.csp_rdp.specs.Machine.{PlainRdp}

-- no more than n packets were admitted on a connection, and no more delivered; and no more than n connections were made,
-- and no more ends of a slot answered
pub record AreFar (n : ℕ) (p : PlainPorts) : Type 0 where
  pub machines : All (IsFar n) (machines_of p)
  pub made : p.made ≤ n
  pub ends : All (λ t. t.ordinal ≤ n) (terms_of p)

-- each of them can be one more
abbrev pub IsCountable : PlainPorts → Type 0
IsCountable p = AreFar (2 ^ 32 - 2) p

-- how many packets were admitted on a connection, and how many delivered; the next to be admitted has the number after the last
abbrev pub went_through : PlainRdp → List ℕ
went_through r = (r.send.nxt - 1) ∷ r.recv.cur ∷ []

-- the numbers that turns raise: of the connections made, of the packets that went through each, and of the ends of each slot
-- that were answered
abbrev pub raised : PlainPorts → List ℕ
raised p = p.made ∷ flat_map went_through (machines_of p) ++ map (λ t. t.ordinal) (terms_of p)

-- the greatest of the numbers that steps raise
abbrev pub greatest : PlainPorts → ℕ
greatest p = fold max 0 (raised p)

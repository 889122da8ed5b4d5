-- how many packets went through a connection
use Rattle.std.specs.Prelude.{ℕ, ◌+◌, ◌≤◌}
use Rattle.csp_rdp.specs.Machine.{PlainRdp}

-- no more than n packets were admitted, and no more delivered
pub record IsFar (n : ℕ) (r : PlainRdp) : Type 0 where
  pub admitted : r.send.nxt ≤ n + 1
  pub delivered : r.recv.cur ≤ n

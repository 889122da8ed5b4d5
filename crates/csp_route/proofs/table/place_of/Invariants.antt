use Rattle.std.proofs.Common.{◌≡◌, drop}
use Rattle.csp_route.specs.Kept.{place_from}
use Rattle.csp_route.proofs.table.place_of.Given as goal

abbrev pub invariant-loop-place : goal.invariant-loop-place
invariant-loop-place l = place_from l.place l.prefix (drop l.place l.rows) ≡ place_from 0 l.prefix l.rows

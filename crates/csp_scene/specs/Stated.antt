-- What the faults of a link are of, as a set.
use Rattle.std.specs.Prelude.{◌≡◌, List}
use Rattle.std.specs.Ordering.{ordering_then, nat_cmp}
use Rattle.std.specs.declared.cmp.Ordering.{Ordering}
use Rattle.std.specs.BTreeSet.{BTreeSet, contains}
use Rattle.csp_link.specs.declared.fault.Fault.{Fault}
use Rattle.csp_scene.specs.declared.links.Stated.{Stated}
use Rattle.csp_scene.specs.contracts.harm.HarmOrd.TheImpl.{ghosts}
use Rattle.csp_scene.specs.Faults.{harm_of, has_fault}

-- what a fault is of: its frame, its direction, and what it does
abbrev pub stated_of : Fault → Stated
stated_of fault = record { frame = fault.frame; dir = fault.dir; harm = harm_of fault.kind }

-- the order in which faults are kept: by frame, then direction, then kind
abbrev pub stated_cmp : Stated → Stated → Ordering
stated_cmp one other = ordering_then (nat_cmp one.frame other.frame) (ordering_then (nat_cmp one.dir other.dir) (ghosts.cmp one.harm other.harm))

-- a set has what each fault of a plan is of, and nothing else
pub record AreStated (stated : BTreeSet Stated) (plan : List Fault) : Type 0 where
  pub each : (fault : Fault) → contains stated_cmp stated (stated_of fault) ≡ has_fault fault plan

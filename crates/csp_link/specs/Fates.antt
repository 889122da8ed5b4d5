-- what a plan of faults says of the frames of a direction, which are counted from 1
use Rattle.std.specs.Prelude.{ℕ, ◌==◌, ◌&&◌, ◌≤◌, true, false, Some, None, List, [], ⊤, max, unwrap_or, if◌then◌else◌}
use Rattle.std.specs.List.{filter, fold}
use Rattle.std.specs.Ordering.{nat_cmp}
use Rattle.std.specs.Map.{lookup}
use Rattle.std.specs.BTreeMap.{insert_entry, is_at}
use Rattle.csp_link.specs.declared.fates.Fate.{Fate}
use Rattle.csp_link.specs.declared.fault.Fault.{Fault}
use Rattle.csp_link.specs.declared.fault.FaultKind.{FaultKind}
use Rattle.csp_link.specs.declared.fault.FaultKind.TheVariants as fault
use Rattle.csp_link.specs.declared.fault.TheConstants.{MAX_REPEATS}

-- nothing happens to a frame that a plan does not name
abbrev pub unharmed : Fate
unharmed = record { lost = false; repeats = 0; delay = 0; flip = None }

-- with a fault more; of two of one kind the later counts
abbrev pub afflicted : FaultKind → Fate → Fate
afflicted fault.Lose fate = record fate { lost = true }
afflicted (fault.Repeat copies) fate = record fate { repeats = copies }
afflicted (fault.Delay rounds) fate = record fate { delay = rounds }
afflicted (fault.Flip bit) fate = record fate { flip = Some bit }

-- what a plan says of this frame of a direction: the faults of that frame, in the plan's order, applied to a frame that is unharmed
abbrev pub fate_of : (dir frame : ℕ) → List Fault → Fate
fate_of dir frame plan = fold (λ fate f. afflicted f.kind fate) unharmed (filter (λ f. f.dir == dir && f.frame == frame) plan)

-- the finite map in which a link looks a frame up, as its entries in the order of the frames
abbrev pub Fates : Type 0
Fates = List (ℕ × Fate)

-- what the map has of the frame of this number
abbrev pub fate_at : Fates → (frame : ℕ) → Fate
fate_at fates frame = unwrap_or (lookup (is_at (nat_cmp frame)) fates) unharmed

-- the most copies that the map adds to a frame
abbrev pub most_copies : Fates → ℕ
most_copies fates = fold (λ most entry. max most entry.1.repeats) 0 fates

-- the map with a fault more
abbrev pub with_fault : Fates → Fault → Fates
with_fault fates f = insert_entry nat_cmp fates f.frame (afflicted f.kind (fate_at fates f.frame))

-- where the fault is of this direction
abbrev pub joined : (dir : ℕ) → Fates → Fault → Fates
joined dir fates f = (if f.dir == dir then with_fault fates f else fates)

-- the map of a direction's faults: of each frame it has what the plan says of it
abbrev pub fates_of : (dir : ℕ) → List Fault → Fates
fates_of dir plan = fold (joined dir) [] plan

-- a fault adds at most so many copies
abbrev pub IsKind : FaultKind → Type 0
IsKind fault.Lose = ⊤
IsKind (fault.Repeat copies) = copies ≤ MAX_REPEATS
IsKind (fault.Delay _) = ⊤
IsKind (fault.Flip _) = ⊤

-- a fault's kind has its number in range
abbrev pub IsFault : Fault → Type 0
IsFault f = IsKind f.kind

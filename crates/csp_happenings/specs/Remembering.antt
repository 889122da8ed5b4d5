-- What is kept in mind of a party's entries so far.
use Rattle.std.specs.Prelude.{◌≡◌, ℕ, ◌+◌, ◌≤◌, Bool, true, false, List, ⊤, get_or, if◌then◌else◌, unwrap_or}
use Rattle.std.specs.BTreeMap as tree
use Rattle.std.specs.BTreeMap.{BTreeMap}
use Rattle.std.specs.Ordering.{nat_cmp, ordering_then}
use Rattle.std.specs.declared.cmp.Ordering.{Ordering}
use Rattle.csp_link.specs.Fates.{fate_of, unharmed}
use Rattle.csp_link.specs.declared.fates.Fate.{Fate}
use Rattle.csp_log.specs.declared.entry.Entry.{Entry}
use Rattle.csp_log.specs.declared.framed.Framed.{Framed}
use Rattle.csp_log.specs.declared.who.Who.{Who}
use Rattle.csp_log.specs.declared.who.Who.TheVariants as who
use Rattle.csp_scene.specs.Scene.{PlainScene}
use Rattle.csp_happenings.specs.Happenings.{is_taken, plan_of, taken, was_sent}
use Rattle.csp_happenings.specs.Numbers.{has}
use Rattle.csp_happenings.specs.declared.links.Carrying.{Carrying}
use Rattle.csp_happenings.specs.declared.telling.Memory.{Memory}

-- the order of a map's keys: by direction, then number
abbrev pub key_cmp : (ℕ × ℕ) → (ℕ × ℕ) → Ordering
key_cmp x y = ordering_then (nat_cmp x.0 y.0) (nat_cmp x.1 y.1)

-- what a map says of the frame of this number
abbrev pub fate_in : BTreeMap (ℕ × ℕ) Fate → (dir frame : ℕ) → Fate
fate_in fates dir frame = unwrap_or (tree.get key_cmp fates (dir, frame)) unharmed

-- how many frames were taken from an end
abbrev pub count_of : Carrying → (end : ℕ) → ℕ
count_of c end = get_or c.taken end 0

-- what the plan says of a frame from an end
abbrev pub fate_known : Carrying → (end n : ℕ) → Fate
fate_known c end n = fate_in c.fates end n

-- one more where it is so
abbrev pub one_if : Bool → ℕ
one_if b = if b then 1 else 0

-- with one frame more, where the turn took one from this end
pub record Counts (old new : Carrying) (f : Framed) : Type 0 where
  pub taken : (end : ℕ) → count_of new end ≡ count_of old end + one_if (is_taken end f)
  pub fates : (end n : ℕ) → fate_known new end n ≡ fate_known old end n

-- the frames from each end are counted, and their fates known
pub record Carries (scene : PlainScene) (place : ℕ) (before : List Entry) (c : Carrying) : Type 0 where
  pub taken : (end : ℕ) → count_of c end ≡ taken end before
  pub fates : (end n : ℕ) → fate_known c end n ≡ fate_of end n (plan_of scene place)

-- whether a party is a link
abbrev pub is_link : Who → Bool
is_link (who.Link place) = true
is_link (who.App node n) = false
is_link (who.Router node) = false
is_link (who.Bridge node) = false
is_link (who.Iface node n) = false

-- what is remembered of a party: of an interface which numbers it transmitted, of a link what its frames are
abbrev pub Remembers : PlainScene → List Entry → Memory → Who → Type 0
Remembers scene before m (who.Iface node n) = (x : ℕ × ℕ) → has m.numbers x ≡ was_sent node before x
Remembers scene before m (who.Link place) = Carries scene place before m.carrying
Remembers scene before m (who.App node n) = ⊤
Remembers scene before m (who.Router node) = ⊤
Remembers scene before m (who.Bridge node) = ⊤

-- no count is over this
abbrev pub AreWithin : (most : ℕ) → Carrying → Type 0
AreWithin most c = (end : ℕ) → count_of c end ≤ most

use Rattle.std.specs.Prelude.{◌≡◌, ℕ, ◌+◌, ◌-◌, ◌<◌, ◌≤◌, nat_le, is_some, Some, List, ◌++◌, length, position, All}
use Rattle.csp_base.specs.declared.limits.TheConstants.{MAX_PAYLOAD}
use Rattle.csp_can.specs.declared.partials.Partial.{Partial}
use Rattle.csp_can.specs.declared.partials.TheConstants.{MAX_PARTIALS}
use Rattle.csp_can.specs.Frames.{Frame}
use Rattle.csp_can.specs.Identifiers.{key_of, same_key}
use Rattle.csp_can.specs.declared.identifiers.Key.{Key}
use Rattle.csp_can.specs.Rules.{Arrival, Ruling, opening_ruling, begin_ruling, more_ruling}
use Rattle.csp_can.specs.Open.{counters, fresh, standing, done, gone_on}
use Rattle.csp_can.specs.declared.answers.CanEvent.TheVariants.{Part}

-- no partial packet is longer than a packet may be
abbrev pub AllFit : List Partial → Type 0
AllFit ps = All (λ p. p.length ≤ MAX_PAYLOAD) ps

-- a frame is the next one of a partial packet, which isn't whole with it
abbrev pub IsPartWith : Partial → Frame → Type 0
IsPartWith p f = (f.head.remain + 1 ≡ p.remain) × (length (p.payload.items ++ f.bytes) < p.length)

-- the partial packet of this key stands last
abbrev pub StandsLast : Key → List Partial → Type 0
StandsLast key ps = position (λ p. same_key p.key key) ps ≡ Some (length ps - 1)

-- the ruling on a packet that opens where these partial packets stand
abbrev pub opened : List Partial → Partial → Ruling
opened ps p =
    opening_ruling (is_some (standing counters p.key ps)) (nat_le MAX_PARTIALS (length ps)) p

-- the ruling on a BEGIN frame there
abbrev pub begin_said : (mtu : ℕ) → List Partial → Arrival → Ruling
begin_said mtu ps a = begin_ruling mtu (is_some (standing counters (key_of a.frame.head) ps)) (nat_le MAX_PARTIALS (length ps)) a

-- the ruling on a MORE frame there
abbrev pub more_said : List Partial → Arrival → Ruling
more_said ps a = more_ruling (standing counters (key_of a.frame.head) ps) a

-- no partial packet is to be given up at the time of a MORE frame, and by it the last one goes on and isn't whole
pub record GoesOnLast (ps : List Partial) (a : Arrival) : Type 0 where
  pub fresh : fresh counters a.time ps ≡ ps
  pub event : (more_said ps a).event ≡ Part
  pub last : StandsLast (key_of a.frame.head) ps

-- the partial packets after a ruling on a frame
abbrev pub after : Ruling → List Partial → Arrival → List Partial
after said ps a = done counters said.deed (key_of a.frame.head) (counters.opened a) (gone_on counters ps a) ps

-- what holds of a hub's fields at every time
use Rattle.std.specs.Prelude.{◌≡◌, ◌<◌, ◌≤◌, true, List, length, All, ⊤}
use Rattle.std.specs.List.{list_all}
use Rattle.std.specs.VecDeque.{deque_capacity}
use Rattle.csp_hub.specs.PlainHub.{PlainEnd, PlainHub, served, others}
use Rattle.csp_hub.specs.Planning.{has_room}
use Rattle.csp_hub.specs.declared.doing.Doing.{Doing}
use Rattle.csp_hub.specs.declared.doing.Doing.TheVariants as doing
use Rattle.csp_hub.specs.declared.end.HubEnd.TheInside as end
use Rattle.csp_hub.specs.declared.hub.Hub.TheInside as hub
use Rattle.csp_hub.specs.declared.hub.TheConstants.{MIN_ENDS, MAX_ENDS}
use Rattle.csp_link.specs.Fates.{most_copies}
use Rattle.csp_link.specs.Room.{AreCarried}
use Rattle.csp_link.specs.declared.fault.TheConstants.{MAX_REPEATS}
use Rattle.csp_link.specs.declared.held.TheConstants.{LINK_HOLDS}
use Rattle.csp_log.specs.declared.places.LinkKind.TheVariants as kind

-- an end's fields as contracts see them
abbrev pub plain_end : end.Inside → PlainEnd
plain_end e = record { fates = e.fates; popped = e.popped; held = e.held.items }

-- what an end's fields keep at every time: the most copies are known, and no more is held than there is room for
pub record IsEnd (e : end.Inside) : Type 0 where
  pub copies : e.copies ≡ most_copies e.fates
  pub few : e.copies ≤ MAX_REPEATS
  pub fits : length e.held.items ≤ LINK_HOLDS
  pub room : deque_capacity e.held ≡ LINK_HOLDS

-- what each answer that may come finds: the place of the frame that comes back, and room for what is popped
abbrev pub CanHear : Doing → (served : PlainEnd) → (others : List PlainEnd) → Type 0
CanHear doing.Rest e es = ⊤
CanHear (doing.Push place _) e es = (place ≤ length e.held) × (length e.held < LINK_HOLDS)
CanHear doing.Pop e es = list_all has_room es ≡ true
CanHear doing.Wait e es = ⊤

-- what a hub's fields keep at every time: so many ends, of which one is served, and frames of a CAN bus
pub record IsHub (h : PlainHub) : Type 0 where
  pub few : MIN_ENDS ≤ length h.ends
  pub most : length h.ends ≤ MAX_ENDS
  pub serving : h.serving < length h.ends
  pub carried : All (λ e. AreCarried kind.Can e.held) h.ends
  pub hears : CanHear h.doing (served h) (others h)

-- a hub's fields as contracts see them
abbrev pub plain_hub : hub.Inside → PlainHub
plain_hub h = record { ends = h.ends.items; serving = h.serving; doing = h.doing }

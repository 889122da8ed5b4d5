-- what holds of a link's fields at every time
use Rattle.std.specs.Prelude.{◌<◌, ◌≤◌, List, length, All, ⊤}
use Rattle.csp_deck.specs.Carried.{IsCarried}
use Rattle.csp_link.specs.PlainLink.{PlainLink, in_turn}
use Rattle.csp_link.specs.declared.link.Link.TheInside.{Inside}
use Rattle.csp_link.specs.declared.doing.Doing.{Doing}
use Rattle.csp_link.specs.declared.doing.Doing.TheVariants as doing
use Rattle.csp_link.specs.declared.held.Held.{Held}
use Rattle.csp_link.specs.declared.held.TheConstants.{LINK_HOLDS, MOST_HELD}
use Rattle.csp_log.specs.Kinds.{carried_on}
use Rattle.csp_log.specs.declared.places.LinkKind.{LinkKind}
use Rattle.csp_log.specs.declared.places.Rule.TheVariants as rule
use Rattle.csp_log.specs.declared.shown.ItemShown.TheVariants as item

-- the lanes of this kind carry each of these frames
abbrev pub AreCarried : LinkKind → List Held → Type 0
AreCarried kind held = All (λ h. IsCarried (rule.Lane (carried_on kind)) (item.Frame h.frame)) held

-- what each answer that may come finds: the place of the frame that comes back, and room for what is popped
abbrev pub CanHear : Doing → List Held → Type 0
CanHear doing.Rest held = ⊤
CanHear (doing.Push place _) held = (place ≤ length held) × (length held < LINK_HOLDS)
CanHear doing.Pop held = length held ≤ MOST_HELD
CanHear doing.Wait held = ⊤

-- what a link's fields keep at every time
pub record IsLink (s : PlainLink) : Type 0 where
  pub forth : AreCarried s.kind s.forth.held
  pub back : AreCarried s.kind s.back.held
  pub hears : CanHear s.doing (in_turn s).held

-- a link's fields as contracts see them
abbrev pub plain_link : Inside → PlainLink
plain_link l = record { kind = l.kind; forth = l.forth; back = l.back; way = l.way; doing = l.doing }

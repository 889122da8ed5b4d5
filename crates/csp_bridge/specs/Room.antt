-- what holds of a bridge's fields at every time
use Rattle.std.specs.Prelude.{◌≡◌, ◌<◌, None, ⊤}
use Rattle.csp_bridge.specs.PlainBridge.{PlainBridge, BridgeAt}
use Rattle.csp_bridge.specs.declared.bridge.Bridge.TheInside.{Inside}
use Rattle.csp_bridge.specs.declared.doing.Doing.{Doing}
use Rattle.csp_bridge.specs.declared.doing.Doing.TheVariants as doing

-- a bridge's fields as contracts see them
abbrev pub plain_bridge : Inside → PlainBridge
plain_bridge b = record { trash = b.trash.content; out = b.out.content; to = b.to; doing = b.doing }

-- with the region of its buffers
abbrev pub bridge_at : Inside → BridgeAt
bridge_at b = record { region = b.trash.region; bridge = plain_bridge b }

-- what each answer that may come finds: an empty place for its buffer
abbrev pub CanHear : Doing → PlainBridge → Type 0
CanHear doing.Rest s = ⊤
CanHear doing.Give s = s.trash ≡ None
CanHear doing.Send s = s.trash ≡ None
CanHear doing.Hear s = s.out ≡ None

-- what a bridge's fields keep at every time
pub record IsBridge (b : Inside) : Type 0 where
  -- there are two interfaces
  pub sides : b.to < 2
  pub hears : CanHear b.doing (plain_bridge b)
  -- both its places are for buffers of one region
  pub out_of_it : b.out.region ≡ b.trash.region

-- which node a party belongs to, and which place of that node it is
use Rattle.std.specs.Prelude.{ℕ, ◌==◌, ◌&&◌, Bool, true, false, Option, None, Some}
use Rattle.std.specs.Option.{option_map}
use Rattle.csp_log.specs.declared.places.Place.{Place}
use Rattle.csp_log.specs.declared.places.Place.TheVariants as place
use Rattle.csp_log.specs.declared.who.Who.{Who}
use Rattle.csp_log.specs.declared.who.Who.TheVariants as who

-- the place of its node among the nodes, and the place of that node where the buffers are that the party holds; a bridge counts as the router of its node, and a link has no node
abbrev pub home_of : Who → Option (ℕ × Place)
home_of (who.Router node) = Some (node, place.Router)
home_of (who.Bridge node) = Some (node, place.Router)
home_of (who.Iface node number) = Some (node, place.Iface number)
home_of (who.App node number) = Some (node, place.App number)
home_of (who.Link number) = None

-- the place of its node among the nodes
abbrev pub node_of : Who → Option ℕ
node_of w = option_map (λ home. home.0) (home_of w)

-- whether a party is the one of this name
abbrev pub is_who : Who → Who → Bool
is_who (who.Router node) (who.Router other) = other == node
is_who (who.Bridge node) (who.Bridge other) = other == node
is_who (who.Iface node number) (who.Iface other k) = other == node && k == number
is_who (who.App node number) (who.App other k) = other == node && k == number
is_who (who.Link number) (who.Link k) = k == number
is_who _ _ = false

-- whether a party is this interface of the node at this place
abbrev pub is_iface : ℕ → ℕ → Who → Bool
is_iface node number (who.Iface n k) = n == node && k == number
is_iface node number _ = false

-- whether a party is an interface
abbrev pub is_any_iface : Who → Bool
is_any_iface (who.Iface node number) = true
is_any_iface _ = false

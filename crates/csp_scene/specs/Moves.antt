-- The step words of a schedule: NODE, NODE.LINK, NODE.APP, LINK, tick.
use Rattle.std.specs.Prelude.{ℕ, ◌+◌, ◌==◌, Bool, not, ◌&&◌, ◌||◌, nat_lt, List, length, take, drop, codes, Option, Some, None, option_map, if◌then◌else◌}
use Rattle.std.specs.List.{position_or_len}
use Rattle.std.specs.Str.{bytes_eq}
use Rattle.csp_log.specs.declared.who.Who.TheVariants as who
use Rattle.csp_text.specs.Names.{is_name}
use Rattle.csp_scene.specs.declared.scenario.Move.{Move}
use Rattle.csp_scene.specs.declared.scenario.Move.TheVariants as move
use Rattle.csp_scene.specs.Scene.{PlainNode, PlainLink}
use Rattle.csp_scene.specs.Links.{node_at}
use Rattle.csp_scene.specs.Naming.{router_or_bridge, node_named, link_named, iface_named, app_named}

-- a step word is cut at its first dot, where it has one
abbrev pub dot_place : List ℕ → ℕ
dot_place word = position_or_len (λ byte. byte == 46) word

-- a step word has a dot
abbrev pub has_dot : List ℕ → Bool
has_dot word = nat_lt (dot_place word) (length word)

-- what stands before the dot, and what stands after it
abbrev pub owner_of : List ℕ → List ℕ
owner_of word = take (dot_place word) word

-- what stands behind the first dot of a step word
abbrev pub owned_of : List ℕ → List ℕ
owned_of word = drop (dot_place word + 1) word

-- each part of a step word is a name
abbrev pub is_move : List ℕ → Bool
is_move word = is_name (owner_of word) && (not (has_dot word) || is_name (owned_of word))

-- the first that there is
abbrev pub first_some : Option Move → Option Move → Option Move
first_some (Some found) other = Some found
first_some None other = other

-- a node, a bridge or a link of this name
abbrev pub whole_move : List PlainNode → List PlainLink → List ℕ → Option Move
whole_move nodes links word =
    first_some (option_map (λ place. move.Turn (router_or_bridge (node_at nodes place).addr place)) (node_named word nodes)) (option_map (λ place. move.Turn (who.Link place)) (link_named word links))

-- an interface of a node, on the link of this name, or an application of this name
abbrev pub owned_move : List PlainNode → List PlainLink → List ℕ → Option ℕ → Option Move
owned_move nodes links word None = None
owned_move nodes links word (Some place) =
    first_some (option_map (λ iface. move.Turn (who.Iface place iface)) (iface_named word place links)) (option_map (λ app. move.Turn (who.App place app)) (app_named word (node_at nodes place).apps))

-- the party that a step word names, or a tick; nothing where no earlier line declares it
abbrev pub move_of : List PlainNode → List PlainLink → List ℕ → Option Move
move_of nodes links word =
    if bytes_eq word (codes "tick") then Some move.Tick
    else if has_dot word then owned_move nodes links (owned_of word) (node_named (owner_of word) nodes)
    else whole_move nodes links word

-- What `fault` lines state.
use Rattle.std.specs.Prelude.{ℕ, ◌==◌, Bool, true, false, not, ◌&&◌, nat_lt, List, [], ◌∷◌, ◌++◌, slice_index_or, slice_set, Option, Some, None, Result, Ok, Err, if◌then◌else◌}
use Rattle.std.specs.List.{list_any, position}
use Rattle.std.specs.Option.{option_and_then}
use Rattle.std.specs.Str.{bytes_eq}
use Rattle.csp_link.specs.declared.fault.Fault.{Fault}
use Rattle.csp_link.specs.declared.fault.FaultKind.{FaultKind}
use Rattle.csp_link.specs.declared.fault.FaultKind.TheVariants.{Lose, Repeat, Delay, Flip}
use Rattle.csp_log.specs.declared.places.LinkKind.TheVariants as carried
use Rattle.csp_scene.specs.declared.limits.TheConstants.{MAX_FAULTS}
use Rattle.csp_scene.specs.declared.harm.Harm.{Harm}
use Rattle.csp_scene.specs.declared.harm.Harm.TheVariants as harm
use Rattle.csp_scene.specs.declared.refusal.SceneKind.{SceneKind}
use Rattle.csp_scene.specs.declared.refusal.SceneKind.TheVariants as kind
use Rattle.csp_scene.specs.declared.table.Keyword.TheVariants as keyword
use Rattle.csp_scene.specs.Table.{keyword_text}
use Rattle.csp_scene.specs.Scene.{PlainNode, PlainLink}
use Rattle.csp_scene.specs.Links.{fault_count}
use Rattle.csp_scene.specs.Naming.{link_named, node_named}
use Rattle.csp_scene.specs.Arguments.{word_at, number_at}
use Rattle.csp_scene.specs.Sketch.{PlainSketch, demand, and_then}

-- the direction by its word: 0 from the first end to the second, 1 back
abbrev pub direction_of : List ℕ → ℕ
direction_of word = if bytes_eq word (keyword_text keyword.Ba) then 1 else 0

-- the fault of a direction of a link, or of the frames from an end of a hub, that a line states by what it does
abbrev pub planned : (dir : ℕ) → List (List ℕ) → FaultKind → Fault
planned dir args what = record { dir = dir; frame = number_at args 2; kind = what }

-- what a fault does, apart from how often, how long and where
abbrev pub harm_of : FaultKind → Harm
harm_of Lose = harm.Lose
harm_of (Repeat copies) = harm.Repeat
harm_of (Delay rounds) = harm.Delay
harm_of (Flip bit) = harm.Flip

-- the same of two faults
abbrev pub is_same_harm : Harm → Harm → Bool
is_same_harm harm.Lose harm.Lose = true
is_same_harm harm.Repeat harm.Repeat = true
is_same_harm harm.Delay harm.Delay = true
is_same_harm harm.Flip harm.Flip = true
is_same_harm _ _ = false

-- two faults of one direction, one frame and one kind
abbrev pub is_same_fault : Fault → Fault → Bool
is_same_fault fault other = fault.frame == other.frame && fault.dir == other.dir && is_same_harm (harm_of fault.kind) (harm_of other.kind)

-- a plan has a fault of the same direction, frame and kind
abbrev pub has_fault : Fault → List Fault → Bool
has_fault fault plan = list_any (λ other. is_same_fault other fault) plan

-- the link in a place
abbrev pub no_link : PlainLink
no_link = record { name = []; kind = carried.Kiss; hub = false; mtu = 0; ends = []; plan = [] }

-- the link at a place
abbrev pub link_at : List PlainLink → ℕ → PlainLink
link_at links place = slice_index_or links place no_link

-- a link with one more fault, and a sketch in which the link in a place has it
abbrev pub with_fault : Fault → PlainLink → PlainLink
with_fault fault link = record link { plan = link.plan ++ fault ∷ [] }

-- with a fault more of the link at a place
abbrev pub with_fault_at : ℕ → Fault → PlainSketch → PlainSketch
with_fault_at place fault d = record d { links = slice_set d.links place (with_fault fault (link_at d.links place)) }

-- a kind of fault stands once for a frame of a direction of a link, and there is room for it
abbrev pub may_add_fault : List PlainLink → ℕ → Fault → Result (Unit {0}) SceneKind
may_add_fault links place fault =
    demand (not (has_fault fault (link_at links place).plan)) kind.Twice
    (demand (nat_lt (fault_count links) MAX_FAULTS) kind.Full
    (Ok tt))

-- `fault LINK ab FRAME lose`, `repeat K`, `delay R`, `flip B`
abbrev pub state_fault_at : PlainSketch → Fault → Option ℕ → Result PlainSketch SceneKind
state_fault_at d fault None = Err kind.Unknown
state_fault_at d fault (Some place) = and_then (may_add_fault d.links place fault) (λ _. Ok (with_fault_at place fault d))

-- what a `fault` line adds
abbrev pub state_fault : PlainSketch → List (List ℕ) → FaultKind → Result PlainSketch SceneKind
state_fault d args what = state_fault_at d (planned (direction_of (word_at args 1)) args what) (link_named (word_at args 0) d.links)

-- the end of a link at the node of this name
abbrev pub end_named : List ℕ → List PlainNode → PlainLink → Option ℕ
end_named word nodes link = option_and_then (λ place. position (λ end. end.node == place) link.ends) (node_named word nodes)

-- a fault of the frames from this end of the hub at a place, where the hub has one
abbrev pub state_fault_from : PlainSketch → (place : ℕ) → List (List ℕ) → FaultKind → (end : Option ℕ) → Result PlainSketch SceneKind
state_fault_from d place args what None = Err kind.Unknown
state_fault_from d place args what (Some end) = state_fault_at d (planned end args what) (Some place)

-- `fault HUB NODE FRAME lose`, `repeat K`, `delay R`, `flip B`: both must be there, and the node on the hub
abbrev pub state_hub_fault_at : PlainSketch → List (List ℕ) → FaultKind → (place : Option ℕ) → Result PlainSketch SceneKind
state_hub_fault_at d args what None = Err kind.Unknown
state_hub_fault_at d args what (Some place) = state_fault_from d place args what (end_named (word_at args 1) d.nodes (link_at d.links place))

-- what such a line adds
abbrev pub state_hub_fault : PlainSketch → List (List ℕ) → FaultKind → Result PlainSketch SceneKind
state_hub_fault d args what = state_hub_fault_at d args what (link_named (word_at args 0) d.links)

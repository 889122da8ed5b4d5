-- Which links a node has: interface i of a node is on the i-th of them.
use Rattle.std.specs.Prelude.{ℕ, ◌==◌, Bool, List, [], None, length, filter, slice_index_or}
use Rattle.std.specs.List.{list_any, sum_by}
use Rattle.std.specs.FinMap as finite
use Rattle.csp_rdp_header.specs.Options.{usual_options}
use Rattle.csp_scene.specs.Scene.{PlainNode, PlainLink}

-- whether a link touches the node in a place
abbrev pub touches : ℕ → PlainLink → Bool
touches place link = list_any (λ end. end.node == place) link.ends

-- the links of a node, in the order of their lines
abbrev pub links_at : ℕ → List PlainLink → List PlainLink
links_at place links = filter (touches place) links

-- the node in a place
abbrev pub no_node : PlainNode
no_node = record { name = []; addr = None; buffers = 0; seed = 0; inbox = 0; options = usual_options; routes = finite.empty; apps = [] }

-- the node at a place
abbrev pub node_at : List PlainNode → ℕ → PlainNode
node_at nodes place = slice_index_or nodes place no_node

-- how many faults the plans of all links have together
abbrev pub fault_count : List PlainLink → ℕ
fault_count links = sum_by (λ link. length link.plan) links

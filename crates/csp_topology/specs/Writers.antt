-- Who puts into the inbox of a node, and under which marks.
use Rattle.std.specs.Prelude.{ℕ, ◌+◌, ◌==◌, if◌then◌else◌, Option, None, Some, List, [], ◌∷◌, length, map}
use Rattle.std.specs.List.{range_with_len}
use Rattle.csp_log.specs.declared.places.TheConstants.{UNMARKED}
use Rattle.csp_log.specs.declared.who.Who.{Who}
use Rattle.csp_log.specs.declared.who.Who.TheVariants as who
use Rattle.csp_scene.specs.Links.{links_at}
use Rattle.csp_scene.specs.Scene.{PlainNode, PlainLink}
use Rattle.csp_topology.specs.Lanes.{leader_of}
use Rattle.csp_topology.specs.declared.writers.Writer.{Writer}

-- the mark of a party's puts into its node's inbox: none of a router or a bridge, and of an interface its number; an application and a link
-- have no pass of an inbox
abbrev pub mark_for : Who → Option ℕ
mark_for (who.Router _) = Some UNMARKED
mark_for (who.Bridge _) = Some UNMARKED
mark_for (who.Iface _ number) = Some number
mark_for (who.App _ _) = None
mark_for (who.Link _) = None

-- who puts packets with this mark into the inbox of a node with this router or bridge: the interface of that number, and the router or bridge itself
-- without one
abbrev pub writer_of : (node : ℕ) → (hub : Who) → (mark : ℕ) → Who
writer_of node hub mark = (if mark == UNMARKED then hub else who.Iface node mark)

-- the marks in the inbox of a node with so many interfaces: none, and the number of each interface
abbrev pub marks_for : (ifaces : ℕ) → List ℕ
marks_for ifaces = UNMARKED ∷ range_with_len 0 ifaces

-- who puts into the inbox of a node with this router or bridge and so many interfaces, each with its mark
abbrev pub writers_with : (node : ℕ) → (hub : Who) → (ifaces : ℕ) → List Writer
writers_with node hub ifaces = map (λ mark. record { mark = mark; who = writer_of node hub mark }) (marks_for ifaces)

-- those of the inboxes of the nodes from this place on
abbrev pub writers_from : (place : ℕ) → List PlainNode → List PlainLink → List (List Writer)
writers_from place [] links = []
writers_from place (n ∷ nodes) links = writers_with place (leader_of place n.addr) (length (links_at place links)) ∷ writers_from (place + 1) nodes links

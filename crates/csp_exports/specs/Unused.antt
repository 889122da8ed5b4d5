-- What of a scene was of no use in its run: faults that hit no frame, nodes that sent nothing, sockets that nobody reached.
use Rattle.std.specs.Prelude.{ℕ, ◌==◌, ◌&&◌, Bool, true, false, not, nat_lt, if◌then◌else◌, Option, Some, None, List, [], ◌∷◌, ◌++◌, codes, find}
use Rattle.std.specs.Fmt.{decimal}
use Rattle.std.specs.List.{flat_map, enumerate_from, list_any, range_with_len}
use Rattle.csp_app.specs.PlainStep.{PlainStep}
use Rattle.csp_app.specs.PlainStep as step
use Rattle.csp_happenings.specs.Happenings.{taken}
use Rattle.csp_header.specs.Word.{header_at}
use Rattle.csp_link.specs.declared.fault.Fault.{Fault}
use Rattle.csp_link.specs.declared.fault.FaultKind.{FaultKind}
use Rattle.csp_link.specs.declared.fault.FaultKind.TheVariants as fault
use Rattle.csp_log.specs.Moving.{moved_in}
use Rattle.csp_log.specs.PlainLog.{all_events}
use Rattle.csp_log.specs.declared.entry.Entry.{Entry}
use Rattle.csp_log.specs.declared.event.Event.{Event}
use Rattle.csp_log.specs.declared.event.Event.TheVariants as event
use Rattle.csp_log.specs.declared.moved.Moved.{Moved}
use Rattle.csp_log.specs.declared.moved.Moved.TheVariants as moved
use Rattle.csp_log.specs.declared.places.QueueId.TheVariants as queue
use Rattle.csp_record.specs.Record.{PlainPartyLog, PlainRecord}
use Rattle.csp_log.specs.declared.who.Who.{Who}
use Rattle.csp_log.specs.declared.who.Who.TheVariants as who
use Rattle.csp_report.specs.Lines.{Line, text_of}
use Rattle.csp_scene.specs.Scene.{PlainApp, PlainLink, PlainNode, PlainScene}
use Rattle.csp_timeline.specs.Labels.{from_word}
use Rattle.csp_exports.specs.declared.sockets.TheConstants.{PORTS}
use Rattle.csp_exports.specs.declared.idle.TheConstants.{UNUSED_VERSION}

-- ---- faults

-- a party is the link at this place among the links
abbrev pub is_link : ℕ → Who → Bool
is_link number (who.Link k) = k == number
is_link number _ = false

-- the turns of that link
abbrev pub turns_of : Option PlainPartyLog → List Entry
turns_of None = []
turns_of (Some party) = party.entries

-- the turns of the link at this place
abbrev pub link_turns : List PlainPartyLog → ℕ → List Entry
link_turns parties number = turns_of (find (λ party. is_link number party.who) parties)

-- a fault hits no frame of a link that took so many frames from each end: fewer from the one that it names than the number of the frame
abbrev pub hits_none : (counts : ℕ → ℕ) → Fault → Bool
hits_none counts f = nat_lt (counts f.dir) f.frame

-- what happens to a frame, in a scenario's words
abbrev pub harm_words : FaultKind → Line
harm_words fault.Lose = codes "lose" ∷ []
harm_words (fault.Repeat copies) = codes "repeat" ∷ decimal copies ∷ []
harm_words (fault.Delay rounds) = codes "delay" ∷ decimal rounds ∷ []
harm_words (fault.Flip bit) = codes "flip" ∷ decimal bit ∷ []

-- `fault LINK DIRECTION FRAME KIND ..`, `fault HUB NODE FRAME KIND ..`, as in a scenario
abbrev pub fault_line : List PlainNode → PlainLink → Fault → Line
fault_line nodes l f = codes "fault" ∷ l.name ∷ from_word nodes l f.dir ∷ decimal f.frame ∷ harm_words f.kind

-- the line of a fault, where it hits no frame of such a link
abbrev pub idle_fault_lines : (counts : ℕ → ℕ) → List PlainNode → PlainLink → Fault → List Line
idle_fault_lines counts nodes l f = if hits_none counts f then fault_line nodes l f ∷ [] else []

-- the lines of the faults of a link, in the order of its plan
abbrev pub plan_lines : (counts : ℕ → ℕ) → List PlainNode → PlainLink → List Line
plan_lines counts nodes l = flat_map (idle_fault_lines counts nodes l) l.plan

-- those of all links
abbrev pub fault_lines : List PlainNode → List PlainPartyLog → List PlainLink → List Line
fault_lines nodes parties links = flat_map (λ l. plan_lines (λ end. taken end (link_turns parties l.0)) nodes l.1) (enumerate_from 0 links)

-- ---- nodes

-- a party is an interface of the node at this place
abbrev pub is_iface_of : ℕ → Who → Bool
is_iface_of place (who.Iface node number) = node == place
is_iface_of place _ = false

-- an event tells that a transmission began
abbrev pub is_transmission : Event → Bool
is_transmission (event.Transmitted serial) = true
is_transmission _ = false

-- a party is an interface of this node, and sent something
abbrev pub is_sender_of : ℕ → PlainPartyLog → Bool
is_sender_of place party = is_iface_of place party.who && list_any is_transmission (all_events party.entries)

-- the line of the node or bridge at this place, where none of its interfaces sent anything: `node NAME`
abbrev pub silent_lines : List PlainPartyLog → ℕ → PlainNode → List Line
silent_lines parties place node = if list_any (is_sender_of place) parties then [] else (codes "node" ∷ node.name ∷ []) ∷ []

-- those of all nodes
abbrev pub node_lines : List PlainPartyLog → List PlainNode → List Line
node_lines parties nodes = flat_map (λ node. silent_lines parties node.0 node.1) (enumerate_from 0 nodes)

-- ---- sockets

-- a step binds this port
abbrev pub binds : (port : ℕ) → PlainStep → Bool
binds port (step.Bind bound need) = bound == port
binds port _ = false

-- a packet to this port was taken out of an inbox
abbrev pub came_to : (port : ℕ) → Moved → Bool
came_to port (moved.Popped queue.Inbox packet) = (header_at packet.header).dport == port
came_to port _ = false

-- an event tells that a connection of this application became open
abbrev pub opens_for : (app : ℕ) → Event → Bool
opens_for app (event.Opened number slot nth peer) = number == app
opens_for app _ = false

-- by a turn the application's socket on this port was reached: its router took a packet to the port, with which a connection of the application became open
abbrev pub is_reaching : (app port : ℕ) → Entry → Bool
is_reaching app port e = came_to port (moved_in e) && list_any (opens_for app) e.events.items

-- a party is the router of the node at this place
abbrev pub is_router_of : ℕ → Who → Bool
is_router_of place (who.Router node) = node == place
is_router_of place _ = false

-- a party is that router, and the socket was reached by one of its turns
abbrev pub is_reached_by : (place app port : ℕ) → PlainPartyLog → Bool
is_reached_by place app port party = is_router_of place party.who && list_any (is_reaching app port) party.entries

-- an application binds this port, and nobody reached it there
abbrev pub is_lonely : List PlainPartyLog → (place app : ℕ) → List PlainStep → (port : ℕ) → Bool
is_lonely parties place app steps port = list_any (binds port) steps && not (list_any (is_reached_by place app port) parties)

-- `socket NODE APP PORT`
abbrev pub socket_line : (node app : List ℕ) → ℕ → Line
socket_line node app port = codes "socket" ∷ node ∷ app ∷ decimal port ∷ []

-- the line of an application's socket on this port, where nobody reached it
abbrev pub lonely_lines : List PlainPartyLog → (place app : ℕ) → (node : List ℕ) → PlainApp → (port : ℕ) → List Line
lonely_lines parties place app node a port = if is_lonely parties place app a.steps port then socket_line node a.name port ∷ [] else []

-- the lines of an application's sockets, in the order of their ports
abbrev pub app_lines : List PlainPartyLog → (place app : ℕ) → (node : List ℕ) → PlainApp → List Line
app_lines parties place app node a = flat_map (lonely_lines parties place app node a) (range_with_len 0 PORTS)

-- those of the applications of the node at this place
abbrev pub node_socket_lines : List PlainPartyLog → ℕ → PlainNode → List Line
node_socket_lines parties place node = flat_map (λ a. app_lines parties place a.0 node.name a.1) (enumerate_from 0 node.apps)

-- those of all nodes
abbrev pub socket_lines : List PlainPartyLog → List PlainNode → List Line
socket_lines parties nodes = flat_map (λ node. node_socket_lines parties node.0 node.1) (enumerate_from 0 nodes)

-- ---- the text

-- `csp-unused V`: the version of the text
abbrev pub title_line : Line
title_line = codes "csp-unused" ∷ decimal UNUSED_VERSION ∷ []

-- the lines: the title, then the faults, the nodes and the sockets
abbrev pub unused_lines : List PlainNode → List PlainLink → List PlainPartyLog → List Line
unused_lines nodes links parties = (title_line ∷ []) ++ fault_lines nodes parties links ++ node_lines parties nodes ++ socket_lines parties nodes

-- the text: its lines joined, each with the line feed that ends it
unfoldable pub unused : PlainScene → PlainRecord → List ℕ
unused scene r = text_of (unused_lines scene.nodes scene.links r.parties)

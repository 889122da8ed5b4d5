-- The ranges of a scene's numbers.
use Rattle.std.specs.Prelude.{ℕ, ◌+◌, ◌≡◌, ◌≢◌, ◌≤◌, ◌<◌, ◌^◌, ◌*◌, ◌%◌, ⊤, true, false, List, [], length, Some, None, slice_get, IsTrue, IfSome}
use Rattle.std.specs.List.{All, AllByRecursion}
use Rattle.std.specs.FinMap as finite
use Rattle.csp_app.specs.PlainStep.{PlainStep}
use Rattle.csp_app.specs.PlainStep as step
use Rattle.csp_app.specs.Room as application
use Rattle.csp_base.specs.declared.limits.TheConstants.{MAX_BUFFERS, MAX_APPS}
use Rattle.csp_link.specs.Fates.{IsFault}
use Rattle.csp_link.specs.declared.fault.Fault.{Fault}
use Rattle.csp_link.specs.declared.fault.FaultKind.{FaultKind}
use Rattle.csp_link.specs.declared.fault.FaultKind.TheVariants as fault
use Rattle.csp_link.specs.declared.fault.TheConstants.{MAX_REPEATS}
use Rattle.csp_log.specs.declared.places.LinkKind.TheVariants as carried
use Rattle.csp_rdp_header.specs.declared.options.Options.{Options}
use Rattle.csp_rdp_header.specs.declared.options.TheConstants.{MAX_WINDOW}
use Rattle.csp_route.specs.Routes.{IsWithin}
use Rattle.csp_text.specs.Names.{is_name}
use Rattle.csp_base.specs.declared.ports.TheConstants.{FIRST_OWN_PORT}
use Rattle.csp_scene.specs.declared.limits.TheConstants.{MAX_UNTIL, MAX_ADDR, MAX_NODES, MAX_LINKS, BRIDGE_LINKS, MAX_STEPS, MIN_BUFFERS, MAX_SEED, MIN_INBOX, MAX_INBOX, MAX_PORT, MAX_DEST, CRC_FLAG, RDP_FLAG, FRAG_FLAG, MAX_COUNT, MAX_ROUNDS, MAX_FAULTS, LAST_FRAME, MAX_DELAY, MAX_FLIP, MAX_SHUFFLE, MAX_OPTION, MIN_MTU, MAX_MTU, DEFAULT_MTU, MAX_HUB_NODES}
use Rattle.csp_log.specs.declared.places.End.{End}
use Rattle.csp_log.specs.declared.who.Who.{Who}
use Rattle.csp_log.specs.declared.who.Who.TheVariants as who
use Rattle.csp_scene.specs.declared.scenario.Move.{Move}
use Rattle.csp_scene.specs.declared.scenario.Move.TheVariants as move
use Rattle.csp_scene.specs.Scene.{PlainApp, PlainNode, PlainLink, PlainSchedule, PlainScene, in_rounds, shuffled, stepwise}
use Rattle.csp_scene.specs.Links.{links_at, node_at, fault_count}
use Rattle.csp_scene.specs.Sharing.{AreUnmixed}

-- so many rounds as a step may wait
abbrev pub IsWait : ℕ → Type 0
IsWait rounds = (1 ≤ rounds) × (rounds ≤ MAX_ROUNDS)

-- flags of the header that a line may ask for, and the port that a connection may have as its own
abbrev pub AreFlags : ℕ → Type 0
AreFlags flags = flags ≤ CRC_FLAG + RDP_FLAG

-- flags that a connection's packets may have: those, and that of pieces of blobs
abbrev pub AreConnectFlags : ℕ → Type 0
AreConnectFlags flags = AreFlags (flags % FRAG_FLAG) × (flags < 2 * FRAG_FLAG)

-- a port is one of those that connections are given
abbrev pub IsOwnPort : ℕ → Type 0
IsOwnPort port = (FIRST_OWN_PORT ≤ port) × (port ≤ MAX_PORT)

-- a step's numbers that its application takes as they are: ports, addresses and flags of the header, a header word; a number of packets, of
-- blobs, of rounds
abbrev pub FitsLine : PlainStep → Type 0
FitsLine step.Take = ⊤
FitsLine step.Give = ⊤
FitsLine (step.Bind port need) = (port ≤ MAX_PORT) × AreFlags need
FitsLine (step.Connect _ dest port _ flags from) = (dest ≤ MAX_DEST) × (port ≤ MAX_PORT) × AreConnectFlags flags × IfSome from IsOwnPort
FitsLine (step.Send _ _) = ⊤
FitsLine (step.Burst _ count _) = count ≤ MAX_COUNT
FitsLine (step.Blob _ _ _) = ⊤
FitsLine (step.Raw header _) = header < 2 ^ 32
FitsLine (step.Recv _ count rounds) = (1 ≤ count) × (count ≤ MAX_COUNT) × IfSome rounds IsWait
FitsLine (step.Collect _ count rounds) = (1 ≤ count) × (count ≤ MAX_COUNT) × IfSome rounds IsWait
FitsLine (step.Close _) = ⊤
FitsLine (step.Wait rounds) = IsWait rounds

-- a step's numbers: those that its application needs in their ranges, and the others
abbrev pub IsStep : PlainStep → Type 0
IsStep s = application.IsStep s × FitsLine s

-- an application has a name, and no more steps than an application may have, each with its numbers in their ranges; packets and blobs
-- are not mixed on a slot
pub record IsApp (app : PlainApp) : Type 0 where
  pub name : IsTrue (is_name app.name)
  pub steps : length app.steps ≤ MAX_STEPS
  pub ranges : AllByRecursion IsStep app.steps
  pub unmixed : AreUnmixed app.steps

-- a bridge has no application and no route
pub record IsBridge (node : PlainNode) : Type 0 where
  pub apps : node.apps ≡ []
  pub routes : node.routes ≡ finite.empty

-- a timeout of a node's reliable connections, in rounds
abbrev pub IsTimeout : ℕ → Type 0
IsTimeout rounds = (1 ≤ rounds) × (rounds ≤ MAX_OPTION)

-- the options of a node's reliable connections, each in its range
pub record AreOptions (options : Options) : Type 0 where
  pub least_window : 1 ≤ options.window
  pub most_window : options.window ≤ MAX_WINDOW
  pub conn_timeout : IsTimeout options.conn_timeout
  pub packet_timeout : IsTimeout options.packet_timeout
  pub delayed : options.delayed ≤ MAX_OPTION
  pub ack_timeout : options.ack_timeout ≤ MAX_OPTION
  pub ack_count : options.ack_count ≤ MAX_OPTION

-- a node has a name, an address below the broadcast address or else it is a bridge; buffers, seed, inbox and options in their ranges,
-- and applications
pub record IsNode (node : PlainNode) : Type 0 where
  pub name : IsTrue (is_name node.name)
  pub addr : IfSome node.addr (λ addr. addr ≤ MAX_ADDR)
  pub bridge : node.addr ≡ None → IsBridge node
  pub least : MIN_BUFFERS ≤ node.buffers
  pub most : node.buffers ≤ MAX_BUFFERS
  pub seed : node.seed ≤ MAX_SEED
  pub some_inbox : MIN_INBOX ≤ node.inbox
  pub most_inbox : node.inbox ≤ MAX_INBOX
  pub options : AreOptions node.options
  pub apps : AllByRecursion IsApp node.apps
  pub few : length node.apps ≤ MAX_APPS

-- what a fault does to a frame: some copies, some rounds of delay, a bit that the longest frame has
abbrev pub IsHarm : FaultKind → Type 0
IsHarm fault.Lose = ⊤
IsHarm (fault.Repeat copies) = (1 ≤ copies) × (copies ≤ MAX_REPEATS)
IsHarm (fault.Delay rounds) = (1 ≤ rounds) × (rounds ≤ MAX_DELAY)
IsHarm (fault.Flip bit) = bit ≤ MAX_FLIP

-- a fault is of one of a link's two directions, or of the frames from an end of a hub, and of a frame, counted from 1
pub record IsPlanned (ends : ℕ) (planned : Fault) : Type 0 where
  pub fault : IsFault planned
  pub dir : planned.dir < ends
  pub first : 1 ≤ planned.frame
  pub last : planned.frame ≤ LAST_FRAME
  pub harm : IsHarm planned.kind

-- a link ends at an interface: the one of its node whose number is that of the link among the node's
pub record IsEnd (nodes : List PlainNode) (links : List PlainLink) (link : PlainLink) (end : End) : Type 0 where
  pub node : end.node < length nodes
  pub iface : slice_get (links_at end.node links) end.iface ≡ Some link

-- no two of these ends are at one node
abbrev pub AreApart : List End → Type 0
AreApart ends = (i j : ℕ) (a b : End) → slice_get ends i ≡ Some a → slice_get ends j ≡ Some b → a.node ≡ b.node → i ≡ j

-- a link has two ends, a hub two to eight, at different nodes; a hub is a CAN bus, with the longest payload of one whose line gives none
pub record HasEnds (link : PlainLink) : Type 0 where
  pub least : 2 ≤ length link.ends
  pub most : length link.ends ≤ MAX_HUB_NODES
  pub pair : link.hub ≡ false → length link.ends ≡ 2
  pub bus : link.hub ≡ true → (link.kind ≡ carried.Can) × (link.mtu ≡ DEFAULT_MTU)
  pub apart : AreApart link.ends

-- the most bytes of a payload that a link may say
abbrev pub IsMtu : ℕ → Type 0
IsMtu mtu = (MIN_MTU ≤ mtu) × (mtu ≤ MAX_MTU)

-- a link has a name, an mtu in its range, its ends at interfaces, and faults in their ranges
pub record IsLink (nodes : List PlainNode) (links : List PlainLink) (link : PlainLink) : Type 0 where
  pub name : IsTrue (is_name link.name)
  pub mtu : IsMtu link.mtu
  pub shape : HasEnds link
  pub ends : AllByRecursion (IsEnd nodes links link) link.ends
  pub plan : All (IsPlanned (length link.ends)) link.plan

-- a party is there: a node's router, a bridge, an interface, an application, a link
abbrev pub IsParty : List PlainNode → List PlainLink → Who → Type 0
IsParty nodes links (who.Router node) = (node < length nodes) × ((node_at nodes node).addr ≢ None)
IsParty nodes links (who.Bridge node) = (node < length nodes) × ((node_at nodes node).addr ≡ None)
IsParty nodes links (who.Iface node iface) = (node < length nodes) × (iface < length (links_at node links))
IsParty nodes links (who.App node app) = (node < length nodes) × (app < length (node_at nodes node).apps)
IsParty nodes links (who.Link link) = link < length links

-- a move is a turn of a party that is there, or the end of a round
abbrev pub IsMove : List PlainNode → List PlainLink → Move → Type 0
IsMove nodes links (move.Turn party) = IsParty nodes links party
IsMove nodes links move.Tick = ⊤

-- the numbers of a schedule: a seed of 32 bits, or moves of parties that are there
abbrev pub IsSchedule : List PlainNode → List PlainLink → PlainSchedule → Type 0
IsSchedule nodes links in_rounds = ⊤
IsSchedule nodes links (shuffled seed) = seed ≤ MAX_SHUFFLE
IsSchedule nodes links (stepwise moves) = AllByRecursion (IsMove nodes links) moves

-- the rows of a node's table lead to its interfaces, and a bridge has two links
pub record IsJoined (links : List PlainLink) (place : ℕ) (node : PlainNode) : Type 0 where
  pub routes : IsWithin (length (links_at place links)) node.routes
  pub bridge : node.addr ≡ None → length (links_at place links) ≡ BRIDGE_LINKS

-- a scene has at least one round and at most `MAX_UNTIL`, and nodes, links and faults, no more of each than a scene may have
pub record IsScene (scene : PlainScene) : Type 0 where
  pub least : 1 ≤ scene.until
  pub most : scene.until ≤ MAX_UNTIL
  pub nodes : AllByRecursion IsNode scene.nodes
  pub few : length scene.nodes ≤ MAX_NODES
  pub links : AllByRecursion (IsLink scene.nodes scene.links) scene.links
  pub few_links : length scene.links ≤ MAX_LINKS
  pub faults : fault_count scene.links ≤ MAX_FAULTS
  pub joined : (place : ℕ) (node : PlainNode) → slice_get scene.nodes place ≡ Some node → IsJoined scene.links place node
  pub schedule : IsSchedule scene.nodes scene.links scene.schedule

-- What a contract sees of a scene: plain lists and numbers, with the fields of the structs.
use Rattle.std.specs.Prelude.{ℕ, Bool, List, [], Option}
use Rattle.csp_app.specs.PlainStep.{PlainStep}
use Rattle.csp_link.specs.declared.fault.Fault.{Fault}
use Rattle.csp_log.specs.declared.places.LinkKind.{LinkKind}
use Rattle.csp_rdp_header.specs.declared.options.Options.{Options}
use Rattle.csp_route.specs.Routes.{Routes}
use Rattle.csp_log.specs.declared.places.End.{End}
use Rattle.csp_scene.specs.declared.scenario.Move.{Move}
use Rattle.csp_scene.specs.declared.scenario.Schedule.{Schedule}
use Rattle.csp_scene.specs.declared.scenario.Schedule.TheVariants as schedule

-- an application: its name, byte by byte, and its steps in order
pub record PlainApp : Type 0 where
  pub name : List ℕ
  pub steps : List PlainStep

-- a node: its name, its address, how many buffers it has, its seed, the room of its inbox for each priority, the options of the
-- reliable connections that it asks for, its routing table, its applications in order; a bridge is a node without an address
pub record PlainNode : Type 0 where
  pub name : List ℕ
  pub addr : Option ℕ
  pub buffers : ℕ
  pub seed : ℕ
  pub inbox : ℕ
  pub options : Options
  pub routes : Routes
  pub apps : List PlainApp

-- a link: its name, what it carries, whether it is a hub, the most bytes of a payload on it, its ends, its faults in order; on a hub each frame
-- goes to every other end
pub record PlainLink : Type 0 where
  pub name : List ℕ
  pub kind : LinkKind
  pub hub : Bool
  pub mtu : ℕ
  pub ends : List End
  pub plan : List Fault

-- a schedule: round by round, round by round with turns drawn from a seed, or these moves
pub data PlainSchedule : Type 0 where
  in_rounds : PlainSchedule
  shuffled : ℕ → PlainSchedule
  stepwise : List Move → PlainSchedule

-- a schedule as contracts see it
abbrev pub plain_schedule : Schedule → PlainSchedule
plain_schedule schedule.Rounds = in_rounds
plain_schedule (schedule.Shuffle seed) = shuffled seed
plain_schedule (schedule.Steps moves) = stepwise moves.items

-- the moves that a schedule names
abbrev pub moves_in : PlainSchedule → List Move
moves_in in_rounds = []
moves_in (shuffled seed) = []
moves_in (stepwise moves) = moves

-- a scene: after how many rounds it stops, its schedule, its nodes and its links, each in order
pub record PlainScene : Type 0 where
  pub until : ℕ
  pub schedule : PlainSchedule
  pub nodes : List PlainNode
  pub links : List PlainLink

-- The scene that a generated text states.
use Rattle.std.specs.Prelude.{ℕ, ◌≡◌, false, List, [], ◌∷◌, Some, None, Ok, codes}
use Rattle.std.specs.FinMap as finite
use Rattle.csp_app.specs.PlainStep.{PlainStep}
use Rattle.csp_app.specs.PlainStep as step
use Rattle.csp_base.specs.Priority.{prio_of}
use Rattle.csp_link.specs.declared.fault.Fault.{Fault}
use Rattle.csp_log.specs.declared.places.LinkKind.TheVariants as carried
use Rattle.csp_rdp_header.specs.Options.{usual_options}
use Rattle.csp_route.specs.Routes.{Routes, with_row, merged}
use Rattle.csp_route.specs.declared.row.Row.{Row}
use Rattle.csp_scene.specs.Judge.{scene_of}
use Rattle.csp_scene.specs.declared.limits.TheConstants.{DEFAULT_MTU}
use Rattle.csp_scene.specs.Scene.{PlainScene, PlainNode, PlainLink, PlainApp, in_rounds}
use Rattle.csp_gen.specs.GenText.{gen_text}

-- a row without a next hop; the table of `0/0 LINK`, and that of `1 radio, 3 bus`
abbrev pub row : ℕ → ℕ → ℕ → Row
row addr mask iface = record { addr = addr; mask = mask; iface = iface; via = None }

-- a table without rows
abbrev pub no_rows : Routes
no_rows = finite.empty

-- a table whose one row sends every address to an interface
abbrev pub all_to : ℕ → Routes
all_to iface = with_row no_rows (row 0 0 iface)

-- the relay's table: node 1 by its first link, node 3 by its second
abbrev pub relay_table : Routes
relay_table = with_row (with_row no_rows (row 1 5 0)) (row 3 5 1)

-- a node, with its table and its applications
abbrev pub node : List ℕ → ℕ → ℕ → Routes → List PlainApp → PlainNode
node name addr seed routes apps = record { name = name; addr = Some addr; buffers = 32; seed = seed; inbox = 16; options = usual_options; routes = routes; apps = apps }

-- the three nodes, with these tables and applications
abbrev pub nodes : Routes → Routes → Routes → List PlainApp → List PlainApp → List PlainNode
nodes station relay payload ops cam = node (codes "ground") 1 65400 station ops ∷ node (codes "relay") 2 0 relay [] ∷ node (codes "payload") 3 0 payload cam ∷ []

-- the two links, of which the first has the faults
abbrev pub links : List Fault → List PlainLink
links plan =
    record { name = codes "radio"; kind = carried.Kiss; hub = false; mtu = DEFAULT_MTU; ends = record { node = 0; iface = 0 } ∷ record { node = 1; iface = 0 } ∷ []; plan = plan }
    ∷ record { name = codes "bus"; kind = carried.Can; hub = false; mtu = DEFAULT_MTU; ends = record { node = 1; iface = 1 } ∷ record { node = 2; iface = 0 } ∷ []; plan = [] } ∷ []

-- the two applications, with these steps
abbrev pub ops : List PlainStep → List PlainApp
ops steps = record { name = codes "ops"; steps = steps } ∷ []

-- the payload's application, with these steps
abbrev pub cam : List PlainStep → List PlainApp
cam steps = record { name = codes "cam"; steps = steps } ∷ []

-- `connect 0 3 10 crc rdp`, and `bind 10 rdp`
abbrev pub connecting : PlainStep
connecting = step.Connect 0 3 10 (prio_of 2) 3 None

-- the step that binds port 10 for reliable connections
abbrev pub binding : PlainStep
binding = step.Bind 10 2

-- the scene in which so many packets are sent, with these faults
abbrev pub gen_scene : ℕ → List Fault → PlainScene
gen_scene packets plan = record {
  until = 40000;
  schedule = in_rounds;
  nodes = nodes (merged no_rows (all_to 0)) (merged no_rows relay_table) (merged no_rows (all_to 0)) (ops (connecting ∷ step.Burst 0 packets 100 ∷ [])) (cam (binding ∷ step.Recv 0 packets None ∷ []));
  links = links plan;
}

-- the generated text states such a scene
pub record StatesScene (packets : ℕ) : Type 0 where
  pub plan : List Fault
  pub stated : scene_of (gen_text packets) ≡ Ok (gen_scene packets plan)

-- the router of a node before its first turn
use Rattle.std.specs.Prelude.{ℕ, ◌≤◌, [], None, length}
use Rattle.csp_arena.specs.Cells.{RegionName}
use Rattle.csp_base.specs.declared.limits.TheConstants.{MAX_APPS}
use Rattle.csp_route.specs.Routes.{Routes, IsWithin}
use Rattle.csp_service.specs.Facts.{new_services}
use Rattle.csp_ports.specs.PlainPorts.{ports_of}
use Rattle.csp_rdp_header.specs.declared.options.TheConstants.{MAX_WINDOW}
use Rattle.csp_stack.specs.Router.{Facts, State, RouterAt}
use Rattle.csp_stack.specs.declared.plan.Plan.TheVariants.{Rest}

-- what a router is given when it is opened: what no turn changes, and the first routing table
pub record PlainConfig : Type 0 where
  pub facts : Facts
  pub routes : Routes

-- each row of its table leads to an interface of the node, which has no more applications than a node may have; and the
-- window of its connections is one that a connection may have
pub record IsConfig (c : PlainConfig) : Type 0 where
  pub within : IsWithin (length c.facts.ifaces) c.routes
  pub apps : c.facts.apps ≤ MAX_APPS
  pub low : 1 ≤ c.facts.options.window
  pub high : c.facts.options.window ≤ MAX_WINDOW

-- at the opening no slot and no port is in use, no service was asked for anything, there is no trash and no packet, and the look for work begins at the inbox
abbrev pub opening_state : ℕ → Routes → State
opening_state apps routes = record { routes = routes; ports = ports_of apps; services = new_services; trash = []; out = None; early = []; cursor = 0; doing = Rest }

-- a router of this region and configuration as it opens
abbrev pub opening : RegionName → PlainConfig → RouterAt
opening region c = record { region = region; router = record { facts = c.facts; state = opening_state c.facts.apps c.routes } }

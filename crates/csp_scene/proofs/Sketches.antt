-- The numbers of a scene in the making stay in their ranges as lines add to it.
use Rattle.std.proofs.Common.{◌≡◌, ◌≢◌, ℕ, ◌+◌, ◌-◌, ◌≤◌, ◌<◌, Bool, false, eqb, List, [], ◌∷◌, ◌++◌, length, map, set, slice_get, unwrap_or, Option, Some, None, IsTrue, IfSome, zero, suc, arith, refl, ap, sym, subst, ◌∙◌, length-append}
use Rattle.std.proofs.Math.ListN.{length-set}
use Rattle.std.specs.List.{All, AllByRecursion, list_any}
use Rattle.std.specs.FinMap as finite
use Rattle.std.proofs.lemmas.Bool.{eq-eqb, or_parts, true≢false}
use Rattle.std.proofs.lemmas.List.{get_or-set_same, length-map}
use Rattle.std.proofs.lemmas.List.Elements.{All-nil}
use Rattle.std.proofs.lemmas.List.Sums.{sum_by_push, sum_by-set}
use Rattle.csp_app.specs.PlainStep.{PlainStep, IsOfPacket}
use Rattle.csp_app.specs.PlainStep as step
use Rattle.csp_link.specs.declared.fault.Fault.{Fault}
use Rattle.csp_log.specs.declared.places.End.{End}
use Rattle.csp_log.specs.declared.places.LinkKind.{LinkKind}
use Rattle.csp_rdp_header.specs.declared.options.Options.{Options}
use Rattle.csp_route.specs.Routes.{Routes, IsWithin}
use Rattle.csp_text.specs.Names.{is_name}
use Rattle.csp_base.specs.declared.limits.TheConstants.{MAX_APPS}
use Rattle.csp_scene.specs.declared.limits.TheConstants.{MAX_UNTIL, MAX_NODES, MAX_LINKS, MAX_STEPS, MAX_FAULTS}
use Rattle.csp_scene.specs.Scene.{PlainApp, PlainNode, PlainLink, PlainSchedule}
use Rattle.csp_scene.specs.Links.{links_at, node_at, fault_count}
use Rattle.csp_scene.specs.Sharing.{excludes}
use Rattle.csp_scene.specs.Ranges.{AreApart, IsStep, AreOptions, IsApp, IsNode, IsMtu, IsPlanned, IsSchedule}
use Rattle.csp_scene.specs.Sketch.{PlainSketch, no_sketch, with_node, with_link}
use Rattle.csp_scene.specs.Nodes.{with_app, with_app_at, last_app, with_step, with_last_step, with_step_at}
use Rattle.csp_scene.specs.Transport.{with_rdp, with_rdp_at}
use Rattle.csp_scene.specs.Joining.{end_at, has_twice, new_link, with_routes}
use Rattle.csp_scene.specs.Faults.{with_fault, with_fault_at, link_at, no_link}
use Rattle.csp_scene.specs.Kept.{MayJoin, IsSketch, IsHost, IsEndAfter, IsLinkAfter}
use Rattle.csp_scene.proofs.Lists.{AllByRecursion-push, AllByRecursion-set, AllByRecursion-at}
use Rattle.csp_scene.proofs.Tables.{empty_within, within_more}
use Rattle.csp_scene.proofs.Unmixed.{unmixed_push}
use Rattle.csp_scene.proofs.Growing.{Grows, links_at-push, schedule_grows, links_alike, links_push, links_fault, alike_set}

-- what is the same as a scene in the making is one
pub kept_of : (d e : PlainSketch) → IsSketch d → d ≡ e → IsSketch e
kept_of d e is same = subst (λ (one : PlainSketch). IsSketch one) same is

-- before the first line
pub IsSketch-none : IsSketch no_sketch
IsSketch-none = record {
  until = tt;
  schedule = tt;
  nodes = tt;
  few = omega arith;
  links = tt;
  few_links = omega arith;
  faults = omega arith;
  routes = record { each = λ place. empty_within 0 };
  host = tt;
}

-- nodes with one more at the end, or with one replaced
apps_push : (nodes : List PlainNode) (node : PlainNode) (place : ℕ) → length (node_at nodes place).apps ≤ length (node_at (nodes ++ node ∷ []) place).apps
apps_push [] node place = omega arith
apps_push (first ∷ nodes) node zero = omega arith
apps_push (first ∷ nodes) node (suc place) = apps_push nodes node place

routes_push : (nodes : List PlainNode) (node : PlainNode) (place : ℕ) → node.routes ≡ finite.empty → (node_at (nodes ++ node ∷ []) place).routes ≡ (node_at nodes place).routes
routes_push [] node zero e = e
routes_push [] node (suc place) e = refl
routes_push (first ∷ nodes) node zero e = refl
routes_push (first ∷ nodes) node (suc place) e = routes_push nodes node place e

addr_push : (nodes : List PlainNode) (node : PlainNode) (place : ℕ) → place < length nodes → (node_at nodes place).addr ≡ (node_at (nodes ++ node ∷ []) place).addr
addr_push [] node place within = absurd (omega (arith, within))
addr_push (first ∷ nodes) node zero within = refl
addr_push (first ∷ nodes) node (suc place) within = addr_push nodes node place (omega (arith, within))

addr_set : (nodes : List PlainNode) (at : ℕ) (node : PlainNode) (place : ℕ) → node.addr ≡ (node_at nodes at).addr → (node_at nodes place).addr ≡ (node_at (set nodes at node) place).addr
addr_set [] at node place same = refl
addr_set (first ∷ nodes) zero node zero same = sym same
addr_set (first ∷ nodes) zero node (suc place) same = refl
addr_set (first ∷ nodes) (suc at) node zero same = refl
addr_set (first ∷ nodes) (suc at) node (suc place) same = addr_set nodes at node place same

apps_set : (nodes : List PlainNode) (at : ℕ) (node : PlainNode) (place : ℕ) → length (node_at nodes at).apps ≤ length node.apps → length (node_at nodes place).apps ≤ length (node_at (set nodes at node) place).apps
apps_set [] at node place more = omega arith
apps_set (first ∷ nodes) zero node zero more = more
apps_set (first ∷ nodes) zero node (suc place) more = omega arith
apps_set (first ∷ nodes) (suc at) node zero more = omega arith
apps_set (first ∷ nodes) (suc at) node (suc place) more = apps_set nodes at node place more

routed_set : (count : ℕ → ℕ) (nodes : List PlainNode) (at : ℕ) (node : PlainNode) → ((place : ℕ) → IsWithin (count place) (node_at nodes place).routes) → IsWithin (count at) node.routes → (place : ℕ) → IsWithin (count place) (node_at (set nodes at node) place).routes
routed_set count [] at node each here place = each place
routed_set count (first ∷ nodes) zero node each here zero = here
routed_set count (first ∷ nodes) zero node each here (suc place) = each (suc place)
routed_set count (first ∷ nodes) (suc at) node each here zero = each zero
routed_set count (first ∷ nodes) (suc at) node each here (suc place) = routed_set (λ p. count (suc p)) nodes at node (λ p. each (suc p)) here place

host_grows : (nodes : List PlainNode) (links : List PlainLink) (more_nodes : List PlainNode) (more_links : List PlainLink) (host : Option ℕ) → Grows nodes links more_nodes more_links → IfSome host (IsHost nodes) → IfSome host (IsHost more_nodes)
host_grows nodes links more_nodes more_links None grows is = tt
host_grows nodes links more_nodes more_links (Some place) grows is = record { node = omega (arith, is.node, grows.more_nodes); app = omega (arith, is.app, grows.more_apps place) }

-- `until`, a schedule
pub IsSketch-until : (d : PlainSketch) (until : ℕ) → IsSketch d → 1 ≤ until → until ≤ MAX_UNTIL → IsSketch (record d { until = Some until })
IsSketch-until d until is least most = record {
  until = (least, most);
  schedule = is.schedule;
  nodes = is.nodes;
  few = is.few;
  links = is.links;
  few_links = is.few_links;
  faults = is.faults;
  routes = is.routes;
  host = is.host;
}

pub IsSketch-schedule : (d : PlainSketch) (schedule : PlainSchedule) → IsSketch d → IsSchedule d.nodes d.links schedule → IsSketch (record d { schedule = Some schedule })
IsSketch-schedule d schedule is here = record {
  until = is.until;
  schedule = here;
  nodes = is.nodes;
  few = is.few;
  links = is.links;
  few_links = is.few_links;
  faults = is.faults;
  routes = is.routes;
  host = is.host;
}

-- a node
grows_node : (d : PlainSketch) (node : PlainNode) → Grows d.nodes d.links (d.nodes ++ node ∷ []) d.links
grows_node d node = record {
  more_nodes = omega (arith, length-append d.nodes (node ∷ []));
  addrs = addr_push d.nodes node;
  more_apps = apps_push d.nodes node;
  more_ifaces = λ place. omega arith;
  more_links = omega arith;
}

pub IsSketch-node : (d : PlainSketch) (node : PlainNode) → IsSketch d → IsNode node → node.routes ≡ finite.empty → length d.nodes < MAX_NODES → IsSketch (with_node node d)
IsSketch-node d node is here fresh room =
    let grows = grows_node d node in
    record {
      until = is.until;
      schedule = schedule_grows d.nodes d.links (d.nodes ++ node ∷ []) d.links d.schedule grows is.schedule;
      nodes = AllByRecursion-push IsNode d.nodes node is.nodes here;
      few = omega (arith, room, length-append d.nodes (node ∷ []));
      links = links_alike (length d.nodes) (length (d.nodes ++ node ∷ [])) [] [] d.links grows.more_nodes (λ place. refl) is.links;
      few_links = is.few_links;
      faults = is.faults;
      routes = record { each = λ place. subst (λ (routes : Routes). IsWithin (length (links_at place d.links)) routes) (sym (routes_push d.nodes node place fresh)) (is.routes.each place) };
      host = host_grows d.nodes d.links (d.nodes ++ node ∷ []) d.links d.host grows is.host;
    }

-- a node in place of another with no more applications and the same name: the links stay
grows_set : (d : PlainSketch) (at : ℕ) (node : PlainNode) → node.addr ≡ (node_at d.nodes at).addr → length (node_at d.nodes at).apps ≤ length node.apps → Grows d.nodes d.links (set d.nodes at node) d.links
grows_set d at node same more = record {
  more_nodes = omega (arith, length-set d.nodes at node);
  addrs = λ place within. addr_set d.nodes at node place same;
  more_apps = λ place. apps_set d.nodes at node place more;
  more_ifaces = λ place. omega arith;
  more_links = omega arith;
}

replaced : (d : PlainSketch) (at : ℕ) (node : PlainNode) (host : Option ℕ) → IsSketch d → node.addr ≡ (node_at d.nodes at).addr → length (node_at d.nodes at).apps ≤ length node.apps → IsNode node → IsWithin (length (links_at at d.links)) node.routes → IfSome host (IsHost (set d.nodes at node)) → IsSketch (record d { nodes = set d.nodes at node; host = host })
replaced d at node host is same more here within held =
    let grows = grows_set d at node same more in
    let many : length (set d.nodes at node) ≡ length d.nodes = length-set d.nodes at node in
    record {
      until = is.until;
      schedule = schedule_grows d.nodes d.links (set d.nodes at node) d.links d.schedule grows is.schedule;
      nodes = AllByRecursion-set IsNode d.nodes at node is.nodes here;
      few = omega (arith, is.few, many);
      links = links_alike (length d.nodes) (length (set d.nodes at node)) [] [] d.links grows.more_nodes (λ place. refl) is.links;
      few_links = is.few_links;
      faults = is.faults;
      routes = record { each = routed_set (λ place. length (links_at place d.links)) d.nodes at node is.routes.each within };
      host = held;
    }

-- which nodes had their line of options does not matter
with_places : (d : PlainSketch) (tuned : List ℕ) → IsSketch d → IsSketch (record d { tuned = tuned })
with_places d tuned is = record {
  until = is.until;
  schedule = is.schedule;
  nodes = is.nodes;
  few = is.few;
  links = is.links;
  few_links = is.few_links;
  faults = is.faults;
  routes = is.routes;
  host = is.host;
}

-- an application
IsNode-app : (node : PlainNode) (app : PlainApp) → IsNode node → node.addr ≢ None → IsApp app → length node.apps < MAX_APPS → IsNode (with_app app node)
IsNode-app node app is router here room = record {
  name = is.name;
  addr = is.addr;
  bridge = λ none. absurd (router none);
  least = is.least;
  most = is.most;
  seed = is.seed;
  some_inbox = is.some_inbox;
  most_inbox = is.most_inbox;
  options = is.options;
  apps = AllByRecursion-push IsApp node.apps app is.apps here;
  few = omega (arith, room, length-append node.apps (app ∷ []));
}

pub IsSketch-app : (d : PlainSketch) (place : ℕ) (app : PlainApp) → IsSketch d → place < length d.nodes → (node_at d.nodes place).addr ≢ None → IsApp app → length (node_at d.nodes place).apps < MAX_APPS → IsSketch (with_app_at place app d)
IsSketch-app d place app is within router here room =
    let node = node_at d.nodes place in
    let next = with_app app node in
    let longer : length next.apps ≡ length node.apps + 1 = length-append node.apps (app ∷ []) in
    let stands : node_at (set d.nodes place next) place ≡ next = get_or-set_same d.nodes place next _ within in
    replaced d place next (Some place) is refl (omega (arith, longer)) (IsNode-app node app (AllByRecursion-at IsNode d.nodes place _ is.nodes within) router here room) (is.routes.each place)
    (record {
      node = omega (arith, within, length-set d.nodes place next);
      app = subst (λ (one : PlainNode). 1 ≤ length one.apps) (sym stands) (omega (arith, longer));
    })

-- a step's packet has no more bytes than a packet may have
pub step_of_packet : (step : PlainStep) → IsStep step → IsOfPacket step
step_of_packet (step.Send slot bytes) is = omega (arith, is.0.2)
step_of_packet (step.Raw header bytes) is = is.0
step_of_packet _ is = omega arith

-- a step
IsApp-step : (app : PlainApp) (step : PlainStep) → IsApp app → IsStep step → list_any (excludes step) app.steps ≡ false → length app.steps < MAX_STEPS → IsApp (with_step step app)
IsApp-step app step is here apart room = record {
  name = is.name;
  steps = omega (arith, room, length-append app.steps (step ∷ []));
  ranges = AllByRecursion-push IsStep app.steps step is.ranges here;
  unmixed = unmixed_push app.steps step is.unmixed apart;
}

IsNode-step : (node : PlainNode) (step : PlainStep) → IsNode node → 1 ≤ length node.apps → IsStep step → list_any (excludes step) (last_app node).steps ≡ false → length (last_app node).steps < MAX_STEPS → IsNode (with_last_step step node)
IsNode-step node step is some here apart room = record {
  name = is.name;
  addr = is.addr;
  bridge = λ none. absurd (omega (arith, some, ap length (is.bridge none).apps));
  least = is.least;
  most = is.most;
  seed = is.seed;
  some_inbox = is.some_inbox;
  most_inbox = is.most_inbox;
  options = is.options;
  apps = AllByRecursion-set IsApp node.apps (length node.apps - 1) (with_step step (last_app node)) is.apps (IsApp-step (last_app node) step (AllByRecursion-at IsApp node.apps (length node.apps - 1) _ is.apps (omega arith)) here apart room);
  few = omega (arith, is.few, length-set node.apps (length node.apps - 1) (with_step step (last_app node)));
}

pub IsSketch-step : (d : PlainSketch) (place : ℕ) (step : PlainStep) → IsSketch d → place < length d.nodes → 1 ≤ length (node_at d.nodes place).apps → IsStep step → list_any (excludes step) (last_app (node_at d.nodes place)).steps ≡ false → length (last_app (node_at d.nodes place)).steps < MAX_STEPS → IsSketch (with_step_at place step d)
IsSketch-step d place step is within some here apart room =
    let node = node_at d.nodes place in
    let next = with_last_step step node in
    let many : length next.apps ≡ length node.apps = length-set node.apps (length node.apps - 1) (with_step step (last_app node)) in
    replaced d place next d.host is refl (omega (arith, many)) (IsNode-step node step (AllByRecursion-at IsNode d.nodes place _ is.nodes within) some here apart room) (is.routes.each place)
    (host_grows d.nodes d.links (set d.nodes place next) d.links d.host (grows_set d place next refl (omega (arith, many))) is.host)

-- routes
IsNode-routes : (node : PlainNode) (routes : Routes) → IsNode node → node.addr ≢ None → IsNode (record node { routes = routes })
IsNode-routes node routes is router = record {
  name = is.name;
  addr = is.addr;
  bridge = λ none. absurd (router none);
  least = is.least;
  most = is.most;
  seed = is.seed;
  some_inbox = is.some_inbox;
  most_inbox = is.most_inbox;
  options = is.options;
  apps = is.apps;
  few = is.few;
}

pub IsSketch-routes : (d : PlainSketch) (place : ℕ) (routes : Routes) → IsSketch d → place < length d.nodes → (node_at d.nodes place).addr ≢ None → IsWithin (length (links_at place d.links)) routes → IsSketch (with_routes place routes d)
IsSketch-routes d place routes is within router leads =
    let node = node_at d.nodes place in
    let next : PlainNode = record node { routes = routes } in
    replaced d place next d.host is refl (omega arith) (IsNode-routes node routes (AllByRecursion-at IsNode d.nodes place _ is.nodes within) router) leads
    (host_grows d.nodes d.links (set d.nodes place next) d.links d.host (grows_set d place next refl (omega arith)) is.host)

-- the options of a node's reliable connections
IsNode-rdp : (node : PlainNode) (options : Options) → IsNode node → AreOptions options → IsNode (with_rdp options node)
IsNode-rdp node options is here = record {
  name = is.name;
  addr = is.addr;
  bridge = λ none. record { apps = (is.bridge none).apps; routes = (is.bridge none).routes };
  least = is.least;
  most = is.most;
  seed = is.seed;
  some_inbox = is.some_inbox;
  most_inbox = is.most_inbox;
  options = here;
  apps = is.apps;
  few = is.few;
}

pub IsSketch-rdp : (d : PlainSketch) (place : ℕ) (options : Options) → IsSketch d → place < length d.nodes → AreOptions options → IsSketch (with_rdp_at place options d)
IsSketch-rdp d place options is within here =
    let node = node_at d.nodes place in
    let next = with_rdp options node in
    with_places (record d { nodes = set d.nodes place next }) (d.tuned ++ place ∷ [])
    (replaced d place next d.host is refl (omega arith) (IsNode-rdp node options (AllByRecursion-at IsNode d.nodes place _ is.nodes within) here) (is.routes.each place)
    (host_grows d.nodes d.links (set d.nodes place next) d.links d.host (grows_set d place next refl (omega arith)) is.host))

-- a place that is not among others is that of none of the ends there
not_among : (links : List PlainLink) (place : ℕ) (places : List ℕ) (j : ℕ) (b : End) → list_any (λ other. eqb other place) places ≡ false → slice_get (map (end_at links) places) j ≡ Some b → b.node ≡ place → ⊥
not_among links place [] j b none e same = absurd cc
not_among links place (first ∷ places) zero b none e same =
    let stands : first ≡ place = ap (λ o. (unwrap_or o (end_at links first)).node) e ∙ same in
    true≢false (sym (eq-eqb first place stands) ∙ (or_parts (eqb first place) _ none).0)
not_among links place (first ∷ places) (suc j) b none e same = not_among links place places j b (or_parts (eqb first place) _ none).1 e same

-- the ends at places of which none stands twice are apart
ends_apart : (links : List PlainLink) (places : List ℕ) → has_twice places ≡ false → AreApart (map (end_at links) places)
ends_apart links [] once i j a b e f same = absurd cc
ends_apart links (place ∷ places) once zero zero a b e f same = refl
ends_apart links (place ∷ places) once zero (suc j) a b e f same =
    absurd (not_among links place places j b (or_parts (list_any (λ other. eqb other place) places) (has_twice places) once).0 f (sym same ∙ sym (ap (λ o. (unwrap_or o (end_at links place)).node) e)))
ends_apart links (place ∷ places) once (suc i) zero a b e f same =
    absurd (not_among links place places i a (or_parts (list_any (λ other. eqb other place) places) (has_twice places) once).0 e (same ∙ sym (ap (λ o. (unwrap_or o (end_at links place)).node) f)))
ends_apart links (place ∷ places) once (suc i) (suc j) a b e f same =
    ap suc (ends_apart links places (or_parts (list_any (λ other. eqb other place) places) (has_twice places) once).1 i j a b e f same)

ends_after : (nodes : ℕ) (links : List PlainLink) (places : List ℕ) → All (λ (place : ℕ). place < nodes) places → AllByRecursion (IsEndAfter nodes links) (map (end_at links) places)
ends_after nodes links [] there = tt
ends_after nodes links (place ∷ places) there = (
  record { node = there zero place (omega arith); iface = refl },
  ends_after nodes links places (λ k d below. there (suc k) d (omega (arith, below))),
)

-- a link
pub IsSketch-link : (d : PlainSketch) (word : List ℕ) (kind : LinkKind) (hub : Bool) (mtu : ℕ) (places : List ℕ) → IsSketch d → IsTrue (is_name word) → IsMtu mtu → MayJoin (length d.nodes) kind hub mtu places → has_twice places ≡ false → length d.links < MAX_LINKS → IsSketch (with_link (new_link d.links word kind hub mtu places) d)
IsSketch-link d word kind hub mtu places is named sized may once room =
    let link = new_link d.links word kind hub mtu places in
    let more : (place : ℕ) → length (links_at place d.links) ≤ length (links_at place (d.links ++ link ∷ [])) = λ (place : ℕ). omega (arith, links_at-push place d.links link) in
    let grows : Grows d.nodes d.links d.nodes (d.links ++ link ∷ []) = record { more_nodes = omega arith; addrs = λ place within. refl; more_apps = λ place. omega arith; more_ifaces = more; more_links = omega (arith, length-append d.links (link ∷ [])) } in
    let count : length link.ends ≡ length places = length-map places (end_at d.links) in
    let stands : IsLinkAfter (length d.nodes) d.links link = record {
      name = named;
      mtu = sized;
      shape = record {
        least = omega (arith, count, may.least);
        most = omega (arith, count, may.most);
        pair = λ single. count ∙ may.pair single;
        bus = may.bus;
        apart = ends_apart d.links places once;
      };
      ends = ends_after (length d.nodes) d.links places may.there;
      plan = All-nil (IsPlanned (length link.ends));
    } in
    record {
      until = is.until;
      schedule = schedule_grows d.nodes d.links d.nodes (d.links ++ link ∷ []) d.schedule grows is.schedule;
      nodes = is.nodes;
      few = is.few;
      links = links_push (length d.nodes) [] d.links link is.links stands;
      few_links = omega (arith, room, length-append d.links (link ∷ []));
      faults = omega (arith, is.faults, sum_by_push (λ (l : PlainLink). length l.plan) d.links link);
      routes = record { each = λ place. within_more (length (links_at place d.links)) (length (links_at place (d.links ++ link ∷ []))) (node_at d.nodes place).routes (more place) (is.routes.each place) };
      host = is.host;
    }

-- a fault
pub IsSketch-fault : (d : PlainSketch) (place : ℕ) (fault : Fault) → IsSketch d → place < length d.links → IsPlanned (length (link_at d.links place).ends) fault → fault_count d.links < MAX_FAULTS → IsSketch (with_fault_at place fault d)
IsSketch-fault d place fault is within planned room =
    let link = link_at d.links place in
    let links = set d.links place (with_fault fault link) in
    let alike : (at : ℕ) → length (links_at at d.links) ≡ length (links_at at links) = alike_set d.links place fault in
    let grows : Grows d.nodes d.links d.nodes links = record { more_nodes = omega arith; addrs = λ at within. refl; more_apps = λ at. omega arith; more_ifaces = λ at. omega (arith, alike at); more_links = omega (arith, length-set d.links place (with_fault fault link)) } in
    record {
      until = is.until;
      schedule = schedule_grows d.nodes d.links d.nodes links d.schedule grows is.schedule;
      nodes = is.nodes;
      few = is.few;
      links = links_fault (length d.nodes) [] [] d.links place fault (λ at. refl) is.links within planned;
      few_links = omega (arith, is.few_links, length-set d.links place (with_fault fault link));
      faults = omega (arith, room, sum_by-set (λ (l : PlainLink). length l.plan) d.links place (with_fault fault link) no_link within, length-append link.plan (fault ∷ []));
      routes = record { each = λ at. within_more (length (links_at at d.links)) (length (links_at at links)) (node_at d.nodes at).routes (omega (arith, alike at)) (is.routes.each at) };
      host = is.host;
    }

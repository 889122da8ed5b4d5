-- A scene in the making that is whole is a scene.
use Rattle.std.proofs.Common.{◌≡◌, ℕ, ◌+◌, true, ◌||◌, eqb, List, [], ◌∷◌, length, Option, Some, None, IfSome, zero, suc, arith, refl, subst}
use Rattle.std.specs.Option.{unwrap_or, is_some}
use Rattle.std.specs.List.{slice_get}
use Rattle.std.proofs.lemmas.Bool.{and_parts, eqb-true}
use Rattle.std.proofs.lemmas.Option.{get_or_from_slice_get}
use Rattle.csp_route.specs.Routes.{IsWithin}
use Rattle.csp_scene.specs.declared.limits.TheConstants.{BRIDGE_LINKS}
use Rattle.csp_scene.specs.Scene.{PlainNode, PlainLink, PlainSchedule, PlainScene, in_rounds}
use Rattle.csp_scene.specs.Links.{links_at, node_at, no_node}
use Rattle.csp_scene.specs.Ranges.{IsSchedule, IsScene}
use Rattle.csp_scene.specs.Sketch.{PlainSketch}
use Rattle.csp_scene.specs.State.{is_joined, are_joined}
use Rattle.csp_scene.specs.Kept.{IsSketch}
use Rattle.csp_scene.proofs.Growing.{links_stand}

joined_at : (links : List PlainLink) (from : ℕ) (nodes : List PlainNode) (place : ℕ) (node : PlainNode) → are_joined links from nodes ≡ true → slice_get nodes place ≡ Some node → is_joined links (from + place) node ≡ true
joined_at links from [] place node all e = absurd (cc)
joined_at links from (first ∷ nodes) zero node all e =
    let same : first ≡ node = cc in
    subst (λ (at : ℕ). is_joined links at node ≡ true) (omega arith) (subst (λ (one : PlainNode). is_joined links from one ≡ true) same (and_parts (is_joined links from first) (are_joined links (from + 1) nodes) all).0)
joined_at links from (first ∷ nodes) (suc place) node all e =
    subst (λ (at : ℕ). is_joined links at node ≡ true) (omega arith) (joined_at links (from + 1) nodes place node (and_parts (is_joined links from first) (are_joined links (from + 1) nodes) all).1 e)

bridge_has : (addr : Option ℕ) (count : ℕ) → addr ≡ None → (is_some addr || eqb count BRIDGE_LINKS) ≡ true → count ≡ BRIDGE_LINKS
bridge_has (Some a) count none h = absurd (cc)
bridge_has None count none h = eqb-true count BRIDGE_LINKS h

schedule_of : (nodes : List PlainNode) (links : List PlainLink) (schedule : Option PlainSchedule) → IfSome schedule (IsSchedule nodes links) → IsSchedule nodes links (unwrap_or schedule in_rounds)
schedule_of nodes links None is = tt
schedule_of nodes links (Some schedule) is = is

abbrev pub scene_with : PlainSketch → ℕ → PlainScene
scene_with d until = record { until = until; schedule = unwrap_or d.schedule in_rounds; nodes = d.nodes; links = d.links }

pub IsScene-from_sketch : (d : PlainSketch) (until : ℕ) → IsSketch d → d.until ≡ Some until → are_joined d.links 0 d.nodes ≡ true → IsScene (scene_with d until)
IsScene-from_sketch d until is given joined =
    let ranges = rw given at is.until in
    record {
      least = ranges.0;
      most = ranges.1;
      nodes = is.nodes;
      few = is.few;
      links = links_stand d.nodes [] d.links d.links refl is.links;
      few_links = is.few_links;
      faults = is.faults;
      joined = λ place node e.
          let stands : node_at d.nodes place ≡ node = get_or_from_slice_get d.nodes place node no_node e in
          record {
            routes = subst (λ (one : PlainNode). IsWithin (length (links_at place d.links)) one.routes) stands (is.routes.each place);
            bridge = λ none. bridge_has node.addr (length (links_at place d.links)) none (subst (λ (at : ℕ). is_joined d.links at node ≡ true) (omega arith) (joined_at d.links 0 d.nodes place node joined e));
          };
      schedule = schedule_of d.nodes d.links d.schedule is.schedule;
    }

-- what is the same as a scene is one
pub scene_kept : (s t : PlainScene) → IsScene s → s ≡ t → IsScene t
scene_kept s t is same = subst (λ (one : PlainScene). IsScene one) same is

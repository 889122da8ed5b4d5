-- The notes of a run speak of each queue of the scene once, in their order.
use Rattle.std.proofs.Common.{◌≡◌, ◌+◌, ℕ, suc, Some, List, [], ◌∷◌, ◌++◌, length, map, refl, sym, ap, ◌∙◌, subst, arith, slice_get}
use Rattle.std.proofs.lemmas.List.{length-map, map-append}
use Rattle.csp_consistent.specs.Whole.{AreQueuesLeft, left_name, queue_name}
use Rattle.csp_deck.specs.Carried.{places_of}
use Rattle.csp_lists.specs.Order.{places_in}
use Rattle.csp_log.specs.Kinds.{carried_on}
use Rattle.csp_log.specs.declared.places.Place.TheVariants as place
use Rattle.csp_log.specs.declared.places.Place.{Place}
use Rattle.csp_log.specs.declared.places.QueueId.TheVariants as queue
use Rattle.csp_log.specs.declared.places.QueueId.{QueueId}
use Rattle.csp_log.specs.declared.shown.ItemShown.{ItemShown}
use Rattle.csp_posts.specs.Posts.{PlainPost}
use Rattle.csp_record.specs.Record.{PlainRecord}
use Rattle.csp_scene.specs.Links.{links_at}
use Rattle.csp_scene.specs.Scene.{PlainLink, PlainNode, PlainScene}
use Rattle.csp_standing.specs.Network.{PlainNetwork}
use Rattle.csp_telling.proofs.Nodes.{IsEnded}
use Rattle.csp_telling.specs.Closed.{all_notes, inbox_notes, lane_notes, node_notes}
use Rattle.csp_telling.specs.Remains.{PlainRemains}
use Rattle.csp_topology.specs.Lanes.{PlainLane}
use Rattle.csp_topology.specs.Plan.{plan_of, plans_from}
use Rattle.csp_topology.specs.Queues.{at_node, queues_from}
use Rattle.csp_topology.specs.Wires.{wires_of}

-- the places of the lanes of a node
abbrev lane_places : List PlainLane → List Place
lane_places ls = map (λ (l : PlainLane). place.Lane l.queue) ls

lanes_named : (node : ℕ) (ls : List PlainLane) (lefts : List (List ItemShown)) → length lefts ≡ length ls → map left_name (lane_notes node ls lefts) ≡ map queue_name (at_node node (lane_places ls))
lanes_named node [] [] e = refl
lanes_named node [] (is ∷ lefts) e = absurd cc
lanes_named node (l ∷ ls) [] e = absurd cc
lanes_named node (l ∷ ls) (is ∷ lefts) e = ap (λ (rest : List (ℕ × QueueId × ℕ)). (node, l.queue, 0) ∷ rest) (lanes_named node ls lefts (omega (arith, e)))

node_named : (node : ℕ) (ls : List PlainLane) (m : PlainRemains) → length m.lanes ≡ length ls → map left_name (node_notes node ls m) ≡ map queue_name (at_node node (lane_places ls ++ places_of queue.Inbox))
node_named node ls m e =
    map-append left_name (lane_notes node ls m.lanes) (inbox_notes node m.inbox)
    ∙ ap (λ (names : List (ℕ × QueueId × ℕ)). names ++ map left_name (inbox_notes node m.inbox)) (lanes_named node ls m.lanes e)
    ∙ sym (ap (map queue_name) (map-append (λ (p : Place). (node, p)) (lane_places ls) (places_of queue.Inbox)) ∙ map-append queue_name (at_node node (lane_places ls)) (at_node node (places_of queue.Inbox)))

-- those of a node stand in the order of its queues
abbrev AreOrdered : ℕ → List PlainLink → List PlainNode → List (List PlainLane) → Type 0
AreOrdered base links nodes wires =
    (i : ℕ) (c : PlainNode) (ls : List PlainLane) → slice_get nodes i ≡ Some c → slice_get wires i ≡ Some ls → lane_places ls ++ places_of queue.Inbox ≡ places_in (record { ifaces = length (links_at (base + i) links); apps = length c.apps })

order_after : (base : ℕ) (links : List PlainLink) (c : PlainNode) (nodes : List PlainNode) (ls : List PlainLane) (wires : List (List PlainLane)) → AreOrdered base links (c ∷ nodes) (ls ∷ wires) → AreOrdered (base + 1) links nodes wires
order_after base links c nodes ls wires are i d ks at there =
    let same : base + suc i ≡ base + 1 + i = omega arith in
    subst (λ k. lane_places ks ++ places_of queue.Inbox ≡ places_in (record { ifaces = length (links_at k links); apps = length d.apps })) same (are (suc i) d ks at there)

order_here : (base : ℕ) (links : List PlainLink) (c : PlainNode) (nodes : List PlainNode) (ls : List PlainLane) (wires : List (List PlainLane)) → AreOrdered base links (c ∷ nodes) (ls ∷ wires)
    → lane_places ls ++ places_of queue.Inbox ≡ places_in (record { ifaces = length (links_at base links); apps = length c.apps })
order_here base links c nodes ls wires are =
    let same : base + 0 ≡ base = omega arith in
    subst (λ k. lane_places ls ++ places_of queue.Inbox ≡ places_in (record { ifaces = length (links_at k links); apps = length c.apps })) same (are 0 c ls refl refl)

-- as many lists were left at each node as it has lanes
abbrev pub many : List PlainRemains → List ℕ
many all = map (λ (m : PlainRemains). length m.lanes) all

abbrev pub counts : List (List PlainLane) → List ℕ
counts wires = map (λ (ls : List PlainLane). length ls) wires

pub first_same : (a b : ℕ) (xs ys : List ℕ) → a ∷ xs ≡ b ∷ ys → a ≡ b
first_same a b xs ys e = cc

pub rest_same : (a b : ℕ) (xs ys : List ℕ) → a ∷ xs ≡ b ∷ ys → xs ≡ ys
rest_same a b xs ys e = cc

all_named : (base : ℕ) (links : List PlainLink) (nodes : List PlainNode) (wires : List (List PlainLane)) (all : List PlainRemains) → length wires ≡ length nodes → many all ≡ counts wires → AreOrdered base links nodes wires
    → map left_name (all_notes base wires all) ≡ map queue_name (queues_from base (plans_from base nodes links))
all_named base links [] [] all e f are = refl
all_named base links [] (ls ∷ wires) all e f are = absurd cc
all_named base links (c ∷ nodes) [] all e f are = absurd cc
all_named base links (c ∷ nodes) (ls ∷ wires) [] e f are = absurd cc
all_named base links (c ∷ nodes) (ls ∷ wires) (m ∷ all) e f are =
    map-append left_name (node_notes base ls m) (all_notes (base + 1) wires all)
    ∙ (λ i. (node_named base ls m (first_same _ _ (many all) (counts wires) f) ∙ ap (λ ps. map queue_name (at_node base ps)) (order_here base links c nodes ls wires are ∙ planned)) i
    ++ all_named (base + 1) links nodes wires all (omega (arith, e)) (rest_same (length m.lanes) (length ls) _ _ f) (order_after base links c nodes ls wires are) i)
    ∙ sym (map-append queue_name (at_node base (places_in (record { ifaces = length (plan_of c (links_at base links)).lanes; apps = length c.apps }))) (queues_from (base + 1) (plans_from (base + 1) nodes links)))
  where
    planned : places_in (record { ifaces = length (links_at base links); apps = length c.apps }) ≡ places_in (record { ifaces = length (plan_of c (links_at base links)).lanes; apps = length c.apps })
    planned = ap (λ (ifaces : ℕ). places_in (record { ifaces = ifaces; apps = length c.apps })) (sym (length-map (links_at base links) (λ (l : PlainLink). carried_on l.kind)))

pub queues_noted : (scene : PlainScene) (n : PlainNetwork) (posts : List PlainPost) (r : PlainRecord) → IsEnded scene n posts r → AreQueuesLeft scene r
queues_noted scene n posts r ended =
    ap (map left_name) ended.closed.told.left
    ∙ all_named 0 scene.links scene.nodes (wires_of scene) ended.closed.all ended.counted ended.closed.remains.lanes (λ i c ls at there.
    let same : i ≡ 0 + i = omega arith in
    subst (λ k. lane_places ls ++ places_of queue.Inbox ≡ places_in (record { ifaces = length (links_at k scene.links); apps = length c.apps })) same (ended.ordered i c ls at there))

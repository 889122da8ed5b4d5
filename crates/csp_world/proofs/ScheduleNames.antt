-- Each party that a move of a scene names is one of its opening world.
use Rattle.std.proofs.Common.{◌≡◌, ◌≢◌, ℕ, zero, suc, ◌+◌, ◌<◌, ◌≤◌, Bool, true, false, Option, None, Some, List, [], ◌∷◌, ◌++◌, length, map, refl, sym, ◌∙◌, ap, arith, subst}
use Rattle.std.specs.Prelude.{◌||◌, ◌&&◌, ◌==◌, All, slice_get}
use Rattle.std.specs.List.{AllByRecursion, list_any}
use Rattle.std.proofs.lemmas.Bool.{false≢true, eqb-false}
use Rattle.std.proofs.lemmas.List.Elements.{All-nil, All-cons}
use Rattle.std.proofs.lemmas.List.Folds.{list_any-append}
use Rattle.std.proofs.lemmas.Option.{slice_get-get_or}
use Rattle.csp_log.specs.Who.{is_who}
use Rattle.csp_log.specs.declared.who.Who.{Who}
use Rattle.csp_log.specs.declared.who.Who.TheVariants as who
use Rattle.csp_scene.specs.Links.{links_at, node_at, no_node}
use Rattle.csp_scene.specs.Ranges.{IsMove, IsParty, IsSchedule, IsScene}
use Rattle.csp_scene.specs.Scene.{PlainApp, PlainLink, PlainNode, PlainSchedule, PlainScene, in_rounds, shuffled, stepwise, moves_in}
use Rattle.csp_scene.specs.declared.scenario.Move.{Move}
use Rattle.csp_scene.specs.declared.scenario.Move.TheVariants as move
use Rattle.csp_topology.specs.Parties.{PlainOpening, leader_opening, ifaces_from, apps_from, links_from, parties_at, parties_from, parties_of}
use Rattle.csp_world.specs.Opening.{new_member, opening}
use Rattle.csp_world.specs.Schedule.{IsThere, names, place_named}

-- the first of two tests, or the second, passes
or_right : (a b : Bool) → b ≡ true → (a || b) ≡ true
or_right true b h = refl
or_right false b h = h

or_left : (a b : Bool) → a ≡ true → (a || b) ≡ true
or_left a b h = rw h refl

-- a number is this one, or what is left passes
or_found : (n k : ℕ) (rest : Bool) → (n ≢ k → rest ≡ true) → ((n == k) || rest) ≡ true
or_found n k rest h = by_case (n == k) refl where
  by_case : (b : Bool) → (n == k) ≡ b → (b || rest) ≡ true
  by_case true e = refl
  by_case false e = h (eqb-false n k e)

itself : (n : ℕ) → (n == n) ≡ true
itself n = by_case (n == n) refl where
  by_case : (b : Bool) → (n == n) ≡ b → b ≡ true
  by_case true e = refl
  by_case false e = absurd (eqb-false n n e refl)

and_found : (place n k : ℕ) (rest : Bool) → (n ≢ k → rest ≡ true) → (((place == place) && (n == k)) || rest) ≡ true
and_found place n k rest h = rw (itself place) (or_found n k rest h)

-- a name is that of one of these parties
abbrev among : Who → List PlainOpening → Bool
among party ps = list_any (λ p. is_who party p.who) ps

among_left : (party : Who) (ps qs : List PlainOpening) → among party ps ≡ true → among party (ps ++ qs) ≡ true
among_left party ps qs h = list_any-append (λ p. is_who party p.who) ps qs ∙ or_left _ _ h

among_right : (party : Who) (ps qs : List PlainOpening) → among party qs ≡ true → among party (ps ++ qs) ≡ true
among_right party ps qs h = list_any-append (λ p. is_who party p.who) ps qs ∙ or_right _ _ h

link_among : (links : List PlainLink) (number k : ℕ) → number ≤ k → k < number + length links → among (who.Link k) (links_from number links) ≡ true
link_among [] number k low high = absurd (omega arith)
link_among (l ∷ links) number k low high = or_found number k _ (λ ne. link_among links (number + 1) k (omega arith) (omega arith))

iface_among : (place : ℕ) (addr : Option ℕ) (links : List PlainLink) (number k : ℕ) → number ≤ k → k < number + length links → among (who.Iface place k) (ifaces_from place addr number links) ≡ true
iface_among place addr [] number k low high = absurd (omega arith)
iface_among place addr (l ∷ links) number k low high = and_found place number k _ (λ ne. iface_among place addr links (number + 1) k (omega arith) (omega arith))

app_among : (place : ℕ) (apps : List PlainApp) (number k : ℕ) → number ≤ k → k < number + length apps → among (who.App place k) (apps_from place number apps) ≡ true
app_among place [] number k low high = absurd (omega arith)
app_among place (a ∷ apps) number k low high = and_found place number k _ (λ ne. app_among place apps (number + 1) k (omega arith) (omega arith))

router_named : (addr : Option ℕ) (place : ℕ) (n : PlainNode) (links : List PlainLink) → addr ≢ None → is_who (who.Router place) (leader_opening addr place n links).who ≡ true
router_named None place n links h = absurd (h refl)
router_named (Some addr) place n links h = itself place

bridge_named : (addr : Option ℕ) (place : ℕ) (n : PlainNode) (links : List PlainLink) → addr ≡ None → is_who (who.Bridge place) (leader_opening addr place n links).who ≡ true
bridge_named None place n links h = itself place
bridge_named (Some addr) place n links h = absurd cc

-- the parties of a node
router_of_node : (place : ℕ) (n : PlainNode) (links : List PlainLink) → n.addr ≢ None → among (who.Router place) (parties_at place n links) ≡ true
router_of_node place n links h = or_left _ _ (router_named n.addr place n links h)

bridge_of_node : (place : ℕ) (n : PlainNode) (links : List PlainLink) → n.addr ≡ None → among (who.Bridge place) (parties_at place n links) ≡ true
bridge_of_node place n links h = or_left _ _ (bridge_named n.addr place n links h)

iface_of_node : (place k : ℕ) (n : PlainNode) (links : List PlainLink) → k < length links → among (who.Iface place k) (parties_at place n links) ≡ true
iface_of_node place k n links h =
    or_right _ _ (among_left (who.Iface place k) (ifaces_from place n.addr 0 links) (apps_from place 0 n.apps) (iface_among place n.addr links 0 k (omega arith) (omega arith)))

app_of_node : (place k : ℕ) (n : PlainNode) (links : List PlainLink) → k < length n.apps → among (who.App place k) (parties_at place n links) ≡ true
app_of_node place k n links h =
    or_right _ _ (among_right (who.App place k) (ifaces_from place n.addr 0 links) (apps_from place 0 n.apps) (app_among place n.apps 0 k (omega arith) (omega arith)))

-- a party of a node is among those of all nodes
node_among : (party : Who) (nodes : List PlainNode) (links : List PlainLink) (first i place : ℕ) (n : PlainNode) → slice_get nodes i ≡ Some n → place ≡ first + i
    → among party (parties_at place n (links_at place links)) ≡ true → among party (parties_from first nodes links) ≡ true
node_among party [] links first i place n e at h = absurd cc
node_among party (x ∷ nodes) links first zero place n e at h =
    let here : place ≡ first = omega arith in
    let same : x ≡ n = cc in
    among_left party (parties_at first x (links_at first links)) (parties_from (first + 1) nodes links)
    (subst (λ (k : ℕ). among party (parties_at k x (links_at k links)) ≡ true) here (subst (λ (y : PlainNode). among party (parties_at place y (links_at place links)) ≡ true) (sym same) h))
node_among party (x ∷ nodes) links first (suc i) place n e at h =
    among_right party (parties_at first x (links_at first links)) (parties_from (first + 1) nodes links)
    (node_among party nodes links (first + 1) i place n e (omega arith) h)

-- so the party's place is one of theirs
first_step : (party w : Who) (ws : List Who) (b : Bool) → is_who party w ≡ b → (list_any (is_who party) ws ≡ true → place_named ws party < length ws) → list_any (is_who party) (w ∷ ws) ≡ true → place_named (w ∷ ws) party < length (w ∷ ws)
first_step party w ws true e on h = rw e (omega arith)
first_step party w ws false e on h =
    let rest : list_any (is_who party) ws ≡ true = rw e at h in
    let later = on rest in
    rw e (omega arith)

first_within : (party : Who) (ws : List Who) → list_any (is_who party) ws ≡ true → place_named ws party < length ws
first_within party [] h = absurd (false≢true h)
first_within party (w ∷ ws) h = first_step party w ws (is_who party w) refl (λ r. first_within party ws r) h

of_names : (party : Who) (ps : List PlainOpening) → list_any (is_who party) (map (λ p. p.who) (map new_member ps)) ≡ among party ps
of_names party [] = refl
of_names party (p ∷ ps) = ap (λ b. is_who party p.who || b) (of_names party ps)

abbrev IsIn : PlainScene → Who → Type 0
IsIn scene party = among party (parties_from 0 scene.nodes scene.links ++ links_from 0 scene.links) ≡ true

in_place : (scene : PlainScene) (party : Who) → IsIn scene party → place_named (names (opening scene)) party < length (names (opening scene))
unfolding opening parties_of
in_place scene party h = first_within party _ (of_names party _ ∙ h)

node_in : (scene : PlainScene) (party : Who) (place : ℕ) → place < length scene.nodes → among party (parties_at place (node_at scene.nodes place) (links_at place scene.links)) ≡ true → IsIn scene party
node_in scene party place within h =
    among_left party (parties_from 0 scene.nodes scene.links) (links_from 0 scene.links)
    (node_among party scene.nodes scene.links 0 place place (node_at scene.nodes place) (slice_get-get_or scene.nodes place no_node within) (omega arith) h)

party_in : (scene : PlainScene) (party : Who) → IsParty scene.nodes scene.links party → IsIn scene party
party_in scene (who.Router node) h = node_in scene (who.Router node) node h.0 (router_of_node node (node_at scene.nodes node) (links_at node scene.links) h.1)
party_in scene (who.Bridge node) h = node_in scene (who.Bridge node) node h.0 (bridge_of_node node (node_at scene.nodes node) (links_at node scene.links) h.1)
party_in scene (who.Iface node k) h = node_in scene (who.Iface node k) node h.0 (iface_of_node node k (node_at scene.nodes node) (links_at node scene.links) h.1)
party_in scene (who.App node k) h = node_in scene (who.App node k) node h.0 (app_of_node node k (node_at scene.nodes node) (links_at node scene.links) h.1)
party_in scene (who.Link k) h = among_right (who.Link k) (parties_from 0 scene.nodes scene.links) (links_from 0 scene.links) (link_among scene.links 0 k (omega arith) (omega arith))

move_there : (scene : PlainScene) (m : Move) → IsMove scene.nodes scene.links m → IsThere (names (opening scene)) m
move_there scene move.Tick h = tt
move_there scene (move.Turn party) h = in_place scene party (party_in scene party h)

moves_there : (scene : PlainScene) (ms : List Move) → AllByRecursion (IsMove scene.nodes scene.links) ms → All (IsThere (names (opening scene))) ms
moves_there scene [] h = All-nil (IsThere (names (opening scene)))
moves_there scene (m ∷ ms) h = All-cons (IsThere (names (opening scene))) m ms (move_there scene m h.0) (moves_there scene ms h.1)

schedule_there : (scene : PlainScene) (s : PlainSchedule) → IsSchedule scene.nodes scene.links s → All (IsThere (names (opening scene))) (moves_in s)
schedule_there scene in_rounds h = All-nil (IsThere (names (opening scene)))
schedule_there scene (shuffled seed) h = All-nil (IsThere (names (opening scene)))
schedule_there scene (stepwise ms) h = moves_there scene ms h

-- each move of a scene is a tick, or that of a party of its opening world
pub all_there : (scene : PlainScene) → IsScene scene → All (IsThere (names (opening scene))) (moves_in scene.schedule)
all_there scene h = schedule_there scene scene.schedule h.schedule

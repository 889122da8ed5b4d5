-- How many parties of a node there are.
use Rattle.std.proofs.Common.{◌≡◌, ◌+◌, ◌==◌, ◌<◌, ◌≤◌, ℕ, zero, suc, Bool, true, false, true≢false, List, [], ◌∷◌, ◌++◌, Option, None, Some, cond, length, refl, sym, ap, ◌∙◌, arith}
use Rattle.std.specs.List.{AllZip, count_by}
use Rattle.std.specs.Option.{option_map}
use Rattle.std.proofs.lemmas.Bool.{eq-eqb, eqb-true}
use Rattle.std.proofs.lemmas.List.{append_assoc}
use Rattle.std.proofs.lemmas.List.Sums.{sum_by-cons}
use Rattle.csp_ends.specs.Ends.{PlainHome}
use Rattle.csp_opening.proofs.Ordered.{names}
use Rattle.csp_opening.proofs.Passing.{parts_at}
use Rattle.csp_posts.specs.Between.{is_home}
use Rattle.csp_posts.specs.Posts.{PlainPost}
use Rattle.csp_log.specs.Who.{node_of}
use Rattle.csp_log.specs.declared.who.Who.{Who}
use Rattle.csp_log.specs.declared.who.Who.TheVariants as who
use Rattle.csp_scene.specs.Links.{links_at}
use Rattle.csp_scene.specs.Scene.{PlainApp, PlainLink, PlainNode}
use Rattle.csp_topology.specs.Parties.{PlainOpening, app_at, apps_from, bridge_at, heeded, leader_opening, iface_on, ifaces_from, link_at, links_from, parties_from}

-- whether a party is the router or the bridge of a node
abbrev pub hub_at : ℕ → Who → Bool
hub_at m (who.Router n) = n == m
hub_at m (who.Bridge n) = n == m
hub_at m (who.Iface n k) = false
hub_at m (who.App n k) = false
hub_at m (who.Link k) = false

-- whether this is the node of a party
abbrev pub is_node : ℕ → Option ℕ → Bool
is_node m None = false
is_node m (Some n) = n == m

-- how many of these are so
abbrev hubs : ℕ → List PlainOpening → ℕ
hubs m os = count_by (hub_at m) (names os)

step : (m : ℕ) (o : PlainOpening) (os : List PlainOpening) → hubs m (o ∷ os) ≡ cond (hub_at m o.who) 1 0 + hubs m os
step m o os = sum_by-cons (λ w. cond (hub_at m w) 1 0) o.who (names os)

hubs_links : (m number : ℕ) (links : List PlainLink) → hubs m (links_from number links) ≡ 0
hubs_links m number [] = refl
hubs_links m number (l ∷ links) = let s = step m (link_at number l) (links_from (number + 1) links) in let r = hubs_links m (number + 1) links in omega (arith, s, r)

hubs_apps : (m place number : ℕ) (apps : List PlainApp) (rest : List PlainOpening) → hubs m (apps_from place number apps ++ rest) ≡ hubs m rest
hubs_apps m place number [] rest = refl
hubs_apps m place number (a ∷ apps) rest = let s = step m (app_at place number a) (apps_from place (number + 1) apps ++ rest) in let r = hubs_apps m place (number + 1) apps rest in omega (arith, s, r)

hubs_ifaces : (m place : ℕ) (addr : Option ℕ) (number : ℕ) (links : List PlainLink) (rest : List PlainOpening) → hubs m (ifaces_from place addr number links ++ rest) ≡ hubs m rest
hubs_ifaces m place addr number [] rest = refl
hubs_ifaces m place addr number (l ∷ links) rest = let s = step m (iface_on place number l.kind l.mtu (heeded addr l)) (ifaces_from place addr (number + 1) links ++ rest) in let r = hubs_ifaces m place addr (number + 1) links rest in omega (arith, s, r)

hubs_hub : (m : ℕ) (addr : Option ℕ) (place : ℕ) (n : PlainNode) (links : List PlainLink) (rest : List PlainOpening) → hubs m (leader_opening addr place n links ∷ rest) ≡ cond (place == m) 1 0 + hubs m rest
hubs_hub m (Some a) place n links rest = step m (leader_opening (Some a) place n links) rest
hubs_hub m None place n links rest = step m (bridge_at place) rest

-- the parties of one node, before others
hubs_node : (m place : ℕ) (n : PlainNode) (nodes : List PlainNode) (links : List PlainLink) (rest : List PlainOpening)
    → hubs m (parties_from place (n ∷ nodes) links ++ rest) ≡ cond (place == m) 1 0 + hubs m (parties_from (place + 1) nodes links ++ rest)
hubs_node m place n nodes links rest =
    let here = links_at place links in
    let more = parties_from (place + 1) nodes links ++ rest in
    ap (hubs m) (three (leader_opening n.addr place n here) (ifaces_from place n.addr 0 here) (apps_from place 0 n.apps) (parties_from (place + 1) nodes links) rest)
    ∙ hubs_hub m n.addr place n here (ifaces_from place n.addr 0 here ++ (apps_from place 0 n.apps ++ more))
    ∙ ap (λ k. cond (place == m) 1 0 + k) (hubs_ifaces m place n.addr 0 here (apps_from place 0 n.apps ++ more) ∙ hubs_apps m place 0 n.apps more) where
      three : (x : PlainOpening) (a b c d : List PlainOpening) → ((x ∷ (a ++ b)) ++ c) ++ d ≡ x ∷ (a ++ (b ++ (c ++ d)))
      three x a b c d = ap (λ xs. x ∷ xs) (append_assoc (a ++ b) c d ∙ append_assoc a b (c ++ d))

unlike : (k m : ℕ) (b : Bool) → (k == m) ≡ b → (k ≡ m → ⊥) → cond {A = ℕ} b 1 0 ≡ 0
unlike k m true e apart = absurd (apart (eqb-true k m e))
unlike k m false e apart = refl

-- none before its place
hubs_past : (m place : ℕ) (nodes : List PlainNode) (links : List PlainLink) (rest : List PlainOpening) → m < place → hubs m (parties_from place nodes links ++ rest) ≡ hubs m rest
hubs_past m place [] links rest low = refl
hubs_past m place (n ∷ nodes) links rest low =
    let s = hubs_node m place n nodes links rest in
    let z = unlike place m (place == m) refl (λ e. omega (arith, e, low)) in
    let r = hubs_past m (place + 1) nodes links rest (omega (arith, low)) in
    omega (arith, s, z, r)

at_least : (k j : ℕ) → k ≤ j → (k ≡ j → ⊥) → k + 1 ≤ j
at_least zero zero l apart = absurd (apart refl)
at_least zero (suc j) l apart = omega arith
at_least (suc k) zero l apart = absurd (omega (arith, l))
at_least (suc k) (suc j) l apart = let r = at_least k j (omega (arith, l)) (λ e. apart (ap suc e)) in omega (arith, r)

-- one step of what follows
one_or : (m place : ℕ) (b : Bool) (all more rest : ℕ) → (place == m) ≡ b → all ≡ cond (place == m) 1 0 + more → (place ≡ m → more ≡ rest) → ((place ≡ m → ⊥) → more ≡ 1 + rest) → all ≡ 1 + rest
one_or m place true all more rest e s here on = let one = ap (λ c. cond {A = ℕ} c 1 0) e in let r = here (eqb-true place m e) in omega (arith, s, one, r)
one_or m place false all more rest e s here on = let none = ap (λ c. cond {A = ℕ} c 1 0) e in let r = on (λ same. true≢false (sym (eq-eqb place m same) ∙ e)) in omega (arith, s, none, r)

hubs_from : (m place : ℕ) (nodes : List PlainNode) (links : List PlainLink) (rest : List PlainOpening) → place ≤ m → m < place + length nodes → hubs m (parties_from place nodes links ++ rest) ≡ 1 + hubs m rest
hubs_from m place [] links rest low high = absurd (omega (arith, low, high))
hubs_from m place (n ∷ nodes) links rest low high =
    one_or m place (place == m) (hubs m (parties_from place (n ∷ nodes) links ++ rest)) (hubs m (parties_from (place + 1) nodes links ++ rest)) (hubs m rest) refl (hubs_node m place n nodes links rest)
    (λ same. hubs_past m (place + 1) nodes links rest (omega (arith, same)))
    (λ apart. (let past = at_least place m low apart in hubs_from m (place + 1) nodes links rest past (omega (arith, high))))

-- each node has one router or bridge
pub one_hub : (m : ℕ) (nodes : List PlainNode) (links : List PlainLink) → m < length nodes → count_by (hub_at m) (names (parties_from 0 nodes links ++ links_from 0 links)) ≡ 1
one_hub m nodes links low = let r = hubs_from m 0 nodes links (links_from 0 links) (omega arith) (omega (arith, low)) in let z = hubs_links m 0 links in omega (arith, r, z)

-- a party of a node is its router or bridge, or has passes split off
part_or_hub : (m : ℕ) (w : Who) → cond (is_node m (node_of w)) 1 0 ≡ cond (parts_at m w) 1 0 + cond (hub_at m w) 1 0
part_or_hub m (who.Router n) = omega arith
part_or_hub m (who.Bridge n) = omega arith
part_or_hub m (who.Iface n k) = omega arith
part_or_hub m (who.App n k) = omega arith
part_or_hub m (who.Link k) = refl

pub of_node : (m : ℕ) (ws : List Who) → count_by (λ w. is_node m (node_of w)) ws ≡ count_by (parts_at m) ws + count_by (hub_at m) ws
of_node m [] = refl
of_node m (w ∷ ws) =
    let a = sum_by-cons (λ v. cond (is_node m (node_of v)) 1 0) w ws in
    let b = sum_by-cons (λ v. cond (parts_at m v) 1 0) w ws in
    let c = sum_by-cons (λ v. cond (hub_at m v) 1 0) w ws in
    let d = part_or_hub m w in
    let e = of_node m ws in
    omega (arith, a, b, c, d, e)

home_node : (m : ℕ) (home : Option PlainHome) → is_home m home ≡ is_node m (option_map (λ (h : PlainHome). h.node) home)
home_node m None = refl
home_node m (Some h) = refl

-- the posts with a home there are the parties of the node
pub at_home : (m : ℕ) (ws : List Who) (posts : List PlainPost) → AllZip (λ (w : Who) (s : PlainPost). option_map (λ (h : PlainHome). h.node) s.ends.home ≡ node_of w) ws posts
    → count_by (λ (s : PlainPost). is_home m s.ends.home) posts ≡ count_by (λ w. is_node m (node_of w)) ws
at_home m [] [] h = refl
at_home m (w ∷ ws) (s ∷ posts) h =
    sum_by-cons (λ (t : PlainPost). cond (is_home m t.ends.home) 1 0) s posts
    ∙ (λ i. cond ((home_node m s.ends.home ∙ ap (is_node m) h.0) i) 1 0 + at_home m ws posts h.1 i)
    ∙ sym (sum_by-cons (λ v. cond (is_node m (node_of v)) 1 0) w ws)
at_home m [] (s ∷ posts) h = absurd h
at_home m (w ∷ ws) [] h = absurd h

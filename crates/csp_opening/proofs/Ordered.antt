-- The routers and bridges among the parties come in the order of their nodes.
use Rattle.std.proofs.Common.{◌≡◌, ◌+◌, ℕ, zero, suc, List, [], ◌∷◌, ◌++◌, Option, None, Some, drop, map, refl, sym, ap, ◌∙◌, subst, arith}
use Rattle.std.specs.Prelude.{⊤, slice_get}
use Rattle.std.specs.Option.{option_map}
use Rattle.std.proofs.lemmas.List.{append_assoc}
use Rattle.csp_ends.specs.Ends.{PlainHome}
use Rattle.csp_opening.specs.Handed.{handed_from}
use Rattle.csp_opening.specs.Parted.{first_home, home_with, lead_home, leads_past, others}
use Rattle.csp_opening.specs.Posted.{CanPost, CanPostFrom, ends_with, post_with, posts_from}
use Rattle.csp_opening.specs.declared.homes.Lead.{Lead}
use Rattle.csp_opening.specs.declared.lanes.Pair.{Pair}
use Rattle.csp_opening.specs.declared.unposted.Unposted.{Unposted}
use Rattle.csp_posts.specs.Seen.{SeenPost}
use Rattle.csp_log.specs.declared.who.Who.{Who}
use Rattle.csp_log.specs.declared.who.Who.TheVariants as who
use Rattle.csp_scene.specs.Links.{links_at}
use Rattle.csp_scene.specs.Scene.{PlainApp, PlainLink, PlainNode}
use Rattle.csp_topology.specs.Parties.{PlainOpening, apps_from, leader_opening, ifaces_from, links_from, parties_from}

-- the next router or bridge is that of this node, and so on
abbrev pub InOrder : ℕ → List Who → Type 0
InOrder n [] = ⊤
InOrder n (who.Router m ∷ ws) = (m ≡ n) × InOrder (n + 1) ws
InOrder n (who.Bridge m ∷ ws) = (m ≡ n) × InOrder (n + 1) ws
InOrder n (who.Iface m k ∷ ws) = InOrder n ws
InOrder n (who.App m k ∷ ws) = InOrder n ws
InOrder n (who.Link k ∷ ws) = InOrder n ws

-- names of parties
abbrev pub names : List PlainOpening → List Who
names os = map (λ (o : PlainOpening). o.who) os

order_links : (n number : ℕ) (links : List PlainLink) → InOrder n (names (links_from number links))
order_links n number [] = tt
order_links n number (l ∷ links) = order_links n (number + 1) links

order_apps : (n place number : ℕ) (apps : List PlainApp) (rest : List PlainOpening) → InOrder n (names rest) → InOrder n (names (apps_from place number apps ++ rest))
order_apps n place number [] rest h = h
order_apps n place number (a ∷ apps) rest h = order_apps n place (number + 1) apps rest h

order_ifaces : (n place : ℕ) (addr : Option ℕ) (number : ℕ) (links : List PlainLink) (rest : List PlainOpening) → InOrder n (names rest) → InOrder n (names (ifaces_from place addr number links ++ rest))
order_ifaces n place addr number [] rest h = h
order_ifaces n place addr number (l ∷ links) rest h = order_ifaces n place addr (number + 1) links rest h

order_hub : (addr : Option ℕ) (place : ℕ) (n : PlainNode) (links : List PlainLink) (rest : List PlainOpening) → InOrder (place + 1) (names rest) → InOrder place (names (leader_opening addr place n links ∷ rest))
order_hub (Some a) place n links rest h = (refl, h)
order_hub None place n links rest h = (refl, h)

order_nodes : (place : ℕ) (nodes : List PlainNode) (links : List PlainLink) (rest : List PlainOpening) → ((k : ℕ) → InOrder k (names rest)) → InOrder place (names (parties_from place nodes links ++ rest))
order_nodes place [] links rest h = h place
order_nodes place (n ∷ nodes) links rest h =
    let here = links_at place links in
    let more = parties_from (place + 1) nodes links ++ rest in
    subst (λ os. InOrder place (names os)) (sym (three (leader_opening n.addr place n here) (ifaces_from place n.addr 0 here) (apps_from place 0 n.apps) (parties_from (place + 1) nodes links) rest))
    (order_hub n.addr place n here (ifaces_from place n.addr 0 here ++ (apps_from place 0 n.apps ++ more))
    (order_ifaces (place + 1) place n.addr 0 here (apps_from place 0 n.apps ++ more) (order_apps (place + 1) place 0 n.apps more (order_nodes (place + 1) nodes links rest h)))) where
      three : (x : PlainOpening) (a b c d : List PlainOpening) → ((x ∷ (a ++ b)) ++ c) ++ d ≡ x ∷ (a ++ (b ++ (c ++ d)))
      three x a b c d = ap (λ xs. x ∷ xs) (append_assoc (a ++ b) c d ∙ append_assoc a b (c ++ d))

pub parties_in_order : (nodes : List PlainNode) (links : List PlainLink) → InOrder 0 (names (parties_from 0 nodes links ++ links_from 0 links))
parties_in_order nodes links = order_nodes 0 nodes links (links_from 0 links) (λ k. order_links k 0 links)

-- the home of a party, where the passes of all nodes are there at once
abbrev pub home_in : List Lead → Who → Option PlainHome → Option PlainHome
home_in leads (who.Router m) home = option_map (lead_home m) (slice_get leads m)
home_in leads (who.Bridge m) home = option_map (lead_home m) (slice_get leads m)
home_in leads (who.Iface m k) home = home
home_in leads (who.App m k) home = home
home_in leads (who.Link k) home = home

first_is : (leads : List Lead) (n m : ℕ) → m ≡ n → first_home m (drop n leads) ≡ option_map (lead_home m) (slice_get leads m)
first_is leads n m same = ap (λ k. first_home m (drop k leads)) (sym same) ∙ by leads m m where
  by : (xs : List Lead) (k j : ℕ) → first_home j (drop k xs) ≡ option_map (lead_home j) (slice_get xs k)
  by [] zero j = refl
  by [] (suc k) j = refl
  by (x ∷ xs) zero j = refl
  by (x ∷ xs) (suc k) j = by xs k j

others_are : (leads : List Lead) (n : ℕ) → others (drop n leads) ≡ drop (n + 1) leads
others_are leads n = (let same : suc n ≡ n + 1 = omega arith in by leads n ∙ ap (λ k. drop k leads) same) where
  by : (xs : List Lead) (k : ℕ) → others (drop k xs) ≡ drop (suc k) xs
  by [] zero = refl
  by [] (suc k) = refl
  by (x ∷ xs) zero = refl
  by (x ∷ xs) (suc k) = by xs k

-- parties as posts, with the passes of all nodes there at once
abbrev pub plain_posts : ℕ → List (List Pair) → List Lead → List Unposted → List (Option PlainHome) → List SeenPost
plain_posts p ends leads [] homes = []
plain_posts p ends leads (s ∷ unposted) [] = []
plain_posts p ends leads (s ∷ unposted) (h ∷ homes) = post_with s (ends_with (home_in leads s.who h) (handed_from p 0 ends)) ∷ plain_posts (p + 1) ends leads unposted homes

-- each may have its ends so
abbrev pub CanPostPlain : ℕ → List (List Pair) → List Lead → List Unposted → List (Option PlainHome) → Type 0
CanPostPlain p ends leads [] [] = ⊤
CanPostPlain p ends leads (s ∷ unposted) (h ∷ homes) = CanPost s (ends_with (home_in leads s.who h) (handed_from p 0 ends)) × CanPostPlain (p + 1) ends leads unposted homes
CanPostPlain _ _ _ _ _ = ⊥

-- what the order is for one party
record IsInTurn (leads : List Lead) (n : ℕ) (w : Who) (ws : List Who) : Type 0 where
  next : ℕ
  home : (h : Option PlainHome) → home_with (drop n leads) w h ≡ home_in leads w h
  left : leads_past (drop n leads) w ≡ drop next leads
  order : InOrder next ws

in_turn : (leads : List Lead) (n : ℕ) (w : Who) (ws : List Who) → InOrder n (w ∷ ws) → IsInTurn leads n w ws
in_turn leads n (who.Router m) ws h = record { next = n + 1; home = λ x. first_is leads n m h.0; left = others_are leads n; order = h.1 }
in_turn leads n (who.Bridge m) ws h = record { next = n + 1; home = λ x. first_is leads n m h.0; left = others_are leads n; order = h.1 }
in_turn leads n (who.Iface m k) ws h = record { next = n; home = λ x. refl; left = refl; order = h }
in_turn leads n (who.App m k) ws h = record { next = n; home = λ x. refl; left = refl; order = h }
in_turn leads n (who.Link k) ws h = record { next = n; home = λ x. refl; left = refl; order = h }

posts_plain_at : (p n : ℕ) (ends : List (List Pair)) (leads : List Lead) (unposted : List Unposted) (homes : List (Option PlainHome)) → InOrder n (map (λ (s : Unposted). s.who) unposted)
    → posts_from p ends (drop n leads) unposted homes ≡ plain_posts p ends leads unposted homes
posts_plain_at p n ends leads [] homes h = refl
posts_plain_at p n ends leads (s ∷ unposted) [] h = refl
posts_plain_at p n ends leads (s ∷ unposted) (x ∷ homes) h =
    let t = in_turn leads n s.who (map (λ (r : Unposted). r.who) unposted) h in
    (λ i. post_with s (ends_with (t.home x i) (handed_from p 0 ends)) ∷ posts_from (p + 1) ends (t.left i) unposted homes)
    ∙ ap (λ ps. post_with s (ends_with (home_in leads s.who x) (handed_from p 0 ends)) ∷ ps) (posts_plain_at (p + 1) t.next ends leads unposted homes t.order)

pub posts_plain : (ends : List (List Pair)) (leads : List Lead) (unposted : List Unposted) (homes : List (Option PlainHome)) → InOrder 0 (map (λ (s : Unposted). s.who) unposted) → posts_from 0 ends leads unposted homes ≡ plain_posts 0 ends leads unposted homes
posts_plain ends leads unposted homes h = posts_plain_at 0 0 ends leads unposted homes h

can_plain_at : (p n : ℕ) (ends : List (List Pair)) (leads : List Lead) (unposted : List Unposted) (homes : List (Option PlainHome)) → InOrder n (map (λ (s : Unposted). s.who) unposted) → CanPostPlain p ends leads unposted homes
    → CanPostFrom p ends (drop n leads) unposted homes
can_plain_at p n ends leads [] [] h can = tt
can_plain_at p n ends leads (s ∷ unposted) (x ∷ homes) h can =
    let t = in_turn leads n s.who (map (λ (r : Unposted). r.who) unposted) h in (
      subst (λ o. CanPost s (ends_with o (handed_from p 0 ends))) (sym (t.home x)) can.0,
      subst (λ ls. CanPostFrom (p + 1) ends ls unposted homes) (sym t.left) (can_plain_at (p + 1) t.next ends leads unposted homes t.order can.1),
    )
can_plain_at p n ends leads [] (x ∷ homes) h can = absurd can
can_plain_at p n ends leads (s ∷ unposted) [] h can = absurd can

pub can_plain : (ends : List (List Pair)) (leads : List Lead) (unposted : List Unposted) (homes : List (Option PlainHome)) → InOrder 0 (map (λ (s : Unposted). s.who) unposted) → CanPostPlain 0 ends leads unposted homes → CanPostFrom 0 ends leads unposted homes
can_plain ends leads unposted homes h can = can_plain_at 0 0 ends leads unposted homes h can

-- What stays true as nodes, links, applications and faults come.
use Rattle.std.proofs.Common.{◌≡◌, ℕ, ◌+◌, ◌≤◌, ◌<◌, Bool, true, false, cond, eqb, ◌||◌, List, [], ◌∷◌, ◌++◌, length, set, Option, Some, None, IfSome, zero, suc, arith, refl, ap, sym, subst, ◌∙◌, append_assoc, length-append}
use Rattle.std.specs.List.{AllByRecursion, slice_get, list_any}
use Rattle.std.proofs.lemmas.List.Elements.{filter-append, All-push}
use Rattle.std.proofs.lemmas.Bool.{eq-eqb}
use Rattle.std.proofs.Math.Bool.{or-true}
use Rattle.csp_link.specs.declared.fault.Fault.{Fault}
use Rattle.csp_log.specs.declared.places.End.{End}
use Rattle.csp_log.specs.declared.who.Who.{Who}
use Rattle.csp_log.specs.declared.who.Who.TheVariants as who
use Rattle.csp_scene.specs.declared.scenario.Move.{Move}
use Rattle.csp_scene.specs.declared.scenario.Move.TheVariants as move
use Rattle.csp_scene.specs.Scene.{PlainNode, PlainLink, PlainSchedule, in_rounds, shuffled, stepwise}
use Rattle.csp_scene.specs.Links.{touches, links_at, node_at}
use Rattle.csp_scene.specs.Ranges.{HasEnds, IsPlanned, IsEnd, IsLink, IsMove, IsParty, IsSchedule}
use Rattle.csp_scene.specs.Faults.{with_fault, link_at}
use Rattle.csp_scene.specs.Kept.{IsEndAfter, IsLinkAfter, AreLinksAfter}
use Rattle.csp_scene.proofs.Lists.{AllByRecursion-map, slice_get-seam}

-- a node has no fewer links with one more link
pub links_at-push : (place : ℕ) (links : List PlainLink) (link : PlainLink) → length (links_at place (links ++ link ∷ [])) ≡ length (links_at place links) + length (links_at place (link ∷ []))
links_at-push place links link = ap length (filter-append (touches place) links (link ∷ [])) ∙ length-append (links_at place links) (links_at place (link ∷ []))

-- a node has no more links than there are
pub links_few : (place : ℕ) (links : List PlainLink) → length (links_at place links) ≤ length links
links_few place [] = omega arith
links_few place (link ∷ links) = by_test (touches place link) (links_few place links)
  where
    by_test : (test : Bool) → length (links_at place links) ≤ length links → length (cond test (link ∷ links_at place links) (links_at place links)) ≤ length (link ∷ links)
    by_test true few = omega (arith, few)
    by_test false few = omega (arith, few)

-- scenes of which the second has all that the first has
pub record Grows (nodes : List PlainNode) (links : List PlainLink) (then_nodes : List PlainNode) (then_links : List PlainLink) : Type 0 where
  pub more_nodes : length nodes ≤ length then_nodes
  pub addrs : (place : ℕ) → place < length nodes → (node_at nodes place).addr ≡ (node_at then_nodes place).addr
  pub more_apps : (place : ℕ) → length (node_at nodes place).apps ≤ length (node_at then_nodes place).apps
  pub more_ifaces : (place : ℕ) → length (links_at place links) ≤ length (links_at place then_links)
  pub more_links : length links ≤ length then_links

IsParty-grows : (nodes : List PlainNode) (links : List PlainLink) (more_nodes : List PlainNode) (more_links : List PlainLink) → Grows nodes links more_nodes more_links → (party : Who) → IsParty nodes links party → IsParty more_nodes more_links party
IsParty-grows nodes links more_nodes more_links grows (who.Router node) is = (omega (arith, grows.more_nodes, is.0), λ none. is.1 (grows.addrs node is.0 ∙ none))
IsParty-grows nodes links more_nodes more_links grows (who.Bridge node) is = (omega (arith, grows.more_nodes, is.0), sym (grows.addrs node is.0) ∙ is.1)
IsParty-grows nodes links more_nodes more_links grows (who.Iface node iface) is = (omega (arith, grows.more_nodes, is.0), omega (arith, grows.more_ifaces node, is.1))
IsParty-grows nodes links more_nodes more_links grows (who.App node app) is = (omega (arith, grows.more_nodes, is.0), omega (arith, grows.more_apps node, is.1))
IsParty-grows nodes links more_nodes more_links grows (who.Link link) is = omega (arith, grows.more_links, is)

IsMove-grows : (nodes : List PlainNode) (links : List PlainLink) (more_nodes : List PlainNode) (more_links : List PlainLink) → Grows nodes links more_nodes more_links → (one : Move) → IsMove nodes links one → IsMove more_nodes more_links one
IsMove-grows nodes links more_nodes more_links grows (move.Turn party) is = IsParty-grows nodes links more_nodes more_links grows party is
IsMove-grows nodes links more_nodes more_links grows move.Tick is = tt

IsSchedule-grows : (nodes : List PlainNode) (links : List PlainLink) (more_nodes : List PlainNode) (more_links : List PlainLink) → Grows nodes links more_nodes more_links → (schedule : PlainSchedule) → IsSchedule nodes links schedule → IsSchedule more_nodes more_links schedule
IsSchedule-grows nodes links more_nodes more_links grows in_rounds is = tt
IsSchedule-grows nodes links more_nodes more_links grows (shuffled seed) is = is
IsSchedule-grows nodes links more_nodes more_links grows (stepwise moves) is =
    AllByRecursion-map (IsMove nodes links) (IsMove more_nodes more_links) moves (IsMove-grows nodes links more_nodes more_links grows) is

pub schedule_grows : (nodes : List PlainNode) (links : List PlainLink) (more_nodes : List PlainNode) (more_links : List PlainLink) (schedule : Option PlainSchedule) → Grows nodes links more_nodes more_links → IfSome schedule (IsSchedule nodes links) → IfSome schedule (IsSchedule more_nodes more_links)
schedule_grows nodes links more_nodes more_links None grows is = tt
schedule_grows nodes links more_nodes more_links (Some schedule) grows is = IsSchedule-grows nodes links more_nodes more_links grows schedule is

-- lists of links of which each node has as many
abbrev pub AreAlike : List PlainLink → List PlainLink → Type 0
AreAlike links others = (place : ℕ) → length (links_at place links) ≡ length (links_at place others)

end_alike : (nodes more : ℕ) (earlier others : List PlainLink) (end : End) → nodes ≤ more → AreAlike earlier others → IsEndAfter nodes earlier end → IsEndAfter more others end
end_alike nodes more earlier others end grown alike is = record { node = omega (arith, is.node); iface = is.iface ∙ alike end.node }

link_alike : (nodes more : ℕ) (earlier others : List PlainLink) (link : PlainLink) → nodes ≤ more → AreAlike earlier others → IsLinkAfter nodes earlier link → IsLinkAfter more others link
link_alike nodes more earlier others link grown alike is = record {
  name = is.name;
  mtu = is.mtu;
  shape = is.shape;
  ends = AllByRecursion-map (IsEndAfter nodes earlier) (IsEndAfter more others) link.ends (λ end. end_alike nodes more earlier others end grown alike) is.ends;
  plan = is.plan;
}

-- the same links with another one after each of the two lists
alike_push : (earlier others : List PlainLink) (link other : PlainLink) → AreAlike earlier others → AreAlike (link ∷ []) (other ∷ []) → AreAlike (earlier ++ link ∷ []) (others ++ other ∷ [])
alike_push earlier others link other alike same place =
    omega (arith, links_at-push place earlier link, links_at-push place others other, alike place, same place)

pub links_alike : (nodes more : ℕ) (earlier others links : List PlainLink) → nodes ≤ more → AreAlike earlier others → AreLinksAfter nodes earlier links → AreLinksAfter more others links
links_alike nodes more earlier others [] grown alike are = tt
links_alike nodes more earlier others (link ∷ links) grown alike are =
    (link_alike nodes more earlier others link grown alike are.0, links_alike nodes more (earlier ++ link ∷ []) (others ++ link ∷ []) links grown (alike_push earlier others link link alike (λ place. refl)) are.1)

-- one more link at the end
pub links_push : (nodes : ℕ) (earlier links : List PlainLink) (link : PlainLink) → AreLinksAfter nodes earlier links → IsLinkAfter nodes (earlier ++ links) link → AreLinksAfter nodes earlier (links ++ link ∷ [])
links_push nodes earlier [] link are is = (subst (λ (before : List PlainLink). IsLinkAfter nodes before link) (append_none earlier) is, tt)
  where
    append_none : (xs : List PlainLink) → xs ++ [] ≡ xs
    append_none [] = refl
    append_none (x ∷ xs) = ap (λ rest. x ∷ rest) (append_none xs)
links_push nodes earlier (first ∷ links) link are is =
    (are.0, links_push nodes (earlier ++ first ∷ []) links link are.1 (subst (λ (before : List PlainLink). IsLinkAfter nodes before link) (sym (append_assoc earlier (first ∷ []) links)) is))

-- one more fault of a link
fault_link : (nodes : ℕ) (earlier : List PlainLink) (link : PlainLink) (fault : Fault) → IsLinkAfter nodes earlier link → IsPlanned (length link.ends) fault → IsLinkAfter nodes earlier (with_fault fault link)
fault_link nodes earlier link fault is planned = record {
  name = is.name;
  mtu = is.mtu;
  shape = record { least = is.shape.least; most = is.shape.most; pair = is.shape.pair; bus = is.shape.bus; apart = is.shape.apart };
  ends = is.ends;
  plan = All-push (IsPlanned (length link.ends)) link.plan fault is.plan planned;
}

alike_fault : (link : PlainLink) (fault : Fault) → AreAlike (link ∷ []) (with_fault fault link ∷ [])
alike_fault link fault place = by_test (touches place link)
  where
    by_test : (test : Bool) → length (cond test (link ∷ []) []) ≡ length (cond test (with_fault fault link ∷ []) [])
    by_test true = refl
    by_test false = refl

pub links_fault : (nodes : ℕ) (earlier others links : List PlainLink) (place : ℕ) (fault : Fault) → AreAlike earlier others → AreLinksAfter nodes earlier links → place < length links → IsPlanned (length (link_at links place).ends) fault → AreLinksAfter nodes others (set links place (with_fault fault (link_at links place)))
links_fault nodes earlier others [] place fault alike are within planned = tt
links_fault nodes earlier others (link ∷ links) zero fault alike are within planned = (
  fault_link nodes others link fault (link_alike nodes nodes earlier others link (omega arith) alike are.0) planned,
  links_alike nodes nodes (earlier ++ link ∷ []) (others ++ with_fault fault link ∷ []) links (omega arith) (alike_push earlier others link (with_fault fault link) alike (alike_fault link fault)) are.1,
)
links_fault nodes earlier others (link ∷ links) (suc place) fault alike are within planned = (
  link_alike nodes nodes earlier others link (omega arith) alike are.0,
  links_fault nodes (earlier ++ link ∷ []) (others ++ link ∷ []) links place fault (alike_push earlier others link link alike (λ p. refl)) are.1 (omega arith) planned,
)

-- the ends of a link that stands after earlier ones
pub link_shape : (nodes : ℕ) (earlier links : List PlainLink) (place : ℕ) → AreLinksAfter nodes earlier links → place < length links → HasEnds (link_at links place)
link_shape nodes earlier [] place are within = absurd (omega (arith, within))
link_shape nodes earlier (link ∷ links) zero are within = are.0.shape
link_shape nodes earlier (link ∷ links) (suc place) are within = link_shape nodes (earlier ++ link ∷ []) links place are.1 (omega (arith, within))

-- a node has as many links after a fault more
pub alike_set : (links : List PlainLink) (place : ℕ) (fault : Fault) → AreAlike links (set links place (with_fault fault (link_at links place)))
alike_set [] place fault at = refl
alike_set (link ∷ links) zero fault at = by_test (touches at link)
  where
    by_test : (test : Bool) → length (cond test (link ∷ links_at at links) (links_at at links)) ≡ length (cond test (with_fault fault link ∷ links_at at links) (links_at at links))
    by_test true = refl
    by_test false = refl
alike_set (link ∷ links) (suc place) fault at = by_test (touches at link) (alike_set links place fault at)
  where
    rest : List PlainLink
    rest = set links place (with_fault fault (link_at links place))

    by_test : (test : Bool) → length (links_at at links) ≡ length (links_at at rest) → length (cond test (link ∷ links_at at links) (links_at at links)) ≡ length (cond test (link ∷ links_at at rest) (links_at at rest))
    by_test true e = omega (arith, e)
    by_test false e = e

-- the link of an end stands at its interface's number among the links of its node
end_stands : (nodes : List PlainNode) (earlier rest : List PlainLink) (link : PlainLink) (end : End) → IsEndAfter (length nodes) earlier end → touches end.node link ≡ true → IsEnd nodes (earlier ++ link ∷ rest) link end
end_stands nodes earlier rest link end is touched = record {
  node = is.node;
  iface = subst (λ (links : List PlainLink). slice_get links end.iface ≡ Some link) (sym split) (slice_get-seam (links_at end.node earlier) link (links_at end.node rest) end.iface is.iface);
}
  where
    split : links_at end.node (earlier ++ link ∷ rest) ≡ links_at end.node earlier ++ link ∷ links_at end.node rest
    split = filter-append (touches end.node) earlier (link ∷ rest) ∙ ap (λ test. links_at end.node earlier ++ cond test (link ∷ links_at end.node rest) (links_at end.node rest)) touched

-- a link touches the node of each of its ends
end_touches : (before after : List End) (end : End) → list_any (λ (other : End). eqb other.node end.node) (before ++ end ∷ after) ≡ true
end_touches [] after end = ap (λ b. b || list_any (λ (other : End). eqb other.node end.node) after) (eq-eqb end.node end.node refl)
end_touches (first ∷ before) after end = ap (λ b. eqb first.node end.node || b) (end_touches before after end) ∙ or-true (eqb first.node end.node)

ends_stand : (nodes : List PlainNode) (earlier rest : List PlainLink) (link : PlainLink) (before after : List End) → link.ends ≡ before ++ after → AllByRecursion (IsEndAfter (length nodes) earlier) after → AllByRecursion (IsEnd nodes (earlier ++ link ∷ rest) link) after
ends_stand nodes earlier rest link before [] e are = tt
ends_stand nodes earlier rest link before (end ∷ after) e are = (
  end_stands nodes earlier rest link end are.0 (ap (λ ends. list_any (λ (other : End). eqb other.node end.node) ends) e ∙ end_touches before after end),
  ends_stand nodes earlier rest link (before ++ end ∷ []) after (e ∙ sym (append_assoc before (end ∷ []) after)) are.1,
)

pub links_stand : (nodes : List PlainNode) (earlier rest : List PlainLink) (whole : List PlainLink) → whole ≡ earlier ++ rest → AreLinksAfter (length nodes) earlier rest → AllByRecursion (IsLink nodes whole) rest
links_stand nodes earlier [] whole e are = tt
links_stand nodes earlier (link ∷ rest) whole e are =
    let is = are.0 in
    let here : IsLink nodes (earlier ++ link ∷ rest) link = record {
      name = is.name;
      mtu = is.mtu;
      shape = is.shape;
      ends = ends_stand nodes earlier rest link [] link.ends refl is.ends;
      plan = is.plan;
    } in (
      subst (λ (links : List PlainLink). IsLink nodes links link) (sym e) here,
      links_stand nodes (earlier ++ link ∷ []) rest whole (e ∙ sym (append_assoc earlier (link ∷ []) rest)) are.1,
    )

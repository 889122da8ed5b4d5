-- The nodes and the links of a scene, one by one.
use Rattle.std.proofs.Common.{◌≡◌, ℕ, zero, suc, ◌+◌, ◌<◌, Bool, true, false, cond, nat_lt, List, [], ◌∷◌, Option, Some, None, length, map, option_map, refl, ap, ◌∙◌, arith, slice_get}
use Rattle.std.specs.List.{AllByRecursion}
use Rattle.std.specs.Option.{option_and_then}
use Rattle.std.proofs.lemmas.Bool.{ltb-true}
use Rattle.std.proofs.lemmas.List.FromFn.{length-map-range_with_len}
use Rattle.std.proofs.lemmas.Option.{slice_get-map}
use Rattle.csp_consistent.proofs.Public.{each_at}
use Rattle.csp_hub.specs.PlainHub as hub
use Rattle.csp_link.specs.PlainLink as link
use Rattle.csp_log.specs.Kinds.{carried_on}
use Rattle.csp_lists.specs.PlainDeck.{PlainDeck, rule_of}
use Rattle.csp_log.specs.declared.places.Carries.TheVariants as lane
use Rattle.csp_log.specs.declared.places.End.{End}
use Rattle.csp_log.specs.declared.places.LinkKind.{LinkKind}
use Rattle.csp_log.specs.declared.places.LinkKind.TheVariants as kind
use Rattle.csp_log.specs.declared.places.QueueId.{QueueId}
use Rattle.csp_log.specs.declared.places.QueueId.TheVariants as queue
use Rattle.csp_log.specs.declared.places.Rule.{Rule}
use Rattle.csp_log.specs.declared.places.Rule.TheVariants as rule
use Rattle.csp_nodes.specs.Serving.{at_end, of_frames, rule_there}
use Rattle.csp_party.specs.Any.{PlainParty, a_hub, a_link, uses}
use Rattle.csp_scene.specs.Links.{links_at}
use Rattle.csp_scene.specs.Ranges.{IsEnd, IsLink}
use Rattle.csp_scene.specs.Scene.{PlainNode, PlainLink}
use Rattle.csp_topology.specs.Plan.{plan_of, plans_from}
use Rattle.csp_world.proofs.OpeningRules.{Stands, tx_rule, rx_rule}
use Rattle.csp_world.specs.Opening.{CanJoin, deck_of, opened_deck}

-- the lists of the node at a place
plan_from : (place : ℕ) (nodes : List PlainNode) (links : List PlainLink) (k j : ℕ) (n : PlainNode) → slice_get nodes k ≡ Some n → j ≡ place + k → slice_get (plans_from place nodes links) k ≡ Some (plan_of n (links_at j links))
plan_from place [] links k j n e same = absurd cc
plan_from place (x ∷ nodes) links zero j n e same = ap (λ (i : ℕ). Some (plan_of x (links_at i links))) (omega (arith, same)) ∙ ap (option_map (λ (y : PlainNode). plan_of y (links_at j links))) e
plan_from place (x ∷ nodes) links (suc k) j n e same = plan_from (place + 1) nodes links k j n e (omega (arith, same))

pub deck_there : (nodes : List PlainNode) (links : List PlainLink) (k : ℕ) (n : PlainNode) → slice_get nodes k ≡ Some n → slice_get (map deck_of (plans_from 0 nodes links)) k ≡ Some (opened_deck n (links_at k links))
deck_there nodes links k n e = slice_get-map deck_of (plans_from 0 nodes links) k ∙ ap (option_map deck_of) (plan_from 0 nodes links k k n e (omega arith))

-- what is there at a place
pub one_there : {X : Type 0} (xs : List X) (k : ℕ) → k < length xs → (x : X) × (slice_get xs k ≡ Some x)
one_there [] k low = absurd (omega (arith, low))
one_there (x ∷ xs) zero low = (x, refl)
one_there (x ∷ xs) (suc k) low = one_there xs k (omega (arith, low))

-- the rules of a link's lanes are those of frames
frames : (k : LinkKind) → of_frames (rule.Lane (carried_on k)) ≡ Some (rule.Lane (carried_on k))
frames kind.Kiss = refl
frames kind.KissHeader = refl
frames kind.Can = refl

-- at each end of a link the node there has its lanes
tx_there : Stands → (nodes : List PlainNode) (links : List PlainLink) (l : PlainLink) (end : End) → IsEnd nodes links l end
    → option_and_then of_frames (rule_there (map deck_of (plans_from 0 nodes links)) (Some (end.node, queue.Tx end.iface))) ≡ Some (rule.Lane (carried_on l.kind))
tx_there stands nodes links l end is =
    let there = one_there nodes end.node is.node in
    ap (λ (o : Option PlainDeck). option_and_then of_frames (option_and_then (λ (d : PlainDeck). rule_of d (queue.Tx end.iface)) o)) (deck_there nodes links end.node there.0 there.1)
    ∙ ap (option_and_then of_frames) (tx_rule stands there.0 (links_at end.node links) end.iface l is.iface)
    ∙ frames l.kind

rx_there : Stands → (nodes : List PlainNode) (links : List PlainLink) (l : PlainLink) (end : End) → IsEnd nodes links l end
    → option_and_then of_frames (rule_there (map deck_of (plans_from 0 nodes links)) (Some (end.node, queue.Rx end.iface))) ≡ Some (rule.Lane (carried_on l.kind))
rx_there stands nodes links l end is =
    let there = one_there nodes end.node is.node in
    ap (λ (o : Option PlainDeck). option_and_then of_frames (option_and_then (λ (d : PlainDeck). rule_of d (queue.Rx end.iface)) o)) (deck_there nodes links end.node there.0 there.1)
    ∙ ap (option_and_then of_frames) (rx_rule stands there.0 (links_at end.node links) end.iface l is.iface)
    ∙ frames l.kind

-- a lane that is there is that of an end
within_some : (s r : Rule) (k count : ℕ) (within : Bool) → nat_lt k count ≡ within → cond within (Some s) None ≡ Some r → (k < count) × (Some s ≡ Some r)
within_some s r k count true h e = (ltb-true k count h, e)
within_some s r k count false h e = absurd cc

-- so each link of a scene can be opened over the lists of its nodes
can_join : Stands → (nodes : List PlainNode) (links : List PlainLink) (l : PlainLink) → IsLink nodes links l → CanJoin (map deck_of (plans_from 0 nodes links)) l
can_join stands nodes links l is = record {
  plan = λ k f low. (is.plan k f low).fault;
  lanes = by l.hub refl;
} where
  opened : Bool → PlainParty
  opened b = cond b (a_hub (hub.opening (length l.ends) l.plan)) (a_link (link.opening l.kind l.plan))

  seen : QueueId → Option Rule
  seen q = option_and_then of_frames (rule_there (map deck_of (plans_from 0 nodes links)) (at_end l.ends q))

  tx : (k : ℕ) → k < length l.ends → seen (queue.Tx k) ≡ Some (rule.Lane (carried_on l.kind))
  tx k low =
      let (x, at) = one_there l.ends k low in
      ap (λ (o : Option End). option_and_then of_frames (rule_there (map deck_of (plans_from 0 nodes links)) (option_map (λ (e : End). (e.node, queue.Tx e.iface)) o))) at
      ∙ tx_there stands nodes links l x (each_at (IsEnd nodes links l) l.ends k x is.ends at)

  rx : (k : ℕ) → k < length l.ends → seen (queue.Rx k) ≡ Some (rule.Lane (carried_on l.kind))
  rx k low =
      let (x, at) = one_there l.ends k low in
      ap (λ (o : Option End). option_and_then of_frames (rule_there (map deck_of (plans_from 0 nodes links)) (option_map (λ (e : End). (e.node, queue.Rx e.iface)) o))) at
      ∙ rx_there stands nodes links l x (each_at (IsEnd nodes links l) l.ends k x is.ends at)

  bus : l.hub ≡ true → Some (rule.Lane (carried_on l.kind)) ≡ Some (rule.Lane lane.Can)
  bus e = ap (λ (k : LinkKind). Some (rule.Lane (carried_on k))) (is.shape.bus e).0

  many : length (hub.opening (length l.ends) l.plan).ends ≡ length l.ends
  many = length-map-range_with_len (hub.opening_end l.plan) 0 (length l.ends)

  by : (b : Bool) → l.hub ≡ b → (q : QueueId) (r : Rule) → uses (opened b) q ≡ Some r → seen q ≡ Some r
  by true e (queue.Tx k) r u = let (low, same) = within_some (rule.Lane lane.Can) r k (length (hub.opening (length l.ends) l.plan).ends) _ refl u in tx k (omega (arith, low, many)) ∙ bus e ∙ same
  by true e (queue.Rx k) r u = let (low, same) = within_some (rule.Lane lane.Can) r k (length (hub.opening (length l.ends) l.plan).ends) _ refl u in rx k (omega (arith, low, many)) ∙ bus e ∙ same
  by true e queue.Inbox r u = absurd cc
  by true e (queue.Up k) r u = absurd cc
  by true e (queue.Down k) r u = absurd cc
  by true e (queue.Out k) r u = absurd cc
  by false e (queue.Tx k) r u = let (low, same) = within_some (rule.Lane (carried_on l.kind)) r k 2 _ refl u in tx k (omega (arith, low, is.shape.pair e)) ∙ same
  by false e (queue.Rx k) r u = let (low, same) = within_some (rule.Lane (carried_on l.kind)) r k 2 _ refl u in rx k (omega (arith, low, is.shape.pair e)) ∙ same
  by false e queue.Inbox r u = absurd cc
  by false e (queue.Up k) r u = absurd cc
  by false e (queue.Down k) r u = absurd cc
  by false e (queue.Out k) r u = absurd cc

pub all_join : Stands → (nodes : List PlainNode) (links all : List PlainLink) → AllByRecursion (IsLink nodes links) all → AllByRecursion (CanJoin (map deck_of (plans_from 0 nodes links))) all
all_join stands nodes links [] is = tt
all_join stands nodes links (l ∷ all) is = (can_join stands nodes links l is.0, all_join stands nodes links all is.1)

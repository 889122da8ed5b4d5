-- What the lists of a node carry at its opening.
use Rattle.std.proofs.Common.{◌≡◌, ℕ, ◌<◌, zero, suc, List, [], ◌∷◌, Option, Some, None, IsSome, length, map, ap, refl, ◌∙◌, option_map, slice_get, slice_index_or}
use Rattle.std.proofs.lemmas.Bool.{lt-ltb}
use Rattle.std.proofs.lemmas.List.{length-map}
use Rattle.std.proofs.lemmas.Option.{slice_get_within}
use Rattle.csp_buffer.specs.Content.{Content}
use Rattle.csp_log.specs.Kinds.{carried_on}
use Rattle.csp_lists.specs.Order.{position_of}
use Rattle.csp_lists.specs.PlainDeck.{opening_deck, opening_queue, queue_at, rule_of, shape_of}
use Rattle.csp_log.specs.declared.places.Carries.{Carries}
use Rattle.csp_log.specs.declared.places.Carries.TheVariants as lane
use Rattle.csp_log.specs.declared.places.Place.{Place}
use Rattle.csp_log.specs.declared.places.Place.TheVariants as place
use Rattle.csp_log.specs.declared.places.QueueId.TheVariants as queue
use Rattle.csp_log.specs.declared.places.Rule.TheVariants as rule
use Rattle.csp_nodes.specs.Fresh.{fresh_buffers}
use Rattle.csp_scene.specs.Scene.{PlainNode, PlainLink}
use Rattle.csp_world.specs.Opening.{opened_deck}

-- what is promised of the lists at an opening
abbrev pub Stands : Type 0
Stands = (buffers : List Content) (inbox apps : ℕ) (ifaces : List Carries) (p : Place) → IsSome (position_of (shape_of apps ifaces) p) → queue_at (opening_deck buffers inbox apps ifaces) p ≡ Some (opening_queue inbox ifaces p)

abbrev lanes_of : List PlainLink → List Carries
lanes_of links = map (λ l. carried_on l.kind) links

-- the rules of the lanes of an application
pub up_rule : Stands → (n : PlainNode) (links : List PlainLink) (k : ℕ) → k < length n.apps → rule_of (opened_deck n links) (queue.Up k) ≡ Some (rule.Lane lane.Up)
up_rule stands n links k few = ap (option_map (λ q. q.rule)) (stands (fresh_buffers n.buffers) n.inbox (length n.apps) (lanes_of links) (place.Lane (queue.Up k)) (rw (lt-ltb k (length n.apps) few) refl))

pub down_rule : Stands → (n : PlainNode) (links : List PlainLink) (k : ℕ) → k < length n.apps → rule_of (opened_deck n links) (queue.Down k) ≡ Some (rule.Lane lane.Down)
down_rule stands n links k few = ap (option_map (λ q. q.rule)) (stands (fresh_buffers n.buffers) n.inbox (length n.apps) (lanes_of links) (place.Lane (queue.Down k)) (rw (lt-ltb k (length n.apps) few) refl))

-- and of those of an interface
as_many : (links : List PlainLink) (k : ℕ) → k < length links → k < length (lanes_of links)
as_many links k few = rw (length-map links (λ (l : PlainLink). carried_on l.kind)) few

pub out_rule : Stands → (n : PlainNode) (links : List PlainLink) (k : ℕ) → k < length links → rule_of (opened_deck n links) (queue.Out k) ≡ Some (rule.Lane lane.Out)
out_rule stands n links k few = ap (option_map (λ q. q.rule)) (stands (fresh_buffers n.buffers) n.inbox (length n.apps) (lanes_of links) (place.Lane (queue.Out k)) (rw (lt-ltb k (length (lanes_of links)) (as_many links k few)) refl))

lane_there : (links : List PlainLink) (k : ℕ) (l : PlainLink) → slice_get links k ≡ Some l → slice_index_or (lanes_of links) k lane.Kiss ≡ carried_on l.kind
lane_there [] k l e = absurd cc
lane_there (x ∷ links) zero l e = ap (λ (o : Option PlainLink). kind_or o) e where
  kind_or : Option PlainLink → Carries
  kind_or None = lane.Kiss
  kind_or (Some l) = carried_on l.kind
lane_there (x ∷ links) (suc k) l e = lane_there links k l e

pub tx_rule : Stands → (n : PlainNode) (links : List PlainLink) (k : ℕ) (l : PlainLink) → slice_get links k ≡ Some l → rule_of (opened_deck n links) (queue.Tx k) ≡ Some (rule.Lane (carried_on l.kind))
tx_rule stands n links k l at =
    ap (option_map (λ q. q.rule)) (stands (fresh_buffers n.buffers) n.inbox (length n.apps) (lanes_of links) (place.Lane (queue.Tx k)) (rw (lt-ltb k (length (lanes_of links)) (as_many links k (slice_get_within links k l at))) refl))
    ∙ ap (λ c. Some (rule.Lane c)) (lane_there links k l at)

pub rx_rule : Stands → (n : PlainNode) (links : List PlainLink) (k : ℕ) (l : PlainLink) → slice_get links k ≡ Some l → rule_of (opened_deck n links) (queue.Rx k) ≡ Some (rule.Lane (carried_on l.kind))
rx_rule stands n links k l at =
    ap (option_map (λ q. q.rule)) (stands (fresh_buffers n.buffers) n.inbox (length n.apps) (lanes_of links) (place.Lane (queue.Rx k)) (rw (lt-ltb k (length (lanes_of links)) (as_many links k (slice_get_within links k l at))) refl))
    ∙ ap (λ c. Some (rule.Lane c)) (lane_there links k l at)

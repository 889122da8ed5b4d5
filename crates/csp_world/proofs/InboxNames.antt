-- The names of the inbox of a node.
use Rattle.std.proofs.Common.{◌≡◌, ◌<◌, ◌≤◌, ℕ, ◌==◌, Option, None, Some, List, [], false, length, refl, ap, ◌∙◌, arith, slice_get}
use Rattle.std.specs.Prelude.{IfSome}
use Rattle.std.specs.Option.{option_and_then, option_map}
use Rattle.std.proofs.lemmas.Option.{slice_get_within}
use Rattle.csp_consistent.proofs.Public.{IsOwner}
use Rattle.csp_consistent.specs.Reading.{is_queue}
use Rattle.csp_deck.specs.Carried.{place_for}
use Rattle.csp_lists.specs.PlainDeck.{PlainDeck, pops_at}
use Rattle.csp_log.specs.declared.places.End.{End}
use Rattle.csp_log.specs.declared.places.QueueId.{QueueId}
use Rattle.csp_log.specs.declared.places.QueueId.TheVariants as queue
use Rattle.csp_log.specs.declared.places.TheConstants.{IFACES}
use Rattle.csp_log.specs.declared.shown.AnswerShown.{AnswerShown}
use Rattle.csp_log.specs.declared.shown.ItemShown.{ItemShown}
use Rattle.csp_log.specs.declared.shown.OpShown.TheVariants as op
use Rattle.csp_nodes.specs.Serving.{at_end, at_queue, goes, served}
use Rattle.csp_party.specs.Any.{PlainParty}
use Rattle.csp_log.specs.declared.who.Who.{Who}
use Rattle.csp_log.specs.declared.who.Who.TheVariants as who
use Rattle.csp_scene.specs.Links.{links_at, touches}
use Rattle.csp_scene.specs.Scene.{PlainLink, PlainNode}
use Rattle.csp_world.proofs.ContentLemmas.{if_named, is_named, popped_out, pushed_in}
use Rattle.csp_world.proofs.LaneNames.{empty_if}
use Rattle.csp_world.proofs.MovedLemmas.{got_there, put_there}
use Rattle.csp_world.proofs.OpeningLists.{filter_long}

-- a lane of a party is a lane where it is
abbrev IsElsewhere : ℕ × QueueId → Type 0
IsElsewhere s = is_queue queue.Inbox s.1 ≡ false

end_lane : (ends : List End) (r : QueueId) → IfSome (at_end ends r) IsElsewhere
end_lane ends queue.Inbox = tt
end_lane ends (queue.Up k) = tt
end_lane ends (queue.Down k) = tt
end_lane ends (queue.Out k) = tt
end_lane ends (queue.Tx k) = by (slice_get ends k) where
  by : (o : Option End) → IfSome (option_map (λ (x : End). (x.node, queue.Tx x.iface)) o) IsElsewhere
  by None = tt
  by (Some x) = refl
end_lane ends (queue.Rx k) = by (slice_get ends k) where
  by : (o : Option End) → IfSome (option_map (λ (x : End). (x.node, queue.Rx x.iface)) o) IsElsewhere
  by None = tt
  by (Some x) = refl

goes_lane : (links : List (List End)) (w : Who) (r : QueueId) → is_queue queue.Inbox r ≡ false → IfSome (goes links w r) IsElsewhere
goes_lane links (who.Router n) r lane = lane
goes_lane links (who.Bridge n) r lane = lane
goes_lane links (who.Iface n k) r lane = lane
goes_lane links (who.App n k) r lane = lane
goes_lane links (who.Link l) r lane = by (slice_get links l) where
  by : (o : Option (List End)) → IfSome (option_and_then (λ ends. at_end ends r) o) IsElsewhere
  by None = tt
  by (Some ends) = end_lane ends r

-- and no place of the inbox
lane_pushed : (r : QueueId) (i : ItemShown) (pn : ℕ) → is_queue queue.Inbox r ≡ false → is_named queue.Inbox pn (place_for r i) ≡ false
lane_pushed queue.Inbox i pn e = absurd cc
lane_pushed (queue.Up k) i pn e = refl
lane_pushed (queue.Down k) i pn e = refl
lane_pushed (queue.Out k) i pn e = refl
lane_pushed (queue.Tx k) i pn e = refl
lane_pushed (queue.Rx k) i pn e = refl

lane_popped : (d : PlainDeck) (r : QueueId) (pn : ℕ) → is_queue queue.Inbox r ≡ false → is_named queue.Inbox pn (pops_at d r) ≡ false
lane_popped d queue.Inbox pn e = absurd cc
lane_popped d (queue.Up k) pn e = refl
lane_popped d (queue.Down k) pn e = refl
lane_popped d (queue.Out k) pn e = refl
lane_popped d (queue.Tx k) pn e = refl
lane_popped d (queue.Rx k) pn e = refl

-- so nothing comes there of an operation on a lane
pub no_got_lane : (links : List (List End)) (w : Who) (r : QueueId) (pn : ℕ) (d : PlainDeck) (node : ℕ) (a : AnswerShown) → is_queue queue.Inbox r ≡ false → got_there queue.Inbox pn d node (served links w (op.Pop r)) a ≡ []
no_got_lane links w r pn d node a lane = by (goes links w r) (goes_lane links w r lane) where
  by : (there : Option (ℕ × QueueId)) → IfSome there IsElsewhere → got_there queue.Inbox pn d node (option_map (at_queue op.Pop) there) a ≡ []
  by None e = refl
  by (Some s) e = ap (λ b. if_named (s.0 == node) (if_named b (popped_out a))) (lane_popped d s.1 pn e) ∙ empty_if (s.0 == node)

pub no_put_lane : (links : List (List End)) (w : Who) (r : QueueId) (i : ItemShown) (pn node : ℕ) (a : AnswerShown) → is_queue queue.Inbox r ≡ false → put_there queue.Inbox pn node (served links w (op.Push r i)) a ≡ []
no_put_lane links w r i pn node a lane = by (goes links w r) (goes_lane links w r lane) where
  by : (there : Option (ℕ × QueueId)) → IfSome there IsElsewhere → put_there queue.Inbox pn node (option_map (at_queue (λ x. op.Push x i)) there) a ≡ []
  by None e = refl
  by (Some s) e = ap (λ b. if_named (s.0 == node) (if_named b (pushed_in i a))) (lane_pushed s.1 i pn e) ∙ empty_if (s.0 == node)

-- ---- the names of the parties of a node

-- a party of the scene, and how many links it has
pub record IsParty (nodes : List PlainNode) (links : List PlainLink) (w : Who) : Type 0 where
  pub party : PlainParty
  pub owner : IsOwner nodes links w party
  pub few : length links ≤ IFACES

-- an interface's number is no mark of none
pub iface_few : (nodes : List PlainNode) (links : List PlainLink) (n k : ℕ) → IsParty nodes links (who.Iface n k) → k < IFACES
iface_few nodes links n k is =
    let within = slice_get_within (links_at n links) k is.owner.link is.owner.on in
    let most = filter_long (touches n) links in
    let few = is.few in
    omega (arith, within, most, few)

-- Who uses the lanes at the ends of links.
use Rattle.std.proofs.Common.{◌≡◌, ◌<◌, ℕ, ◌==◌, ◌&&◌, Bool, true, false, Option, None, Some, List, [], length, refl, sym, ap, ◌∙◌}
use Rattle.std.specs.Prelude.{slice_get}
use Rattle.std.specs.List.{AllByRecursion}
use Rattle.std.specs.Option.{option_and_then, option_map}
use Rattle.std.proofs.lemmas.Bool.{eq-eqb, eqb-true, lt-ltb}
use Rattle.std.proofs.lemmas.Option.{same_Some, slice_get-map, slice_get_within}
use Rattle.csp_consistent.proofs.Public.{each_at}
use Rattle.csp_consistent.specs.Pools.{is_node}
use Rattle.csp_topology.proofs.Public.{OfEnd, all_lanes}
use Rattle.csp_topology.specs.Wires.{joint_of, lanes_of, rx_lane, tx_lane}
use Rattle.csp_consistent.specs.Queues.{MayPop, MayPush}
use Rattle.csp_consistent.specs.Reading.{is_queue}
use Rattle.csp_log.specs.Kinds.{carried_on}
use Rattle.csp_log.specs.declared.places.Carries.{Carries}
use Rattle.csp_log.specs.declared.places.End.{End}
use Rattle.csp_log.specs.declared.places.QueueId.{QueueId}
use Rattle.csp_log.specs.declared.places.QueueId.TheVariants as queue
use Rattle.csp_log.specs.declared.shown.ItemShown.{ItemShown}
use Rattle.csp_nodes.specs.Serving.{at_end, goes}
use Rattle.csp_log.specs.Who.{is_who, node_of}
use Rattle.csp_log.specs.declared.who.Who.{Who}
use Rattle.csp_log.specs.declared.who.Who.TheVariants as who
use Rattle.csp_scene.specs.Kept.{AreLinksAfter}
use Rattle.csp_scene.specs.Links.{links_at}
use Rattle.csp_scene.specs.Ranges.{IsEnd, IsLink, IsScene}
use Rattle.csp_scene.specs.Scene.{PlainLink, PlainNode, PlainScene}
use Rattle.csp_world.proofs.EndsApart.{AreEndsApart, ends_apart, ends_in}
use Rattle.csp_world.proofs.InboxNames.{IsParty}
use Rattle.csp_world.proofs.LaneLemmas.{IsLaneOf, apps_lanes, as_many, carried_at, numbered, outs_lanes, own_popped, own_pushed}
use Rattle.csp_world.proofs.LaneNames.{goes_is, own_named}

-- the end of a link at a place
abbrev pub end_of : List (List End) → ℕ → ℕ → Option End
end_of links k b = option_and_then (λ ends. slice_get ends b) (slice_get links k)

-- of two ends, that they are one is that their numbers and places are
module _ (links : List (List End)) (apart : AreEndsApart links) (j a : ℕ) (es : List End) (x : End) (link : slice_get links j ≡ Some es) (there : slice_get es a ≡ Some x) where
  split_end : (k b : ℕ) (y : End) → end_of links k b ≡ Some y → (fs : List End) × (slice_get links k ≡ Some fs) × (slice_get fs b ≡ Some y)
  split_end k b y e = by (slice_get links k) refl e where
    by : (o : Option (List End)) → slice_get links k ≡ o → option_and_then (λ ends. slice_get ends b) o ≡ Some y → (fs : List End) × (slice_get links k ≡ Some fs) × (slice_get fs b ≡ Some y)
    by None f g = absurd cc
    by (Some fs) f g = (fs, f, g)

  same_end : (k b : ℕ) (y : End) → end_of links k b ≡ Some y → ((k == j) && (b == a)) ≡ ((y.node == x.node) && (y.iface == x.iface))
  same_end k b y e = by ((k == j) && (b == a)) ((y.node == x.node) && (y.iface == x.iface)) refl refl where
    both : (s t : Bool) → (s && t) ≡ true → (s ≡ true) × (t ≡ true)
    both true t g = (refl, g)
    both false t g = absurd cc

    by : (s t : Bool) → ((k == j) && (b == a)) ≡ s → ((y.node == x.node) && (y.iface == x.iface)) ≡ t → s ≡ t
    by true true f g = refl
    by false false f g = refl
    by true false f g =
        let (k_is, b_is) = both (k == j) (b == a) f in
        let here : end_of links j a ≡ Some x = ap (λ o. option_and_then (λ (ends : List End). slice_get ends a) o) link ∙ there in
        let at : end_of links k b ≡ Some x = ap (λ n. end_of links n b) (eqb-true k j k_is) ∙ ap (end_of links j) (eqb-true b a b_is) ∙ here in
        let is : y ≡ x = same_Some y x (sym e ∙ at) in
        let yes : ((y.node == x.node) && (y.iface == x.iface)) ≡ true = rw (is, eq-eqb x.node x.node refl, eq-eqb x.iface x.iface refl) refl in
        sym yes ∙ g
    by false true f g =
        let (n_is, i_is) = both (y.node == x.node) (y.iface == x.iface) g in
        let (fs, at, of_it) = split_end k b y e in
        let (k_is, b_is) = apart j k a b es fs x y link there at of_it (eqb-true y.node x.node n_is) (eqb-true y.iface x.iface i_is) in
        let yes : ((k == j) && (b == a)) ≡ true = rw (eq-eqb k j k_is, eq-eqb b a b_is) refl in
        sym f ∙ yes

  -- a place where no link has an end is not this one
  no_end : (k b : ℕ) → end_of links k b ≡ None → ((k == j) && (b == a)) ≡ false
  no_end k b e = by ((k == j) && (b == a)) refl where
    both : (s t : Bool) → (s && t) ≡ true → (s ≡ true) × (t ≡ true)
    both true t g = (refl, g)
    both false t g = absurd cc

    by : (s : Bool) → ((k == j) && (b == a)) ≡ s → s ≡ false
    by false f = refl
    by true f =
        let (k_is, b_is) = both (k == j) (b == a) f in
        let here : end_of links j a ≡ Some x = ap (λ o. option_and_then (λ (ends : List End). slice_get ends a) o) link ∙ there in
        let at : end_of links k b ≡ Some x = ap (λ n. end_of links n b) (eqb-true k j k_is) ∙ ap (end_of links j) (eqb-true b a b_is) ∙ here in
        let bad : None ≡ Some x = sym e ∙ at in
        absurd cc

-- ---- where a link's lanes are

-- a lane of a link is that of the interface at its end
tx_goes : (links : List (List End)) (k b : ℕ) → goes links (who.Link k) (queue.Tx b) ≡ option_map (λ (y : End). (y.node, queue.Tx y.iface)) (end_of links k b)
tx_goes links k b = by (slice_get links k) where
  by : (o : Option (List End)) → option_and_then (λ ends. at_end ends (queue.Tx b)) o ≡ option_map (λ (y : End). (y.node, queue.Tx y.iface)) (option_and_then (λ ends. slice_get ends b) o)
  by None = refl
  by (Some ends) = refl

rx_goes : (links : List (List End)) (k b : ℕ) → goes links (who.Link k) (queue.Rx b) ≡ option_map (λ (y : End). (y.node, queue.Rx y.iface)) (end_of links k b)
rx_goes links k b = by (slice_get links k) where
  by : (o : Option (List End)) → option_and_then (λ ends. at_end ends (queue.Rx b)) o ≡ option_map (λ (y : End). (y.node, queue.Rx y.iface)) (option_and_then (λ ends. slice_get ends b) o)
  by None = refl
  by (Some ends) = refl

-- ---- the lanes of an end

module _ (scene : PlainScene) (links : List (List End)) (apart : AreEndsApart links) (j a : ℕ) (es : List End) (x : End) (link : slice_get links j ≡ Some es) (there : slice_get es a ≡ Some x) (n : PlainNode) (at : slice_get scene.nodes x.node ≡ Some n) where
  abbrev IsThere : Who → Type 0
  IsThere w = IsParty scene.nodes scene.links w

  -- to and from the link its interface uses them
  tx_putter : (w : Who) → IsThere w → (i : ItemShown) → MayPush w (queue.Tx x.iface) i → is_who (who.Iface x.node x.iface) w ≡ is_node x.node (node_of w)
  tx_putter (who.Iface m k) is i may = numbered x.node m k x.iface may
  tx_putter (who.Router m) is i may = absurd may
  tx_putter (who.Bridge m) is i may = absurd may
  tx_putter (who.App m k) is i may = absurd may
  tx_putter (who.Link k) is i may = absurd may

  rx_getter : (w : Who) → IsThere w → MayPop w (queue.Rx x.iface) → is_who (who.Iface x.node x.iface) w ≡ is_node x.node (node_of w)
  rx_getter (who.Iface m k) is may = numbered x.node m k x.iface may
  rx_getter (who.Router m) is may = absurd may
  rx_getter (who.Bridge m) is may = absurd may
  rx_getter (who.App m k) is may = absurd may
  rx_getter (who.Link k) is may = absurd may

  -- and of links this one, by the place of the end
  tx_getter : (w : Who) (r : QueueId) → MayPop w r → (is_who (who.Link j) w && is_queue (queue.Tx a) r) ≡ goes_is x.node (queue.Tx x.iface) (goes links w r)
  tx_getter (who.Router m) r may = own_named false (m == x.node) (queue.Tx x.iface) r (MayPop (who.Router m)) may (λ on. absurd on)
  tx_getter (who.Bridge m) r may = own_named false (m == x.node) (queue.Tx x.iface) r (MayPop (who.Bridge m)) may (λ on. absurd on)
  tx_getter (who.Iface m k) r may = own_named false (m == x.node) (queue.Tx x.iface) r (MayPop (who.Iface m k)) may (λ on. absurd on)
  tx_getter (who.App m k) r may = own_named false (m == x.node) (queue.Tx x.iface) r (MayPop (who.App m k)) may (λ on. absurd on)
  tx_getter (who.Link k) (queue.Tx b) may = by (end_of links k b) refl ∙ sym (ap (goes_is x.node (queue.Tx x.iface)) (tx_goes links k b)) where
    by : (o : Option End) → end_of links k b ≡ o → ((k == j) && (b == a)) ≡ goes_is x.node (queue.Tx x.iface) (option_map (λ (z : End). (z.node, queue.Tx z.iface)) o)
    by None e = no_end links apart j a es x link there k b e
    by (Some z) e = same_end links apart j a es x link there k b z e
  tx_getter (who.Link k) queue.Inbox may = absurd may
  tx_getter (who.Link k) (queue.Up b) may = absurd may
  tx_getter (who.Link k) (queue.Down b) may = absurd may
  tx_getter (who.Link k) (queue.Out b) may = absurd may
  tx_getter (who.Link k) (queue.Rx b) may = absurd may

  rx_putter : (w : Who) (r : QueueId) (i : ItemShown) → MayPush w r i → (is_who (who.Link j) w && is_queue (queue.Rx a) r) ≡ goes_is x.node (queue.Rx x.iface) (goes links w r)
  rx_putter (who.Router m) r i may = own_named false (m == x.node) (queue.Rx x.iface) r (λ s. MayPush (who.Router m) s i) may (λ on. absurd on)
  rx_putter (who.Bridge m) r i may = own_named false (m == x.node) (queue.Rx x.iface) r (λ s. MayPush (who.Bridge m) s i) may (λ on. absurd on)
  rx_putter (who.Iface m k) r i may = own_named false (m == x.node) (queue.Rx x.iface) r (λ s. MayPush (who.Iface m k) s i) may (λ on. absurd on)
  rx_putter (who.App m k) r i may = own_named false (m == x.node) (queue.Rx x.iface) r (λ s. MayPush (who.App m k) s i) may (λ on. absurd on)
  rx_putter (who.Link k) (queue.Rx b) i may = by (end_of links k b) refl ∙ sym (ap (goes_is x.node (queue.Rx x.iface)) (rx_goes links k b)) where
    by : (o : Option End) → end_of links k b ≡ o → ((k == j) && (b == a)) ≡ goes_is x.node (queue.Rx x.iface) (option_map (λ (z : End). (z.node, queue.Rx z.iface)) o)
    by None e = no_end links apart j a es x link there k b e
    by (Some z) e = same_end links apart j a es x link there k b z e
  rx_putter (who.Link k) queue.Inbox i may = absurd may
  rx_putter (who.Link k) (queue.Up b) i may = absurd may
  rx_putter (who.Link k) (queue.Down b) i may = absurd may
  rx_putter (who.Link k) (queue.Out b) i may = absurd may
  rx_putter (who.Link k) (queue.Tx b) i may = absurd may

  lanes_of_end : (carries : Carries) → x.iface < length (links_at x.node scene.links) → IsLaneOf scene links (tx_lane (joint_of j carries a x)) × IsLaneOf scene links (rx_lane (joint_of j carries a x))
  lanes_of_end carries low = (
    record {
      node = n;
      there = at;
      lane = refl;
      stands = rw (lt-ltb x.iface (length (carried_at x.node scene.links)) (as_many x.node scene.links x.iface low)) refl;
      pushes = own_pushed links x.node (queue.Tx x.iface) IsThere (who.Iface x.node x.iface) (λ k. refl) (λ m. refl) tx_putter;
      pops = λ w is. tx_getter w;
    },
    record {
      node = n;
      there = at;
      lane = refl;
      stands = rw (lt-ltb x.iface (length (carried_at x.node scene.links)) (as_many x.node scene.links x.iface low)) refl;
      pushes = λ w is. rx_putter w;
      pops = own_popped links x.node (queue.Rx x.iface) IsThere (who.Iface x.node x.iface) (λ k. refl) (λ m. refl) rx_getter;
    },
  )

-- ---- all lanes

module _ (scene : PlainScene) (apart : AreEndsApart (ends_in scene.links)) (is : IsScene scene) where
  ends_lanes : (number place : ℕ) (l : PlainLink) (x : End) (n : PlainNode) → slice_get scene.links number ≡ Some l → slice_get l.ends place ≡ Some x → slice_get scene.nodes x.node ≡ Some n → OfEnd (IsLaneOf scene (ends_in scene.links)) number l place x
  ends_lanes number place l x n there at on =
      let link : slice_get (ends_in scene.links) number ≡ Some l.ends = slice_get-map (λ (y : PlainLink). y.ends) scene.links number ∙ ap (option_map (λ (y : PlainLink). y.ends)) there in
      let end = each_at (IsEnd scene.nodes scene.links l) l.ends place x (each_at (IsLink scene.nodes scene.links) scene.links number l is.links there).ends at in
      lanes_of_end scene (ends_in scene.links) apart number place l.ends x link at n on (carried_on l.kind) (slice_get_within (links_at x.node scene.links) x.iface l end.iface)

pub all_lanes_of : (scene : PlainScene) → IsScene scene → AreLinksAfter (length scene.nodes) [] scene.links → AllByRecursion (IsLaneOf scene (ends_in scene.links)) (lanes_of scene)
all_lanes_of scene is after =
    all_lanes (IsLaneOf scene (ends_in scene.links)) scene (λ node k n there low. apps_lanes scene (ends_in scene.links) node n there k low) (λ node k n there low. outs_lanes scene (ends_in scene.links) node n there k low)
    (ends_lanes scene (ends_apart (length scene.nodes) scene.links after) is)

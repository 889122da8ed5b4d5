-- The parties of a scene before their first turn.
use Rattle.std.proofs.Common.{◌≡◌, ◌<◌, ℕ, Bool, true, false, List, [], ◌∷◌, Option, None, Some, length, map, refl, sym, ap, ◌∙◌, subst, arith}
use Rattle.std.specs.Prelude.{IfSome, slice_get, if◌then◌else◌}
use Rattle.std.specs.List.{AllByRecursion, AllZip, sum_by}
use Rattle.std.specs.Option.{option_map}
use Rattle.std.proofs.lemmas.List.Sums.{sum_by-cons}
use Rattle.std.proofs.lemmas.Option.{same_Some, slice_get-map}
use Rattle.csp_deck.specs.Step.{times}
use Rattle.csp_ends.specs.Ends.{AreEnds, PlainEnds, PlainHome, PlainSide}
use Rattle.csp_ends.specs.Ends as hands
use Rattle.csp_deck.specs.Carried.{IsCarried}
use Rattle.csp_ends.specs.Sides.{back_name}
use Rattle.csp_ends.specs.Traced.{IsSideMarked, IsSideTraced, moved, told_of}
use Rattle.csp_lists.specs.PlainDeck.{numbers_of}
use Rattle.csp_log.specs.declared.places.QueueId.{QueueId}
use Rattle.csp_log.specs.declared.places.Rule.{Rule}
use Rattle.csp_log.specs.declared.places.Rule.TheVariants as rule
use Rattle.csp_opening.proofs.Backs.{EndsApart}
use Rattle.csp_opening.proofs.NewHomes.{IsHomeNew, home_new}
use Rattle.csp_opening.proofs.Named.{IsPairRow, NamedApart, named_from}
use Rattle.csp_opening.proofs.Ordered.{home_in}
use Rattle.csp_opening.proofs.Rows.{all_called}
use Rattle.csp_opening.proofs.Serving.{AllHome, are_ends, is_served}
use Rattle.csp_opening.proofs.NewSides.{IsSideNew, sides_new}
use Rattle.csp_opening.proofs.Spread.{handed_apart}
use Rattle.csp_opening.specs.Handed.{handed_from}
use Rattle.csp_opening.specs.Opened.{AreNodesWith, ends_in, lead_in, queues_in, region_in}
use Rattle.csp_opening.specs.Parted.{part_home, parts_left}
use Rattle.csp_opening.specs.Posted.{CanPost, ends_with, post_with}
use Rattle.csp_opening.specs.Unposted.{IsUnposted, region_at, region_or, unposted_name}
use Rattle.csp_opening.specs.declared.nodes.Node.{Node}
use Rattle.csp_opening.specs.declared.unposted.Unposted.{Unposted}
use Rattle.csp_party.specs.Any.{uses}
use Rattle.csp_posts.specs.Balance.{times_got, times_put}
use Rattle.csp_posts.specs.Through.{IsThrough, WasCrammed}
use Rattle.csp_log.specs.Who.{node_of}
use Rattle.csp_log.specs.declared.who.Who.{Who}
use Rattle.csp_scene.specs.Scene.{PlainScene}
use Rattle.csp_standing.proofs.Public.{all_at, all_from}
use Rattle.csp_standing.specs.Network.{IsPostOf, IsSideAmong, PlainNetwork, name_of, opened_in, sides_of}
use Rattle.csp_topology.specs.Parties.{PlainOpening, parties_of}
use Rattle.csp_topology.specs.Plan.{plans_from}
use Rattle.csp_topology.specs.Wired as wired
use Rattle.csp_topology.specs.Wires.{wires_of}
use Rattle.csp_topology.specs.Wiring.{IsWireOf}
use Rattle.csp_topology.specs.declared.wire.Wire.{Wire}

-- the home of a party, once the passes of all of these were split off
abbrev pub its_home : List Node → List Who → Who → Option PlainHome
its_home xs ws w = home_in (parts_left (map lead_in xs) ws) w (part_home (map lead_in xs) w)

-- what the party at a place has in hand
abbrev pub its_ends : List Node → List Who → ℕ → Who → PlainEnds
its_ends xs ws p w = ends_with (its_home xs ws w) (handed_from p 0 (map ends_in xs))

-- the network of these nodes
abbrev pub network : List Node → PlainNetwork
network xs = record { nodes = map queues_in xs; regions = map region_in xs }

-- what csp_topology says of a scene
pub record Laws (scene : PlainScene) : Type 0 where
  pub apart : EndsApart scene
  pub stays : AllHome scene
  pub served : (i : ℕ) (o : PlainOpening) → slice_get (parties_of scene) i ≡ Some o → (q : QueueId) (r : Rule) → uses o.party q ≡ Some r → wired.IsServed scene o.who q r

-- a party at a place before its first turn
pub record IsPartyNew (scene : PlainScene) (xs : List Node) (ws : List Who) (p : ℕ) (w : Who) : Type 0 where
  pub home : IsHomeNew (map queues_in xs) (map region_in xs) w (opened_in scene w) (its_home xs ws w)
  pub sides : AllByRecursion (IsSideNew scene (map queues_in xs) (map region_in xs) w) (handed_from p 0 (map ends_in xs))
  pub ends : AreEnds (its_ends xs ws p w)
  pub names : map name_of (handed_from p 0 (map ends_in xs)) ≡ sides_of scene w

pub party_new : (scene : PlainScene) (wires : List (List Wire)) (xs : List Node) (ws : List Who) (p : ℕ) (w : Who) → Laws scene → AreNodesWith (plans_from 0 scene.nodes scene.links) wires xs → AllZip (AllZip (IsWireOf scene)) (wires_of scene) wires
    → AllZip (IsPairRow (map (λ (o : PlainOpening). o.who) (parties_of scene))) (wires_of scene) (map ends_in xs) → NamedApart (map (λ (o : PlainOpening). o.who) (parties_of scene))
    → slice_get (map (λ (o : PlainOpening). o.who) (parties_of scene)) p ≡ Some w → IfSome (node_of w) (λ m. m < length scene.nodes) → IsPartyNew scene xs ws p w
party_new scene wires xs ws p w laws nodes rows pairs named at low =
    let home = home_new scene wires xs ws w nodes low in
    let sides = sides_new scene wires xs p w laws.apart at nodes rows in
    let names = named_from (map (λ (o : PlainOpening). o.who) (parties_of scene)) named p w at 0 (wires_of scene) (map ends_in xs) pairs in
    record {
      home = home;
      sides = sides;
      ends = are_ends scene (map queues_in xs) (map region_in xs) w (opened_in scene w) (its_home xs ws w) (handed_from p 0 (map ends_in xs)) laws.apart laws.stays (all_called scene) home sides names (handed_apart p (map ends_in xs));
      names = names;
    }

-- the region of a party's buffers is that of its home
home_region : (xs : List Node) (w : Who) (home : Option PlainHome) → option_map (λ (h : PlainHome). h.node) home ≡ node_of w → IfSome home (λ h. slice_get (map region_in xs) h.node ≡ Some h.pool.hand.region) → region_at xs (node_of w) ≡ hands.region_or home
home_region xs w None node region = ap (region_at xs) (sym node)
home_region xs w (Some h) node region = ap (region_at xs) (sym node) ∙ by (slice_get xs h.node) (sym (slice_get-map region_in xs h.node) ∙ region) where
  by : (o : Option Node) → option_map region_in o ≡ Some h.pool.hand.region → region_or o ≡ h.pool.hand.region
  by (Some x) e = same_Some (region_in x) h.pool.hand.region e
  by None e = absurd cc

-- so it may have that in hand
pub can_post : (scene : PlainScene) (xs : List Node) (ws : List Who) (p : ℕ) (s : Unposted) (o : PlainOpening) → Laws scene → slice_get (parties_of scene) p ≡ Some o → unposted_name s ≡ o → IsUnposted xs s → IsPartyNew scene xs ws p s.who
    → CanPost s (its_ends xs ws p s.who)
can_post scene xs ws p s o laws at same unposted new = record {
  ready = unposted.party.ready;
  counted = unposted.party.counted;
  served = λ q r u.
      is_served scene (map queues_in xs) (map region_in xs) s.who (opened_in scene s.who) (its_ends xs ws p s.who) q r new.names new.ends new.home
      (subst (λ w. wired.IsServed scene w q r) (sym (ap (λ (z : PlainOpening). z.who) same)) (laws.served p o at q r (ap (λ (z : PlainOpening). uses z.party q) (sym same) ∙ u)));
  ends = new.ends;
  region = unposted.region ∙ home_region xs s.who (its_home xs ws s.who) new.home.among.node new.home.among.region;
  unnoted = unposted.unnoted;
}

-- nothing went through its ends
none_through : (f : PlainSide → ℕ) → ((s : PlainSide) → s.end.items ≡ [] → f s ≡ 0) → (sides : List PlainSide) → AllByRecursion (λ (s : PlainSide). s.end.items ≡ []) sides → sum_by f sides ≡ 0
none_through f none [] h = refl
none_through f none (s ∷ sides) h =
    let step = sum_by-cons f s sides in
    let one = none s h.0 in
    let rest = none_through f none sides h.1 in
    omega (arith, step, one, rest)

none_put : (k : ℕ) (sides : List PlainSide) → AllByRecursion (λ (s : PlainSide). s.end.items ≡ []) sides → sum_by (times_put k) sides ≡ 0
none_put k = none_through (times_put k) (λ s e. by s.puts (ap (λ is. times k (numbers_of is)) e)) where
  by : (c : Bool) {n : ℕ} → n ≡ 0 → (if c then n else 0) ≡ 0
  by true e = e
  by false e = refl

none_got : (k : ℕ) (sides : List PlainSide) → AllByRecursion (λ (s : PlainSide). s.end.items ≡ []) sides → sum_by (times_got k) sides ≡ 0
none_got k = none_through (times_got k) (λ s e. by s.puts (ap (λ is. times k (numbers_of is)) e)) where
  by : (c : Bool) {n : ℕ} → n ≡ 0 → (if c then 0 else n) ≡ 0
  by true e = refl
  by false e = e

-- it is a post of its party
pub is_post : (scene : PlainScene) (xs : List Node) (ws : List Who) (p : ℕ) (s : Unposted) (o : PlainOpening) → unposted_name s ≡ o → IsUnposted xs s → IsPartyNew scene xs ws p s.who
    → IsPostOf scene (network xs) o (post_with s (its_ends xs ws p s.who)).plain
is_post scene xs ws p s o same unposted new = subst (λ (z : PlainOpening). IsPostOf scene (network xs) z (post_with s (its_ends xs ws p s.who)).plain) same (record {
  who = refl;
  from = record {
    runs = record { run = tt; reached = refl };
    of_it = record { home = new.home.of_it; sides = each (λ (x : PlainSide). hands.IsSideOf (map queues_in xs) x) (λ x h. h.of_it) };
    ends = new.ends;
    traced = record { home = new.home.traced; sides = each (IsSideTraced []) (λ x h. traced x.puts x h.none) };
    marked = each (IsSideMarked []) (λ x h about. marked x (back_name x.queue) h.marks);
    balanced = λ k. (
        let held = ap (times k) unposted.party.holds in
        let out = none_put k (handed_from p 0 (map ends_in xs)) empty in
        let came = none_got k (handed_from p 0 (map ends_in xs)) empty in
        let into = new.home.into k in
        let from = new.home.from k in
        omega (arith, held, out, came, into, from));
  };
  home = new.home.among;
  sides = new.names;
  regions = each (IsSideAmong (map region_in xs)) (λ x h. h.among);
  got = tt;
  through = each IsThrough (λ x h. through x h.none);
  full = each (WasCrammed []) (λ x h puts. tt);
  early = tt;
}) where
  each : (P : PlainSide → Type 0) → ((x : PlainSide) → IsSideNew scene (map queues_in xs) (map region_in xs) s.who x → P x) → AllByRecursion P (handed_from p 0 (map ends_in xs))
  each P f = all_from P (handed_from p 0 (map ends_in xs)) (λ k x e. f x (all_at (IsSideNew scene (map queues_in xs) (map region_in xs) s.who) (handed_from p 0 (map ends_in xs)) k x new.sides e))

  empty : AllByRecursion (λ (x : PlainSide). x.end.items ≡ []) (handed_from p 0 (map ends_in xs))
  empty = each (λ (x : PlainSide). x.end.items ≡ []) (λ x h. h.none)

  traced : (b : Bool) (x : PlainSide) → x.end.items ≡ [] → x.end.items ≡ moved b x.queue []
  traced true x e = e
  traced false x e = e

  marked : (x : PlainSide) (o : Option QueueId) → x.end.marks ≡ [] → IfSome o (λ other. x.end.marks ≡ told_of x.puts x.queue other [])
  marked x None e = tt
  marked x (Some q) e = e

  through : (x : PlainSide) → x.end.items ≡ [] → IsThrough x
  through x e = subst (λ is. AllByRecursion (IsCarried (rule.Lane x.end.carries)) is) (sym e) tt

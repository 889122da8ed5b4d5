-- The ends of lanes that come next in the hands of the parties.
use Rattle.std.proofs.Common.{◌≡◌, ◌≢◌, ◌+◌, ℕ, zero, suc, Bool, true, false, Some, List, [], ◌∷◌, ◌++◌, ◌==◌, length, map, drop, refl, sym, ap, ◌∙◌, subst, arith, append_assoc}
use Rattle.std.specs.Prelude.{if◌then◌else◌, slice_get, IsSomeAnd}
use Rattle.std.specs.List.{AllByRecursion}
use Rattle.std.proofs.lemmas.Option.{same_Some}
use Rattle.csp_arena.specs.Cells.{RegionName}
use Rattle.csp_closing.proofs.Lists.{differs, equal, all_at}
use Rattle.csp_closing.specs.Wires.{AreAllNext, AreLeftAmong, IsEndThere, IsFirstAt, IsLeftAmong, without_all, without_ends, without_first}
use Rattle.csp_consistent.proofs.Public.{who_is, who_same}
use Rattle.csp_consistent.specs.Pools.{place_named}
use Rattle.csp_ends.specs.Ends.{PlainNodeQueues, PlainSide, IsSideOf}
use Rattle.csp_lane.specs.Ends as lane
use Rattle.csp_log.specs.declared.places.Place.TheVariants as place
use Rattle.csp_log.specs.declared.shown.ItemShown.{ItemShown}
use Rattle.csp_log.specs.Who.{is_who}
use Rattle.csp_log.specs.declared.who.Who.{Who}
use Rattle.csp_standing.specs.Network.{IsSideAmong, SideName, name_of, sides_among, sides_at}
use Rattle.csp_topology.specs.Lanes.{PlainLane}
use Rattle.csp_topology.specs.declared.wire.Wire.{Wire}

-- what is left of the ends of a party, and of the others
pub without_here : (at : ℕ) (sides : List (List PlainSide)) (x : PlainSide) (rest : List PlainSide) → slice_get sides at ≡ Some (x ∷ rest) → slice_get (without_first at sides) at ≡ Some rest
without_here at [] x rest e = absurd cc
without_here zero (ss ∷ sides) x rest e = ap (λ (l : List PlainSide). Some (drop 1 l)) (same_Some ss (x ∷ rest) e)
without_here (suc at) (ss ∷ sides) x rest e = without_here at sides x rest e

pub without_there : (at other : ℕ) (sides : List (List PlainSide)) → other ≢ at → slice_get (without_first at sides) other ≡ slice_get sides other
without_there at other [] h = refl
without_there zero zero (ss ∷ sides) h = absurd (h refl)
without_there zero (suc other) (ss ∷ sides) h = refl
without_there (suc at) zero (ss ∷ sides) h = refl
without_there (suc at) (suc other) (ss ∷ sides) h = without_there at other sides (λ e. h (ap suc e))

-- no two have one name
abbrev pub AreDistinct : List Who → Type 0
AreDistinct whos = (i j : ℕ) (w : Who) → slice_get whos i ≡ Some w → slice_get whos j ≡ Some w → i ≡ j

-- the ends that a party has are called so
pub record HasNames (sides : List (List PlainSide)) (at : ℕ) (names : List SideName) : Type 0 where
  pub own : List PlainSide
  pub there : slice_get sides at ≡ Some own
  pub named : map name_of own ≡ names

-- and so those of each
abbrev pub AreNamed : List Who → List (List PlainSide) → (Who → List SideName) → Type 0
AreNamed whos sides names = (at : ℕ) (w : Who) → slice_get whos at ≡ Some w → HasNames sides at (names w)

pub named_as : (whos : List Who) (sides : List (List PlainSide)) (names others : Who → List SideName) → ((w : Who) → names w ≡ others w) → AreNamed whos sides names → AreNamed whos sides others
named_as whos sides names others same h = λ at w there. (let own = h at w there in record { own = own.own; there = own.there; named = own.named ∙ same w })

-- one name where a party is meant
abbrev pub one_name : Bool → SideName → List SideName
one_name b n = (if b then n ∷ [] else [])

-- the first of a list that is not empty
pub record IsCons (own : List PlainSide) (n : SideName) (more : List SideName) : Type 0 where
  pub first : PlainSide
  pub rest : List PlainSide
  pub whole : own ≡ first ∷ rest
  pub called : name_of first ≡ n
  pub others : map name_of rest ≡ more

pub cons_of : (own : List PlainSide) (n : SideName) (more : List SideName) → map name_of own ≡ n ∷ more → IsCons own n more
cons_of [] n more e = absurd cc
cons_of (x ∷ own) n more e = record { first = x; rest = own; whole = refl; called = cc; others = cc }

-- the end that comes next
pub record HasNext (whos : List Who) (sides : List (List PlainSide)) (at : ℕ) (n : SideName) (names : Who → List SideName) : Type 0 where
  pub x : PlainSide
  pub first : IsFirstAt sides at x
  pub called : name_of x ≡ n
  pub later : AreNamed whos (without_first at sides) names

pub has_next : (whos : List Who) → AreDistinct whos → (sides : List (List PlainSide)) (at : ℕ) (w : Who) (n : SideName) (names : Who → List SideName) → slice_get whos at ≡ Some w
    → AreNamed whos sides (λ v. one_name (is_who v w) n ++ names v) → HasNext whos sides at n names
has_next whos apart sides at w n names there h =
    let own = h at w there in
    let cut = cons_of own.own n (names w) (own.named ∙ ap (λ (b : Bool). one_name b n ++ names w) (who_same w)) in
    let found : slice_get sides at ≡ Some (cut.first ∷ cut.rest) = own.there ∙ ap (λ (l : List PlainSide). Some l) cut.whole in
    record {
      x = cut.first;
      first = record { rest = cut.rest; there = found };
      called = cut.called;
      later = λ other v is. by other v is (other == at) refl cut.first cut.rest found cut.others;
    }
  where
    by : (other : ℕ) (v : Who) → slice_get whos other ≡ Some v → (b : Bool) → (other == at) ≡ b → (x : PlainSide) (rest : List PlainSide) → slice_get sides at ≡ Some (x ∷ rest) → map name_of rest ≡ names w
        → HasNames (without_first at sides) other (names v)
    by other v is true e x rest found named =
        let same : other ≡ at = equal other at e in
        let who : v ≡ w = same_Some v w (sym is ∙ ap (slice_get whos) same ∙ there) in
        record { own = rest; there = ap (slice_get (without_first at sides)) same ∙ without_here at sides x rest found; named = named ∙ ap names (sym who) }
    by other v is false e x rest found named =
        let own = h other v is in
        record { own = own.own; there = without_there at other sides (differs other at e) ∙ own.there; named = own.named ∙ ap (λ (b : Bool). one_name b n ++ names v) (no v is e (is_who v w) refl) }
      where
        no : (v : Who) → slice_get whos other ≡ Some v → (other == at) ≡ false → (b : Bool) → is_who v w ≡ b → is_who v w ≡ false
        no v is e true f = absurd (differs other at e (apart other at v is (there ∙ ap (λ (u : Who). Some u) (sym (who_is v w f)))))
        no v is e false f = f

-- a lane of a scene and its wire
pub record IsWired (whos : List Who) (l : PlainLane) (w : Wire) : Type 0 where
  pub from : slice_get whos w.from.party ≡ Some l.from.who
  pub to : slice_get whos w.to.party ≡ Some l.to.who
  pub apart : l.from.who ≢ l.to.who
  pub queue : w.queue ≡ l.queue
  pub named : place_named w.queue 0 ≡ place.Lane w.queue

abbrev pub AreWired : List Who → List PlainLane → List Wire → Type 0
AreWired whos [] [] = Unit {0}
AreWired whos (l ∷ lanes) (w ∷ wires) = IsWired whos l w × AreWired whos lanes wires
AreWired _ _ _ = ⊥

-- the two ends of a lane come next
pub record HaveNext (whos : List Who) (sides : List (List PlainSide)) (w : Wire) (node lane : ℕ) (names : Who → List SideName) : Type 0 where
  pub x : PlainSide
  pub y : PlainSide
  pub from : IsFirstAt sides w.from.party x
  pub to : IsFirstAt sides w.to.party y
  pub apart : w.from.party ≢ w.to.party
  pub puts : x.puts ≡ true
  pub gets : y.puts ≡ false
  pub x_node : x.node ≡ node
  pub x_lane : x.lane ≡ lane
  pub y_node : y.node ≡ node
  pub y_lane : y.lane ≡ lane
  pub later : AreNamed whos (without_ends w sides) names

pub have_next : (whos : List Who) → AreDistinct whos → (sides : List (List PlainSide)) (l : PlainLane) (w : Wire) (node lane : ℕ) (names : Who → List SideName) → IsWired whos l w
    → AreNamed whos sides (λ v. sides_at v node lane l ++ names v) → HaveNext whos sides w node lane names
have_next whos distinct sides l w node lane names is h =
    let apart : w.from.party ≢ w.to.party = λ e. is.apart (same_Some l.from.who l.to.who (sym is.from ∙ ap (slice_get whos) e ∙ is.to)) in
    let putter : SideName = record { queue = l.from.queue; node = node; lane = lane; puts = true; carries = l.carries } in
    let getter : SideName = record { queue = l.to.queue; node = node; lane = lane; puts = false; carries = l.carries } in
    let first = has_next whos distinct sides w.from.party l.from.who putter (λ v. one_name (is_who v l.to.who) getter ++ names v) is.from
    (named_as whos sides (λ v. sides_at v node lane l ++ names v) (λ v. one_name (is_who v l.from.who) putter ++ (one_name (is_who v l.to.who) getter ++ names v))
    (λ v. append_assoc (one_name (is_who v l.from.who) putter) (one_name (is_who v l.to.who) getter) (names v)) h) in
    let second = has_next whos distinct (without_first w.from.party sides) w.to.party l.to.who getter names is.to first.later in
    record {
      x = first.x;
      y = second.x;
      from = first.first;
      to = record { rest = second.first.rest; there = sym (without_there w.from.party w.to.party sides (λ e. apart (sym e))) ∙ second.first.there };
      apart = apart;
      puts = ap (λ (n : SideName). n.puts) first.called;
      gets = ap (λ (n : SideName). n.puts) second.called;
      x_node = ap (λ (n : SideName). n.node) first.called;
      x_lane = ap (λ (n : SideName). n.lane) first.called;
      y_node = ap (λ (n : SideName). n.node) second.called;
      y_lane = ap (λ (n : SideName). n.lane) second.called;
      later = second.later;
    }

-- what holds of each end of each party
abbrev pub EachSide : (PlainSide → Type 0) → List (List PlainSide) → Type 0
EachSide P sides = AllByRecursion (AllByRecursion P) sides

drop_each : (P : PlainSide → Type 0) (ss : List PlainSide) → AllByRecursion P ss → AllByRecursion P (drop 1 ss)
drop_each P [] h = tt
drop_each P (s ∷ ss) h = h.1

first_each : (P : PlainSide → Type 0) (at : ℕ) (sides : List (List PlainSide)) → EachSide P sides → EachSide P (without_first at sides)
first_each P at [] h = tt
first_each P zero (ss ∷ sides) h = (drop_each P ss h.0, h.1)
first_each P (suc at) (ss ∷ sides) h = (h.0, first_each P at sides h.1)

pub ends_each : (P : PlainSide → Type 0) (w : Wire) (sides : List (List PlainSide)) → EachSide P sides → EachSide P (without_ends w sides)
ends_each P w sides h = first_each P w.to.party (without_first w.from.party sides) (first_each P w.from.party sides h)

pub first_so : (P : PlainSide → Type 0) (sides : List (List PlainSide)) (at : ℕ) (s : PlainSide) → EachSide P sides → IsFirstAt sides at s → P s
first_so P sides at s h f = (all_at (AllByRecursion P) sides at (s ∷ f.rest) h f.there).0

-- an end of a network: of its lane, and of the region of its node
abbrev pub IsOfNetwork : List PlainNodeQueues → List RegionName → PlainSide → Type 0
IsOfNetwork nodes regions s = IsSideOf nodes s × IsSideAmong regions s

there_of : (nodes : List PlainNodeQueues) (regions : List RegionName) (q : PlainNodeQueues) (region : RegionName) (l : lane.PlainLane) (node number : ℕ) (s : PlainSide) → slice_get nodes node ≡ Some q → slice_get regions node ≡ Some region
    → slice_get q.lanes number ≡ Some l → s.node ≡ node → s.lane ≡ number → IsOfNetwork nodes regions s → IsEndThere l region node number s
there_of nodes regions q region l node number s at where_ which own its h =
    let in_node : IsSomeAnd (slice_get nodes node) (λ q. IsSomeAnd (slice_get q.lanes s.lane) (λ l. lane.IsEndOf l s.end)) = subst (λ (n : ℕ). IsSomeAnd (slice_get nodes n) (λ q. IsSomeAnd (slice_get q.lanes s.lane) (λ l. lane.IsEndOf l s.end))) own h.0 in
    let in_it : IsSomeAnd (slice_get q.lanes s.lane) (λ l. lane.IsEndOf l s.end) = subst (λ o. IsSomeAnd o (λ q. IsSomeAnd (slice_get q.lanes s.lane) (λ l. lane.IsEndOf l s.end))) at in_node in
    let of_lane : IsSomeAnd (slice_get q.lanes number) (λ l. lane.IsEndOf l s.end) = subst (λ (n : ℕ). IsSomeAnd (slice_get q.lanes n) (λ l. lane.IsEndOf l s.end)) its in_it in
    record {
      of_it = subst (λ o. IsSomeAnd o (λ l. lane.IsEndOf l s.end)) which of_lane;
      within = sym (same_Some region s.end.region (sym where_ ∙ ap (slice_get regions) (sym own) ∙ h.1));
      node_is = own;
      lane_is = its;
    }

-- the ends of the lanes of a node come next, one lane after the other, and then those of the others
pub record HaveAllNext (whos : List Who) (P : PlainSide → Type 0) (sides : List (List PlainSide)) (wires : List Wire) (lanes : List lane.PlainLane) (region : RegionName) (node lane : ℕ) (names : Who → List SideName) : Type 0 where
  pub next : AreAllNext node lane region wires lanes sides
  pub later : AreNamed whos (without_all wires sides) names
  pub each : EachSide P (without_all wires sides)

pub have_all_next : (whos : List Who) → AreDistinct whos → (nodes : List PlainNodeQueues) (regions : List RegionName) (q : PlainNodeQueues) (region : RegionName) (node : ℕ) → slice_get nodes node ≡ Some q → slice_get regions node ≡ Some region
    → (ls : List PlainLane) (wires : List Wire) (lanes : List lane.PlainLane) (number : ℕ) (sides : List (List PlainSide)) (names : Who → List SideName) → AreWired whos ls wires → length lanes ≡ length ls
    → ((j : ℕ) → slice_get lanes j ≡ slice_get q.lanes (number + j)) → AreNamed whos sides (λ v. sides_among v node number ls ++ names v) → EachSide (IsOfNetwork nodes regions) sides
    → HaveAllNext whos (IsOfNetwork nodes regions) sides wires lanes region node number names
have_all_next whos distinct nodes regions q region node at here [] [] [] number sides names wired count places h each = record { next = tt; later = h; each = each }
have_all_next whos distinct nodes regions q region node at here (l ∷ ls) (w ∷ wires) (x ∷ lanes) number sides names wired count places h each =
    let one = have_next whos distinct sides l w node number (λ v. sides_among v node (number + 1) ls ++ names v) wired.0
    (named_as whos sides (λ v. sides_among v node number (l ∷ ls) ++ names v) (λ v. sides_at v node number l ++ (sides_among v node (number + 1) ls ++ names v))
    (λ v. append_assoc (sides_at v node number l) (sides_among v node (number + 1) ls) (names v)) h) in
    let which : slice_get q.lanes number ≡ Some x = ap (slice_get q.lanes) (omega arith) ∙ sym (places 0) in
    let rest = have_all_next whos distinct nodes regions q region node at here ls wires lanes (number + 1) (without_ends w sides) names wired.1 (omega (arith, count))
    (λ j. places (suc j) ∙ ap (slice_get q.lanes) (omega arith)) one.later (ends_each (IsOfNetwork nodes regions) w sides each) in
    record {
      next = (
        record {
          x = one.x;
          y = one.y;
          from = one.from;
          to = one.to;
          apart = one.apart;
          puts = one.puts;
          gets = one.gets;
          x_there = there_of nodes regions q region x node number one.x at here which one.x_node one.x_lane (first_so (IsOfNetwork nodes regions) sides w.from.party one.x each one.from);
          y_there = there_of nodes regions q region x node number one.y at here which one.y_node one.y_lane (first_so (IsOfNetwork nodes regions) sides w.to.party one.y each one.to);
          named = wired.0.named;
        },
        rest.next,
      );
      later = rest.later;
      each = rest.each;
    }
have_all_next whos distinct nodes regions q region node at here [] (w ∷ wires) lanes number sides names wired count places h each = absurd wired
have_all_next whos distinct nodes regions q region node at here (l ∷ ls) [] lanes number sides names wired count places h each = absurd wired
have_all_next whos distinct nodes regions q region node at here [] [] (x ∷ lanes) number sides names wired count places h each = absurd (omega (arith, count))
have_all_next whos distinct nodes regions q region node at here (l ∷ ls) (w ∷ wires) [] number sides names wired count places h each = absurd (omega (arith, count))

-- what was left in a lane was left by the ends of the parties before some were taken, too
pub record IsLater (sides before : List (List PlainSide)) : Type 0 where
  pub each : (i : ℕ) (xs : List PlainSide) → slice_get sides i ≡ Some xs → (taken : ℕ) × (ys : List PlainSide) × (slice_get before i ≡ Some ys) × ((k : ℕ) → slice_get xs k ≡ slice_get ys (taken + k))

pub same_later : (sides : List (List PlainSide)) → IsLater sides sides
same_later sides = record { each = λ i xs e. (0, xs, e, λ k. ap (slice_get xs) (omega arith)) }

pub both_later : (a b c : List (List PlainSide)) → IsLater a b → IsLater b c → IsLater a c
both_later a b c f g = record {
  each = λ i xs e.
      let (m, ys, there, same) = f.each i xs e in
      let (n, zs, at, alike) = g.each i ys there in
      (n + m, zs, at, λ k. same k ∙ alike (m + k) ∙ ap (slice_get zs) (omega arith));
}

drop_at : (ys : List PlainSide) (k : ℕ) → slice_get (drop 1 ys) k ≡ slice_get ys (1 + k)
drop_at [] k = refl
drop_at (y ∷ ys) k =
    let next : suc k ≡ 1 + k = omega arith in
    ap (slice_get (y ∷ ys)) next

first_later : (at : ℕ) (sides : List (List PlainSide)) → IsLater (without_first at sides) sides
first_later at sides = record { each = λ i xs e. by at sides i xs e } where
  by : (at : ℕ) (sides : List (List PlainSide)) (i : ℕ) (xs : List PlainSide) → slice_get (without_first at sides) i ≡ Some xs
      → (taken : ℕ) × (ys : List PlainSide) × (slice_get sides i ≡ Some ys) × ((k : ℕ) → slice_get xs k ≡ slice_get ys (taken + k))
  by at [] i xs e = absurd cc
  by zero (ss ∷ sides) zero xs e = (1, ss, refl, λ k. ap (λ (l : List PlainSide). slice_get l k) (sym (same_Some (drop 1 ss) xs e)) ∙ drop_at ss k)
  by zero (ss ∷ sides) (suc i) xs e = (0, xs, e, λ k. ap (slice_get xs) (omega arith))
  by (suc at) (ss ∷ sides) zero xs e = (0, xs, e, λ k. ap (slice_get xs) (omega arith))
  by (suc at) (ss ∷ sides) (suc i) xs e = by at sides i xs e

pub ends_later : (w : Wire) (sides : List (List PlainSide)) → IsLater (without_ends w sides) sides
ends_later w sides = both_later (without_ends w sides) (without_first w.from.party sides) sides (first_later w.to.party (without_first w.from.party sides)) (first_later w.from.party sides)

pub all_later : (wires : List Wire) (sides : List (List PlainSide)) → IsLater (without_all wires sides) sides
all_later [] sides = same_later sides
all_later (w ∷ wires) sides = both_later (without_all wires (without_ends w sides)) (without_ends w sides) sides (all_later wires (without_ends w sides)) (ends_later w sides)

left_before : (sides before : List (List PlainSide)) (node number : ℕ) (left : List ItemShown) → IsLater sides before → IsLeftAmong sides node number left → IsLeftAmong before node number left
left_before sides before node number left later h =
    let (m, xs, at_x, same_x) = later.each h.i h.xs h.first in
    let (n, ys, at_y, same_y) = later.each h.j h.ys h.second in
    record {
      i = h.i;
      j = h.j;
      xs = xs;
      ys = ys;
      first = at_x;
      second = at_y;
      apart = h.apart;
      a = m + h.a;
      b = n + h.b;
      x = h.x;
      y = h.y;
      from = sym (same_x h.a) ∙ h.from;
      to = sym (same_y h.b) ∙ h.to;
      puts = h.puts;
      gets = h.gets;
      x_node = h.x_node;
      x_lane = h.x_lane;
      y_node = h.y_node;
      y_lane = h.y_lane;
      kept = h.kept;
      carried = h.carried;
      heeded = h.heeded;
    }

pub all_before : (sides before : List (List PlainSide)) (node number : ℕ) (lefts : List (List ItemShown)) → IsLater sides before → AreLeftAmong sides node number lefts → AreLeftAmong before node number lefts
all_before sides before node number [] later h = tt
all_before sides before node number (left ∷ lefts) later h = (left_before sides before node number left later h.0, all_before sides before node (number + 1) lefts later h.1)

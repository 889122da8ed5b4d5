-- The ends that the parties of a network have are those of the lanes of their nodes, each once.
use Rattle.std.proofs.Common.{◌≡◌, ◌⊎◌, inl, inr, ◌<◌, ℕ, true, false, true≢false, List, [], ◌∷◌, ◌++◌, Option, None, Some, length, refl, sym, ap, ◌∙◌, subst}
use Rattle.std.specs.Prelude.{slice_get}
use Rattle.std.specs.List.{AllByRecursion}
use Rattle.std.specs.Option.{option_and_then, option_map}
use Rattle.std.proofs.lemmas.Option.{same_Some, slice_get-map, slice_get_within}
use Rattle.csp_consistent.proofs.Public.{queue_same}
use Rattle.csp_consistent.specs.Reading.{is_queue}
use Rattle.csp_deck.specs.Carried.{IsCarried}
use Rattle.csp_deck.specs.Step.{item_numbers}
use Rattle.csp_ends.specs.Ends.{PlainHome, PlainSide}
use Rattle.csp_lists.specs.PlainDeck.{IsLinkRule, numbers_of}
use Rattle.csp_log.specs.declared.places.Carries.{Carries}
use Rattle.csp_log.specs.declared.places.Carries.TheVariants as lane
use Rattle.csp_log.specs.declared.places.QueueId.TheVariants as queue
use Rattle.csp_log.specs.declared.places.Rule.TheVariants as rule
use Rattle.csp_log.specs.declared.shown.ItemShown.{ItemShown}
use Rattle.csp_log.specs.declared.shown.ItemShown.TheVariants as item
use Rattle.csp_posts.specs.Between.{is_home}
use Rattle.csp_posts.specs.Posts.{PlainPost}
use Rattle.csp_posts.specs.Through.{IsThrough}
use Rattle.csp_log.specs.Who.{node_of}
use Rattle.csp_scene.specs.Scene.{PlainScene}
use Rattle.csp_standing.proofs.Public.{Apart, IsAt, all_at, home_named, post_at}
use Rattle.csp_standing.specs.Network.{IsNetworkOf, PlainNetwork, name_of}
use Rattle.csp_telling.proofs.Homes.{home_is, is_there}
use Rattle.csp_telling.proofs.Lanes.{AreAlone, AreHome}
use Rattle.csp_telling.proofs.Wires.{HasWire, side_by, wire_of}
use Rattle.csp_telling.specs.Remains.{AreRemains, PlainRemains}
use Rattle.csp_topology.specs.Lanes.{PlainLane}
use Rattle.csp_topology.specs.Parties.{parties_of}
use Rattle.csp_topology.specs.Wired.{IsEndOf, Side, StaysHome, end_on, getting, putting}
use Rattle.csp_topology.specs.Wires.{wire_at, wires_of}

-- what csp_topology says of each lane
abbrev pub AllStay : PlainScene → Type 0
AllStay scene = (node k : ℕ) (l : PlainLane) → wire_at scene node k ≡ Some l → StaysHome scene node l

-- what goes through a lane to or from a link has no buffers
no_number : (c : Carries) (i : ItemShown) → IsLinkRule c → IsCarried (rule.Lane c) i → item_numbers i ≡ []
no_number lane.Kiss (item.Packet m b) link it = absurd it
no_number lane.Kiss (item.Frame f) link it = refl
no_number lane.Kiss (item.Note n) link it = refl
no_number lane.Can (item.Packet m b) link it = absurd it
no_number lane.Can (item.Frame f) link it = refl
no_number lane.Can (item.Note n) link it = refl
no_number lane.Up i link it = absurd link
no_number lane.Down i link it = absurd link
no_number lane.Out i link it = absurd link

no_numbers : (c : Carries) (is : List ItemShown) → IsLinkRule c → AllByRecursion (IsCarried (rule.Lane c)) is → numbers_of is ≡ []
no_numbers c [] link all = refl
no_numbers c (i ∷ is) link all = ap (λ ns. ns ++ numbers_of is) (no_number c i link all.0) ∙ no_numbers c is link all.1

end_stays : (scene : PlainScene) (node : ℕ) (l : PlainLane) (side : Side) → StaysHome scene node l → IsEndOf node l (end_on side l)
end_stays scene node l putting stays = stays.from
end_stays scene node l getting stays = stays.to

-- the lane of an end of a post
side_wire : (scene : PlainScene) (n : PlainNetwork) (posts : List PlainPost) → IsNetworkOf scene n posts → (i a : ℕ) (s : PlainPost) (x : PlainSide) → slice_get posts i ≡ Some s → slice_get s.ends.sides a ≡ Some x → HasWire scene s.who (name_of x)
side_wire scene n posts net i a s x there at =
    let p = post_at scene n (parties_of scene) posts i s net.parties there in
    subst (λ w. HasWire scene w (name_of x)) (sym p.post.who)
    (wire_of scene p.party.who a (name_of x)
    (ap (λ names. slice_get names a) (sym p.post.sides) ∙ slice_get-map name_of s.ends.sides a ∙ ap (option_map name_of) at))

pub ends_alone : Apart → (scene : PlainScene) (n : PlainNetwork) (posts : List PlainPost) → IsNetworkOf scene n posts → AreAlone posts
unfolding AreAlone
ends_alone apart scene n posts net = λ i j a b s t x y there_s there_t at_x at_y node lane puts.
    let u = side_wire scene n posts net i a s x there_s at_x in
    let v = side_wire scene n posts net j b t y there_t at_y in
    let p = post_at scene n (parties_of scene) posts i s net.parties there_s in
    let r = post_at scene n (parties_of scene) posts j t net.parties there_t in
    let same : u.lane ≡ v.lane = same_Some u.lane v.lane (sym u.at ∙ ap (λ k. wire_at scene k x.lane) node ∙ ap (wire_at scene y.node) lane ∙ v.at) in
    let whose : s.who ≡ t.who = sym u.its.who ∙ ap (λ (l : PlainLane). (end_on (side_by x.puts) l).who) same ∙ ap (λ c. (end_on (side_by c) v.lane).who) puts ∙ v.its.who in
    let called : x.queue ≡ y.queue = sym u.its.queue ∙ ap (λ (l : PlainLane). (end_on (side_by x.puts) l).queue) same ∙ ap (λ c. (end_on (side_by c) v.lane).queue) puts ∙ v.its.queue in
    let place : i ≡ j = apart scene i j p.party r.party p.there r.there (sym p.post.who ∙ whose ∙ r.post.who) in
    let post : t ≡ s = same_Some t s (sym there_t ∙ ap (slice_get posts) (sym place) ∙ there_s) in
    (place, p.post.from.ends.apart a b x y at_x (ap (λ (z : PlainPost). slice_get z.ends.sides b) (sym post) ∙ at_y) (ap (is_queue x.queue) (sym called) ∙ queue_same x.queue))

-- as many lanes of a node are left as it has
lanes_left : (scene : PlainScene) (posts : List PlainPost) (all : List PlainRemains) → AreRemains scene posts all → (node : ℕ) (m : PlainRemains) (wires : List PlainLane) → slice_get all node ≡ Some m → slice_get (wires_of scene) node ≡ Some wires
    → length m.lanes ≡ length wires
lanes_left scene posts all remains node m wires there at =
    same_Some (length m.lanes) (length wires)
    (sym (slice_get-map (λ (r : PlainRemains). length r.lanes) all node ∙ ap (option_map (λ (r : PlainRemains). length r.lanes)) there)
    ∙ ap (λ ns. slice_get ns node) remains.lanes
    ∙ slice_get-map (λ (ls : List PlainLane). length ls) (wires_of scene) node
    ∙ ap (option_map (λ (ls : List PlainLane). length ls)) at)

-- the place of a lane is below how many there are
lane_within : (scene : PlainScene) (posts : List PlainPost) (all : List PlainRemains) → AreRemains scene posts all → (node : ℕ) (m : PlainRemains) → slice_get all node ≡ Some m → (k : ℕ) (l : PlainLane) → wire_at scene node k ≡ Some l → k < length m.lanes
lane_within scene posts all remains node m there k l at = by (slice_get (wires_of scene) node) refl at where
  by : (o : Option (List PlainLane)) → slice_get (wires_of scene) node ≡ o → option_and_then (λ wires. slice_get wires k) o ≡ Some l → k < length m.lanes
  by (Some wires) e f = subst (λ c. k < c) (sym (lanes_left scene posts all remains node m wires there e)) (slice_get_within wires k l f)
  by None e f = absurd cc

-- the node of an end is that of its party, or else the party is a link, and no buffer went through
abbrev IsEndAt : PlainPost → PlainSide → Type 0
IsEndAt s x = (node_of s.who ≡ Some x.node) ⊎ ((node_of s.who ≡ None) × (numbers_of x.end.items ≡ []))

end_at : (scene : PlainScene) → AllStay scene → (n : PlainNetwork) (posts : List PlainPost) → IsNetworkOf scene n posts → (i a : ℕ) (s : PlainPost) (x : PlainSide) → slice_get posts i ≡ Some s → slice_get s.ends.sides a ≡ Some x → IsEndAt s x
end_at scene stay n posts net i a s x there at =
    let u = side_wire scene n posts net i a s x there at in
    let p = post_at scene n (parties_of scene) posts i s net.parties there in
    by u p (end_stays scene x.node u.lane (side_by x.puts) (stay x.node x.lane u.lane u.at))
  where
    by : (u : HasWire scene s.who (name_of x)) → (p : IsAt scene n (parties_of scene) i s) → IsEndOf x.node u.lane (end_on (side_by x.puts) u.lane) → IsEndAt s x
    by u p (inl o) = inl (ap node_of (sym u.its.who) ∙ o.home)
    by u p (inr l) = inr (ap node_of (sym u.its.who ∙ l.link), no_numbers x.end.carries x.end.items (subst IsLinkRule (sym u.its.carries) l.frames) (all_at IsThrough s.ends.sides a x p.post.through at))

-- the node of a post's home is that of its party
home_node : (scene : PlainScene) (n : PlainNetwork) (posts : List PlainPost) → IsNetworkOf scene n posts → (i : ℕ) (s : PlainPost) → slice_get posts i ≡ Some s → option_map (λ (h : PlainHome). h.node) s.ends.home ≡ node_of s.who
home_node scene n posts net i s there = let p = post_at scene n (parties_of scene) posts i s net.parties there in p.post.home.node ∙ ap node_of (sym p.post.who)

no_some : (node : ℕ) (o : Option ℕ) → o ≡ Some node → o ≡ None → ⊥
no_some node o e f = absurd cc

pub ends_home : (scene : PlainScene) → AllStay scene → (n : PlainNetwork) (posts : List PlainPost) → IsNetworkOf scene n posts → (all : List PlainRemains) → AreRemains scene posts all → (node : ℕ) (m : PlainRemains) → slice_get all node ≡ Some m
    → AreHome posts node (length m.lanes)
ends_home scene stay n posts net all remains node m left = record {
  own = λ i a s x there at here.
      let e : x.node ≡ node = own i a s x there at here (end_at scene stay n posts net i a s x there at) in
      let u = side_wire scene n posts net i a s x there at in
      (e, lane_within scene posts all remains node m left x.lane u.lane (ap (λ k. wire_at scene k x.lane) (sym e) ∙ u.at));
  others = λ i a s x there at away here. others i s x there away here (end_at scene stay n posts net i a s x there at);
} where
  its_node : (i : ℕ) (s : PlainPost) → slice_get posts i ≡ Some s → is_home node s.ends.home ≡ true → node_of s.who ≡ Some node
  its_node i s there here =
      let h = home_is node s.ends.home here in
      sym (home_node scene n posts net i s there) ∙ ap (option_map (λ (g : PlainHome). g.node)) h.1 ∙ ap Some h.2

  own : (i a : ℕ) (s : PlainPost) (x : PlainSide) → slice_get posts i ≡ Some s → slice_get s.ends.sides a ≡ Some x → is_home node s.ends.home ≡ true → IsEndAt s x → x.node ≡ node
  own i a s x there at here (inl e) = same_Some x.node node (sym e ∙ its_node i s there here)
  own i a s x there at here (inr e) = absurd (no_some node (node_of s.who) (its_node i s there here) e.0)

  others : (i : ℕ) (s : PlainPost) (x : PlainSide) → slice_get posts i ≡ Some s → is_home node s.ends.home ≡ false → x.node ≡ node → IsEndAt s x → numbers_of x.end.items ≡ []
  others i s x there away here (inl e) =
      let h = home_named s.ends.home node (home_node scene n posts net i s there ∙ e ∙ ap Some here) in
      absurd (true≢false (sym (is_there node s.ends.home h.0 h.1 h.2) ∙ away))
  others i s x there away here (inr e) = e.1

-- The record of a run in threads is causal: what an application and its router have got of each other was put before.
use Rattle.std.proofs.Common.{◌≡◌, ◌⊎◌, inl, inr, ℕ, zero, suc, ◌+◌, ◌&&◌, Bool, true, false, cond, Option, None, Some, List, [], ◌∷◌, ◌++◌, length, not, refl, sym, ap, ◌∙◌, subst, arith, slice_get}
use Rattle.std.specs.List.{AllByRecursion, find}
use Rattle.std.specs.Option.{option_map}
use Rattle.std.specs.Prelude.{IfSome, IsSome}
use Rattle.std.proofs.lemmas.Bool.{eq-eqb}
use Rattle.std.proofs.lemmas.Option.{same_Some, slice_get_within}
use Rattle.csp_causal.specs.Causal.{AreCausal, IsCausal}
use Rattle.csp_consistent.proofs.Public.{Logged, IsAppAt, IsOf, IsOwner, IsRouterAt, logged}
use Rattle.csp_consistent.specs.Reading.{entries_of, gets, is_queue}
use Rattle.csp_ends.specs.Ends.{PlainSide}
use Rattle.csp_ends.specs.Sides.{IsBacked, back_name, back_of, is_back, is_back_by, is_turned}
use Rattle.csp_ends.specs.Traced.{IsSideMarked, told_of}
use Rattle.csp_lane.specs.Marks.{AreHeeded}
use Rattle.csp_log.specs.declared.entry.Entry.{Entry}
use Rattle.csp_log.specs.declared.places.QueueId.{QueueId}
use Rattle.csp_log.specs.declared.places.QueueId.TheVariants as queue
use Rattle.csp_posts.specs.Posts.{PlainPost}
use Rattle.csp_record.specs.Record.{PlainRecord}
use Rattle.csp_log.specs.declared.who.Who.{Who}
use Rattle.csp_log.specs.declared.who.Who.TheVariants as who
use Rattle.csp_scene.specs.Scene.{PlainNode, PlainScene}
use Rattle.csp_standing.proofs.Public.{each_at, post_at}
use Rattle.csp_standing.specs.Network.{PlainNetwork}
use Rattle.csp_telling.proofs.Heeded.{heeded_causal}
use Rattle.csp_telling.proofs.LanesLeft.{HasLeft, from_called, from_entries, from_who, left_of, to_called, to_entries, to_who}
use Rattle.csp_telling.proofs.Logs.{are_logs}
use Rattle.csp_telling.proofs.Nodes.{IsEnded}
use Rattle.csp_topology.proofs.Public.{of_app}
use Rattle.csp_topology.specs.Lanes.{leader_of}
use Rattle.csp_topology.specs.Parties.{PlainOpening, parties_of}
use Rattle.csp_topology.specs.Wired.{IsWire}
use Rattle.csp_topology.specs.Wires.{down_lane, lanes_of, up_lane}

-- ---- the marks of an end

found_there : {X : Type 0} (test : X → Bool) (xs : List X) (k : ℕ) (x : X) → slice_get xs k ≡ Some x → test x ≡ true → IsSome (find test xs)
found_there test [] k x at is = absurd cc
found_there test (y ∷ ys) zero x at is = by (test y) (ap test (same_Some y x at) ∙ is) where
  by : (t : Bool) → t ≡ true → IsSome (cond t (Some y) (find test ys))
  by true e = refl
  by false e = absurd cc
found_there test (y ∷ ys) (suc k) x at is = by (test y) (found_there test ys k x at is) where
  by : (t : Bool) → IsSome (find test ys) → IsSome (cond t (Some y) (find test ys))
  by true h = refl
  by false h = h

turned : (x y : PlainSide) (way : Bool) → x.puts ≡ way → y.puts ≡ not way → is_turned x y ≡ true
turned x y true e f = rw (e, f) refl
turned x y false e f = rw (e, f) refl

goes_back : (k : ℕ) (x y : PlainSide) (way : Bool) → x.queue ≡ queue.Up k → y.queue ≡ queue.Down k → x.puts ≡ way → y.puts ≡ not way → is_back x y ≡ true
goes_back k x y way called other e f =
    ap (λ q. is_back_by (back_name q) x y) called ∙ ap (λ q. is_queue (queue.Down k) q && is_turned x y) other ∙ ap (λ t. t && is_turned x y) (eq-eqb k k refl) ∙ turned x y way e f

told_about : (o : Option PlainSide) → IsSome o → IsSome (option_map (λ (t : PlainSide). t.end.tally) o)
told_about (Some t) h = refl
told_about None h = absurd cc

-- the marks of an end of a lane up are what the log says, where the party has the end of the lane down that goes the other way
marks_told : (k : ℕ) (es : List Entry) (sides : List PlainSide) (b : ℕ) (x y : PlainSide) (way : Bool) → IsBacked sides x → IsSideMarked es x → slice_get sides b ≡ Some y → x.queue ≡ queue.Up k → y.queue ≡ queue.Down k → x.puts ≡ way → y.puts ≡ not way
    → x.end.marks ≡ told_of way (queue.Up k) (queue.Down k) es
marks_told k es sides b x y way backed marked at called other e f =
    let about : IsSome x.end.about = subst (λ o. IsSome o) (sym backed) (told_about (back_of sides x) (found_there (is_back x) sides b y at (goes_back k x y way called other e f))) in
    let told : x.end.marks ≡ told_of x.puts (queue.Up k) (queue.Down k) es = subst (λ q. IfSome (back_name q) (λ d. x.end.marks ≡ told_of x.puts q d es)) called (marked about) in
    told ∙ ap (λ w. told_of w (queue.Up k) (queue.Down k) es) e

-- ---- an application and its router

-- what is known of the scene
pub record IsCalled (scene : PlainScene) : Type 0 where
  pub wires : AllByRecursion (IsWire scene) (lanes_of scene)
  pub apart : (i j : ℕ) (o p : PlainOpening) → slice_get (parties_of scene) i ≡ Some o → slice_get (parties_of scene) j ≡ Some p → o.who ≡ p.who → i ≡ j

no_gets : (q : QueueId) (before after : List Entry) → [] ≡ before ++ after → gets q before ≡ []
no_gets q [] after e = refl
no_gets q (x ∷ before) after e = absurd cc

none_first : (there back : QueueId) (first second : List Entry) → first ≡ [] → AreCausal there back first second
none_first there back first second none before after earlier later b s =
    let few = ap length (no_gets back before after (sym none ∙ b)) in
    inr (omega (arith, few))

none_second : (there back : QueueId) (first second : List Entry) → second ≡ [] → AreCausal there back first second
none_second there back first second none before after earlier later b s =
    let few = ap length (no_gets there earlier later (sym none ∙ s)) in
    inl (omega (arith, few))

module _ (scene : PlainScene) (n : PlainNetwork) (posts : List PlainPost) (r : PlainRecord) (ended : IsEnded scene n posts r) (known : IsCalled scene) where
  -- two posts of one name are one
  one_post : (i j : ℕ) (s t : PlainPost) → slice_get posts i ≡ Some s → slice_get posts j ≡ Some t → s.who ≡ t.who → s ≡ t
  one_post i j s t at there same =
      let a = post_at scene n (parties_of scene) posts i s ended.net.parties at in
      let b = post_at scene n (parties_of scene) posts j t ended.net.parties there in
      let place : i ≡ j = known.apart i j a.party b.party a.there b.there (sym a.post.who ∙ same ∙ b.post.who) in
      same_Some s t (sym at ∙ ap (slice_get posts) place ∙ there)

  module _ (node k : ℕ) (hub : Who) (u : IsWire scene (up_lane node hub k)) (v : IsWire scene (down_lane node hub k)) where
    up : HasLeft posts r (up_lane node hub k) u.place
    up = left_of scene n posts r ended (up_lane node hub k) u

    down : HasLeft posts r (down_lane node hub k) v.place
    down = left_of scene n posts r ended (down_lane node hub k) v

    -- the application's end of the lane up, and its log
    app_marks : up.is.x.end.marks ≡ told_of true (queue.Up k) (queue.Down k) (entries_of r (who.App node k))
    app_marks =
        let a = up.is in
        let b = down.is in
        let s = post_at scene n (parties_of scene) posts a.i a.s ended.net.parties a.joined.first in
        let same : b.t ≡ a.s = one_post b.j a.i b.t a.s b.joined.second a.joined.first
        (to_who scene n posts r ended (down_lane node hub k) v down.left b ∙ sym (from_who scene n posts r ended (up_lane node hub k) u up.left a)) in
        marks_told k a.s.entries a.s.ends.sides b.joined.b a.x b.y true (each_at (IsBacked a.s.ends.sides) a.s.ends.sides a.joined.a a.x s.post.from.ends.backed a.joined.from)
        (each_at (IsSideMarked a.s.entries) a.s.ends.sides a.joined.a a.x s.post.from.marked a.joined.from) (ap (λ (p : PlainPost). slice_get p.ends.sides b.joined.b) (sym same) ∙ b.joined.to)
        (from_called scene n posts r ended (up_lane node hub k) u up.left a) (to_called scene n posts r ended (down_lane node hub k) v down.left b) a.joined.puts b.joined.gets
        ∙ ap (told_of true (queue.Up k) (queue.Down k)) (from_entries scene n posts r ended (up_lane node hub k) u up.left a)

    -- the router's end, and its log
    hub_marks : up.is.y.end.marks ≡ told_of false (queue.Up k) (queue.Down k) (entries_of r hub)
    hub_marks =
        let a = up.is in
        let b = down.is in
        let t = post_at scene n (parties_of scene) posts a.j a.t ended.net.parties a.joined.second in
        let same : b.s ≡ a.t = one_post b.i a.j b.s a.t b.joined.first a.joined.second
        (from_who scene n posts r ended (down_lane node hub k) v down.left b ∙ sym (to_who scene n posts r ended (up_lane node hub k) u up.left a)) in
        marks_told k a.t.entries a.t.ends.sides b.joined.a a.y b.x false (each_at (IsBacked a.t.ends.sides) a.t.ends.sides a.joined.b a.y t.post.from.ends.backed a.joined.to)
        (each_at (IsSideMarked a.t.entries) a.t.ends.sides a.joined.b a.y t.post.from.marked a.joined.to) (ap (λ (p : PlainPost). slice_get p.ends.sides b.joined.a) (sym same) ∙ b.joined.from)
        (to_called scene n posts r ended (up_lane node hub k) u up.left a) (from_called scene n posts r ended (down_lane node hub k) v down.left b) a.joined.gets b.joined.puts
        ∙ ap (told_of false (queue.Up k) (queue.Down k)) (to_entries scene n posts r ended (up_lane node hub k) u up.left a)

    pair_causal : AreCausal (queue.Up k) (queue.Down k) (entries_of r (who.App node k)) (entries_of r hub)
    pair_causal =
        heeded_causal (queue.Up k) (queue.Down k) (entries_of r (who.App node k)) (entries_of r hub)
        (subst (λ ms. AreHeeded ms (told_of false (queue.Up k) (queue.Down k) (entries_of r hub))) app_marks (subst (λ ns. AreHeeded up.is.x.end.marks ns) hub_marks up.is.heeded))

  pub causal : IsCausal r
  causal node k =
      by (logged scene r (who.App node k) (are_logs scene n posts r ended.net ended.closed)) (logged scene r (who.Router node) (are_logs scene n posts r ended.net ended.closed))
    where
      first : List Entry
      first = entries_of r (who.App node k)

      second : List Entry
      second = entries_of r (who.Router node)

      by : (first ≡ []) ⊎ Logged (IsOf scene) (who.App node k) r.parties → (second ≡ []) ⊎ Logged (IsOf scene) (who.Router node) r.parties → AreCausal (queue.Up k) (queue.Down k) first second
      by (inl none) other = none_first (queue.Up k) (queue.Down k) first second none
      by (inr l) (inl none) = none_second (queue.Up k) (queue.Down k) first second none
      by (inr l) (inr m) =
          let app : IsAppAt scene.nodes node k l.opening.party = subst (λ w. IsOwner scene.nodes scene.links w l.opening.party) l.name l.holds in
          let router : IsRouterAt scene.nodes scene.links node m.opening.party = subst (λ w. IsOwner scene.nodes scene.links w m.opening.party) m.name m.holds in
          let one : app.node ≡ router.node = same_Some app.node router.node (sym app.there ∙ router.there) in
          let wires : IsWire scene (up_lane node (who.Router node) k) × IsWire scene (down_lane node (who.Router node) k) =
          subst (λ a. IsWire scene (up_lane node (leader_of node a) k) × IsWire scene (down_lane node (leader_of node a) k)) (ap (λ (c : PlainNode). c.addr) one ∙ router.called)
          (of_app (IsWire scene) scene known.wires node k app.node app.there (slice_get_within app.node.apps k app.app app.of_it)) in
          pair_causal node k (who.Router node) wires.0 wires.1

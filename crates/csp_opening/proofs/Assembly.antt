-- What was opened for a scene can be put together.
use Rattle.std.proofs.Common.{◌≡◌, ◌+◌, ◌==◌, ◌<◌, ◌≤◌, ℕ, zero, suc, Bool, true, false, true≢false, List, [], ◌∷◌, ◌++◌, Some, length, map, refl, sym, ap, ◌∙◌, subst, arith}
use Rattle.std.specs.Global.{Vec}
use Rattle.std.specs.Prelude.{slice_get, if◌then◌else◌}
use Rattle.std.specs.List.{AllByRecursion, AllZip, sum_by}
use Rattle.std.specs.Option.{option_map}
use Rattle.std.proofs.lemmas.List.{length-append, length-map}
use Rattle.std.proofs.lemmas.List.Sums.{sum_by-cons}
use Rattle.std.proofs.lemmas.Option.{same_Some, slice_get-map, slice_get_within}
use Rattle.csp_arena.specs.Cells.{RegionName}
use Rattle.csp_ends.specs.Ends.{PlainSide}
use Rattle.csp_inbox.specs.Marks.{is_in}
use Rattle.csp_inbox.specs.Passes as mails
use Rattle.csp_lane.specs.Ends as ways
use Rattle.csp_opening.proofs.Fabrics.{AreOpened, its_new, whos_are}
use Rattle.csp_opening.proofs.Leaving.{as_many}
use Rattle.csp_opening.proofs.NewSides.{pair_at}
use Rattle.csp_opening.proofs.Ordered.{CanPostPlain, InOrder, can_plain, parties_in_order}
use Rattle.csp_opening.proofs.Parties.{can_post, its_ends}
use Rattle.csp_opening.proofs.Passing.{IsReadyFor, all_fixed, can_part_all, homes_same, opening_stays}
use Rattle.csp_opening.proofs.Whos.{all_markable}
use Rattle.csp_opening.proofs.Zipped.{placed_at}
use Rattle.csp_opening.specs.Handed.{IsAmong, ends_among, ends_of, getting, handed_among, handed_from, handed_of, list_at, putting, room_at}
use Rattle.csp_opening.specs.Opened.{AreNodesWith, ends_in, lead_in, pair_of, pairs_on, queues_in, region_in}
use Rattle.csp_opening.specs.Parted.{AreLeadsOf, CanPartAll, IsOpening, part_home, part_homes, parts_left}
use Rattle.csp_opening.specs.Posted.{CanPost}
use Rattle.csp_opening.specs.Unposted.{IsUnposted, unposted_name}
use Rattle.csp_opening.specs.Whole.{CanAssemble, whos}
use Rattle.csp_opening.specs.declared.homes.Lead.{Lead}
use Rattle.csp_opening.specs.declared.lanes.Pair.{Pair}
use Rattle.csp_opening.specs.declared.nodes.Node.{Node}
use Rattle.csp_opening.specs.declared.unposted.Unposted.{Unposted}
use Rattle.csp_pool.specs.declared.hand.Hand.{Hand}
use Rattle.csp_log.specs.declared.who.Who.{Who}
use Rattle.csp_scene.specs.Ranges.{IsScene}
use Rattle.csp_scene.specs.Scene.{PlainScene}
use Rattle.csp_standing.proofs.Public.{all_at, all_from}
use Rattle.csp_topology.proofs.Public.{plans_count}
use Rattle.csp_topology.specs.Parties.{PlainOpening, parties_of}
use Rattle.csp_topology.specs.Plan.{PlainNodePlan, plans_from}
use Rattle.csp_topology.specs.Wires.{wires_of}
use Rattle.csp_topology.specs.Wiring.{IsWireOf}
use Rattle.csp_topology.specs.declared.wire.Wire.{Wire}

-- the passes of the nodes are their leads
leads_are : (nodes : List PlainNodePlan) (wires : List (List Wire)) (xs : List Node) → AreNodesWith nodes wires xs → AreLeadsOf (map queues_in xs) (map lead_in xs)
leads_are [] [] [] h = tt
leads_are (n ∷ nodes) (ws ∷ wires) (x ∷ xs) h = (
  record {
    pool = h.0.base.of_it;
    opens = ap (λ (v : Hand). v.opens) h.0.base.hand;
    inbox = record { inbox = ap (λ (p : mails.PlainPass). p.inbox) h.0.pass; room = ap (λ (p : mails.PlainPass). p.role.room) h.0.pass };
    reads = ap (λ (p : mails.PlainPass). p.role.reads) h.0.pass;
  },
  leads_are nodes wires xs h.1,
)
leads_are [] (ws ∷ wires) xs h = absurd h
leads_are [] [] (x ∷ xs) h = absurd h
leads_are (n ∷ nodes) [] xs h = absurd h
leads_are (n ∷ nodes) (ws ∷ wires) [] h = absurd h

openings_are : (nodes : List PlainNodePlan) (wires : List (List Wire)) (xs : List Node) → AreNodesWith nodes wires xs → AllByRecursion IsOpening (map lead_in xs)
openings_are [] [] [] h = tt
openings_are (n ∷ nodes) (ws ∷ wires) (x ∷ xs) h =
    (record { mark = ap (λ (p : mails.PlainPass). p.role.mark) h.0.pass; reads = ap (λ (p : mails.PlainPass). p.role.reads) h.0.pass }, openings_are nodes wires xs h.1)
openings_are [] (ws ∷ wires) xs h = absurd h
openings_are [] [] (x ∷ xs) h = absurd h
openings_are (n ∷ nodes) [] xs h = absurd h
openings_are (n ∷ nodes) (ws ∷ wires) [] h = absurd h

-- they are ready to be parted
ready_for : (nodes : List PlainNodePlan) (wires : List (List Wire)) (xs : List Node) (names : List Who) → AreNodesWith nodes wires xs → (k m : ℕ) (l : Lead) → slice_get (map lead_in xs) k ≡ Some l → IsReadyFor m names l
ready_for (n ∷ nodes) (ws ∷ wires) (x ∷ xs) names h zero m l e = subst (IsReadyFor m names) (same_Some (lead_in x) l e) (record {
  mark = ap (λ (p : mails.PlainPass). p.role.mark) h.0.pass;
  free = λ j place out at. true≢false (sym out ∙ ap (λ (p : mails.PlainPass). is_in p.role.out j) h.0.pass);
  critical = ap (λ (p : mails.PlainPass). p.critical.kept) h.0.pass;
  high = ap (λ (p : mails.PlainPass). p.high.kept) h.0.pass;
  normal = ap (λ (p : mails.PlainPass). p.normal.kept) h.0.pass;
  low = ap (λ (p : mails.PlainPass). p.low.kept) h.0.pass;
})
ready_for (n ∷ nodes) (ws ∷ wires) (x ∷ xs) names h (suc k) m l e = ready_for nodes wires xs names h.1 k m l e
ready_for nodes wires [] names h k m l e = absurd cc
ready_for [] [] (x ∷ xs) names h k m l e = absurd h
ready_for [] (ws ∷ wires) (x ∷ xs) names h k m l e = absurd h
ready_for (n ∷ nodes) [] (x ∷ xs) names h k m l e = absurd h

-- a row has as many pairs as wires, or lanes if they are fewer
pairs_few : (region : RegionName) (ws : List Wire) (ls : List ways.PlainLane) → length (pairs_on region ws ls) ≤ length ws
pairs_few region [] ls = omega arith
pairs_few region (w ∷ ws) [] = omega arith
pairs_few region (w ∷ ws) (l ∷ ls) = let r = pairs_few region ws ls in omega (arith, r)

few_pairs : (nodes : List PlainNodePlan) (wires : List (List Wire)) (xs : List Node) → AreNodesWith nodes wires xs → AllByRecursion (λ (ws : List Wire). length ws < 256) wires → AllByRecursion (λ (pairs : List Pair). length pairs < 256) (map ends_in xs)
few_pairs [] [] [] h few = tt
few_pairs (n ∷ nodes) (ws ∷ wires) (x ∷ xs) h few = (
  (let long = ap (λ (ps : List Pair). length ps) h.0.lanes.ends in let low = pairs_few (region_in x) ws x.lanes.lanes.items in let most = few.0 in omega (arith, long, low, most)),
  few_pairs nodes wires xs h.1 few.1,
)
few_pairs [] (ws ∷ wires) xs h few = absurd h
few_pairs [] [] (x ∷ xs) h few = absurd h
few_pairs (n ∷ nodes) [] xs h few = absurd h
few_pairs (n ∷ nodes) (ws ∷ wires) [] h few = absurd h

-- the parties of each pair are among those of the scene
all_among : {A : Type 0} → (P : A → Type 0) (xss : List (List A)) → ((node k : ℕ) (x : A) → placed_at xss node k ≡ Some x → P x) → AllByRecursion (λ (xs : List A). AllByRecursion P xs) xss
all_among P [] h = tt
all_among P (xs ∷ xss) h = (all_from P xs (h 0), all_among P xss (λ node. h (suc node)))

pair_among : (scene : PlainScene) (wires : List (List Wire)) (xs : List Node) (count : ℕ) → count ≡ length (parties_of scene) → AreNodesWith (plans_from 0 scene.nodes scene.links) wires xs → AllZip (AllZip (IsWireOf scene)) (wires_of scene) wires
    → AllByRecursion (λ (pairs : List Pair). AllByRecursion (IsAmong count) pairs) (map ends_in xs)
pair_among scene wires xs count many nodes rows = all_among (IsAmong count) (map ends_in xs) (λ node k x e.
    let r = pair_at (IsWireOf scene) (plans_from 0 scene.nodes scene.links) wires xs (wires_of scene) node k x nodes rows e in
    let names = map (λ (o : PlainOpening). o.who) (parties_of scene) in
    let long = length-map (parties_of scene) (λ (o : PlainOpening). o.who) in
    record {
      from = (let low = slice_get_within names x.wire.from.party r.wire.from.who r.of.from.party in omega (arith, low, long, many));
      to = (let low = slice_get_within names x.wire.to.party r.wire.to.who r.of.to.party in omega (arith, low, long, many));
    })

-- as many ends are handed as were counted
one_long : (p node k : ℕ) (x : Pair) → length (handed_of p node k x) ≡ ends_of p x.wire
one_long p node k x = by (x.wire.from.party == p) (x.wire.to.party == p) where
  by : (a b : Bool) → length ((if a then putting node k x ∷ [] else []) ++ (if b then getting node k x ∷ [] else [])) ≡ (if a then 1 else 0) + (if b then 1 else 0)
  by true true = refl
  by true false = refl
  by false true = refl
  by false false = refl

row_handed : (p node k : ℕ) (region : RegionName) (ws : List Wire) (ls : List ways.PlainLane) → length (handed_among p node k (pairs_on region ws ls)) ≤ ends_among p ws
row_handed p node k region [] ls = omega arith
row_handed p node k region (w ∷ ws) [] = omega arith
row_handed p node k region (w ∷ ws) (l ∷ ls) =
    let a = length-append (handed_of p node k (pair_of region w l)) (handed_among p node (k + 1) (pairs_on region ws ls)) in
    let b = one_long p node k (pair_of region w l) in
    let c = sum_by-cons (ends_of p) w ws in
    let d = row_handed p node (k + 1) region ws ls in
    omega (arith, a, b, c, d)

rows_handed : (p node : ℕ) (nodes : List PlainNodePlan) (wires : List (Vec Wire)) (xs : List Node) → AreNodesWith nodes (map (λ (ws : Vec Wire). ws.items) wires) xs
    → length (handed_from p node (map ends_in xs)) ≤ sum_by (λ (ws : Vec Wire). ends_among p ws.items) wires
rows_handed p node [] [] [] h = omega arith
rows_handed p node (n ∷ nodes) (ws ∷ wires) (x ∷ xs) h =
    let a = length-append (handed_among p node 0 (ends_in x)) (handed_from p (node + 1) (map ends_in xs)) in
    let b = ap (λ ps. length (handed_among p node 0 ps)) h.0.lanes.ends in
    let c = row_handed p node 0 (region_in x) ws.items x.lanes.lanes.items in
    let d = sum_by-cons (λ (v : Vec Wire). ends_among p v.items) ws wires in
    let e = rows_handed p (node + 1) nodes wires xs h.1 in
    omega (arith, a, b, c, d, e)
rows_handed p node [] (ws ∷ wires) xs h = absurd h
rows_handed p node [] [] (x ∷ xs) h = absurd h
rows_handed p node (n ∷ nodes) [] xs h = absurd h
rows_handed p node (n ∷ nodes) (ws ∷ wires) [] h = absurd h

-- each party may have what it is handed
can_posts : (xs : List Node) (names : List Who) (p : ℕ) (unposted : List Unposted) → ((k j : ℕ) (t : Unposted) → slice_get unposted k ≡ Some t → j ≡ p + k → CanPost t (its_ends xs names j t.who))
    → CanPostPlain p (map ends_in xs) (parts_left (map lead_in xs) names) unposted (map (part_home (map lead_in xs)) (whos unposted))
can_posts xs names p [] h = tt
can_posts xs names p (s ∷ unposted) h = (h 0 p s refl (omega arith), can_posts xs names (p + 1) unposted (λ k j t e same. h (suc k) j t e (omega (arith, same))))

in_order : (scene : PlainScene) (unposted : List Unposted) → map unposted_name unposted ≡ parties_of scene → InOrder 0 (whos unposted)
unfolding parties_of
in_order scene unposted e = subst (InOrder 0) (sym (whos_are scene unposted e)) (parties_in_order scene.nodes scene.links)

pub ordered : (scene : PlainScene) (unposted : List Unposted) → map unposted_name unposted ≡ parties_of scene → InOrder 0 (whos unposted)
ordered scene unposted e = in_order scene unposted e

-- all of it
pub can_assemble : (scene : PlainScene) (wires : List (Vec Wire)) (xs : List Node) (unposted : List Unposted) (sides : List (Vec PlainSide)) → IsScene scene → AreOpened scene (map (λ (ws : Vec Wire). ws.items) wires) xs unposted
    → AllByRecursion (λ (ws : List Wire). length ws < 256) (map (λ (ws : Vec Wire). ws.items) wires) → length sides ≡ length unposted → ((p : ℕ) → list_at sides p ≡ [])
    → ((p : ℕ) → p < length unposted → sum_by (λ (ws : Vec Wire). ends_among p ws.items) wires ≤ room_at sides p) → CanAssemble sides xs unposted
can_assemble scene wires xs unposted sides is opened few count blank roomy =
    let rows = map (λ (ws : Vec Wire). ws.items) wires in
    let plans = plans_from 0 scene.nodes scene.links in
    let long = as_many plans rows xs opened.nodes ∙ plans_count 0 scene.nodes scene.links in
    let parties : length unposted ≡ length (parties_of scene) = sym (length-map unposted unposted_name) ∙ ap (λ (os : List PlainOpening). length os) opened.names in
    let names = whos_are scene unposted opened.names in
    let order = in_order scene unposted opened.names in
    record {
      count = count;
      blank = blank;
      low = (let a = length-map xs ends_in in let most = is.few in omega (arith, a, long, most));
      few = few_pairs plans rows xs opened.nodes few;
      among = pair_among scene rows xs (length sides) (count ∙ parties) opened.nodes opened.rows;
      room = λ p low.
          (let none = ap (λ (l : List PlainSide). length l) (blank p) in let a = rows_handed p 0 plans wires xs opened.nodes in let b = roomy p (omega (arith, low, count)) in omega (arith, none, a, b));
      lead = leads_are plans rows xs opened.nodes;
      part = subst (λ ws. CanPartAll (map lead_in xs) ws) (sym names)
          (can_part_all (length scene.nodes) (map lead_in xs) (map (λ (o : PlainOpening). o.who) (parties_of scene)) (length-map xs lead_in ∙ long) (all_markable scene is) opened.apart
          (λ m l e. ready_for plans rows xs (map (λ (o : PlainOpening). o.who) (parties_of scene)) opened.nodes m m l e));
      opening = opening_stays (map lead_in xs) (parts_left (map lead_in xs) (whos unposted)) (all_fixed (map lead_in xs) (whos unposted)) (openings_are plans rows xs opened.nodes);
      post = can_plain (map ends_in xs) (parts_left (map lead_in xs) (whos unposted)) unposted (part_homes (map lead_in xs) (whos unposted)) order
          (subst (CanPostPlain 0 (map ends_in xs) (parts_left (map lead_in xs) (whos unposted)) unposted) (sym (homes_same (map lead_in xs) (map lead_in xs) (whos unposted) refl))
          (can_posts xs (whos unposted) 0 unposted (λ k j t e same.
          let at : slice_get (parties_of scene) k ≡ Some (unposted_name t) = ap (λ os. slice_get os k) (sym opened.names) ∙ slice_get-map unposted_name unposted k ∙ ap (option_map unposted_name) e in
          subst (λ p. CanPost t (its_ends xs (whos unposted) p t.who)) (omega (arith, same))
          (can_post scene xs (whos unposted) k t (unposted_name t) opened.laws at refl (all_at (IsUnposted xs) unposted k t opened.each e) (its_new scene rows xs unposted k t opened e)))));
    }

-- The end of a network's run.
use Rattle.std.proofs.Common.{◌≡◌, ◌+◌, ◌≤◌, ℕ, Bool, Some, List, [], ◌∷◌, ◌++◌, All, ◌&&◌, length, map, take, drop, get_or, refl, sym, ap, ◌∙◌, subst, arith, append_assoc, append-nil}
use Rattle.std.specs.Prelude.{slice_get}
use Rattle.std.specs.Global.{Vec}
use Rattle.std.specs.List.{flat_map, list_all}
use Rattle.std.proofs.lemmas.List.{drop_all, length-map, take_all}
use Rattle.std.proofs.lemmas.Option.{slice_get-get_or}
use Rattle.csp_closing.proofs.Ended.{IsPileOf, LongSame, ReturnsAll, can_end_all, ended_at, homes_same, piles_of, pools_are, posts_same, sides_same}
use Rattle.csp_closing.proofs.Fabric.{StaysAll, all_remains, can_all_end, queues_noted, stores_long, wired_all, nodes_long, whos_of}
use Rattle.csp_closing.proofs.Lists.{all_from, made_from}
use Rattle.csp_closing.proofs.Members.{homes_of}
use Rattle.csp_closing.proofs.Noted.{all_noted, back_long}
use Rattle.csp_closing.proofs.Piles.{all_long}
use Rattle.csp_closing.proofs.Remains.{sides_of}
use Rattle.csp_closing.proofs.Timing.{rounds_logged, run_ordered}
use Rattle.csp_closing.specs.Nodes.{AreLeftIn, CanAllEnd, NodesEnd, all_queue_notes, queue_count}
use Rattle.csp_closing.specs.Retired.{IsFresh, PlainRest, all_homes, all_rest, all_sides, post_of, rest_of, retired_of, to_retire}
use Rattle.csp_closing.specs.Stores.{CanEndParties, CanGiveBack, PlainPile, parties_back, pile_of, pool_part, rest_held, rest_log, with_held}
use Rattle.csp_closing.specs.Times.{AreOrdered, IsOrdered, rounds_among}
use Rattle.csp_consistent.specs.Pools.{left_held, pools_held}
use Rattle.csp_ending.specs.Notes.{PlainNotes}
use Rattle.csp_log.specs.Remains.{PlainHeld, PlainLeft}
use Rattle.csp_party.specs.Any.{is_done}
use Rattle.csp_posts.specs.Posts.{PlainPost}
use Rattle.csp_posts.specs.Seen.{SeenPost}
use Rattle.csp_posts.specs.declared.retired.Retired.{Retired}
use Rattle.csp_record.specs.Record.{PlainPartyLog, PlainRecord}
use Rattle.csp_scene.specs.Kept.{AreLinksAfter}
use Rattle.csp_scene.specs.Ranges.{IsScene}
use Rattle.csp_scene.specs.Scene.{PlainScene}
use Rattle.csp_standing.proofs.Public.{Apart, Hubs, Led, post_at, JoinsAll}
use Rattle.csp_standing.specs.Fabrics.{IsFabricOf, network_of}
use Rattle.csp_standing.specs.Network.{IsNetworkOf, PlainNetwork}
use Rattle.csp_standing.specs.Played.{are_done}
use Rattle.csp_standing.specs.declared.fabric.Fabric.{Fabric}
use Rattle.csp_standing.specs.declared.fabric.NodeStore.{NodeStore}
use Rattle.csp_telling.specs.Closed.{IsClosed, IsRecordOf, log_of, post_held}
use Rattle.csp_telling.specs.Remains.{AreRemains, PlainRemains}
use Rattle.csp_topology.specs.Parties.{parties_of, party_steps}
use Rattle.csp_topology.specs.Wires.{wires_of}
use Rattle.csp_topology.specs.declared.wire.Wire.{Wire}

-- what the laws below say of every scene
pub record Laws : Type 0 where
  pub led : Led
  pub hubs : Hubs
  pub apart : Apart
  pub joins : (scene : PlainScene) → IsScene scene → AreLinksAfter (length scene.nodes) [] scene.links → JoinsAll scene
  pub stays : (scene : PlainScene) → IsScene scene → AreLinksAfter (length scene.nodes) [] scene.links → StaysAll scene
  pub returns : (scene : PlainScene) (n : PlainNetwork) (posts : List PlainPost) (all : List PlainRemains) → IsScene scene → AreLinksAfter (length scene.nodes) [] scene.links → IsNetworkOf scene n posts → AreRemains scene posts all → ReturnsAll scene posts all
  pub long : LongSame

-- a network of a scene, with its parties out of their run
pub record IsRun (scene : PlainScene) (f : Fabric) (posts : List SeenPost) (rs : List Retired) : Type 0 where
  pub is : IsScene scene
  pub after : AreLinksAfter (length scene.nodes) [] scene.links
  pub fabric : IsFabricOf scene f posts
  pub same : map retired_of rs ≡ map to_retire posts
  pub fresh : All IsFresh rs

pub net_of : (scene : PlainScene) (f : Fabric) (posts : List SeenPost) (rs : List Retired) → IsRun scene f posts rs → IsNetworkOf scene (network_of f) (map post_of rs)
net_of scene f posts rs run = subst (IsNetworkOf scene (network_of f)) (sym (posts_same rs posts run.same)) run.fabric.network

-- the wires of a fabric
abbrev pub wires_in : Fabric → List (List Wire)
wires_in f = map (λ ws. ws.items) f.wires.items

pub queues_can : Laws → (scene : PlainScene) (f : Fabric) (posts : List SeenPost) (rs : List Retired) → IsRun scene f posts rs → CanAllEnd 0 f.queues f.rooms.items (wires_in f) f.stores.items (all_homes rs) (all_sides rs)
queues_can laws scene f posts rs run =
    subst (λ (ss : List _). CanAllEnd 0 f.queues f.rooms.items (wires_in f) f.stores.items (all_homes rs) ss) (sym (sides_same rs))
    (subst (λ (hs : List _). CanAllEnd 0 f.queues f.rooms.items (wires_in f) f.stores.items hs (sides_of (map post_of rs))) (sym (homes_same rs))
    (can_all_end laws.led laws.hubs laws.apart scene (laws.joins scene run.is run.after) (laws.stays scene run.is run.after) f (map post_of rs) (net_of scene f posts rs run) run.fabric.wires run.fabric.stores run.fabric.rooms))

pub stores_few : (scene : PlainScene) (f : Fabric) (posts : List SeenPost) (rs : List Retired) → IsRun scene f posts rs → length f.stores.items ≡ length scene.nodes
stores_few scene f posts rs run = stores_long scene.nodes (wires_of scene) f.stores.items run.fabric.stores

pub nodes_few : (scene : PlainScene) → IsScene scene → length scene.nodes ≤ 255
nodes_few scene is = let few = is.few in omega (arith, few)

pub queues_room : Laws → (scene : PlainScene) (f : Fabric) (posts : List SeenPost) (rs : List Retired) → IsRun scene f posts rs → queue_count (wires_in f) ≤ f.notes.queues
queues_room laws scene f posts rs run =
    let count = queues_noted scene (laws.joins scene run.is run.after) (laws.stays scene run.is run.after) f (map post_of rs) (net_of scene f posts rs run) run.fabric.wires in
    let room = run.fabric.queues in
    omega (arith, count, room)

-- what was left, once the queues have ended
pub left_all : Laws → (scene : PlainScene) (f : Fabric) (posts : List SeenPost) (rs : List Retired) → IsRun scene f posts rs → (n : PlainNotes) (after : List NodeStore) (ends : NodesEnd 0 f.queues (wires_in f) (all_homes rs) (all_sides rs) f.notes n f.stores.items after)
    → AreRemains scene (map post_of rs) ends.all
left_all laws scene f posts rs run n after ends =
    all_remains laws.led laws.hubs laws.apart scene (laws.joins scene run.is run.after) (laws.stays scene run.is run.after) f (map post_of rs) (net_of scene f posts rs run) run.fabric.wires run.fabric.stores ends.all after
    (subst (λ (ss : List _). AreLeftIn 0 f.queues (wires_in f) (homes_of (map post_of rs)) ss ends.all) (sides_same rs) (subst (λ (hs : List _). AreLeftIn 0 f.queues (wires_in f) hs (all_sides rs) ends.all) (homes_same rs) ends.left)) ends.back

pub piles_all : (laws : Laws) (scene : PlainScene) (f : Fabric) (posts : List SeenPost) (rs : List Retired) (run : IsRun scene f posts rs) (n : PlainNotes) (after : List NodeStore) (ends : NodesEnd 0 f.queues (wires_in f) (all_homes rs) (all_sides rs) f.notes n f.stores.items after)
    → (k : ℕ) (t : NodeStore) → slice_get after k ≡ Some t → IsPileOf scene (map post_of rs) ends.all k t
piles_all laws scene f posts rs run n after ends =
    piles_of laws.long scene (wires_of scene) (map post_of rs) f.stores.items ends.all after run.fabric.stores ends.back
    (laws.returns scene (network_of f) (map post_of rs) ends.all run.is run.after (net_of scene f posts rs run) (left_all laws scene f posts rs run n after ends))

pub parties_can : Laws → (scene : PlainScene) (f : Fabric) (posts : List SeenPost) (rs : List Retired) → IsRun scene f posts rs → (n : PlainNotes) (after : List NodeStore) (ends : NodesEnd 0 f.queues (wires_in f) (all_homes rs) (all_sides rs) f.notes n f.stores.items after)
    → CanEndParties (map pile_of after) (all_rest rs)
parties_can laws scene f posts rs run n after ends =
    can_end_all scene (network_of f) rs posts f.stores.items ends.all after (net_of scene f posts rs run) refl run.same run.fresh run.fabric.numbers ends.back (piles_all laws scene f posts rs run n after ends)

-- as many parties as posts
pub parties_long : (rs : List Retired) (posts : List SeenPost) → map retired_of rs ≡ map to_retire posts → length rs ≡ length posts
parties_long rs posts e = sym (length-map rs retired_of) ∙ ap (λ l. length l) e ∙ length-map posts to_retire

pub rest_long : (xs ys : List Retired) → all_rest xs ≡ all_rest ys → length xs ≡ length ys
rest_long xs ys e = sym (length-map xs rest_of) ∙ ap (λ (l : List PlainRest). length l) e ∙ length-map ys rest_of

-- there is room for the notes of all parties and of the memory of all nodes
pub others_room : (scene : PlainScene) (f : Fabric) (posts : List SeenPost) (rs : List Retired) → IsRun scene f posts rs → (n : PlainNotes) (after : List NodeStore) → NodesEnd 0 f.queues (wires_in f) (all_homes rs) (all_sides rs) f.notes n f.stores.items after
    → length rs + length f.stores.items ≤ n.others
others_room scene f posts rs run n after ends =
    let room = run.fabric.others in
    let same = ap (λ (m : PlainNotes). m.others) ends.noted in
    let many = parties_long rs posts run.same in
    let wide = stores_few scene f posts rs run in
    omega (arith, room, same, many, wide)

-- the memory of each node can be given back
all_of : {X : Type 0} (P : X → Type 0) (xs : List X) → ((k : ℕ) (x : X) → slice_get xs k ≡ Some x → P x) → All P xs
all_of P xs f = λ k d within. f k (get_or xs k d) (slice_get-get_or xs k d within)

pub memories_can : Laws → (scene : PlainScene) (f : Fabric) (posts : List SeenPost) (rs : List Retired) → IsRun scene f posts rs → (n : PlainNotes) (after : List NodeStore) (ends : NodesEnd 0 f.queues (wires_in f) (all_homes rs) (all_sides rs) f.notes n f.stores.items after)
    → (piles : List PlainPile) → piles ≡ parties_back (all_rest rs) (map pile_of after) → All CanGiveBack piles
memories_can laws scene f posts rs run n after ends piles e =
    subst (All CanGiveBack) (sym e) (all_of CanGiveBack (parties_back (all_rest rs) (map pile_of after)) (λ k x at.
    (ended_at scene (network_of f) rs ends.all after (net_of scene f posts rs run) (piles_all laws scene f posts rs run n after ends) k x at).can))

pub memories_long : (scene : PlainScene) (f : Fabric) (posts : List SeenPost) (rs : List Retired) → IsRun scene f posts rs → (n : PlainNotes) (after : List NodeStore) (ends : NodesEnd 0 f.queues (wires_in f) (all_homes rs) (all_sides rs) f.notes n f.stores.items after)
    → (piles : List PlainPile) → piles ≡ parties_back (all_rest rs) (map pile_of after) → (length piles ≡ length scene.nodes) × (length piles ≡ length ends.all)
memories_long scene f posts rs run n after ends piles e =
    let long : length piles ≡ length after = ap (λ (l : List PlainPile). length l) e ∙ all_long (all_rest rs) (map pile_of after) ∙ length-map after pile_of in
    let back = back_long f.stores.items ends.all after ends.back in
    (long ∙ back.1 ∙ stores_few scene f posts rs run, long ∙ back.1 ∙ sym back.0)

-- no time of a log is later than its last one
logs_same : (rs : List Retired) → map rest_log (all_rest rs) ≡ map log_of (map post_of rs)
logs_same [] = refl
logs_same (r ∷ rs) = ap (λ (l : List PlainPartyLog). rest_log (rest_of r) ∷ l) (logs_same rs)

pub ordered : (scene : PlainScene) (f : Fabric) (posts : List SeenPost) (rs : List Retired) → IsRun scene f posts rs → AreOrdered (map rest_log (all_rest rs))
ordered scene f posts rs run =
    subst AreOrdered (sym (logs_same rs)) (all_from (λ (log : PlainPartyLog). IsOrdered log.entries) (map log_of (map post_of rs)) (λ k log at.
    let (s, there, is) = made_from log_of (map post_of rs) k log at in
    let x = post_at scene (network_of f) (parties_of scene) (map post_of rs) k s (net_of scene f posts rs run).parties there in
    subst (λ (l : PlainPartyLog). IsOrdered l.entries) is (run_ordered party_steps x.party.party s.entries x.post.from.runs.run x.post.early)))

-- what the parties held
held_same : (rs : List Retired) → flat_map rest_held (all_rest rs) ≡ flat_map post_held (map post_of rs)
held_same [] = refl
held_same (r ∷ rs) = ap (λ (l : List PlainHeld). rest_held (rest_of r) ++ l) (held_same rs)

-- whether each application had ended
finished_same : (posts : List SeenPost) → list_all (λ (s : SeenPost). is_done s.plain.party) posts ≡ are_done (map (λ (s : SeenPost). s.plain) posts)
finished_same [] = refl
finished_same (s ∷ posts) = ap (λ (b : Bool). is_done s.plain.party && b) (finished_same posts)

-- the record of the run
pub closed : (laws : Laws) (scene : PlainScene) (f : Fabric) (posts : List SeenPost) (rs : List Retired) (run : IsRun scene f posts rs) (m n o : PlainNotes) (after : List NodeStore) (ends : NodesEnd 0 f.queues (wires_in f) (all_homes rs) (all_sides rs) f.notes m f.stores.items after)
    (piles : List PlainPile) (r : PlainRecord) → piles ≡ parties_back (all_rest rs) (map pile_of after) → n ≡ with_held m (flat_map rest_held (all_rest rs)) n.others → o ≡ with_held n (pools_held 0 (map pool_part piles)) o.others
    → r.parties ≡ map rest_log (all_rest rs) → r.left ≡ o.left → r.held ≡ o.held → r.rounds ≡ rounds_among (map rest_log (all_rest rs)) → r.finished ≡ list_all (λ (s : SeenPost). is_done s.plain.party) posts
    → IsClosed scene (map (λ (s : SeenPost). s.plain) posts) r
closed laws scene f posts rs run m n o after ends piles r back parties pools logs left held rounds finished =
    let e = posts_same rs posts run.same in
    let ps = map post_of rs in
    let joins = laws.joins scene run.is run.after in
    let stays = laws.stays scene run.is run.after in
    let wired = wired_all scene joins stays (wires_in f) run.fabric.wires (nodes_long scene.nodes (wires_of scene) f.queues run.fabric.network.nodes).0 in
    let notes = all_queue_notes 0 (wires_in f) ends.all in
    let noted : r.left ≡ notes = left ∙ ap (λ (x : PlainNotes). x.left) pools ∙ ap (λ (x : PlainNotes). x.left) parties ∙ ap (λ (x : PlainNotes). x.left) ends.noted ∙ ap (λ (l : List PlainLeft). l ++ notes) run.fabric.unleft in
    let was : m.held ≡ map left_held notes = ap (λ (x : PlainNotes). x.held) ends.noted ∙ ap (λ (l : List PlainHeld). l ++ map left_held notes) run.fabric.unheld in
    let of_parties : flat_map rest_held (all_rest rs) ≡ flat_map post_held ps = held_same rs in
    let of_pools : map pool_part piles ≡ map (λ (x : PlainRemains). x.pool) ends.all =
    pools_are scene ps ends.all piles (memories_long scene f posts rs run m after ends piles back).1
    (λ k x at. ended_at scene (network_of f) rs ends.all after (net_of scene f posts rs run) (piles_all laws scene f posts rs run m after ends) k x (ap (λ (l : List PlainPile). slice_get l k) (sym back) ∙ at)) in
    let told : IsRecordOf scene ps ends.all r = record {
      parties = logs ∙ logs_same rs;
      left = noted ∙ all_noted (whos_of scene) 0 (wires_of scene) (wires_in f) ends.all wired;
      held = held ∙ ap (λ (x : PlainNotes). x.held) pools ∙ ap (λ (l : List PlainHeld). l ++ pools_held 0 (map pool_part piles)) (ap (λ (x : PlainNotes). x.held) parties)
          ∙ append_assoc m.held (flat_map rest_held (all_rest rs)) (pools_held 0 (map pool_part piles))
          ∙ ap (λ (l : List PlainHeld). l ++ (flat_map rest_held (all_rest rs) ++ pools_held 0 (map pool_part piles))) (was ∙ ap (map left_held) (sym noted))
          ∙ ap (λ (l : List PlainHeld). map left_held r.left ++ (l ++ pools_held 0 (map pool_part piles))) of_parties
          ∙ ap (λ (l : List (List ℕ)). map left_held r.left ++ (flat_map post_held ps ++ pools_held 0 l)) of_pools;
      rounds = rounds ∙ ap rounds_among (logs_same rs) ∙ rounds_logged ps;
      finished = finished ∙ finished_same posts ∙ ap are_done (sym e);
    } in
    subst (λ (l : List PlainPost). IsClosed scene l r) e (record { all = ends.all; remains = left_all laws scene f posts rs run m after ends; told = told })

-- a list that was lent, as it comes back
abbrev pub returned : {X : Type 0} → ℕ → List X → List X → List X
returned len new old = take len (new ++ drop (length new) old)

pub lent : {X : Type 0} (len : ℕ) (new old : List X) → len ≡ length old → length new ≡ length old → returned len new old ≡ new
lent len new old e f =
    let all : drop (length new) old ≡ [] = drop_all (length new) old (omega (arith, f)) in
    ap (λ xs. take len (new ++ xs)) all ∙ ap (take len) (append-nil new) ∙ take_all len new (omega (arith, e, f))

-- the end of the queues, where the lists were lent
pub ends_as : (f : Fabric) (rs parties : List Retired) (wires : List (Vec Wire)) (stores : List NodeStore) (m : PlainNotes) (after : List NodeStore) → wires ≡ f.wires.items → parties ≡ rs → stores ≡ f.stores.items
    → NodesEnd 0 f.queues (map (λ (v : Vec Wire). v.items) wires) (all_homes parties) (all_sides parties) f.notes m stores after → NodesEnd 0 f.queues (wires_in f) (all_homes rs) (all_sides rs) f.notes m f.stores.items after
ends_as f rs parties wires stores m after e g h ends =
    subst (λ (l : List NodeStore). NodesEnd 0 f.queues (wires_in f) (all_homes rs) (all_sides rs) f.notes m l after) h
    (subst (λ (l : List Retired). NodesEnd 0 f.queues (wires_in f) (all_homes l) (all_sides l) f.notes m stores after) g
    (subst (λ (l : List (Vec Wire)). NodesEnd 0 f.queues (map (λ (v : Vec Wire). v.items) l) (all_homes parties) (all_sides parties) f.notes m stores after) e ends))

pub can_as : (f : Fabric) (rs parties : List Retired) (wires : List (Vec Wire)) (stores : List NodeStore) → wires ≡ f.wires.items → parties ≡ rs → stores ≡ f.stores.items → CanAllEnd 0 f.queues f.rooms.items (wires_in f) f.stores.items (all_homes rs) (all_sides rs)
    → CanAllEnd 0 f.queues f.rooms.items (map (λ (v : Vec Wire). v.items) wires) stores (all_homes parties) (all_sides parties)
can_as f rs parties wires stores e g h can =
    subst (λ (l : List NodeStore). CanAllEnd 0 f.queues f.rooms.items (map (λ (v : Vec Wire). v.items) wires) l (all_homes parties) (all_sides parties)) (sym h)
    (subst (λ (l : List Retired). CanAllEnd 0 f.queues f.rooms.items (map (λ (v : Vec Wire). v.items) wires) f.stores.items (all_homes l) (all_sides l)) (sym g)
    (subst (λ (l : List (Vec Wire)). CanAllEnd 0 f.queues f.rooms.items (map (λ (v : Vec Wire). v.items) l) f.stores.items (all_homes rs) (all_sides rs)) (sym e) can))

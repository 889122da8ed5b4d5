use Rattle.std.proofs.Common.{◌≡◌, List, length, sym, ◌∙◌, subst}
use Rattle.std.specs.Global.{Vec}
use Rattle.std.specs.Vec.{with_items}
use Rattle.std.proofs.lemmas.List.{with_items_is}
use Rattle.csp_node.proofs.Staying.{as_many}
use Rattle.csp_node.specs.Rounds.{plains}
use Rattle.csp_posts.specs.Seen.{SeenPost}
use Rattle.csp_record.specs.Record.{PlainRecord}
use Rattle.csp_scene.specs.Scene.{PlainScene}
use Rattle.csp_standing.specs.Fabrics.{IsFabricOf, network_of}
use Rattle.csp_standing.specs.declared.fabric.Fabric.{Fabric}
use Rattle.csp_telling.specs.Closed.{IsClosed}
use Rattle.csp_topology.specs.Parties.{parties_of}
use Rattle.csp_node.proofs.running.run.Goals as goal

-- two networks of one scene have as many posts
same_count : (scene : PlainScene) (f : Fabric) (posts after : List SeenPost) → IsFabricOf scene f posts → IsFabricOf scene f after → length posts ≡ length after
same_count scene f posts after h g =
    as_many scene (network_of f) (parties_of scene) posts h.network.parties ∙ sym (as_many scene (network_of f) (parties_of scene) after g.network.parties)

-- a network was closed with its posts as they were after the rounds
closed_after : (scene : PlainScene) (f : Fabric) (opened : Vec SeenPost) (news : List SeenPost) (r : PlainRecord) → IsFabricOf scene f opened.items → IsFabricOf scene f news
    → (IsFabricOf scene f (with_items opened news).items → IsClosed scene (plains (with_items opened news).items) r) → IsClosed scene (plains news) r
closed_after scene f opened news r before after closes =
    let back : (with_items opened news).items ≡ news = with_items_is opened news (sym (opened.ok.0 ∙ same_count scene f opened.items news before after)) in
    subst (λ posts. IsClosed scene (plains posts) r) back (closes (subst (IsFabricOf scene f) (sym back) after))

pub make_rounds-ran-requires-clause-opened : goal.make_rounds-ran-requires-clause-opened
make_rounds-ran-requires-clause-opened g c κs within =
    rw c.as_mut_slice.ensures.value
    (c.starts_rounds.ensures c.args.scene.now c.in-Ok.opened.0.fabric c.args.limit c.in-Ok.opened.1.items c.in-Ok.ensures.fabric c.in-Ok.ensures.new c.in-Ok.ensures.fresh)

pub returns-in-Ok-ran-clause-threaded : goal.returns-in-Ok-ran-clause-threaded
returns-in-Ok-ran-clause-threaded g c =
    c.tells_run.ensures.threaded c.args.scene.now c.in-Ok.opened.0.fabric c.args.limit c.make_rounds-ran.new.posts c.close-record.result c.requires.scene c.requires.links c.in-Ok-ran.ensures.run
    (closed_after c.args.scene.now c.in-Ok.opened.0.fabric c.in-Ok.opened.1 c.make_rounds-ran.new.posts c.close-record.result c.in-Ok.ensures.fabric c.in-Ok-ran.ensures.fabric (c.close-record.ensures c.args.scene.now c.requires.scene c.requires.links))

pub returns-in-Ok-ran-clause-whole : goal.returns-in-Ok-ran-clause-whole
returns-in-Ok-ran-clause-whole g c =
    c.tells_run.ensures.whole c.args.scene.now c.in-Ok.opened.0.fabric c.args.limit c.make_rounds-ran.new.posts c.close-record.result c.requires.scene c.requires.links c.in-Ok-ran.ensures.run
    (closed_after c.args.scene.now c.in-Ok.opened.0.fabric c.in-Ok.opened.1 c.make_rounds-ran.new.posts c.close-record.result c.in-Ok.ensures.fabric c.in-Ok-ran.ensures.fabric (c.close-record.ensures c.args.scene.now c.requires.scene c.requires.links))

pub returns-in-Ok-ran-clause-causal : goal.returns-in-Ok-ran-clause-causal
returns-in-Ok-ran-clause-causal g c =
    c.tells_run.ensures.causal c.args.scene.now c.in-Ok.opened.0.fabric c.args.limit c.make_rounds-ran.new.posts c.close-record.result c.requires.scene c.requires.links c.in-Ok-ran.ensures.run
    (closed_after c.args.scene.now c.in-Ok.opened.0.fabric c.in-Ok.opened.1 c.make_rounds-ran.new.posts c.close-record.result c.in-Ok.ensures.fabric c.in-Ok-ran.ensures.fabric (c.close-record.ensures c.args.scene.now c.requires.scene c.requires.links))

pub returns-in-Ok-ran-clause-stopped : goal.returns-in-Ok-ran-clause-stopped
returns-in-Ok-ran-clause-stopped g c =
    c.tells_run.ensures.stopped c.args.scene.now c.in-Ok.opened.0.fabric c.args.limit c.make_rounds-ran.new.posts c.close-record.result c.in-Ok-ran.ensures.run
    (closed_after c.args.scene.now c.in-Ok.opened.0.fabric c.in-Ok.opened.1 c.make_rounds-ran.new.posts c.close-record.result c.in-Ok.ensures.fabric c.in-Ok-ran.ensures.fabric (c.close-record.ensures c.args.scene.now c.requires.scene c.requires.links))

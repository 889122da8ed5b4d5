-- Each post is that of its party.
use Rattle.std.proofs.Common.{List, [], ◌∷◌}
use Rattle.csp_posts.specs.Posts.{PlainPost}
use Rattle.csp_scene.specs.Scene.{PlainScene}
use Rattle.csp_standing.specs.Network.{ArePostsOf, IsNetworkOf, PlainNetwork}
use Rattle.csp_standing.specs.Played.{HaveRunFrom}
use Rattle.csp_topology.specs.Parties.{PlainOpening, parties_of}

run_from : (scene : PlainScene) (n : PlainNetwork) (os : List PlainOpening) (posts : List PlainPost) → ArePostsOf scene n os posts → HaveRunFrom os posts
run_from scene n [] [] h = tt
run_from scene n (o ∷ os) (s ∷ posts) h = (record { reached = h.0.from.runs.reached }, run_from scene n os posts h.1)
run_from scene n [] (s ∷ posts) h = absurd h
run_from scene n (o ∷ os) [] h = absurd h

pub have_run : (scene : PlainScene) (n : PlainNetwork) (posts : List PlainPost) → IsNetworkOf scene n posts → HaveRunFrom (parties_of scene) posts
have_run scene n posts net = run_from scene n (parties_of scene) posts net.parties

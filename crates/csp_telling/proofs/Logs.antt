-- The logs of a record are those of its posts, and runs of their parties.
use Rattle.std.proofs.Common.{List, [], ◌∷◌, map, refl, sym, ap, subst}
use Rattle.csp_consistent.specs.Runs.{AreLogsOf}
use Rattle.csp_party.specs.Any.{present_step}
use Rattle.csp_posts.specs.Posts.{PlainPost}
use Rattle.csp_record.specs.Record.{PlainRecord}
use Rattle.csp_scene.specs.Scene.{PlainScene}
use Rattle.csp_standing.specs.Network.{ArePostsOf, IsNetworkOf, PlainNetwork}
use Rattle.csp_standing.specs.Shown.{AreLoggedBy}
use Rattle.csp_telling.specs.Closed.{IsClosed, log_of}
use Rattle.csp_topology.specs.Parties.{PlainOpening, parties_of}

each_logged : (posts : List PlainPost) → AreLoggedBy posts (map log_of posts)
each_logged [] = tt
each_logged (s ∷ posts) = (record { who = refl; entries = refl }, each_logged posts)

each_log : (scene : PlainScene) (n : PlainNetwork) (os : List PlainOpening) (posts : List PlainPost) → ArePostsOf scene n os posts → AreLogsOf os (map log_of posts)
each_log scene n [] [] h = tt
each_log scene n (o ∷ os) (s ∷ posts) h =
    (record { who = h.0.who; run = h.0.from.runs.run; step = ap present_step (sym h.0.from.runs.reached) }, each_log scene n os posts h.1)
each_log scene n [] (s ∷ posts) h = absurd h
each_log scene n (o ∷ os) [] h = absurd h

pub are_logged : (scene : PlainScene) (posts : List PlainPost) (r : PlainRecord) → IsClosed scene posts r → AreLoggedBy posts r.parties
are_logged scene posts r closed = subst (AreLoggedBy posts) (sym closed.told.parties) (each_logged posts)

pub are_logs : (scene : PlainScene) (n : PlainNetwork) (posts : List PlainPost) (r : PlainRecord) → IsNetworkOf scene n posts → IsClosed scene posts r → AreLogsOf (parties_of scene) r.parties
are_logs scene n posts r net closed = subst (AreLogsOf (parties_of scene)) (sym closed.told.parties) (each_log scene n (parties_of scene) posts net.parties)

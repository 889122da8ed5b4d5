-- Each queue of a network kept its promise, and the record tells what was put there, got there and left there.
use Rattle.std.proofs.Common.{◌≡◌, List, [], ◌∷◌, ◌++◌, map, flat_map, refl, sym, ap, ◌∙◌}
use Rattle.std.specs.Option.{option_map, option_to_list}
use Rattle.csp_consistent.specs.Pools.{held_by, left_held, parties_held, party_held, pools_held}
use Rattle.csp_consistent.specs.Told.{AreQueuesTold}
use Rattle.csp_log.specs.Remains.{PlainHeld}
use Rattle.csp_party.specs.Any.{PlainParty, holds}
use Rattle.csp_posts.specs.Posts.{PlainPost}
use Rattle.csp_record.specs.Record.{PlainPartyLog, PlainRecord}
use Rattle.csp_log.specs.Who.{home_of}
use Rattle.csp_scene.specs.Scene.{PlainScene}
use Rattle.csp_standing.specs.Network.{ArePostsOf, PlainNetwork}
use Rattle.csp_telling.proofs.InboxesLeft.{inboxes_told}
use Rattle.csp_telling.proofs.LanesLeft.{lanes_told}
use Rattle.csp_telling.proofs.Nodes.{IsEnded, IsKnown}
use Rattle.csp_telling.proofs.PoolsLeft.{in_pools, many_pools, pool_told}
use Rattle.csp_telling.proofs.QueuesNoted.{queues_noted}
use Rattle.csp_telling.specs.Closed.{log_of, post_held}
use Rattle.csp_topology.specs.Parties.{PlainOpening, parties_of}

-- a party held what is its in its state after its log
posts_held : (scene : PlainScene) (n : PlainNetwork) (os : List PlainOpening) (posts : List PlainPost) → ArePostsOf scene n os posts → flat_map post_held posts ≡ parties_held os (map log_of posts)
posts_held scene n [] [] are = refl
posts_held scene n (o ∷ os) (s ∷ posts) are =
    ap (λ (p : PlainParty). option_to_list (option_map (held_by (holds p)) (home_of s.who)) ++ flat_map post_held posts) (sym are.0.from.runs.reached)
    ∙ ap (λ (rest : List PlainHeld). party_held o (log_of s) ++ rest) (posts_held scene n os posts are.1)
posts_held scene n [] (s ∷ posts) are = absurd are
posts_held scene n (o ∷ os) [] are = absurd are

pub queues_told : (scene : PlainScene) (n : PlainNetwork) (posts : List PlainPost) (r : PlainRecord) → IsEnded scene n posts r → IsKnown scene r → AreQueuesTold scene r
queues_told scene n posts r ended known = record {
  lanes = lanes_told scene n posts r ended known;
  inboxes = inboxes_told scene n posts r ended known;
  in_pools = in_pools ended.closed.all;
  nodes = many_pools scene n posts r ended;
  pools = pool_told scene n posts r ended known;
  left = queues_noted scene n posts r ended;
  held = ended.closed.told.held
      ∙ ap (λ (those : List PlainHeld). map left_held r.left ++ (those ++ pools_held 0 (in_pools ended.closed.all)))
      (posts_held scene n (parties_of scene) posts ended.net.parties ∙ ap (λ (logs : List PlainPartyLog). parties_held (parties_of scene) logs) (sym ended.closed.told.parties));
}

-- What meetings, turns and more room leave as it is of a network's posts.
use Rattle.std.proofs.Common.{◌≡◌, ℕ, ◌+◌, ◌-◌, ◌<◌, ◌≤◌, ◌^◌, false, List, [], ◌∷◌, length, refl, sym, ap, ◌∙◌, subst, arith}
use Rattle.std.specs.Prelude.{vec_capacity}
use Rattle.std.specs.List.{All, AllByRecursion, AllZip}
use Rattle.std.proofs.lemmas.List.Elements.{All-cons, All-nil}
use Rattle.std.proofs.lemmas.Slice.Zip.{AllZip-long}
use Rattle.csp_consistent.specs.Rounds.{HaveMadeRounds}
use Rattle.csp_ends.specs.Ends.{AreOf, PlainNodeQueues}
use Rattle.csp_log.specs.declared.entry.Entry.{Entry}
use Rattle.csp_node.proofs.Entries.{last_within}
use Rattle.csp_node.specs.Rounds.{IsBetween, IsShort, IsStill, plains, weight_early}
use Rattle.csp_posts.specs.Between.{AreInRounds}
use Rattle.csp_posts.specs.Books.{AreInBooks}
use Rattle.csp_posts.specs.Meetings.{HasMet}
use Rattle.csp_posts.specs.Posts.{PlainPost}
use Rattle.csp_posts.specs.Ready.{CanTurn, HasTurned}
use Rattle.csp_posts.specs.Seen.{SeenPost}
use Rattle.csp_log.specs.Who.{node_of}
use Rattle.csp_scene.specs.Scene.{PlainScene}
use Rattle.csp_standing.specs.Fabrics.{CanNote, IsFabricOf, buffers_at, network_of}
use Rattle.csp_standing.specs.Network.{ArePostsOf, IsNetworkOf, PlainNetwork}
use Rattle.csp_standing.specs.Played.{are_done, logs_of}
use Rattle.csp_standing.specs.declared.fabric.Fabric.{Fabric}
use Rattle.csp_topology.specs.Parties.{PlainOpening, parties_of}

-- a post of the same party, with as much room for numbers
pub record Stays (s t : SeenPost) : Type 0 where
  pub who : t.plain.who ≡ s.plain.who
  pub room : t.room ≡ s.room

numbers_stay : (scene : PlainScene) (posts after : List SeenPost) → AllZip Stays posts after → AllByRecursion (CanNote scene) posts → AllByRecursion (CanNote scene) after
numbers_stay scene [] [] stay all = tt
numbers_stay scene (s ∷ posts) (t ∷ after) stay all = (
  subst (λ w. buffers_at scene (node_of w) ≤ t.room) (sym stay.0.who) (subst (λ (n : ℕ). buffers_at scene (node_of s.plain.who) ≤ n) (sym stay.0.room) all.0),
  numbers_stay scene posts after stay.1 all.1,
)
numbers_stay scene [] (t ∷ after) stay all = absurd stay
numbers_stay scene (s ∷ posts) [] stay all = absurd stay

-- a fabric of a scene stays one
pub fabric_stays : (scene : PlainScene) (f : Fabric) (posts after : List SeenPost) → AllZip Stays posts after → IsNetworkOf scene (network_of f) (plains after) → IsFabricOf scene f posts → IsFabricOf scene f after
fabric_stays scene f posts after stay network h =
    let long : length after ≡ length posts = AllZip-long Stays posts after stay in
    record {
      network = network;
      wires = h.wires;
      stores = h.stores;
      rooms = h.rooms;
      unleft = h.unleft;
      unheld = h.unheld;
      queues = h.queues;
      others = subst (λ (n : ℕ). n + length scene.nodes ≤ f.notes.others) (sym long) h.others;
      unlogged = h.unlogged;
      logs = subst (λ (n : ℕ). n ≤ vec_capacity f.logs) (sym long) h.logs;
      none = h.none;
      retired = subst (λ (n : ℕ). n ≤ vec_capacity f.retired) (sym long) h.retired;
      numbers = numbers_stay scene posts after stay h.numbers;
    }

-- more room leaves all else
pub plains_still : (posts after : List SeenPost) → AllZip IsStill posts after → plains after ≡ plains posts
plains_still [] [] still = refl
plains_still (s ∷ posts) (t ∷ after) still = ap (λ (p : PlainPost). p ∷ plains after) still.0.plain ∙ ap (λ (ps : List PlainPost). s.plain ∷ ps) (plains_still posts after still.1)
plains_still [] (t ∷ after) still = absurd still
plains_still (s ∷ posts) [] still = absurd still

pub still_all : (posts : List SeenPost) → AllZip IsStill posts posts
still_all [] = tt
still_all (s ∷ posts) = (record { plain = refl; room = refl }, still_all posts)

still_stays : (posts after : List SeenPost) → AllZip IsStill posts after → AllZip Stays posts after
still_stays [] [] still = tt
still_stays (s ∷ posts) (t ∷ after) still = (record { who = ap (λ (p : PlainPost). p.who) still.0.plain; room = still.0.room }, still_stays posts after still.1)
still_stays [] (t ∷ after) still = absurd still
still_stays (s ∷ posts) [] still = absurd still

pub fabric_still : (scene : PlainScene) (f : Fabric) (posts after : List SeenPost) → AllZip IsStill posts after → IsFabricOf scene f posts → IsFabricOf scene f after
fabric_still scene f posts after still h =
    fabric_stays scene f posts after (still_stays posts after still) (subst (IsNetworkOf scene (network_of f)) (sym (plains_still posts after still)) h.network) h

pub between_still : (scene : PlainScene) (f : Fabric) (limit rounds : ℕ) (posts after : List SeenPost) → AllZip IsStill posts after → IsBetween scene f limit rounds posts → IsBetween scene f limit rounds after
between_still scene f limit rounds posts after still h =
    let same : plains posts ≡ plains after = sym (plains_still posts after still) in
    record {
      fabric = fabric_still scene f posts after still h.fabric;
      books = subst (λ (ps : List PlainPost). AreInBooks ps) same h.books;
      between = subst (λ (ps : List PlainPost). AreInRounds f.queues rounds ps) same h.between;
      made = subst (λ (ps : List PlainPost). HaveMadeRounds rounds (parties_of scene) (logs_of ps)) same h.made;
      short = subst (λ (ps : List PlainPost). AllByRecursion (IsShort rounds) ps) same h.short;
      before = subst (λ (ps : List PlainPost). 0 < rounds → weight_early (rounds - 1) ps < limit) same h.before;
    }

-- after a meeting and a round
pub round_stays : (nodes : List PlainNodeQueues) (now : ℕ) (posts met after : List SeenPost) → AllZip HasMet posts met → AllZip (HasTurned nodes now 8) met after → AllZip Stays posts after
round_stays nodes now [] [] [] m t = tt
round_stays nodes now (r ∷ posts) (s ∷ met) (t ∷ after) m turned = (record { who = turned.0.turns.who ∙ m.0.who; room = turned.0.room ∙ m.0.room }, round_stays nodes now posts met after m.1 turned.1)
round_stays nodes now [] (s ∷ met) after m turned = absurd m
round_stays nodes now (r ∷ posts) [] after m turned = absurd m
round_stays nodes now [] [] (t ∷ after) m turned = absurd turned
round_stays nodes now (r ∷ posts) (s ∷ met) [] m turned = absurd turned

-- what each post has in hand is of the network's queues
pub all_of_it : (scene : PlainScene) (n : PlainNetwork) (os : List PlainOpening) (posts : List SeenPost) → ArePostsOf scene n os (plains posts) → AllByRecursion (λ s. AreOf n.nodes s.plain.ends) posts
all_of_it scene n [] [] are = tt
all_of_it scene n (o ∷ os) (s ∷ posts) are = (are.0.from.of_it, all_of_it scene n os posts are.1)
all_of_it scene n [] (s ∷ posts) are = absurd are
all_of_it scene n (o ∷ os) [] are = absurd are

-- once they have met, each that has the room can take its turns
ready : (n : PlainNetwork) (now : ℕ) (s t : SeenPost) → now < 2 ^ 62 → AreOf n.nodes t.plain.ends → AllByRecursion (λ e. e.time < now) s.plain.entries → 8 ≤ s.spare → HasMet s t → CanTurn n.nodes now 8 t
ready n now s t early of times room m = record {
  of_it = of;
  late = last_within now 0 t.plain.entries (omega arith) (subst (AllByRecursion (λ (e : Entry). e.time < now)) (sym m.entries) times);
  early = early;
  room = subst (λ (k : ℕ). 8 ≤ k) (sym m.spare) room;
}

each_ready : (n : PlainNetwork) (now : ℕ) (posts met : List SeenPost) → now < 2 ^ 62 → AllByRecursion (λ s. AreOf n.nodes s.plain.ends) met → AllByRecursion (λ s. AllByRecursion (λ e. e.time < now) s.entries) (plains posts)
    → AllByRecursion (λ s. 8 ≤ s.spare) posts → AllZip HasMet posts met → AllByRecursion (CanTurn n.nodes now 8) met
each_ready n now [] [] early of times room m = tt
each_ready n now (s ∷ posts) (t ∷ met) early of times room m = (ready n now s t early of.0 times.0 room.0 m.0, each_ready n now posts met early of.1 times.1 room.1 m.1)
each_ready n now [] (t ∷ met) early of times room m = absurd m
each_ready n now (s ∷ posts) [] early of times room m = absurd m

pub all_ready : (scene : PlainScene) (f : Fabric) (limit now : ℕ) (posts met : List SeenPost) → IsBetween scene f limit now posts → now < 2 ^ 62 → AllByRecursion (λ s. 8 ≤ s.spare) posts → AllZip HasMet posts met
    → IsNetworkOf scene (network_of f) (plains met) → AllByRecursion (CanTurn f.queues now 8) met
all_ready scene f limit now posts met h early room m net = each_ready (network_of f) now posts met early (all_of_it scene (network_of f) (parties_of scene) met net.parties) h.between.times room m

-- as many meet, and there are some where an application has not ended
pub some_met : (posts met : List SeenPost) → AllZip HasMet posts met → are_done (plains posts) ≡ false → 0 < length met
some_met [] met m undone = cc
some_met (s ∷ posts) [] m undone = absurd m
some_met (s ∷ posts) (t ∷ met) m undone = omega arith

-- what is true of each
pub all_each : {X : Type 0} (P : X → Type 0) (xs : List X) → AllByRecursion P xs → All P xs
all_each P [] all = All-nil P
all_each P (x ∷ xs) all = All-cons P x xs all.0 (all_each P xs all.1)

-- a scene has as many posts as parties
pub as_many : (scene : PlainScene) (n : PlainNetwork) (os : List PlainOpening) (posts : List SeenPost) → ArePostsOf scene n os (plains posts) → length posts ≡ length os
as_many scene n [] [] are = refl
as_many scene n (o ∷ os) (s ∷ posts) are = omega (arith, as_many scene n os posts are.1)
as_many scene n [] (s ∷ posts) are = absurd are
as_many scene n (o ∷ os) [] are = absurd are

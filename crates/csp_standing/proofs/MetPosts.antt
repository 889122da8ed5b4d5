-- A network of a scene is one after a meeting.
use Rattle.std.proofs.Common.{◌≡◌, ℕ, ◌+◌, ◌<◌, ◌^◌, Option, None, Some, List, [], ◌∷◌, map, sum_by, refl, sym, ap, subst, arith}
use Rattle.std.specs.Prelude.{if◌then◌else◌}
use Rattle.std.specs.List.{AllByRecursion, AllZip}
use Rattle.std.specs.Option.{option_map}
use Rattle.std.proofs.lemmas.List.Sums.{sum_by-cons}
use Rattle.csp_base.specs.declared.priority.Prio.TheVariants.{Critical, High, Normal, Low}
use Rattle.csp_consistent.specs.Reading.{gets}
use Rattle.csp_deck.specs.Carried.{IsCarried}
use Rattle.csp_deck.specs.Runs.{Runs}
use Rattle.csp_deck.specs.Step.{times}
use Rattle.csp_ends.specs.Ends.{PlainNodeQueues, PlainSide, PlainHome, PlainEnds}
use Rattle.csp_ends.specs.Traced.{AreMarked, AreTraced}
use Rattle.csp_inbox.specs.Passes as inbox
use Rattle.csp_lane.specs.Ends.{PlainEnd, end_with}
use Rattle.csp_lists.specs.PlainDeck.{numbers_of}
use Rattle.csp_log.specs.declared.entry.Entry.{Entry}
use Rattle.csp_log.specs.declared.places.QueueId.TheVariants as queue
use Rattle.csp_log.specs.declared.places.Rule.TheVariants as rule
use Rattle.csp_meeting.proofs.Public as keeping
use Rattle.csp_meeting.specs.Meeting.{KnowsMoreAt, KnowsMoreInbox, KnowsMoreHomes, KnowsMore}
use Rattle.csp_party.specs.Any.{PlainParty, holds}
use Rattle.csp_pool.specs.Tallies.{blank}
use Rattle.csp_posts.specs.Balance.{IsBalanced, times_put, times_got, times_kept, times_taken_out, times_into, times_from}
use Rattle.csp_posts.specs.Meetings.{HasMet}
use Rattle.csp_posts.specs.Seen.{SeenPost}
use Rattle.csp_posts.specs.Still.{still_side, still_inbox, still_home, still, IsPostFrom}
use Rattle.csp_posts.specs.Through.{IsThrough, WasCrammed}
use Rattle.csp_scene.specs.Scene.{PlainScene}
use Rattle.csp_standing.proofs.Turned.{Stays, post_kept, network_kept}
use Rattle.csp_standing.specs.Network.{PlainNetwork, opened_in, IsPostOf, ArePostsOf, IsNetworkOf}
use Rattle.csp_topology.specs.Parties.{PlainOpening, parties_of, party_steps}

-- what a party has in hand stays, but for what it knows
side_stays : (x y : PlainSide) → KnowsMoreAt x y → still_side y ≡ still_side x
side_stays x y m = λ i. record {
  queue = m.queue i;
  node = m.node i;
  lane = m.lane i;
  puts = m.puts i;
  end = end_with (m.end i) [] [] 0;
}

sides_stay : (xs ys : List PlainSide) → AllZip KnowsMoreAt xs ys → map still_side ys ≡ map still_side xs
sides_stay [] [] m = refl
sides_stay (x ∷ xs) (y ∷ ys) m = λ i. side_stays x y m.0 i ∷ sides_stay xs ys m.1 i
sides_stay [] (y ∷ ys) m = absurd m
sides_stay (x ∷ xs) [] m = absurd m

pass_stays : (x y : Option inbox.PlainPass) → KnowsMoreInbox x y → option_map still_inbox y ≡ option_map still_inbox x
pass_stays None None m = refl
pass_stays (Some x) (Some y) m = λ i. Some (record { inbox = m.inbox i; role = m.role i; critical = inbox.no_mail; high = inbox.no_mail; normal = inbox.no_mail; low = inbox.no_mail })
pass_stays None (Some y) m = absurd m
pass_stays (Some x) None m = absurd m

home_stays : (g h : Option PlainHome) → KnowsMoreHomes g h → option_map still_home h ≡ option_map still_home g
home_stays None None m = refl
home_stays (Some g) (Some h) m = λ i. Some (record {
  node = m.node i;
  pool = record { pool = m.pool.pool i; hand = record { region = m.pool.did.5 i; opens = m.pool.did.2 i; part = m.pool.did.3 i; out = m.pool.did.4 i; put = []; taken = []; puts = blank; takes = blank } };
  inbox = pass_stays g.inbox h.inbox m.inbox i;
})
home_stays None (Some h) m = absurd m
home_stays (Some g) None m = absurd m

ends_stay : (d e : PlainEnds) → KnowsMore d e → still e ≡ still d
ends_stay d e m = λ i. record { home = home_stays d.home e.home m.home i; sides = sides_stay d.sides e.sides m.sides i }

-- and what went through it
put_stays : (k : ℕ) (x y : PlainSide) → KnowsMoreAt x y → times_put k y ≡ times_put k x
put_stays k x y m = λ i. (if m.puts i then times k (numbers_of (m.end i).items) else 0)

got_stays : (k : ℕ) (x y : PlainSide) → KnowsMoreAt x y → times_got k y ≡ times_got k x
got_stays k x y m = λ i. (if m.puts i then 0 else times k (numbers_of (m.end i).items))

sums_stay : (f : PlainSide → ℕ) → ((x y : PlainSide) → KnowsMoreAt x y → f y ≡ f x) → (xs ys : List PlainSide) → AllZip KnowsMoreAt xs ys → sum_by f ys ≡ sum_by f xs
sums_stay f one [] [] m = refl
sums_stay f one (x ∷ xs) (y ∷ ys) m =
    let after = sum_by-cons f y ys in
    let before = sum_by-cons f x xs in
    let first = one x y m.0 in
    let rest = sums_stay f one xs ys m.1 in
    omega (arith, after, before, first, rest)
sums_stay f one [] (y ∷ ys) m = absurd m
sums_stay f one (x ∷ xs) [] m = absurd m

kept_stays : (k : ℕ) (x y : Option inbox.PlainPass) → KnowsMoreInbox x y → times_kept k y ≡ times_kept k x
kept_stays k None None m = refl
kept_stays k (Some x) (Some y) m = λ i. times k (numbers_of ((m.mail Critical).kept i)) + times k (numbers_of ((m.mail High).kept i)) + times k (numbers_of ((m.mail Normal).kept i)) + times k (numbers_of ((m.mail Low).kept i))
kept_stays k None (Some y) m = absurd m
kept_stays k (Some x) None m = absurd m

taken_stays : (k : ℕ) (x y : Option inbox.PlainPass) → KnowsMoreInbox x y → times_taken_out k y ≡ times_taken_out k x
taken_stays k None None m = refl
taken_stays k (Some x) (Some y) m = λ i. times k (numbers_of ((m.mail Critical).got i)) + times k (numbers_of ((m.mail High).got i)) + times k (numbers_of ((m.mail Normal).got i)) + times k (numbers_of ((m.mail Low).got i))
taken_stays k None (Some y) m = absurd m
taken_stays k (Some x) None m = absurd m

into_stays : (k : ℕ) (g h : Option PlainHome) → KnowsMoreHomes g h → times_into k h ≡ times_into k g
into_stays k None None m = refl
into_stays k (Some g) (Some h) m = λ i. times k (m.pool.did.0 i) + kept_stays k g.inbox h.inbox m.inbox i
into_stays k None (Some h) m = absurd m
into_stays k (Some g) None m = absurd m

from_stays : (k : ℕ) (g h : Option PlainHome) → KnowsMoreHomes g h → times_from k h ≡ times_from k g
from_stays k None None m = refl
from_stays k (Some g) (Some h) m = λ i. times k (m.pool.did.1 i) + taken_stays k g.inbox h.inbox m.inbox i
from_stays k None (Some h) m = absurd m
from_stays k (Some g) None m = absurd m

balanced_met : (opened : List ℕ) (s t : SeenPost) → HasMet s t → IsBalanced opened s.plain → IsBalanced opened t.plain
balanced_met opened s t m h = λ k.
    let held = ap (λ (p : PlainParty). times k (holds p)) m.party in
    let put = sums_stay (times_put k) (put_stays k) s.plain.ends.sides t.plain.ends.sides m.ends.sides in
    let got = sums_stay (times_got k) (got_stays k) s.plain.ends.sides t.plain.ends.sides m.ends.sides in
    let into = into_stays k s.plain.ends.home t.plain.ends.home m.ends.home in
    let from = from_stays k s.plain.ends.home t.plain.ends.home m.ends.home in
    let before = h k in
    omega (arith, held, put, got, into, from, before)

-- what went through its ends, and what did not
through_met : (x y : PlainSide) → KnowsMoreAt x y → IsThrough x → IsThrough y
through_met x y m h = subst (λ (e : PlainEnd). AllByRecursion (IsCarried (rule.Lane e.carries)) e.items) (sym m.end) h

through_all : (xs ys : List PlainSide) → AllZip KnowsMoreAt xs ys → AllByRecursion IsThrough xs → AllByRecursion IsThrough ys
through_all [] [] m h = tt
through_all (x ∷ xs) (y ∷ ys) m h = (through_met x y m.0 h.0, through_all xs ys m.1 h.1)
through_all [] (y ∷ ys) m h = absurd m
through_all (x ∷ xs) [] m h = absurd m

full_met : (es : List Entry) (x y : PlainSide) → KnowsMoreAt x y → WasCrammed es x → WasCrammed es y
full_met es x y m h = subst (WasCrammed es) (sym (side_stays x y m)) h

full_all : (es : List Entry) (xs ys : List PlainSide) → AllZip KnowsMoreAt xs ys → AllByRecursion (WasCrammed es) xs → AllByRecursion (WasCrammed es) ys
full_all es [] [] m h = tt
full_all es (x ∷ xs) (y ∷ ys) m h = (full_met es x y m.0 h.0, full_all es xs ys m.1 h.1)
full_all es [] (y ∷ ys) m h = absurd m
full_all es (x ∷ xs) [] m h = absurd m

-- a post
from_met : (nodes : List PlainNodeQueues) (opening : PlainParty) (opened : List ℕ) (s t : SeenPost) → HasMet s t → IsPostFrom nodes opening opened s.plain → IsPostFrom nodes opening opened t.plain
from_met nodes opening opened s t m h = record {
  runs = subst (λ (es : List Entry). Runs party_steps opening es t.plain.party) (sym m.entries) (subst (Runs party_steps opening s.plain.entries) (sym m.party) h.runs);
  of_it = keeping.of_it nodes s.plain.ends t.plain.ends m.ends h.of_it;
  ends = keeping.whole s.plain.ends t.plain.ends m.ends h.ends;
  traced = subst (λ (es : List Entry). AreTraced opened es t.plain.ends) (sym m.entries) (keeping.traced s.plain.ends t.plain.ends opened s.plain.entries m.ends h.traced);
  marked = subst (λ (es : List Entry). AreMarked es t.plain.ends.sides) (sym m.entries) (keeping.marked s.plain.ends t.plain.ends s.plain.entries m.ends h.marked);
  balanced = balanced_met opened s t m h.balanced;
}

met_stay : (s t : SeenPost) → HasMet s t → Stays s.plain t.plain
met_stay s t m = record { who = m.who; still = ends_stay s.plain.ends t.plain.ends m.ends }

post_met : (scene : PlainScene) (n : PlainNetwork) (o : PlainOpening) (s t : SeenPost) → HasMet s t → IsPostOf scene n o s.plain → IsPostOf scene n o t.plain
post_met scene n o s t m h =
    post_kept scene n o s.plain t.plain (met_stay s t m) (from_met n.nodes o.party (opened_in scene o.who) s t m h.from)
    (subst (λ (es : List Entry). AllByRecursion (IsCarried rule.Inbox) (gets queue.Inbox es)) (sym m.entries) h.got)
    (through_all s.plain.ends.sides t.plain.ends.sides m.ends.sides h.through)
    (subst (λ (es : List Entry). AllByRecursion (WasCrammed es) t.plain.ends.sides) (sym m.entries) (full_all s.plain.entries s.plain.ends.sides t.plain.ends.sides m.ends.sides h.full))
    (subst (λ (es : List Entry). AllByRecursion (λ e. e.time < 2 ^ 62) es) (sym m.entries) h.early) h

posts_met : (scene : PlainScene) (n : PlainNetwork) (os : List PlainOpening) (posts after : List SeenPost) → AllZip HasMet posts after → ArePostsOf scene n os (map (λ s. s.plain) posts) → ArePostsOf scene n os (map (λ s. s.plain) after)
posts_met scene n [] [] [] met h = tt
posts_met scene n (o ∷ os) (s ∷ posts) (t ∷ after) met h = (post_met scene n o s t met.0 h.0, posts_met scene n os posts after met.1 h.1)
posts_met scene n [] (s ∷ posts) after met h = absurd h
posts_met scene n (o ∷ os) [] after met h = absurd h
posts_met scene n [] [] (t ∷ after) met h = absurd met
posts_met scene n (o ∷ os) (s ∷ posts) [] met h = absurd met

all_stay : (posts after : List SeenPost) → AllZip HasMet posts after → AllZip Stays (map (λ s. s.plain) posts) (map (λ s. s.plain) after)
all_stay [] [] met = tt
all_stay (s ∷ posts) (t ∷ after) met = (met_stay s t met.0, all_stay posts after met.1)
all_stay [] (t ∷ after) met = absurd met
all_stay (s ∷ posts) [] met = absurd met

-- the network
pub network_met : (scene : PlainScene) (n : PlainNetwork) (posts after : List SeenPost) → AllZip HasMet posts after → IsNetworkOf scene n (map (λ s. s.plain) posts) → IsNetworkOf scene n (map (λ s. s.plain) after)
network_met scene n posts after met h =
    network_kept scene n (map (λ s. s.plain) posts) (map (λ s. s.plain) after) (all_stay posts after met) (posts_met scene n (parties_of scene) posts after met h.parties) h

-- How a turn that uses a party's passes of its own node is served.
use Rattle.std.proofs.Common.{◌≡◌, ℕ, Bool, true, false, Option, None, Some, Result, Ok, Err, List, [], map, slice_get, refl, sym, ap, subst, ◌∙◌}
use Rattle.std.specs.Prelude.{IsSome, IsSomeAnd, MatchOption, MatchResult}
use Rattle.std.specs.List.{AllByRecursion}
use Rattle.std.specs.Option.{option_map, is_some}
use Rattle.csp_buffer.specs.Content.{Content}
use Rattle.csp_buffer.specs.PlainBuffer.{PlainBuffer}
use Rattle.csp_consistent.proofs.Public.{queue_apart}
use Rattle.csp_consistent.specs.Reading.{is_queue}
use Rattle.csp_ends.specs.Causes.{HasGotEach, HasPassedOver, HasNoRoomAt, OfPass}
use Rattle.csp_ends.specs.Ends.{PlainNodeQueues, PlainSide, PlainHome, PlainEnds, AreEnds, inbox_of}
use Rattle.csp_ends.specs.Moves.{moved_by, side_after, hand_after, post_after, home_after, ends_after, with_hand, with_inbox, room_among, room_for}
use Rattle.csp_ends.specs.Serving.{Serves}
use Rattle.csp_ends.proofs.Lists.{all_from, all_then}
use Rattle.csp_ends.proofs.Still.{IsElsewhere, sides_still, inbox_still, ends_still}
use Rattle.csp_ends.proofs.Ways.{put_else, got_else, full_moves, empty_moves, empty_elsewhere, no_other}
use Rattle.csp_inbox.specs.Marks.{mark_of}
use Rattle.csp_lane.specs.Ends.{HadNoRoom}
use Rattle.csp_log.specs.Pictures.{shown_item}
use Rattle.csp_log.specs.declared.item.Item.{Item}
use Rattle.csp_log.specs.declared.places.QueueId.{QueueId}
use Rattle.csp_log.specs.declared.places.QueueId.TheVariants as queue
use Rattle.csp_log.specs.declared.shown.AnswerShown.{AnswerShown}
use Rattle.csp_log.specs.declared.shown.AnswerShown.TheVariants as answer
use Rattle.csp_log.specs.declared.shown.ItemShown.{ItemShown}
use Rattle.csp_log.specs.declared.shown.OpShown.{OpShown}
use Rattle.csp_log.specs.declared.shown.OpShown.TheVariants as op
use Rattle.csp_pool.specs.Hands as hands

-- no end moves anything
abbrev IsAside : OpShown → AnswerShown → PlainEnds → Type 0
IsAside o a d = AllByRecursion (λ s. moved_by s.puts s.queue o a ≡ []) d.sides

aside : (o : OpShown) (a : AnswerShown) (d : PlainEnds) → ((s : PlainSide) → moved_by s.puts s.queue o a ≡ []) → IsAside o a d
aside o a d each = all_from (λ (s : PlainSide). moved_by s.puts s.queue o a ≡ []) d.sides (λ k s there. each s)

-- the ends with these passes of the node
abbrev pub with_home : PlainEnds → PlainHome → PlainEnds
with_home d k = record { home = Some k; sides = d.sides }

at_home : (nodes : List PlainNodeQueues) (d : PlainEnds) (h k : PlainHome) (o : OpShown) (a : AnswerShown) → d.home ≡ Some h → k ≡ home_after (room_among (slice_get nodes h.node)) o a h → IsAside o a d
    → with_home d k ≡ ends_after (room_for nodes d.home) o a d
at_home nodes d h k o a there done none =
    let room = room_for nodes d.home in
    let same : room ≡ room_among (slice_get nodes h.node) = ap (room_for nodes) there in
    let home : Some k ≡ option_map (home_after room o a) d.home = ap (λ x. Some x) (done ∙ ap (λ n. home_after n o a h) (sym same)) ∙ ap (option_map (home_after room o a)) (sym there) in
    let sides : map (side_after d.sides o a) d.sides ≡ d.sides = sides_still d.sides o a d.sides none in
    λ i. record { home = home i; sides = sym sides i }

no_home : (room : ℕ) (d : PlainEnds) (o : OpShown) (a : AnswerShown) → d.home ≡ None → IsAside o a d → d ≡ ends_after room o a d
no_home room d o a there none =
    let home : d.home ≡ option_map (home_after room o a) d.home = there ∙ ap (option_map (home_after room o a)) (sym there) in
    let sides : map (side_after d.sides o a) d.sides ≡ d.sides = sides_still d.sides o a d.sides none in
    λ i. record { home = home i; sides = sym sides i }

-- the pool
hand_moved : (room : ℕ) (o : OpShown) (a : AnswerShown) (h : PlainHome) → IsElsewhere o a → with_hand h (hand_after room o a h.pool.hand) ≡ home_after room o a h
hand_moved room o a h e = λ i. record { node = h.node; pool = record { pool = h.pool.pool; hand = hand_after room o a h.pool.hand }; inbox = sym (inbox_still o a h.inbox e) i }

take_still : (way : Bool) (q : QueueId) (b : Content) → moved_by way q op.Take (answer.Taken b) ≡ []
take_still true q b = refl
take_still false q b = refl

lack_still : (way : Bool) (q : QueueId) → moved_by way q op.Take answer.NoBuffer ≡ []
lack_still true q = refl
lack_still false q = refl

give_still : (way : Bool) (q : QueueId) (b : Content) → moved_by way q (op.Give b) answer.Given ≡ []
give_still true q b = refl
give_still false q b = refl

cram_still : (way : Bool) (q : QueueId) (b c : Content) → moved_by way q (op.Give b) (answer.PoolFull c) ≡ []
cram_still true q b c = refl
cram_still false q b c = refl

has_home : (d : PlainEnds) (h : PlainHome) → d.home ≡ Some h → IsSome d.home
has_home d h there = ap is_some there

pub took_buffer : (nodes : List PlainNodeQueues) (d : PlainEnds) (h k : PlainHome) (r : Option PlainBuffer) → d.home ≡ Some h
    → MatchOption r (k ≡ with_hand h (hands.found_empty h.pool.hand)) (λ b. k ≡ with_hand h (hands.took h.pool.hand b.picture.number))
    → MatchOption r (Serves nodes d op.Take answer.NoBuffer (with_home d k)) (λ b. Serves nodes d op.Take (answer.Taken b.picture) (with_home d k))
took_buffer nodes d h k None there done = record {
  ends = at_home nodes d h k op.Take answer.NoBuffer there (done ∙ hand_moved (room_among (slice_get nodes h.node)) op.Take answer.NoBuffer h (record { puts = refl; gets = refl; crammed = λ r p. refl })) (aside op.Take answer.NoBuffer d (λ s. lack_still s.puts s.queue));
  cause = tt;
}
took_buffer nodes d h k (Some b) there done = record {
  ends = at_home nodes d h k op.Take (answer.Taken b.picture) there (done ∙ hand_moved (room_among (slice_get nodes h.node)) op.Take (answer.Taken b.picture) h (record { puts = refl; gets = refl; crammed = λ r p. refl })) (aside op.Take (answer.Taken b.picture) d (λ s. take_still s.puts s.queue b.picture));
  cause = has_home d h there;
}

pub took_nothing : (nodes : List PlainNodeQueues) (d : PlainEnds) → d.home ≡ None → Serves nodes d op.Take answer.NoBuffer d
took_nothing nodes d there = record { ends = no_home (room_for nodes d.home) d op.Take answer.NoBuffer there (aside op.Take answer.NoBuffer d (λ s. lack_still s.puts s.queue)); cause = tt }

pub gave_buffer : (nodes : List PlainNodeQueues) (d : PlainEnds) (h k : PlainHome) (b : PlainBuffer) (r : Result (Unit {0}) PlainBuffer) → d.home ≡ Some h
    → MatchResult r (λ _. k ≡ with_hand h (hands.gave h.pool.hand b.picture.number)) (λ _. k ≡ with_hand h (hands.found_full (room_among (slice_get nodes h.node)) h.pool.hand))
    → MatchResult r (λ _. Serves nodes d (op.Give b.picture) answer.Given (with_home d k)) (λ c. Serves nodes d (op.Give b.picture) (answer.PoolFull c.picture) (with_home d k))
gave_buffer nodes d h k b (Ok u) there done = record {
  ends = at_home nodes d h k (op.Give b.picture) answer.Given there (done ∙ hand_moved (room_among (slice_get nodes h.node)) (op.Give b.picture) answer.Given h (record { puts = refl; gets = refl; crammed = λ r p. refl })) (aside (op.Give b.picture) answer.Given d (λ s. give_still s.puts s.queue b.picture));
  cause = has_home d h there;
}
gave_buffer nodes d h k b (Err c) there done = record {
  ends = at_home nodes d h k (op.Give b.picture) (answer.PoolFull c.picture) there (done ∙ hand_moved (room_among (slice_get nodes h.node)) (op.Give b.picture) (answer.PoolFull c.picture) h (record { puts = refl; gets = refl; crammed = λ r p. refl })) (aside (op.Give b.picture) (answer.PoolFull c.picture) d (λ s. cram_still s.puts s.queue b.picture c.picture));
  cause = tt;
}

pub gave_nowhere : (nodes : List PlainNodeQueues) (d : PlainEnds) (b c : Content) → d.home ≡ None → Serves nodes d (op.Give b) (answer.PoolFull c) d
gave_nowhere nodes d b c there = record { ends = no_home (room_for nodes d.home) d (op.Give b) (answer.PoolFull c) there (aside (op.Give b) (answer.PoolFull c) d (λ s. cram_still s.puts s.queue b c)); cause = tt }

-- the inbox, whose name no end has
put_aside : (d : PlainEnds) (i : ItemShown) → AreEnds d → IsAside (op.Push queue.Inbox i) answer.Pushed d
put_aside d i whole =
    all_then (λ (s : PlainSide). is_queue queue.Inbox s.queue ≡ false) (λ (s : PlainSide). moved_by s.puts s.queue (op.Push queue.Inbox i) answer.Pushed ≡ []) (λ s apart. put_else s.puts s.queue queue.Inbox i (queue_apart queue.Inbox s.queue apart)) d.sides whole.lanes

got_aside : (d : PlainEnds) (i : ItemShown) → AreEnds d → IsAside (op.Pop queue.Inbox) (answer.Popped i) d
got_aside d i whole =
    all_then (λ (s : PlainSide). is_queue queue.Inbox s.queue ≡ false) (λ (s : PlainSide). moved_by s.puts s.queue (op.Pop queue.Inbox) (answer.Popped i) ≡ []) (λ s apart. got_else s.puts s.queue queue.Inbox i (queue_apart queue.Inbox s.queue apart)) d.sides whole.lanes

no_lane_full : (d : PlainEnds) → AreEnds d → AllByRecursion (HasNoRoomAt queue.Inbox) d.sides
no_lane_full d whole = no_other d queue.Inbox (λ (x : PlainSide). x.puts ≡ true → HadNoRoom x.end) whole.lanes

pub put_mail : (nodes : List PlainNodeQueues) (d : PlainEnds) (h k : PlainHome) (i : Item) (r : Result (Unit {0}) Item) → AreEnds d → d.home ≡ Some h
    → MatchResult r
    (λ _. IsSomeAnd h.inbox (λ x. mark_of (shown_item i) ≡ x.role.mark) × (k ≡ with_inbox h (option_map (post_after (op.Push queue.Inbox (shown_item i)) answer.Pushed) h.inbox)))
    (λ j. k ≡ with_inbox h (option_map (post_after (op.Push queue.Inbox (shown_item i)) (answer.Full (shown_item j))) h.inbox))
    → MatchResult r (λ _. Serves nodes d (op.Push queue.Inbox (shown_item i)) answer.Pushed (with_home d k)) (λ j. Serves nodes d (op.Push queue.Inbox (shown_item i)) (answer.Full (shown_item j)) (with_home d k))
put_mail nodes d h k i (Ok u) whole there done = record {
  ends = at_home nodes d h k (op.Push queue.Inbox (shown_item i)) answer.Pushed there done.1 (put_aside d (shown_item i) whole);
  cause = subst (λ x. IsSomeAnd (inbox_of x) (λ y. mark_of (shown_item i) ≡ y.role.mark)) (sym there) done.0;
}
put_mail nodes d h k i (Err j) whole there done = record {
  ends = at_home nodes d h k (op.Push queue.Inbox (shown_item i)) (answer.Full (shown_item j)) there done (aside (op.Push queue.Inbox (shown_item i)) (answer.Full (shown_item j)) d (λ s. full_moves s.puts s.queue queue.Inbox (shown_item i) (shown_item j)));
  cause = no_lane_full d whole;
}

pub put_nowhere : (nodes : List PlainNodeQueues) (d : PlainEnds) (i j : ItemShown) → AreEnds d → d.home ≡ None → Serves nodes d (op.Push queue.Inbox i) (answer.Full j) d
put_nowhere nodes d i j whole there = record {
  ends = no_home (room_for nodes d.home) d (op.Push queue.Inbox i) (answer.Full j) there (aside (op.Push queue.Inbox i) (answer.Full j) d (λ s. full_moves s.puts s.queue queue.Inbox i j));
  cause = no_lane_full d whole;
}

empty_inbox : (nodes : List PlainNodeQueues) (d : PlainEnds) → OfPass HasGotEach (inbox_of d.home) → Serves nodes d (op.Pop queue.Inbox) answer.Empty d
empty_inbox nodes d cause = record {
  ends = sym (ends_still (room_for nodes d.home) (op.Pop queue.Inbox) answer.Empty d (empty_elsewhere queue.Inbox) (λ v. refl) (λ way r. empty_moves way r queue.Inbox));
  cause = cause;
}

pub got_mail : (nodes : List PlainNodeQueues) (d : PlainEnds) (h k : PlainHome) (r : Option Item) → AreEnds d → d.home ≡ Some h
    → MatchOption r ((k ≡ h) × OfPass HasGotEach h.inbox)
    (λ i. IsSomeAnd h.inbox (λ x. (x.role.reads ≡ true) × HasPassedOver (shown_item i) x) × (k ≡ with_inbox h (option_map (post_after (op.Pop queue.Inbox) (answer.Popped (shown_item i))) h.inbox)))
    → MatchOption r (Serves nodes d (op.Pop queue.Inbox) answer.Empty (with_home d k)) (λ i. Serves nodes d (op.Pop queue.Inbox) (answer.Popped (shown_item i)) (with_home d k))
got_mail nodes d h k None whole there done =
    let same : d ≡ with_home d k = λ i. record { home = (there ∙ ap (λ x. Some x) (sym done.0)) i; sides = d.sides } in
    subst (Serves nodes d (op.Pop queue.Inbox) answer.Empty) same (empty_inbox nodes d (subst (λ x. OfPass HasGotEach (inbox_of x)) (sym there) done.1))
got_mail nodes d h k (Some i) whole there done = record {
  ends = at_home nodes d h k (op.Pop queue.Inbox) (answer.Popped (shown_item i)) there done.1 (got_aside d (shown_item i) whole);
  cause = subst (λ x. IsSomeAnd (inbox_of x) (λ y. (y.role.reads ≡ true) × HasPassedOver (shown_item i) y)) (sym there) done.0;
}

pub got_nothing : (nodes : List PlainNodeQueues) (d : PlainEnds) → d.home ≡ None → Serves nodes d (op.Pop queue.Inbox) answer.Empty d
got_nothing nodes d there = empty_inbox nodes d (subst (λ x. OfPass HasGotEach (inbox_of x)) (sym there) tt)

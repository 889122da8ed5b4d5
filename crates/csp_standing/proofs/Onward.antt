-- A round of all posts keeps what holds between rounds.
use Rattle.std.proofs.Common.{◌≡◌, ℕ, ◌+◌, ◌<◌, ◌≤◌, true, false, Some, IfSome, List, ◌++◌, length, slice_get, sym, ap, ◌∙◌, subst, arith, le_of_lt}
use Rattle.std.specs.List.{AllByRecursion, AllZip}
use Rattle.csp_base.specs.declared.priority.Prio.{Prio}
use Rattle.csp_consistent.specs.Pools.{given, taken}
use Rattle.csp_consistent.specs.Prompt.{CrammedAt, IsLanePrompt, LackedAt, PassedNone}
use Rattle.csp_consistent.specs.Reading.{gets, puts, with_mark, with_priority}
use Rattle.csp_consistent.specs.Rounds.{early}
use Rattle.csp_ends.specs.Ends.{PlainHome, PlainEnds, PlainNodeQueues, PlainSide}
use Rattle.csp_ends.specs.Moves.{ends_after_all, room_among, room_for}
use Rattle.csp_ends.specs.Traced.{AreTraced, IsHomeTraced, IsMailTraced, IsSideTraced}
use Rattle.csp_inbox.specs.Marks as marks
use Rattle.csp_inbox.specs.Passes as inbox
use Rattle.csp_log.specs.declared.entry.Entry.{Entry}
use Rattle.csp_log.specs.declared.places.QueueId.{QueueId}
use Rattle.csp_log.specs.declared.places.QueueId.TheVariants as queue
use Rattle.csp_pool.specs.Tallies.{known_total}
use Rattle.csp_posts.specs.Between.{AreAllTraced, AreInRounds, AreJoined, HasMetPool, HaveMet, HaveMetInbox, IsInboxBetween, IsLaneBetween, IsMarked, IsPoolBetween, PassesMarked, ShareInbox, early_given, early_taken, is_home, over_home}
use Rattle.csp_posts.specs.Posts.{AreTurns, PlainPost}
use Rattle.csp_log.specs.declared.who.Who.{Who}
use Rattle.csp_scene.proofs.Public.{AllByRecursion-append, AllByRecursion-map}
use Rattle.csp_standing.proofs.Early.{after_round, early_before, early_now}
use Rattle.csp_standing.proofs.InboxRounds.{crammed_more, inbox_looks, inbox_pushes, same_marked}
use Rattle.csp_standing.proofs.LaneRounds.{Rounded, lane_goes_on}
use Rattle.csp_standing.proofs.ListPlaces.{each_at, each_both, zip_before, zip_each, zip_with}
use Rattle.csp_standing.proofs.PoolRounds.{lacked_more, pool_looks, puts_told, sums_same, takes_told}
use Rattle.csp_standing.proofs.Turns.{IsHomeAfter, IsPassAfter, IsSideAfter, home_before, node_kept, side_before}

-- a post before a round, all of whose turns are of earlier rounds, and after it
pub record Turned (nodes : List PlainNodeQueues) (now count : ℕ) (s t : PlainPost) : Type 0 where
  pub old : AllByRecursion (λ e. e.time < now) s.entries
  pub turn : AreTurns nodes now count s t

pub lane_named : (n m : ℕ) (p q : QueueId) (es fs : List Entry) (g h : QueueId) (gs hs : List Entry) → n ≡ m → p ≡ q → es ≡ fs → g ≡ h → gs ≡ hs → IsLanePrompt n p es g gs → IsLanePrompt m q fs h hs
lane_named n m p q es fs g h gs hs room putter puts getter gets prompt =
    subst (λ x. IsLanePrompt m q fs h x) gets (subst (λ x. IsLanePrompt m q fs x gs) getter (subst (λ x. IsLanePrompt m q x g gs) puts (subst (λ x. IsLanePrompt m x es g gs) putter (subst (λ x. IsLanePrompt x p es g gs) room prompt))))

module _ (nodes : List PlainNodeQueues) (opened : Who → List ℕ) (now count : ℕ) (posts after : List PlainPost) (told : AreAllTraced nodes opened posts) (past : AreInRounds nodes now posts) (met : HaveMet posts)
    (zip : AllZip (Turned nodes now count) posts after) where
  -- the post at a place before the round
  before : (i : ℕ) (t : PlainPost) → slice_get after i ≡ Some t → (s : PlainPost) × (slice_get posts i ≡ Some s) × Turned nodes now count s t
  before i t at = zip_before (Turned nodes now count) posts after i t zip at

  rounded : (s t : PlainPost) (d : Turned nodes now count s t) → Rounded now s.entries d.turn.more (room_for nodes s.ends.home) s.ends
  rounded s t d = record { old = d.old; times = d.turn.times; causes = d.turn.causes }

  side_of : (s t : PlainPost) → Turned nodes now count s t → (a : ℕ) (y : PlainSide) → slice_get t.ends.sides a ≡ Some y → (x : PlainSide) × (slice_get s.ends.sides a ≡ Some x) × IsSideAfter x y
  side_of s t d a y at = side_before (room_for nodes s.ends.home) d.turn.more s.ends a y (ap (λ (e : PlainEnds). slice_get e.sides a) (sym d.turn.ends) ∙ at)

  home_there : (s t : PlainPost) (d : Turned nodes now count s t) (h : PlainHome) → t.ends.home ≡ Some h → (ends_after_all (room_for nodes s.ends.home) s.ends d.turn.more).home ≡ Some h
  home_there s t d h at = ap (λ (e : PlainEnds). e.home) (sym d.turn.ends) ∙ at

  home_of : (s t : PlainPost) → Turned nodes now count s t → (h : PlainHome) → t.ends.home ≡ Some h → (g : PlainHome) × (s.ends.home ≡ Some g) × IsHomeAfter g h
  home_of s t d h at = home_before (room_for nodes s.ends.home) d.turn.more s.ends h (home_there s t d h at)

  traced : (i : ℕ) (s : PlainPost) → slice_get posts i ≡ Some s → AreTraced (opened s.who) s.entries s.ends
  traced i s at = each_at (λ (s : PlainPost). AreTraced (opened s.who) s.entries s.ends) posts i s told.each at

  home_traced : (i : ℕ) (s : PlainPost) (h : PlainHome) → slice_get posts i ≡ Some s → s.ends.home ≡ Some h → IsHomeTraced (opened s.who) s.entries h
  home_traced i s h at home = subst (λ o. IfSome o (IsHomeTraced (opened s.who) s.entries)) home (traced i s at).home

  lane_on : (i j : ℕ) (s t : PlainPost) (x y : PlainSide) → AreJoined after i j s x t y → IsLaneBetween s x t y
  lane_on i j s t x y joined =
      let l : (z : PlainPost) × (slice_get posts i ≡ Some z) × Turned nodes now count z s = before i s joined.first in
      let r : (z : PlainPost) × (slice_get posts j ≡ Some z) × Turned nodes now count z t = before j t joined.second in
      let p : (z : PlainSide) × (slice_get l.0.ends.sides joined.a ≡ Some z) × IsSideAfter z x = side_of l.0 s l.2 joined.a x joined.from in
      let q : (z : PlainSide) × (slice_get r.0.ends.sides joined.b ≡ Some z) × IsSideAfter z y = side_of r.0 t r.2 joined.b y joined.to in
      let putting : p.0.puts ≡ true = sym p.2.puts ∙ joined.puts in
      let getting : q.0.puts ≡ false = sym q.2.puts ∙ joined.gets in
      let both : AreJoined posts i j l.0 p.0 r.0 q.0 = record {
        first = l.1;
        second = r.1;
        apart = joined.apart;
        a = joined.a;
        b = joined.b;
        from = p.1;
        to = q.1;
        puts = putting;
        gets = getting;
        node = sym q.2.node ∙ joined.node ∙ p.2.node;
        lane = sym q.2.lane ∙ joined.lane ∙ p.2.lane;
      } in
      lane_named p.0.end.room x.end.room p.0.queue x.queue (l.0.entries ++ l.2.turn.more) s.entries q.0.queue y.queue (r.0.entries ++ r.2.turn.more) t.entries
      (sym p.2.room) (sym p.2.queue) (sym l.2.turn.entries) (sym q.2.queue) (sym r.2.turn.entries)
      (lane_goes_on now l.0.entries l.2.turn.more (room_for nodes l.0.ends.home) l.0.ends r.0.entries r.2.turn.more (room_for nodes r.0.ends.home) r.0.ends joined.a joined.b p.0 q.0
      (rounded l.0 s l.2) (rounded r.0 t r.2) p.1 q.1 putting getting
      (each_at (IsSideTraced l.0.entries) l.0.ends.sides joined.a p.0 (traced i l.0 l.1).sides p.1)
      (each_at (IsSideTraced r.0.entries) r.0.ends.sides joined.b q.0 (traced j r.0 r.1).sides q.1)
      (met.lanes i j l.0 r.0 p.0 q.0 both) (past.lanes i j l.0 r.0 p.0 q.0 both))

  mail_traced : (i : ℕ) (s : PlainPost) (h : PlainHome) (x : inbox.PlainPass) (p : Prio) → slice_get posts i ≡ Some s → s.ends.home ≡ Some h → h.inbox ≡ Some x → IsMailTraced s.entries x p
  mail_traced i s h x p at home there = subst (λ o. IfSome o (λ y. (p : Prio) → IsMailTraced s.entries y p)) there (home_traced i s h at home).inbox p

  -- of the two passes, with the turns of both
  passed_on : (i j : ℕ) (s t hub other : PlainPost) (a : Turned nodes now count s hub) (b : Turned nodes now count t other) (g : PlainHome) (x y : inbox.PlainPass) (p : Prio)
      → slice_get posts i ≡ Some s → slice_get posts j ≡ Some t → s.ends.home ≡ Some g → g.inbox ≡ Some x → x.role.reads ≡ true
      → length (with_mark y.role.mark (with_priority p (puts queue.Inbox t.entries))) ≤ inbox.known_puts (inbox.mail_at x p) y.role.mark → PassesMarked p y.role.mark t.entries s.entries
      → PassesMarked p y.role.mark (t.entries ++ b.turn.more) (s.entries ++ a.turn.more)
  passed_on i j s t hub other a b g x y p first second home there reads knows prompt =
      after_round (λ xs bs m. PassedNone p y.role.mark (length (with_mark y.role.mark (with_priority p (puts queue.Inbox xs)))) bs m.op m.answer) now t.entries b.turn.more s.entries a.turn.more
      b.old b.turn.times a.old a.turn.times prompt
      (inbox_looks (room_for nodes s.ends.home) (length (with_mark y.role.mark (with_priority p (puts queue.Inbox t.entries)))) y.role.mark p a.turn.more s.ends g x s.entries
      home there reads (mail_traced i s g x p first home there).got knows a.turn.causes)

  -- the floors of the one that writes
  crammed_on : (s t hub other : PlainPost) (a : Turned nodes now count s hub) (b : Turned nodes now count t other) (g h : PlainHome) (x y : inbox.PlainPass) (p : Prio)
      → t.ends.home ≡ Some g → other.ends.home ≡ Some h → g.inbox ≡ Some x → h.inbox ≡ Some y → (inbox.mail_at x p).puts_floor ≤ (inbox.mail_at y p).puts_floor
      → length (with_priority p (gets queue.Inbox s.entries)) ≤ inbox.known_gets (inbox.mail_at x p)
      → AllByRecursion (λ e. IsMarked x.role.mark e.op → CrammedAt p (x.role.room + length (with_priority p (gets queue.Inbox (early e.time s.entries)))) (inbox.mail_at x p).puts_floor e.op e.answer) t.entries
      → AllByRecursion (λ e. IsMarked x.role.mark e.op → CrammedAt p (x.role.room + length (with_priority p (gets queue.Inbox (early e.time (s.entries ++ a.turn.more))))) (inbox.mail_at y p).puts_floor e.op e.answer)
      (t.entries ++ b.turn.more)
  crammed_on s t hub other a b g h x y p at there from to grown knows prompt =
      AllByRecursion-append (λ e. IsMarked x.role.mark e.op → CrammedAt p (x.role.room + length (with_priority p (gets queue.Inbox (early e.time (s.entries ++ a.turn.more))))) (inbox.mail_at y p).puts_floor e.op e.answer)
      t.entries b.turn.more
      (each_both (λ e. e.time < now) (λ e. IsMarked x.role.mark e.op → CrammedAt p (x.role.room + length (with_priority p (gets queue.Inbox (early e.time s.entries)))) (inbox.mail_at x p).puts_floor e.op e.answer)
      (λ e. IsMarked x.role.mark e.op → CrammedAt p (x.role.room + length (with_priority p (gets queue.Inbox (early e.time (s.entries ++ a.turn.more))))) (inbox.mail_at y p).puts_floor e.op e.answer) t.entries
      (λ e h crammed marked. crammed_more p (x.role.room + length (with_priority p (gets queue.Inbox (early e.time (s.entries ++ a.turn.more))))) (inbox.mail_at x p).puts_floor (inbox.mail_at y p).puts_floor e.op e.answer grown
      (subst (λ es. CrammedAt p (x.role.room + length (with_priority p (gets queue.Inbox es))) (inbox.mail_at x p).puts_floor e.op e.answer) (sym (early_before now e.time s.entries a.turn.more a.turn.times (le_of_lt h))) (crammed marked)))
      b.old prompt)
      (each_both (λ e. e.time ≡ now) (λ e. IsMarked x.role.mark e.op → CrammedAt p (x.role.room + length (with_priority p (gets queue.Inbox s.entries))) (inbox.mail_at y p).puts_floor e.op e.answer)
      (λ e. IsMarked x.role.mark e.op → CrammedAt p (x.role.room + length (with_priority p (gets queue.Inbox (early e.time (s.entries ++ a.turn.more))))) (inbox.mail_at y p).puts_floor e.op e.answer) b.turn.more
      (λ e h crammed marked. subst (λ es. CrammedAt p (x.role.room + length (with_priority p (gets queue.Inbox es))) (inbox.mail_at y p).puts_floor e.op e.answer) (sym (early_now now e.time s.entries a.turn.more a.old a.turn.times h)) (crammed marked))
      b.turn.times
      (inbox_pushes (room_for nodes t.ends.home) (length (with_priority p (gets queue.Inbox s.entries))) p b.turn.more t.ends g h x y at (home_there t other b h there) from to knows))

  inbox_on : (i j : ℕ) (hub s : PlainPost) (x y : inbox.PlainPass) (p : Prio) → ShareInbox after i j hub x s y → IsInboxBetween hub s y p
  inbox_on i j hub s x y p shared =
      let l : (z : PlainPost) × (slice_get posts i ≡ Some z) × Turned nodes now count z hub = before i hub shared.first in
      let r : (z : PlainPost) × (slice_get posts j ≡ Some z) × Turned nodes now count z s = before j s shared.second in
      let g : (z : PlainHome) × (l.0.ends.home ≡ Some z) × IsHomeAfter z shared.g = home_of l.0 hub l.2 shared.g shared.hub_home in
      let h : (z : PlainHome) × (r.0.ends.home ≡ Some z) × IsHomeAfter z shared.h = home_of r.0 s r.2 shared.h shared.home in
      let v : (z : inbox.PlainPass) × (g.0.inbox ≡ Some z) × IsPassAfter z x = g.2.inbox x shared.hub_pass in
      let w : (z : inbox.PlainPass) × (h.0.inbox ≡ Some z) × IsPassAfter z y = h.2.inbox y shared.pass in
      let reads : v.0.role.reads ≡ true = ap (λ q. q.reads) (sym v.2.role) ∙ shared.reads in
      let both : ShareInbox posts i j l.0 v.0 r.0 w.0 = record {
        first = l.1;
        second = r.1;
        g = g.0;
        h = h.0;
        hub_home = g.1;
        home = h.1;
        node = sym h.2.node ∙ shared.node ∙ g.2.node;
        hub_pass = v.1;
        pass = w.1;
        reads = reads;
      } in
      let known : HaveMetInbox v.0 w.0 p = met.inboxes i j l.0 r.0 v.0 w.0 p both in
      let prompt : IsInboxBetween l.0 r.0 w.0 p = past.inboxes i j l.0 r.0 v.0 w.0 p both in
      let puts_known : length (with_mark w.0.role.mark (with_priority p (puts queue.Inbox r.0.entries))) ≤ inbox.known_puts (inbox.mail_at v.0 p) w.0.role.mark
      = subst (λ is. length is ≤ inbox.known_puts (inbox.mail_at v.0 p) w.0.role.mark)
      (ap (marks.with_mark w.0.role.mark) (mail_traced j r.0 h.0 w.0 p r.1 h.1 w.1).kept ∙ same_marked p w.0.role.mark (puts queue.Inbox r.0.entries)) known.puts in
      let gets_known : length (with_priority p (gets queue.Inbox l.0.entries)) ≤ inbox.known_gets (inbox.mail_at w.0 p)
      = subst (λ is. length is ≤ inbox.known_gets (inbox.mail_at w.0 p)) (mail_traced i l.0 g.0 v.0 p l.1 g.1 v.1).got known.gets in
      record {
        passed = subst (λ es. PassesMarked p y.role.mark s.entries es) (sym l.2.turn.entries)
            (subst (λ es. PassesMarked p y.role.mark es (l.0.entries ++ l.2.turn.more)) (sym r.2.turn.entries)
            (subst (λ m. PassesMarked p m (r.0.entries ++ r.2.turn.more) (l.0.entries ++ l.2.turn.more)) (ap (λ q. q.mark) (sym w.2.role))
            (passed_on i j l.0 r.0 hub s l.2 r.2 g.0 v.0 w.0 p l.1 r.1 g.1 v.1 reads puts_known prompt.passed)));
        full = subst (λ es. AllByRecursion (λ e. IsMarked y.role.mark e.op → CrammedAt p (y.role.room + length (with_priority p (gets queue.Inbox (early e.time es)))) (inbox.mail_at y p).puts_floor e.op e.answer) s.entries) (sym l.2.turn.entries)
            (subst (λ es. AllByRecursion (λ e. IsMarked y.role.mark e.op → CrammedAt p (y.role.room + length (with_priority p (gets queue.Inbox (early e.time (l.0.entries ++ l.2.turn.more))))) (inbox.mail_at y p).puts_floor e.op e.answer) es) (sym r.2.turn.entries)
            (subst (λ q. AllByRecursion (λ e. IsMarked q.mark e.op → CrammedAt p (q.room + length (with_priority p (gets queue.Inbox (early e.time (l.0.entries ++ l.2.turn.more))))) (inbox.mail_at y p).puts_floor e.op e.answer) (r.0.entries ++ r.2.turn.more)) (sym w.2.role)
            (crammed_on l.0 r.0 hub s l.2 r.2 h.0 shared.h w.0 y p h.1 shared.home w.1 shared.pass (w.2.floors p) gets_known prompt.full)));
      }

  -- what was given and taken before each entry
  home_same : (node : ℕ) (s t : PlainPost) → Turned nodes now count s t → is_home node t.ends.home ≡ is_home node s.ends.home
  home_same node s t d = ap (λ (e : PlainEnds). is_home node e.home) d.turn.ends ∙ node_kept (room_for nodes s.ends.home) d.turn.more s.ends node

  sum_before : (node t : ℕ) (f : List Entry → List ℕ) → t ≤ now → over_home node (λ s. length (f (early t s.entries))) after ≡ over_home node (λ s. length (f (early t s.entries))) posts
  sum_before node t f h =
      sums_same node (λ s. length (f (early t s.entries))) (λ s. length (f (early t s.entries))) (Turned nodes now count) posts after (home_same node)
      (λ a b d. ap (λ es. length (f (early t es))) d.turn.entries ∙ ap (λ es. length (f es)) (early_before now t a.entries d.turn.more d.turn.times h)) zip

  sum_now : (node t : ℕ) (f : List Entry → List ℕ) → t ≡ now → over_home node (λ s. length (f (early t s.entries))) after ≡ over_home node (λ s. length (f s.entries)) posts
  sum_now node t f h =
      sums_same node (λ s. length (f s.entries)) (λ s. length (f (early t s.entries))) (Turned nodes now count) posts after (home_same node)
      (λ a b d. ap (λ es. length (f (early t es))) d.turn.entries ∙ ap (λ es. length (f es)) (early_now now t a.entries d.turn.more d.old d.turn.times h)) zip

  -- a party at this node, with a pool of this room
  pool_at : (node room : ℕ) (s t : PlainPost) (d : Turned nodes now count s t) (g h : PlainHome) → s.ends.home ≡ Some g → (ends_after_all room s.ends d.turn.more).home ≡ Some h
      → room + over_home node (λ u. length (given u.entries)) posts ≤ known_total g.pool.hand.puts → over_home node (λ u. length (taken u.entries)) posts ≤ known_total g.pool.hand.takes
      → g.pool.hand.takes.floor ≤ h.pool.hand.takes.floor → g.pool.hand.puts.floor ≤ h.pool.hand.puts.floor
      → AllByRecursion (λ e. LackedAt (room + early_given node e.time posts) g.pool.hand.takes.floor (room + early_taken node e.time posts) g.pool.hand.puts.floor e.op e.answer) s.entries
      → AllByRecursion (λ e. LackedAt (room + early_given node e.time after) h.pool.hand.takes.floor (room + early_taken node e.time after) h.pool.hand.puts.floor e.op e.answer) (s.entries ++ d.turn.more)
  pool_at node room s t d g h at there puts takes takes_floor puts_floor prompt =
      AllByRecursion-append (λ e. LackedAt (room + early_given node e.time after) h.pool.hand.takes.floor (room + early_taken node e.time after) h.pool.hand.puts.floor e.op e.answer) s.entries d.turn.more
      (each_both (λ e. e.time < now) (λ e. LackedAt (room + early_given node e.time posts) g.pool.hand.takes.floor (room + early_taken node e.time posts) g.pool.hand.puts.floor e.op e.answer)
      (λ e. LackedAt (room + early_given node e.time after) h.pool.hand.takes.floor (room + early_taken node e.time after) h.pool.hand.puts.floor e.op e.answer) s.entries
      (λ e l lacked. subst (λ n. LackedAt (room + n) h.pool.hand.takes.floor (room + early_taken node e.time after) h.pool.hand.puts.floor e.op e.answer) (sym (sum_before node e.time given (le_of_lt l)))
      (subst (λ n. LackedAt (room + early_given node e.time posts) h.pool.hand.takes.floor (room + n) h.pool.hand.puts.floor e.op e.answer) (sym (sum_before node e.time taken (le_of_lt l)))
      (lacked_more (room + early_given node e.time posts) g.pool.hand.takes.floor (room + early_taken node e.time posts) g.pool.hand.puts.floor h.pool.hand.takes.floor h.pool.hand.puts.floor e.op e.answer takes_floor puts_floor lacked)))
      d.old prompt)
      (each_both (λ e. e.time ≡ now)
      (λ e. LackedAt (room + over_home node (λ u. length (given u.entries)) posts) h.pool.hand.takes.floor (room + over_home node (λ u. length (taken u.entries)) posts) h.pool.hand.puts.floor e.op e.answer)
      (λ e. LackedAt (room + early_given node e.time after) h.pool.hand.takes.floor (room + early_taken node e.time after) h.pool.hand.puts.floor e.op e.answer) d.turn.more
      (λ e l lacked. subst (λ n. LackedAt (room + n) h.pool.hand.takes.floor (room + early_taken node e.time after) h.pool.hand.puts.floor e.op e.answer) (sym (sum_now node e.time given l))
      (subst (λ n. LackedAt (room + over_home node (λ u. length (given u.entries)) posts) h.pool.hand.takes.floor (room + n) h.pool.hand.puts.floor e.op e.answer) (sym (sum_now node e.time taken l)) lacked))
      d.turn.times
      (pool_looks room (room + over_home node (λ u. length (given u.entries)) posts) (over_home node (λ u. length (taken u.entries)) posts) d.turn.more s.ends g h at there puts takes))

  pool_on : (i : ℕ) (t : PlainPost) (h : PlainHome) → slice_get after i ≡ Some t → t.ends.home ≡ Some h → IsPoolBetween (room_among (slice_get nodes h.node)) after t h
  pool_on i t h at there =
      let l : (z : PlainPost) × (slice_get posts i ≡ Some z) × Turned nodes now count z t = before i t at in
      let g : (z : PlainHome) × (l.0.ends.home ≡ Some z) × IsHomeAfter z h = home_of l.0 t l.2 h there in
      let known : HasMetPool posts g.0 = met.pools i l.0 g.0 l.1 g.1 in
      let same : room_for nodes l.0.ends.home ≡ room_among (slice_get nodes g.0.node) = ap (room_for nodes) g.1 in
      let puts : room_among (slice_get nodes g.0.node) + over_home g.0.node (λ u. length (given u.entries)) posts ≤ known_total g.0.pool.hand.puts
      = subst (λ n. n ≤ known_total g.0.pool.hand.puts) (puts_told g.0.node opened posts told.each ∙ ap (λ n. n + over_home g.0.node (λ u. length (given u.entries)) posts) (told.whole g.0.node)) known.puts in
      let takes : over_home g.0.node (λ u. length (taken u.entries)) posts ≤ known_total g.0.pool.hand.takes
      = subst (λ n. n ≤ known_total g.0.pool.hand.takes) (takes_told g.0.node opened posts told.each) known.takes in
      subst (λ n. AllByRecursion (λ e. LackedAt (room_among (slice_get nodes n) + early_given n e.time after) h.pool.hand.takes.floor (room_among (slice_get nodes n) + early_taken n e.time after) h.pool.hand.puts.floor e.op e.answer) t.entries) (sym g.2.node)
      (subst (λ es. AllByRecursion (λ e. LackedAt (room_among (slice_get nodes g.0.node) + early_given g.0.node e.time after) h.pool.hand.takes.floor (room_among (slice_get nodes g.0.node) + early_taken g.0.node e.time after) h.pool.hand.puts.floor e.op e.answer) es) (sym l.2.turn.entries)
      (pool_at g.0.node (room_among (slice_get nodes g.0.node)) l.0 t l.2 g.0 h g.1
      (subst (λ n. (ends_after_all n l.0.ends l.2.turn.more).home ≡ Some h) same (home_there l.0 t l.2 h there))
      puts takes g.2.takes g.2.puts (past.pools i l.0 g.0 l.1 g.1)))

  times_on : AllByRecursion (λ s. AllByRecursion (λ e. e.time < now + 1) s.entries) after
  times_on =
      zip_each (Turned nodes now count) (λ s. AllByRecursion (λ e. e.time < now + 1) s.entries) posts after
      (λ s t d. subst (λ es. AllByRecursion (λ e. e.time < now + 1) es) (sym d.turn.entries)
      (AllByRecursion-append (λ e. e.time < now + 1) s.entries d.turn.more
      (AllByRecursion-map (λ e. e.time < now) (λ e. e.time < now + 1) s.entries (λ e h. omega (arith, h)) d.old)
      (AllByRecursion-map (λ e. e.time ≡ now) (λ e. e.time < now + 1) d.turn.more (λ e h. omega (arith, h)) d.turn.times))) zip

  pub all_on : AreInRounds nodes (now + 1) after
  all_on = record { times = times_on; lanes = lane_on; inboxes = inbox_on; pools = pool_on }

pub on_and_on : (nodes : List PlainNodeQueues) (opened : Who → List ℕ) (now count : ℕ) (posts after : List PlainPost) → AreAllTraced nodes opened posts → AreInRounds nodes now posts → HaveMet posts
    → AllZip (AreTurns nodes now count) posts after → AreInRounds nodes (now + 1) after
on_and_on nodes opened now count posts after told past met zip =
    all_on nodes opened now count posts after told past met
    (zip_with (λ s. AllByRecursion (λ e. e.time < now) s.entries) (AreTurns nodes now count) (Turned nodes now count) posts after (λ s t old turn. record { old = old; turn = turn }) past.times zip)

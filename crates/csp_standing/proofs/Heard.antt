-- A meeting of all posts keeps what holds between rounds.
use Rattle.std.proofs.Common.{◌≡◌, ℕ, ◌+◌, ◌<◌, ◌==◌, Option, Some, None, List, length, unwrap_or, slice_get, refl, sym, ap, ◌∙◌, subst}
use Rattle.std.specs.List.{AllByRecursion, AllZip}
use Rattle.csp_base.specs.declared.priority.Prio.{Prio}
use Rattle.csp_consistent.specs.Pools.{given, taken}
use Rattle.csp_consistent.specs.Prompt.{CrammedAt, LackedAt}
use Rattle.csp_consistent.specs.Reading.{gets, with_priority}
use Rattle.csp_consistent.specs.Rounds.{early}
use Rattle.csp_ends.specs.Ends.{PlainHome, PlainNodeQueues, PlainSide}
use Rattle.csp_ends.specs.Moves.{room_among}
use Rattle.csp_inbox.specs.Passes as inbox
use Rattle.csp_log.specs.declared.entry.Entry.{Entry}
use Rattle.csp_log.specs.declared.places.QueueId.TheVariants as queue
use Rattle.csp_posts.specs.Between.{AreInRounds, AreJoined, HasHeard, HasHeardAny, HasHeardAt, HasHeardHome, HasHeardInbox, HasHeardOf, IsInboxBetween, IsLaneBetween, IsMarked, IsPoolBetween, PassesMarked, ShareInbox, early_given, early_taken, is_home, over_home}
use Rattle.csp_posts.specs.Posts.{PlainPost}
use Rattle.csp_scene.proofs.Public.{AllByRecursion-map}
use Rattle.csp_standing.proofs.InboxRounds.{crammed_more}
use Rattle.csp_standing.proofs.ListPlaces.{zip_before, zip_each, zip_with}
use Rattle.csp_standing.proofs.Onward.{lane_named}
use Rattle.csp_standing.proofs.PoolRounds.{lacked_more, sums_same}

heard_home : (a b : Option PlainHome) (h : PlainHome) → HasHeardOf a b → b ≡ Some h → (g : PlainHome) × (a ≡ Some g) × HasHeardHome g h
heard_home None None h heard e = absurd cc
heard_home None (Some k) h heard e = absurd heard
heard_home (Some g) None h heard e = absurd heard
heard_home (Some g) (Some k) h heard e = (g, refl, subst (HasHeardHome g) (ap (λ o. unwrap_or o h) e) heard)

heard_pass : (a b : Option inbox.PlainPass) (y : inbox.PlainPass) → HasHeardAny a b → b ≡ Some y → (x : inbox.PlainPass) × (a ≡ Some x) × HasHeardInbox x y
heard_pass None None y heard e = absurd cc
heard_pass None (Some z) y heard e = absurd heard
heard_pass (Some x) None y heard e = absurd heard
heard_pass (Some x) (Some z) y heard e = (x, refl, subst (HasHeardInbox x) (ap (λ o. unwrap_or o y) e) heard)

heard_node : (node : ℕ) (a b : Option PlainHome) → HasHeardOf a b → is_home node b ≡ is_home node a
heard_node node None None heard = refl
heard_node node None (Some k) heard = absurd heard
heard_node node (Some g) None heard = absurd heard
heard_node node (Some g) (Some k) heard = ap (λ n. n == node) heard.node

module _ (nodes : List PlainNodeQueues) (now : ℕ) (posts after : List PlainPost) (past : AreInRounds nodes now posts) (zip : AllZip HasHeard posts after) where
  before : (i : ℕ) (t : PlainPost) → slice_get after i ≡ Some t → (s : PlainPost) × (slice_get posts i ≡ Some s) × HasHeard s t
  before i t at = zip_before HasHeard posts after i t zip at

  lane_kept : (i j : ℕ) (s t : PlainPost) (x y : PlainSide) → AreJoined after i j s x t y → IsLaneBetween s x t y
  lane_kept i j s t x y joined =
      let l : (z : PlainPost) × (slice_get posts i ≡ Some z) × HasHeard z s = before i s joined.first in
      let r : (z : PlainPost) × (slice_get posts j ≡ Some z) × HasHeard z t = before j t joined.second in
      let p : (z : PlainSide) × (slice_get l.0.ends.sides joined.a ≡ Some z) × HasHeardAt z x = zip_before HasHeardAt l.0.ends.sides s.ends.sides joined.a x l.2.sides joined.from in
      let q : (z : PlainSide) × (slice_get r.0.ends.sides joined.b ≡ Some z) × HasHeardAt z y = zip_before HasHeardAt r.0.ends.sides t.ends.sides joined.b y r.2.sides joined.to in
      let both : AreJoined posts i j l.0 p.0 r.0 q.0 = record {
        first = l.1;
        second = r.1;
        apart = joined.apart;
        a = joined.a;
        b = joined.b;
        from = p.1;
        to = q.1;
        puts = sym p.2.puts ∙ joined.puts;
        gets = sym q.2.puts ∙ joined.gets;
        node = sym q.2.node ∙ joined.node ∙ p.2.node;
        lane = sym q.2.lane ∙ joined.lane ∙ p.2.lane;
      } in
      lane_named p.0.end.room x.end.room p.0.queue x.queue l.0.entries s.entries q.0.queue y.queue r.0.entries t.entries
      (sym p.2.room) (sym p.2.queue) (sym l.2.entries) (sym q.2.queue) (sym r.2.entries) (past.lanes i j l.0 r.0 p.0 q.0 both)

  inbox_kept : (i j : ℕ) (hub s : PlainPost) (x y : inbox.PlainPass) (p : Prio) → ShareInbox after i j hub x s y → IsInboxBetween hub s y p
  inbox_kept i j hub s x y p shared =
      let l : (z : PlainPost) × (slice_get posts i ≡ Some z) × HasHeard z hub = before i hub shared.first in
      let r : (z : PlainPost) × (slice_get posts j ≡ Some z) × HasHeard z s = before j s shared.second in
      let g : (z : PlainHome) × (l.0.ends.home ≡ Some z) × HasHeardHome z shared.g = heard_home l.0.ends.home hub.ends.home shared.g l.2.home shared.hub_home in
      let h : (z : PlainHome) × (r.0.ends.home ≡ Some z) × HasHeardHome z shared.h = heard_home r.0.ends.home s.ends.home shared.h r.2.home shared.home in
      let v : (z : inbox.PlainPass) × (g.0.inbox ≡ Some z) × HasHeardInbox z x = heard_pass g.0.inbox shared.g.inbox x g.2.inbox shared.hub_pass in
      let w : (z : inbox.PlainPass) × (h.0.inbox ≡ Some z) × HasHeardInbox z y = heard_pass h.0.inbox shared.h.inbox y h.2.inbox shared.pass in
      let both : ShareInbox posts i j l.0 v.0 r.0 w.0 = record {
        first = l.1;
        second = r.1;
        g = g.0;
        h = h.0;
        hub_home = g.1;
        home = h.1;
        node = sym h.2.node ∙ shared.node ∙ g.2.node;
        hub_pass = v.1;
        pass = w.1;
        reads = ap (λ q. q.reads) (sym v.2.role) ∙ shared.reads;
      } in
      let prompt : IsInboxBetween l.0 r.0 w.0 p = past.inboxes i j l.0 r.0 v.0 w.0 p both in
      record {
        passed = subst (λ es. PassesMarked p y.role.mark s.entries es) (sym l.2.entries)
            (subst (λ es. PassesMarked p y.role.mark es l.0.entries) (sym r.2.entries)
            (subst (λ m. PassesMarked p m r.0.entries l.0.entries) (ap (λ q. q.mark) (sym w.2.role)) prompt.passed));
        full = subst (λ es. AllByRecursion (λ e. IsMarked y.role.mark e.op → CrammedAt p (y.role.room + length (with_priority p (gets queue.Inbox (early e.time es)))) (inbox.mail_at y p).puts_floor e.op e.answer) s.entries) (sym l.2.entries)
            (subst (λ es. AllByRecursion (λ e. IsMarked y.role.mark e.op → CrammedAt p (y.role.room + length (with_priority p (gets queue.Inbox (early e.time l.0.entries)))) (inbox.mail_at y p).puts_floor e.op e.answer) es) (sym r.2.entries)
            (subst (λ q. AllByRecursion (λ e. IsMarked q.mark e.op → CrammedAt p (q.room + length (with_priority p (gets queue.Inbox (early e.time l.0.entries)))) (inbox.mail_at y p).puts_floor e.op e.answer) r.0.entries) (sym w.2.role)
            (AllByRecursion-map (λ (e : Entry). IsMarked w.0.role.mark e.op → CrammedAt p (w.0.role.room + length (with_priority p (gets queue.Inbox (early e.time l.0.entries)))) (inbox.mail_at w.0 p).puts_floor e.op e.answer)
            (λ e. IsMarked w.0.role.mark e.op → CrammedAt p (w.0.role.room + length (with_priority p (gets queue.Inbox (early e.time l.0.entries)))) (inbox.mail_at y p).puts_floor e.op e.answer) r.0.entries
            (λ e crammed marked. crammed_more p (w.0.role.room + length (with_priority p (gets queue.Inbox (early e.time l.0.entries)))) (inbox.mail_at w.0 p).puts_floor (inbox.mail_at y p).puts_floor e.op e.answer (w.2.mail p).floor (crammed marked))
            prompt.full)));
      }

  sum_kept : (node t : ℕ) (f : List Entry → List ℕ) → over_home node (λ s. length (f (early t s.entries))) after ≡ over_home node (λ s. length (f (early t s.entries))) posts
  sum_kept node t f =
      sums_same node (λ s. length (f (early t s.entries))) (λ s. length (f (early t s.entries))) HasHeard posts after
      (λ a b heard. heard_node node a.ends.home b.ends.home heard.home) (λ a b heard. ap (λ es. length (f (early t es))) heard.entries) zip

  pool_kept : (i : ℕ) (t : PlainPost) (h : PlainHome) → slice_get after i ≡ Some t → t.ends.home ≡ Some h → IsPoolBetween (room_among (slice_get nodes h.node)) after t h
  pool_kept i t h at there =
      let l : (z : PlainPost) × (slice_get posts i ≡ Some z) × HasHeard z t = before i t at in
      let g : (z : PlainHome) × (l.0.ends.home ≡ Some z) × HasHeardHome z h = heard_home l.0.ends.home t.ends.home h l.2.home there in
      subst (λ n. AllByRecursion (λ e. LackedAt (room_among (slice_get nodes n) + early_given n e.time after) h.pool.hand.takes.floor (room_among (slice_get nodes n) + early_taken n e.time after) h.pool.hand.puts.floor e.op e.answer) t.entries) (sym g.2.node)
      (subst (λ es. AllByRecursion (λ e. LackedAt (room_among (slice_get nodes g.0.node) + early_given g.0.node e.time after) h.pool.hand.takes.floor (room_among (slice_get nodes g.0.node) + early_taken g.0.node e.time after) h.pool.hand.puts.floor e.op e.answer) es) (sym l.2.entries)
      (AllByRecursion-map
      (λ (e : Entry). LackedAt (room_among (slice_get nodes g.0.node) + early_given g.0.node e.time posts) g.0.pool.hand.takes.floor (room_among (slice_get nodes g.0.node) + early_taken g.0.node e.time posts) g.0.pool.hand.puts.floor e.op e.answer)
      (λ e. LackedAt (room_among (slice_get nodes g.0.node) + early_given g.0.node e.time after) h.pool.hand.takes.floor (room_among (slice_get nodes g.0.node) + early_taken g.0.node e.time after) h.pool.hand.puts.floor e.op e.answer) l.0.entries
      (λ e lacked. subst (λ n. LackedAt (room_among (slice_get nodes g.0.node) + n) h.pool.hand.takes.floor (room_among (slice_get nodes g.0.node) + early_taken g.0.node e.time after) h.pool.hand.puts.floor e.op e.answer) (sym (sum_kept g.0.node e.time given))
      (subst (λ n. LackedAt (room_among (slice_get nodes g.0.node) + early_given g.0.node e.time posts) h.pool.hand.takes.floor (room_among (slice_get nodes g.0.node) + n) h.pool.hand.puts.floor e.op e.answer) (sym (sum_kept g.0.node e.time taken))
      (lacked_more (room_among (slice_get nodes g.0.node) + early_given g.0.node e.time posts) g.0.pool.hand.takes.floor (room_among (slice_get nodes g.0.node) + early_taken g.0.node e.time posts) g.0.pool.hand.puts.floor h.pool.hand.takes.floor h.pool.hand.puts.floor e.op e.answer
      g.2.pool.takes_floor g.2.pool.puts_floor lacked)))
      (past.pools i l.0 g.0 l.1 g.1)))

  times_kept : AllByRecursion (λ s. AllByRecursion (λ e. e.time < now) s.entries) after
  times_kept =
      zip_each (λ s t. AllByRecursion (λ (e : Entry). e.time < now) t.entries) (λ s. AllByRecursion (λ e. e.time < now) s.entries) posts after (λ s t old. old)
      (zip_with (λ (s : PlainPost). AllByRecursion (λ e. e.time < now) s.entries) HasHeard (λ s t. AllByRecursion (λ (e : Entry). e.time < now) t.entries) posts after
      (λ s t old heard. subst (λ es. AllByRecursion (λ e. e.time < now) es) (sym heard.entries) old) past.times zip)

  pub all_kept : AreInRounds nodes now after
  all_kept = record { times = times_kept; lanes = lane_kept; inboxes = inbox_kept; pools = pool_kept }

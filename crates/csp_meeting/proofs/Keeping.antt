-- What meetings keep.
use Rattle.std.proofs.Common.{◌≡◌, ℕ, zero, suc, Bool, true, false, cond, List, [], ◌∷◌, Option, None, Some, refl, sym, ap, ◌∙◌, subst, le_trans, le_refl, true≢false}
use Rattle.std.specs.Prelude.{IfSome, IsSome, IsSomeAnd, if◌then◌else◌, slice_get}
use Rattle.std.specs.List.{AllByRecursion, AllZip}
use Rattle.std.specs.Option.{option_map}
use Rattle.csp_arena.specs.Cells.{RegionName}
use Rattle.csp_base.specs.declared.priority.Prio.{Prio}
use Rattle.csp_consistent.specs.Reading.{is_queue}
use Rattle.csp_ends.proofs.Public.{back_same, tally_of, tally_picked}
use Rattle.csp_ends.specs.Ends.{PlainNodeQueues, PlainSide, PlainHome, PlainEnds, AreApart, AreEnds, AreOf, IsHomeOf, IsWithin, inbox_of, region_of, region_or, rule_of, side_named}
use Rattle.csp_ends.specs.Sides.{IsBacked, back_name, back_of, is_back}
use Rattle.csp_ends.specs.Traced.{AreMarked, AreTraced, IsHomeTraced, IsMailTraced, IsSideMarked, IsSideTraced, moved, told_of}
use Rattle.csp_inbox.specs.Passes.{PlainPass as Post}
use Rattle.csp_inbox.specs.Passes as inbox
use Rattle.csp_lane.specs.Ends.{PlainEnd}
use Rattle.csp_lists.specs.PlainDeck.{IsLinkRule}
use Rattle.csp_log.specs.declared.entry.Entry.{Entry}
use Rattle.csp_log.specs.declared.places.QueueId.{QueueId}
use Rattle.csp_log.specs.declared.places.QueueId.TheVariants as queue
use Rattle.csp_log.specs.declared.places.Rule.{Rule}
use Rattle.csp_log.specs.declared.places.Rule.TheVariants as rule
use Rattle.csp_meeting.proofs.Knowing.{all_of_stays, all_refl, all_trans}
use Rattle.csp_meeting.specs.Meeting.{KnowsMore, KnowsMoreAt, KnowsMoreHome, KnowsMoreHomes, KnowsMoreInbox, KnowsMoreOf, reads_inbox}
use Rattle.csp_pool.specs.PlainPool as pool
use Rattle.csp_pool.specs.Tallies.{Tally}

-- the region of a party's buffers stays
region_stays : (g h : Option PlainHome) → KnowsMoreHomes g h → region_or h ≡ region_or g
region_stays None None m = refl
region_stays (Some g) (Some h) m = m.pool.did.5
region_stays None (Some h) m = absurd m
region_stays (Some g) None m = absurd m

pub region : (d e : PlainEnds) → KnowsMore d e → region_of e ≡ region_of d
region d e m = region_stays d.home e.home m.home

-- its passes are of the same queues
pass_of : (x : inbox.PlainInbox) (p q : Option Post) → KnowsMoreInbox p q → IfSome p (inbox.IsPassOf x) → IfSome q (inbox.IsPassOf x)
pass_of x None None m h = h
pass_of x (Some p) (Some q) m h = record { inbox = m.inbox ∙ h.inbox; room = ap (λ r. r.room) m.role ∙ h.room }
pass_of x None (Some q) m h = absurd m
pass_of x (Some p) None m h = absurd m

home_there : (o : Option PlainNodeQueues) (g h : PlainHome) → KnowsMoreHome g h → IsSomeAnd o (λ q. pool.IsPassOf q.pool g.pool × IfSome g.inbox (inbox.IsPassOf q.inbox)) → IsSomeAnd o (λ q. pool.IsPassOf q.pool h.pool × IfSome h.inbox (inbox.IsPassOf q.inbox))
home_there None g h m k = absurd k
home_there (Some q) g h m k = (m.pool.pool ∙ k.0, pass_of q.inbox g.inbox h.inbox m.inbox k.1)

home_of : (nodes : List PlainNodeQueues) (g h : Option PlainHome) → KnowsMoreHomes g h → IfSome g (IsHomeOf nodes) → IfSome h (IsHomeOf nodes)
home_of nodes None None m k = k
home_of nodes (Some g) (Some h) m k = subst (λ n. IsSomeAnd (slice_get nodes n) (λ q. pool.IsPassOf q.pool h.pool × IfSome h.inbox (inbox.IsPassOf q.inbox))) (sym m.node) (home_there (slice_get nodes g.node) g h m k)
home_of nodes None (Some h) m k = absurd m
home_of nodes (Some g) None m k = absurd m

pub of_it : (nodes : List PlainNodeQueues) (d e : PlainEnds) → KnowsMore d e → AreOf nodes d → AreOf nodes e
of_it nodes d e m h = record { home = home_of nodes d.home e.home m.home h.home; sides = all_of_stays nodes d.sides e.sides m.sides h.sides }

-- what it calls its ends, and what goes through them, stays
carries_stay : (x y : PlainSide) → KnowsMoreAt x y → y.end.carries ≡ x.end.carries
carries_stay x y m = ap (λ (e : PlainEnd). e.carries) m.end

within_stays : (r s : RegionName) (x y : PlainSide) → s ≡ r → KnowsMoreAt x y → IsWithin r x → IsWithin s y
within_stays r s x y same m h none = ap (λ (e : PlainEnd). e.region) m.end ∙ h (λ k. none (subst IsLinkRule (sym (carries_stay x y m)) k)) ∙ sym same

all_within : (r s : RegionName) (xs ys : List PlainSide) → s ≡ r → AllZip KnowsMoreAt xs ys → AllByRecursion (IsWithin r) xs → AllByRecursion (IsWithin s) ys
all_within r s [] [] same m h = tt
all_within r s (x ∷ xs) (y ∷ ys) same m h = (within_stays r s x y same m.0 h.0, all_within r s xs ys same m.1 h.1)
all_within r s [] (y ∷ ys) same m h = absurd m
all_within r s (x ∷ xs) [] same m h = absurd m

all_lanes : (xs ys : List PlainSide) → AllZip KnowsMoreAt xs ys → AllByRecursion (λ s. is_queue queue.Inbox s.queue ≡ false) xs → AllByRecursion (λ s. is_queue queue.Inbox s.queue ≡ false) ys
all_lanes [] [] m h = tt
all_lanes (x ∷ xs) (y ∷ ys) m h = (ap (λ q. is_queue queue.Inbox q) m.0.queue ∙ h.0, all_lanes xs ys m.1 h.1)
all_lanes [] (y ∷ ys) m h = absurd m
all_lanes (x ∷ xs) [] m h = absurd m

-- an end of a party that knows more is one that it had
pub had : (xs ys : List PlainSide) (k : ℕ) (y : PlainSide) → AllZip KnowsMoreAt xs ys → slice_get ys k ≡ Some y → (x : PlainSide) × (slice_get xs k ≡ Some x) × KnowsMoreAt x y
had (x ∷ xs) (z ∷ ys) zero y m e = (x, refl, subst (KnowsMoreAt x) (first e) m.0) where
  first : Some z ≡ Some y → z ≡ y
  first f = ap (λ (o : Option PlainSide). or_else o) f where
    or_else : Option PlainSide → PlainSide
    or_else None = z
    or_else (Some s) = s
had (x ∷ xs) (z ∷ ys) (suc k) y m e = had xs ys k y m.1 e
had [] [] k y m e = absurd cc
had [] (z ∷ ys) k y m e = absurd m
had (x ∷ xs) [] k y m e = absurd m

apart_stays : (xs ys : List PlainSide) → AllZip KnowsMoreAt xs ys → AreApart xs → AreApart ys
apart_stays xs ys m h a b s t at_a at_b same =
    let x = had xs ys a s m at_a in
    let y = had xs ys b t m at_b in
    h a b x.0 y.0 x.1 y.1 (ap (λ q. is_queue q y.0.queue) (sym x.2.queue) ∙ ap (λ q. is_queue s.queue q) (sym y.2.queue) ∙ same)

token_stays : (r s : RegionName) (g h : Option PlainHome) → s ≡ r → KnowsMoreHomes g h → IfSome (inbox_of g) (λ p. p.role.token.name ≡ r) → IfSome (inbox_of h) (λ p. p.role.token.name ≡ s)
token_stays r s None None same m k = k
token_stays r s (Some g) (Some h) same m k = by g.inbox h.inbox m.inbox k where
  by : (p q : Option Post) → KnowsMoreInbox p q → IfSome p (λ x. x.role.token.name ≡ r) → IfSome q (λ x. x.role.token.name ≡ s)
  by None None n l = l
  by (Some p) (Some q) n l = ap (λ x. x.token.name) n.role ∙ l ∙ sym same
  by None (Some q) n l = absurd n
  by (Some p) None n l = absurd n
token_stays r s None (Some h) same m k = absurd m
token_stays r s (Some g) None same m k = absurd m

-- which end the marks of another tell of stays
back_found : (x z : PlainSide) (ys ws : List PlainSide) → KnowsMoreAt x z → AllZip KnowsMoreAt ys ws → tally_of (back_of ws z) ≡ tally_of (back_of ys x)
back_found x z [] [] f m = refl
back_found x z (y ∷ ys) (w ∷ ws) f m =
    ap (λ b. tally_of (cond b (Some w) (back_of ws z))) (back_same x z y w f.queue f.puts m.0.queue m.0.puts)
    ∙ tally_picked (is_back x y) y w (back_of ws z) (back_of ys x) (ap (λ (e : PlainEnd). e.tally) m.0.end) (back_found x z ys ws f m.1)
back_found x z [] (w ∷ ws) f m = absurd m
back_found x z (y ∷ ys) [] f m = absurd m

all_backed : (ds es xs ys : List PlainSide) → AllZip KnowsMoreAt ds es → AllZip KnowsMoreAt xs ys → AllByRecursion (IsBacked ds) xs → AllByRecursion (IsBacked es) ys
all_backed ds es [] [] f m h = tt
all_backed ds es (x ∷ xs) (y ∷ ys) f m h = (ap (λ (e : PlainEnd). e.about) m.0.end ∙ h.0 ∙ sym (back_found x y ds es m.0 f), all_backed ds es xs ys f m.1 h.1)
all_backed ds es [] (y ∷ ys) f m h = absurd m
all_backed ds es (x ∷ xs) [] f m h = absurd m

pub whole : (d e : PlainEnds) → KnowsMore d e → AreEnds d → AreEnds e
whole d e m h =
    let same = region d e m in
    record {
      within = all_within (region_of d) (region_of e) d.sides e.sides same m.sides h.within;
      inbox = token_stays (region_of d) (region_of e) d.home e.home same m.home h.inbox;
      lanes = all_lanes d.sides e.sides m.sides h.lanes;
      apart = apart_stays d.sides e.sides m.sides h.apart;
      backed = all_backed d.sides e.sides d.sides e.sides m.sides m.sides h.backed;
    }

-- its queues carry the same
abbrev carried : PlainSide → Rule
carried s = rule.Lane s.end.carries

found : (x y : PlainSide) (a b c : Bool) (xs ys : Option PlainSide) → KnowsMoreAt x y → b ≡ a → option_map carried ys ≡ option_map carried xs → option_map carried (if b then Some y else ys) ≡ option_map carried (if a then Some x else xs)
found x y true true c xs ys m same rest = ap (λ k. Some (rule.Lane k)) (carries_stay x y m)
found x y false false c xs ys m same rest = rest
found x y true false c xs ys m same rest = absurd (true≢false (sym same))
found x y false true c xs ys m same rest = absurd (true≢false same)

named_stays : (q : QueueId) (xs ys : List PlainSide) → AllZip KnowsMoreAt xs ys → option_map carried (side_named q ys) ≡ option_map carried (side_named q xs)
named_stays q [] [] m = refl
named_stays q (x ∷ xs) (y ∷ ys) m = found x y (is_queue q x.queue) (is_queue q y.queue) true (side_named q xs) (side_named q ys) m.0 (ap (λ r. is_queue q r) m.0.queue) (named_stays q xs ys m.1)
named_stays q [] (y ∷ ys) m = absurd m
named_stays q (x ∷ xs) [] m = absurd m

inbox_stays : (g h : Option PlainHome) → KnowsMoreHomes g h → option_map (λ (_ : Post). rule.Inbox) (inbox_of h) ≡ option_map (λ (_ : Post). rule.Inbox) (inbox_of g)
inbox_stays None None m = refl
inbox_stays (Some g) (Some h) m = by g.inbox h.inbox m.inbox where
  by : (p q : Option Post) → KnowsMoreInbox p q → option_map (λ (_ : Post). rule.Inbox) q ≡ option_map (λ (_ : Post). rule.Inbox) p
  by None None n = refl
  by (Some p) (Some q) n = refl
  by None (Some q) n = absurd n
  by (Some p) None n = absurd n
inbox_stays None (Some h) m = absurd m
inbox_stays (Some g) None m = absurd m

pub rules : (d e : PlainEnds) (q : QueueId) → KnowsMore d e → rule_of e q ≡ rule_of d q
rules d e queue.Inbox m = inbox_stays d.home e.home m.home
rules d e (queue.Up k) m = named_stays (queue.Up k) d.sides e.sides m.sides
rules d e (queue.Down k) m = named_stays (queue.Down k) d.sides e.sides m.sides
rules d e (queue.Out k) m = named_stays (queue.Out k) d.sides e.sides m.sides
rules d e (queue.Tx k) m = named_stays (queue.Tx k) d.sides e.sides m.sides
rules d e (queue.Rx k) m = named_stays (queue.Rx k) d.sides e.sides m.sides

-- what went through them is what the log says
side_traced : (es : List Entry) (x y : PlainSide) → KnowsMoreAt x y → IsSideTraced es x → IsSideTraced es y
side_traced es x y m h = ap (λ (e : PlainEnd). e.items) m.end ∙ h ∙ λ i. moved (sym m.puts i) (sym m.queue i) es

sides_traced : (es : List Entry) (xs ys : List PlainSide) → AllZip KnowsMoreAt xs ys → AllByRecursion (IsSideTraced es) xs → AllByRecursion (IsSideTraced es) ys
sides_traced es [] [] m h = tt
sides_traced es (x ∷ xs) (y ∷ ys) m h = (side_traced es x y m.0 h.0, sides_traced es xs ys m.1 h.1)
sides_traced es [] (y ∷ ys) m h = absurd m
sides_traced es (x ∷ xs) [] m h = absurd m

home_traced : (opened : List ℕ) (es : List Entry) (g h : Option PlainHome) → KnowsMoreHomes g h → IfSome g (IsHomeTraced opened es) → IfSome h (IsHomeTraced opened es)
home_traced opened es None None m k = k
home_traced opened es (Some g) (Some h) m k = record { put = m.pool.did.0 ∙ k.put; taken = m.pool.did.1 ∙ k.taken; inbox = by g.inbox h.inbox m.inbox k.inbox } where
  by : (p q : Option Post) → KnowsMoreInbox p q → IfSome p (λ x. (prio : Prio) → IsMailTraced es x prio) → IfSome q (λ x. (prio : Prio) → IsMailTraced es x prio)
  by None None n l = l
  by (Some p) (Some q) n l = λ prio. record { kept = (n.mail prio).kept ∙ (l prio).kept; got = (n.mail prio).got ∙ (l prio).got }
  by None (Some q) n l = absurd n
  by (Some p) None n l = absurd n
home_traced opened es None (Some h) m k = absurd m
home_traced opened es (Some g) None m k = absurd m

pub traced : (d e : PlainEnds) (opened : List ℕ) (es : List Entry) → KnowsMore d e → AreTraced opened es d → AreTraced opened es e
traced d e opened es m h = record { home = home_traced opened es d.home e.home m.home h.home; sides = sides_traced es d.sides e.sides m.sides h.sides }

-- so are their marks
side_marked : (es : List Entry) (x y : PlainSide) → KnowsMoreAt x y → IsSideMarked es x → IsSideMarked es y
side_marked es x y m h =
    subst (λ (e : PlainEnd). IsSome e.about → IfSome (back_name y.queue) (λ other. e.marks ≡ told_of y.puts y.queue other es)) (sym m.end)
    (subst (λ p. IsSome x.end.about → IfSome (back_name y.queue) (λ other. x.end.marks ≡ told_of p y.queue other es)) (sym m.puts)
    (subst (λ q. IsSome x.end.about → IfSome (back_name q) (λ other. x.end.marks ≡ told_of x.puts q other es)) (sym m.queue) h))

sides_marked : (es : List Entry) (xs ys : List PlainSide) → AllZip KnowsMoreAt xs ys → AreMarked es xs → AreMarked es ys
sides_marked es [] [] m h = tt
sides_marked es (x ∷ xs) (y ∷ ys) m h = (side_marked es x y m.0 h.0, sides_marked es xs ys m.1 h.1)
sides_marked es [] (y ∷ ys) m h = absurd m
sides_marked es (x ∷ xs) [] m h = absurd m

pub marked : (d e : PlainEnds) (es : List Entry) → KnowsMore d e → AreMarked es d.sides → AreMarked es e.sides
marked d e es m h = sides_marked es d.sides e.sides m.sides h

-- meetings one after the other
tally_none : (t : Tally) → KnowsMoreOf t t
tally_none t = record { known = le_refl _; floor = le_refl _; untold = le_refl _ }

tally_both : (t u v : Tally) → KnowsMoreOf t u → KnowsMoreOf u v → KnowsMoreOf t v
tally_both t u v m n = record { known = le_trans m.known n.known; floor = le_trans m.floor n.floor; untold = le_trans n.untold m.untold }

home_none : (h : Option PlainHome) → KnowsMoreHomes h h
home_none None = tt
home_none (Some h) = record { node = refl; pool = record { pool = refl; did = (refl, refl, refl, refl, refl, refl); puts = tally_none _; takes = tally_none _ }; inbox = by h.inbox; itself = λ _. (refl, refl) } where
  by : (x : Option Post) → KnowsMoreInbox x x
  by None = tt
  by (Some x) = record { inbox = refl; role = refl; mail = λ p. record { kept = refl; got = refl; floor = refl; puts = λ mark. le_refl _; gets = le_refl _ } }

pub none : (d : PlainEnds) → KnowsMore d d
none d = record { home = home_none d.home; sides = all_refl d.sides }

reads_stay : (x y : Option Post) → KnowsMoreInbox x y → reads_inbox y ≡ reads_inbox x
reads_stay None None f = refl
reads_stay (Some x) (Some y) f = ap (λ r. r.reads) f.role
reads_stay None (Some y) f = absurd f
reads_stay (Some x) None f = absurd f

inbox_both : (x y z : Option Post) → KnowsMoreInbox x y → KnowsMoreInbox y z → KnowsMoreInbox x z
inbox_both None None z m n = n
inbox_both (Some x) (Some y) (Some z) m n = record {
  inbox = n.inbox ∙ m.inbox;
  role = n.role ∙ m.role;
  mail = λ p. record {
    kept = (n.mail p).kept ∙ (m.mail p).kept;
    got = (n.mail p).got ∙ (m.mail p).got;
    floor = (n.mail p).floor ∙ (m.mail p).floor;
    puts = λ mark. le_trans ((m.mail p).puts mark) ((n.mail p).puts mark);
    gets = le_trans (m.mail p).gets (n.mail p).gets;
  };
}
inbox_both (Some x) (Some y) None m n = absurd n
inbox_both None (Some y) z m n = absurd m
inbox_both (Some x) None z m n = absurd m

home_both : (f g h : Option PlainHome) → KnowsMoreHomes f g → KnowsMoreHomes g h → KnowsMoreHomes f h
home_both None None h m n = n
home_both (Some f) (Some g) (Some h) m n =
    let a = m.pool.did in
    let b = n.pool.did in
    record {
      node = n.node ∙ m.node;
      pool = record {
        pool = n.pool.pool ∙ m.pool.pool;
        did = (b.0 ∙ a.0, b.1 ∙ a.1, b.2 ∙ a.2, b.3 ∙ a.3, b.4 ∙ a.4, b.5 ∙ a.5);
        puts = tally_both _ _ _ m.pool.puts n.pool.puts;
        takes = tally_both _ _ _ m.pool.takes n.pool.takes;
      };
      inbox = inbox_both f.inbox g.inbox h.inbox m.inbox n.inbox;
      itself = λ follows.
          let x = m.itself follows in
          let y = n.itself (reads_stay f.inbox g.inbox m.inbox ∙ follows) in
          (y.0 ∙ x.0, y.1 ∙ x.1);
    }
home_both (Some f) (Some g) None m n = absurd n
home_both None (Some g) h m n = absurd m
home_both (Some f) None h m n = absurd m

pub both : (c d e : PlainEnds) → KnowsMore c d → KnowsMore d e → KnowsMore c e
both c d e m n = record { home = home_both c.home d.home e.home m.home n.home; sides = all_trans c.sides d.sides e.sides m.sides n.sides }

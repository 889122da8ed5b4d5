-- A round keeps an inbox prompt: the party that reads it, and one that writes, or itself.
use Rattle.std.proofs.Common.{◌≡◌, ℕ, ◌+◌, ◌<◌, ◌≤◌, Bool, true, false, cond, max, Some, List, [], ◌∷◌, ◌++◌, length, option_map, unwrap_or, IsSomeAnd, refl, sym, ap, ◌∙◌, subst, arith, le_trans, length-append, le-add_right, eq-eqb, lt-ltb}
use Rattle.std.proofs.Math.Nat.{le-max_left, le-max_right, max-le}
use Rattle.std.proofs.lemmas.Grind.{flat_map-append}
use Rattle.std.proofs.lemmas.List.Elements.{filter-append}
use Rattle.std.specs.Prelude.{if◌then◌else◌, ◌==◌, nat_lt}
use Rattle.std.specs.List.{AllByRecursion}
use Rattle.csp_base.specs.Priority.{prio_number}
use Rattle.csp_base.specs.declared.priority.Prio.{Prio}
use Rattle.csp_base.specs.declared.priority.Prio.TheVariants.{Critical, High, Normal, Low}
use Rattle.csp_buffer.specs.Content.{Content}
use Rattle.csp_consistent.specs.Prompt.{AllAfter, CrammedAt, PassedNone}
use Rattle.csp_consistent.specs.Reading.{gets, got_by, put_by, of_priority, with_mark, with_priority}
use Rattle.csp_deck.specs.Carried.{priority_of}
use Rattle.csp_ends.specs.Causes.{CauseOf, HasGotAllAt, HasGotBefore, HasGotEach, HasPassedOver, HaveCauses, OfPass}
use Rattle.csp_ends.specs.Ends.{PlainHome, PlainEnds, inbox_of}
use Rattle.csp_ends.specs.Moves.{ends_after, ends_after_all, home_after, mail_after, post_after}
use Rattle.csp_inbox.specs.Marks.{mark_of}
use Rattle.csp_inbox.specs.Marks as marks
use Rattle.csp_inbox.specs.Passes as inbox
use Rattle.csp_inbox.specs.declared.hand.Mail.{Mail}
use Rattle.csp_inbox.specs.declared.hand.Role.{Role}
use Rattle.csp_log.specs.declared.entry.Entry.{Entry}
use Rattle.csp_log.specs.declared.places.QueueId.TheVariants as queue
use Rattle.csp_log.specs.declared.shown.AnswerShown.{AnswerShown}
use Rattle.csp_log.specs.declared.shown.AnswerShown.TheVariants as answer
use Rattle.csp_log.specs.declared.shown.ItemShown.{ItemShown}
use Rattle.csp_log.specs.declared.shown.ItemShown.TheVariants as item
use Rattle.csp_log.specs.declared.shown.OpShown.{OpShown}
use Rattle.csp_log.specs.declared.shown.OpShown.TheVariants as op
use Rattle.csp_posts.specs.Between.{IsMarked}
use Rattle.csp_standing.proofs.LaneRounds.{gets_push}
use Rattle.csp_standing.proofs.Turns.{IsHomeAfter, IsPassAfter, home_later, mail_post}

-- among packets of a priority the two ways to look for a mark find the same
packet_marked : (mark k : ℕ) (b : Content) (here : Bool) (rest : List ItemShown) → marks.with_mark mark rest ≡ with_mark mark rest
    → marks.with_mark mark ((if here then item.Packet k b ∷ [] else []) ++ rest) ≡ with_mark mark ((if here then item.Packet k b ∷ [] else []) ++ rest)
packet_marked mark k b false rest same = same
packet_marked mark k b true rest same =
    by_mark (k == mark)
  where
    by_mark : (c : Bool) → cond c (item.Packet k b ∷ marks.with_mark mark rest) (marks.with_mark mark rest) ≡ (if c then item.Packet k b ∷ [] else []) ++ with_mark mark rest
    by_mark true = ap (λ is. item.Packet k b ∷ is) same
    by_mark false = same

pub same_marked : (p : Prio) (mark : ℕ) (is : List ItemShown) → marks.with_mark mark (with_priority p is) ≡ with_mark mark (with_priority p is)
same_marked p mark [] = refl
same_marked p mark (item.Packet k b ∷ is) = packet_marked mark k b (prio_number (priority_of b) == prio_number p) (with_priority p is) (same_marked p mark is)
same_marked p mark (item.Frame f ∷ is) = same_marked p mark is
same_marked p mark (item.Note n ∷ is) = same_marked p mark is

gets_push_of : (p : Prio) (es : List Entry) (m : Entry) → with_priority p (gets queue.Inbox (es ++ m ∷ [])) ≡ with_priority p (gets queue.Inbox es) ++ with_priority p (got_by queue.Inbox m.op m.answer)
gets_push_of p es m = ap (with_priority p) (gets_push queue.Inbox es m) ∙ flat_map-append (of_priority p) (gets queue.Inbox es) (got_by queue.Inbox m.op m.answer)

-- a pass knows of no fewer puts after a turn, and of no fewer gets
puts_known : (mark : ℕ) (r : Role) (p : Prio) (o : OpShown) (a : AnswerShown) (v : Mail) → inbox.known_puts v mark ≤ inbox.known_puts (mail_after r p o a v) mark
puts_known mark r p o a v =
    max-le (le-max_left (inbox.known_of v.known mark) _) (le_trans grown (le-max_right (inbox.known_of v.known mark) _))
  where
    grown : length (marks.with_mark mark v.kept) ≤ length (marks.with_mark mark (v.kept ++ with_priority p (put_by queue.Inbox o a)))
    grown = subst (λ is. length (marks.with_mark mark v.kept) ≤ length is) (sym (filter-append (λ i. mark_of i == mark) v.kept (with_priority p (put_by queue.Inbox o a))))
        (subst (λ n. length (marks.with_mark mark v.kept) ≤ n) (sym (length-append (marks.with_mark mark v.kept) (marks.with_mark mark (with_priority p (put_by queue.Inbox o a)))))
        (le-add_right (length (marks.with_mark mark v.kept)) _))

gets_known : (r : Role) (p : Prio) (o : OpShown) (a : AnswerShown) (v : Mail) → inbox.known_gets v ≤ inbox.known_gets (mail_after r p o a v)
gets_known r p o a v =
    max-le (le-max_left v.known_got _)
    (le_trans (subst (λ n. length v.got ≤ n) (sym (length-append v.got (with_priority p (got_by queue.Inbox o a)))) (le-add_right (length v.got) _)) (le-max_right v.known_got _))

-- of each priority that comes before it has got all
got_before : (p q : Prio) (x : inbox.PlainPass) → prio_number p < prio_number q → HasGotBefore q x → HasGotAllAt p x
got_before Critical High x h got = got
got_before Critical Normal x h got = got.0
got_before High Normal x h got = got.1
got_before Critical Low x h got = got.0
got_before High Low x h got = got.1
got_before Normal Low x h got = got.2
got_before Critical Critical x h got = absurd (omega (arith, h))
got_before High Critical x h got = absurd (omega (arith, h))
got_before High High x h got = absurd (omega (arith, h))
got_before Normal Critical x h got = absurd (omega (arith, h))
got_before Normal High x h got = absurd (omega (arith, h))
got_before Normal Normal x h got = absurd (omega (arith, h))
got_before Low Critical x h got = absurd (omega (arith, h))
got_before Low High x h got = absurd (omega (arith, h))
got_before Low Normal x h got = absurd (omega (arith, h))
got_before Low Low x h got = absurd (omega (arith, h))

got_each : (p : Prio) (x : inbox.PlainPass) → HasGotEach x → HasGotAllAt p x
got_each Critical x got = got.0
got_each High x got = got.1
got_each Normal x got = got.2
got_each Low x got = got.3

enough : (p : Prio) (mark earlier : ℕ) (x : inbox.PlainPass) (before : List Entry) → x.role.reads ≡ true → (inbox.mail_at x p).got ≡ with_priority p (gets queue.Inbox before)
    → earlier ≤ inbox.known_puts (inbox.mail_at x p) mark → HasGotAllAt p x → earlier ≤ length (with_mark mark (with_priority p (gets queue.Inbox before)))
enough p mark earlier x before reads got knows all =
    le_trans knows (subst (λ n. inbox.known_puts (inbox.mail_at x p) mark ≤ n) (ap (λ is. length (marks.with_mark mark is)) got ∙ ap length (same_marked p mark (gets queue.Inbox before))) (all reads mark))

passed_here : (p : Prio) (mark earlier : ℕ) (o : OpShown) (a : AnswerShown) (e : PlainEnds) (x : inbox.PlainPass) (before : List Entry) → inbox_of e.home ≡ Some x
    → x.role.reads ≡ true → (inbox.mail_at x p).got ≡ with_priority p (gets queue.Inbox before) → earlier ≤ inbox.known_puts (inbox.mail_at x p) mark → CauseOf e o a
    → PassedNone p mark earlier before o a
passed_here p mark earlier (op.Pop queue.Inbox) answer.Empty e x before at reads got knows cause =
    enough p mark earlier x before reads got knows (got_each p x (subst (OfPass HasGotEach) at cause))
passed_here p mark earlier (op.Pop queue.Inbox) (answer.Popped (item.Packet m b)) e x before at reads got knows cause = λ h.
    enough p mark earlier x before reads got knows (got_before p (priority_of b) x h (subst (λ o. IsSomeAnd o (λ y. (y.role.reads ≡ true) × HasPassedOver (item.Packet m b) y)) at cause).1.1)
passed_here p mark earlier _ _ e x before at reads got knows cause = tt

-- the looks of these turns into the inbox
pub inbox_looks : (room earlier mark : ℕ) (p : Prio) (more : List Entry) (e : PlainEnds) (h : PlainHome) (x : inbox.PlainPass) (before : List Entry)
    → e.home ≡ Some h → h.inbox ≡ Some x → x.role.reads ≡ true → (inbox.mail_at x p).got ≡ with_priority p (gets queue.Inbox before)
    → earlier ≤ inbox.known_puts (inbox.mail_at x p) mark → HaveCauses room e more
    → AllAfter (λ bs m. PassedNone p mark earlier bs m.op m.answer) before more
inbox_looks room earlier mark p [] e h x before at there reads got knows causes = tt
inbox_looks room earlier mark p (m ∷ more) e h x before at there reads got knows causes = (
  passed_here p mark earlier m.op m.answer e x before (ap inbox_of at ∙ there) reads got knows causes.0,
  inbox_looks room earlier mark p more (ends_after room m.op m.answer e) (home_after room m.op m.answer h) (post_after m.op m.answer x) (before ++ m ∷ [])
      (ap (option_map (home_after room m.op m.answer)) at) (ap (option_map (post_after m.op m.answer)) there) reads
      (ap (λ (v : Mail). v.got) (mail_post p m.op m.answer x) ∙ ap (λ is. is ++ with_priority p (got_by queue.Inbox m.op m.answer)) got ∙ sym (gets_push_of p before m))
      (subst (λ v. earlier ≤ inbox.known_puts v mark) (sym (mail_post p m.op m.answer x)) (le_trans knows (puts_known mark x.role p m.op m.answer (inbox.mail_at x p))))
      causes.1,
)

-- with more puts it is so still
pub crammed_more : (p : Prio) (a b c : ℕ) (o : OpShown) (x : AnswerShown) → b ≤ c → CrammedAt p a b o x → CrammedAt p a c o x
crammed_more p a b c (op.Push queue.Inbox i) (answer.Full j) h crammed = λ some. le_trans (crammed some) h
crammed_more p a b c _ _ h crammed = tt

floor_there : (a b : Bool) (least n m : ℕ) → a ≡ true → b ≡ true → least ≤ m → least ≤ cond (cond a b false) (max n m) n
floor_there true true least n m e f h = le_trans h (le-max_right n m)
floor_there true false least n m e f h = absurd cc
floor_there false b least n m e f h = absurd cc

crammed_here : (p : Prio) (earlier : ℕ) (o : OpShown) (a : AnswerShown) (r : Role) (v : Mail) → earlier ≤ inbox.known_gets v → IsMarked r.mark o
    → CrammedAt p (r.room + earlier) (mail_after r p o a v).puts_floor o a
crammed_here p earlier (op.Push queue.Inbox i) (answer.Full j) r v knows marked = λ some.
    floor_there (mark_of i == r.mark) (nat_lt 0 (length (with_priority p (i ∷ [])))) (r.room + earlier) v.puts_floor (r.room + inbox.known_gets v)
    (eq-eqb (mark_of i) r.mark marked) (lt-ltb 0 (length (with_priority p (i ∷ []))) some) (omega (arith, knows))
crammed_here p earlier _ _ r v knows marked = tt

-- the pass of the home that a party has
pass_later : (g h : PlainHome) (x y : inbox.PlainPass) → IsHomeAfter g h → g.inbox ≡ Some x → h.inbox ≡ Some y → IsPassAfter x y
pass_later g h x y after at there =
    let b : (z : inbox.PlainPass) × (g.inbox ≡ Some z) × IsPassAfter z y = after.inbox y there in
    subst (λ z. IsPassAfter z y) (ap (λ o. unwrap_or o x) (sym b.1 ∙ at)) b.2

-- the pushes of these turns to the inbox
pub inbox_pushes : (room earlier : ℕ) (p : Prio) (more : List Entry) (e : PlainEnds) (g h : PlainHome) (x y : inbox.PlainPass) → e.home ≡ Some g → (ends_after_all room e more).home ≡ Some h
    → g.inbox ≡ Some x → h.inbox ≡ Some y → earlier ≤ inbox.known_gets (inbox.mail_at x p)
    → AllByRecursion (λ m. IsMarked x.role.mark m.op → CrammedAt p (x.role.room + earlier) (inbox.mail_at y p).puts_floor m.op m.answer) more
inbox_pushes room earlier p [] e g h x y at there from to knows = tt
inbox_pushes room earlier p (m ∷ more) e g h x y at there from to knows =
    let next : (ends_after room m.op m.answer e).home ≡ Some (home_after room m.op m.answer g) = ap (option_map (home_after room m.op m.answer)) at in
    let pass : (home_after room m.op m.answer g).inbox ≡ Some (post_after m.op m.answer x) = ap (option_map (post_after m.op m.answer)) from in
    let v : Mail = mail_after x.role p m.op m.answer (inbox.mail_at x p) in
    let least : (inbox.mail_at (post_after m.op m.answer x) p).puts_floor ≤ (inbox.mail_at y p).puts_floor
    = (pass_later (home_after room m.op m.answer g) h (post_after m.op m.answer x) y
    (home_later room more (ends_after room m.op m.answer e) (home_after room m.op m.answer g) h next there) pass to).floors p in (
      λ marked. crammed_more p (x.role.room + earlier) v.puts_floor (inbox.mail_at y p).puts_floor m.op m.answer
          (subst (λ (w : Mail). w.puts_floor ≤ (inbox.mail_at y p).puts_floor) (mail_post p m.op m.answer x) least)
          (crammed_here p earlier m.op m.answer x.role (inbox.mail_at x p) knows marked),
      inbox_pushes room earlier p more (ends_after room m.op m.answer e) (home_after room m.op m.answer g) h (post_after m.op m.answer x) y next there pass to
          (subst (λ w. earlier ≤ inbox.known_gets w) (sym (mail_post p m.op m.answer x)) (le_trans knows (gets_known x.role p m.op m.answer (inbox.mail_at x p)))),
    )

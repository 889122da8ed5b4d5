-- Where what a party has in hand tells what its log says, it does so after turns.
use Rattle.std.proofs.Common.{◌≡◌, ℕ, Bool, true, false, Option, None, Some, List, [], ◌∷◌, ◌++◌, map, refl, sym, ap, ◌∙◌, subst, append_assoc}
use Rattle.std.specs.Prelude.{IfSome}
use Rattle.std.specs.List.{AllByRecursion, flat_map}
use Rattle.std.specs.Option.{option_map}
use Rattle.std.proofs.lemmas.Grind.{flat_map-append}
use Rattle.std.proofs.lemmas.List.{append-nil}
use Rattle.csp_base.specs.declared.priority.Prio.{Prio}
use Rattle.csp_base.specs.declared.priority.Prio.TheVariants.{Critical, High, Normal, Low}
use Rattle.csp_consistent.specs.Pools.{given, given_by, taken_by}
use Rattle.csp_consistent.specs.Reading.{put_by, got_by, puts, gets, of_priority, with_priority}
use Rattle.csp_ends.specs.Ends.{PlainSide, PlainHome, PlainEnds}
use Rattle.csp_ends.specs.Moves.{moved_by, side_after, hand_after, home_after, post_after, ends_after, ends_after_all}
use Rattle.csp_ends.specs.Traced.{moved, IsSideTraced, IsMailTraced, IsHomeTraced, AreTraced}
use Rattle.csp_inbox.specs.Passes as inbox
use Rattle.csp_log.specs.Pictures.{Fits}
use Rattle.csp_log.specs.declared.entry.Entry.{Entry}
use Rattle.csp_log.specs.declared.places.QueueId.{QueueId}
use Rattle.csp_log.specs.declared.places.QueueId.TheVariants as queue
use Rattle.csp_log.specs.declared.shown.AnswerShown.{AnswerShown}
use Rattle.csp_log.specs.declared.shown.AnswerShown.TheVariants as answer
use Rattle.csp_log.specs.declared.shown.ItemShown.{ItemShown}
use Rattle.csp_log.specs.declared.shown.OpShown.{OpShown}
use Rattle.csp_log.specs.declared.shown.OpShown.TheVariants as op
use Rattle.csp_pool.specs.declared.hand.Hand.{Hand}

-- a log with one entry more says more of it
push : {X : Type 0} (f : Entry → List X) (es : List Entry) (e : Entry) → flat_map f (es ++ e ∷ []) ≡ flat_map f es ++ f e
push f es e = rw (flat_map-append f es (e ∷ []), append-nil (f e)) refl

moved_more : (way : Bool) (q : QueueId) (es : List Entry) (e : Entry) → moved way q (es ++ e ∷ []) ≡ moved way q es ++ moved_by way q e.op e.answer
moved_more true q es e = push (λ x. put_by q x.op x.answer) es e
moved_more false q es e = push (λ x. got_by q x.op x.answer) es e

-- the ends of lanes
sides_more : (ends : List PlainSide) (es : List Entry) (e : Entry) (ss : List PlainSide) → AllByRecursion (IsSideTraced es) ss → AllByRecursion (IsSideTraced (es ++ e ∷ [])) (map (side_after ends e.op e.answer) ss)
sides_more ends es e [] h = tt
sides_more ends es e (s ∷ ss) h = (ap (λ (is : List ItemShown). is ++ moved_by s.puts s.queue e.op e.answer) h.0 ∙ sym (moved_more s.puts s.queue es e), sides_more ends es e ss h.1)

-- the pass of the pool
pub put_more : (room : ℕ) (o : OpShown) (a : AnswerShown) (v : Hand) → (hand_after room o a v).put ≡ v.put ++ given_by o a
put_more room op.Nothing a v = sym (append-nil v.put)
put_more room op.Take a v = take a where
  take : (a : AnswerShown) → (hand_after room op.Take a v).put ≡ v.put ++ []
  take (answer.Taken b) = sym (append-nil v.put)
  take answer.NoBuffer = sym (append-nil v.put)
  take _ = sym (append-nil v.put)
put_more room (op.Give b) a v = give a where
  give : (a : AnswerShown) → (hand_after room (op.Give b) a v).put ≡ v.put ++ given_by (op.Give b) a
  give answer.Given = refl
  give (answer.PoolFull c) = sym (append-nil v.put)
  give _ = sym (append-nil v.put)
put_more room (op.Push q i) a v = sym (append-nil v.put)
put_more room (op.Pop q) a v = sym (append-nil v.put)

pub taken_more : (room : ℕ) (o : OpShown) (a : AnswerShown) (v : Hand) → Fits o a → (hand_after room o a v).taken ≡ v.taken ++ taken_by a
taken_more room op.Take (answer.Taken b) v fits = refl
taken_more room op.Take answer.NoBuffer v fits = sym (append-nil v.taken)
taken_more room op.Nothing answer.Nothing v fits = sym (append-nil v.taken)
taken_more room (op.Give b) answer.Given v fits = sym (append-nil v.taken)
taken_more room (op.Give b) (answer.PoolFull c) v fits = sym (append-nil v.taken)
taken_more room (op.Push q i) answer.Pushed v fits = sym (append-nil v.taken)
taken_more room (op.Push q i) (answer.Full j) v fits = sym (append-nil v.taken)
taken_more room (op.Pop q) (answer.Popped i) v fits = sym (append-nil v.taken)
taken_more room (op.Pop q) answer.Empty v fits = sym (append-nil v.taken)
taken_more _ _ _ _ fits = absurd fits

-- the pass of the inbox
sorted_more : (p : Prio) (f : OpShown → AnswerShown → List ItemShown) (es : List Entry) (e : Entry)
    → with_priority p (flat_map (λ x. f x.op x.answer) (es ++ e ∷ [])) ≡ with_priority p (flat_map (λ x. f x.op x.answer) es) ++ with_priority p (f e.op e.answer)
sorted_more p f es e = ap (with_priority p) (push (λ x. f x.op x.answer) es e) ∙ flat_map-append (of_priority p) (flat_map (λ x. f x.op x.answer) es) (f e.op e.answer)

mail_more : (es : List Entry) (e : Entry) (x : inbox.PlainPass) (p : Prio) → IsMailTraced es x p → IsMailTraced (es ++ e ∷ []) (post_after e.op e.answer x) p
mail_more es e x p h = record { kept = kept p h.kept; got = got p h.got } where
  kept : (p : Prio) → (inbox.mail_at x p).kept ≡ with_priority p (puts queue.Inbox es) → (inbox.mail_at (post_after e.op e.answer x) p).kept ≡ with_priority p (puts queue.Inbox (es ++ e ∷ []))
  kept Critical g = ap (λ (is : List ItemShown). is ++ with_priority Critical (put_by queue.Inbox e.op e.answer)) g ∙ sym (sorted_more Critical (put_by queue.Inbox) es e)
  kept High g = ap (λ (is : List ItemShown). is ++ with_priority High (put_by queue.Inbox e.op e.answer)) g ∙ sym (sorted_more High (put_by queue.Inbox) es e)
  kept Normal g = ap (λ (is : List ItemShown). is ++ with_priority Normal (put_by queue.Inbox e.op e.answer)) g ∙ sym (sorted_more Normal (put_by queue.Inbox) es e)
  kept Low g = ap (λ (is : List ItemShown). is ++ with_priority Low (put_by queue.Inbox e.op e.answer)) g ∙ sym (sorted_more Low (put_by queue.Inbox) es e)

  got : (p : Prio) → (inbox.mail_at x p).got ≡ with_priority p (gets queue.Inbox es) → (inbox.mail_at (post_after e.op e.answer x) p).got ≡ with_priority p (gets queue.Inbox (es ++ e ∷ []))
  got Critical g = ap (λ (is : List ItemShown). is ++ with_priority Critical (got_by queue.Inbox e.op e.answer)) g ∙ sym (sorted_more Critical (got_by queue.Inbox) es e)
  got High g = ap (λ (is : List ItemShown). is ++ with_priority High (got_by queue.Inbox e.op e.answer)) g ∙ sym (sorted_more High (got_by queue.Inbox) es e)
  got Normal g = ap (λ (is : List ItemShown). is ++ with_priority Normal (got_by queue.Inbox e.op e.answer)) g ∙ sym (sorted_more Normal (got_by queue.Inbox) es e)
  got Low g = ap (λ (is : List ItemShown). is ++ with_priority Low (got_by queue.Inbox e.op e.answer)) g ∙ sym (sorted_more Low (got_by queue.Inbox) es e)

inbox_more : (es : List Entry) (e : Entry) (x : Option inbox.PlainPass) → IfSome x (λ x. (p : Prio) → IsMailTraced es x p)
    → IfSome (option_map (post_after e.op e.answer) x) (λ x. (p : Prio) → IsMailTraced (es ++ e ∷ []) x p)
inbox_more es e None h = tt
inbox_more es e (Some x) h = λ p. mail_more es e x p (h p)

home_more : (room : ℕ) (opened : List ℕ) (es : List Entry) (e : Entry) (h : Option PlainHome) → Fits e.op e.answer → IfSome h (IsHomeTraced opened es)
    → IfSome (option_map (home_after room e.op e.answer) h) (IsHomeTraced opened (es ++ e ∷ []))
home_more room opened es e None fits g = tt
home_more room opened es e (Some h) fits g = record {
  put =
      put_more room e.op e.answer h.pool.hand
      ∙ ap (λ (ns : List ℕ). ns ++ given_by e.op e.answer) g.put
      ∙ append_assoc opened (given es) (given_by e.op e.answer)
      ∙ ap (λ (ns : List ℕ). opened ++ ns) (sym (push (λ x. given_by x.op x.answer) es e));
  taken =
      taken_more room e.op e.answer h.pool.hand fits
      ∙ ap (λ (ns : List ℕ). ns ++ taken_by e.answer) g.taken
      ∙ sym (push (λ x. taken_by x.answer) es e);
  inbox = inbox_more es e h.inbox g.inbox;
}

-- after one turn, and after many
pub traced_after : (room : ℕ) (opened : List ℕ) (es : List Entry) (e : Entry) (d : PlainEnds) → Fits e.op e.answer → AreTraced opened es d → AreTraced opened (es ++ e ∷ []) (ends_after room e.op e.answer d)
traced_after room opened es e d fits h = record { home = home_more room opened es e d.home fits h.home; sides = sides_more d.sides es e d.sides h.sides }

pub traced_after_all : (room : ℕ) (opened : List ℕ) (es more : List Entry) (d : PlainEnds) → AllByRecursion (λ x. Fits x.op x.answer) more → AreTraced opened es d → AreTraced opened (es ++ more) (ends_after_all room d more)
traced_after_all room opened es [] d fits h = rw (append-nil es) h
traced_after_all room opened es (x ∷ xs) d fits h =
    let next = traced_after_all room opened (es ++ x ∷ []) xs (ends_after room x.op x.answer d) fits.1 (traced_after room opened es x d fits.0 h) in
    subst (λ (log : List Entry). AreTraced opened log (ends_after_all room (ends_after room x.op x.answer d) xs)) (append_assoc es (x ∷ []) xs) next

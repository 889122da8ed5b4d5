-- What a turn that moved nothing leaves as it is.
use Rattle.std.proofs.Common.{◌≡◌, ℕ, ◌+◌, zero, suc, Bool, false, cond, max, Option, None, Some, List, [], ◌∷◌, ◌++◌, map, slice_get, refl, sym, ap, ◌∙◌, arith}
use Rattle.std.specs.List.{AllByRecursion, slice_set}
use Rattle.std.specs.Option.{option_map}
use Rattle.std.proofs.lemmas.List.{append-nil}
use Rattle.std.proofs.lemmas.Option.{same_Some}
use Rattle.csp_base.specs.declared.priority.Prio.{Prio}
use Rattle.csp_base.specs.declared.priority.Prio.TheVariants.{Critical, High, Normal, Low}
use Rattle.csp_consistent.specs.Reading.{put_by, got_by, with_priority}
use Rattle.csp_ends.specs.Ends.{PlainSide, PlainHome, PlainEnds}
use Rattle.csp_ends.specs.Moves.{moved_by, side_after, side_through, side_with, with_items, hand_after, is_crammed, mail_after, post_after, home_after, ends_after}
use Rattle.csp_ends.specs.Sides.{beside}
use Rattle.csp_ends.proofs.Lists.{all_from}
use Rattle.csp_inbox.specs.Passes as inbox
use Rattle.csp_inbox.specs.declared.hand.Mail.{Mail}
use Rattle.csp_inbox.specs.declared.hand.Role.{Role}
use Rattle.csp_lane.specs.Ends.{end_with}
use Rattle.csp_lane.specs.Marks.{marks_in}
use Rattle.csp_log.specs.declared.places.QueueId.{QueueId}
use Rattle.csp_log.specs.declared.places.QueueId.TheVariants as queue
use Rattle.csp_log.specs.declared.shown.AnswerShown.{AnswerShown}
use Rattle.csp_log.specs.declared.shown.ItemShown.{ItemShown}
use Rattle.csp_log.specs.declared.shown.OpShown.{OpShown}
use Rattle.csp_pool.specs.declared.hand.Hand.{Hand}

-- an end through which this went
pub side_moves : (all : List PlainSide) (o : OpShown) (a : AnswerShown) (s : PlainSide) (is : List ItemShown) → moved_by s.puts s.queue o a ≡ is
    → side_after all o a s ≡ side_with s (with_items s.end (beside all s) is)
side_moves all o a s is e = ap (λ l. side_with s (with_items s.end (beside all s) l)) e

-- one item
pub side_moves_one : (all : List PlainSide) (o : OpShown) (a : AnswerShown) (s : PlainSide) (i : ItemShown) → moved_by s.puts s.queue o a ≡ i ∷ [] → side_after all o a s ≡ side_through s i (beside all s)
side_moves_one all o a s i e =
    let mark : List ℕ = marks_in s.end.about (beside all s) in
    side_moves all o a s (i ∷ []) e ∙ ap (λ l. side_with s (end_with s.end (s.end.items ++ i ∷ []) (s.end.marks ++ l) s.end.known)) (append-nil mark)

pub side_still : (all : List PlainSide) (o : OpShown) (a : AnswerShown) (s : PlainSide) → moved_by s.puts s.queue o a ≡ [] → side_after all o a s ≡ s
side_still all o a s none =
    side_moves all o a s [] none ∙ (λ i. side_with s (end_with s.end (append-nil s.end.items i) (append-nil s.end.marks i) s.end.known))

-- so do all of them
pub sides_still : (all : List PlainSide) (o : OpShown) (a : AnswerShown) (sides : List PlainSide) → AllByRecursion (λ s. moved_by s.puts s.queue o a ≡ []) sides → map (side_after all o a) sides ≡ sides
sides_still all o a [] none = refl
sides_still all o a (s ∷ sides) none = λ i. side_still all o a s none.0 i ∷ sides_still all o a sides none.1 i

-- or all but one
pub sides_but_one : (all : List PlainSide) (o : OpShown) (a : AnswerShown) (sides : List PlainSide) (at : ℕ) (s t : PlainSide) → slice_get sides at ≡ Some s → side_after all o a s ≡ t
    → ((k : ℕ) (x : PlainSide) → slice_get sides k ≡ Some x → (k ≡ at → ⊥) → moved_by x.puts x.queue o a ≡ []) → slice_set sides at t ≡ map (side_after all o a) sides
sides_but_one all o a [] at s t there moved others = absurd cc
sides_but_one all o a (x ∷ xs) zero s t there moved others =
    let here : t ≡ side_after all o a x = sym moved ∙ ap (side_after all o a) (sym (same_Some x s there)) in
    let rest : map (side_after all o a) xs ≡ xs = sides_still all o a xs (all_from (λ (y : PlainSide). moved_by y.puts y.queue o a ≡ []) xs (λ k y e. others (suc k) y e (λ f. omega (arith, f)))) in
    λ i. here i ∷ sym rest i
sides_but_one all o a (x ∷ xs) (suc at) s t there moved others =
    let first : x ≡ side_after all o a x = sym (side_still all o a x (others 0 x refl (λ e. omega (arith, e)))) in
    let rest : slice_set xs at t ≡ map (side_after all o a) xs = sides_but_one all o a xs at s t there moved (λ k y e apart. others (suc k) y e (λ f. apart (omega (arith, f)))) in
    λ i. first i ∷ rest i

-- the mail of a priority to which this was added, whether or not it was crammed
pub mail_moves : (r : Role) (p : Prio) (o : OpShown) (a : AnswerShown) (v : Mail) (ks gs : List ItemShown) (c : Bool)
    → with_priority p (put_by queue.Inbox o a) ≡ ks → with_priority p (got_by queue.Inbox o a) ≡ gs → is_crammed r p o a ≡ c
    → mail_after r p o a v ≡ inbox.mail (v.kept ++ ks) (v.got ++ gs) v.known v.known_got (cond c (max v.puts_floor (r.room + inbox.known_gets v)) v.puts_floor)
mail_moves r p o a v ks gs c puts gets crammed =
    λ i. inbox.mail (v.kept ++ puts i) (v.got ++ gets i) v.known v.known_got (cond (crammed i) (max v.puts_floor (r.room + inbox.known_gets v)) v.puts_floor)

pub mail_still : (r : Role) (p : Prio) (o : OpShown) (a : AnswerShown) (v : Mail)
    → with_priority p (put_by queue.Inbox o a) ≡ [] → with_priority p (got_by queue.Inbox o a) ≡ [] → is_crammed r p o a ≡ false → mail_after r p o a v ≡ v
mail_still r p o a v puts gets crammed =
    mail_moves r p o a v [] [] false puts gets crammed
    ∙ (let kept : v.kept ++ [] ≡ v.kept = append-nil v.kept in let got : v.got ++ [] ≡ v.got = append-nil v.got in λ i. inbox.mail (kept i) (got i) v.known v.known_got v.puts_floor)

-- what a turn that isn't of the inbox does there
pub record IsElsewhere (o : OpShown) (a : AnswerShown) : Type 0 where
  pub puts : put_by queue.Inbox o a ≡ []
  pub gets : got_by queue.Inbox o a ≡ []
  pub crammed : (r : Role) (p : Prio) → is_crammed r p o a ≡ false

mail_elsewhere : (r : Role) (p : Prio) (o : OpShown) (a : AnswerShown) (v : Mail) → IsElsewhere o a → mail_after r p o a v ≡ v
mail_elsewhere r p o a v e = mail_still r p o a v (ap (with_priority p) e.puts) (ap (with_priority p) e.gets) (e.crammed r p)

pub post_still : (o : OpShown) (a : AnswerShown) (x : inbox.PlainPass) → ((p : Prio) → mail_after x.role p o a (inbox.mail_at x p) ≡ inbox.mail_at x p) → post_after o a x ≡ x
post_still o a x each =
    λ i. record { inbox = x.inbox; role = x.role; critical = each Critical i; high = each High i; normal = each Normal i; low = each Low i }

pub inbox_still : (o : OpShown) (a : AnswerShown) (x : Option inbox.PlainPass) → IsElsewhere o a → option_map (post_after o a) x ≡ x
inbox_still o a None e = refl
inbox_still o a (Some x) e = ap (λ y. Some y) (post_still o a x (λ p. mail_elsewhere x.role p o a (inbox.mail_at x p) e))

-- the passes of a node, where nothing was done to the pool either
pub home_still : (room : ℕ) (o : OpShown) (a : AnswerShown) (h : Option PlainHome) → IsElsewhere o a → ((v : Hand) → hand_after room o a v ≡ v) → option_map (home_after room o a) h ≡ h
home_still room o a None e hand = refl
home_still room o a (Some h) e hand =
    let post : option_map (post_after o a) h.inbox ≡ h.inbox = inbox_still o a h.inbox e in
    λ i. Some (record { node = h.node; pool = record { pool = h.pool.pool; hand = hand h.pool.hand i }; inbox = post i })

-- all that a party has in hand
pub ends_still : (room : ℕ) (o : OpShown) (a : AnswerShown) (e : PlainEnds) → IsElsewhere o a → ((v : Hand) → hand_after room o a v ≡ v) → ((way : Bool) (q : QueueId) → moved_by way q o a ≡ []) → ends_after room o a e ≡ e
ends_still room o a e elsewhere hand none =
    let home : option_map (home_after room o a) e.home ≡ e.home = home_still room o a e.home elsewhere hand in
    let sides : map (side_after e.sides o a) e.sides ≡ e.sides = sides_still e.sides o a e.sides (all_from (λ (s : PlainSide). moved_by s.puts s.queue o a ≡ []) e.sides (λ k s there. none s.puts s.queue)) in
    λ i. record { home = home i; sides = sides i }

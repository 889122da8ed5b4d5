-- Around a note that a script asks stands what the steps before and after that step push.
use Rattle.std.proofs.Common.{◌≡◌, ◌⊎◌, inl, inr, ℕ, zero, suc, ◌+◌, Some, List, [], ◌∷◌, ◌++◌, drop, get_or, slice_get, take, refl, sym, ap, ◌∙◌, subst}
use Rattle.std.specs.Prelude.{⊤}
use Rattle.std.specs.List.{AllByRecursion, flat_map}
use Rattle.csp_app.specs.Making.{Batch, batch_of}
use Rattle.csp_app.specs.PlainStep.{PlainStep}
use Rattle.csp_app.specs.PlainStep as step
use Rattle.csp_log.specs.declared.note.Note.{Note}
use Rattle.csp_log.specs.declared.note.Note.TheVariants as note
use Rattle.csp_log.specs.declared.shown.ItemShown.{ItemShown}
use Rattle.csp_log.specs.declared.shown.ItemShown.TheVariants as item
use Rattle.csp_blobs.specs.Sending.{packets_from, pushed_by}
use Rattle.csp_blobs.proofs.SendingSteps.{next_more}

-- ---- what a step pushes is one note, or packets

abbrev IsPacket : ItemShown → Type 0
IsPacket (item.Packet mark b) = ⊤
IsPacket (item.Frame f) = ⊥
IsPacket (item.Note n) = ⊥

abbrev AsksOne : PlainStep → Type 0
AsksOne x = (n : Note) × (pushed_by x ≡ item.Note n ∷ [])

are_packets : (p : Batch) (first count : ℕ) → AllByRecursion IsPacket (packets_from p first count)
are_packets p first zero = tt
are_packets p first (suc count) = (tt, are_packets p (first + 1) count)

one_or_packets : (x : PlainStep) → AsksOne x ⊎ AllByRecursion IsPacket (pushed_by x)
one_or_packets (step.Bind port need) = inl (note.Bind port need, refl)
one_or_packets (step.Connect slot dest port prio flags from) = inl (note.Connect slot dest port prio flags from, refl)
one_or_packets (step.Close slot) = inl (note.Close slot, refl)
one_or_packets (step.Send slot bytes) = inr (are_packets (batch_of (step.Send slot bytes)) 0 (batch_of (step.Send slot bytes)).count)
one_or_packets (step.Burst slot count len) = inr (are_packets (batch_of (step.Burst slot count len)) 0 (batch_of (step.Burst slot count len)).count)
one_or_packets (step.Blob slot len size) = inr (are_packets (batch_of (step.Blob slot len size)) 0 (batch_of (step.Blob slot len size)).count)
one_or_packets (step.Raw header bytes) = inr (are_packets (batch_of (step.Raw header bytes)) 0 (batch_of (step.Raw header bytes)).count)
one_or_packets _ = inr tt

-- ---- lists that begin so are one in the first and in the rest

first_of_both : {X : Type 0} (x y : X) (xs ys : List X) → x ∷ xs ≡ y ∷ ys → x ≡ y
first_of_both x y xs ys e = ap (λ zs. get_or zs 0 x) e

rest_of_both : {X : Type 0} (x y : X) (xs ys : List X) → x ∷ xs ≡ y ∷ ys → xs ≡ ys
rest_of_both x y xs ys e = ap (drop 1) e

-- packets that stand first stand before the note
record ComesLater (ps before after ys : List ItemShown) (n : Note) : Type 0 where
  pub left : List ItemShown
  pub same : before ≡ ps ++ left
  pub there : left ++ item.Note n ∷ after ≡ ys

comes_later : (ps before after ys : List ItemShown) (n : Note) → AllByRecursion IsPacket ps → before ++ item.Note n ∷ after ≡ ps ++ ys → ComesLater ps before after ys n
comes_later [] before after ys n are e = record { left = before; same = refl; there = e }
comes_later (p ∷ ps) [] after ys n are e = absurd (subst IsPacket (sym (first_of_both (item.Note n) p after (ps ++ ys) e)) are.0)
comes_later (p ∷ ps) (b ∷ before) after ys n are e =
    let rest : ComesLater ps before after ys n = comes_later ps before after ys n are.1 (rest_of_both b p (before ++ item.Note n ∷ after) (ps ++ ys) e) in
    record { left = rest.left; same = λ k. first_of_both b p (before ++ item.Note n ∷ after) (ps ++ ys) e k ∷ rest.same k; there = rest.there }

-- ---- the step that asks it

pub record IsFound (steps : List PlainStep) (before after : List ItemShown) (n : Note) : Type 0 where
  pub at : ℕ
  pub own : PlainStep
  pub there : slice_get steps at ≡ Some own
  pub asks : pushed_by own ≡ item.Note n ∷ []
  pub first : before ≡ flat_map pushed_by (take at steps)
  pub last : after ≡ flat_map pushed_by (drop (at + 1) steps)

-- one step later
found_later : (x : PlainStep) (xs : List PlainStep) (before left after : List ItemShown) (n : Note) → before ≡ pushed_by x ++ left → IsFound xs left after n → IsFound (x ∷ xs) before after n
found_later x xs before left after n e f = record {
  at = suc f.at;
  own = f.own;
  there = f.there;
  asks = f.asks;
  first = e ∙ ap (λ is. pushed_by x ++ is) f.first;
  last = f.last ∙ ap (λ k. flat_map pushed_by (drop k (x ∷ xs))) (sym (next_more f.at));
}

-- where the steps after one are searched
abbrev Finds : List PlainStep → (after : List ItemShown) → Note → Type 0
Finds xs after n = (left : List ItemShown) → left ++ item.Note n ∷ after ≡ flat_map pushed_by xs → IsFound xs left after n

at_note : (x : PlainStep) (xs : List PlainStep) (before after : List ItemShown) (n m : Note) → pushed_by x ≡ item.Note m ∷ [] → before ++ item.Note n ∷ after ≡ item.Note m ∷ flat_map pushed_by xs → Finds xs after n
    → IsFound (x ∷ xs) before after n
at_note x xs [] after n m one same go = record {
  at = 0;
  own = x;
  there = refl;
  asks = one ∙ ap (λ i. i ∷ []) (sym (first_of_both (item.Note n) (item.Note m) after (flat_map pushed_by xs) same));
  first = refl;
  last = rest_of_both (item.Note n) (item.Note m) after (flat_map pushed_by xs) same;
}
at_note x xs (b ∷ before) after n m one same go =
    let own : b ≡ item.Note m = first_of_both b (item.Note m) (before ++ item.Note n ∷ after) (flat_map pushed_by xs) same in
    found_later x xs (b ∷ before) before after n (ap (λ i. i ∷ before) own ∙ ap (λ is. is ++ before) (sym one))
    (go before (rest_of_both b (item.Note m) (before ++ item.Note n ∷ after) (flat_map pushed_by xs) same))

at_step : (x : PlainStep) (xs : List PlainStep) (before after : List ItemShown) (n : Note) → AsksOne x ⊎ AllByRecursion IsPacket (pushed_by x) → before ++ item.Note n ∷ after ≡ pushed_by x ++ flat_map pushed_by xs
    → Finds xs after n → IsFound (x ∷ xs) before after n
at_step x xs before after n (inl asked) e go = at_note x xs before after n asked.0 asked.1 (e ∙ ap (λ is. is ++ flat_map pushed_by xs) asked.1) go
at_step x xs before after n (inr packets) e go =
    let l : ComesLater (pushed_by x) before after (flat_map pushed_by xs) n = comes_later (pushed_by x) before after (flat_map pushed_by xs) n packets e in
    found_later x xs before l.left after n l.same (go l.left l.there)

pub found : (steps : List PlainStep) (before after : List ItemShown) (n : Note) → before ++ item.Note n ∷ after ≡ flat_map pushed_by steps → IsFound steps before after n
found [] [] after n e = absurd cc
found [] (b ∷ before) after n e = absurd cc
found (x ∷ xs) before after n e = at_step x xs before after n (one_or_packets x) e (λ left same. found xs left after n same)

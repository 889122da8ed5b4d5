-- the first answer that is owed is pushed
use Rattle.std.specs.Prelude.{◌==◌, Bool, true, false, None, Option, Some, cond, count_by}
use Rattle.std.specs.List.{AllByRecursion}
use Rattle.std.proofs.Common.{◌≡◌, ℕ, ◌+◌, ◌<◌, List, ◌∷◌, arith, ap, refl, sym, subst, ◌∙◌}
use Rattle.std.proofs.lemmas.List.Sums.{sum_by-cons}
use Rattle.csp_base.specs.Seat.{seat}
use Rattle.csp_base.specs.declared.seat.Seat.{Seat}
use Rattle.csp_base.specs.declared.limits.TheConstants.{SLOTS}
use Rattle.csp_log.specs.declared.note.Note.{Note}
use Rattle.csp_log.specs.declared.note.Note.TheVariants as note
use Rattle.csp_ports.specs.Asking.{answered, answered_by, freed_by}
use Rattle.csp_ports.specs.Kept.{IsOwed}
use Rattle.csp_ports.specs.PlainPorts.{PlainPorts, terms_at}
use Rattle.csp_ports.specs.Steps.{freed}
use Rattle.csp_ports.specs.declared.owed.Owed.{Owed}
use Rattle.csp_ports.specs.declared.terms.Wish.{Wish}
use Rattle.csp_ports.specs.declared.terms.Wish.TheVariants as wish
use Rattle.csp_rdp.specs.declared.answers.State.{State}
use Rattle.csp_rdp.specs.declared.answers.State.TheVariants.{Closed, Open}
use Rattle.csp_prefix.proofs.PortChanges.{freed_but, vacant_fine}
use Rattle.csp_prefix.proofs.PortFacts.{All, fine_of, good_of}
use Rattle.csp_prefix.proofs.PortSlots.{AreFineBut, IsFine, IsQuiet, IsShaped, and_false, book_but, ordinal_but, reshaped, whole}
use Rattle.csp_prefix.proofs.PortViews.{alike, ordinal_same, unlike, view}
use Rattle.csp_prefix.specs.Ports.{Answers, AreGood, Books, Ordinals, ends_due, is_end, is_end_of, with_book, with_ordinal}
use Rattle.csp_prefix.specs.Slots.{Now, Numbering, blank}

count_first : (p : Owed → Bool) (o : Owed) (os : List Owed) (b : Bool) → p o ≡ b → count_by p (o ∷ os) ≡ cond b 1 0 + count_by p os
count_first p o os b e = sum_by-cons (λ (x : Owed). cond (p x) 1 0) o os ∙ ap (λ (b : Bool). cond b 1 0 + count_by p os) e

zero_add : (n : ℕ) → 0 + n ≡ n
zero_add n = omega arith

one_due : (w : Wish) (n : ℕ) → 1 + n ≡ ends_due w → (w ≡ wish.Ended) × (n ≡ 0)
one_due wish.Nothing n e = absurd (omega (arith, e))
one_due wish.Connection n e = absurd (omega (arith, e))
one_due wish.End n e = absurd (omega (arith, e))
one_due wish.Ended n e = (refl, omega (arith, e))

closed_open : Closed ≡ Open → ⊥
closed_open e = cc

none_of : (w : Option (List ℕ)) (s : State) → s ≡ Closed → ((payload : List ℕ) → w ≡ Some payload → s ≡ Open) → w ≡ None
none_of None s e h = refl
none_of (Some payload) s e h = absurd (closed_open (sym e ∙ h payload refl))

module _ {Is : Numbering → Seat → Now → Type 0} {m : Numbering} {ordinals : Ordinals} {books : Books} {p : PlainPorts} (g : AreGood Is m ordinals books p) (app : ℕ) (answer : Note) (rest : List Owed) (e : p.owed ≡ record { app = app; note = answer } ∷ rest) where
  -- the ports without it
  abbrev left : PlainPorts
  left = record p { owed = rest }

  owed_all : AllByRecursion (IsOwed p.conns.apps) (record { app = app; note = answer } ∷ rest)
  owed_all = subst (AllByRecursion (IsOwed p.conns.apps)) e g.owed

  left_shape : IsShaped m.made left
  left_shape = reshaped p.conns.slots p.conns.last p.slots rest refl refl owed_all.1 (fine_of g).shape

  count_left : (a : Seat) (b : Bool) → is_end_of a (record { app = app; note = answer }) ≡ b → count_by (is_end_of a) p.owed ≡ cond b 1 0 + count_by (is_end_of a) rest
  count_left a b f = ap (count_by (is_end_of a)) e ∙ count_first (is_end_of a) (record { app = app; note = answer }) rest b f

  left_slot : (a : Seat) → a.app < p.conns.apps → a.slot < SLOTS → is_end_of a (record { app = app; note = answer }) ≡ false → IsFine Is All m (ordinals a) a (view left books a)
  left_slot a k l f =
      subst (λ (n : ℕ). IsFine Is All m (ordinals a) a (record (view p books a) { ends = n })) (count_left a false f ∙ zero_add (count_by (is_end_of a) rest)) ((fine_of g).slots a k l)

  -- one that is none to a close
  left_good : IsQuiet answer → AreGood Is m ordinals books left
  left_good quiet = good_of (record { shape = left_shape; slots = λ a k l. left_slot a k l (and_false (app == a.app) (is_end a.slot answer) (quiet a.slot)) })

-- that to a close frees its slot
module _ {Is : Numbering → Seat → Now → Type 0} {m : Numbering} {ordinals : Ordinals} {books : Books} {p : PlainPorts} (g : AreGood Is m ordinals books p) (seat : Seat) (rest : List Owed) (e : p.owed ≡ record { app = seat.app; note = note.Closed seat.slot } ∷ rest) where
  freed_good : AreGood Is m (with_ordinal seat (ordinals seat + 1) ordinals) (with_book seat blank books) (freed ((terms_at p seat).ordinal + 1) seat (left g seat.app (note.Closed seat.slot) rest e)).ports
  freed_good =
      let q = left g seat.app (note.Closed seat.slot) rest e in
      let first : IsOwed p.conns.apps (record { app = seat.app; note = note.Closed seat.slot }) = (owed_all g seat.app (note.Closed seat.slot) rest e).0 in
      let n = count_by (is_end_of seat) rest in
      let due : 1 + n ≡ ends_due (terms_at p seat).wish = sym (count_left g seat.app (note.Closed seat.slot) rest e seat true (alike seat)) ∙ g.ends seat first.app first.reply in
      let over = one_due (terms_at p seat).wish n due in
      let x = view p books seat in
      let h : AreFineBut Is All m ordinals books q seat (view q books seat) = record {
        shape = left_shape g seat.app (note.Closed seat.slot) rest e;
        here = first.app;
        there = first.reply;
        seen = refl;
        others = λ a k l t. left_slot g seat.app (note.Closed seat.slot) rest e a k l (unlike seat a t);
      } in
      let k = (terms_at p seat).ordinal + 1 in
      let waits : x.waits ≡ None = none_of x.waits x.machine.state (g.over seat first.app first.reply over.0) (((fine_of g).slots seat first.app first.reply).waits tt) in
      let there = book_but (ordinal_but h (ordinals seat + 1)) blank in
      good_of
      (whole (freed_but there k) (vacant_fine there k (ap (λ (k : ℕ). k + 1) (g.counted seat first.app first.reply) ∙ sym (ordinal_same seat (ordinals seat + 1) ordinals)) waits refl over.1))

module _ {Is : Numbering → Seat → Now → Type 0} {m : Numbering} {ordinals : Ordinals} {books : Books} {p : PlainPorts} (g : AreGood Is m ordinals books p) where
  answer_on : (app : ℕ) (answer : Note) (rest : List Owed) → p.owed ≡ record { app = app; note = answer } ∷ rest → Answers Is m ordinals books p.conns.apps (record { app = app; note = answer }) (freed_by answer app (record p { owed = rest }))
  answer_on app (note.Closed slot) rest e = record { same = refl; quiet = refl; good = freed_good g (seat app slot) rest e }
  answer_on app note.Bound rest e = record { same = refl; quiet = refl; good = left_good g app note.Bound rest e (λ s. refl) }
  answer_on app (note.Connected slot) rest e = record { same = refl; quiet = refl; good = left_good g app (note.Connected slot) rest e (λ s. refl) }
  answer_on app (note.Refused reason) rest e = record { same = refl; quiet = refl; good = left_good g app (note.Refused reason) rest e (λ s. refl) }
  answer_on app (note.Down slot) rest e = record { same = refl; quiet = refl; good = left_good g app (note.Down slot) rest e (λ s. refl) }
  answer_on app (note.Bind port need) rest e = record { same = refl; quiet = refl; good = left_good g app (note.Bind port need) rest e (λ s. refl) }
  answer_on app (note.Connect slot dest port prio flags from) rest e = record { same = refl; quiet = refl; good = left_good g app (note.Connect slot dest port prio flags from) rest e (λ s. refl) }
  answer_on app (note.Close slot) rest e = record { same = refl; quiet = refl; good = left_good g app (note.Close slot) rest e (λ s. refl) }

  pub answered_answers : (first : Owed) (rest : List Owed) → p.owed ≡ first ∷ rest → Answers Is m ordinals books p.conns.apps first (answered p)
  answered_answers first rest e = subst (λ (os : List Owed). Answers Is m ordinals books p.conns.apps first (answered_by os p)) (sym e) (answer_on first.app first.note rest e)

-- the log of a router, entry by entry: what it tells of the connections so far, and the books that go with it
use Rattle.std.proofs.Common.{◌≡◌, ℕ, zero, suc, ◌+◌, ◌<◌, ◌≤◌, ◌==◌, Bool, true, false, Option, None, Some, List, [], ◌∷◌, ◌++◌, ◌⊎◌, inl, inr, refl, sym, ap, ◌∙◌, subst, arith}
use Rattle.std.specs.Prelude.{if◌then◌else◌}
use Rattle.std.specs.List.{AllByRecursion, flat_map, slice_get}
use Rattle.std.proofs.Math.Path.{fun_ext}
use Rattle.std.proofs.lemmas.Bool.{cases_lt, eqb-true, eq-eqb}
use Rattle.std.proofs.lemmas.List.{append-nil, append_assoc}
use Rattle.csp_base.specs.Seat.{seat}
use Rattle.csp_base.specs.declared.seat.Seat.{Seat}
use Rattle.csp_base.specs.declared.limits.TheConstants.{SLOTS}
use Rattle.csp_log.specs.Moving.{moved_by}
use Rattle.csp_log.specs.Noting.{noted_by as note_moved}
use Rattle.csp_log.specs.declared.event.Event.{Event}
use Rattle.csp_log.specs.declared.event.Event.TheVariants as event
use Rattle.csp_log.specs.declared.shown.AnswerShown.{AnswerShown}
use Rattle.csp_log.specs.declared.shown.OpShown.{OpShown}
use Rattle.csp_record.specs.Connections.{opened_by}
use Rattle.csp_record.specs.Ordinals.{frees}
use Rattle.csp_record.specs.Payloads.{carried, told_on}
use Rattle.csp_record.specs.declared.connections.Opening.{Opening}
use Rattle.csp_record.specs.declared.payloads.Transfer.TheVariants as way
use Rattle.csp_record.proofs.Public.{Ends}
use Rattle.csp_scene.proofs.Public.{AllByRecursion-append, AllByRecursion-map}
use Rattle.csp_prefix.specs.Delivered.{delivered_by}
use Rattle.csp_prefix.specs.Ports.{AreNew, Books, IsNew, Ordinals, is_same, noted, noted_by, with_book, with_down, with_opened, with_ordinal, with_sent}
use Rattle.csp_prefix.specs.Slots.{Book, GoesOn, Numbering, blank}
use Rattle.csp_prefix.proofs.PortViews.{IsOther, by_seat, seats_same}

-- ---- what the log tells so far: the openings, what was sent and delivered, and the ends of the slots; and the numbering from which it is told
pub record Past : Type 0 where
  pub opened : ℕ → List Opening
  pub sent : Seat → (ordinal : ℕ) → List (List ℕ)
  pub down : Seat → (ordinal : ℕ) → List (List ℕ)
  pub ends : Ordinals
  pub since : Numbering

-- the ends of the slots of one application
abbrev pub ends_of : ℕ → Past → Ends
ends_of app h = λ slot. h.ends (seat app slot)

abbrev pub past_after : OpShown → AnswerShown → List Event → Past → Past
past_after o a events h = record {
  opened = λ app. h.opened app ++ flat_map (opened_by app (ends_of app h)) events;
  sent = λ s ordinal. h.sent s ordinal ++ (if h.ends s == ordinal then told_on way.Sent s.slot events (carried way.Sent s.app (moved_by o a)) else []);
  down = λ s ordinal. h.down s ordinal ++ (if h.ends s == ordinal then delivered_by s o a else []);
  ends = λ s. if frees way.Sent s (note_moved o a) then h.ends s + 1 else h.ends s;
  since = h.since;
}

-- openings alone; a payload that was sent, one that was delivered; a slot that was freed
abbrev pub with_openings : List Event → Past → Past
with_openings events h = record h { opened = λ app. h.opened app ++ flat_map (opened_by app (ends_of app h)) events }

abbrev pub one_sent : Seat → List ℕ → Past → Past
one_sent s payload h = record h { sent = λ a o. h.sent a o ++ (if h.ends a == o then (if is_same s a then payload ∷ [] else []) else []) }

abbrev pub one_down : Seat → List ℕ → Past → Past
one_down s payload h = record h { down = λ a o. h.down a o ++ (if h.ends a == o then (if is_same s a then payload ∷ [] else []) else []) }

abbrev pub freed_on : Seat → Past → Past
freed_on s h = record h { ends = λ a. if is_same s a then h.ends a + 1 else h.ends a }

-- two that agree are one
pub past_same : (h k : Past) → ((app : ℕ) → h.opened app ≡ k.opened app) → ((s : Seat) (ordinal : ℕ) → h.sent s ordinal ≡ k.sent s ordinal)
    → ((s : Seat) (ordinal : ℕ) → h.down s ordinal ≡ k.down s ordinal) → ((s : Seat) → h.ends s ≡ k.ends s) → h.since ≡ k.since → h ≡ k
past_same h k o p d e q = λ i. record { opened = λ app. o app i; sent = λ s ordinal. p s ordinal i; down = λ s ordinal. d s ordinal i; ends = λ s. e s i; since = q i }

-- ---- a place among others
pub record IsAmong (x : Opening) (xs : List Opening) : Type 0 where
  pub at : ℕ
  pub there : slice_get xs at ≡ Some x

pub get_more : {X : Type 0} (xs ys : List X) (i : ℕ) (x : X) → slice_get xs i ≡ Some x → slice_get (xs ++ ys) i ≡ Some x
get_more [] ys i x e = absurd cc
get_more (z ∷ zs) ys zero x e = e
get_more (z ∷ zs) ys (suc i) x e = get_more zs ys i x e

pub among_more : (x : Opening) (xs ys : List Opening) → IsAmong x xs → IsAmong x (xs ++ ys)
among_more x xs ys a = record { at = a.at; there = get_more xs ys a.at x a.there }

pub among_last : (x : Opening) (xs : List Opening) → IsAmong x (xs ++ x ∷ [])
among_last x [] = record { at = 0; there = refl }
among_last x (y ∷ ys) = let rest = among_last x ys in record { at = suc rest.at; there = rest.there }

pub all_at : {X : Type 0} (P : X → Type 0) (xs : List X) (i : ℕ) (x : X) → AllByRecursion P xs → slice_get xs i ≡ Some x → P x
all_at P [] i x all e = absurd cc
all_at P (y ∷ ys) zero x all e = let same : y ≡ x = cc in subst P same all.0
all_at P (y ∷ ys) (suc i) x all e = all_at P ys i x all.1 e

-- ---- a book among the books
pub book_at : (P : Seat → Book → Type 0) (s : Seat) (b : Book) (books : Books) (a : Seat) → P s b → (IsOther s a → P a (books a)) → P a (with_book s b books a)
book_at P s b books a same other = by_seat s (λ (a : Seat) t. (IsOther s a → P a (books a)) → P a (if t then b else books a)) (λ _. same) (λ a differ other. other differ) a other

-- ---- what is known of an opening: its slot is there; the book of its slot tells of it while its connection is the present one; and what was to
-- be known of a connection that is over stays
pub record IsTold (Over : Numbering → ℕ → Opening → List (List ℕ) → Type 0) (apps : ℕ) (m : Numbering) (h : Past) (books : Books) (app : ℕ) (x : Opening) : Type 0 where
  pub app_there : app < apps
  pub slot_there : x.slot < SLOTS
  pub reached : x.ordinal ≤ h.ends (seat app x.slot)
  pub present : x.ordinal ≡ h.ends (seat app x.slot) → (books (seat app x.slot)).opened ≡ Some (x.nth, x.peer)
  pub over : x.ordinal < h.ends (seat app x.slot) → Over m app x (h.down (seat app x.slot) x.ordinal)

abbrev pub opening_on : Seat → (ordinal : ℕ) → Option ℕ × Option (ℕ × ℕ) → Opening
opening_on s ordinal how = record { slot = s.slot; ordinal = ordinal; nth = how.0; peer = how.1 }

-- the books are those of the log
pub record Tells (Over : Numbering → ℕ → Opening → List (List ℕ) → Type 0) (apps : ℕ) (m : Numbering) (h : Past) (books : Books) : Type 0 where
  pub told : (app : ℕ) → AllByRecursion (IsTold Over apps m h books app) (h.opened app)
  pub back : (s : Seat) (how : Option ℕ × Option (ℕ × ℕ)) → (books s).opened ≡ Some how → IsAmong (opening_on s (h.ends s) how) (h.opened s.app)
  pub sent : (s : Seat) → (books s).sent ≡ h.sent s (h.ends s)
  pub down : (s : Seat) → (books s).down ≡ h.down s (h.ends s)
  pub later_sent : (s : Seat) (ordinal : ℕ) → h.ends s < ordinal → h.sent s ordinal ≡ []
  pub later_down : (s : Seat) (ordinal : ℕ) → h.ends s < ordinal → h.down s ordinal ≡ []
  pub goes_on : GoesOn h.since m

-- before the first entry
abbrev pub no_past : Past
no_past = record { opened = λ app. []; sent = λ s ordinal. []; down = λ s ordinal. []; ends = λ s. 0; since = record { made = 0; home = λ n. (seat 0 0, 0) } }

pub tells_nothing : (Over : Numbering → ℕ → Opening → List (List ℕ) → Type 0) (apps : ℕ) (m : Numbering) → Tells Over apps m no_past (λ s. blank)
tells_nothing Over apps m = record {
  told = λ app. tt;
  back = λ s how e. absurd cc;
  sent = λ s. refl;
  down = λ s. refl;
  later_sent = λ s ordinal lt. refl;
  later_down = λ s ordinal lt. refl;
  goes_on = record { more = omega arith; same = λ n lt. absurd (omega (arith, lt)) };
}

-- from one that goes on from another
goes_further : (m m' m'' : Numbering) → GoesOn m m' → GoesOn m' m'' → GoesOn m m''
goes_further m m' m'' g h = record { more = let one = g.more in let two = h.more in omega (arith, one, two); same = λ n lt. h.same n (let one = g.more in omega (arith, one, lt)) ∙ g.same n lt }

-- other connections are made
pub tells_grows : (Over : Numbering → ℕ → Opening → List (List ℕ) → Type 0) (apps : ℕ) (m m' : Numbering) (h : Past) (books : Books)
    → ((app : ℕ) (x : Opening) (down : List (List ℕ)) → Over m app x down → Over m' app x down) → GoesOn m m' → Tells Over apps m h books → Tells Over apps m' h books
tells_grows Over apps m m' h books more on t = record {
  told = λ app. AllByRecursion-map (IsTold Over apps m h books app) (IsTold Over apps m' h books app) (h.opened app)
      (λ x i. record { app_there = i.app_there; slot_there = i.slot_there; reached = i.reached; present = i.present; over = λ lt. more app x _ (i.over lt) }) (t.told app);
  back = t.back;
  sent = t.sent;
  down = t.down;
  later_sent = t.later_sent;
  later_down = t.later_down;
  goes_on = goes_further h.since m m' t.goes_on on;
}

-- ---- an opening
pub no_openings : (h : Past) → h ≡ with_openings [] h
no_openings h = past_same h (with_openings [] h) (λ app. sym (append-nil (h.opened app))) (λ s ordinal. refl) (λ s ordinal. refl) (λ s. refl) refl

abbrev opening_more : Seat → Option ℕ × Option (ℕ × ℕ) → Past → Past
opening_more s how h = record h { opened = λ a. h.opened a ++ (if s.app == a then opening_on s (h.ends (seat a s.slot)) how ∷ [] else []) }

module _ (Over : Numbering → ℕ → Opening → List (List ℕ) → Type 0) (apps : ℕ) (m : Numbering) where
  told_opening : (h : Past) (books : Books) (s : Seat) (how : Option ℕ × Option (ℕ × ℕ)) → Tells Over apps m h books → (books s).opened ≡ None
      → (a : ℕ) (x : Opening) → IsTold Over apps m h books a x → IsTold Over apps m (opening_more s how h) (with_opened s how books) a x
  told_opening h books s how t none a x i = record {
    app_there = i.app_there;
    slot_there = i.slot_there;
    reached = i.reached;
    present = λ e. book_at (λ a b. (books a).opened ≡ Some (x.nth, x.peer) → b.opened ≡ Some (x.nth, x.peer)) s _ books (seat a x.slot)
        (λ was. absurd (let bad : ◌≡◌ {A = Option (Option ℕ × Option (ℕ × ℕ))} None (Some (x.nth, x.peer)) = sym none ∙ was in cc)) (λ differ was. was) (i.present e);
    over = i.over;
  }

  one_told : (h : Past) (books : Books) (s : Seat) (how : Option ℕ × Option (ℕ × ℕ)) → s.app < apps → s.slot < SLOTS → (a : ℕ) (test : Bool) → (s.app == a) ≡ test
      → AllByRecursion (IsTold Over apps m (opening_more s how h) (with_opened s how books) a) (if test then opening_on s (h.ends (seat a s.slot)) how ∷ [] else [])
  one_told h books s how few low a false e = tt
  one_told h books s how few low a true e =
      let same : s.app ≡ a = eqb-true s.app a e in (
        record {
          app_there = subst (λ k. k < apps) same few;
          slot_there = low;
          reached = omega arith;
          present = λ is. book_at (λ a b. s ≡ a → b.opened ≡ Some (how.0, how.1)) s _ books (seat a s.slot) (λ _. refl) (λ differ is. absurd (differ is)) (seats_same s (seat a s.slot) same refl);
          over = λ lt. absurd (omega (arith, lt));
        },
        tt,
      )

  pub tells_opening : (h : Past) (books : Books) (s : Seat) (how : Option ℕ × Option (ℕ × ℕ)) → s.app < apps → s.slot < SLOTS → (books s).opened ≡ None
      → Tells Over apps m h books → Tells Over apps m (opening_more s how h) (with_opened s how books)
  tells_opening h books s how few low none t = record {
    told = λ a. AllByRecursion-append (IsTold Over apps m (opening_more s how h) (with_opened s how books) a) (h.opened a) _
        (AllByRecursion-map (IsTold Over apps m h books a) _ (h.opened a) (told_opening h books s how t none a) (t.told a))
        (one_told h books s how few low a (s.app == a) refl);
    back = λ a which. book_at (λ a b. b.opened ≡ Some which → IsAmong (opening_on a (h.ends a) which) (h.opened a.app ++ (if s.app == a.app then opening_on s (h.ends (seat a.app s.slot)) how ∷ [] else []))) s _ books a
        (λ e. let is : how ≡ which = cc in
        rw (eq-eqb s.app s.app refl) (subst (λ w. IsAmong (opening_on s (h.ends s) w) (h.opened s.app ++ opening_on s (h.ends s) how ∷ [])) is (among_last (opening_on s (h.ends s) how) (h.opened s.app))))
        (λ differ e. among_more _ (h.opened a.app) _ (t.back a which e));
    sent = λ a. book_at (λ a b. b.sent ≡ h.sent a (h.ends a)) s _ books a (t.sent s) (λ differ. t.sent a);
    down = λ a. book_at (λ a b. b.down ≡ h.down a (h.ends a)) s _ books a (t.down s) (λ differ. t.down a);
    later_sent = t.later_sent;
    later_down = t.later_down;
    goes_on = t.goes_on;
  }

-- ---- several events
pub no_openings_of : (h : Past) (e : Event) → ((app : ℕ) (ends : Ends) → opened_by app ends e ≡ []) → with_openings (e ∷ []) h ≡ h
no_openings_of h e none =
    past_same (with_openings (e ∷ []) h) h (λ app. ap (λ xs. h.opened app ++ (xs ++ [])) (none app (ends_of app h)) ∙ append-nil (h.opened app)) (λ s ordinal. refl) (λ s ordinal. refl) (λ s. refl) refl

openings_one : (h : Past) (e : Event) (es : List Event) → with_openings es (with_openings (e ∷ []) h) ≡ with_openings (e ∷ es) h
openings_one h e es =
    past_same (with_openings es (with_openings (e ∷ []) h)) (with_openings (e ∷ es) h)
    (λ app. append_assoc (h.opened app) (opened_by app (ends_of app h) e ++ []) _ ∙ ap (λ xs. h.opened app ++ (xs ++ flat_map (opened_by app (ends_of app h)) es)) (append-nil (opened_by app (ends_of app h) e)))
    (λ s ordinal. refl) (λ s ordinal. refl) (λ s. refl) refl

pub openings_both : (h : Past) (es fs : List Event) → with_openings fs (with_openings es h) ≡ with_openings (es ++ fs) h
openings_both h [] fs = ap (with_openings fs) (sym (no_openings h))
openings_both h (e ∷ es) fs =
    ap (with_openings fs) (sym (openings_one h e es)) ∙ openings_both (with_openings (e ∷ []) h) es fs ∙ openings_one h e (es ++ fs)

module _ (Over : Numbering → ℕ → Opening → List (List ℕ) → Type 0) (apps : ℕ) (m : Numbering) where
  tells_other : (h : Past) (books : Books) (e : Event) → ((app : ℕ) (ends : Ends) → opened_by app ends e ≡ []) → Tells Over apps m h books → Tells Over apps m (with_openings (e ∷ []) h) books
  tells_other h books e none t = subst (λ k. Tells Over apps m k books) (sym (no_openings_of h e none)) t

  tells_event : (h : Past) (books : Books) (e : Event) → IsNew apps e books → Tells Over apps m h books → Tells Over apps m (with_openings (e ∷ []) h) (noted_by e books)
  tells_event h books (event.Opened app slot nth peer) new t =
      let s : Seat = seat app slot in
      subst (λ k. Tells Over apps m k (with_opened s (nth, peer) books))
      (past_same (opening_more s (nth, peer) h) (with_openings (event.Opened app slot nth peer ∷ []) h) (λ a. ap (λ xs. h.opened a ++ xs) (sym (append-nil _))) (λ a o. refl) (λ a o. refl) (λ a. refl) refl)
      (tells_opening Over apps m h books s (nth, peer) new.0 new.1 new.2 t)
  tells_event h books (event.Sent slot ordinal) new t = absurd new
  tells_event h books (event.TookEmpty step) new t = tells_other h books (event.TookEmpty step) (λ app ends. refl) t
  tells_event h books (event.Took slot ordinal) new t = tells_other h books (event.Took slot ordinal) (λ app ends. refl) t
  tells_event h books (event.BlobTook slot ordinal len crc) new t = tells_other h books (event.BlobTook slot ordinal len crc) (λ app ends. refl) t
  tells_event h books (event.BlobRefused slot ordinal reason) new t = tells_other h books (event.BlobRefused slot ordinal reason) (λ app ends. refl) t
  tells_event h books (event.Refused step reason) new t = tells_other h books (event.Refused step reason) (λ app ends. refl) t
  tells_event h books (event.GaveUp step) new t = tells_other h books (event.GaveUp step) (λ app ends. refl) t
  tells_event h books (event.SlotDown step) new t = tells_other h books (event.SlotDown step) (λ app ends. refl) t
  tells_event h books (event.Discarded reason) new t = tells_other h books (event.Discarded reason) (λ app ends. refl) t
  tells_event h books (event.Handed nth peer tag cur una) new t = tells_other h books (event.Handed nth peer tag cur una) (λ app ends. refl) t
  tells_event h books (event.Transmitted serial) new t = tells_other h books (event.Transmitted serial) (λ app ends. refl) t
  tells_event h books (event.Bad count) new t = tells_other h books (event.Bad count) (λ app ends. refl) t
  tells_event h books event.Starved new t = tells_other h books event.Starved (λ app ends. refl) t
  tells_event h books event.InboxFull new t = tells_other h books event.InboxFull (λ app ends. refl) t
  tells_event h books event.TooBig new t = tells_other h books event.TooBig (λ app ends. refl) t
  tells_event h books event.Reboot new t = tells_other h books event.Reboot (λ app ends. refl) t
  tells_event h books event.Shutdown new t = tells_other h books event.Shutdown (λ app ends. refl) t

  pub tells_noted : (es : List Event) (h : Past) (books : Books) → AreNew apps es books → Tells Over apps m h books → Tells Over apps m (with_openings es h) (noted es books)
  tells_noted [] h books new t = subst (λ k. Tells Over apps m k books) (no_openings h) t
  tells_noted (e ∷ es) h books new t =
      subst (λ k. Tells Over apps m k (noted es (noted_by e books))) (openings_one h e es)
      (tells_noted es (with_openings (e ∷ []) h) (noted_by e books) new.1 (tells_event h books e new.0 t))

  -- ---- a payload that was sent, and one that was delivered
  none_on : (n o : ℕ) (xs : List (List ℕ)) → (n ≡ o → ⊥) → (if n == o then xs else []) ≡ []
  none_on n o xs differ = by_test (n == o) refl
    where
      by_test : (t : Bool) → (n == o) ≡ t → (if t then xs else []) ≡ []
      by_test false e = refl
      by_test true e = absurd (differ (eqb-true n o e))

  pub tells_sent : (h : Past) (books : Books) (s : Seat) (payload : List ℕ) → Tells Over apps m h books → Tells Over apps m (one_sent s payload h) (with_sent s payload books)
  tells_sent h books s payload t = record {
    told = λ a. AllByRecursion-map (IsTold Over apps m h books a) _ (h.opened a)
        (λ x i. record {
          app_there = i.app_there;
          slot_there = i.slot_there;
          reached = i.reached;
          present = λ e. book_at (λ a b. (books a).opened ≡ Some (x.nth, x.peer) → b.opened ≡ Some (x.nth, x.peer)) s _ books (seat a x.slot) (λ was. was) (λ differ was. was) (i.present e);
          over = i.over;
        }) (t.told a);
    back = λ a which. book_at (λ a b. b.opened ≡ Some which → IsAmong (opening_on a (h.ends a) which) (h.opened a.app)) s _ books a (t.back s which) (λ differ. t.back a which);
    sent = by_seat s (λ a here. (if here then record (books s) { sent = (books s).sent ++ payload ∷ [] } else books a).sent ≡ h.sent a (h.ends a) ++ (if h.ends a == h.ends a then (if here then payload ∷ [] else []) else []))
        (rw (eq-eqb (h.ends s) (h.ends s) refl) (ap (λ xs. xs ++ payload ∷ []) (t.sent s)))
        (λ a differ. rw (eq-eqb (h.ends a) (h.ends a) refl) (t.sent a ∙ sym (append-nil _)));
    down = λ a. book_at (λ a b. b.down ≡ h.down a (h.ends a)) s _ books a (t.down s) (λ differ. t.down a);
    later_sent = λ a o lt. rw (t.later_sent a o lt) (none_on (h.ends a) o _ (λ is. omega (arith, lt, is)));
    later_down = t.later_down;
    goes_on = t.goes_on;
  }

  pub tells_down : (h : Past) (books : Books) (s : Seat) (payload : List ℕ) → Tells Over apps m h books → Tells Over apps m (one_down s payload h) (with_down s payload books)
  tells_down h books s payload t = record {
    told = λ a. AllByRecursion-map (IsTold Over apps m h books a) _ (h.opened a)
        (λ x i. record {
          app_there = i.app_there;
          slot_there = i.slot_there;
          reached = i.reached;
          present = λ e. book_at (λ a b. (books a).opened ≡ Some (x.nth, x.peer) → b.opened ≡ Some (x.nth, x.peer)) s _ books (seat a x.slot) (λ was. was) (λ differ was. was) (i.present e);
          over = λ lt. subst (Over m a x)
              (sym (append-nil _) ∙ ap (λ xs. h.down (seat a x.slot) x.ordinal ++ xs) (sym (none_on (h.ends (seat a x.slot)) x.ordinal _ (λ is. omega (arith, lt, is))))) (i.over lt);
        }) (t.told a);
    back = λ a which. book_at (λ a b. b.opened ≡ Some which → IsAmong (opening_on a (h.ends a) which) (h.opened a.app)) s _ books a (t.back s which) (λ differ. t.back a which);
    sent = λ a. book_at (λ a b. b.sent ≡ h.sent a (h.ends a)) s _ books a (t.sent s) (λ differ. t.sent a);
    down = by_seat s (λ a here. (if here then record (books s) { down = (books s).down ++ payload ∷ [] } else books a).down ≡ h.down a (h.ends a) ++ (if h.ends a == h.ends a then (if here then payload ∷ [] else []) else []))
        (rw (eq-eqb (h.ends s) (h.ends s) refl) (ap (λ xs. xs ++ payload ∷ []) (t.down s)))
        (λ a differ. rw (eq-eqb (h.ends a) (h.ends a) refl) (t.down a ∙ sym (append-nil _)));
    later_sent = t.later_sent;
    later_down = λ a o lt. rw (t.later_down a o lt) (none_on (h.ends a) o _ (λ is. omega (arith, lt, is)));
    goes_on = t.goes_on;
  }

  -- ---- a slot that is freed: what is to be known of its connection is known
  abbrev ends_if : Past → (is_freed : Bool) → Seat → ℕ
  ends_if h is_freed a = if is_freed then h.ends a + 1 else h.ends a

  pub over_now : (h : Past) (books : Books) (s : Seat) (x : Opening) → ((how : Option ℕ × Option (ℕ × ℕ)) → (books s).opened ≡ Some how → Over m s.app (opening_on s (h.ends s) how) (books s).down)
      → (books s).down ≡ h.down s (h.ends s) → s.slot ≡ x.slot → x.ordinal ≤ h.ends s
      → (x.ordinal ≡ h.ends s → (books s).opened ≡ Some (x.nth, x.peer)) → (x.ordinal < h.ends s → Over m s.app x (h.down s x.ordinal)) → Over m s.app x (h.down s x.ordinal)
  over_now h books s x ends is same le was over = by_order (cases_lt x.ordinal (h.ends s))
    where
      by_order : (x.ordinal < h.ends s) ⊎ (h.ends s ≤ x.ordinal) → Over m s.app x (h.down s x.ordinal)
      by_order (inl lt) = over lt
      by_order (inr ge) =
          let equal : h.ends s ≡ x.ordinal = omega (arith, le, ge) in
          let now = ends (x.nth, x.peer) (was (sym equal)) in
          let there = subst (λ d. Over m s.app (opening_on s (h.ends s) (x.nth, x.peer)) d) is now in
          subst (λ slot. Over m s.app (record { slot = slot; ordinal = x.ordinal; nth = x.nth; peer = x.peer }) (h.down s x.ordinal)) same
          (subst (λ n. Over m s.app (opening_on s n (x.nth, x.peer)) (h.down s n)) equal there)

  told_freed : (h : Past) (books : Books) (s : Seat) → ((how : Option ℕ × Option (ℕ × ℕ)) → (books s).opened ≡ Some how → Over m s.app (opening_on s (h.ends s) how) (books s).down)
      → (books s).down ≡ h.down s (h.ends s) → (a : ℕ) (x : Opening) → IsTold Over apps m h books a x → IsTold Over apps m (freed_on s h) (with_book s blank books) a x
  told_freed h books s ends is a x i = record {
    app_there = i.app_there;
    slot_there = i.slot_there;
    reached = by_seat s (λ a here. x.ordinal ≤ h.ends a → x.ordinal ≤ ends_if h here a) (λ le. omega (arith, le)) (λ a differ le. le) (seat a x.slot) i.reached;
    present = by_seat s (λ a here. x.ordinal ≤ h.ends a → (x.ordinal ≡ h.ends a → (books a).opened ≡ Some (x.nth, x.peer)) → x.ordinal ≡ ends_if h here a → (if here then blank else books a).opened ≡ Some (x.nth, x.peer))
        (λ le was e. absurd (omega (arith, le, e))) (λ a differ le was. was) (seat a x.slot) i.reached i.present;
    over = by_seat s (λ a here. a.slot ≡ x.slot → x.ordinal ≤ h.ends a → (x.ordinal ≡ h.ends a → (books a).opened ≡ Some (x.nth, x.peer)) → (x.ordinal < h.ends a → Over m a.app x (h.down a x.ordinal)) → x.ordinal < ends_if h here a → Over m a.app x (h.down a x.ordinal))
        (λ same le was over lt. over_now h books s x ends is same le was over) (λ a differ same le was over. over) (seat a x.slot) refl i.reached i.present i.over;
  }

  pub tells_freed : (h : Past) (books : Books) (s : Seat) → ((how : Option ℕ × Option (ℕ × ℕ)) → (books s).opened ≡ Some how → Over m s.app (opening_on s (h.ends s) how) (books s).down)
      → Tells Over apps m h books → Tells Over apps m (freed_on s h) (with_book s blank books)
  tells_freed h books s ends t = record {
    told = λ a. AllByRecursion-map (IsTold Over apps m h books a) _ (h.opened a) (told_freed h books s ends (t.down s) a) (t.told a);
    back = λ a which. by_seat s (λ a here. (if here then blank else books a).opened ≡ Some which → IsAmong (opening_on a (ends_if h here a) which) (h.opened a.app)) (λ e. absurd cc) (λ a differ. t.back a which) a;
    sent = by_seat s (λ a here. (if here then blank else books a).sent ≡ h.sent a (ends_if h here a)) (sym (t.later_sent s (h.ends s + 1) (omega arith))) (λ a differ. t.sent a);
    down = by_seat s (λ a here. (if here then blank else books a).down ≡ h.down a (ends_if h here a)) (sym (t.later_down s (h.ends s + 1) (omega arith))) (λ a differ. t.down a);
    later_sent = λ a o lt. t.later_sent a o (earlier o a lt);
    later_down = λ a o lt. t.later_down a o (earlier o a lt);
    goes_on = t.goes_on;
  }
    where
      earlier : (o : ℕ) (a : Seat) → ends_if h (is_same s a) a < o → h.ends a < o
      earlier o a = by_seat s (λ a here. ends_if h here a < o → h.ends a < o) (λ lt. omega (arith, lt)) (λ a differ lt. lt) a

pub ordinals_freed : (s : Seat) (h : Past) → with_ordinal s (h.ends s + 1) h.ends ≡ (freed_on s h).ends
ordinals_freed s h = fun_ext (by_seat s (λ a here. (if here then h.ends s + 1 else h.ends a) ≡ (if here then h.ends a + 1 else h.ends a)) refl (λ a differ. refl))

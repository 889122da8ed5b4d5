-- the receive window
use Rattle.std.proofs.Common.{◌≡◌, ℕ, zero, suc, ◌+◌, ◌*◌, ◌<◌, ◌≤◌, Bool, true, false, not, ◌&&◌, List, [], ◌∷◌, ◌++◌, length, take, drop, get_or, map, Option, Some, None, arith, ap, sym, ◌∙◌, refl}
use Rattle.std.specs.List.{filter, find, list_any, slice_set}
use Rattle.std.specs.Option.{option_map}
use Rattle.std.specs.Prelude.{◌==◌, if◌then◌else◌, is_some, nat_le, nat_lt, pos}
use Rattle.std.proofs.lemmas.Bool.{eq-eqb, leb-true, ltb-true, ne_eqb, lt-ltb, le-ltb}
use Rattle.std.proofs.lemmas.List.{length-take, map-append}
use Rattle.std.proofs.Math.Seq.{drop-cons}
use Rattle.csp_base.specs.Sequence.{number_of}
use Rattle.csp_base.specs.declared.sequence.Seq.{Seq}
use Rattle.csp_buffer.specs.PlainBuffer.{PlainBuffer}
use Rattle.csp_rdp_window.specs.Numbers.{number_in, times}
use Rattle.csp_rdp_window.specs.Offers.{handed_back}
use Rattle.csp_rdp_window.specs.Places.{first_held, held_in, kept_in, without_held}
use Rattle.csp_rdp_window.specs.Receiving.{Kept, PlainRecv, first_buffer, is_awaited, is_kept, kept_with, missing_from, offered_at, recv_numbers, with_kept, without_first}
use Rattle.csp_rdp_window.specs.declared.receive.Offer.{Offer}
use Rattle.csp_rdp_window.specs.declared.receive.Offer.TheVariants as offer
use Rattle.csp_rdp_window.proofs.CountLemmas.{times-cons}
use Rattle.csp_rdp_window.proofs.PlaceLemmas.{take-item}

pub kept_in-append : (t : ℕ) (xs ys : List (Option PlainBuffer)) → kept_in t (xs ++ ys) ≡ kept_in t xs ++ kept_in (t + length xs) ys
kept_in-append t [] ys = let same : t + 0 ≡ t = omega arith in rw same refl
kept_in-append t (None ∷ xs) ys = let same : t + suc (length xs) ≡ t + 1 + length xs = omega arith in rw same (kept_in-append (t + 1) xs ys)
kept_in-append t (Some b ∷ xs) ys =
    let same : t + suc (length xs) ≡ t + 1 + length xs = omega arith in
    rw same (ap (λ l. record { index = t; buffer = b } ∷ l) (kept_in-append (t + 1) xs ys))

append-none : (t : ℕ) (xs : List (Option PlainBuffer)) → kept_in t (xs ++ None ∷ []) ≡ kept_in t xs
append-none t [] = refl
append-none t (None ∷ xs) = append-none (t + 1) xs
append-none t (Some b ∷ xs) = ap (λ l. record { index = t; buffer = b } ∷ l) (append-none (t + 1) xs)

-- ---- what is kept later

find-later : (u s : ℕ) (xs : List (Option PlainBuffer)) → u < s → find (λ k. k.index == u) (kept_in s xs) ≡ None
find-later u s [] h = refl
find-later u s (None ∷ xs) h = find-later u (s + 1) xs (omega arith)
find-later u s (Some b ∷ xs) h = rw (ne_eqb s u (λ e. omega arith)) (find-later u (s + 1) xs (omega arith))

any-later : (u s : ℕ) (xs : List (Option PlainBuffer)) → u < s → list_any (λ k. k.index == u) (kept_in s xs) ≡ false
any-later u s [] h = refl
any-later u s (None ∷ xs) h = any-later u (s + 1) xs (omega arith)
any-later u s (Some b ∷ xs) h = rw (ne_eqb s u (λ e. omega arith)) (any-later u (s + 1) xs (omega arith))

filter-later : (u s : ℕ) (xs : List (Option PlainBuffer)) → u < s → filter (λ k. not (k.index == u)) (kept_in s xs) ≡ kept_in s xs
filter-later u s [] h = refl
filter-later u s (None ∷ xs) h = filter-later u (s + 1) xs (omega arith)
filter-later u s (Some b ∷ xs) h = rw (ne_eqb s u (λ e. omega arith)) (ap (λ l. record { index = s; buffer = b } ∷ l) (filter-later u (s + 1) xs (omega arith)))

kept_with-later : (u s : ℕ) (b : PlainBuffer) (xs : List (Option PlainBuffer)) → u < s → kept_with u b (kept_in s xs) ≡ record { index = u; buffer = b } ∷ kept_in s xs
kept_with-later u s b [] h = refl
kept_with-later u s b (None ∷ xs) h = kept_with-later u (s + 1) b xs (omega arith)
kept_with-later u s b (Some c ∷ xs) h = rw (lt-ltb u s h) refl

missing-later : (u s : ℕ) (xs : List (Option PlainBuffer)) → u < s → missing_from u (kept_in s xs) ≡ u
missing-later u s [] h = refl
missing-later u s (None ∷ xs) h = missing-later u (s + 1) xs (omega arith)
missing-later u s (Some b ∷ xs) h = rw (ne_eqb s u (λ e. omega arith)) refl

-- ---- the first place

pub next-is : (t : ℕ) (xs : List (Option PlainBuffer)) (d : Option PlainBuffer) → 0 < length xs →
    option_map (λ k. k.buffer) (find (λ k. k.index == t) (kept_in t xs)) ≡ get_or xs 0 d
next-is t [] d h = absurd (omega arith)
next-is t (None ∷ xs) d h = ap (option_map (λ k. k.buffer)) (find-later t (t + 1) xs (omega arith))
next-is t (Some b ∷ xs) d h = rw (eq-eqb t t refl) refl

pub next-taken : (t : ℕ) (xs : List (Option PlainBuffer)) → kept_in t (slice_set xs 0 None) ≡ filter (λ k. not (k.index == t)) (kept_in t xs)
next-taken t [] = refl
next-taken t (None ∷ xs) = sym (filter-later t (t + 1) xs (omega arith))
next-taken t (Some b ∷ xs) = rw (eq-eqb t t refl) (sym (filter-later t (t + 1) xs (omega arith)))

-- it is not kept any more
pub next-gone : (t : ℕ) (xs : List (Option PlainBuffer)) → list_any (λ k. k.index == t) (kept_in t (slice_set xs 0 None)) ≡ false
next-gone t [] = refl
next-gone t (x ∷ xs) = any-later t (t + 1) xs (omega arith)

pub first-none : (t : ℕ) (xs : List (Option PlainBuffer)) (d : Option PlainBuffer) → 0 < length xs → list_any (λ k. k.index == t) (kept_in t xs) ≡ false → get_or xs 0 d ≡ None
first-none t [] d h e = absurd (omega arith)
first-none t (None ∷ xs) d h e = refl
first-none t (Some b ∷ xs) d h e = let same : (t == t) ≡ true = eq-eqb t t refl in cc

-- the places move on by one
pub kept_in-moved : (t : ℕ) (xs : List (Option PlainBuffer)) (d : Option PlainBuffer) → 0 < length xs → get_or xs 0 d ≡ None → kept_in (t + 1) (drop 1 xs ++ take 1 xs) ≡ kept_in t xs
kept_in-moved t [] d h e = refl
kept_in-moved t (None ∷ xs) d h e = append-none (t + 1) xs
kept_in-moved t (Some b ∷ xs) d h e = cc

-- ---- any place

pub kept-at : (t n u : ℕ) (xs : List (Option PlainBuffer)) (d : Option PlainBuffer) → u ≡ t + n → n < length xs → list_any (λ k. k.index == u) (kept_in t xs) ≡ is_some (get_or xs n d)
kept-at t n u [] d e h = absurd (omega arith)
kept-at t zero u (None ∷ xs) d e h = any-later u (t + 1) xs (omega arith)
kept-at t zero u (Some b ∷ xs) d e h = rw (eq-eqb t u (omega arith)) refl
kept-at t (suc n) u (None ∷ xs) d e h = kept-at (t + 1) n u xs d (omega arith) (omega arith)
kept-at t (suc n) u (Some b ∷ xs) d e h = rw (ne_eqb t u (λ f. omega arith)) (kept-at (t + 1) n u xs d (omega arith) (omega arith))

pub kept_with-at : (t n u : ℕ) (b : PlainBuffer) (xs : List (Option PlainBuffer)) (d : Option PlainBuffer) → u ≡ t + n → n < length xs → get_or xs n d ≡ None →
    kept_in t (slice_set xs n (Some b)) ≡ kept_with u b (kept_in t xs)
kept_with-at t n u b [] d e h f = absurd (omega arith)
kept_with-at t zero u b (None ∷ xs) d e h f = let same : u ≡ t = omega arith in rw same (sym (kept_with-later t (t + 1) b xs (omega arith)))
kept_with-at t zero u b (Some c ∷ xs) d e h f = cc
kept_with-at t (suc n) u b (None ∷ xs) d e h f = kept_with-at (t + 1) n u b xs d (omega arith) (omega arith) f
kept_with-at t (suc n) u b (Some c ∷ xs) d e h f = rw (le-ltb u t (omega arith)) (ap (λ l. record { index = t; buffer = c } ∷ l) (kept_with-at (t + 1) n u b xs d (omega arith) (omega arith) f))

-- ---- numbers of buffers

pub kept_in-numbers : (t : ℕ) (xs : List (Option PlainBuffer)) → map (λ k. k.buffer.picture.number) (kept_in t xs) ≡ map (λ b. b.picture.number) (held_in xs)
kept_in-numbers t [] = refl
kept_in-numbers t (None ∷ xs) = kept_in-numbers (t + 1) xs
kept_in-numbers t (Some b ∷ xs) = ap (λ l. b.picture.number ∷ l) (kept_in-numbers (t + 1) xs)

pub times-kept_with : (k t : ℕ) (b : PlainBuffer) (ks : List Kept) →
    times k (map (λ e. e.buffer.picture.number) (kept_with t b ks)) ≡ times k (map (λ e. e.buffer.picture.number) ks) + times k (b.picture.number ∷ [])
times-kept_with k t b [] = let z : times k [] ≡ 0 = refl in omega (arith, z)
times-kept_with k t b (e ∷ ks) = go (nat_lt t e.index) (times-kept_with k t b ks)
  where
    go : (c : Bool) → times k (map (λ x. x.buffer.picture.number) (kept_with t b ks)) ≡ times k (map (λ x. x.buffer.picture.number) ks) + times k (b.picture.number ∷ []) →
        times k (map (λ x. x.buffer.picture.number) (if c then record { index = t; buffer = b } ∷ e ∷ ks else e ∷ kept_with t b ks))
        ≡ times k (e.buffer.picture.number ∷ map (λ x. x.buffer.picture.number) ks) + times k (b.picture.number ∷ [])
    go true h =
        let own = times-cons k b.picture.number (e.buffer.picture.number ∷ map (λ x. x.buffer.picture.number) ks) in
        let one = times-cons k b.picture.number [] in
        omega (arith, own, one)
    go false h =
        let more = times-cons k e.buffer.picture.number (map (λ x. x.buffer.picture.number) (kept_with t b ks)) in
        let all = times-cons k e.buffer.picture.number (map (λ x. x.buffer.picture.number) ks) in
        omega (arith, more, all, h)

pub times-first : (k : ℕ) (ks : List Kept) →
    times k (map (λ e. e.buffer.picture.number) (without_first ks)) + times k (number_in (first_buffer ks)) ≡ times k (map (λ e. e.buffer.picture.number) ks)
times-first k [] = refl
times-first k (e ∷ ks) =
    let one = times-cons k e.buffer.picture.number [] in
    let all = times-cons k e.buffer.picture.number (map (λ x. x.buffer.picture.number) ks) in
    omega (arith, one, all)

-- an offered packet is kept or handed back
abbrev chosen : Bool → Bool → ℕ → PlainBuffer → PlainRecv → Offer × PlainRecv
chosen p q t b w = if p then (offer.Outside b, w) else if q then (offer.Duplicate b, w) else (offer.Kept, with_kept t b w)

times-chosen : (p q : Bool) (t : ℕ) (b : PlainBuffer) (w : PlainRecv) (k : ℕ) →
    times k (recv_numbers (chosen p q t b w).1) + times k (handed_back (chosen p q t b w).0) ≡ times k (recv_numbers w) + times k (b.picture.number ∷ [])
times-chosen true q t b w k = refl
times-chosen false true t b w k = refl
times-chosen false false t b w k = let h = times-kept_with k t b w.kept in let z : times k [] ≡ 0 = refl in omega (arith, h, z)

pub times-offered : (o : Option ℕ) (b : PlainBuffer) (w : PlainRecv) (k : ℕ) →
    times k (recv_numbers (offered_at o b w).1) + times k (handed_back (offered_at o b w).0) ≡ times k (recv_numbers w) + times k (b.picture.number ∷ [])
times-offered None b w k = refl
times-offered (Some t) b w k = times-chosen (not (is_awaited w t)) (is_kept w t) t b w k

-- ---- what a window is seen as

abbrev pub seen : ℕ → ℕ → ℕ → List Kept → PlainRecv
seen start window cur kept = record { start = start; window = window; cur = cur; kept = kept }

pub same-seen : (start window cur : ℕ) (ks ls : List Kept) → ks ≡ ls → seen start window cur ks ≡ seen start window cur ls
same-seen start window cur ks ls e = ap (seen start window cur) e

-- the bounds of what is awaited
pub record AreBounds (w : PlainRecv) (t : ℕ) : Type 0 where
  pub low : w.cur < t
  pub high : t ≤ w.cur + 2 * w.window

pub awaited-bounds : (w : PlainRecv) (t : ℕ) → is_awaited w t ≡ true → AreBounds w t
awaited-bounds w t e = go (nat_lt w.cur t) refl e
  where
    go : (b : Bool) → nat_lt w.cur t ≡ b → (b && nat_le t (w.cur + 2 * w.window)) ≡ true → AreBounds w t
    go true p q = record { low = ltb-true w.cur t p; high = leb-true t (w.cur + 2 * w.window) q }
    go false p q = cc

pub none-from : {T : Type 0} (o : Option T) → is_some o ≡ false → o ≡ None
none-from None e = refl
none-from (Some x) e = cc

pub offered-kept : (t : ℕ) (b : PlainBuffer) (w : PlainRecv) → is_awaited w t ≡ true → is_kept w t ≡ false → (offered_at (Some t) b w).1 ≡ with_kept t b w
offered-kept t b w p q = ap (λ c. (chosen (not c) (is_kept w t) t b w).1) p ∙ ap (λ c. (chosen false c t b w).1) q

-- ---- place by place

kept_in-after : (t : ℕ) (xs : List (Option PlainBuffer)) (i : ℕ) (ys : List (Option PlainBuffer)) → i ≤ length xs → kept_in t (take i xs ++ ys) ≡ kept_in t (take i xs) ++ kept_in (t + i) ys
kept_in-after t xs i ys h =
    let len : length (take i xs) ≡ i = length-take i xs ∙ omega arith in
    kept_in-append t (take i xs) ys ∙ ap (λ n. kept_in t (take i xs) ++ kept_in (t + n) ys) len

pub kept_in-more : (t : ℕ) (xs : List (Option PlainBuffer)) (i : ℕ) (x : Option PlainBuffer) → i < length xs → x ≡ get_or xs i x →
    kept_in t (take (i + 1) xs) ≡ kept_in t (take i xs) ++ kept_in (t + i) (x ∷ [])
kept_in-more t xs i x h e = ap (kept_in t) (take-item xs i x h e) ∙ kept_in-after t xs i (x ∷ []) (omega arith)

-- the first that is kept
pub kept_in-first : (t : ℕ) (xs : List (Option PlainBuffer)) → first_held xs ≡ first_buffer (kept_in t xs)
kept_in-first t [] = refl
kept_in-first t (None ∷ xs) = kept_in-first (t + 1) xs
kept_in-first t (Some b ∷ xs) = refl

pub kept_in-without : (t : ℕ) (xs : List (Option PlainBuffer)) → kept_in t (without_held xs) ≡ without_first (kept_in t xs)
kept_in-without t [] = refl
kept_in-without t (None ∷ xs) = kept_in-without (t + 1) xs
kept_in-without t (Some b ∷ xs) = refl

pub kept_in-few : (t : ℕ) (xs : List (Option PlainBuffer)) → length (kept_in t xs) ≤ length xs
kept_in-few t [] = omega arith
kept_in-few t (None ∷ xs) = let rest = kept_in-few (t + 1) xs in omega (arith, rest)
kept_in-few t (Some b ∷ xs) = let rest = kept_in-few (t + 1) xs in omega (arith, rest)

-- an empty place is missing
pub missing-here : (t : ℕ) (xs : List (Option PlainBuffer)) (i : ℕ) (x : Option PlainBuffer) → i < length xs → x ≡ get_or xs i x → x ≡ None →
    missing_from (t + i) (kept_in (t + i) (drop i xs)) ≡ t + i
missing-here t xs i x h e f =
    ap (λ l. missing_from (t + i) (kept_in (t + i) l)) (drop-cons xs i x h ∙ ap (λ y. y ∷ drop (suc i) xs) (sym e ∙ f))
    ∙ missing-later (t + i) (t + i + 1) (drop (suc i) xs) (omega arith)

-- ---- numbers of what is kept

abbrev pub number_for : ℕ → Kept → Seq
number_for start k = record { 0 = number_of start (pos k.index) }

pub listed-more : (start t : ℕ) (xs : List (Option PlainBuffer)) (i : ℕ) (x : Option PlainBuffer) (items more : List Seq) → i < length xs → x ≡ get_or xs i x →
    items ≡ map (number_for start) (kept_in t (take i xs)) → more ≡ items ++ map (number_for start) (kept_in (t + i) (x ∷ [])) →
    more ≡ map (number_for start) (kept_in t (take (i + 1) xs))
listed-more start t xs i x items more h e so_far one =
    one ∙ ap (λ l. l ++ map (number_for start) (kept_in (t + i) (x ∷ []))) so_far
    ∙ sym (map-append (number_for start) (kept_in t (take i xs)) (kept_in (t + i) (x ∷ [])))
    ∙ ap (map (number_for start)) (sym (kept_in-more t xs i x h e))

pub some-listed : (start t : ℕ) (x : Option PlainBuffer) (s : Seq) → is_some x ≡ true → s.0 ≡ number_of start (pos t) → s ∷ [] ≡ map (number_for start) (kept_in t (x ∷ []))
some-listed start t None s e f = cc
some-listed start t (Some b) s e f = let seq : ℕ → Seq = λ n. record { 0 = n } in ap (λ n. seq n ∷ []) f

pub none-listed : (start t : ℕ) (x : Option PlainBuffer) → is_some x ≡ false → map (number_for start) (kept_in t (x ∷ [])) ≡ []
none-listed start t None e = refl
none-listed start t (Some b) e = cc

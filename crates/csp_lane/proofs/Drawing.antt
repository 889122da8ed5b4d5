-- Items that the pass which put and got all takes out, one after another.
use Rattle.std.proofs.Common.{◌≡◌, ◌+◌, ◌≤◌, ℕ, List, [], ◌∷◌, ◌++◌, All, length, map, refl, sym, ap, ◌∙◌, subst, arith, append_assoc, length-append}
use Rattle.std.proofs.lemmas.List.{map-append}
use Rattle.std.proofs.lemmas.List.Elements.{All-cons, All-head, All-nil, All-push, All-tail}
use lib.ListN.{length-map}
use Rattle.csp_lane.proofs.Marks.{marks_more, marks-append, marks-one}
use Rattle.csp_lane.specs.Ends.{Closes, IsFor, PlainEnd}
use Rattle.csp_lane.specs.Marks.{AreHeeded, marks_in, reached}
use Rattle.csp_lane.specs.Relays.{Accounts, course, hand, terms_of, with_got, seen_in, marks_of, Gets, HasBoth, IsCargo, Takes}
use Rattle.csp_lane.specs.declared.cargo.Cargo.{Cargo}
use Rattle.csp_lane.specs.declared.hand.Course.{Course}
use Rattle.csp_lane.specs.declared.hand.Hand.{Hand}
use Rattle.csp_log.specs.Pictures.{shown_item}
use Rattle.csp_log.specs.declared.item.Item.{Item}

-- one more
pub takes_one : (v w u : Hand) (x : Cargo) (before after more : List Item) → Takes v w before after → Gets w x u → more ≡ after ++ x.item ∷ [] → Takes v u before more
takes_one v w u x before after more t g pushed =
    let taken : List Cargo = t.taken ++ x ∷ [] in
    let one = seen_in x in
    let item : Cargo → Item = λ (y : Cargo). y.item in
    let longer : Course → Course = λ c. course (c.items ++ one ∷ []) (c.marks ++ marks_in v.about (reached x.note)) in
    let grown : longer (course (v.got.items ++ map seen_in t.taken) (v.got.marks ++ marks_of v.about t.taken)) ≡ course (v.got.items ++ map seen_in taken) (v.got.marks ++ marks_of v.about taken) =
    (let items = append_assoc v.got.items (map seen_in t.taken) (one ∷ []) ∙ ap (λ l. v.got.items ++ l) (sym (map-append seen_in t.taken (x ∷ []))) in
    let marks = append_assoc v.got.marks (marks_of v.about t.taken) (marks_in v.about (reached x.note))
    ∙ ap (λ l. v.got.marks ++ l) (ap (λ l. marks_of v.about t.taken ++ l) (sym (marks-one v.about x)) ∙ sym (marks-append v.about t.taken (x ∷ []))) in
    λ i. course (items i) (marks i)) in
    record {
      taken = taken;
      got = g.got ∙ ap (λ (y : Hand). with_got y one (reached x.note)) t.got ∙ ap (λ c. hand v.writes v.reads (terms_of v) v.put c v.bounds v.known_puts v.known_gets) grown;
      appended = pushed ∙ ap (λ l. l ++ x.item ∷ []) t.appended ∙ append_assoc before (map item t.taken) (x.item ∷ []) ∙ ap (λ l. before ++ l) (sym (map-append item t.taken (x ∷ [])));
      carried = All-push (IsCargo (terms_of v)) t.taken x t.carried (subst (λ (y : Hand). IsCargo (terms_of y) x) t.got g.carried);
    }

-- it has got one more
pub got_one : (w u : Hand) (x : Cargo) → Gets w x u → length u.got.items ≡ length w.got.items + 1
got_one w u x g = ap (λ (y : Hand). length y.got.items) g.got ∙ length-append w.got.items (seen_in x ∷ [])

-- and may do both still
pub still_both : (v w : Hand) (before after : List Item) → Takes v w before after → HasBoth v → HasBoth w
still_both v w before after t h = record { writes = ap (λ (y : Hand). y.writes) t.got ∙ h.writes; reads = ap (λ (y : Hand). y.reads) t.got ∙ h.reads }

-- what was put was heeded, as far as it was bounded
pub still_heeded : (v w : Hand) (before after : List Item) (left : List Cargo) → Takes v w before after → Accounts w left → AreHeeded v.put.marks v.bounds
still_heeded v w before after left t a =
    subst (λ (l : List ℕ × List ℕ). AreHeeded l.0 l.1) (λ i. (ends i, bounds i)) (marks_more w.got.marks (marks_of w.about left) w.bounds a.heeded) where
      ends : w.got.marks ++ marks_of w.about left ≡ v.put.marks
      ends = sym a.marks ∙ ap (λ (y : Hand). y.put.marks) t.got

      bounds : w.bounds ≡ v.bounds
      bounds = ap (λ (y : Hand). y.bounds) t.got

-- what is taken out is what the lane carries
pub all_fit : (v : Hand) (taken : List Cargo) → All (IsCargo (terms_of v)) taken → All (IsFor v.token.name v.carries) (map (λ (x : Cargo). x.item) taken)
all_fit v [] all = All-nil _
all_fit v (x ∷ taken) all = All-cons (IsFor v.token.name v.carries) x.item (map (λ (y : Cargo). y.item) taken) (All-head (IsCargo (terms_of v)) x taken all).fits (all_fit v taken (All-tail (IsCargo (terms_of v)) x taken all))

-- and is seen so
pub all_seen : (taken : List Cargo) → map seen_in taken ≡ map shown_item (map (λ (x : Cargo). x.item) taken)
all_seen [] = refl
all_seen (x ∷ taken) = ap (λ l. seen_in x ∷ l) (all_seen taken)

-- the pass of both ends shows what these show
pub record IsBoth (p c : PlainEnd) (v : Hand) : Type 0 where
  pub put : v.put.items ≡ p.items
  pub got : v.got.items ≡ c.items
  pub marks : v.put.marks ≡ p.marks
  pub bounds : v.bounds ≡ c.marks
  pub region : v.token.name ≡ p.region
  pub carries : v.carries ≡ p.carries

-- what it took out is what was left
pub closed : (p c : PlainEnd) (v w : Hand) (before after : List Item) → IsBoth p c v → Takes v w before after → w.put.items ≡ w.got.items → AreHeeded v.put.marks v.bounds → length v.put.items ≤ length v.got.items + p.room
    → (left : List Item) × (after ≡ before ++ left) × Closes p c left
closed p c v w before after both t all heeded few =
    let left : List Item = map (λ (x : Cargo). x.item) t.taken in
    let order : v.put.items ≡ v.got.items ++ map seen_in t.taken = sym (ap (λ (y : Hand). y.put.items) t.got) ∙ all ∙ ap (λ (y : Hand). y.got.items) t.got in
    let sum : length v.put.items ≡ length v.got.items + length t.taken = ap length order ∙ length-append v.got.items (map seen_in t.taken) ∙ ap (λ n. length v.got.items + n) (length-map t.taken seen_in) in
    let same : length left ≡ length t.taken = length-map t.taken (λ (x : Cargo). x.item) in (
      left,
      t.appended,
      record {
        order = sym both.put ∙ order ∙ (λ i. both.got i ++ all_seen t.taken i);
        carried = subst (λ r. All (IsFor r p.carries) left) both.region (subst (λ k. All (IsFor v.token.name k) left) both.carries (all_fit v t.taken t.carried));
        few = omega (arith, few, sum, same);
        heeded = subst (λ l. AreHeeded l c.marks) both.marks (subst (AreHeeded v.put.marks) both.bounds heeded);
      },
    )

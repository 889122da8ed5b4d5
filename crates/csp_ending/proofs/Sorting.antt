-- Packets by their priorities.
use Rattle.std.proofs.Common.{◌≡◌, ◌≢◌, ℕ, suc, ◌+◌, Bool, true, false, cond, List, [], ◌∷◌, ◌++◌, map, All, refl, sym, ap, ◌∙◌, subst, arith, append_assoc, append-nil}
use Rattle.std.specs.List.{AllByRecursion}
use Rattle.std.proofs.lemmas.Bool.{eq-eqb, ne_eqb}
use Rattle.std.proofs.lemmas.List.{map-append, length-map}
use Rattle.std.proofs.lemmas.List.Elements.{All-append, All-head, All-rest, filter-append}
use Rattle.csp_arena.specs.Cells.{RegionName}
use Rattle.csp_base.specs.Priority.{prio_number}
use Rattle.csp_base.specs.declared.priority.Prio.{Prio}
use Rattle.csp_base.specs.declared.priority.Prio.TheVariants.{Critical, High, Normal, Low}
use Rattle.csp_deck.specs.Carried.{IsCarried, IsInboxItem, IsOfPriority, priority_of}
use Rattle.csp_deck.specs.Regions.{IsItemOf}
use Rattle.csp_ending.specs.Ends.{InboxEnds, IsLeftAt, with_inbox}
use Rattle.csp_ending.specs.Notes.{PlainNotes}
use Rattle.csp_ending.specs.Slates.{PlainSlates, AreBlank, HaveRoom, is_of, of_priority, slate_of}
use Rattle.csp_ending.specs.Stores.{PlainStore, TakesBack}
use Rattle.csp_inbox.specs.Passes.{PlainInbox, PlainPass, Closes, ClosesOne, IsFor, IsPassOf, mail_at}
use Rattle.csp_inbox.specs.declared.hand.Mail.{Mail}
use Rattle.csp_lists.specs.PlainDeck.{numbers_of}
use Rattle.csp_log.specs.Pictures.{shown_item}
use Rattle.csp_log.specs.declared.item.Item.{Item}
use Rattle.csp_log.specs.declared.places.Rule.TheVariants as rule
use Rattle.csp_log.specs.declared.shown.ItemShown.{ItemShown}
use Rattle.csp_log.specs.declared.shown.ItemShown.TheVariants as item

-- with room for more there is room for fewer
pub room_one : (n : ℕ) (s : PlainSlates) → HaveRoom (suc n) s → HaveRoom 1 s
room_one n s h = record { critical = let a = h.critical in omega (arith, a); high = let a = h.high in omega (arith, a); normal = let a = h.normal in omega (arith, a); low = let a = h.low in omega (arith, a) }

pub less_room : (n : ℕ) (s : PlainSlates) → HaveRoom (suc n) s → HaveRoom (n + 1) s
less_room n s h = record { critical = let a = h.critical in omega (arith, a); high = let a = h.high in omega (arith, a); normal = let a = h.normal in omega (arith, a); low = let a = h.low in omega (arith, a) }

-- the first item, and the others
priority_first : (p : Prio) (i : ItemShown) (is : List ItemShown) → of_priority p (i ∷ is) ≡ of_priority p (i ∷ []) ++ of_priority p is
priority_first p i is = filter-append (is_of p) (i ∷ []) is

pub sorted : (before after : List ItemShown) (p : Prio) (i : ItemShown) (is whole : List ItemShown) → after ≡ before ++ of_priority p (i ∷ []) → before ++ of_priority p (i ∷ is) ≡ whole → after ++ of_priority p is ≡ whole
sorted before after p i is whole e f =
    ap (λ xs. xs ++ of_priority p is) e ∙ append_assoc before (of_priority p (i ∷ [])) (of_priority p is) ∙ ap (λ xs. before ++ xs) (sym (priority_first p i is)) ∙ f

-- an item of a priority is of it, and of no other
is_its : (p : Prio) (i : ItemShown) → IsOfPriority p i → is_of p i ≡ true
is_its p (item.Packet mark b) h = eq-eqb (prio_number (priority_of b)) (prio_number p) (ap prio_number h.1)
is_its p (item.Frame f) h = absurd h
is_its p (item.Note n) h = absurd h

is_others : (p q : Prio) (i : ItemShown) → prio_number p ≢ prio_number q → IsOfPriority p i → is_of q i ≡ false
is_others p q (item.Packet mark b) apart h = ne_eqb (prio_number (priority_of b)) (prio_number q) (λ e. apart (sym (ap prio_number h.1) ∙ e))
is_others p q (item.Frame f) apart h = absurd h
is_others p q (item.Note n) apart h = absurd h

all_its : (r : RegionName) (p : Prio) (xs : List Item) → All (IsFor r p) xs → of_priority p (map shown_item xs) ≡ map shown_item xs
all_its r p [] h = refl
all_its r p (x ∷ xs) h =
    ap (λ (t : Bool). cond t (shown_item x ∷ of_priority p (map shown_item xs)) (of_priority p (map shown_item xs))) (is_its p (shown_item x) (All-head (IsFor r p) x xs h).carried)
    ∙ ap (λ ys. shown_item x ∷ ys) (all_its r p xs (All-rest (IsFor r p) x xs (x ∷ xs) refl h))

none_others : (r : RegionName) (p q : Prio) (xs : List Item) → prio_number p ≢ prio_number q → All (IsFor r p) xs → of_priority q (map shown_item xs) ≡ []
none_others r p q [] apart h = refl
none_others r p q (x ∷ xs) apart h =
    ap (λ (t : Bool). cond t (shown_item x ∷ of_priority q (map shown_item xs)) (of_priority q (map shown_item xs))) (is_others p q (shown_item x) apart (All-head (IsFor r p) x xs h).carried)
    ∙ none_others r p q xs apart (All-rest (IsFor r p) x xs (x ∷ xs) refl h)

in_two : (p : Prio) (xs ys : List Item) → of_priority p (map shown_item (xs ++ ys)) ≡ of_priority p (map shown_item xs) ++ of_priority p (map shown_item ys)
in_two p xs ys = ap (of_priority p) (map-append shown_item xs ys) ∙ filter-append (is_of p) (map shown_item xs) (map shown_item ys)

-- what was drawn from the four queues, one after the other
in_four : (p : Prio) (a b c d : List Item)
    → of_priority p (map shown_item (a ++ b ++ c ++ d)) ≡ of_priority p (map shown_item a) ++ of_priority p (map shown_item b) ++ of_priority p (map shown_item c) ++ of_priority p (map shown_item d)
in_four p a b c d =
    in_two p (a ++ b ++ c) d
    ∙ ap (λ xs. xs ++ of_priority p (map shown_item d)) (in_two p (a ++ b) c ∙ ap (λ xs. xs ++ of_priority p (map shown_item c)) (in_two p a b))

two_none : (xs : List ItemShown) → xs ++ [] ++ [] ≡ xs
two_none xs = append-nil (xs ++ []) ∙ append-nil xs

three_none : (xs : List ItemShown) → xs ++ [] ++ [] ++ [] ≡ xs
three_none xs = append-nil (xs ++ [] ++ []) ∙ two_none xs

in_row : (x y z w v a b c d : List ItemShown) → v ≡ a ++ b ++ c ++ d → a ≡ x → b ≡ y → c ≡ z → d ≡ w → v ≡ x ++ y ++ z ++ w
in_row x y z w v a b c d e f g h k = e ∙ rw (f, g, h, k) refl

-- each slate then has what was left of its priority
pub each_sorted : (r : RegionName) (left : Prio → List Item) → ((p : Prio) → All (IsFor r p) (left p))
    → (p : Prio) → of_priority p (map shown_item (left Critical ++ left High ++ left Normal ++ left Low)) ≡ map shown_item (left p)
each_sorted r left of_it Critical =
    in_row (map shown_item (left Critical)) [] [] [] _ _ _ _ _ (in_four Critical (left Critical) (left High) (left Normal) (left Low))
    (all_its r Critical (left Critical) (of_it Critical)) (none_others r High Critical (left High) (λ e. absurd cc) (of_it High))
    (none_others r Normal Critical (left Normal) (λ e. absurd cc) (of_it Normal)) (none_others r Low Critical (left Low) (λ e. absurd cc) (of_it Low))
    ∙ three_none (map shown_item (left Critical))
each_sorted r left of_it High =
    in_row [] (map shown_item (left High)) [] [] _ _ _ _ _ (in_four High (left Critical) (left High) (left Normal) (left Low))
    (none_others r Critical High (left Critical) (λ e. absurd cc) (of_it Critical)) (all_its r High (left High) (of_it High))
    (none_others r Normal High (left Normal) (λ e. absurd cc) (of_it Normal)) (none_others r Low High (left Low) (λ e. absurd cc) (of_it Low))
    ∙ two_none (map shown_item (left High))
each_sorted r left of_it Normal =
    in_row [] [] (map shown_item (left Normal)) [] _ _ _ _ _ (in_four Normal (left Critical) (left High) (left Normal) (left Low))
    (none_others r Critical Normal (left Critical) (λ e. absurd cc) (of_it Critical)) (none_others r High Normal (left High) (λ e. absurd cc) (of_it High))
    (all_its r Normal (left Normal) (of_it Normal)) (none_others r Low Normal (left Low) (λ e. absurd cc) (of_it Low))
    ∙ append-nil (map shown_item (left Normal))
each_sorted r left of_it Low =
    in_row [] [] [] (map shown_item (left Low)) _ _ _ _ _ (in_four Low (left Critical) (left High) (left Normal) (left Low))
    (none_others r Critical Low (left Critical) (λ e. absurd cc) (of_it Critical)) (none_others r High Low (left High) (λ e. absurd cc) (of_it High))
    (none_others r Normal Low (left Normal) (λ e. absurd cc) (of_it Normal)) (all_its r Low (left Low) (of_it Low))

-- an item of a priority is one that an inbox carries
of_inbox : (p : Prio) (i : ItemShown) → IsOfPriority p i → IsInboxItem i
of_inbox p (item.Packet mark b) h = h.0
of_inbox p (item.Frame f) h = absurd h
of_inbox p (item.Note n) h = absurd h

pub all_carried : (r : RegionName) (p : Prio) (xs : List Item) → All (IsFor r p) xs → AllByRecursion (IsCarried (rule.Priority p)) (map shown_item xs)
all_carried r p [] h = record {}
all_carried r p (x ∷ xs) h = ((All-head (IsFor r p) x xs h).carried, all_carried r p xs (All-rest (IsFor r p) x xs (x ∷ xs) refl h))

-- the notes depend on what was left of each priority alone
pub same_inbox : (m : PlainNotes) (node : ℕ) (f g : Prio → List ItemShown) (n : ℕ) → ((p : Prio) → f p ≡ g p) → with_inbox m node f n ≡ with_inbox m node g n
same_inbox m node f g n same = rw (same Critical, same High, same Normal, same Low) refl

-- what a close found, by pictures
pub left_so : (r : RegionName) (room : ℕ) (p : Prio) (v : Mail) (left : List Item) → ClosesOne r room p v left → IsLeftAt room p v (map shown_item left)
left_so r room p v left h = record {
  sorted = h.sorted;
  reached = h.reached;
  carried = all_carried r p left h.carried;
  few = let few = h.few in let long = length-map left shown_item in omega (arith, few, long);
}

numbers_four : (a b c d : List Item) → numbers_of (map shown_item (a ++ b ++ c ++ d)) ≡ numbers_of (map shown_item a ++ map shown_item b ++ map shown_item c ++ map shown_item d)
numbers_four a b c d =
    ap numbers_of (map-append shown_item (a ++ b ++ c) d ∙ ap (λ xs. xs ++ map shown_item d) (map-append shown_item (a ++ b) c ∙ ap (λ xs. xs ++ map shown_item c) (map-append shown_item a b)))

-- all that was left, where nothing was there before
pub drawn : (before after : List Item) (left : Prio → List Item) → before ≡ [] → after ≡ before ++ left Critical ++ left High ++ left Normal ++ left Low
    → after ≡ left Critical ++ left High ++ left Normal ++ left Low
drawn before after left none e = e ∙ ap (λ xs. xs ++ left Critical ++ left High ++ left Normal ++ left Low) none

pub all_drawn : (P : Item → Type 0) (after : List Item) (left : Prio → List Item) → after ≡ left Critical ++ left High ++ left Normal ++ left Low → ((p : Prio) → All P (left p)) → All P after
all_drawn P after left e h = subst (All P) (sym e)
    (All-append P (left Critical ++ left High ++ left Normal) (left Low) (All-append P (left Critical ++ left High) (left Normal) (All-append P (left Critical) (left High) (h Critical) (h High)) (h Normal)) (h Low))

pub all_packets : (r : RegionName) (p : Prio) (xs : List Item) → All (IsFor r p) xs → All (λ i. IsInboxItem (shown_item i)) xs
all_packets r p xs h = λ k d low. of_inbox p _ (h k d low).carried

pub all_of_it : (r t : RegionName) (p : Prio) (xs : List Item) → r ≡ t → All (IsFor r p) xs → All (IsItemOf t) xs
all_of_it r t p xs e h = subst (λ (t : RegionName). All (IsItemOf t) xs) e (λ k d low. (h k d low).of_it)

blank_at : (s : PlainSlates) → AreBlank s → (p : Prio) → (slate_of s p).items ≡ []
blank_at s h Critical = h.critical
blank_at s h High = h.high
blank_at s h Normal = h.normal
blank_at s h Low = h.low

-- the end of an inbox, from what its close found and what was noted of that
pub inbox_ends : (x : PlainInbox) (p : PlainPass) (node : ℕ) (m n : PlainNotes) (s t : PlainStore) (before after : List Item) (old new : PlainSlates)
    → IsPassOf x p → Closes p before after → before ≡ [] → AreBlank old → ((q : Prio) → (slate_of new q).items ≡ (slate_of old q).items ++ of_priority q (map shown_item after))
    → TakesBack s (numbers_of (map shown_item after)) t → n ≡ with_inbox m node (λ q. (slate_of new q).items) n.queues → m.queues ≡ n.queues + 4 → InboxEnds x p node m n s t
inbox_ends x p node m n s t before after old new of_it h none blank slates back noted rooms =
    let row : after ≡ h.left Critical ++ h.left High ++ h.left Normal ++ h.left Low = drawn before after h.left none h.appended in
    let each : (q : Prio) → of_priority q (map shown_item after) ≡ map shown_item (h.left q) = λ q. ap (λ xs. of_priority q (map shown_item xs)) row ∙ each_sorted p.role.token.name h.left (λ q. (h.each q).carried) q in
    let items : (q : Prio) → (slate_of new q).items ≡ map shown_item (h.left q) = λ q. slates q ∙ ap (λ xs. xs ++ of_priority q (map shown_item after)) (blank_at old blank q) ∙ each q in
    record {
      left = λ q. map shown_item (h.left q);
      whole = λ q. subst (λ (room : ℕ). IsLeftAt room q (mail_at p q) (map shown_item (h.left q))) of_it.room (left_so p.role.token.name p.role.room q (mail_at p q) (h.left q) (h.each q));
      rooms = rooms;
      noted = noted ∙ same_inbox m node (λ q. (slate_of new q).items) (λ q. map shown_item (h.left q)) n.queues items;
      back = subst (λ ns. TakesBack s ns t) (ap (λ xs. numbers_of (map shown_item xs)) row ∙ numbers_four (h.left Critical) (h.left High) (h.left Normal) (h.left Low)) back;
    }

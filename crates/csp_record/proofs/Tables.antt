-- What a table of transmissions has after each step.
use Rattle.std.proofs.Common.{◌≡◌, ℕ, zero, suc, ◌+◌, ◌<◌, ◌≤◌, Bool, true, false, cond, ◌&&◌, eqb, Option, None, Some, List, [], ◌∷◌, ◌++◌, refl, sym, ap, ◌∙◌, take, get_or, length, add-one, append-nil, arith}
use Rattle.std.proofs.lemmas.Bool.{eqb-true}
use Rattle.std.proofs.lemmas.Bool.Decides.{nat_tests}
use Rattle.std.specs.BTreeMap as tree
use Rattle.std.specs.BTreeMap.{BTreeMap}
use Rattle.std.specs.List.{slice_get, filter_map, cons_option}
use Rattle.std.specs.Prelude.{All, slice_range}
use Rattle.std.specs.Option.{is_some, option_or, option_and_then}
use Rattle.std.specs.Ordering.{nat_cmp, ordering_then, is_eq}
use Rattle.std.specs.declared.cmp.Ordering.{Ordering}
use Rattle.std.specs.declared.cmp.Ordering.TheVariants.{Less, Equal, Greater}
use Rattle.std.proofs.lemmas.Grind.{take_at_read}
use Rattle.std.proofs.lemmas.List.Concat.{flat_map-append}
use Rattle.csp_buffer.specs.Content.{Content}
use Rattle.csp_log.specs.Idling.{IsIdle}
use Rattle.csp_log.specs.declared.entry.Entry.{Entry}
use Rattle.csp_record.proofs.Passing.{chosen-over, shown-nothing}
use Rattle.csp_record.specs.Record.{PlainPartyLog}
use Rattle.csp_record.specs.Table.{key_cmp, kept_packet, Adds}
use Rattle.csp_record.specs.Transmissions.{shown_in, iface_entries}
use Rattle.csp_log.specs.Who.{is_iface}

abbrev Table : Type 0
Table = BTreeMap (ℕ × ℕ × ℕ) Content

or-none : {T : Type 0} (o : Option T) → option_or o None ≡ o
or-none None = refl
or-none (Some x) = refl

or-assoc : {T : Type 0} (a b c : Option T) → option_or (option_or a b) c ≡ option_or a (option_or b c)
or-assoc None b c = refl
or-assoc (Some x) b c = refl

-- the first of what a function gives of a list, from its head and its tail
pub first-cons : {X Y : Type 0} (f : X → Option Y) (x : X) (xs : List X) → slice_get (filter_map f (x ∷ xs)) 0 ≡ option_or (f x) (slice_get (filter_map f xs) 0)
first-cons {X} {Y} f x xs = by (f x)
  where
    by : (o : Option Y) → slice_get (cons_option o (filter_map f xs)) 0 ≡ option_or o (slice_get (filter_map f xs) 0)
    by None = refl
    by (Some y) = refl

-- and from two parts
pub first-append : {X Y : Type 0} (f : X → Option Y) (xs ys : List X) → slice_get (filter_map f (xs ++ ys)) 0 ≡ option_or (slice_get (filter_map f xs) 0) (slice_get (filter_map f ys) 0)
first-append f [] ys = refl
first-append f (x ∷ xs) ys =
    first-cons f x (xs ++ ys)
    ∙ ap (option_or (f x)) (first-append f xs ys)
    ∙ sym (or-assoc (f x) (slice_get (filter_map f xs) 0) (slice_get (filter_map f ys) 0))
    ∙ ap (λ o. option_or o (slice_get (filter_map f ys) 0)) (sym (first-cons f x xs))

-- nothing is added
pub Adds-none : (t : Table) → Adds t t (λ _ _ _. None)
Adds-none t = λ n i s. sym (or-none (kept_packet t n i s))

-- one thing after another
pub Adds-then : (a b c : Table) (f g : ℕ → ℕ → ℕ → Option Content) → Adds a b f → Adds b c g → Adds a c (λ n i s. option_or (f n i s) (g n i s))
Adds-then a b c f g p q = λ n i s. q n i s ∙ ap (λ o. option_or o (g n i s)) (p n i s) ∙ or-assoc (kept_packet a n i s) (f n i s) (g n i s)

-- the same thing, said otherwise
pub Adds-same : (a b : Table) (f g : ℕ → ℕ → ℕ → Option Content) → ((n i s : ℕ) → f n i s ≡ g n i s) → Adds a b f → Adds a b g
Adds-same a b f g same p = λ n i s. p n i s ∙ ap (option_or (kept_packet a n i s)) (same n i s)

all_equal : (a b c : Ordering) → is_eq (ordering_then (ordering_then a b) c) ≡ (is_eq a && is_eq b && is_eq c)
all_equal Less b c = refl
all_equal Equal Less c = refl
all_equal Equal Equal c = refl
all_equal Equal Greater c = refl
all_equal Greater b c = refl

equal-is : (m n : ℕ) → is_eq (nat_cmp m n) ≡ eqb n m
equal-is m n = grind (arith, nat_tests)

-- two keys are the same where their parts are
key-is : (node iface serial n i s : ℕ) → is_eq (key_cmp (node, iface, serial) (n, i, s)) ≡ (eqb n node && eqb i iface && eqb s serial)
key-is node iface serial n i s = all_equal (nat_cmp node n) (nat_cmp iface i) (nat_cmp serial s) ∙ rw (equal-is node n, equal-is iface i, equal-is serial s) refl

same_parts : (a b c d e f : ℕ) → (eqb a b && eqb c d && eqb e f) ≡ true → (a ≡ b) × (c ≡ d) × (e ≡ f)
same_parts a b c d e f h = by (eqb a b) (eqb c d) (eqb e f) refl refl refl h
  where
    by : (x y z : Bool) → eqb a b ≡ x → eqb c d ≡ y → eqb e f ≡ z → (x && y && z) ≡ true → (a ≡ b) × (c ≡ d) × (e ≡ f)
    by true true true p q r h = (eqb-true a b p, eqb-true c d q, eqb-true e f r)
    by true true false p q r h = cc
    by true false z p q r h = cc
    by false y z p q r h = cc

-- a table that has a packet of the transmission keeps it
pub Adds-kept : (t : Table) (node iface serial : ℕ) (packet : Content) → is_some (kept_packet t node iface serial) ≡ true
    → Adds t t (λ n i s. cond (eqb n node && eqb i iface && eqb s serial) (Some packet) None)
Adds-kept t node iface serial packet some = λ n i s. by n i s (eqb n node && eqb i iface && eqb s serial) refl
  where
    stays : (o : Option Content) → is_some o ≡ true → o ≡ option_or o (Some packet)
    stays None h = cc
    stays (Some p) h = refl

    by : (n i s : ℕ) (b : Bool) → (eqb n node && eqb i iface && eqb s serial) ≡ b → kept_packet t n i s ≡ option_or (kept_packet t n i s) (cond b (Some packet) None)
    by n i s true h = let (en, ei, es) = same_parts n node i iface s serial h in stays (kept_packet t n i s) (rw (en, ei, es) some)
    by n i s false h = sym (or-none (kept_packet t n i s))

pub is-none : {T : Type 0} (o : Option T) → is_some o ≡ false → o ≡ None
is-none None h = refl
is-none (Some x) h = cc

-- a table that has none has the new one
pub Adds-new : (old new : Table) (node iface serial : ℕ) (packet : Content) → kept_packet old node iface serial ≡ None
    → ((q : ℕ × ℕ × ℕ) → tree.get key_cmp new q ≡ cond (is_eq (key_cmp (node, iface, serial) q)) (Some packet) (tree.get key_cmp old q))
    → Adds old new (λ n i s. cond (eqb n node && eqb i iface && eqb s serial) (Some packet) None)
Adds-new old new node iface serial packet none updates =
    λ n i s. updates (n, i, s) ∙ ap (λ b. cond b (Some packet) (kept_packet old n i s)) (key-is node iface serial n i s) ∙ by n i s (eqb n node && eqb i iface && eqb s serial) refl
  where
    by : (n i s : ℕ) (b : Bool) → (eqb n node && eqb i iface && eqb s serial) ≡ b → cond b (Some packet) (kept_packet old n i s) ≡ option_or (kept_packet old n i s) (cond b (Some packet) None)
    by n i s true h = let (en, ei, es) = same_parts n node i iface s serial h in rw (en, ei, es) (ap (λ o. option_or o (Some packet)) (sym none))
    by n i s false h = sym (or-none (kept_packet old n i s))

-- a list with the next element
take_next : {X : Type 0} (xs : List X) (k : ℕ) (x : X) → k < length xs → x ≡ get_or xs k x → take (k + 1) xs ≡ take k xs ++ x ∷ []
take_next xs k x within is = (take_at_read xs k x within).1 ∙ ap (λ y. take k xs ++ y ∷ []) (sym is)

-- the first of what a function gives of a list with its next element
first-next : {X Y : Type 0} (f : X → Option Y) (xs : List X) (k : ℕ) → option_or (slice_get (filter_map f (take k xs)) 0) (option_and_then f (slice_get xs k)) ≡ slice_get (filter_map f (take (suc k) xs)) 0
first-next f [] zero = refl
first-next f [] (suc k) = refl
first-next f (x ∷ xs) zero = sym (or-none (f x)) ∙ sym (first-cons f x [])
first-next f (x ∷ xs) (suc k) =
    ap (λ o. option_or o (option_and_then f (slice_get xs k))) (first-cons f x (take k xs))
    ∙ or-assoc (f x) (slice_get (filter_map f (take k xs)) 0) (option_and_then f (slice_get xs k))
    ∙ ap (option_or (f x)) (first-next f xs k)
    ∙ sym (first-cons f x (take (suc k) xs))

-- what is shown is added for one entry more
pub Adds-entry : (a b c : Table) (node iface : ℕ) (entries : List Entry) (k : ℕ)
    → Adds a b (λ n i s. cond (eqb n node && eqb i iface) (slice_get (filter_map (shown_in s) (take k entries)) 0) None)
    → Adds b c (λ n i s. cond (eqb n node && eqb i iface) (option_and_then (shown_in s) (slice_get entries k)) None)
    → Adds a c (λ n i s. cond (eqb n node && eqb i iface) (slice_get (filter_map (shown_in s) (take (k + 1) entries)) 0) None)
Adds-entry a b c node iface entries k before here = Adds-same a c _ _ same (Adds-then a b c _ _ before here)
  where
    by : (h : Bool) (x y : Option Content) → option_or (cond h x None) (cond h y None) ≡ cond h (option_or x y) None
    by true x y = refl
    by false x y = refl

    same : (n i s : ℕ) → option_or (cond (eqb n node && eqb i iface) (slice_get (filter_map (shown_in s) (take k entries)) 0) None) (cond (eqb n node && eqb i iface) (option_and_then (shown_in s) (slice_get entries k)) None) ≡ cond (eqb n node && eqb i iface) (slice_get (filter_map (shown_in s) (take (k + 1) entries)) 0) None
    same n i s =
        by (eqb n node && eqb i iface) (slice_get (filter_map (shown_in s) (take k entries)) 0) (option_and_then (shown_in s) (slice_get entries k))
        ∙ ap (λ o. cond (eqb n node && eqb i iface) o None) (first-next (shown_in s) entries k)
        ∙ ap (λ m. cond (eqb n node && eqb i iface) (slice_get (filter_map (shown_in s) (take m entries)) 0) None) (sym (add-one k))

-- what the entries so far show is the same where idle ones are passed over
pub Adds-over : (a b : Table) (node iface : ℕ) (entries : List Entry) (k m : ℕ) → k ≤ m → All IsIdle (slice_range entries k m)
    → Adds a b (λ n i s. cond (eqb n node && eqb i iface) (slice_get (filter_map (shown_in s) (take k entries)) 0) None)
    → Adds a b (λ n i s. cond (eqb n node && eqb i iface) (slice_get (filter_map (shown_in s) (take m entries)) 0) None)
Adds-over a b node iface entries k m le idle before =
    Adds-same a b _ _ (λ n i s. ap (λ shown. cond (eqb n node && eqb i iface) (slice_get shown 0) None) (sym (chosen-over (shown_in s) (shown-nothing s) entries k m le idle))) before

-- before the first entry that is not idle nothing is added
pub Adds-idle : (t : Table) (node iface : ℕ) (entries : List Entry) (m : ℕ) → All IsIdle (slice_range entries 0 m)
    → Adds t t (λ n i s. cond (eqb n node && eqb i iface) (slice_get (filter_map (shown_in s) (take m entries)) 0) None)
Adds-idle t node iface entries m idle = Adds-over t t node iface entries 0 m (omega arith) idle (Adds-same t t _ _ (λ n i s. by (eqb n node && eqb i iface) None refl) (Adds-none t))
  where
    by : (b : Bool) (o : Option Content) → o ≡ None → None ≡ cond b o None
    by true o none = sym none
    by false o none = refl

-- what is shown is added for one party more
pub Adds-party : (a b c : Table) (parties : List PlainPartyLog) (k : ℕ) (p : PlainPartyLog) → k < length parties → p ≡ get_or parties k p
    → Adds a b (λ n i s. slice_get (filter_map (shown_in s) (iface_entries (take k parties) n i)) 0)
    → Adds b c (λ n i s. slice_get (filter_map (shown_in s) (cond (is_iface n i p.who) p.entries [])) 0)
    → Adds a c (λ n i s. slice_get (filter_map (shown_in s) (iface_entries (take (k + 1) parties) n i)) 0)
Adds-party a b c parties k p within is before here = Adds-same a c _ _ same (Adds-then a b c _ _ before here)
  where
    same : (n i s : ℕ) → option_or (slice_get (filter_map (shown_in s) (iface_entries (take k parties) n i)) 0) (slice_get (filter_map (shown_in s) (cond (is_iface n i p.who) p.entries [])) 0) ≡ slice_get (filter_map (shown_in s) (iface_entries (take (k + 1) parties) n i)) 0
    same n i s =
        sym (first-append (shown_in s) (iface_entries (take k parties) n i) (cond (is_iface n i p.who) p.entries []))
        ∙ ap (λ es. slice_get (filter_map (shown_in s) (iface_entries (take k parties) n i ++ es)) 0) (sym (append-nil (cond (is_iface n i p.who) p.entries [])))
        ∙ ap (λ es. slice_get (filter_map (shown_in s) es) 0) (sym (flat_map-append (λ (party : PlainPartyLog). cond (is_iface n i party.who) party.entries []) (take k parties) (p ∷ [])))
        ∙ ap (λ ps. slice_get (filter_map (shown_in s) (iface_entries ps n i)) 0) (sym (take_next parties k p within is))

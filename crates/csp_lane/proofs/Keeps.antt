-- Each step keeps the rule of a lane.
use Rattle.std.proofs.Math.Nat.{max-le}
use Rattle.std.proofs.Common.{◌≡◌, ◌≢◌, ℕ, zero, suc, ◌+◌, ◌≤◌, true, false, true≢false, List, [], ◌∷◌, ◌++◌, length, map, All, set, sym, refl, ap, ◌∙◌, subst, ⊎_elim, arith, append_assoc, length-append, max}
use Rattle.std.proofs.lemmas.List.{map-append}
use lib.ListN.{length-map}
use Rattle.std.proofs.lemmas.List.Elements.{All-nil, All-head, All-tail, All-push}
use mathlib.Core.Option.{some, some-ne-none}
use lib.ListN.{get_elem?}
use Rattle.crossbeam_queue.specs.Fifo.{Pushes, Pops, Forks, Merges, Learns}
use Rattle.crossbeam_queue.proofs.Lists.{at_set, at_snoc}
use Rattle.csp_lane.proofs.Marks.{bounds_more, marks_more, marks-append, marks-one}
use Rattle.csp_lane.specs.Marks.{AreHeeded, marks_in, reached}
use Rattle.csp_lane.specs.Relays.{Terms, newcomer, no_course, writer, reader, note, longer, with_put, with_got, bounded, told, both_hands, terms_of, seen_in, marks_of, AreNumbered, IsCargo, IsLast, IsNumber, FitsIn, Relays, Crammed, Drained, Accounts, Gets}
use Rattle.csp_lane.specs.declared.cargo.Cargo.{Cargo}
use Rattle.csp_lane.specs.declared.hand.Course.{Course}
use Rattle.csp_lane.specs.declared.hand.Hand.{Hand}

-- where each view but one fits, and that one is changed to a view that fits, each fits
abbrev AllFit : (ℕ → Hand → Type 0) → List Hand → Type 0
AllFit F views = (port : ℕ) (v : Hand) → get_elem? views port ≡ some v → F port v

all_set : (F : ℕ → Hand → Type 0) (views : List Hand) (port : ℕ) (w : Hand) → F port w → ((j : ℕ) (u : Hand) → j ≢ port → get_elem? views j ≡ some u → F j u) → AllFit F (set views port w)
all_set F views port w mine others j u e = ⊎_elim (λ (x : (j ≡ port) × (w ≡ u)). subst (λ (y : ℕ × Hand). F y.0 y.1) (λ i. (sym x.0 i, x.1 i)) mine)
    (λ (x : (j ≢ port) × (get_elem? views j ≡ some u)). others j u x.0 x.1) (at_set views port j w u e)

at_end : (l : List Hand) (a b : Hand) (j : ℕ) → get_elem? l j ≢ some b → get_elem? (l ++ a ∷ []) j ≡ some b → j ≡ length l
at_end [] a b zero n e = refl
at_end [] a b (suc j) n e = absurd (some-ne-none b (sym e))
at_end (x ∷ xs) a b zero n e = absurd (n e)
at_end (x ∷ xs) a b (suc j) n e = ap suc (at_end xs a b j n e)

no_one : (a b : Hand) (j : ℕ) → j ≢ 0 → get_elem? (a ∷ []) j ≢ some b
no_one a b zero n e = n refl
no_one a b (suc j) n e = some-ne-none b (sym e)

-- how many items were put
sum_of : (put got : Course) (items : List Cargo) → put.items ≡ got.items ++ map seen_in items → length put.items ≡ length got.items + length items
sum_of put got items whole = ap length whole ∙ length-append got.items (map seen_in items) ∙ ap (λ n. length got.items + n) (length-map items seen_in)

-- numbers go on
numbered_more : (tally n : ℕ) (items : List Cargo) (x : Cargo) → AreNumbered tally n items → IsNumber tally (n + length items) x → AreNumbered tally n (items ++ x ∷ [])
numbered_more tally n [] x h is = (subst (λ k. IsNumber tally k x) (omega arith) is, tt)
numbered_more tally n (y ∷ items) x h is = (h.0, numbered_more tally (n + 1) items x h.1 (subst (λ k. IsNumber tally k x) (omega arith) is))

-- a view that may do nothing and knows nothing
idle_fits : (t : Terms) (a b : ℕ) (put got : Course) (port p g : ℕ) → p ≤ length put.items → g ≤ length got.items → FitsIn t a b put got port (note p g)
idle_fits t a b put got port p g kp kg = record {
  writes = λ (h : false ≡ true). absurd (true≢false (sym h));
  reads = λ (h : false ≡ true). absurd (true≢false (sym h));
  heeded = tt;
  puts_known = kp;
  gets_known = kg;
}

pub begins : Relays [] (newcomer ∷ [])
begins = record {
  terms = terms_of newcomer;
  writer = 0;
  reader = 0;
  put = no_course;
  got = no_course;
  whole = refl;
  marked = refl;
  carried = All-nil _;
  numbered = tt;
  fits = all_set (FitsIn (terms_of newcomer) 0 0 no_course no_course) (newcomer ∷ []) 0 newcomer
      (record { writes = λ _. (refl, refl, refl); reads = λ _. (refl, refl, refl); heeded = tt; puts_known = omega arith; gets_known = omega arith })
      (λ j u other e. absurd (no_one newcomer u j other e));
}

pub puts : (n port : ℕ) (v : Hand) (x : Cargo) → v.writes ≡ true → IsCargo (terms_of v) x → IsNumber v.tally (length v.put.items) x → Pushes Relays n port v x (λ w. w ≡ with_put v (seen_in x) (reached x.note))
puts n port v x may is_cargo is_number items views _ h at =
    let w : Hand = with_put v (seen_in x) (reached x.note) in
    let mine = h.fits port v at in
    let end = mine.writes may in
    let about : v.about ≡ h.terms.about = ap (λ (t : Terms). t.about) end.2 in
    let grown : Course = longer h.terms.about h.put (seen_in x) (reached x.note) in
    let long : length grown.items ≡ length h.put.items + 1 = omega (arith, length-append h.put.items (seen_in x ∷ [])) in
    let sum = sum_of h.put h.got items h.whole in
    let number : IsNumber h.terms.tally (length h.got.items + length items) x = subst (λ (y : ℕ × ℕ). IsNumber y.0 y.1 x) (λ i. ((end.2 i).tally, (ap (λ (c : Course). length c.items) end.1 ∙ sum) i)) is_number in (
      w,
      record {
        terms = h.terms;
        writer = h.writer;
        reader = h.reader;
        put = grown;
        got = h.got;
        whole = ap (λ l. l ++ seen_in x ∷ []) h.whole ∙ append_assoc h.got.items (map seen_in items) (seen_in x ∷ []) ∙ ap (λ l. h.got.items ++ l) (sym (map-append seen_in items (x ∷ [])));
        marked = ap (λ l. l ++ marks_in h.terms.about (reached x.note)) h.marked ∙ append_assoc h.got.marks (marks_of h.terms.about items) (marks_in h.terms.about (reached x.note))
            ∙ ap (λ l. h.got.marks ++ l) (ap (λ l. marks_of h.terms.about items ++ l) (sym (marks-one h.terms.about x)) ∙ sym (marks-append h.terms.about items (x ∷ [])));
        carried = All-push (IsCargo h.terms) items x h.carried (subst (λ t. IsCargo t x) end.2 is_cargo);
        numbered = numbered_more h.terms.tally (length h.got.items) items x h.numbered number;
        fits = all_set (FitsIn h.terms h.writer h.reader grown h.got) views port w
            (record {
              writes = λ _. (end.0, (λ i. longer (about i) (end.1 i) (seen_in x) (reached x.note)), end.2);
              reads = mine.reads;
              heeded = mine.heeded;
              puts_known = let k = mine.puts_known in omega arith;
              gets_known = mine.gets_known;
            })
            (λ j u other e. let theirs = h.fits j u e in
            record { writes = λ p. absurd (other ((theirs.writes p).0 ∙ sym end.0)); reads = theirs.reads; heeded = theirs.heeded; puts_known = let k = theirs.puts_known in omega arith; gets_known = theirs.gets_known });
      },
      refl,
    )

pub crammed : (port : ℕ) (v : Hand) → v.writes ≡ true → Learns Relays port v (Crammed v)
crammed port v may items views h at =
    let mine = h.fits port v at in
    let k = mine.gets_known in
    let same : length v.put.items ≡ length h.put.items = ap (λ (c : Course). length c.items) (mine.writes may).1 in
    let sum = sum_of h.put h.got items h.whole in
    omega arith

pub gets : (port : ℕ) (v : Hand) → v.reads ≡ true → Pops Relays port v (Gets v)
gets port v may x items views h at =
    let w : Hand = with_got v (seen_in x) (reached x.note) in
    let mine = h.fits port v at in
    let end = mine.reads may in
    let about : v.about ≡ h.terms.about = ap (λ (t : Terms). t.about) end.2 in
    let grown : Course = longer h.terms.about h.got (seen_in x) (reached x.note) in
    let long : length grown.items ≡ length h.got.items + 1 = omega (arith, length-append h.got.items (seen_in x ∷ [])) in (
      w,
      record {
        terms = h.terms;
        writer = h.writer;
        reader = h.reader;
        put = h.put;
        got = grown;
        whole = h.whole ∙ sym (append_assoc h.got.items (seen_in x ∷ []) (map seen_in items));
        marked = h.marked ∙ sym (append_assoc h.got.marks (marks_in h.terms.about (reached x.note)) (marks_of h.terms.about items));
        carried = All-tail (IsCargo h.terms) x items h.carried;
        numbered = subst (λ k. AreNumbered h.terms.tally k items) (sym long) h.numbered.1;
        fits = all_set (FitsIn h.terms h.writer h.reader h.put grown) views port w
            (record {
              writes = mine.writes;
              reads = λ _. (end.0, (λ i. longer (about i) (end.1 i) (seen_in x) (reached x.note)), end.2);
              heeded = marks_more v.got.marks (marks_in v.about (reached x.note)) v.bounds mine.heeded;
              puts_known = mine.puts_known;
              gets_known = let k = mine.gets_known in omega arith;
            })
            (λ j u other e. let theirs = h.fits j u e in
            record { writes = theirs.writes; reads = λ p. absurd (other ((theirs.reads p).0 ∙ sym end.0)); heeded = theirs.heeded; puts_known = theirs.puts_known; gets_known = let k = theirs.gets_known in omega arith });
      },
      record {
        got = refl;
        carried = subst (λ t. IsCargo t x) (sym end.2) (All-head (IsCargo h.terms) x items h.carried);
        number = subst (λ (y : ℕ × ℕ). IsNumber y.0 y.1 x) (λ i. ((sym end.2 i).tally, length (sym end.1 i).items)) h.numbered.0;
      },
    )

pub drained : (port : ℕ) (v : Hand) → v.reads ≡ true → Learns Relays port v (Drained v)
drained port v may items views h at =
    let mine = h.fits port v at in
    let k = mine.puts_known in
    let same : length v.got.items ≡ length h.got.items = ap (λ (c : Course). length c.items) (mine.reads may).1 in
    let sum = sum_of h.put h.got items h.whole in
    omega arith

pub accounts : (port : ℕ) (v : Hand) → v.writes ≡ true → v.reads ≡ true → Learns Relays port v (Accounts v)
accounts port v may_put may_get items views h at =
    let mine = h.fits port v at in
    let put = mine.writes may_put in
    let got = mine.reads may_get in
    record {
      items = ap (λ (c : Course). c.items) put.1 ∙ h.whole ∙ ap (λ (c : Course). c.items ++ map seen_in items) (sym got.1);
      marks = ap (λ (c : Course). c.marks) put.1 ∙ h.marked ∙ (λ i. (sym got.1 i).marks ++ marks_of (sym got.2 i).about items);
      heeded = mine.heeded;
    }

-- the rule with the same lists, where each view fits
same_lists : (items : List Cargo) (views after : List Hand) (h : Relays items views) → AllFit (FitsIn h.terms h.writer h.reader h.put h.got) after → Relays items after
same_lists items views after h fits = record { terms = h.terms; writer = h.writer; reader = h.reader; put = h.put; got = h.got; whole = h.whole; marked = h.marked; carried = h.carried; numbered = h.numbered; fits = fits }

-- a pass changes to a view that fits, and gives off a note
forked : (items : List Cargo) (views : List Hand) (h : Relays items views) (port : ℕ) (a : Hand) (p g : ℕ) → FitsIn h.terms h.writer h.reader h.put h.got port a → p ≤ length h.put.items → g ≤ length h.got.items
    → Relays items (set views port a ++ note p g ∷ [])
forked items views h port a p g fits few_puts few_gets =
    let vs : List Hand = set views port a in
    let F : ℕ → Hand → Type 0 = FitsIn h.terms h.writer h.reader h.put h.got in
    let right : Hand = note p g in
    same_lists items views (vs ++ right ∷ []) h
    (λ j u e. ⊎_elim (λ x. all_set F views port a fits (λ i y other at'. h.fits i y at') j u x)
    (λ (is : right ≡ u). subst (F j) is (idle_fits h.terms h.writer h.reader h.put h.got j p g few_puts few_gets)) (at_snoc vs right u j e))

pub notes_puts : (port : ℕ) (v : Hand) → v.writes ≡ true → Forks Relays port v v (note (length v.put.items) 0)
notes_puts port v may items views h at =
    let mine = h.fits port v at in
    let same : length v.put.items ≡ length h.put.items = ap (λ (c : Course). length c.items) (mine.writes may).1 in
    forked items views h port v (length v.put.items) 0 mine (omega arith) (omega arith)

pub notes_gets : (port : ℕ) (v : Hand) → v.reads ≡ true → Forks Relays port v v (note 0 (length v.got.items))
notes_gets port v may items views h at =
    let mine = h.fits port v at in
    let same : length v.got.items ≡ length h.got.items = ap (λ (c : Course). length c.items) (mine.reads may).1 in
    forked items views h port v 0 (length v.got.items) mine (omega arith) (omega arith)

-- the last mark gets its bound
pub heeds : (port : ℕ) (v : Hand) (n : ℕ) → IsLast n v → Forks Relays port v (bounded v n) (note 0 0)
heeds port v n last items views h at =
    let mine = h.fits port v at in
    forked items views h port (bounded v n) 0 0
    (record {
      writes = mine.writes;
      reads = mine.reads;
      heeded = subst (λ l. AreHeeded l (v.bounds ++ n ∷ [])) (sym last.marks) (bounds_more last.done v.bounds last.mark n last.level (subst (λ l. AreHeeded l v.bounds) last.marks mine.heeded) last.low);
      puts_known = mine.puts_known;
      gets_known = mine.gets_known;
    }) (omega arith) (omega arith)

-- what the second of two passes was, once the first has changed
was_there : (views : List Hand) (port other : ℕ) (a w : Hand) → other ≢ port → get_elem? (set views port a) other ≡ some w → get_elem? views other ≡ some w
was_there views port other a w two e = ⊎_elim (λ (x : (other ≡ port) × (a ≡ w)). absurd (two x.0)) (λ (x : (other ≢ port) × (get_elem? views other ≡ some w)). x.1) (at_set views port other a w e)

-- a pass changes to a view that fits, and another is spent
joined : (items : List Cargo) (views : List Hand) (h : Relays items views) (port other : ℕ) (a : Hand) → FitsIn h.terms h.writer h.reader h.put h.got port a → Relays items (set (set views port a) other (note 0 0))
joined items views h port other a fits =
    let F : ℕ → Hand → Type 0 = FitsIn h.terms h.writer h.reader h.put h.got in
    same_lists items views (set (set views port a) other (note 0 0)) h
    (all_set F (set views port a) other (note 0 0) (idle_fits h.terms h.writer h.reader h.put h.got other 0 0 (omega arith) (omega arith))
    (λ j u _ e. all_set F views port a fits (λ i y _ at. h.fits i y at) j u e))

pub reads_puts : (port : ℕ) (v : Hand) (other : ℕ) (w : Hand) → Merges Relays port v other w (told v (max v.known_puts w.known_puts) v.known_gets) (note 0 0)
reads_puts port v other w items views h at two at' =
    let a : Hand = told v (max v.known_puts w.known_puts) v.known_gets in
    let mine = h.fits port v at in
    let theirs = h.fits other w (was_there views port other a w two at') in
    joined items views h port other a (record { writes = mine.writes; reads = mine.reads; heeded = mine.heeded; puts_known = max-le mine.puts_known theirs.puts_known; gets_known = mine.gets_known })

pub reads_gets : (port : ℕ) (v : Hand) (other : ℕ) (w : Hand) → Merges Relays port v other w (told v v.known_puts (max v.known_gets w.known_gets)) (note 0 0)
reads_gets port v other w items views h at two at' =
    let a : Hand = told v v.known_puts (max v.known_gets w.known_gets) in
    let mine = h.fits port v at in
    let theirs = h.fits other w (was_there views port other a w two at') in
    joined items views h port other a (record { writes = mine.writes; reads = mine.reads; heeded = mine.heeded; puts_known = mine.puts_known; gets_known = max-le mine.gets_known theirs.gets_known })

no_items : (items : List Cargo) (put got : Course) → put.items ≡ got.items ++ map seen_in items → no_course ≡ put → no_course ≡ got → items ≡ []
no_items [] put got whole a b = refl
no_items (x ∷ xs) put got whole a b = absurd (omega (arith, sum_of put got (x ∷ xs) whole, ap (λ (c : Course). length c.items) a, ap (λ (c : Course). length c.items) b))

pub parts : (port : ℕ) (t : Terms) → Forks Relays port newcomer (writer t no_course 0) (reader t no_course [] 0)
parts port t items views h at =
    let mine = h.fits port newcomer at in
    let end = mine.writes refl in
    let far = mine.reads refl in
    let left : Hand = writer t no_course 0 in
    let right : Hand = reader t no_course [] 0 in
    let vs : List Hand = set views port left in
    let none : items ≡ [] = no_items items h.put h.got h.whole end.1 far.1 in
    let nothing_put : length h.put.items ≡ 0 = ap (λ (c : Course). length c.items) (sym end.1) in
    let nothing_got : h.got.marks ≡ [] = ap (λ (c : Course). c.marks) (sym far.1) in
    let Old : ℕ → Hand → Type 0 = λ j u. (u.writes ≡ true → (j ≡ port) × (u.put ≡ no_course) × (terms_of u ≡ t)) × (u.reads ≢ true) × (u.known_puts ≤ 0) × (u.known_gets ≤ 0) × AreHeeded u.got.marks u.bounds in
    let old : AllFit Old vs = all_set Old views port left
    ((λ _. (refl, refl, refl)), (λ (p : false ≡ true). true≢false (sym p)), omega arith, omega arith, tt)
    (λ j u other e. let theirs = h.fits j u e in (
      (λ p. absurd (other ((theirs.writes p).0 ∙ sym end.0))),
      (λ p. other ((theirs.reads p).0 ∙ sym far.0)),
      (let k = theirs.puts_known in omega (arith, k, nothing_put)),
      (let k = theirs.gets_known in let z : length h.got.items ≡ 0 = ap (λ (c : Course). length c.items) (sym far.1) in omega (arith, k, z)),
      theirs.heeded,
    )) in
    record {
      terms = t;
      writer = port;
      reader = length vs;
      put = no_course;
      got = no_course;
      whole = ap (map seen_in) (sym none);
      marked = ap (marks_of t.about) (sym none);
      carried = subst (All (IsCargo t)) (sym none) (All-nil _);
      numbered = subst (AreNumbered t.tally 0) (sym none) tt;
      fits = λ j u e. ⊎_elim
          (λ x. let o = old j u x in record { writes = o.0; reads = λ p. absurd (o.1 p); heeded = o.4; puts_known = o.2; gets_known = o.3 })
          (λ (is : right ≡ u). record {
            writes = λ p. absurd (true≢false (sym (ap (λ (y : Hand). y.writes) is ∙ p)));
            reads = λ p. (at_end vs right u j (λ x. (old j u x).1 p) e, ap (λ (y : Hand). y.got) (sym is), ap terms_of (sym is));
            heeded = subst (λ (y : Hand). AreHeeded y.got.marks y.bounds) is tt;
            puts_known = let k : u.known_puts ≡ 0 = ap (λ (y : Hand). y.known_puts) (sym is) in omega arith;
            gets_known = let k : u.known_gets ≡ 0 = ap (λ (y : Hand). y.known_gets) (sym is) in omega arith;
          })
          (at_snoc vs right u j e);
    }

pub rejoins : (port : ℕ) (v : Hand) (other : ℕ) (w : Hand) → v.writes ≡ true → w.reads ≡ true → Merges Relays port v other w (both_hands v w) (note 0 0)
rejoins port v other w may_put may_get items views h at two at' =
    let a : Hand = both_hands v w in
    let mine = (h.fits port v at).writes may_put in
    let far = h.fits other w (was_there views port other a w two at') in
    let theirs = far.reads may_get in
    let F : ℕ → Hand → Type 0 = FitsIn h.terms h.writer port h.put h.got in
    let Now : ℕ → Hand → Type 0 = λ j u. j ≢ other → F j u in
    let fits : AllFit Now (set views port a) = all_set Now views port a
    (λ _. record { writes = λ _. mine; reads = λ _. (refl, theirs.1, mine.2); heeded = far.heeded; puts_known = omega arith; gets_known = omega arith })
    (λ j u _ e apart. let old = h.fits j u e in
    record { writes = old.writes; reads = λ p. absurd (apart ((old.reads p).0 ∙ sym theirs.0)); heeded = old.heeded; puts_known = old.puts_known; gets_known = old.gets_known }) in
    record {
      terms = h.terms;
      writer = h.writer;
      reader = port;
      put = h.put;
      got = h.got;
      whole = h.whole;
      marked = h.marked;
      carried = h.carried;
      numbered = h.numbered;
      fits = all_set F (set views port a) other (note 0 0) (idle_fits h.terms h.writer port h.put h.got other 0 0 (omega arith) (omega arith)) (λ j u apart e. fits j u e apart);
    }

pub opens : (port : ℕ) (v : Hand) (t : Terms) → v ≡ newcomer → Forks Relays port v (writer t no_course 0) (reader t no_course [] 0)
opens port v t is = subst (λ (y : Hand). Forks Relays port y (writer t no_course 0) (reader t no_course [] 0)) (sym is) (parts port t)

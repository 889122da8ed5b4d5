-- Each step keeps the rule of an inbox's queue.
use Rattle.std.proofs.Common.{◌≡◌, ◌≢◌, ℕ, zero, suc, ◌+◌, ◌<◌, ◌≤◌, ◌⊎◌, ◌==◌, Bool, true, false, true≢false, cond, max, List, [], ◌∷◌, ◌++◌, length, map, All, set, sym, refl, ap, ◌∙◌, subst, ⊎_elim, inl, inr, arith, append_assoc, length-append}
use Rattle.std.proofs.lemmas.Bool.{eq-eqb, ne_eqb, cases_eq, cases_Bool}
use Rattle.std.proofs.lemmas.List.{map-append, append-nil, length-set}
use Rattle.std.proofs.lemmas.List.Elements.{All-nil, All-head, All-tail, All-push}
use mathlib.Core.Option.{some, some-injective, some-ne-none}
use lib.ListN.{get_elem?, length-map}
use Rattle.crossbeam_queue.specs.Fifo.{Pushes, Pops, Forks, Merges, Learns}
use Rattle.crossbeam_queue.proofs.Lists.{at_set}
use Rattle.csp_arena.specs.Cells.{RegionName}
use Rattle.csp_base.specs.declared.priority.Prio.{Prio}
use Rattle.csp_inbox.specs.Marks.{mark_of, with_mark, is_in, without}
use Rattle.csp_inbox.specs.Passes.{IsFor, known_of, known_puts, with_kept, with_got, found_full}
use Rattle.csp_inbox.specs.Sorts.{hand, Terms, opening_hand, newcomer, note, spent, put_note, get_note, parted_hand, split_hand, reads_puts, reads_gets, both_hands, FitsIn, Sorts, Overflows, Misses, Gets, Accounts, HasNothingOf}
use Rattle.csp_inbox.specs.declared.hand.Hand.{Hand}
use Rattle.csp_inbox.specs.declared.hand.ToldPuts.{ToldPuts}
use Rattle.csp_inbox.proofs.Marks.{marked-append, marked-else, no_marks, same_length, in-here, in-else, not_in-without, in-without, known-append}
use Rattle.csp_log.specs.Pictures.{shown_item}
use Rattle.csp_log.specs.declared.item.Item.{Item}
use Rattle.csp_log.specs.declared.shown.ItemShown.{ItemShown}
use Rattle.csp_ring.specs.Finds.{Finds}

-- each view fits
abbrev AllFit : (ℕ → Hand → Type 0) → List Hand → Type 0
AllFit F views = (port : ℕ) (v : Hand) → get_elem? views port ≡ some v → F port v

all_set : (F : ℕ → Hand → Type 0) (views : List Hand) (port : ℕ) (w : Hand) → F port w → ((j : ℕ) (u : Hand) → j ≢ port → get_elem? views j ≡ some u → F j u) → AllFit F (set views port w)
all_set F views port w mine others j u e = ⊎_elim (λ (x : (j ≡ port) × (w ≡ u)). subst (λ (y : ℕ × Hand). F y.0 y.1) (λ i. (sym x.0 i, x.1 i)) mine)
    (λ (x : (j ≢ port) × (get_elem? views j ≡ some u)). others j u x.0 x.1) (at_set views port j w u e)

-- one more view at the end
at_more : (l : List Hand) (a b : Hand) (j : ℕ) → get_elem? (l ++ a ∷ []) j ≡ some b → (get_elem? l j ≡ some b) ⊎ ((j ≡ length l) × (a ≡ b))
at_more [] a b zero e = inr (refl, some-injective a b e)
at_more [] a b (suc j) e = absurd (some-ne-none b (sym e))
at_more (x ∷ xs) a b zero e = inl e
at_more (x ∷ xs) a b (suc j) e = ⊎_elim (λ (y : get_elem? xs j ≡ some b). inl y) (λ (t : (j ≡ length xs) × (a ≡ b)). inr (ap suc t.0, t.1)) (at_more xs a b j e)

all_more : (F : ℕ → Hand → Type 0) (views : List Hand) (w : Hand) → AllFit F views → F (length views) w → AllFit F (views ++ w ∷ [])
all_more F views w fits last j u e = ⊎_elim (λ (x : get_elem? views j ≡ some u). fits j u x)
    (λ (t : (j ≡ length views) × (w ≡ u)). subst (λ (y : ℕ × Hand). F y.0 y.1) (λ i. (sym t.0 i, t.1 i)) last) (at_more views w u j e)

at_below : (l : List Hand) (b : Hand) (j : ℕ) → get_elem? l j ≡ some b → j < length l
at_below [] b j e = absurd (some-ne-none b (sym e))
at_below (x ∷ xs) b zero e = omega arith
at_below (x ∷ xs) b (suc j) e = omega (arith, at_below xs b j e)

-- what the second of two passes was, once the first has changed
was_there : (views : List Hand) (port other : ℕ) (a w : Hand) → other ≢ port → get_elem? (set views port a) other ≡ some w → get_elem? views other ≡ some w
was_there views port other a w two e = ⊎_elim (λ (x : (other ≡ port) × (a ≡ w)). absurd (two x.0)) (λ (x : (other ≢ port) × (get_elem? views other ≡ some w)). x.1) (at_set views port other a w e)

-- the owners once a mark went to another
moved : (ℕ → ℕ) → ℕ → ℕ → ℕ → ℕ
moved owner mark n m = cond (m == mark) n (owner m)

moved_here : (owner : ℕ → ℕ) (mark n m : ℕ) → m ≡ mark → moved owner mark n m ≡ n
unfolding moved
moved_here owner mark n m e = ap (λ (t : Bool). cond t n (owner m)) (eq-eqb m mark e)

moved_else : (owner : ℕ → ℕ) (mark n m : ℕ) → m ≢ mark → moved owner mark n m ≡ owner m
unfolding moved
moved_else owner mark n m e = ap (λ (t : Bool). cond t n (owner m)) (ne_eqb m mark e)

moved_below : (owner : ℕ → ℕ) (mark n k : ℕ) → n < k → ((m : ℕ) → owner m < k) → (m : ℕ) → moved owner mark n m < k
moved_below owner mark n k below owned m = ⊎_elim (λ here. omega (arith, moved_here owner mark n m here)) (λ apart. omega (arith, moved_else owner mark n m apart, owned m)) (cases_eq m mark)

-- a view that may do nothing
idle_fits : (region : RegionName) (prio : Prio) (owner : ℕ → ℕ) (reader : ℕ) (all got : List ItemShown) (port : ℕ) (known : List ToldPuts) (gets : ℕ)
    → ((m : ℕ) → owner m ≡ port → [] ≡ with_mark m all) → ((m : ℕ) → known_of known m ≤ length (with_mark m all)) → gets ≤ length got → FitsIn region prio owner reader all got port (note known gets)
idle_fits region prio owner reader all got port known gets owns knows few = record {
  owns = owns;
  writes = λ (h : false ≡ true). absurd (true≢false (sym h));
  idle = λ _. refl;
  pure = λ _ m _. refl;
  reads = λ (h : false ≡ true). absurd (true≢false (sym h));
  home = λ (h : false ≡ true). absurd (true≢false (sym h));
  away = λ (h : false ≡ true). absurd (true≢false (sym h));
  puts_known = λ m. let k = knows m in omega arith;
  gets_known = omega arith;
  reached = omega arith;
}

-- a pass without marks that are out, where nothing was put yet
first_fits : (t : Terms) (port : ℕ) → FitsIn t.region t.prio (λ _. port) port [] [] port (opening_hand t)
first_fits t port = record {
  owns = λ m _. refl;
  writes = λ _. (refl, refl, refl);
  idle = λ (h : true ≡ false). absurd (true≢false h);
  pure = λ (h : true ≡ false). absurd (true≢false h);
  reads = λ _. (refl, refl, refl);
  home = λ _ m _. refl;
  away = λ _ m (h : false ≡ true). absurd (true≢false (sym h));
  puts_known = λ m. omega arith;
  gets_known = omega arith;
  reached = omega arith;
}

no_one : (a b : Hand) (j : ℕ) → j ≢ 0 → get_elem? (a ∷ []) j ≢ some b
no_one a b zero n e = n refl
no_one a b (suc j) n e = some-ne-none b (sym e)

pub begins : Sorts [] (newcomer ∷ [])
begins = record {
  region = newcomer.role.token.name;
  prio = newcomer.prio;
  owner = λ _. 0;
  reader = 0;
  all = [];
  got = [];
  whole = refl;
  carried = All-nil _;
  owned = λ m. omega arith;
  fits = all_set (FitsIn newcomer.role.token.name newcomer.prio (λ _. 0) 0 [] []) (newcomer ∷ []) 0 newcomer (first_fits (record { region = newcomer.role.token.name; room = 0; prio = newcomer.prio }) 0)
      (λ j u other e. absurd (no_one newcomer u j other e));
}

-- the rule with the same owners and lists, where each view fits
same_lists : (items : List Item) (views after : List Hand) (h : Sorts items views) → length views ≤ length after → AllFit (FitsIn h.region h.prio h.owner h.reader h.all h.got) after → Sorts items after
same_lists items views after h long fits = record {
  region = h.region;
  prio = h.prio;
  owner = h.owner;
  reader = h.reader;
  all = h.all;
  got = h.got;
  whole = h.whole;
  carried = h.carried;
  owned = λ m. omega (arith, h.owned m, long);
  fits = fits;
}

-- one view changes to one that fits
one_changed : (items : List Item) (views : List Hand) (h : Sorts items views) (port : ℕ) (w : Hand) → FitsIn h.region h.prio h.owner h.reader h.all h.got port w → Sorts items (set views port w)
one_changed items views h port w fits = same_lists items views (set views port w) h (omega (arith, length-set views port w))
    (all_set (FitsIn h.region h.prio h.owner h.reader h.all h.got) views port w fits (λ j u _ e. h.fits j u e))

-- how many there are of a mark with one more
grown_by : (m : ℕ) (xs : List ItemShown) (x : ItemShown) → length (with_mark m (xs ++ x ∷ [])) ≡ length (with_mark m xs) + length (with_mark m (x ∷ []))
grown_by m xs x = ap length (marked-append m xs (x ∷ [])) ∙ length-append (with_mark m xs) (with_mark m (x ∷ []))

-- of another mark there are the same
same_else : (m : ℕ) (xs : List ItemShown) (x : ItemShown) → mark_of x ≢ m → with_mark m (xs ++ x ∷ []) ≡ with_mark m xs
same_else m xs x ne = marked-append m xs (x ∷ []) ∙ ap (λ l. with_mark m xs ++ l) (marked-else m x [] ne) ∙ append-nil (with_mark m xs)

pub puts : (n port : ℕ) (v : Hand) (x : Item) → v.role.writes ≡ true → mark_of (shown_item x) ≡ v.role.mark → IsFor v.role.token.name v.prio x
    → Pushes Sorts n port v x (λ w. w ≡ hand v.role v.prio (with_kept v.mail (shown_item x)))
puts n port v x may own is_for items views _ h at =
    let one : ItemShown = shown_item x in
    let w : Hand = hand v.role v.prio (with_kept v.mail one) in
    let mine = h.fits port v at in
    let role = mine.writes may in
    let grown : List ItemShown = h.all ++ one ∷ [] in
    let long : length grown ≡ length h.all + 1 = length-append h.all (one ∷ []) in (
      w,
      record {
        region = h.region;
        prio = h.prio;
        owner = h.owner;
        reader = h.reader;
        all = grown;
        got = h.got;
        whole = ap (λ l. l ++ one ∷ []) h.whole ∙ append_assoc h.got (map shown_item items) (one ∷ []) ∙ ap (λ l. h.got ++ l) (sym (map-append shown_item items (x ∷ [])));
        carried = All-push (IsFor h.region h.prio) items x h.carried (subst (λ (y : RegionName × Prio). IsFor y.0 y.1 x) (λ i. (role.1 i, role.2 i)) is_for);
        owned = λ m. omega (arith, h.owned m, length-set views port w);
        fits = all_set (FitsIn h.region h.prio h.owner h.reader grown h.got) views port w
            (record {
              owns = λ m e. marked-append m v.mail.kept (one ∷ []) ∙ ap (λ l. l ++ with_mark m (one ∷ [])) (mine.owns m e) ∙ sym (marked-append m h.all (one ∷ []));
              writes = mine.writes;
              idle = λ e. absurd (true≢false (sym may ∙ e));
              pure = λ r m ne. same_else m v.mail.kept one (λ e. ne (sym e ∙ own)) ∙ mine.pure r m ne;
              reads = mine.reads;
              home = mine.home;
              away = λ r m o. let old = mine.away r m o in (old.0, same_else m v.mail.kept one (λ e. old.0 (sym e ∙ own)) ∙ old.1);
              puts_known = λ m. let k = mine.puts_known m in omega (arith, grown_by m v.mail.kept one, grown_by m h.all one);
              gets_known = mine.gets_known;
              reached = let k = mine.reached in omega arith;
            })
            (λ j u other e. let theirs = h.fits j u e in
            record {
              owns = λ m p. theirs.owns m p ∙ sym (same_else m h.all one (λ q. other (sym p ∙ ap h.owner (sym q ∙ own) ∙ role.0)));
              writes = theirs.writes;
              idle = theirs.idle;
              pure = theirs.pure;
              reads = theirs.reads;
              home = theirs.home;
              away = theirs.away;
              puts_known = λ m. let k = theirs.puts_known m in omega (arith, grown_by m h.all one);
              gets_known = theirs.gets_known;
              reached = let k = theirs.reached in omega arith;
            });
      },
      refl,
    )

-- what was put, in numbers
counted : (items : List Item) (all got : List ItemShown) → all ≡ got ++ map shown_item items → length all ≡ length got + length items
counted items all got whole = ap length whole ∙ length-append got (map shown_item items) ∙ ap (λ n. length got + n) (length-map items shown_item)

pub overflows : (n port : ℕ) (v : Hand) → Finds Sorts n port v (Overflows v)
overflows n port v items views is_full h at =
    let w : Hand = hand v.role v.prio (found_full (length items) v.mail) in
    let mine = h.fits port v at in (
      w,
      one_changed items views h port w
          (record {
            owns = mine.owns;
            writes = mine.writes;
            idle = mine.idle;
            pure = mine.pure;
            reads = mine.reads;
            home = mine.home;
            away = mine.away;
            puts_known = mine.puts_known;
            gets_known = mine.gets_known;
            reached = let k = mine.reached in let g = mine.gets_known in let sum = counted items h.all h.got h.whole in omega arith;
          }),
      refl,
    )

pub gets : (port : ℕ) (v : Hand) → v.role.reads ≡ true → Pops Sorts port v (Gets v)
gets port v may x items views h at =
    let one : ItemShown = shown_item x in
    let w : Hand = hand v.role v.prio (with_got v.mail one) in
    let mine = h.fits port v at in
    let end = mine.reads may in
    let role = mine.writes end.2 in
    let grown : List ItemShown = h.got ++ one ∷ [] in
    let long : length grown ≡ length h.got + 1 = length-append h.got (one ∷ []) in
    let own : v.mail.got ++ one ∷ [] ≡ grown = ap (λ l. l ++ one ∷ []) end.1 in (
      w,
      record {
        region = h.region;
        prio = h.prio;
        owner = h.owner;
        reader = h.reader;
        all = h.all;
        got = grown;
        whole = h.whole ∙ sym (append_assoc h.got (one ∷ []) (map shown_item items));
        carried = All-tail (IsFor h.region h.prio) x items h.carried;
        owned = λ m. omega (arith, h.owned m, length-set views port w);
        fits = all_set (FitsIn h.region h.prio h.owner h.reader h.all grown) views port w
            (record {
              owns = mine.owns;
              writes = mine.writes;
              idle = mine.idle;
              pure = mine.pure;
              reads = λ r. (end.0, own, end.2);
              home = mine.home;
              away = mine.away;
              puts_known = mine.puts_known;
              gets_known = let k = mine.gets_known in omega (arith, ap length own);
              reached = mine.reached;
            })
            (λ j u other e. let theirs = h.fits j u e in
            record {
              owns = theirs.owns;
              writes = theirs.writes;
              idle = theirs.idle;
              pure = theirs.pure;
              reads = λ r. absurd (other ((theirs.reads r).0 ∙ sym end.0));
              home = theirs.home;
              away = theirs.away;
              puts_known = theirs.puts_known;
              gets_known = let k = theirs.gets_known in omega arith;
              reached = theirs.reached;
            });
      },
      record { got = refl; carried = subst (λ (y : RegionName × Prio). IsFor y.0 y.1 x) (λ i. (sym role.1 i, sym role.2 i)) (All-head (IsFor h.region h.prio) x items h.carried) },
    )

all_got : (items : List Item) (all got : List ItemShown) → length items ≡ 0 → all ≡ got ++ map shown_item items → all ≡ got
all_got [] all got none whole = whole ∙ append-nil got
all_got (x ∷ xs) all got none whole = absurd (omega (arith, none))

pub misses : (port : ℕ) (v : Hand) → v.role.reads ≡ true → Finds Sorts 0 port v (λ items w. Misses v w)
misses port v may items views none h at =
    let mine = h.fits port v at in
    let same : h.all ≡ v.mail.got = all_got items h.all h.got none h.whole ∙ sym (mine.reads may).1 in
    (v, one_changed items views h port v mine, record { same = refl; got_all = λ m. subst (λ (l : List ItemShown). known_puts v.mail m ≤ length (with_mark m l)) same (mine.puts_known m) })

-- what the opening pass knows with all marks at home
pub accounts : (port : ℕ) (v : Hand) → v.role.reads ≡ true → v.role.out ≡ [] → Learns Sorts port v (Accounts v)
accounts port v may all_in items views h at =
    let mine = h.fits port v at in
    let owned : (m : ℕ) → with_mark m v.mail.kept ≡ with_mark m h.all = λ m. mine.owns m (mine.home may m (ap (λ l. is_in l m) all_in)) in
    let long : length v.mail.kept ≡ length h.all = same_length v.mail.kept h.all owned in
    record {
      sorted = λ m. owned m ∙ ap (with_mark m) (h.whole ∙ ap (λ l. l ++ map shown_item items) (sym (mine.reads may).1));
      reached = let k = mine.reached in omega arith;
    }

pub empties : (port : ℕ) (v : Hand) → v.role.reads ≡ true → v.role.out ≡ [] → Finds Sorts 0 port v (λ items w. (w ≡ v) × Accounts v items)
empties port v may all_in items views none h at = (v, one_changed items views h port v (h.fits port v at), (refl, accounts port v may all_in items views h at))

-- a note of what the pass keeps or got
noted : (items : List Item) (views : List Hand) (h : Sorts items views) (port : ℕ) (v : Hand) (known : List ToldPuts) (gets : ℕ) → get_elem? views port ≡ some v
    → ((m : ℕ) → known_of known m ≤ length (with_mark m h.all)) → gets ≤ length h.got → Sorts items (set views port v ++ note known gets ∷ [])
noted items views h port v known gets at knows few =
    let vs : List Hand = set views port v in
    let kept = one_changed items views h port v (h.fits port v at) in
    let F : ℕ → Hand → Type 0 = FitsIn h.region h.prio h.owner h.reader h.all h.got in
    let long : length (vs ++ note known gets ∷ []) ≡ length views + 1 = length-append vs (note known gets ∷ []) ∙ ap (λ n. n + 1) (length-set views port v) in
    same_lists items views (vs ++ note known gets ∷ []) h (omega arith)
    (all_more F vs (note known gets) (all_set F views port v (h.fits port v at) (λ j u _ e. h.fits j u e))
    (idle_fits h.region h.prio h.owner h.reader h.all h.got (length vs) known gets (λ m e. absurd (omega (arith, h.owned m, length-set views port v, e))) knows few))

told_one : (mark n m k : ℕ) → (mark ≡ m → n ≤ k) → cond (mark == m) (max n 0) 0 ≤ k
told_one mark n m k most = ⊎_elim
    (λ (here : mark ≡ m). subst (λ (t : Bool). cond t (max n 0) 0 ≤ k) (sym (eq-eqb mark m here)) (let b = most here in omega arith))
    (λ (apart : mark ≢ m). subst (λ (t : Bool). cond t (max n 0) 0 ≤ k) (sym (ne_eqb mark m apart)) (omega arith))
    (cases_eq mark m)

pub notes_puts : (port : ℕ) (v : Hand) → v.role.writes ≡ true → Forks Sorts port v v (put_note v)
notes_puts port v may items views h at =
    let mine = h.fits port v at in
    let mark : ℕ = v.role.mark in
    let n : ℕ = length (with_mark mark v.mail.kept) in
    let same : n ≡ length (with_mark mark h.all) = ap length (mine.owns mark (mine.writes may).0) in
    noted items views h port v (record { mark = mark; puts = n } ∷ []) 0 at
    (λ m. told_one mark n m (length (with_mark m h.all)) (λ e. subst (λ (k : ℕ). n ≤ length (with_mark k h.all)) e (omega arith))) (omega arith)

pub notes_gets : (port : ℕ) (v : Hand) → v.role.reads ≡ true → Forks Sorts port v v (get_note v)
notes_gets port v may items views h at =
    let same : length v.mail.got ≡ length h.got = ap length ((h.fits port v at).reads may).1 in
    noted items views h port v [] (length v.mail.got) at (λ m. omega arith) (omega arith)

-- a pass changes to a view that fits, and a note is spent
noted_joined : (items : List Item) (views : List Hand) (h : Sorts items views) (port other : ℕ) (a w : Hand) → get_elem? views other ≡ some w → w.mail.kept ≡ []
    → FitsIn h.region h.prio h.owner h.reader h.all h.got port a → Sorts items (set (set views port a) other spent)
noted_joined items views h port other a w there bare fits =
    let F : ℕ → Hand → Type 0 = FitsIn h.region h.prio h.owner h.reader h.all h.got in
    let theirs = h.fits other w there in
    same_lists items views (set (set views port a) other spent) h (omega (arith, length-set (set views port a) other spent, length-set views port a))
    (all_set F (set views port a) other spent
    (idle_fits h.region h.prio h.owner h.reader h.all h.got other [] 0 (λ m e. sym (ap (with_mark m) bare) ∙ theirs.owns m e) (λ m. omega arith) (omega arith))
    (λ j u _ e. all_set F views port a fits (λ i y _ there'. h.fits i y there') j u e))

pub hears_of_puts : (port : ℕ) (v : Hand) (other : ℕ) (w : Hand) → w.mail.kept ≡ [] → Merges Sorts port v other w (reads_puts v w) spent
hears_of_puts port v other w bare items views h at two at' =
    let a : Hand = reads_puts v w in
    let there = was_there views port other a w two at' in
    let mine = h.fits port v at in
    let theirs = h.fits other w there in
    noted_joined items views h port other a w there bare
    (record {
      owns = mine.owns;
      writes = mine.writes;
      idle = mine.idle;
      pure = mine.pure;
      reads = mine.reads;
      home = mine.home;
      away = mine.away;
      puts_known = λ m. let k = mine.puts_known m in let l = theirs.puts_known m in omega (arith, known-append w.mail.known v.mail.known m);
      gets_known = mine.gets_known;
      reached = mine.reached;
    })

pub hears_of_gets : (port : ℕ) (v : Hand) (other : ℕ) (w : Hand) → w.mail.kept ≡ [] → Merges Sorts port v other w (reads_gets v w) spent
hears_of_gets port v other w bare items views h at two at' =
    let a : Hand = reads_gets v w in
    let there = was_there views port other a w two at' in
    let mine = h.fits port v at in
    let theirs = h.fits other w there in
    noted_joined items views h port other a w there bare
    (record {
      owns = mine.owns;
      writes = mine.writes;
      idle = mine.idle;
      pure = mine.pure;
      reads = mine.reads;
      home = mine.home;
      away = mine.away;
      puts_known = mine.puts_known;
      gets_known = let k = mine.gets_known in let l = theirs.gets_known in omega arith;
      reached = mine.reached;
    })

no_items : (items : List Item) (all got : List ItemShown) → all ≡ got ++ map shown_item items → all ≡ [] → items ≡ []
no_items [] all got whole none = refl
no_items (x ∷ xs) all got whole none = absurd (omega (arith, counted (x ∷ xs) all got whole, ap length none))

opens_new : (port : ℕ) (t : Terms) → Forks Sorts port newcomer (opening_hand t) spent
opens_new port t items views h at =
    let mine = h.fits port newcomer at in
    let end = mine.reads refl in
    let left : Hand = opening_hand t in
    let vs : List Hand = set views port left in
    let home : (m : ℕ) → h.owner m ≡ port = λ m. mine.home refl m refl in
    let none : h.all ≡ [] = no_marks h.all (λ m. sym (mine.owns m (home m))) in
    let empty : items ≡ [] = no_items items h.all h.got h.whole none in
    let long : length vs ≡ length views = length-set views port left in
    let F : ℕ → Hand → Type 0 = FitsIn t.region t.prio (λ _. port) port [] [] in
    let fits : AllFit F vs = all_set F views port left (first_fits t port)
    (λ j u other e. let theirs = h.fits j u e in
    record {
      owns = λ m p. absurd (other (sym p));
      writes = λ p. absurd (other (sym (theirs.writes p).0 ∙ home u.role.mark));
      idle = theirs.idle;
      pure = theirs.pure;
      reads = λ r. absurd (other ((theirs.reads r).0 ∙ sym end.0));
      home = λ r. absurd (other ((theirs.reads r).0 ∙ sym end.0));
      away = theirs.away;
      puts_known = λ m. subst (λ (l : List ItemShown). known_puts u.mail m ≤ length (with_mark m l)) none (theirs.puts_known m);
      gets_known = let k = theirs.gets_known in let z : length h.got ≡ 0 = ap length (sym end.1) in omega arith;
      reached = let k = theirs.reached in let z : length h.all ≡ 0 = ap length none in omega arith;
    }) in
    record {
      region = t.region;
      prio = t.prio;
      owner = λ _. port;
      reader = port;
      all = [];
      got = [];
      whole = ap (map shown_item) (sym empty);
      carried = subst (All (IsFor t.region t.prio)) (sym empty) (All-nil _);
      owned = λ m. omega (arith, at_below views newcomer port at, length-append vs (spent ∷ []), long);
      fits = all_more F vs spent fits (idle_fits t.region t.prio (λ _. port) port [] [] (length vs) [] 0 (λ m _. refl) (λ m. omega arith) (omega arith));
    }

pub opens : (port : ℕ) (v : Hand) (t : Terms) → v ≡ newcomer → Forks Sorts port v (opening_hand t) spent
opens port v t is = subst (λ (y : Hand). Forks Sorts port y (opening_hand t) spent) (sym is) (opens_new port t)

pub splits : (port : ℕ) (v : Hand) (mark : ℕ) → v.role.reads ≡ true → HasNothingOf v mark → Forks Sorts port v (parted_hand v mark) (split_hand v mark)
splits port v mark may free items views h at =
    let mine = h.fits port v at in
    let end = mine.reads may in
    let role = mine.writes end.2 in
    let left : Hand = parted_hand v mark in
    let right : Hand = split_hand v mark in
    let vs : List Hand = set views port left in
    let long : length vs ≡ length views = length-set views port left in
    let here : port < length views = at_below views v port at in
    let owner : ℕ → ℕ = moved h.owner mark (length vs) in
    let at_home : h.owner mark ≡ port = mine.home may mark free.home in
    let F : ℕ → Hand → Type 0 = FitsIn h.region h.prio owner h.reader h.all h.got in
    let fits : AllFit F vs = all_set F views port left
    (record {
      owns = λ m e. ⊎_elim
          (λ (same : m ≡ mark). absurd (omega (arith, here, long, e, moved_here h.owner mark (length vs) m same)))
          (λ (apart : m ≢ mark). mine.owns m (sym (moved_else h.owner mark (length vs) m apart) ∙ e))
          (cases_eq m mark);
      writes = λ _. (moved_else h.owner mark (length vs) v.role.mark (λ e. free.other (sym e)) ∙ role.0, role.1, role.2);
      idle = mine.idle;
      pure = mine.pure;
      reads = mine.reads;
      home = λ r m o. ⊎_elim
          (λ (same : m ≡ mark). absurd (true≢false (sym (ap (λ (k : ℕ). is_in (mark ∷ v.role.out) k) same ∙ in-here mark v.role.out) ∙ o)))
          (λ (apart : m ≢ mark). moved_else h.owner mark (length vs) m apart ∙ mine.home r m (sym (in-else mark m v.role.out (λ e. apart (sym e))) ∙ o))
          (cases_eq m mark);
      away = λ r m o. ⊎_elim
          (λ (same : m ≡ mark). subst (λ (k : ℕ). (k ≢ v.role.mark) × (with_mark k v.mail.kept ≡ [])) (sym same) (free.other, free.none))
          (λ (apart : m ≢ mark). mine.away r m (sym (in-else mark m v.role.out (λ e. apart (sym e))) ∙ o))
          (cases_eq m mark);
      puts_known = mine.puts_known;
      gets_known = mine.gets_known;
      reached = mine.reached;
    })
    (λ j u other e. let theirs = h.fits j u e in
    record {
      owns = λ m p. ⊎_elim
          (λ (same : m ≡ mark). absurd (omega (arith, at_below views u j e, long, p, moved_here h.owner mark (length vs) m same)))
          (λ (apart : m ≢ mark). theirs.owns m (sym (moved_else h.owner mark (length vs) m apart) ∙ p))
          (cases_eq m mark);
      writes = λ p. let r = theirs.writes p in
          (moved_else h.owner mark (length vs) u.role.mark (λ q. other (sym r.0 ∙ ap h.owner q ∙ at_home)) ∙ r.0, r.1, r.2);
      idle = theirs.idle;
      pure = theirs.pure;
      reads = theirs.reads;
      home = λ r. absurd (other ((theirs.reads r).0 ∙ sym end.0));
      away = theirs.away;
      puts_known = theirs.puts_known;
      gets_known = theirs.gets_known;
      reached = theirs.reached;
    }) in
    let last : F (length vs) right = record {
      owns = λ m e. ⊎_elim
          (λ (same : m ≡ mark). subst (λ (k : ℕ). [] ≡ with_mark k h.all) (sym same) (sym free.none ∙ mine.owns mark at_home))
          (λ (apart : m ≢ mark). absurd (omega (arith, h.owned m, long, e, moved_else h.owner mark (length vs) m apart)))
          (cases_eq m mark);
      writes = λ _. (moved_here h.owner mark (length vs) mark refl, role.1, role.2);
      idle = λ (x : true ≡ false). absurd (true≢false x);
      pure = λ _ m _. refl;
      reads = λ (x : false ≡ true). absurd (true≢false (sym x));
      home = λ (x : false ≡ true). absurd (true≢false (sym x));
      away = λ (x : false ≡ true). absurd (true≢false (sym x));
      puts_known = λ m. omega arith;
      gets_known = omega arith;
      reached = omega arith;
    } in
    let longer : length (vs ++ right ∷ []) ≡ length vs + 1 = length-append vs (right ∷ []) in
    record {
      region = h.region;
      prio = h.prio;
      owner = owner;
      reader = h.reader;
      all = h.all;
      got = h.got;
      whole = h.whole;
      carried = h.carried;
      owned = moved_below h.owner mark (length vs) (length (vs ++ right ∷ [])) (omega arith) (λ m. omega (arith, h.owned m, long, longer));
      fits = all_more F vs right fits last;
    }

-- two lists in a row, of which one has nothing of a mark
only_second : (m : ℕ) (xs ys all : List ItemShown) → with_mark m xs ≡ [] → with_mark m ys ≡ all → with_mark m (xs ++ ys) ≡ all
only_second m xs ys all none there = marked-append m xs ys ∙ ap (λ l. l ++ with_mark m ys) none ∙ there

only_first : (m : ℕ) (xs ys all : List ItemShown) → with_mark m xs ≡ all → with_mark m ys ≡ [] → with_mark m (xs ++ ys) ≡ all
only_first m xs ys all there none = marked-append m xs ys ∙ ap (λ l. with_mark m xs ++ l) none ∙ append-nil (with_mark m xs) ∙ there

pub joins : (port : ℕ) (v : Hand) (other : ℕ) (w : Hand) → v.role.reads ≡ true → w.role.reads ≡ false → w.role.writes ≡ true → Merges Sorts port v other w (both_hands v w) spent
joins port v other w may not_opening their_may items views h at two at' =
    let a : Hand = both_hands v w in
    let there = was_there views port other a w two at' in
    let mine = h.fits port v at in
    let end = mine.reads may in
    let role = mine.writes end.2 in
    let theirs = h.fits other w there in
    let mark : ℕ = w.role.mark in
    let far : h.owner mark ≡ other = (theirs.writes their_may).0 in
    let is_out : is_in v.role.out mark ≡ true = ⊎_elim (λ (x : is_in v.role.out mark ≡ true). x) (λ (x : is_in v.role.out mark ≡ false). absurd (two (sym far ∙ mine.home may mark x))) (cases_Bool (is_in v.role.out mark)) in
    let gone = mine.away may mark is_out in
    let owner : ℕ → ℕ = moved h.owner mark port in
    let F : ℕ → Hand → Type 0 = FitsIn h.region h.prio owner h.reader h.all h.got in
    let Now : ℕ → Hand → Type 0 = λ j u. j ≢ other → F j u in
    let known : (m : ℕ) → known_puts a.mail m ≤ length (with_mark m h.all) = λ m. ⊎_elim
    (λ (same : m ≡ mark). let none : with_mark m v.mail.kept ≡ [] = subst (λ (k : ℕ). with_mark k v.mail.kept ≡ []) (sym same) gone.1 in
    let k = mine.puts_known m in let l = theirs.puts_known m in
    omega (arith, known-append w.mail.known v.mail.known m, ap length (only_second m v.mail.kept w.mail.kept (with_mark m w.mail.kept) none refl)))
    (λ (apart : m ≢ mark). let none : with_mark m w.mail.kept ≡ [] = theirs.pure not_opening m apart in
    let k = mine.puts_known m in let l = theirs.puts_known m in
    omega (arith, known-append w.mail.known v.mail.known m, ap length (only_first m v.mail.kept w.mail.kept (with_mark m v.mail.kept) refl none)))
    (cases_eq m mark) in
    let merged : F port a = record {
      owns = λ m e. ⊎_elim
          (λ (same : m ≡ mark). subst (λ (k : ℕ). with_mark k (v.mail.kept ++ w.mail.kept) ≡ with_mark k h.all) (sym same) (only_second mark v.mail.kept w.mail.kept (with_mark mark h.all) gone.1 (theirs.owns mark far)))
          (λ (apart : m ≢ mark). only_first m v.mail.kept w.mail.kept (with_mark m h.all) (mine.owns m (sym (moved_else h.owner mark port m apart) ∙ e)) (theirs.pure not_opening m apart))
          (cases_eq m mark);
      writes = λ _. (moved_else h.owner mark port v.role.mark (λ e. gone.0 (sym e)) ∙ role.0, role.1, role.2);
      idle = λ e. absurd (true≢false (sym end.2 ∙ e));
      pure = λ e. absurd (true≢false (sym may ∙ e));
      reads = mine.reads;
      home = λ r m o. ⊎_elim
          (λ (same : m ≡ mark). moved_here h.owner mark port m same)
          (λ (apart : m ≢ mark). moved_else h.owner mark port m apart ∙ mine.home r m (sym (in-without mark m v.role.out apart) ∙ o))
          (cases_eq m mark);
      away = λ r m o. ⊎_elim
          (λ (same : m ≡ mark). absurd (true≢false (sym o ∙ ap (λ (k : ℕ). is_in (without mark v.role.out) k) same ∙ not_in-without mark v.role.out)))
          (λ (apart : m ≢ mark). let old = mine.away r m (sym (in-without mark m v.role.out apart) ∙ o) in (old.0, only_first m v.mail.kept w.mail.kept [] old.1 (theirs.pure not_opening m apart)))
          (cases_eq m mark);
      puts_known = known;
      gets_known = let k = mine.gets_known in let l = theirs.gets_known in omega arith;
      reached = let k = mine.reached in let l = theirs.reached in omega arith;
    } in
    let fits : AllFit Now (set views port a) = all_set Now views port a (λ _. merged)
    (λ j u apart_from e not_other. let old = h.fits j u e in
    record {
      owns = λ m p. ⊎_elim
          (λ (same : m ≡ mark). absurd (apart_from (sym p ∙ moved_here h.owner mark port m same)))
          (λ (apart : m ≢ mark). old.owns m (sym (moved_else h.owner mark port m apart) ∙ p))
          (cases_eq m mark);
      writes = λ p. let r = old.writes p in (moved_else h.owner mark port u.role.mark (λ q. not_other (sym r.0 ∙ ap h.owner q ∙ far)) ∙ r.0, r.1, r.2);
      idle = old.idle;
      pure = old.pure;
      reads = old.reads;
      home = λ r. absurd (apart_from ((old.reads r).0 ∙ sym end.0));
      away = old.away;
      puts_known = old.puts_known;
      gets_known = old.gets_known;
      reached = old.reached;
    }) in
    let ended : F other spent = idle_fits h.region h.prio owner h.reader h.all h.got other [] 0
    (λ m e. ⊎_elim
    (λ (same : m ≡ mark). absurd (two (sym e ∙ moved_here h.owner mark port m same)))
    (λ (apart : m ≢ mark). sym (theirs.pure not_opening m apart) ∙ theirs.owns m (sym (moved_else h.owner mark port m apart) ∙ e))
    (cases_eq m mark))
    (λ m. omega arith) (omega arith) in
    let long : length (set (set views port a) other spent) ≡ length views = length-set (set views port a) other spent ∙ length-set views port a in
    record {
      region = h.region;
      prio = h.prio;
      owner = owner;
      reader = h.reader;
      all = h.all;
      got = h.got;
      whole = h.whole;
      carried = h.carried;
      owned = moved_below h.owner mark port (length (set (set views port a) other spent)) (omega (arith, at_below views v port at, long)) (λ m. omega (arith, h.owned m, long));
      fits = all_set F (set views port a) other spent ended (λ j u apart e. fits j u e apart);
    }

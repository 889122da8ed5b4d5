-- While a router has not answered what an application asked, nothing more comes from the application.
use Rattle.std.proofs.Common.{◌≡◌, ◌⊎◌, inl, inr, ℕ, ◌+◌, ◌≤◌, Bool, true, false, List, [], ◌∷◌, ◌++◌, drop, get_or, length, refl, sym, ap, ◌∙◌, append_assoc, arith, length-append, cond}
use Rattle.std.specs.Prelude.{if◌then◌else◌}
use Rattle.std.proofs.lemmas.Grind.{flat_map-append}
use Rattle.std.proofs.lemmas.List.Sums.{sum_by-append}
use Rattle.csp_log.specs.declared.entry.Entry.{Entry}
use Rattle.csp_log.specs.declared.note.Note.{Note}
use Rattle.csp_log.specs.declared.places.QueueId.{QueueId}
use Rattle.csp_log.specs.declared.places.QueueId.TheVariants as queue
use Rattle.csp_log.specs.declared.shown.AnswerShown.{AnswerShown}
use Rattle.csp_log.specs.declared.shown.AnswerShown.TheVariants as answer
use Rattle.csp_log.specs.declared.shown.ItemShown.{ItemShown}
use Rattle.csp_log.specs.declared.shown.ItemShown.TheVariants as item
use Rattle.csp_log.specs.declared.shown.OpShown.{OpShown}
use Rattle.csp_log.specs.declared.shown.OpShown.TheVariants as op
use Rattle.csp_causal.specs.Causal.{AreCausal}
use Rattle.csp_consistent.specs.Reading.{got_by, gets, is_queue, put_by, puts}
use Rattle.csp_prefix.specs.Prefix.{IsBeginning}
use Rattle.csp_blobs.specs.Asking.{answers, answered_in, asked_in, asks, is_note}

-- ---- counts

pub answered_append : (xs ys : List ItemShown) → answered_in (xs ++ ys) ≡ answered_in xs + answered_in ys
answered_append xs ys = sum_by-append (λ (i : ItemShown). cond (is_note answers i) 1 0) xs ys

asked_append : (xs ys : List ItemShown) → asked_in (xs ++ ys) ≡ asked_in xs + asked_in ys
asked_append xs ys = sum_by-append (λ (i : ItemShown). cond (is_note asks i) 1 0) xs ys

asked_once : (n : Note) → asks n ≡ true → asked_in (item.Note n ∷ []) ≡ 1
asked_once n e = ap (λ t. 0 + cond t 1 0) e

-- ---- entries that get and put

pub gets_append : (q : QueueId) (first later : List Entry) → gets q (first ++ later) ≡ gets q first ++ gets q later
gets_append q first later = flat_map-append (λ (e : Entry). got_by q e.op e.answer) first later

pub puts_append : (q : QueueId) (first later : List Entry) → puts q (first ++ later) ≡ puts q first ++ puts q later
puts_append q first later = flat_map-append (λ (e : Entry). put_by q e.op e.answer) first later

-- each gets, and puts, one item at most
record IsOne (items : List ItemShown) : Type 0 where
  pub one : ItemShown
  pub all : items ≡ one ∷ []

one_if : (t : Bool) (i : ItemShown) → ((if t then i ∷ [] else []) ≡ []) ⊎ IsOne (if t then i ∷ [] else [])
one_if true i = inr (record { one = i; all = refl })
one_if false i = inl refl

gets_one : (q : QueueId) (o : OpShown) (a : AnswerShown) → (got_by q o a ≡ []) ⊎ IsOne (got_by q o a)
gets_one q (op.Pop other) (answer.Popped i) = one_if (is_queue q other) i
gets_one q _ _ = inl refl

puts_one : (q : QueueId) (o : OpShown) (a : AnswerShown) → (put_by q o a ≡ []) ⊎ IsOne (put_by q o a)
puts_one q (op.Push other i) answer.Pushed = one_if (is_queue q other) i
puts_one q _ _ = inl refl

-- what gets puts nothing
pub puts_none : (q p : QueueId) (o : OpShown) (a : AnswerShown) (i : ItemShown) → got_by q o a ≡ i ∷ [] → put_by p o a ≡ []
puts_none q p (op.Push other x) answer.Pushed i e = absurd cc
puts_none q p _ _ i e = refl

-- the first entry that gets from a queue
pub record GotAt (q : QueueId) (es : List Entry) : Type 0 where
  pub quiet : List Entry
  pub own : Entry
  pub rest : List Entry
  pub one : ItemShown
  pub whole : es ≡ quiet ++ own ∷ rest
  pub none : gets q quiet ≡ []
  pub got : got_by q own.op own.answer ≡ one ∷ []

pub first_got : (q : QueueId) (es : List Entry) → (gets q es ≡ []) ⊎ GotAt q es
first_got q [] = inl refl
first_got q (e ∷ es) = by (first_got q es) (gets_one q e.op e.answer)
  where
    later : got_by q e.op e.answer ≡ [] → (gets q es ≡ []) ⊎ GotAt q es → (gets q (e ∷ es) ≡ []) ⊎ GotAt q (e ∷ es)
    later none (inl all) = inl (λ k. none k ++ all k)
    later none (inr g) = inr (record {
      quiet = e ∷ g.quiet;
      own = g.own;
      rest = g.rest;
      one = g.one;
      whole = ap (λ l. e ∷ l) g.whole;
      none = λ k. none k ++ g.none k;
      got = g.got;
    })

    by : (gets q es ≡ []) ⊎ GotAt q es → (got_by q e.op e.answer ≡ []) ⊎ IsOne (got_by q e.op e.answer) → (gets q (e ∷ es) ≡ []) ⊎ GotAt q (e ∷ es)
    by rest (inl none) = later none rest
    by rest (inr o) = inr (record { quiet = []; own = e; rest = es; one = o.one; whole = refl; none = refl; got = o.all })

-- the entry that put an item, after just these
record PutAt (q : QueueId) (es : List Entry) (xs : List ItemShown) (i : ItemShown) : Type 0 where
  pub before : List Entry
  pub own : Entry
  pub after : List Entry
  pub whole : es ≡ before ++ own ∷ after
  pub first : puts q before ≡ xs
  pub put : put_by q own.op own.answer ≡ i ∷ []

put_at : (q : QueueId) (es : List Entry) (xs : List ItemShown) (i : ItemShown) (rest : List ItemShown) → puts q es ≡ xs ++ i ∷ rest → PutAt q es xs i
put_at q [] [] i rest same = absurd cc
put_at q [] (x ∷ xs) i rest same = absurd cc
put_at q (e ∷ es) ys i rest same = by (λ xs there. put_at q es xs i rest there) (puts_one q e.op e.answer) ys same
  where
    by : ((xs : List ItemShown) → puts q es ≡ xs ++ i ∷ rest → PutAt q es xs i) → (put_by q e.op e.answer ≡ []) ⊎ IsOne (put_by q e.op e.answer) → (xs : List ItemShown) → put_by q e.op e.answer ++ puts q es ≡ xs ++ i ∷ rest → PutAt q (e ∷ es) xs i
    by later (inl none) xs same =
        let p : PutAt q es xs i = later xs (ap (λ l. l ++ puts q es) (sym none) ∙ same) in
        record { before = e ∷ p.before; own = p.own; after = p.after; whole = ap (λ l. e ∷ l) p.whole; first = (λ k. none k ++ p.first k); put = p.put }
    by later (inr o) [] same =
        let here : o.one ∷ puts q es ≡ i ∷ rest = ap (λ l. l ++ puts q es) (sym o.all) ∙ same in
        record { before = []; own = e; after = es; whole = refl; first = refl; put = o.all ∙ ap (λ l. get_or l 0 i ∷ []) here }
    by later (inr o) (x ∷ xs) same =
        let here : o.one ∷ puts q es ≡ x ∷ (xs ++ i ∷ rest) = ap (λ l. l ++ puts q es) (sym o.all) ∙ same in
        let p : PutAt q es xs i = later xs (ap (drop 1) here) in
        record {
          before = e ∷ p.before;
          own = p.own;
          after = p.after;
          whole = ap (λ l. e ∷ l) p.whole;
          first = (λ k. o.all k ++ p.first k) ∙ ap (λ l. get_or l 0 x ∷ xs) here;
          put = p.put;
        }

-- of two beginnings of a list the shorter is a beginning of the longer
shorter : (xs ys us vs : List ItemShown) → xs ++ us ≡ ys ++ vs → length xs ≤ length ys → IsBeginning xs ys
shorter [] ys us vs e low = record { rest = ys; whole = refl }
shorter (x ∷ xs) [] us vs e low = absurd (omega (arith, low))
shorter (x ∷ xs) (y ∷ ys) us vs e low =
    let b : IsBeginning xs ys = shorter xs ys us vs (ap (drop 1) e) (omega (arith, low)) in
    record { rest = b.rest; whole = λ k. get_or (e k) 0 x ∷ b.whole k }

-- ---- an application and its router

-- the application of this number puts nothing before all that it asked was answered
abbrev pub Waits : ℕ → List Entry → Type 0
Waits k es =
    (before after : List Entry) (own : Entry) (i : ItemShown) → es ≡ before ++ own ∷ after → put_by (queue.Up k) own.op own.answer ≡ i ∷ []
    → asked_in (puts (queue.Up k) before) ≤ answered_in (gets (queue.Down k) before)

-- the router has at no time answered it more often than it had asked
abbrev pub HasNoMore : ℕ → List Entry → Type 0
HasNoMore k es = (before after : List Entry) → es ≡ before ++ after → answered_in (puts (queue.Down k) before) ≤ asked_in (gets (queue.Up k) before)

module _ (k : ℕ) (A R : List Entry) (up_left down_left : List ItemShown) (up : gets (queue.Up k) R ++ up_left ≡ puts (queue.Up k) A) (down : gets (queue.Down k) A ++ down_left ≡ puts (queue.Down k) R)
    (causal : AreCausal (queue.Up k) (queue.Down k) A R) (waits : Waits k A) (no_more : HasNoMore k R) where
  -- what would come next was put before the answer
  never_got : (first quiet rest : List Entry) (own next : Entry) (n : Note) (j : ItemShown) → R ≡ first ++ own ∷ (quiet ++ next ∷ rest) → got_by (queue.Up k) own.op own.answer ≡ item.Note n ∷ []
      → asks n ≡ true → answered_in (puts (queue.Down k) quiet) ≡ 0 → gets (queue.Up k) quiet ≡ [] → got_by (queue.Up k) next.op next.answer ≡ j ∷ [] → ⊥
  never_got first quiet rest own next n j whole got asked unanswered none one =
      by (causal p.before (p.own ∷ p.after) cut rest p.whole whole_cut)
    where
      mid : List Entry
      mid = own ∷ (quiet ++ next ∷ [])

      cut : List Entry
      cut = first ++ mid

      whole_cut : R ≡ cut ++ rest
      whole_cut = whole ∙ ap (λ l. first ++ own ∷ l) (sym (append_assoc quiet (next ∷ []) rest)) ∙ sym (append_assoc first mid rest)

      next_got : gets (queue.Up k) (quiet ++ next ∷ []) ≡ j ∷ []
      next_got = gets_append (queue.Up k) quiet (next ∷ []) ∙ (λ t. none t ++ (one t ++ []))

      cut_got : gets (queue.Up k) cut ≡ gets (queue.Up k) first ++ item.Note n ∷ j ∷ []
      cut_got = gets_append (queue.Up k) first mid ∙ (λ t. gets (queue.Up k) first ++ (got t ++ next_got t))

      tail : List ItemShown
      tail = gets (queue.Up k) rest ++ up_left

      asks_first : List ItemShown
      asks_first = gets (queue.Up k) first ++ item.Note n ∷ []

      all_put : puts (queue.Up k) A ≡ asks_first ++ j ∷ tail
      all_put =
          sym up ∙ ap (λ es. gets (queue.Up k) es ++ up_left) whole_cut ∙ ap (λ l. l ++ up_left) (gets_append (queue.Up k) cut rest) ∙ append_assoc (gets (queue.Up k) cut) (gets (queue.Up k) rest) up_left
          ∙ ap (λ l. l ++ tail) cut_got ∙ append_assoc (gets (queue.Up k) first) (item.Note n ∷ j ∷ []) tail ∙ sym (append_assoc (gets (queue.Up k) first) (item.Note n ∷ []) (j ∷ tail))

      p : PutAt (queue.Up k) A asks_first j
      p = put_at (queue.Up k) A asks_first j tail all_put

      -- nothing was answered since
      next_puts : answered_in (puts (queue.Down k) (quiet ++ next ∷ [])) ≡ 0
      next_puts =
          ap answered_in (puts_append (queue.Down k) quiet (next ∷ []) ∙ (λ t. puts (queue.Down k) quiet ++ (puts_none (queue.Up k) (queue.Down k) next.op next.answer j one t ++ [])))
          ∙ answered_append (puts (queue.Down k) quiet) [] ∙ (λ t. unanswered t + 0)

      cut_puts : answered_in (puts (queue.Down k) cut) ≡ answered_in (puts (queue.Down k) first)
      cut_puts =
          let mid_puts : answered_in (puts (queue.Down k) mid) ≡ 0 =
          ap answered_in (λ t. puts_none (queue.Up k) (queue.Down k) own.op own.answer (item.Note n) got t ++ puts (queue.Down k) (quiet ++ next ∷ [])) ∙ next_puts in
          let both : answered_in (puts (queue.Down k) cut) ≡ answered_in (puts (queue.Down k) first) + answered_in (puts (queue.Down k) mid) =
          ap answered_in (puts_append (queue.Down k) first mid) ∙ answered_append (puts (queue.Down k) first) (puts (queue.Down k) mid) in
          omega (arith, mid_puts, both)

      waited : asked_in (gets (queue.Up k) first) + 1 ≤ answered_in (gets (queue.Down k) p.before)
      waited =
          let most : asked_in (puts (queue.Up k) p.before) ≤ answered_in (gets (queue.Down k) p.before) = waits p.before p.after p.own j p.whole p.put in
          let put : asked_in (puts (queue.Up k) p.before) ≡ asked_in (gets (queue.Up k) first) + asked_in (item.Note n ∷ []) =
          ap asked_in p.first ∙ asked_append (gets (queue.Up k) first) (item.Note n ∷ []) in
          omega (arith, most, put, asked_once n asked)

      answered : answered_in (puts (queue.Down k) first) ≤ asked_in (gets (queue.Up k) first)
      answered = no_more first (mid ++ rest) (whole_cut ∙ append_assoc first mid rest)

      parted : gets (queue.Down k) p.before ++ (gets (queue.Down k) (p.own ∷ p.after) ++ down_left) ≡ puts (queue.Down k) cut ++ puts (queue.Down k) rest
      parted =
          sym (append_assoc (gets (queue.Down k) p.before) (gets (queue.Down k) (p.own ∷ p.after)) down_left) ∙ ap (λ l. l ++ down_left) (sym (gets_append (queue.Down k) p.before (p.own ∷ p.after)))
          ∙ ap (λ es. gets (queue.Down k) es ++ down_left) (sym p.whole) ∙ down ∙ ap (puts (queue.Down k)) whole_cut ∙ puts_append (queue.Down k) cut rest

      by : (length (gets (queue.Up k) cut) ≤ length (puts (queue.Up k) p.before)) ⊎ (length (gets (queue.Down k) p.before) ≤ length (puts (queue.Down k) cut)) → ⊥
      by (inl low) =
          let long : length (gets (queue.Up k) cut) ≡ length (gets (queue.Up k) first) + 2 = ap length cut_got ∙ length-append (gets (queue.Up k) first) (item.Note n ∷ j ∷ []) in
          let short : length (puts (queue.Up k) p.before) ≡ length (gets (queue.Up k) first) + 1 = ap length p.first ∙ length-append (gets (queue.Up k) first) (item.Note n ∷ []) in
          omega (arith, low, long, short)
      by (inr low) =
          let b : IsBeginning (gets (queue.Down k) p.before) (puts (queue.Down k) cut) =
          shorter (gets (queue.Down k) p.before) (puts (queue.Down k) cut) (gets (queue.Down k) (p.own ∷ p.after) ++ down_left) (puts (queue.Down k) rest) parted low in
          let part : answered_in (gets (queue.Down k) p.before) + answered_in b.rest ≡ answered_in (puts (queue.Down k) cut) =
          sym (answered_append (gets (queue.Down k) p.before) b.rest) ∙ ap answered_in b.whole in
          omega (arith, waited, answered, part, cut_puts)

  -- so nothing comes before an answer
  pub nothing_comes : (first between later : List Entry) (own opens : Entry) (n : Note) → R ≡ first ++ own ∷ (between ++ opens ∷ later) → got_by (queue.Up k) own.op own.answer ≡ item.Note n ∷ []
      → asks n ≡ true → answered_in (puts (queue.Down k) between) ≡ 0 → gets (queue.Up k) (between ++ opens ∷ []) ≡ []
  nothing_comes first between later own opens n whole got asked unanswered = quiet_first (first_got (queue.Up k) between)
    where
      opens_quiet : gets (queue.Up k) between ≡ [] → (got_by (queue.Up k) opens.op opens.answer ≡ []) ⊎ IsOne (got_by (queue.Up k) opens.op opens.answer) → gets (queue.Up k) (between ++ opens ∷ []) ≡ []
      opens_quiet none (inl one) = gets_append (queue.Up k) between (opens ∷ []) ∙ (λ t. none t ++ (one t ++ []))
      opens_quiet none (inr o) = absurd (never_got first between later own opens n o.one whole got asked unanswered none o.all)

      quiet_first : (gets (queue.Up k) between ≡ []) ⊎ GotAt (queue.Up k) between → gets (queue.Up k) (between ++ opens ∷ []) ≡ []
      quiet_first (inl none) = opens_quiet none (gets_one (queue.Up k) opens.op opens.answer)
      quiet_first (inr g) =
          let there : R ≡ first ++ own ∷ (g.quiet ++ g.own ∷ (g.rest ++ opens ∷ later)) =
          whole ∙ ap (λ l. first ++ own ∷ (l ++ opens ∷ later)) g.whole ∙ ap (λ l. first ++ own ∷ l) (append_assoc g.quiet (g.own ∷ g.rest) (opens ∷ later)) in
          let parts : answered_in (puts (queue.Down k) g.quiet) + answered_in (puts (queue.Down k) (g.own ∷ g.rest)) ≡ 0 =
          sym (answered_append (puts (queue.Down k) g.quiet) (puts (queue.Down k) (g.own ∷ g.rest))) ∙ ap answered_in (sym (puts_append (queue.Down k) g.quiet (g.own ∷ g.rest)))
          ∙ ap (λ es. answered_in (puts (queue.Down k) es)) (sym g.whole) ∙ unanswered in
          absurd (never_got first g.quiet (g.rest ++ opens ∷ later) own g.own n g.one there got asked (omega (arith, parts)) g.none g.got)

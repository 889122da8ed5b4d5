-- The talks that occur, when one more packet comes.
use Rattle.std.proofs.Common.{◌≡◌, ◌≢◌, ℕ, zero, suc, ◌+◌, ◌<◌, ◌≤◌, Bool, true, false, cond, eqb, not, inl, inr, Option, Some, None, List, [], ◌∷◌, ◌++◌, length, map, filter, refl, sym, ap, ◌∙◌, arith, append-nil, length-append, unwrap_or}
use Rattle.std.proofs.lemmas.Bool.{lt-ltb, le-ltb, cases_lt, eq-eqb, ne_eqb}
use Rattle.std.proofs.lemmas.List.Elements.{filter-append}
use Rattle.std.proofs.lemmas.List.Sums.{sum_by-append}
use Rattle.std.specs.BTreeMap.{insert_entry, is_at}
use Rattle.std.specs.List.{range_with_len, sum_by}
use Rattle.std.specs.Map.{lookup}
use Rattle.std.specs.Ordering.{is_eq, nat_cmp, match_ordering}
use Rattle.std.specs.declared.cmp.Ordering.{Ordering}
use Rattle.std.specs.declared.cmp.Ordering.TheVariants.{Less, Equal, Greater}
use Rattle.csp_kiss.specs.declared.progress.KissPacket.{KissPacket}
use Rattle.csp_tap.specs.Talks.{of_talk, table, tally, tally_at, talk_of, with_packet}
use Rattle.csp_tap.specs.declared.talks.Tally.{Tally}
use Rattle.csp_tap.specs.declared.talks.TheConstants.{TALKS}

less : (k q : ℕ) → k < q → nat_cmp k q ≡ Less
less k q h = rw (lt-ltb k q h) refl

greater : (k q : ℕ) → q < k → nat_cmp k q ≡ Greater
greater k q h = rw (le-ltb k q (omega arith), ne_eqb k q (λ e. omega arith)) refl

equal : (k : ℕ) → nat_cmp k k ≡ Equal
equal k = rw (le-ltb k k (omega arith), eq-eqb k k refl) refl

-- the numbers from `start` on, as many as `n`, that occur, each with what stands for it
abbrev listed : (occurs : ℕ → Bool) (value : ℕ → Tally) (start n : ℕ) → List (ℕ × Tally)
listed occurs value start zero = []
listed occurs value start (suc n) = cond (occurs start) ((start, value start) ∷ listed occurs value (start + 1) n) (listed occurs value (start + 1) n)

listed_is : (occurs : ℕ → Bool) (value : ℕ → Tally) (start n : ℕ) → map (λ talk. (talk, value talk)) (filter occurs (range_with_len start n)) ≡ listed occurs value start n
listed_is occurs value start zero = refl
listed_is occurs value start (suc n) =
    let rest = listed_is occurs value (start + 1) n in
    let later : List ℕ = filter occurs (range_with_len (start + 1) n) in
    elim (occurs start) as (λ b. map (λ talk. (talk, value talk)) (cond b (start ∷ later) later) ≡ cond b ((start, value start) ∷ listed occurs value (start + 1) n) (listed occurs value (start + 1) n)) [
      | true ↦ ap (λ (es : List (ℕ × Tally)). (start, value start) ∷ es) rest
      | false ↦ rest
    ]

-- numbers below the first are not there, and go before it
none_before : (occurs : ℕ → Bool) (value : ℕ → Tally) (k start n : ℕ) → k < start → lookup (is_at (nat_cmp k)) (listed occurs value start n) ≡ None
none_before occurs value k start zero h = refl
none_before occurs value k start (suc n) h =
    let later : List (ℕ × Tally) = listed occurs value (start + 1) n in
    let rest = none_before occurs value k (start + 1) n (omega arith) in
    elim (occurs start) as (λ b. lookup (is_at (nat_cmp k)) (cond b ((start, value start) ∷ later) later) ≡ None) [
      | true ↦ ap (λ (o : Ordering). cond (is_eq o) (Some (value start)) (lookup (is_at (nat_cmp k)) later)) (less k start h) ∙ rest
      | false ↦ rest
    ]

goes_before : (occurs : ℕ → Bool) (value : ℕ → Tally) (k : ℕ) (v : Tally) (start n : ℕ) → k < start → insert_entry nat_cmp (listed occurs value start n) k v ≡ (k, v) ∷ listed occurs value start n
goes_before occurs value k v start zero h = refl
goes_before occurs value k v start (suc n) h =
    let later : List (ℕ × Tally) = listed occurs value (start + 1) n in
    elim (occurs start) as (λ b. insert_entry nat_cmp (cond b ((start, value start) ∷ later) later) k v ≡ (k, v) ∷ cond b ((start, value start) ∷ later) later) [
      | true ↦ ap (λ (o : Ordering). match_ordering o ((k, v) ∷ (start, value start) ∷ later) ((start, v) ∷ later) ((start, value start) ∷ insert_entry nat_cmp later k v)) (less k start h)
      | false ↦ goes_before occurs value k v (start + 1) n (omega arith)
    ]

-- what stands for a number
there_first : (occurs : ℕ → Bool) (value : ℕ → Tally) (start n : ℕ) → lookup (is_at (nat_cmp start)) (listed occurs value start (suc n)) ≡ cond (occurs start) (Some (value start)) None
there_first occurs value start n =
    let later : List (ℕ × Tally) = listed occurs value (start + 1) n in
    elim (occurs start) as (λ b. lookup (is_at (nat_cmp start)) (cond b ((start, value start) ∷ later) later) ≡ cond b (Some (value start)) None) [
      | true ↦ ap (λ (o : Ordering). cond (is_eq o) (Some (value start)) (lookup (is_at (nat_cmp start)) later)) (equal start)
      | false ↦ none_before occurs value start (start + 1) n (omega arith)
    ]

there : (occurs : ℕ → Bool) (value : ℕ → Tally) (k start n : ℕ) → start ≤ k → k < start + n → lookup (is_at (nat_cmp k)) (listed occurs value start n) ≡ cond (occurs k) (Some (value k)) None
there occurs value k start zero low high = absurd (omega arith)
there occurs value k start (suc n) low high =
    let later : List (ℕ × Tally) = listed occurs value (start + 1) n in
    elim (cases_lt start k) [
      | inl past ↦
          let rest = there occurs value k (start + 1) n (omega arith) (omega arith) in
          elim (occurs start) as (λ b. lookup (is_at (nat_cmp k)) (cond b ((start, value start) ∷ later) later) ≡ cond (occurs k) (Some (value k)) None) [
            | true ↦ ap (λ (o : Ordering). cond (is_eq o) (Some (value start)) (lookup (is_at (nat_cmp k)) later)) (greater k start past) ∙ rest
            | false ↦ rest
          ]
      | inr here ↦
          let same : k ≡ start = omega arith in
          ap (λ q. lookup (is_at (nat_cmp q)) (listed occurs value start (suc n))) same ∙ there_first occurs value start n ∙ ap (λ q. cond (occurs q) (Some (value q)) None) (sym same)
    ]

-- where two lists differ in one number at most
module _ (was is : ℕ → Bool) (before after : ℕ → Tally) where
  alike : (k start n : ℕ) → k < start → ((q : ℕ) → q ≢ k → is q ≡ was q) → ((q : ℕ) → q ≢ k → after q ≡ before q) → listed is after start n ≡ listed was before start n
  alike k start zero h same values = refl
  alike k start (suc n) h same values =
      let rest = alike k (start + 1) n (omega arith) same values in
      let occurs = same start (λ e. omega arith) in
      let value = values start (λ e. omega arith) in
      λ i. cond (occurs i) ((start, value i) ∷ rest i) (rest i)

  put_first : (start n : ℕ) → is start ≡ true → ((q : ℕ) → q ≢ start → is q ≡ was q) → ((q : ℕ) → q ≢ start → after q ≡ before q)
      → insert_entry nat_cmp (listed was before start (suc n)) start (after start) ≡ listed is after start (suc n)
  put_first start n stands same values =
      let later : List (ℕ × Tally) = listed was before (start + 1) n in
      let rest = alike start (start + 1) n (omega arith) same values in
      elim (was start) as (λ b. insert_entry nat_cmp (cond b ((start, before start) ∷ later) later) start (after start) ≡ (start, after start) ∷ later) [
        | true ↦ ap (λ (o : Ordering). match_ordering o ((start, after start) ∷ (start, before start) ∷ later) ((start, after start) ∷ later) ((start, before start) ∷ insert_entry nat_cmp later start (after start))) (equal start)
        | false ↦ goes_before was before start (after start) (start + 1) n (omega arith)
      ]
      ∙ ap (λ (es : List (ℕ × Tally)). (start, after start) ∷ es) (sym rest)
      ∙ ap (λ b. cond b ((start, after start) ∷ listed is after (start + 1) n) (listed is after (start + 1) n)) (sym stands)

  put : (k start n : ℕ) → start ≤ k → k < start + n → is k ≡ true → ((q : ℕ) → q ≢ k → is q ≡ was q) → ((q : ℕ) → q ≢ k → after q ≡ before q)
      → insert_entry nat_cmp (listed was before start n) k (after k) ≡ listed is after start n
  put k start zero low high stands same values = absurd (omega arith)
  put k start (suc n) low high stands same values =
      let later : List (ℕ × Tally) = listed was before (start + 1) n in
      let then : List (ℕ × Tally) = listed is after (start + 1) n in
      elim (cases_lt start k) [
        | inl past ↦
            let rest = put k (start + 1) n (omega arith) (omega arith) stands same values in
            let occurs = same start (λ e. omega arith) in
            let value = values start (λ e. omega arith) in
            elim (was start) as (λ b. insert_entry nat_cmp (cond b ((start, before start) ∷ later) later) k (after k) ≡ cond b ((start, before start) ∷ then) then) [
              | true ↦ ap (λ (o : Ordering). match_ordering o ((k, after k) ∷ (start, before start) ∷ later) ((start, after k) ∷ later) ((start, before start) ∷ insert_entry nat_cmp later k (after k))) (greater k start past)
                  ∙ ap (λ (es : List (ℕ × Tally)). (start, before start) ∷ es) rest
              | false ↦ rest
            ]
            ∙ (λ i. cond (sym occurs i) ((start, sym value i) ∷ then) then)
        | inr here ↦
            let e : k ≡ start = omega arith in
            ap (λ q. insert_entry nat_cmp (listed was before start (suc n)) q (after q)) e
            ∙ put_first start n (ap is (sym e) ∙ stands) (λ q ne. same q (λ x. ne (x ∙ e))) (λ q ne. values q (λ x. ne (x ∙ e)))
      ]

-- ---- of packets

abbrev occurs : List KissPacket → ℕ → Bool
occurs packets talk = not (eqb (length (of_talk talk packets)) 0)

abbrev value : List KissPacket → ℕ → Tally
value packets talk = tally (of_talk talk packets)

table_listed : (packets : List KissPacket) → table packets ≡ listed (occurs packets) (value packets) 0 TALKS
unfolding table
table_listed packets = listed_is (occurs packets) (value packets) 0 TALKS

nothing_listed : (start n : ℕ) → listed (occurs []) (value []) start n ≡ []
nothing_listed start zero = refl
nothing_listed start (suc n) = nothing_listed (start + 1) n

pub table-none : table [] ≡ []
table-none = table_listed [] ∙ nothing_listed 0 TALKS

below : (header : ℕ) → talk_of header < TALKS
below header = omega arith

tallied : (packets : List KissPacket) → unwrap_or (cond (not (eqb (length packets) 0)) (Some (tally packets)) None) (record { packets = 0; bytes = 0 }) ≡ tally packets
tallied [] = refl
tallied (p ∷ packets) = rw (ne_eqb (length (p ∷ packets)) 0 (λ e. omega arith)) refl

tally_of : (packets : List KissPacket) (talk : ℕ) → talk < TALKS → tally_at (table packets) talk ≡ tally (of_talk talk packets)
tally_of packets talk h =
    ap (λ (es : List (ℕ × Tally)). tally_at es talk) (table_listed packets)
    ∙ ap (λ (o : Option Tally). unwrap_or o (record { packets = 0; bytes = 0 })) (there (occurs packets) (value packets) talk 0 TALKS (omega arith) (omega arith))
    ∙ tallied (of_talk talk packets)

of_more : (packets : List KissPacket) (p : KissPacket) (talk : ℕ) → of_talk talk (packets ++ p ∷ []) ≡ of_talk talk packets ++ cond (eqb (talk_of p.header) talk) (p ∷ []) []
of_more packets p talk = filter-append (λ (q : KissPacket). eqb (talk_of q.header) talk) packets (p ∷ [])

of_others : (packets : List KissPacket) (p : KissPacket) (talk : ℕ) → talk ≢ talk_of p.header → of_talk talk (packets ++ p ∷ []) ≡ of_talk talk packets
of_others packets p talk ne =
    of_more packets p talk ∙ ap (λ b. of_talk talk packets ++ cond b (p ∷ []) []) (ne_eqb (talk_of p.header) talk (λ e. ne (sym e))) ∙ append-nil (of_talk talk packets)

of_own : (packets : List KissPacket) (p : KissPacket) → of_talk (talk_of p.header) (packets ++ p ∷ []) ≡ of_talk (talk_of p.header) packets ++ p ∷ []
of_own packets p =
    let talk : ℕ = talk_of p.header in
    of_more packets p talk ∙ ap (λ b. of_talk talk packets ++ cond b (p ∷ []) []) (eq-eqb talk talk refl)

tally_more : (packets : List KissPacket) (p : KissPacket) → tally (packets ++ p ∷ []) ≡ record { packets = (tally packets).packets + 1; bytes = (tally packets).bytes + length p.payload.items }
tally_more packets p =
    let size : KissPacket → ℕ = λ q. length q.payload.items in
    let count : length (packets ++ p ∷ []) ≡ length packets + 1 = length-append packets (p ∷ []) in
    let all : sum_by size (packets ++ p ∷ []) ≡ sum_by size packets + sum_by size (p ∷ []) = sum_by-append size packets (p ∷ []) in
    let one : sum_by size (p ∷ []) ≡ length p.payload.items = omega arith in
    let bytes : sum_by size (packets ++ p ∷ []) ≡ sum_by size packets + length p.payload.items = all ∙ ap (λ n. sum_by size packets + n) one in
    λ i. record { packets = count i; bytes = bytes i }

pub table-push : (packets : List KissPacket) (p : KissPacket) → with_packet (table packets) (talk_of p.header) (length p.payload.items) ≡ table (packets ++ p ∷ [])
table-push packets p =
    let k : ℕ = talk_of p.header in
    let more : List KissPacket = packets ++ p ∷ [] in
    let old : tally_at (table packets) k ≡ tally (of_talk k packets) = tally_of packets k (below p.header) in
    let now : value more k ≡ record { packets = (tally (of_talk k packets)).packets + 1; bytes = (tally (of_talk k packets)).bytes + length p.payload.items } =
    ap tally (of_own packets p) ∙ tally_more (of_talk k packets) p in
    let some : occurs more k ≡ true =
    ap (λ (ps : List KissPacket). not (eqb (length ps) 0)) (of_own packets p)
    ∙ ap (λ b. not b) (ne_eqb (length (of_talk k packets ++ p ∷ [])) 0 (λ e. (let n = length-append (of_talk k packets) (p ∷ []) in omega arith))) in
    ap (λ (t : Tally). insert_entry nat_cmp (table packets) k (record { packets = t.packets + 1; bytes = t.bytes + length p.payload.items })) old
    ∙ ap (λ (t : Tally). insert_entry nat_cmp (table packets) k t) (sym now)
    ∙ ap (λ (es : List (ℕ × Tally)). insert_entry nat_cmp es k (value more k)) (table_listed packets)
    ∙ put (occurs packets) (occurs more) (value packets) (value more) k 0 TALKS (omega arith) (below p.header) some
    (λ q ne. ap (λ (ps : List KissPacket). not (eqb (length ps) 0)) (of_others packets p q ne))
    (λ q ne. ap tally (of_others packets p q ne))
    ∙ sym (table_listed more)

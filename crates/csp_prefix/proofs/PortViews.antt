-- what a node's ports have on a slot, and what a change there leaves of the others
use Rattle.std.specs.Prelude.{◌==◌, Bool, true, false, Option, cond, count_by, get_or, slice_set}
use Rattle.std.proofs.Common.{◌≡◌, ◌≢◌, ℕ, ◌+◌, ◌*◌, ◌<◌, List, [], ◌∷◌, ◌++◌, length, arith, refl, subst}
use Rattle.std.proofs.lemmas.Bool.{and_parts, eq-eqb, eqb-true}
use Rattle.std.proofs.lemmas.List.{get_or-set_other, get_or-set_same}
use Rattle.std.proofs.lemmas.List.Sums.{sum_by_push}
use Rattle.csp_base.specs.Seat.{seat}
use Rattle.csp_base.specs.declared.seat.Seat.{Seat}
use Rattle.csp_conn.specs.PlainConns.{place_of, slot_at}
use Rattle.csp_conn.specs.Slots.{is_free}
use Rattle.csp_conn.specs.declared.slot.Slot.{Slot}
use Rattle.csp_conn.specs.declared.slot.Slot.TheVariants as has
use Rattle.csp_ports.specs.PlainPorts.{PlainPorts, machine_at, machine_in, stalled_at, terms_at}
use Rattle.csp_ports.specs.declared.owed.Owed.{Owed}
use Rattle.csp_ports.specs.declared.terms.SlotState.{SlotState}
use Rattle.csp_ports.specs.declared.terms.Terms.{Terms}
use Rattle.csp_rdp.specs.Machine.{PlainRdp}
use Rattle.csp_prefix.specs.Ports.{Books, Ordinals, connection_in, is_end_of, is_same, waiting_payload, with_book, with_ordinal}
use Rattle.csp_prefix.specs.Slots.{Book, Now}

-- all that the ports and the log have of a slot
pub record View : Type 0 where
  pub what : Slot
  pub terms : Terms
  pub machine : PlainRdp
  pub waits : Option (List ℕ)
  pub ends : ℕ
  pub book : Book

abbrev pub view : PlainPorts → Books → Seat → View
view p books seat = record {
  what = slot_at p.conns seat;
  terms = terms_at p seat;
  machine = machine_at p seat;
  waits = waiting_payload (stalled_at p seat);
  ends = count_by (is_end_of seat) p.owed;
  book = books seat;
}

-- what the ports keep of a slot is seen there
abbrev pub with_state : SlotState → View → View
with_state x v = record v { terms = x.terms; machine = machine_in x; waits = waiting_payload x.stalled }

-- the connection there
abbrev pub now_of : View → Now
now_of v = record { connection = connection_in v.what; flags = v.terms.flags; machine = v.machine; ordinal = v.terms.ordinal; waits = v.waits; book = v.book }

-- a free slot
pub is_free-free : (s : Slot) → is_free s ≡ true → s ≡ has.Free
is_free-free has.Free e = refl
is_free-free has.Held e = absurd cc
is_free-free (has.Open c) e = absurd cc

-- ---- another slot

abbrev pub IsOther : (one other : Seat) → Type 0
IsOther one other = one ≡ other → ⊥

-- seats with the same numbers are one
pub seats_same : (one other : Seat) → one.app ≡ other.app → one.slot ≡ other.slot → one ≡ other
seats_same one other e f = λ i. seat (e i) (f i)

pub same_seat : (one other : Seat) → is_same one other ≡ true → one ≡ other
same_seat one other e =
    let parts = and_parts (one.app == other.app) (one.slot == other.slot) e in
    seats_same one other (eqb-true one.app other.app parts.0) (eqb-true one.slot other.slot parts.1)

apart : (one other : Seat) → one.slot < 4 → other.slot < 4 → IsOther one other → place_of other ≢ place_of one
apart one other h k differ e =
    let same : one.app ≡ other.app = omega (arith, e, h, k) in
    differ (seats_same one other same (omega (arith, e, same)))

pub alike : (one : Seat) → is_same one one ≡ true
alike one = rw (eq-eqb one.app one.app refl, eq-eqb one.slot one.slot refl) refl

-- each seat is the one or another
pub by_seat : (one : Seat) (P : Seat → Bool → Type 0) → P one true → ((other : Seat) → IsOther one other → P other false) → (other : Seat) → P other (is_same one other)
by_seat one P here others other = go (is_same one other) refl
  where
    go : (b : Bool) → is_same one other ≡ b → P other b
    go true e = subst (λ (s : Seat). P s true) (same_seat one other e) here
    go false e = others other (λ same. absurd (let bad : is_same one other ≡ true = subst (λ (s : Seat). is_same one s ≡ true) same (alike one) in cc))

pub unlike : (one other : Seat) → IsOther one other → is_same one other ≡ false
unlike one other differ = by_seat one (λ s b. IsOther one s → b ≡ false) (λ none. absurd (none refl)) (λ s none _. refl) other differ

-- ---- lists by place

pub get_other : {X : Type 0} → (xs : List X) (one other : Seat) (x d : X) → one.slot < 4 → other.slot < 4 → IsOther one other → get_or (slice_set xs (place_of one) x) (place_of other) d ≡ get_or xs (place_of other) d
get_other xs one other x d h k differ = get_or-set_other xs (place_of one) (place_of other) x d (apart one other h k differ)

pub get_same : {X : Type 0} → (xs : List X) (one : Seat) (n : ℕ) (x d : X) → length xs ≡ n * 4 → one.app < n → one.slot < 4 → get_or (slice_set xs (place_of one) x) (place_of one) d ≡ x
get_same xs one n x d e h k = get_or-set_same xs (place_of one) x d (omega (arith, e, h, k))

-- ---- books and ordinals

pub book_same : (one : Seat) (b : Book) (books : Books) → with_book one b books one ≡ b
book_same one b books = rw (alike one) refl

pub book_other : (one other : Seat) (b : Book) (books : Books) → IsOther one other → with_book one b books other ≡ books other
book_other one other b books differ = rw (unlike one other differ) refl

pub ordinal_same : (one : Seat) (k : ℕ) (ordinals : Ordinals) → with_ordinal one k ordinals one ≡ k
ordinal_same one k ordinals = rw (alike one) refl

pub ordinal_other : (one other : Seat) (k : ℕ) (ordinals : Ordinals) → IsOther one other → with_ordinal one k ordinals other ≡ ordinals other
ordinal_other one other k ordinals differ = rw (unlike one other differ) refl

-- ---- counts

pub count_more : (p : Owed → Bool) (os : List Owed) (o : Owed) (b : Bool) → p o ≡ b → count_by p (os ++ o ∷ []) ≡ count_by p os + cond b 1 0
count_more p os o b e = rw (sum_by_push (λ (x : Owed). cond (p x) 1 0) os o, e) refl

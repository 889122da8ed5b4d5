-- the greatest of the numbers that turns raise
use Rattle.std.specs.Prelude.{fold, max}
use Rattle.std.specs.List.{All, flat_map}
use Rattle.std.proofs.Common.{ℕ, ◌-◌, ◌+◌, ◌≤◌, List, [], ◌∷◌, ◌++◌, map, arith, subst, sym}
use Rattle.std.proofs.Math.Nat.{le-max_left, le-max_right, max-le}
use Rattle.std.proofs.lemmas.List.Concat.{flat_map-cons}
use Rattle.std.proofs.lemmas.List.Elements.{All-append, All-cons, All-head, All-map, All-nil, All-tail}
use Rattle.csp_ports.specs.Counts.{AreFar, greatest, raised, went_through}
use Rattle.csp_ports.specs.PlainPorts.{PlainPorts, machines_of, terms_of}
use Rattle.csp_ports.specs.declared.terms.Terms.{Terms}
use Rattle.csp_rdp.specs.Counts.{IsFar}
use Rattle.csp_rdp.specs.Machine.{PlainRdp}

abbrev AreBelow : ℕ → List ℕ → Type 0
AreBelow n xs = All (λ x. x ≤ n) xs

-- the greatest of a list is at most n where each is
each_below : (n a : ℕ) (xs : List ℕ) → fold max a xs ≤ n → (a ≤ n) × AreBelow n xs
each_below n a [] h = (h, All-nil (λ x. x ≤ n))
each_below n a (x ∷ xs) h =
    let rest = each_below n (max a x) xs h in
    (omega (arith, le-max_left a x, rest.0), All-cons (λ x. x ≤ n) x xs (omega (arith, le-max_right a x, rest.0)) rest.1)

greatest_below : (n a : ℕ) (xs : List ℕ) → a ≤ n → AreBelow n xs → fold max a xs ≤ n
greatest_below n a [] h all = h
greatest_below n a (x ∷ xs) h all = greatest_below n (max a x) xs (max-le h (All-head (λ x. x ≤ n) x xs all)) (All-tail (λ x. x ≤ n) x xs all)

parts_below : (n : ℕ) (xs ys : List ℕ) → AreBelow n (xs ++ ys) → AreBelow n xs × AreBelow n ys
parts_below n [] ys all = (All-nil (λ x. x ≤ n), all)
parts_below n (x ∷ xs) ys all =
    let rest = parts_below n xs ys (All-tail (λ x. x ≤ n) x (xs ++ ys) all) in
    (All-cons (λ x. x ≤ n) x xs (All-head (λ x. x ≤ n) x (xs ++ ys) all) rest.0, rest.1)

-- what went through a connection
two_below : (n : ℕ) (r : PlainRdp) → IsFar n r → AreBelow n (went_through r)
two_below n r h =
    All-cons (λ x. x ≤ n) (r.send.nxt - 1) (r.recv.cur ∷ []) (omega (arith, h.admitted))
    (All-cons (λ x. x ≤ n) r.recv.cur [] h.delivered (All-nil (λ x. x ≤ n)))

far_two : (n : ℕ) (r : PlainRdp) → AreBelow n (went_through r) → IsFar n r
far_two n r all =
    let rest = All-tail (λ x. x ≤ n) (r.send.nxt - 1) (r.recv.cur ∷ []) all in
    record { admitted = omega (arith, All-head (λ x. x ≤ n) (r.send.nxt - 1) (r.recv.cur ∷ []) all); delivered = All-head (λ x. x ≤ n) r.recv.cur [] rest }

machines_below : (n : ℕ) (rs : List PlainRdp) → All (IsFar n) rs → AreBelow n (flat_map went_through rs)
machines_below n [] all = All-nil (λ x. x ≤ n)
machines_below n (r ∷ rs) all =
    subst (AreBelow n) (sym (flat_map-cons went_through r rs))
    (All-append (λ x. x ≤ n) (went_through r) (flat_map went_through rs) (two_below n r (All-head (IsFar n) r rs all)) (machines_below n rs (All-tail (IsFar n) r rs all)))

far_machines : (n : ℕ) (rs : List PlainRdp) → AreBelow n (flat_map went_through rs) → All (IsFar n) rs
far_machines n [] all = All-nil (IsFar n)
far_machines n (r ∷ rs) all =
    let parts = parts_below n (went_through r) (flat_map went_through rs) (subst (AreBelow n) (flat_map-cons went_through r rs) all) in
    All-cons (IsFar n) r rs (far_two n r parts.0) (far_machines n rs parts.1)

-- the ends of slots
far_ends : (n : ℕ) (ts : List Terms) → AreBelow n (map (λ t. t.ordinal) ts) → All (λ t. t.ordinal ≤ n) ts
far_ends n [] all = All-nil (λ t. t.ordinal ≤ n)
far_ends n (t ∷ ts) all =
    All-cons (λ t. t.ordinal ≤ n) t ts (All-head (λ x. x ≤ n) t.ordinal (map (λ t. t.ordinal) ts) all) (far_ends n ts (All-tail (λ x. x ≤ n) t.ordinal (map (λ t. t.ordinal) ts) all))

-- ports are so far as the greatest of their numbers says, and no further
pub all_far : (n : ℕ) (p : PlainPorts) → greatest p ≤ n → AreFar n p
all_far n p h =
    let first = each_below n 0 (raised p) h in
    let rest = All-tail (λ x. x ≤ n) p.made (flat_map went_through (machines_of p) ++ map (λ t. t.ordinal) (terms_of p)) first.1 in
    let parts = parts_below n (flat_map went_through (machines_of p)) (map (λ t. t.ordinal) (terms_of p)) rest in
    record {
      machines = far_machines n (machines_of p) parts.0;
      made = All-head (λ x. x ≤ n) p.made (flat_map went_through (machines_of p) ++ map (λ t. t.ordinal) (terms_of p)) first.1;
      ends = far_ends n (terms_of p) parts.1;
    }

pub far_all : (n : ℕ) (p : PlainPorts) → AreFar n p → greatest p ≤ n
far_all n p h =
    greatest_below n 0 (raised p) (omega arith)
    (All-cons (λ x. x ≤ n) p.made (flat_map went_through (machines_of p) ++ map (λ t. t.ordinal) (terms_of p)) h.made
    (All-append (λ x. x ≤ n) (flat_map went_through (machines_of p)) (map (λ t. t.ordinal) (terms_of p)) (machines_below n (machines_of p) h.machines) (All-map (λ x. x ≤ n) (λ t. t.ordinal) (terms_of p) h.ends)))

pub greatest_further : (m : ℕ) (p q : PlainPorts) → ((n : ℕ) → AreFar n p → AreFar (n + m) q) → greatest q ≤ greatest p + m
greatest_further m p q f = far_all (greatest p + m) q (f (greatest p) (all_far (greatest p) p (omega arith)))

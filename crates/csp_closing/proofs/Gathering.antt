-- The passes of a node come together.
use Rattle.std.proofs.Common.{◌≡◌, ◌≢◌, ◌-◌, ◌≤◌, ℕ, Bool, true, false, cond, Option, None, Some, List, [], ◌∷◌, ◌++◌, ◌==◌, length, refl, sym, ap, ◌∙◌, subst, arith, append_assoc, append-nil}
use Rattle.std.specs.Prelude.{IfSome, IsSomeAnd}
use Rattle.std.specs.List.{AllByRecursion, flat_map}
use Rattle.std.specs.Option.{option_map}
use Rattle.std.proofs.lemmas.Option.{same_Some}
use Rattle.csp_base.specs.declared.priority.Prio.{Prio}
use Rattle.csp_base.specs.declared.priority.Prio.TheVariants.{Critical, High, Normal, Low}
use Rattle.csp_closing.proofs.Lists.{differs, equal, equals}
use Rattle.csp_closing.specs.Hands.{AreOpen, CanGather, all_joined, gathered, joined, joined_inbox, opening}
use Rattle.csp_closing.specs.declared.passes.Passes.{Passes}
use Rattle.csp_ends.specs.Ends.{PlainHome, PlainNodeQueues}
use Rattle.csp_inbox.specs.Marks.{is_in, without}
use Rattle.csp_inbox.specs.Passes as inbox
use Rattle.csp_log.specs.declared.shown.ItemShown.{ItemShown}
use Rattle.csp_telling.specs.Remains.{kept_by}

inbox_stays : (x : inbox.PlainInbox) (p : inbox.PlainPass) (o : Option inbox.PlainPass) → inbox.IsPassOf x p → inbox.IsPassOf x (joined_inbox p o)
inbox_stays x p None h = h
inbox_stays x p (Some y) h = record { inbox = h.inbox; room = h.room }

reads_stay : (p : inbox.PlainPass) (o : Option inbox.PlainPass) → p.role.reads ≡ true → (joined_inbox p o).role.reads ≡ true
reads_stay p None e = e
reads_stay p (Some y) e = e

-- joined passes are the opening ones still
pub open_stays : (q : PlainNodeQueues) (v : Passes) (h : PlainHome) → AreOpen q v → AreOpen q (joined v h)
open_stays q v h is = record { pool = is.pool; opens = is.opens; inbox = inbox_stays q.inbox v.inbox h.inbox is.inbox; reads = reads_stay v.inbox h.inbox is.reads }

pub all_open : (q : PlainNodeQueues) (v : Passes) (hs : List PlainHome) → AreOpen q v → AreOpen q (all_joined v hs)
all_open q v [] is = is
all_open q v (h ∷ hs) is = all_open q (joined v h) hs (open_stays q v h is)

-- what all put into the pool, and took
pub all_put : (v : Passes) (hs : List PlainHome) → (all_joined v hs).pool.hand.put ≡ v.pool.hand.put ++ flat_map (λ (h : PlainHome). h.pool.hand.put) hs
all_put v [] = sym (append-nil v.pool.hand.put)
all_put v (h ∷ hs) = all_put (joined v h) hs ∙ append_assoc v.pool.hand.put h.pool.hand.put (flat_map (λ (h : PlainHome). h.pool.hand.put) hs)

pub all_taken : (v : Passes) (hs : List PlainHome) → (all_joined v hs).pool.hand.taken ≡ v.pool.hand.taken ++ flat_map (λ (h : PlainHome). h.pool.hand.taken) hs
all_taken v [] = sym (append-nil v.pool.hand.taken)
all_taken v (h ∷ hs) = all_taken (joined v h) hs ∙ append_assoc v.pool.hand.taken h.pool.hand.taken (flat_map (λ (h : PlainHome). h.pool.hand.taken) hs)

-- each floor is reached by that of all
abbrev pub IsBelow : Passes → PlainHome → Type 0
IsBelow v h = (h.pool.hand.puts.floor ≤ v.pool.hand.puts.floor) × (h.pool.hand.takes.floor ≤ v.pool.hand.takes.floor)

pub floor_stays : (v : Passes) (hs : List PlainHome) → (v.pool.hand.puts.floor ≤ (all_joined v hs).pool.hand.puts.floor) × (v.pool.hand.takes.floor ≤ (all_joined v hs).pool.hand.takes.floor)
floor_stays v [] = (omega arith, omega arith)
floor_stays v (h ∷ hs) =
    let later = floor_stays (joined v h) hs in
    let first = later.0 in
    let second = later.1 in
    (omega (arith, first), omega (arith, second))

pub floors : (v : Passes) (hs : List PlainHome) → AllByRecursion (IsBelow (all_joined v hs)) hs
floors v [] = tt
floors v (h ∷ hs) =
    let later = floor_stays (joined v h) hs in
    let first = later.0 in
    let second = later.1 in
    ((omega (arith, first), omega (arith, second)), floors (joined v h) hs)

-- as many passes are out as before, less those that were joined
pub all_out : (v : Passes) (hs : List PlainHome) → AllByRecursion (λ (h : PlainHome). h.pool.hand.part ≡ 1) hs → (all_joined v hs).pool.hand.out ≡ v.pool.hand.out - length hs
all_out v [] parts = omega arith
all_out v (h ∷ hs) parts =
    let later = all_out (joined v h) hs parts.1 in
    let one = parts.0 in
    omega (arith, later, one)

pub region_stays : (v : Passes) (hs : List PlainHome) → (all_joined v hs).pool.hand.region ≡ v.pool.hand.region
region_stays v [] = refl
region_stays v (h ∷ hs) = region_stays (joined v h) hs

token_one : (p : inbox.PlainPass) (o : Option inbox.PlainPass) → (joined_inbox p o).role.token.name ≡ p.role.token.name
token_one p None = refl
token_one p (Some y) = refl

pub token_stays : (v : Passes) (hs : List PlainHome) → (all_joined v hs).inbox.role.token.name ≡ v.inbox.role.token.name
token_stays v [] = refl
token_stays v (h ∷ hs) = token_stays (joined v h) hs ∙ token_one v.inbox h.inbox

-- what all put into the inbox, of a priority
kept_one : (p : Prio) (x : inbox.PlainPass) (o : Option inbox.PlainPass) → (inbox.mail_at (joined_inbox x o) p).kept ≡ (inbox.mail_at x p).kept ++ kept_by p o
kept_one Critical x (Some y) = refl
kept_one High x (Some y) = refl
kept_one Normal x (Some y) = refl
kept_one Low x (Some y) = refl
kept_one p x None = sym (append-nil (inbox.mail_at x p).kept)

pub all_kept : (p : Prio) (v : Passes) (hs : List PlainHome) → (inbox.mail_at (all_joined v hs).inbox p).kept ≡ (inbox.mail_at v.inbox p).kept ++ flat_map (λ (h : PlainHome). kept_by p h.inbox) hs
all_kept p v [] = sym (append-nil (inbox.mail_at v.inbox p).kept)
all_kept p v (h ∷ hs) =
    all_kept p (joined v h) hs
    ∙ ap (λ (is : List ItemShown). is ++ flat_map (λ (h : PlainHome). kept_by p h.inbox) hs) (kept_one p v.inbox h.inbox)
    ∙ append_assoc (inbox.mail_at v.inbox p).kept (kept_by p h.inbox) (flat_map (λ (h : PlainHome). kept_by p h.inbox) hs)

-- the first alone got
got_one : (p : Prio) (x : inbox.PlainPass) (o : Option inbox.PlainPass) → (inbox.mail_at (joined_inbox x o) p).got ≡ (inbox.mail_at x p).got
got_one Critical x (Some y) = refl
got_one High x (Some y) = refl
got_one Normal x (Some y) = refl
got_one Low x (Some y) = refl
got_one p x None = refl

pub all_got : (p : Prio) (v : Passes) (hs : List PlainHome) → (inbox.mail_at (all_joined v hs).inbox p).got ≡ (inbox.mail_at v.inbox p).got
all_got p v [] = refl
all_got p v (h ∷ hs) = all_got p (joined v h) hs ∙ got_one p v.inbox h.inbox

-- and each floor of a priority is reached by that of all
floor_own : (p : Prio) (x : inbox.PlainPass) (o : Option inbox.PlainPass) → (inbox.mail_at x p).puts_floor ≤ (inbox.mail_at (joined_inbox x o) p).puts_floor
floor_own Critical x (Some y) = omega arith
floor_own High x (Some y) = omega arith
floor_own Normal x (Some y) = omega arith
floor_own Low x (Some y) = omega arith
floor_own p x None = omega arith

floor_other : (p : Prio) (x : inbox.PlainPass) (o : Option inbox.PlainPass) → IfSome o (λ y. (inbox.mail_at y p).puts_floor ≤ (inbox.mail_at (joined_inbox x o) p).puts_floor)
floor_other Critical x (Some y) = omega arith
floor_other High x (Some y) = omega arith
floor_other Normal x (Some y) = omega arith
floor_other Low x (Some y) = omega arith
floor_other p x None = tt

pub mail_floor_stays : (p : Prio) (v : Passes) (hs : List PlainHome) → (inbox.mail_at v.inbox p).puts_floor ≤ (inbox.mail_at (all_joined v hs).inbox p).puts_floor
mail_floor_stays p v [] = omega arith
mail_floor_stays p v (h ∷ hs) =
    let first = floor_own p v.inbox h.inbox in
    let later = mail_floor_stays p (joined v h) hs in
    omega (arith, first, later)

abbrev pub IsMailBelow : Prio → inbox.PlainPass → PlainHome → Type 0
IsMailBelow p x h = IfSome h.inbox (λ y. (inbox.mail_at y p).puts_floor ≤ (inbox.mail_at x p).puts_floor)

below_then : (o : Option inbox.PlainPass) (p : Prio) (n m : ℕ) → n ≤ m → IfSome o (λ y. (inbox.mail_at y p).puts_floor ≤ n) → IfSome o (λ y. (inbox.mail_at y p).puts_floor ≤ m)
below_then None p n m h k = tt
below_then (Some y) p n m h k = omega (arith, h, k)

pub mail_floors : (p : Prio) (v : Passes) (hs : List PlainHome) → AllByRecursion (IsMailBelow p (all_joined v hs).inbox) hs
mail_floors p v [] = tt
mail_floors p v (h ∷ hs) = (below_then h.inbox p _ _ (mail_floor_stays p (joined v h) hs) (floor_other p v.inbox h.inbox), mail_floors p (joined v h) hs)

-- a mark that is out still was out before, and no joined pass has it
without_in : (m n : ℕ) (ks : List ℕ) → is_in (without m ks) n ≡ true → (is_in ks n ≡ true) × (m ≢ n)
without_in m n [] e = absurd cc
without_in m n (k ∷ ks) e = by (k == m) refl (k == n) refl (without_in m n ks) e where
  by : (b : Bool) → (k == m) ≡ b → (c : Bool) → (k == n) ≡ c → (is_in (without m ks) n ≡ true → (is_in ks n ≡ true) × (m ≢ n)) → is_in (cond b (without m ks) (k ∷ without m ks)) n ≡ true → (cond c true (is_in ks n) ≡ true) × (m ≢ n)
  by true f true g later e = (refl, (later e).1)
  by true f false g later e = later e
  by false f true g later e = (refl, λ same. differs k m f (equal k n g ∙ sym same))
  by false f false g later e = later (ap (λ (b : Bool). cond b true (is_in (without m ks) n)) (sym g) ∙ e)

pub no_marks : (ks : List ℕ) → ((m : ℕ) → is_in ks m ≡ true → ⊥) → ks ≡ []
no_marks [] h = refl
no_marks (k ∷ ks) h = absurd (h k (ap (λ (b : Bool). cond b true (is_in ks k)) (equals k k refl)))

abbrev pub HasNoMark : ℕ → PlainHome → Type 0
HasNoMark m h = option_map (λ (x : inbox.PlainPass). x.role.mark) h.inbox ≢ Some m

out_one : (m : ℕ) (x : inbox.PlainPass) (o : Option inbox.PlainPass) → is_in (joined_inbox x o).role.out m ≡ true → (is_in x.role.out m ≡ true) × (option_map (λ (x : inbox.PlainPass). x.role.mark) o ≢ Some m)
out_one m x None e = (e, λ f. cc)
out_one m x (Some y) e =
    let both = without_in y.role.mark m x.role.out e in
    (both.0, λ f. both.1 (same_Some y.role.mark m f))

pub out_all : (m : ℕ) (v : Passes) (hs : List PlainHome) → is_in (all_joined v hs).inbox.role.out m ≡ true → (is_in v.inbox.role.out m ≡ true) × AllByRecursion (HasNoMark m) hs
out_all m v [] e = (e, tt)
out_all m v (h ∷ hs) e =
    let later = out_all m (joined v h) hs e in
    let one = out_one m v.inbox h.inbox later.0 in
    (one.0, (one.1, later.1))

-- gathered passes are the opening ones
pub gathered_open : (q : PlainNodeQueues) (hs : List PlainHome) (v : Passes) → CanGather q hs → gathered hs ≡ Some v → AreOpen q v
gathered_open q [] v can e = absurd can
gathered_open q (h ∷ hs) v can e = by (opening h) can.0 e where
  by : (o : Option Passes) → IsSomeAnd o (AreOpen q) → option_map (λ (w : Passes). all_joined w hs) o ≡ Some v → AreOpen q v
  by None is f = absurd is
  by (Some w) is f = subst (AreOpen q) (same_Some (all_joined w hs) v f) (all_open q w hs is)

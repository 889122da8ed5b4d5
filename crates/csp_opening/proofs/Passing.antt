-- How passes are parted among the parties of nodes.
use Rattle.std.proofs.Common.{◌≡◌, ◌⊎◌, inl, inr, ◌+◌, ◌==◌, ◌<◌, ℕ, zero, suc, Bool, true, false, true≢false, List, [], ◌∷◌, Option, None, Some, cond, length, map, refl, sym, ap, ◌∙◌, subst, arith}
use Rattle.std.specs.Prelude.{⊤, IsSome, IsSomeAnd, slice_get}
use Rattle.std.specs.List.{AllByRecursion, count_by}
use Rattle.std.specs.Option.{option_map}
use Rattle.std.proofs.lemmas.Bool.{eq-eqb, eqb-true, false_from_ne_true}
use Rattle.std.proofs.lemmas.List.Sums.{sum_by-cons}
use Rattle.std.proofs.lemmas.Option.{same_Some, slice_get-map, slice_get_within}
use Rattle.csp_ends.proofs.Public.{get_within}
use Rattle.csp_inbox.specs.Marks.{is_in, with_mark}
use Rattle.csp_inbox.specs.Passes as inbox
use Rattle.csp_log.specs.declared.places.TheConstants.{UNMARKED}
use Rattle.csp_opening.specs.Parted.{CanPart, CanPartAll, IsOpening, after_app, after_iface, changed, part_home, part_homes, part_left, parts_left, iface_home, app_home}
use Rattle.csp_opening.specs.declared.homes.Lead.{Lead}
use Rattle.csp_log.specs.declared.who.Who.{Who}
use Rattle.csp_log.specs.declared.who.Who.TheVariants as who

-- what no parting changes of the passes
abbrev pub fixed : Lead → Lead
fixed l = record {
  pool = record { pool = l.pool.pool; hand = record l.pool.hand { out = 0 } };
  inbox = record l.inbox { role = inbox.role l.inbox.role.token.name l.inbox.role.room l.inbox.role.mark l.inbox.role.writes l.inbox.role.reads [] };
}

changed_fixed : (f : Lead → Lead) → ((l : Lead) → fixed (f l) ≡ fixed l) → (k : ℕ) (leads : List Lead) → map fixed (changed k f leads) ≡ map fixed leads
changed_fixed f same k [] = refl
changed_fixed f same zero (l ∷ leads) = ap (λ x. x ∷ map fixed leads) (same l)
changed_fixed f same (suc k) (l ∷ leads) = ap (λ xs. fixed l ∷ xs) (changed_fixed f same k leads)

left_fixed : (leads : List Lead) (w : Who) → map fixed (part_left leads w) ≡ map fixed leads
left_fixed leads (who.Iface n k) = changed_fixed (after_iface k) (λ l. refl) n leads
left_fixed leads (who.App n k) = changed_fixed after_app (λ l. refl) n leads
left_fixed leads (who.Router n) = refl
left_fixed leads (who.Bridge n) = refl
left_fixed leads (who.Link k) = refl

pub all_fixed : (leads : List Lead) (ws : List Who) → map fixed (parts_left leads ws) ≡ map fixed leads
all_fixed leads [] = refl
all_fixed leads (w ∷ ws) = all_fixed (part_left leads w) ws ∙ left_fixed leads w

-- what is split off is the same, whatever was before
home_fixed : (leads : List Lead) (w : Who) → part_home leads w ≡ part_home (map fixed leads) w
home_fixed leads (who.Iface n k) = by (slice_get leads n) ∙ ap (option_map (iface_home n k)) (sym (slice_get-map fixed leads n)) where
  by : (o : Option Lead) → option_map (iface_home n k) o ≡ option_map (iface_home n k) (option_map fixed o)
  by None = refl
  by (Some l) = refl
home_fixed leads (who.App n k) = by (slice_get leads n) ∙ ap (option_map (app_home n)) (sym (slice_get-map fixed leads n)) where
  by : (o : Option Lead) → option_map (app_home n) o ≡ option_map (app_home n) (option_map fixed o)
  by None = refl
  by (Some l) = refl
home_fixed leads (who.Router n) = refl
home_fixed leads (who.Bridge n) = refl
home_fixed leads (who.Link k) = refl

pub homes_same : (first leads : List Lead) (ws : List Who) → map fixed leads ≡ map fixed first → part_homes leads ws ≡ map (part_home first) ws
homes_same first leads [] e = refl
homes_same first leads (w ∷ ws) e =
    let one : part_home leads w ≡ part_home first w = home_fixed leads w ∙ ap (λ ls. part_home ls w) e ∙ sym (home_fixed first w) in
    λ i. one i ∷ homes_same first (part_left leads w) ws (left_fixed leads w ∙ e) i

-- the first pass of the inbox stays that
pub opening_stays : (leads others : List Lead) → map fixed others ≡ map fixed leads → AllByRecursion IsOpening leads → AllByRecursion IsOpening others
opening_stays [] [] e h = tt
opening_stays (l ∷ leads) (x ∷ others) e h =
    let one : fixed x ≡ fixed l = same_Some (fixed x) (fixed l) (ap (λ xs. slice_get xs 0) e) in
    let rest : map fixed others ≡ map fixed leads = ap tail e in
    (record { mark = ap (λ (y : Lead). y.inbox.role.mark) one ∙ h.0.mark; reads = ap (λ (y : Lead). y.inbox.role.reads) one ∙ h.0.reads }, opening_stays leads others rest h.1) where
      tail : List Lead → List Lead
      tail [] = []
      tail (y ∷ ys) = ys
opening_stays [] (x ∷ others) e h = absurd cc
opening_stays (l ∷ leads) [] e h = absurd cc

-- whether a party's passes are split off from those of a node
abbrev pub parts_at : ℕ → Who → Bool
parts_at m (who.Iface n k) = n == m
parts_at m (who.App n k) = n == m
parts_at m (who.Router n) = false
parts_at m (who.Bridge n) = false
parts_at m (who.Link k) = false

-- the interface of a node with this number is among these
pub record HasMark (m j : ℕ) (ws : List Who) : Type 0 where
  pub place : ℕ
  pub at : slice_get ws place ≡ Some (who.Iface m j)

-- what parting leaves of the passes of a node
pub record IsLeft (m : ℕ) (ws : List Who) (l x : Lead) : Type 0 where
  pub fixed : fixed x ≡ fixed l
  pub out : x.pool.hand.out ≡ l.pool.hand.out + count_by (parts_at m) ws
  pub marks : (j : ℕ) → is_in x.inbox.role.out j ≡ true → (is_in l.inbox.role.out j ≡ true) ⊎ HasMark m j ws

-- what one parting does to those of a node
pub record IsPast (m : ℕ) (w : Who) (l x : Lead) : Type 0 where
  pub fixed : fixed x ≡ fixed l
  pub out : x.pool.hand.out ≡ l.pool.hand.out + cond (parts_at m w) 1 0
  pub marks : (j : ℕ) → is_in x.inbox.role.out j ≡ true → (is_in l.inbox.role.out j ≡ true) ⊎ (w ≡ who.Iface m j)

-- a change at a place
changed_same : (f : Lead → Lead) (k : ℕ) (leads : List Lead) (l : Lead) → slice_get leads k ≡ Some l → slice_get (changed k f leads) k ≡ Some (f l)
changed_same f k [] l e = absurd cc
changed_same f zero (y ∷ leads) l e = ap (λ z. Some (f z)) (same_Some y l e)
changed_same f (suc k) (y ∷ leads) l e = changed_same f k leads l e

changed_other : (f : Lead → Lead) (k m : ℕ) (leads : List Lead) → (k ≡ m → ⊥) → slice_get (changed k f leads) m ≡ slice_get leads m
changed_other f k m [] apart = refl
changed_other f zero zero (y ∷ leads) apart = absurd (apart refl)
changed_other f zero (suc m) (y ∷ leads) apart = refl
changed_other f (suc k) zero (y ∷ leads) apart = refl
changed_other f (suc k) (suc m) (y ∷ leads) apart = changed_other f k m leads (λ e. apart (ap suc e))

unlike : (k m : ℕ) → (k == m) ≡ false → k ≡ m → ⊥
unlike k m e same = true≢false (sym (eq-eqb k m same) ∙ e)

marked : (b : Bool) (k j : ℕ) (rest : Bool) → (k == j) ≡ b → cond b true rest ≡ true → (rest ≡ true) ⊎ (k ≡ j)
marked true k j rest at e = inr (eqb-true k j at)
marked false k j rest at e = inl e

same_mark : (n m k j : ℕ) {b : Bool} → n ≡ m → (b ≡ true) ⊎ (k ≡ j) → (b ≡ true) ⊎ (who.Iface n k ≡ who.Iface m j)
same_mark n m k j node (inl x) = inl x
same_mark n m k j node (inr same) = inr (λ i. who.Iface (node i) (same i))

left_at : (leads : List Lead) (w : Who) (m : ℕ) (l : Lead) → slice_get leads m ≡ Some l → (x : Lead) × (slice_get (part_left leads w) m ≡ Some x) × IsPast m w l x
left_at leads (who.Iface n k) m l e = by (n == m) refl where
  by : (b : Bool) → (n == m) ≡ b → (x : Lead) × (slice_get (changed n (after_iface k) leads) m ≡ Some x) × IsPast m (who.Iface n k) l x
  by true at =
      let node : n ≡ m = eqb-true n m at in (
        after_iface k l,
        ap (λ j. slice_get (changed j (after_iface k) leads) m) node ∙ changed_same (after_iface k) m leads l e,
        record {
          fixed = refl;
          out = ap (λ c. l.pool.hand.out + cond c 1 0) (sym at);
          marks = λ j is. same_mark n m k j node (marked (k == j) k j (is_in l.inbox.role.out j) refl is);
        },
      )
  by false at = (
    l,
    changed_other (after_iface k) n m leads (unlike n m at) ∙ e,
    record { fixed = refl; out = (let z : cond {A = ℕ} (parts_at m (who.Iface n k)) 1 0 ≡ 0 = ap (λ c. cond c 1 0) at in omega (arith, z)); marks = λ j is. inl is },
  )
left_at leads (who.App n k) m l e = by (n == m) refl where
  by : (b : Bool) → (n == m) ≡ b → (x : Lead) × (slice_get (changed n after_app leads) m ≡ Some x) × IsPast m (who.App n k) l x
  by true at = (
    after_app l,
    ap (λ j. slice_get (changed j after_app leads) m) (eqb-true n m at) ∙ changed_same after_app m leads l e,
    record { fixed = refl; out = ap (λ c. l.pool.hand.out + cond c 1 0) (sym at); marks = λ j is. inl is },
  )
  by false at = (
    l,
    changed_other after_app n m leads (unlike n m at) ∙ e,
    record { fixed = refl; out = (let z : cond {A = ℕ} (parts_at m (who.App n k)) 1 0 ≡ 0 = ap (λ c. cond c 1 0) at in omega (arith, z)); marks = λ j is. inl is },
  )
left_at leads (who.Router n) m l e = (l, e, record { fixed = refl; out = (let z : cond {A = ℕ} (parts_at m (who.Router n)) 1 0 ≡ 0 = refl in omega (arith, z)); marks = λ j is. inl is })
left_at leads (who.Bridge n) m l e = (l, e, record { fixed = refl; out = (let z : cond {A = ℕ} (parts_at m (who.Bridge n)) 1 0 ≡ 0 = refl in omega (arith, z)); marks = λ j is. inl is })
left_at leads (who.Link k) m l e = (l, e, record { fixed = refl; out = (let z : cond {A = ℕ} (parts_at m (who.Link k)) 1 0 ≡ 0 = refl in omega (arith, z)); marks = λ j is. inl is })

later : (m j : ℕ) (w : Who) (ws : List Who) → HasMark m j ws → HasMark m j (w ∷ ws)
later m j w ws h = record { place = suc h.place; at = h.at }

pub parts_at_node : (leads : List Lead) (ws : List Who) (m : ℕ) (l : Lead) → slice_get leads m ≡ Some l → (x : Lead) × (slice_get (parts_left leads ws) m ≡ Some x) × IsLeft m ws l x
parts_at_node leads [] m l e = (l, e, record { fixed = refl; out = (let z : count_by (parts_at m) [] ≡ 0 = refl in omega (arith, z)); marks = λ j is. inl is })
parts_at_node leads (w ∷ ws) m l e =
    let one = left_at leads w m l e in
    let all = parts_at_node (part_left leads w) ws m one.0 one.1 in (
      all.0,
      all.1,
      record {
        fixed = all.2.fixed ∙ one.2.fixed;
        out = let first = one.2.out in let rest = all.2.out in let sum = sum_by-cons (λ v. cond (parts_at m v) 1 0) w ws in omega (arith, first, rest, sum);
        marks = λ j is. back j (all.2.marks j is);
      },
    ) where
      back : (j : ℕ) → (is_in (left_at leads w m l e).0.inbox.role.out j ≡ true) ⊎ HasMark m j ws → (is_in l.inbox.role.out j ≡ true) ⊎ HasMark m j (w ∷ ws)
      back j (inr h) = inr (later m j w ws h)
      back j (inl is) = first ((left_at leads w m l e).2.marks j is) where
        first : (is_in l.inbox.role.out j ≡ true) ⊎ (w ≡ who.Iface m j) → (is_in l.inbox.role.out j ≡ true) ⊎ HasMark m j (w ∷ ws)
        first (inl x) = inl x
        first (inr same) = inr (record { place = 0; at = ap Some same })

-- no interface of a node that is still to come has a mark that went out, and nothing was put into the inbox
pub record IsReadyFor (m : ℕ) (ws : List Who) (l : Lead) : Type 0 where
  pub mark : l.inbox.role.mark ≡ UNMARKED
  pub free : (j place : ℕ) → is_in l.inbox.role.out j ≡ true → slice_get ws place ≡ Some (who.Iface m j) → ⊥
  pub critical : l.inbox.critical.kept ≡ []
  pub high : l.inbox.high.kept ≡ []
  pub normal : l.inbox.normal.kept ≡ []
  pub low : l.inbox.low.kept ≡ []

-- a party that has passes split off is of one of so many nodes, and the number of an interface is a mark
abbrev pub IsMarkable : ℕ → Who → Type 0
IsMarkable nodes (who.Iface n k) = (n < nodes) × (k < UNMARKED)
IsMarkable nodes (who.App n k) = n < nodes
IsMarkable nodes (who.Router n) = ⊤
IsMarkable nodes (who.Bridge n) = ⊤
IsMarkable nodes (who.Link k) = ⊤

-- no two of these have one name
abbrev pub NamedApart : List Who → Type 0
NamedApart ws = (i j : ℕ) (w : Who) → slice_get ws i ≡ Some w → slice_get ws j ≡ Some w → i ≡ j

changed_long : (f : Lead → Lead) (k : ℕ) (leads : List Lead) → length (changed k f leads) ≡ length leads
changed_long f k [] = refl
changed_long f zero (l ∷ leads) = refl
changed_long f (suc k) (l ∷ leads) = ap suc (changed_long f k leads)

left_long : (leads : List Lead) (w : Who) → length (part_left leads w) ≡ length leads
left_long leads (who.Iface n k) = changed_long (after_iface k) n leads
left_long leads (who.App n k) = changed_long after_app n leads
left_long leads (who.Router n) = refl
left_long leads (who.Bridge n) = refl
left_long leads (who.Link k) = refl

pub parts_long : (leads : List Lead) (ws : List Who) → length (parts_left leads ws) ≡ length leads
parts_long leads [] = refl
parts_long leads (w ∷ ws) = parts_long (part_left leads w) ws ∙ left_long leads w

can_part : (nodes : ℕ) (leads : List Lead) (w : Who) (ws : List Who) → length leads ≡ nodes → IsMarkable nodes w → ((m : ℕ) (l : Lead) → slice_get leads m ≡ Some l → IsReadyFor m (w ∷ ws) l) → CanPart leads w
can_part nodes leads (who.Iface n k) ws long ok ready =
    let l = get_within leads n (let low = ok.0 in omega (arith, low, long)) in
    let r = ready n l.0 l.1 in
    subst (λ o. IsSomeAnd o (λ x. inbox.IsFree x.inbox k)) (sym l.1) (record {
      other = λ same. (let mark = ok.1 in let is = r.mark in omega (arith, mark, is, same));
      home = false_from_ne_true (is_in l.0.inbox.role.out k) (λ out. r.free k 0 out refl);
      critical = ap (with_mark k) r.critical;
      high = ap (with_mark k) r.high;
      normal = ap (with_mark k) r.normal;
      low = ap (with_mark k) r.low;
    })
can_part nodes leads (who.App n k) ws long ok ready =
    let l = get_within leads n (omega (arith, ok, long)) in
    subst (λ (o : Option Lead). IsSome o) (sym l.1) refl
can_part nodes leads (who.Router n) ws long ok ready = tt
can_part nodes leads (who.Bridge n) ws long ok ready = tt
can_part nodes leads (who.Link k) ws long ok ready = tt

-- what is fixed of passes is told of by these
kept_of : (l x : Lead) → fixed x ≡ fixed l → (m : ℕ) (ws : List Who) → IsReadyFor m ws l → ((j place : ℕ) → is_in x.inbox.role.out j ≡ true → slice_get ws place ≡ Some (who.Iface m j) → ⊥) → IsReadyFor m ws x
kept_of l x same m ws r free = record {
  mark = ap (λ (y : Lead). y.inbox.role.mark) same ∙ r.mark;
  free = free;
  critical = ap (λ (y : Lead). y.inbox.critical.kept) same ∙ r.critical;
  high = ap (λ (y : Lead). y.inbox.high.kept) same ∙ r.high;
  normal = ap (λ (y : Lead). y.inbox.normal.kept) same ∙ r.normal;
  low = ap (λ (y : Lead). y.inbox.low.kept) same ∙ r.low;
}

-- of a place of what was changed, what was there before
back_at : (leads : List Lead) (w : Who) (m : ℕ) (x : Lead) → slice_get (part_left leads w) m ≡ Some x → (l : Lead) × (slice_get leads m ≡ Some l) × IsPast m w l x
back_at leads w m x at =
    let l = get_within leads m (let low = slice_get_within (part_left leads w) m x at in let long = left_long leads w in omega (arith, low, long)) in
    let past = left_at leads w m l.0 l.1 in
    (l.0, l.1, subst (IsPast m w l.0) (same_Some past.0 x (sym past.1 ∙ at)) past.2)

pub can_part_all : (nodes : ℕ) (leads : List Lead) (ws : List Who) → length leads ≡ nodes → AllByRecursion (IsMarkable nodes) ws → NamedApart ws → ((m : ℕ) (l : Lead) → slice_get leads m ≡ Some l → IsReadyFor m ws l)
    → CanPartAll leads ws
can_part_all nodes leads [] long ok apart ready = tt
can_part_all nodes leads (w ∷ ws) long ok apart ready = (
  can_part nodes leads w ws long ok.0 ready,
  can_part_all nodes (part_left leads w) ws (left_long leads w ∙ long) ok.1 (λ i j v a b. (let same = apart (suc i) (suc j) v a b in omega (arith, same))) next,
) where
  next : (m : ℕ) (x : Lead) → slice_get (part_left leads w) m ≡ Some x → IsReadyFor m ws x
  next m x at =
      let was = back_at leads w m x at in
      let r = ready m was.0 was.1 in
      let rest : IsReadyFor m ws was.0 = record { mark = r.mark; free = λ j place out e. r.free j (suc place) out e; critical = r.critical; high = r.high; normal = r.normal; low = r.low } in
      kept_of was.0 x was.2.fixed m ws rest (λ j place out e. clash was.0 r j place e (was.2.marks j out)) where
        clash : (l : Lead) → IsReadyFor m (w ∷ ws) l → (j place : ℕ) → slice_get ws place ≡ Some (who.Iface m j) → (is_in l.inbox.role.out j ≡ true) ⊎ (w ≡ who.Iface m j) → ⊥
        clash l r j place e (inl out) = r.free j (suc place) out e
        clash l r j place e (inr same) = (let wrong = apart 0 (suc place) (who.Iface m j) (ap Some same) e in omega (arith, wrong))

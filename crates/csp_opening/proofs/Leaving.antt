-- What was opened can be left, also in the midst of opening more.
use Rattle.std.proofs.Common.{◌≡◌, ◌+◌, ◌<◌, ℕ, zero, suc, List, [], ◌∷◌, ◌++◌, length, map, take, refl, sym, ap, ◌∙◌, subst, arith}
use Rattle.std.specs.Prelude.{Option, Some, slice_get, vec_len}
use Rattle.std.specs.List.{AllByRecursion}
use Rattle.std.proofs.lemmas.Option.{same_Some}
use Rattle.std.proofs.lemmas.List.{append_assoc, length-append, length-map, map-append}
use Rattle.std.specs.Global.{Vec}
use Rattle.csp_arena.specs.Cells.{RegionName}
use Rattle.csp_base.specs.declared.priority.Prio.{Prio}
use Rattle.csp_base.specs.declared.priority.Prio.TheVariants.{Critical, High, Normal, Low}
use Rattle.csp_ends.specs.Ends.{PlainHome, PlainSide}
use Rattle.csp_inbox.specs.Passes as mails
use Rattle.csp_lane.specs.Ends as ways
use Rattle.csp_opening.proofs.Backs.{told_more}
use Rattle.csp_opening.specs.Handed.{AreHanded, HaveRoom, handed_from, list_at}
use Rattle.csp_opening.specs.Opened.{AreLanes, AreNodesWith, AreTold, AreUnused, CanLeave, HasLaneMore, IsMail, IsNodeOf, ends_in, pair_of, pairs_on}
use Rattle.csp_opening.specs.Parted.{home_with, leads_past}
use Rattle.csp_opening.specs.Posted.{CanPost, CanPostAll, CanPostFrom, ends_with, post_with, posts_from, posts_with}
use Rattle.csp_opening.specs.declared.homes.Lead.{Lead}
use Rattle.csp_opening.specs.declared.lanes.Lanes.{Lanes}
use Rattle.csp_opening.specs.declared.lanes.Pair.{Pair}
use Rattle.csp_opening.specs.declared.mails.Mail.{Mail}
use Rattle.csp_opening.specs.declared.nodes.Node.{Node}
use Rattle.csp_opening.specs.declared.unposted.Unposted.{Unposted}
use Rattle.csp_topology.specs.Plan.{PlainNodePlan}
use Rattle.csp_topology.specs.declared.wire.Wire.{Wire}

-- lanes that were just opened are unused
pub unused_on : (region : RegionName) (ws : List Wire) (ls : List ways.PlainLane) → map (λ (l : ways.PlainLane). l.room) ls ≡ map (λ (w : Wire). w.room) ws
    → AreUnused ls (map (λ (w : Wire). w.room) ws) (pairs_on region ws ls)
unused_on region [] [] e = tt
unused_on region (w ∷ ws) (l ∷ ls) e = (
  record { producer = record { lane = refl; room = refl; tally = refl; about = refl }; consumer = record { lane = refl; room = refl; tally = refl; about = refl }; none = refl; room = (let same = first l.room w.room e in omega (arith, same)) },
  unused_on region ws ls (ap rest e),
) where
  rest : List ℕ → List ℕ
  rest [] = []
  rest (k ∷ ks) = ks

  first : (a b : ℕ) {ks js : List ℕ} → a ∷ ks ≡ b ∷ js → a ≡ b
  first a b same = ap (head a) same where
    head : ℕ → List ℕ → ℕ
    head d [] = d
    head d (k ∷ ks) = k
unused_on region [] (l ∷ ls) e = absurd cc
unused_on region (w ∷ ws) [] e = absurd cc

pub are_unused : (region : RegionName) (ws : List Wire) (l : Lanes) → AreLanes region ws l → AreUnused l.lanes.items l.rooms.items l.ends.items
are_unused region ws l h =
    subst (λ rs. AreUnused l.lanes.items rs l.ends.items) (sym h.spare) (subst (λ es. AreUnused l.lanes.items (map (λ (w : Wire). w.room) ws) es) (sym h.ends) (unused_on region ws l.lanes.items h.rooms))

-- an inbox that was just opened can be left
pub is_mail : (region : RegionName) (m : Mail) (count : ℕ) → m.pass ≡ mails.opening_pass m.inbox region → m.inbox.room ≡ count → m.room ≡ count → IsMail m
is_mail region m count pass room left = record {
  of_it = record { inbox = ap (λ (p : mails.PlainPass). p.inbox) pass; room = ap (λ (p : mails.PlainPass). p.role.room) pass };
  all_in = record { reads = ap (λ (p : mails.PlainPass). p.role.reads) pass; home = ap (λ (p : mails.PlainPass). p.role.out) pass };
  unused = none;
  room = omega (arith, room, left);
} where
  none : (p : Prio) → (mails.mail_at m.pass p).kept ≡ []
  none Critical = ap (λ (p : mails.PlainPass). p.critical.kept) pass
  none High = ap (λ (p : mails.PlainPass). p.high.kept) pass
  none Normal = ap (λ (p : mails.PlainPass). p.normal.kept) pass
  none Low = ap (λ (p : mails.PlainPass). p.low.kept) pass

-- so can a node
pub can_leave : (n : PlainNodePlan) (ws : List Wire) (x : Node) → IsNodeOf n ws x → CanLeave x
can_leave n ws x h = record { base = h.base; mail = is_mail x.base.store.region x.mail n.inbox h.pass h.inbox h.left; lanes = are_unused x.base.store.region ws x.lanes h.lanes }

-- one lane more
pairs_more : (region : RegionName) (ws : List Wire) (ls : List ways.PlainLane) (w : Wire) (l : ways.PlainLane) → length ls ≡ length ws → pairs_on region (ws ++ w ∷ []) (ls ++ l ∷ []) ≡ pairs_on region ws ls ++ pair_of region w l ∷ []
pairs_more region [] [] w l long = refl
pairs_more region (v ∷ ws) (k ∷ ls) w l long = ap (λ ps. pair_of region v k ∷ ps) (pairs_more region ws ls w l (omega (arith, long)))
pairs_more region [] (k ∷ ls) w l long = absurd (omega (arith, long))
pairs_more region (v ∷ ws) [] w l long = absurd (omega (arith, long))

pub lanes_more : (region : RegionName) (ws : List Wire) (w : Wire) (a b : Lanes) → AreLanes region ws a → HasLaneMore region w a b → AreLanes region (ws ++ w ∷ []) b
lanes_more region ws w a b h more = record {
  rooms = ap (map (λ (x : ways.PlainLane). x.room)) more.lanes ∙ map-append (λ (x : ways.PlainLane). x.room) a.lanes.items (more.lane ∷ []) ∙ (λ i. h.rooms i ++ more.room i ∷ [])
      ∙ sym (map-append (λ (v : Wire). v.room) ws (w ∷ []));
  spare = more.rooms ∙ ap (λ rs. rs ++ w.room ∷ []) h.spare ∙ sym (map-append (λ (v : Wire). v.room) ws (w ∷ []));
  ends = more.ends ∙ ap (λ es. es ++ pair_of region w more.lane ∷ []) h.ends
      ∙ sym (pairs_more region ws a.lanes.items w more.lane (sym (length-map a.lanes.items (λ (x : ways.PlainLane). x.room)) ∙ ap (λ (ks : List ℕ). length ks) h.rooms ∙ length-map ws (λ (v : Wire). v.room)))
      ∙ ap (pairs_on region (ws ++ w ∷ [])) (sym more.lanes);
  told = subst (λ ps. AreTold [] ps) (sym more.ends) (told_more [] a.ends.items (pair_of region w more.lane) h.told more.about);
}

-- one node more
pub nodes_more : (ns : List PlainNodePlan) (wires : List (List Wire)) (xs : List Node) (n : PlainNodePlan) (ws : List Wire) (x : Node) → AreNodesWith ns wires xs → IsNodeOf n ws x → AreNodesWith (ns ++ n ∷ []) (wires ++ ws ∷ []) (xs ++ x ∷ [])
nodes_more [] [] [] n ws x h is = (is, tt)
nodes_more (m ∷ ns) (vs ∷ wires) (y ∷ xs) n ws x h is = (h.0, nodes_more ns wires xs n ws x h.1 is)
nodes_more [] (vs ∷ wires) xs n ws x h is = absurd h
nodes_more [] [] (y ∷ xs) n ws x h is = absurd h
nodes_more (m ∷ ns) [] xs n ws x h is = absurd h
nodes_more (m ∷ ns) (vs ∷ wires) [] n ws x h is = absurd h

-- room for what is handed out first, and for the rest once that was
pub room_first : (sides : List (Vec PlainSide)) (one more : ℕ → List PlainSide) → HaveRoom sides (λ p. length (one p ++ more p)) → HaveRoom sides (λ p. length (one p))
room_first sides one more h p low = let all = h p low in let long = length-append (one p) (more p) in omega (arith, all, long)

pub room_rest : (sides after : List (Vec PlainSide)) (one more : ℕ → List PlainSide) → HaveRoom sides (λ p. length (one p ++ more p)) → AreHanded sides one after → HaveRoom after (λ p. length (more p))
room_rest sides after one more h handed p low =
    let count = handed.count in
    let here : p < length sides = omega (arith, low, count) in
    let all = h p here in
    let long = length-append (one p) (more p) in
    let list = ap (λ (xs : List PlainSide). length xs) (handed.lists p here) in
    let two = length-append (list_at sides p) (one p) in
    let room = handed.rooms p here in
    omega (arith, all, long, list, two, room)

pub lists_rest : (sides after : List (Vec PlainSide)) (one more : ℕ → List PlainSide) (p : ℕ) → p < length sides → AreHanded sides one after → list_at after p ++ more p ≡ list_at sides p ++ (one p ++ more p)
lists_rest sides after one more p low handed = ap (λ xs. xs ++ more p) (handed.lists p low) ∙ append_assoc (list_at sides p) (one p) (more p)

-- what holds of no node, and of one more, holds of all
pub node_by_node : (Q : List PlainNodePlan → List (List Wire) → List Node → Type 0) → Q [] [] [] → ((n : PlainNodePlan) (ws : List Wire) (x : Node) (ns : List PlainNodePlan) (wires : List (List Wire)) (xs : List Node) → IsNodeOf n ws x → Q ns wires xs → Q (n ∷ ns) (ws ∷ wires) (x ∷ xs))
    → (ns : List PlainNodePlan) (wires : List (List Wire)) (xs : List Node) → AreNodesWith ns wires xs → Q ns wires xs
node_by_node Q none more [] [] [] h = none
node_by_node Q none more (n ∷ ns) (ws ∷ wires) (x ∷ xs) h = more n ws x ns wires xs h.0 (node_by_node Q none more ns wires xs h.1)
node_by_node Q none more [] (ws ∷ wires) xs h = absurd h
node_by_node Q none more [] [] (x ∷ xs) h = absurd h
node_by_node Q none more (n ∷ ns) [] xs h = absurd h
node_by_node Q none more (n ∷ ns) (ws ∷ wires) [] h = absurd h

-- all of them can
pub all_leave : (ns : List PlainNodePlan) (wires : List (List Wire)) (xs : List Node) → AreNodesWith ns wires xs → AllByRecursion CanLeave xs
all_leave = node_by_node (λ ns wires xs. AllByRecursion CanLeave xs) tt (λ n ws x ns wires xs is rest. (can_leave n ws x is, rest))

pub as_many : (ns : List PlainNodePlan) (wires : List (List Wire)) (xs : List Node) → AreNodesWith ns wires xs → length xs ≡ length ns
as_many = node_by_node (λ ns wires xs. length xs ≡ length ns) refl (λ n ws x ns wires xs is rest. ap suc rest)

-- the first elements, and one more
pub take_more : {A : Type 0} → (xs : List A) (k : ℕ) (x : A) → slice_get xs k ≡ Some x → take (k + 1) xs ≡ take k xs ++ x ∷ []
take_more {A = A} xs k x e = (let same : k + 1 ≡ suc k = omega arith in ap (λ j. take j xs) same ∙ by xs k e) where
  by : (ys : List A) (j : ℕ) → slice_get ys j ≡ Some x → take (suc j) ys ≡ take j ys ++ x ∷ []
  by [] j e = absurd cc
  by (y ∷ ys) zero e = ap (λ z. z ∷ []) (same_Some y x e)
  by (y ∷ ys) (suc j) e = ap (λ zs. y ∷ zs) (by ys j e)

-- what was appended, then the rest, is all
pub moved : {A B : Type 0} → (f : A → B) (new old : List B) (x : A) (rest all : List A) (total : List B) → new ≡ old ++ f x ∷ [] → all ≡ x ∷ rest → old ++ map f all ≡ total → new ++ map f rest ≡ total
moved f new old x rest all total e is h = ap (λ xs. xs ++ map f rest) e ∙ append_assoc old (f x ∷ []) (map f rest) ∙ ap (λ ys. old ++ map f ys) (sym is) ∙ h

-- a list with one more is longer by one
pub len_more : {A : Type 0} → (new old : Vec A) (x : A) → new.items ≡ old.items ++ x ∷ [] → vec_len new ≡ vec_len old + 1
len_more {A = A} new old x e =
    let a = ap (λ (xs : List A). length xs) e in
    let b = length-append old.items (x ∷ []) in
    let c = new.ok.0 in
    let d = old.ok.0 in
    omega (arith, a, b, c, d)

-- what holds of the images holds of each
pub all_unmapped : {A B : Type 0} → (P : B → Type 0) (f : A → B) (xs : List A) → AllByRecursion P (map f xs) → AllByRecursion (λ x. P (f x)) xs
all_unmapped P f [] h = tt
all_unmapped P f (x ∷ xs) h = (h.0, all_unmapped P f xs h.1)

-- each party has what it was handed
pub can_all : (p : ℕ) (ends : List (List Pair)) (leads : List Lead) (unposted : List Unposted) (homes : List (Option PlainHome)) (sides : List (Vec PlainSide)) → CanPostFrom p ends leads unposted homes → length sides ≡ length unposted
    → ((k j : ℕ) → k < length sides → j ≡ p + k → list_at sides k ≡ handed_from j 0 ends) → CanPostAll leads unposted homes sides
can_all p ends leads [] homes sides can long handed = tt
can_all p ends leads (s ∷ unposted) (h ∷ homes) (v ∷ sides) can long handed = (
  subst (λ l. CanPost s (ends_with (home_with leads s.who h) l)) (sym (handed 0 p (omega arith) (omega arith))) can.0,
  can_all (p + 1) ends (leads_past leads s.who) unposted homes sides can.1 (omega (arith, long)) (λ k j low same. handed (suc k) j (omega (arith, low)) (omega (arith, same))),
)
can_all p ends leads (s ∷ unposted) [] sides can long handed = absurd can
can_all p ends leads (s ∷ unposted) (h ∷ homes) [] can long handed = absurd (omega (arith, long))

pub same_posts : (p : ℕ) (ends : List (List Pair)) (leads : List Lead) (unposted : List Unposted) (homes : List (Option PlainHome)) (sides : List (Vec PlainSide)) → length sides ≡ length unposted
    → ((k j : ℕ) → k < length sides → j ≡ p + k → list_at sides k ≡ handed_from j 0 ends) → posts_with leads unposted homes sides ≡ posts_from p ends leads unposted homes
same_posts p ends leads [] homes sides long handed = refl
same_posts p ends leads (s ∷ unposted) [] sides long handed = refl
same_posts p ends leads (s ∷ unposted) (h ∷ homes) (v ∷ sides) long handed =
    λ i. post_with s (ends_with (home_with leads s.who h) (handed 0 p (omega arith) (omega arith) i))
    ∷ same_posts (p + 1) ends (leads_past leads s.who) unposted homes sides (omega (arith, long)) (λ k j low same. handed (suc k) j (omega (arith, low)) (omega (arith, same))) i
same_posts p ends leads (s ∷ unposted) (h ∷ homes) [] long handed = absurd (omega (arith, long))

-- the ends of lanes, as they are kept
pub ends_are : (xs : List Node) → map (λ (pairs : Vec Pair). pairs.items) (map (λ (x : Node). x.lanes.ends) xs) ≡ map ends_in xs
ends_are [] = refl
ends_are (x ∷ xs) = ap (λ ps. ends_in x ∷ ps) (ends_are xs)

-- Where the links of a scene end: the ends at a node stand in the order of its interfaces.
use Rattle.std.proofs.Common.{◌≡◌, ℕ, zero, suc, ◌+◌, ◌==◌, ◌||◌, Bool, true, false, cond, Some, List, [], ◌∷◌, ◌++◌, length, map, slice_get, ap, refl, sym, ◌∙◌, arith}
use Rattle.std.specs.List.{list_any, range_with_len}
use Rattle.std.proofs.lemmas.Bool.{eqb-true, eq-eqb}
use Rattle.std.proofs.lemmas.List.{length-append, length-map}
use Rattle.std.proofs.lemmas.List.Elements.{filter-append}
use Rattle.std.proofs.lemmas.Option.{same_Some}
use Rattle.csp_log.specs.Kinds.{carried_on}
use Rattle.csp_log.specs.declared.places.Carries.{Carries}
use Rattle.csp_log.specs.declared.places.End.{End}
use Rattle.csp_scene.specs.Kept.{AreLinksAfter, IsEndAfter}
use Rattle.csp_scene.specs.Links.{links_at, touches}
use Rattle.csp_scene.specs.Ranges.{AreApart, HasEnds}
use Rattle.csp_scene.specs.Scene.{PlainLink, PlainScene}
use Rattle.csp_topology.proofs.Places.{Among, all_at, among, get-first, get-made, get-second, kept-from, kept-there, made-from, of_first, of_second, range-from}
use Rattle.csp_topology.specs.Wires.{PlainJoint, is_at, joint_of, joints_at, joints_from, joints_on}

-- ---- of which end of which link one is

record IsOn (number : ℕ) (carries : Carries) (at : ℕ) (es : List End) (j : PlainJoint) : Type 0 where
  pub index : ℕ
  pub end : End
  pub there : slice_get es index ≡ Some end
  pub is : j ≡ joint_of number carries (at + index) end

is_on : (number : ℕ) (carries : Carries) (at : ℕ) (es : List End) (i : ℕ) (j : PlainJoint) → slice_get (joints_on number carries at es) i ≡ Some j → IsOn number carries at es j
is_on number carries at [] i j e = absurd cc
is_on number carries at (x ∷ es) zero j e = record { index = 0; end = x; there = refl; is = sym (same_Some (joint_of number carries at x) j e) ∙ ap (λ (k : ℕ). joint_of number carries k x) (omega arith) }
is_on number carries at (x ∷ es) (suc i) j e =
    let h = is_on number carries (at + 1) es i j e in
    record { index = suc h.index; end = h.end; there = h.there; is = h.is ∙ ap (λ (k : ℕ). joint_of number carries k h.end) (omega arith) }

on_there : (number : ℕ) (carries : Carries) (at : ℕ) (es : List End) (i : ℕ) (x : End) → slice_get es i ≡ Some x → slice_get (joints_on number carries at es) i ≡ Some (joint_of number carries (at + i) x)
on_there number carries at [] i x e = absurd cc
on_there number carries at (y ∷ es) zero x e = ap (λ (z : End). Some (joint_of number carries at z)) (same_Some y x e) ∙ ap (λ (k : ℕ). Some (joint_of number carries k x)) (omega arith)
on_there number carries at (y ∷ es) (suc i) x e = on_there number carries (at + 1) es i x e ∙ ap (λ (k : ℕ). Some (joint_of number carries k x)) (omega arith)

-- an end of one of these links
pub record IsJoint (number : ℕ) (links : List PlainLink) (j : PlainJoint) : Type 0 where
  pub index : ℕ
  pub link : PlainLink
  pub place : ℕ
  pub end : End
  pub there : slice_get links index ≡ Some link
  pub at : slice_get link.ends place ≡ Some end
  pub is : j ≡ joint_of (number + index) (carried_on link.kind) place end

pub is_joint : (number : ℕ) (links : List PlainLink) (i : ℕ) (j : PlainJoint) → slice_get (joints_from number links) i ≡ Some j → IsJoint number links j
is_joint number [] i j e = absurd cc
is_joint number (l ∷ links) i j e = by (among (joints_on number (carried_on l.kind) 0 l.ends) (joints_from (number + 1) links) i j e) (λ k f. is_joint (number + 1) links k j f) where
  by : Among (joints_on number (carried_on l.kind) 0 l.ends) (joints_from (number + 1) links) i j → ((k : ℕ) → slice_get (joints_from (number + 1) links) k ≡ Some j → IsJoint (number + 1) links j) → IsJoint number (l ∷ links) j
  by (of_first f) rest =
      let h = is_on number (carried_on l.kind) 0 l.ends i j f in
      record {
        index = 0;
        link = l;
        place = h.index;
        end = h.end;
        there = refl;
        at = h.there;
        is = h.is
            ∙ ap (λ (k : ℕ). joint_of k (carried_on l.kind) (0 + h.index) h.end) (omega arith)
            ∙ ap (λ (k : ℕ). joint_of (number + 0) (carried_on l.kind) k h.end) (omega arith);
      }
  by (of_second k at f) rest =
      let h = rest k f in
      record { index = suc h.index; link = h.link; place = h.place; end = h.end; there = h.there; at = h.at; is = h.is ∙ ap (λ (m : ℕ). joint_of m (carried_on h.link.kind) h.place h.end) (omega arith) }

pub joint_there : (number : ℕ) (links : List PlainLink) (i place : ℕ) (l : PlainLink) (x : End) → slice_get links i ≡ Some l → slice_get l.ends place ≡ Some x
    → (k : ℕ) × (slice_get (joints_from number links) k ≡ Some (joint_of (number + i) (carried_on l.kind) place x))
joint_there number [] i place l x there at = absurd cc
joint_there number (y ∷ links) zero place l x there at =
    let same : y ≡ l = same_Some y l there in
    let own : slice_get y.ends place ≡ Some x = ap (λ (z : PlainLink). slice_get z.ends place) same ∙ at in (
      place,
      get-first (joints_on number (carried_on y.kind) 0 y.ends) (joints_from (number + 1) links) place (joint_of number (carried_on y.kind) (0 + place) x) (on_there number (carried_on y.kind) 0 y.ends place x own)
          ∙ ap (λ (z : PlainLink). Some (joint_of number (carried_on z.kind) (0 + place) x)) same
          ∙ ap (λ (k : ℕ). Some (joint_of number (carried_on l.kind) k x)) (omega arith)
          ∙ ap (λ (k : ℕ). Some (joint_of k (carried_on l.kind) place x)) (omega arith),
    )
joint_there number (y ∷ links) (suc i) place l x there at =
    let (k, got) = joint_there (number + 1) links i place l x there at in (
      length (joints_on number (carried_on y.kind) 0 y.ends) + k,
      get-second (joints_on number (carried_on y.kind) 0 y.ends) (joints_from (number + 1) links) k ∙ got ∙ ap (λ (m : ℕ). Some (joint_of m (carried_on l.kind) place x)) (omega arith),
    )

-- ---- at a node

-- one more link
more_links : (node : ℕ) (earlier : List PlainLink) (l : PlainLink) (b : Bool) → touches node l ≡ b → length (links_at node (earlier ++ l ∷ [])) ≡ length (links_at node earlier) + cond b 1 0
more_links node earlier l b e =
    ap (λ (ls : List PlainLink). length ls) (filter-append (touches node) earlier (l ∷ []))
    ∙ length-append (links_at node earlier) (links_at node (l ∷ []))
    ∙ ap (λ (c : Bool). length (links_at node earlier) + length (cond c (l ∷ []) [])) e
    ∙ by b where
      by : (c : Bool) → length (links_at node earlier) + length (cond c (l ∷ []) []) ≡ length (links_at node earlier) + cond c 1 0
      by true = refl
      by false = refl

abbrev pub iface_at : PlainJoint → ℕ
iface_at j = j.end.iface

abbrev pub carried : PlainLink → Carries
carried l = carried_on l.kind

-- a link whose ends are at different nodes has one end at a node which it touches, and none at another
pub data Touch (node number : ℕ) (carries : Carries) (at : ℕ) (es : List End) : Type 0 where
  at_one : (place : ℕ) (x : End) → slice_get es place ≡ Some x → (x.node == node) ≡ true → list_any (λ (e : End). e.node == node) es ≡ true
      → joints_at node (joints_on number carries at es) ≡ joint_of number carries (at + place) x ∷ [] → Touch node number carries at es
  at_none : list_any (λ (e : End). e.node == node) es ≡ false → joints_at node (joints_on number carries at es) ≡ [] → Touch node number carries at es

-- ends of which none is at a node
abbrev NoneAt : ℕ → List End → Type 0
NoneAt node es = (k : ℕ) (x : End) → slice_get es k ≡ Some x → (x.node == node) ≡ true → ⊥

untouched : (node number : ℕ) (carries : Carries) (at : ℕ) (es : List End) → NoneAt node es → (list_any (λ (e : End). e.node == node) es ≡ false) × (joints_at node (joints_on number carries at es) ≡ [])
untouched node number carries at [] none = (refl, refl)
untouched node number carries at (x ∷ es) none = by (x.node == node) refl (untouched node number carries (at + 1) es (λ k y e here. none (suc k) y e here)) where
  by : (b : Bool) → (x.node == node) ≡ b → (list_any (λ (e : End). e.node == node) es ≡ false) × (joints_at node (joints_on number carries (at + 1) es) ≡ [])
      → (list_any (λ (e : End). e.node == node) (x ∷ es) ≡ false) × (joints_at node (joints_on number carries at (x ∷ es)) ≡ [])
  by true e rest = absurd (none 0 x refl e)
  by false e rest = (ap (λ (b : Bool). b || list_any (λ (e : End). e.node == node) es) e ∙ rest.0, ap (λ (b : Bool). cond b (joint_of number carries at x ∷ joints_at node (joints_on number carries (at + 1) es)) (joints_at node (joints_on number carries (at + 1) es))) e ∙ rest.1)

touch : (node number : ℕ) (carries : Carries) (at : ℕ) (es : List End) → AreApart es → Touch node number carries at es
touch node number carries at [] apart = at_none refl refl
touch node number carries at (x ∷ es) apart = by (x.node == node) refl (λ rest. touch node number carries (at + 1) es rest) where
  alone : (x.node == node) ≡ true → NoneAt node es
  alone e k y there same = (let h = apart 0 (suc k) x y refl there (eqb-true x.node node e ∙ sym (eqb-true y.node node same)) in absurd (omega (arith, h)))

  later : AreApart es
  later i j a b e f same = let h = apart (suc i) (suc j) a b e f same in omega (arith, h)

  first : (b : Bool) → (x.node == node) ≡ b → joints_at node (joints_on number carries at (x ∷ es)) ≡ cond b (joint_of number carries at x ∷ joints_at node (joints_on number carries (at + 1) es)) (joints_at node (joints_on number carries (at + 1) es))
  first b e = ap (λ (c : Bool). cond c (joint_of number carries at x ∷ joints_at node (joints_on number carries (at + 1) es)) (joints_at node (joints_on number carries (at + 1) es))) e

  any : (b : Bool) → (x.node == node) ≡ b → list_any (λ (e : End). e.node == node) (x ∷ es) ≡ (b || list_any (λ (e : End). e.node == node) es)
  any b e = ap (λ (c : Bool). c || list_any (λ (e : End). e.node == node) es) e

  past : (x.node == node) ≡ false → Touch node number carries (at + 1) es → Touch node number carries at (x ∷ es)
  past e (at_one place y there same touched one) =
      at_one (suc place) y there same (any false e ∙ touched) (first false e ∙ one ∙ ap (λ (k : ℕ). joint_of number carries k y ∷ []) (omega arith))
  past e (at_none touched none) = at_none (any false e ∙ touched) (first false e ∙ none)

  by : (b : Bool) → (x.node == node) ≡ b → (AreApart es → Touch node number carries (at + 1) es) → Touch node number carries at (x ∷ es)
  by true e more =
      at_one 0 x refl e (any true e)
      (first true e ∙ ap (λ (js : List PlainJoint). joint_of number carries at x ∷ js) (untouched node number carries (at + 1) es (alone e)).1 ∙ ap (λ (k : ℕ). joint_of number carries k x ∷ []) (omega arith))
  by false e more = past e (more later)

-- how a link touches a node
abbrev pub TouchOf : ℕ → ℕ → PlainLink → Type 0
TouchOf node number l = Touch node number (carried_on l.kind) 0 l.ends

pub touch_of : (node number : ℕ) (l : PlainLink) → HasEnds l → TouchOf node number l
touch_of node number l is = touch node number (carried_on l.kind) 0 l.ends is.apart

-- the ends of a link at a node, then those of the others
pub split_at : (node number : ℕ) (l : PlainLink) (links : List PlainLink)
    → joints_at node (joints_from number (l ∷ links)) ≡ joints_at node (joints_on number (carried_on l.kind) 0 l.ends) ++ joints_at node (joints_from (number + 1) links)
split_at node number l links = filter-append (is_at node) (joints_on number (carried_on l.kind) 0 l.ends) (joints_from (number + 1) links)

-- the interfaces of the ends at a node are numbered in order, and each carries what its link does
abbrev pub AreOrdered : ℕ → ℕ → List PlainJoint → List PlainLink → Type 0
AreOrdered node first js links = (map iface_at (joints_at node js) ≡ range_with_len first (length (links_at node links))) × (map (λ j. j.carries) (joints_at node js) ≡ map carried (links_at node links))

ordered : (nodes node a number : ℕ) (earlier links : List PlainLink) → AreLinksAfter nodes earlier links → a ≡ length (links_at node earlier) → AreOrdered node a (joints_from number links) links
ordered nodes node a number earlier [] are count = (refl, refl)
ordered nodes node a number earlier (l ∷ links) are count =
    by (touch_of node number l are.0.shape) (λ m same. ordered nodes node m (number + 1) (earlier ++ l ∷ []) links are.1 same) where
      rest : List PlainJoint
      rest = joints_from (number + 1) links

      split : (js : List PlainJoint) → joints_at node (joints_on number (carried_on l.kind) 0 l.ends) ≡ js → joints_at node (joints_from number (l ∷ links)) ≡ js ++ joints_at node rest
      split js e = split_at node number l links ∙ ap (λ (ks : List PlainJoint). ks ++ joints_at node rest) e

      here : (b : Bool) → touches node l ≡ b → links_at node (l ∷ links) ≡ cond b (l ∷ links_at node links) (links_at node links)
      here b e = ap (λ (c : Bool). cond c (l ∷ links_at node links) (links_at node links)) e

      by : TouchOf node number l → ((m : ℕ) → m ≡ length (links_at node (earlier ++ l ∷ [])) → AreOrdered node m rest links) → AreOrdered node a (joints_from number (l ∷ links)) (l ∷ links)
      by (at_one place x there e t one) more =
          let grown = more_links node earlier l true t in
          let h = more (a + 1) (omega (arith, count, grown)) in
          let own : x.iface ≡ a = (all_at (IsEndAfter nodes earlier) l.ends place x are.0.ends there).iface ∙ ap (λ (n : ℕ). length (links_at n earlier)) (eqb-true x.node node e) ∙ sym count in
          let js = split (joint_of number (carried_on l.kind) (0 + place) x ∷ []) one in
          let ls = here true t in (
            ap (map iface_at) js ∙ ap (λ (k : ℕ). k ∷ map iface_at (joints_at node rest)) own ∙ ap (λ (ks : List ℕ). a ∷ ks) h.0 ∙ ap (λ (ys : List PlainLink). range_with_len a (length ys)) (sym ls),
            ap (map (λ (j : PlainJoint). j.carries)) js ∙ ap (λ (cs : List Carries). carried_on l.kind ∷ cs) h.1 ∙ ap (map carried) (sym ls),
          )
      by (at_none t none) more =
          let grown = more_links node earlier l false t in
          let h = more a (omega (arith, count, grown)) in
          let js = split [] none in
          let ls = here false t in (
            ap (map iface_at) js ∙ h.0 ∙ ap (λ (ys : List PlainLink). range_with_len a (length ys)) (sym ls),
            ap (map (λ (j : PlainJoint). j.carries)) js ∙ h.1 ∙ ap (map carried) (sym ls),
          )

-- ---- of a scene

-- all ends of its links, and those at a node
abbrev pub all_joints : PlainScene → List PlainJoint
all_joints scene = joints_from 0 scene.links

abbrev pub joints_of : PlainScene → ℕ → List PlainJoint
joints_of scene node = joints_at node (all_joints scene)

abbrev pub ArePlaced : PlainScene → Type 0
ArePlaced scene = AreLinksAfter (length scene.nodes) [] scene.links

pub joints_ordered : (scene : PlainScene) → ArePlaced scene → (node : ℕ) → AreOrdered node 0 (all_joints scene) scene.links
joints_ordered scene are node = ordered (length scene.nodes) node 0 0 [] scene.links are refl

pub joints_count : (scene : PlainScene) → ArePlaced scene → (node : ℕ) → length (joints_of scene node) ≡ length (links_at node scene.links)
joints_count scene are node =
    let h = (joints_ordered scene are node).1 in
    sym (length-map (joints_of scene node) (λ (j : PlainJoint). j.carries)) ∙ ap (λ (cs : List Carries). length cs) h ∙ length-map (links_at node scene.links) carried

-- the end of a link at this interface of this node
pub record IsAt (scene : PlainScene) (node k : ℕ) (j : PlainJoint) : Type 0 where
  pub link : PlainLink
  pub there : slice_get scene.links j.link ≡ Some link
  pub at : slice_get link.ends j.place ≡ Some j.end
  pub carries : j.carries ≡ carried_on link.kind
  pub node_is : j.end.node ≡ node
  pub iface_is : j.end.iface ≡ k

iface_number : (scene : PlainScene) → ArePlaced scene → (node k : ℕ) (j : PlainJoint) → slice_get (joints_of scene node) k ≡ Some j → j.end.iface ≡ k
iface_number scene are node k j at =
    let number = (range-from 0 (length (links_at node scene.links)) k j.end.iface (ap (λ (ks : List ℕ). slice_get ks k) (sym (joints_ordered scene are node).0) ∙ get-made iface_at (joints_of scene node) k j at)).1 in
    omega (arith, number)

pub joint_is : (scene : PlainScene) → ArePlaced scene → (node k : ℕ) (j : PlainJoint) → slice_get (joints_of scene node) k ≡ Some j → IsAt scene node k j
joint_is scene are node k j at =
    let (i, all, here) = kept-from (is_at node) (all_joints scene) k j at in
    let h = is_joint 0 scene.links i j all in
    let number : j.link ≡ h.index = ap (λ (x : PlainJoint). x.link) h.is ∙ omega arith in
    record {
      link = h.link;
      there = ap (slice_get scene.links) number ∙ h.there;
      at = ap (slice_get h.link.ends) (ap (λ (x : PlainJoint). x.place) h.is) ∙ h.at ∙ ap (λ (x : PlainJoint). Some x.end) (sym h.is);
      carries = ap (λ (x : PlainJoint). x.carries) h.is;
      node_is = eqb-true j.end.node node here;
      iface_is = iface_number scene are node k j at;
    }

-- each end of a link is one of those at its node, at the place of its interface
pub end_joint : (scene : PlainScene) → ArePlaced scene → (i place : ℕ) (l : PlainLink) (x : End) → slice_get scene.links i ≡ Some l → slice_get l.ends place ≡ Some x
    → slice_get (joints_of scene x.node) x.iface ≡ Some (joint_of i (carried_on l.kind) place x)
end_joint scene are i place l x there at =
    let (q, all) = joint_there 0 scene.links i place l x there at in
    let made : slice_get (all_joints scene) q ≡ Some (joint_of i (carried_on l.kind) place x) = all ∙ ap (λ (m : ℕ). Some (joint_of m (carried_on l.kind) place x)) (omega arith) in
    let (k, kept) = kept-there (is_at x.node) (all_joints scene) q (joint_of i (carried_on l.kind) place x) made (eq-eqb x.node x.node refl) in
    ap (slice_get (joints_of scene x.node)) (iface_number scene are x.node k (joint_of i (carried_on l.kind) place x) kept) ∙ kept

-- and an interface on a link has one that carries what the link does
pub link_joint : (scene : PlainScene) → ArePlaced scene → (node k : ℕ) (l : PlainLink) → slice_get (links_at node scene.links) k ≡ Some l → (j : PlainJoint) × (slice_get (joints_of scene node) k ≡ Some j) × (j.carries ≡ carried_on l.kind)
link_joint scene are node k l on =
    made-from (λ (j : PlainJoint). j.carries) (joints_of scene node) k (carried_on l.kind) (ap (λ (cs : List Carries). slice_get cs k) (joints_ordered scene are node).1 ∙ get-made carried (links_at node scene.links) k l on)

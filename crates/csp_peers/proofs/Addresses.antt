-- No two nodes of a scene have the same address.
use Rattle.std.proofs.Common.{◌≡◌, ℕ, zero, suc, Bool, true, false, ◌||◌, List, [], ◌∷◌, ◌++◌, map, slice_get, slice_set, Option, Some, None, unwrap_or, Ok, refl, sym, ap, subst, ◌∙◌}
use Rattle.std.specs.List.{AllByRecursion, list_any}
use Rattle.std.proofs.lemmas.Bool.{eq-eqb}
use Rattle.std.proofs.lemmas.List.{map-append}
use Rattle.csp_scene.proofs.Public.{IsOfNodes, nodes_are}
use Rattle.csp_scene.specs.Judge.{scene_of}
use Rattle.csp_scene.specs.Links.{node_at}
use Rattle.csp_scene.specs.Naming.{has_addr, is_addr_taken}
use Rattle.csp_scene.specs.Scene.{PlainNode, PlainScene}
use Rattle.csp_peers.specs.Addressed.{AreAddressedApart}

-- ---- addresses that are all different

abbrev addresses_of : List PlainNode → List (Option ℕ)
addresses_of nodes = map (λ n. n.addr) nodes

-- they are not the same address
abbrev IsApart : Option ℕ → Option ℕ → Type 0
IsApart one other = (addr : ℕ) → one ≡ Some addr → other ≡ Some addr → ⊥

abbrev Differ : List (Option ℕ) → Type 0
Differ [] = Unit {0}
Differ (one ∷ others) = AllByRecursion (IsApart one) others × Differ others

apart_more : (one more : Option ℕ) (others : List (Option ℕ)) → AllByRecursion (IsApart one) others → IsApart one more → AllByRecursion (IsApart one) (others ++ more ∷ [])
apart_more one more [] all here = (here, tt)
apart_more one more (other ∷ others) all here = (all.0, apart_more one more others all.1 here)

differ_more : (more : Option ℕ) (addrs : List (Option ℕ)) → Differ addrs → AllByRecursion (IsApart more) addrs → Differ (addrs ++ more ∷ [])
differ_more more [] differ apart = (tt, tt)
differ_more more (one ∷ others) differ apart = (apart_more one more others differ.0 (λ addr e f. apart.0 addr f e), differ_more more others differ.1 apart.1)

-- an address that no node has
clash : true ≡ false → ⊥
clash e = cc

other_addr : (addr : ℕ) (one : Option ℕ) → has_addr addr one ≡ false → IsApart (Some addr) one
other_addr addr None is a e f = absurd cc
other_addr addr (Some b) is a e f =
    let same : b ≡ addr = cc in
    clash (sym (eq-eqb b addr same) ∙ is)

none_taken : (addr : ℕ) (nodes : List PlainNode) → list_any (λ node. has_addr addr node.addr) nodes ≡ false → AllByRecursion (IsApart (Some addr)) (addresses_of nodes)
none_taken addr [] e = tt
none_taken addr (n ∷ nodes) e = by_test (has_addr addr n.addr) refl e (none_taken addr nodes)
  where
    by_test : (b : Bool) → has_addr addr n.addr ≡ b → (b || list_any (λ node. has_addr addr node.addr) nodes) ≡ false
        → (list_any (λ node. has_addr addr node.addr) nodes ≡ false → AllByRecursion (IsApart (Some addr)) (addresses_of nodes)) → AllByRecursion (IsApart (Some addr)) (addresses_of (n ∷ nodes))
    by_test true is none later = absurd (clash none)
    by_test false is none later = (other_addr addr n.addr is, later none)

apart_none : (addrs : List (Option ℕ)) → AllByRecursion (IsApart None) addrs
apart_none [] = tt
apart_none (one ∷ others) = ((λ addr e f. absurd cc), apart_none others)

apart_untaken : (addr : Option ℕ) (nodes : List PlainNode) → is_addr_taken addr nodes ≡ false → AllByRecursion (IsApart addr) (addresses_of nodes)
apart_untaken None nodes e = apart_none (addresses_of nodes)
apart_untaken (Some addr) nodes e = none_taken addr nodes e

-- a node is changed, not its address
addresses_set : (nodes : List PlainNode) (place : ℕ) (node : PlainNode) → node.addr ≡ (node_at nodes place).addr → addresses_of (slice_set nodes place node) ≡ addresses_of nodes
addresses_set [] place node same = refl
addresses_set (n ∷ nodes) zero node same = ap (λ addr. addr ∷ addresses_of nodes) same
addresses_set (n ∷ nodes) (suc place) node same = ap (λ addrs. n.addr ∷ addrs) (addresses_set nodes place node same)

-- nodes whose addresses are different are addressed apart
lacking : (one : Option ℕ) (nodes : List PlainNode) (j : ℕ) (n : PlainNode) (addr : ℕ) → AllByRecursion (IsApart one) (addresses_of nodes) → slice_get nodes j ≡ Some n → one ≡ Some addr → n.addr ≡ Some addr → ⊥
lacking one [] j n addr all there e f = absurd cc
lacking one (x ∷ nodes) zero n addr all there e f = all.0 addr e (ap (λ o. (unwrap_or o x).addr) there ∙ f)
lacking one (x ∷ nodes) (suc j) n addr all there e f = lacking one nodes j n addr all.1 there e f

addressed : (nodes : List PlainNode) → Differ (addresses_of nodes) → AreAddressedApart nodes
addressed [] differ i j m n addr one other e f = absurd cc
addressed (x ∷ nodes) differ zero zero m n addr one other e f = refl
addressed (x ∷ nodes) differ zero (suc j) m n addr one other e f = absurd (lacking x.addr nodes j n addr differ.0 other (ap (λ o. (unwrap_or o x).addr) one ∙ e) f)
addressed (x ∷ nodes) differ (suc i) zero m n addr one other e f = absurd (lacking x.addr nodes i m addr differ.0 one (ap (λ o. (unwrap_or o x).addr) other ∙ f) e)
addressed (x ∷ nodes) differ (suc i) (suc j) m n addr one other e f = ap suc (addressed nodes differ.1 i j m n addr one other e f)

-- so they are in every scene
are_apart : IsOfNodes (λ nodes. Differ (addresses_of nodes))
are_apart = record {
  none = tt;
  more = λ d node differ named taken. subst Differ (sym (map-append (λ n. n.addr) d.nodes (node ∷ []))) (differ_more node.addr (addresses_of d.nodes) differ (apart_untaken node.addr d.nodes taken));
  same = λ nodes place node name addr differ. subst Differ (sym (addresses_set nodes place node addr)) differ;
}

-- no two nodes of a scene that a text states have the same address
pub addressed_apart : (text : List ℕ) (scene : PlainScene) → scene_of text ≡ Ok scene → AreAddressedApart scene.nodes
addressed_apart text scene e = addressed scene.nodes (nodes_are (λ nodes. Differ (addresses_of nodes)) are_apart text scene e)

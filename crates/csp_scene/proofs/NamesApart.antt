-- No two nodes of a scene have the same name.
use Rattle.std.proofs.Common.{◌≡◌, ℕ, zero, suc, Bool, true, false, ◌||◌, List, [], ◌∷◌, ◌++◌, map, slice_get, slice_set, Some, unwrap_or, Ok, refl, sym, ap, subst, ◌∙◌}
use Rattle.std.specs.List.{AllByRecursion, list_any}
use Rattle.std.specs.Str.{bytes_eq}
use Rattle.std.proofs.lemmas.List.{map-append}
use Rattle.std.proofs.lemmas.Slice.Eq.{bytes_eq-Decides}
use Rattle.csp_scene.specs.Scene.{PlainNode, PlainLink, PlainScene}
use Rattle.csp_scene.specs.Links.{node_at}
use Rattle.csp_scene.specs.Naming.{has_name, is_link_called, is_name_taken, AreNamedApart}
use Rattle.csp_scene.specs.Judge.{scene_of}
use Rattle.csp_scene.proofs.NodesAre.{IsOfNodes, nodes_are}

-- ---- names that are all different

abbrev names_of : List PlainNode → List (List ℕ)
names_of nodes = map (λ n. n.name) nodes

abbrev Lacks : List ℕ → List (List ℕ) → Type 0
Lacks word names = AllByRecursion (λ name. name ≡ word → ⊥) names

abbrev Differ : List (List ℕ) → Type 0
Differ [] = Unit {0}
Differ (name ∷ names) = Lacks name names × Differ names

lacks_more : (word more : List ℕ) (names : List (List ℕ)) → Lacks word names → (more ≡ word → ⊥) → Lacks word (names ++ more ∷ [])
lacks_more word more [] lacks other = (other, tt)
lacks_more word more (name ∷ names) lacks other = (lacks.0, lacks_more word more names lacks.1 other)

differ_more : (word : List ℕ) (names : List (List ℕ)) → Differ names → Lacks word names → Differ (names ++ word ∷ [])
differ_more word [] differ lacks = (tt, tt)
differ_more word (name ∷ names) differ lacks = (lacks_more name word names differ.0 (λ same. lacks.0 (sym same)), differ_more word names differ.1 lacks.1)

-- a name that no node has
clash : true ≡ false → ⊥
clash e = cc

lacks_untaken : (word : List ℕ) (nodes : List PlainNode) → list_any (has_name word) nodes ≡ false → Lacks word (names_of nodes)
lacks_untaken word [] e = tt
lacks_untaken word (n ∷ nodes) e = by_test (bytes_eq n.name word) refl e (lacks_untaken word nodes)
  where
    by_test : (b : Bool) → bytes_eq n.name word ≡ b → (b || list_any (has_name word) nodes) ≡ false → (list_any (has_name word) nodes ≡ false → Lacks word (names_of nodes)) → Lacks word (names_of (n ∷ nodes))
    by_test true is none later = absurd (clash none)
    by_test false is none later = (λ same. clash (sym ((bytes_eq-Decides n.name word).1 same) ∙ is), later none)

-- a node is changed, not its name
names_set : (nodes : List PlainNode) (place : ℕ) (node : PlainNode) → node.name ≡ (node_at nodes place).name → names_of (slice_set nodes place node) ≡ names_of nodes
names_set [] place node same = refl
names_set (n ∷ nodes) zero node same = ap (λ name. name ∷ names_of nodes) same
names_set (n ∷ nodes) (suc place) node same = ap (λ names. n.name ∷ names) (names_set nodes place node same)

-- nodes whose names are different are named apart
lacking : (word : List ℕ) (nodes : List PlainNode) (j : ℕ) (m : PlainNode) → Lacks word (names_of nodes) → slice_get nodes j ≡ Some m → m.name ≡ word → ⊥
lacking word [] j m lacks e same = absurd cc
lacking word (n ∷ nodes) zero m lacks e same = lacks.0 (ap (λ o. (unwrap_or o n).name) e ∙ same)
lacking word (n ∷ nodes) (suc j) m lacks e same = lacking word nodes j m lacks.1 e same

named_apart : (nodes : List PlainNode) → Differ (names_of nodes) → AreNamedApart nodes
named_apart [] differ i j n m e f same = absurd cc
named_apart (x ∷ nodes) differ zero zero n m e f same = refl
named_apart (x ∷ nodes) differ zero (suc j) n m e f same = absurd (lacking x.name nodes j m differ.0 f (sym same ∙ sym (ap (λ o. (unwrap_or o x).name) e)))
named_apart (x ∷ nodes) differ (suc i) zero n m e f same = absurd (lacking x.name nodes i n differ.0 e (same ∙ sym (ap (λ o. (unwrap_or o x).name) f)))
named_apart (x ∷ nodes) differ (suc i) (suc j) n m e f same = ap suc (named_apart nodes differ.1 i j n m e f same)

-- so they are in every scene
lacks_named : (word : List ℕ) (nodes : List PlainNode) (links : List PlainLink) → is_name_taken word nodes links ≡ false → list_any (has_name word) nodes ≡ false
lacks_named word nodes links e = by (list_any (has_name word) nodes) e
  where
    by : (b : Bool) → (b || list_any (is_link_called word) links) ≡ false → b ≡ false
    by true f = f
    by false f = refl

are_apart : IsOfNodes (λ nodes. Differ (names_of nodes))
are_apart = record {
  none = tt;
  more = λ d node differ named addr. subst Differ (sym (map-append (λ n. n.name) d.nodes (node ∷ []))) (differ_more node.name (names_of d.nodes) differ (lacks_untaken node.name d.nodes (lacks_named node.name d.nodes d.links named)));
  same = λ nodes place node name addr differ. subst Differ (sym (names_set nodes place node name)) differ;
}

-- no two nodes of a scene that a text states have the same name
pub scene_apart : (text : List ℕ) (scene : PlainScene) → scene_of text ≡ Ok scene → AreNamedApart scene.nodes
scene_apart text scene e = named_apart scene.nodes (nodes_are (λ nodes. Differ (names_of nodes)) are_apart text scene e)

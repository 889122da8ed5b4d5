-- Lemmas on who puts into the inboxes.
use Rattle.std.proofs.Common.{◌≡◌, ℕ, ◌+◌, ◌<◌, ◌==◌, Bool, if◌then◌else◌, true, false, Option, None, Some, List, [], ◌∷◌, ◌++◌, drop, length, slice_index_or, ap, refl, sym, ◌∙◌, arith}
use Rattle.std.proofs.lemmas.Bool.{eqb-true}
use Rattle.std.proofs.lemmas.List.{append_assoc}
use Rattle.std.proofs.lemmas.List.FromFn.{map-range_with_len_more}
use Rattle.csp_log.specs.declared.places.TheConstants.{UNMARKED}
use Rattle.csp_log.specs.declared.who.Who.{Who}
use Rattle.csp_log.specs.declared.who.Who.TheVariants as who
use Rattle.csp_scene.specs.Links.{links_at}
use Rattle.csp_scene.specs.Scene.{PlainLink, PlainNode}
use Rattle.csp_scene.specs.declared.limits.TheConstants.{MAX_LINKS}
use Rattle.csp_topology.proofs.WireSteps.{node_there}
use Rattle.csp_topology.specs.Lanes.{leader_of}
use Rattle.csp_topology.specs.Writers.{mark_for, writer_of, writers_from, writers_with}
use Rattle.csp_topology.specs.declared.writers.Writer.{Writer}

-- a router or a bridge puts without a mark
pub hub_mark : (node : ℕ) (addr : Option ℕ) → mark_for (leader_of node addr) ≡ Some UNMARKED
hub_mark node (Some a) = refl
hub_mark node None = refl

-- an interface's number is no other mark
numbered : (node : ℕ) (hub : Who) (k : ℕ) → k < MAX_LINKS → writer_of node hub k ≡ who.Iface node k
numbered node hub k low = by (k == UNMARKED) refl where
  by : (b : Bool) → (k == UNMARKED) ≡ b → (if b then hub else who.Iface node k) ≡ who.Iface node k
  by false e = refl
  by true e = absurd (omega (arith, eqb-true k UNMARKED e, low))

-- one interface more
pub writer_more : (node : ℕ) (hub : Who) (k : ℕ) → k < MAX_LINKS → writers_with node hub k ++ record { mark = k; who = who.Iface node k } ∷ [] ≡ writers_with node hub (k + 1)
writer_more node hub k low =
    let writer : ℕ → Writer = λ mark. record { mark = mark; who = writer_of node hub mark } in
    ap (λ (w : Who). writers_with node hub k ++ record { mark = k; who = w } ∷ []) (sym (numbered node hub k low))
    ∙ ap (λ (ws : List Writer). writer UNMARKED ∷ ws) (sym (map-range_with_len_more writer 0 k k (omega arith)))

-- one node more
pub node_more : (all ls : List (List Writer)) (v : List Writer) (place ifaces : ℕ) (nodes : List PlainNode) (links : List PlainLink) (x : PlainNode) → place < length nodes → x ≡ slice_index_or nodes place x
    → ls ++ writers_from place (drop place nodes) links ≡ all → v ≡ writers_with place (leader_of place x.addr) ifaces → ifaces ≡ length (links_at place links)
    → (ls ++ v ∷ []) ++ writers_from (place + 1) (drop (place + 1) nodes) links ≡ all
node_more all ls v place ifaces nodes links x low is before made count =
    append_assoc ls (v ∷ []) (writers_from (place + 1) (drop (place + 1) nodes) links)
    ∙ ap (λ (w : List Writer). ls ++ w ∷ writers_from (place + 1) (drop (place + 1) nodes) links) (made ∙ ap (writers_with place (leader_of place x.addr)) count)
    ∙ ap (λ (ns : List PlainNode). ls ++ writers_from place ns links) (sym (node_there nodes place x low is))
    ∙ before

-- The opening of a scene's network as a whole.
use Rattle.std.proofs.Common.{◌≡◌, ◌<◌, ℕ, List, [], ◌∷◌, Some, length, map, sym, ◌∙◌, subst}
use Rattle.std.specs.Global.{Vec}
use Rattle.std.specs.List.{AllByRecursion}
use Rattle.std.specs.Prelude.{IfSome, slice_get}
use Rattle.csp_opening.proofs.Assembly.{can_assemble, ordered}
use Rattle.csp_opening.proofs.Fabrics.{AreOpened, IsMadeOf, all_fresh, is_fabric, none_happened, posts_are}
use Rattle.csp_opening.proofs.Parties.{Laws}
use Rattle.csp_opening.proofs.Rows.{are_wired}
use Rattle.csp_opening.proofs.Whos.{named_apart, parties_low}
use Rattle.csp_opening.proofs.Zipped.{wire_rows}
use Rattle.csp_opening.specs.Opened.{AreNodesWith, AreWired}
use Rattle.csp_opening.specs.Unposted.{IsUnposted, unposted_name}
use Rattle.csp_opening.specs.Whole.{AreBlanks, AreLists, CanAssemble, posts_of, whos}
use Rattle.csp_opening.specs.declared.lists.Blanks.{Blanks}
use Rattle.csp_opening.specs.declared.lists.Lists.{Lists}
use Rattle.csp_opening.specs.declared.nodes.Node.{Node}
use Rattle.csp_opening.specs.declared.unposted.Unposted.{Unposted}
use Rattle.csp_posts.specs.Books.{IsFresh}
use Rattle.csp_posts.specs.Seen.{SeenPost}
use Rattle.csp_log.specs.Who.{node_of}
use Rattle.csp_scene.specs.Ranges.{IsScene}
use Rattle.csp_scene.specs.Scene.{PlainScene}
use Rattle.csp_standing.specs.Fabrics.{IsFabricOf}
use Rattle.csp_standing.specs.declared.fabric.Fabric.{Fabric}
use Rattle.csp_topology.proofs.Public.{plans_count}
use Rattle.csp_topology.specs.Opened.{AreParties}
use Rattle.csp_topology.specs.Opening.{CanOpen, opening_of}
use Rattle.csp_topology.specs.Parties.{PlainOpening, parties_of}
use Rattle.csp_topology.specs.Plan.{PlainNodePlan, plans_from}
use Rattle.csp_topology.specs.Wires.{wires_of}
use Rattle.csp_topology.specs.Wiring.{AreWires}
use Rattle.csp_topology.specs.declared.opening.Opening.{Opening}
use Rattle.csp_topology.specs.declared.wire.Wire.{Wire}

-- the lists of the wires of nodes
abbrev pub rows_of : List (Vec Wire) → List (List Wire)
rows_of wires = map (λ (ws : Vec Wire). ws.items) wires

-- what is known of a scene before its nodes are opened: its laws, its wires and its parties
pub record IsPlanned (scene : PlainScene) (wires : List (Vec Wire)) (openings : List Opening) : Type 0 where
  pub is : IsScene scene
  pub laws : Laws scene
  pub count : length (wires_of scene) ≡ length scene.nodes
  pub are : AreWires scene (rows_of wires)
  pub parties : map opening_of openings ≡ parties_of scene
  pub apart : (i j : ℕ) (o p : PlainOpening) → slice_get (parties_of scene) i ≡ Some o → slice_get (parties_of scene) j ≡ Some p → o.who ≡ p.who → i ≡ j
  pub ready : AllByRecursion CanOpen openings

pub wired_of : (scene : PlainScene) (wires : List (Vec Wire)) (openings : List Opening) → IsPlanned scene wires openings → AreWired (plans_from 0 scene.nodes scene.links) wires
wired_of scene wires openings h = are_wired scene wires h.is h.laws.stays h.count h.are

pub parties_as : (scene : PlainScene) (wires : List (Vec Wire)) (openings : List Opening) → IsPlanned scene wires openings → AreParties (length (plans_from 0 scene.nodes scene.links)) openings
parties_as scene wires openings h =
    subst (λ k. AreParties k openings) (sym (plans_count 0 scene.nodes scene.links))
    (record { ready = h.ready; there = subst (AllByRecursion (λ (o : PlainOpening). IfSome (node_of o.who) (λ m. m < length scene.nodes))) (sym h.parties) (parties_low scene) })

pub opened_of : (scene : PlainScene) (wires : List (Vec Wire)) (openings : List Opening) (ns : List PlainNodePlan) (ws : List (Vec Wire)) (xs : List Node) (unposted : List Unposted) → IsPlanned scene wires openings → ns ≡ plans_from 0 scene.nodes scene.links → ws ≡ wires
    → AreNodesWith ns (rows_of ws) xs → map unposted_name unposted ≡ map opening_of openings → AllByRecursion (IsUnposted xs) unposted → AreOpened scene (rows_of wires) xs unposted
opened_of scene wires openings ns ws xs unposted h nodes same opened names each = record {
  laws = h.laws;
  nodes = subst (λ ms. AreNodesWith ms (rows_of wires) xs) nodes (subst (λ vs. AreNodesWith ns (rows_of vs) xs) same opened);
  rows = wire_rows scene (rows_of wires) h.count h.are;
  names = names ∙ h.parties;
  each = each;
  apart = named_apart (parties_of scene) h.apart;
}

-- the lists have the room that they are to have
pub blanks_as : (p q n m : ℕ) (ws vs : List (Vec Wire)) (b : Blanks) → AreBlanks p n ws b → p ≡ q → n ≡ m → ws ≡ vs → AreBlanks q m vs b
blanks_as p q n m ws vs b h e f g = subst (λ k. AreBlanks k m vs b) e (subst (λ k. AreBlanks p k vs b) f (subst (λ us. AreBlanks p n us b) g h))

pub lists_as : (p q n m : ℕ) (l : Lists) → AreLists p n l → p ≡ q → n ≡ m → AreLists q m l
lists_as p q n m l h e f = subst (λ k. AreLists k m l) e (subst (λ k. AreLists p k l) f h)

all_mapped : {A B : Type 0} → (P : B → Type 0) (f : A → B) (xs : List A) → AllByRecursion (λ x. P (f x)) xs → AllByRecursion P (map f xs)
all_mapped P f [] h = tt
all_mapped P f (x ∷ xs) h = (h.0, all_mapped P f xs h.1)

-- what was opened of a planned scene, and the lists for it
pub record IsReady (scene : PlainScene) (wires : List (Vec Wire)) (openings : List Opening) (xs : List Node) (unposted : List Unposted) (b : Blanks) (l : Lists) : Type 0 where
  pub plan : IsPlanned scene wires openings
  pub opened : AreOpened scene (rows_of wires) xs unposted
  pub blanks : AreBlanks (length unposted) (length xs) wires b
  pub lists : AreLists (length unposted) (length xs) l

pub can_of : (scene : PlainScene) (wires : List (Vec Wire)) (openings : List Opening) (xs : List Node) (unposted : List Unposted) (b : Blanks) (l : Lists) → IsReady scene wires openings xs unposted b l → CanAssemble b.sides.items xs unposted
can_of scene wires openings xs unposted b l h =
    can_assemble scene wires xs unposted b.sides.items h.plan.is h.opened (all_mapped (λ (ws : List Wire). length ws < 256) (λ (ws : Vec Wire). ws.items) wires (wired_of scene wires openings h.plan).few)
    h.blanks.count h.blanks.sides h.blanks.side_rooms

-- so the fabric is that of the scene, and nothing has happened
pub record IsFinished (scene : PlainScene) (f : Fabric) (posts : List SeenPost) : Type 0 where
  pub fabric : IsFabricOf scene f posts
  pub new : AllByRecursion (λ (s : SeenPost). s.plain.entries ≡ []) posts
  pub fresh : AllByRecursion (λ (s : SeenPost). IfSome s.plain.ends.home IsFresh) posts

pub finished : (scene : PlainScene) (wires : List (Vec Wire)) (openings : List Opening) (xs : List Node) (unposted : List Unposted) (b : Blanks) (l : Lists) (f : Fabric) (posts : List SeenPost) → IsReady scene wires openings xs unposted b l
    → IsMadeOf wires xs unposted f → posts ≡ posts_of xs unposted → IsFinished scene f posts
finished scene wires openings xs unposted b l f posts h made same =
    subst (IsFinished scene f) (sym (same ∙ posts_are xs unposted (ordered scene unposted h.opened.names))) (record {
      fabric = is_fabric scene wires xs unposted f h.plan.are h.opened made;
      new = none_happened xs (whos unposted) 0 unposted;
      fresh = all_fresh scene (rows_of wires) xs unposted h.opened;
    })

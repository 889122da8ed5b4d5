-- Each interface of a scene is the end of one link, at one of its ends.
use Rattle.std.proofs.Common.{◌≡◌, ◌<◌, ◌≤◌, ℕ, zero, suc, ◌+◌, ◌==◌, ◌||◌, Bool, true, false, Some, List, [], ◌∷◌, ◌++◌, length, map, refl, sym, ap, ◌∙◌, arith}
use Rattle.std.specs.Prelude.{slice_get, if◌then◌else◌}
use Rattle.std.specs.List.{list_any}
use Rattle.std.proofs.lemmas.Bool.{eq-eqb}
use Rattle.std.proofs.lemmas.Option.{same_Some}
use Rattle.csp_consistent.proofs.Public.{more_at, each_at}
use Rattle.csp_log.specs.declared.places.End.{End}
use Rattle.csp_scene.specs.Kept.{AreLinksAfter, IsEndAfter, IsLinkAfter}
use Rattle.csp_scene.specs.Links.{links_at, touches}
use Rattle.csp_scene.specs.Scene.{PlainLink}

-- no two ends, of one link or of two, are at one interface
abbrev pub AreEndsApart : List (List End) → Type 0
AreEndsApart links = (j k a b : ℕ) (es fs : List End) (x y : End) → slice_get links j ≡ Some es → slice_get es a ≡ Some x → slice_get links k ≡ Some fs → slice_get fs b ≡ Some y
    → y.node ≡ x.node → y.iface ≡ x.iface → (k ≡ j) × (b ≡ a)

-- the ends of the links
abbrev pub ends_in : List PlainLink → List (List End)
ends_in links = map (λ l. l.ends) links

-- an end stands after the earlier links of its node, and its link is one of that node
record IsNext (earlier : List PlainLink) (l : PlainLink) (x : End) : Type 0 where
  pub number : x.iface ≡ length (links_at x.node earlier)
  pub on : touches x.node l ≡ true

touched : (links : List End) (a : ℕ) (x : End) → slice_get links a ≡ Some x → list_any (λ (end : End). end.node == x.node) links ≡ true
touched [] a x e = absurd cc
touched (y ∷ links) zero x e = ap (λ (n : ℕ). (n == x.node) || list_any (λ (end : End). end.node == x.node) links) (ap (λ (z : End). z.node) (same_Some y x e)) ∙ ap (λ (b : Bool). b || list_any (λ (end : End). end.node == x.node) links) (eq-eqb x.node x.node refl)
touched (y ∷ links) (suc a) x e = either (y.node == x.node) (touched links a x e) where
  either : (b : Bool) → list_any (λ (end : End). end.node == x.node) links ≡ true → (b || list_any (λ (end : End). end.node == x.node) links) ≡ true
  either true h = refl
  either false h = h

next_of : (nodes : ℕ) (earlier : List PlainLink) (l : PlainLink) → IsLinkAfter nodes earlier l → (a : ℕ) (x : End) → slice_get l.ends a ≡ Some x → IsNext earlier l x
next_of nodes earlier l is a x e = record { number = (each_at (IsEndAfter nodes earlier) l.ends a x is.ends e).iface; on = touched l.ends a x e }

-- and those of the later links stand later
grows : (place : ℕ) (earlier : List PlainLink) (l : PlainLink) → length (links_at place earlier) ≤ length (links_at place (earlier ++ l ∷ []))
grows place earlier l = by (touches place l) (more_at place l (touches place l) refl earlier) where
  by : (b : Bool) → length (links_at place (earlier ++ l ∷ [])) ≡ length (links_at place earlier) + (if b then 1 else 0) → length (links_at place earlier) ≤ length (links_at place (earlier ++ l ∷ []))
  by true e = omega (arith, e)
  by false e = omega (arith, e)

late : (nodes : ℕ) (earlier links : List PlainLink) → AreLinksAfter nodes earlier links → (k b : ℕ) (fs : List End) (y : End) → slice_get (ends_in links) k ≡ Some fs → slice_get fs b ≡ Some y
    → length (links_at y.node earlier) ≤ y.iface
late nodes earlier [] are k b fs y at there = absurd cc
late nodes earlier (l ∷ links) are zero b fs y at there =
    let next = next_of nodes earlier l are.0 b y (ap (λ (es : List End). slice_get es b) (same_Some l.ends fs at) ∙ there) in
    let number = next.number in
    omega (arith, number)
late nodes earlier (l ∷ links) are (suc k) b fs y at there =
    let rest = late nodes (earlier ++ l ∷ []) links are.1 k b fs y at there in
    let more = grows y.node earlier l in
    omega (arith, rest, more)

-- so an end of the first link and one of the others are not at one interface
first_apart : (nodes : ℕ) (earlier : List PlainLink) (l : PlainLink) (links : List PlainLink) → IsLinkAfter nodes earlier l → AreLinksAfter nodes (earlier ++ l ∷ []) links
    → (k a b : ℕ) (es fs : List End) (x y : End) → Some l.ends ≡ Some es → slice_get es a ≡ Some x → slice_get (ends_in links) k ≡ Some fs → slice_get fs b ≡ Some y → y.node ≡ x.node → x.iface < y.iface
first_apart nodes earlier l links is are k a b es fs x y own at other there same =
    let next = next_of nodes earlier l is a x (ap (λ (ends : List End). slice_get ends a) (same_Some l.ends es own) ∙ at) in
    let number = next.number in
    let more = more_at x.node l true next.on earlier in
    let later = late nodes (earlier ++ l ∷ []) links are k b fs y other there in
    let node = ap (λ n. length (links_at n (earlier ++ l ∷ []))) same in
    omega (arith, number, more, later, node)

-- nor are two ends of a link
two_apart : (nodes : ℕ) (earlier : List PlainLink) (l : PlainLink) → IsLinkAfter nodes earlier l → (a b : ℕ) (x y : End) → slice_get l.ends a ≡ Some x → slice_get l.ends b ≡ Some y → y.node ≡ x.node → b ≡ a
two_apart nodes earlier l is a b x y at there same = is.shape.apart b a y x there at same

apart_after : (nodes : ℕ) (earlier links : List PlainLink) → AreLinksAfter nodes earlier links → AreEndsApart (ends_in links)
apart_after nodes earlier [] are j k a b es fs x y at here other there node number = absurd cc
apart_after nodes earlier (l ∷ links) are zero zero a b es fs x y at here other there node number = (
  refl,
  two_apart nodes earlier l are.0 a b x y (ap (λ (ends : List End). slice_get ends a) (same_Some l.ends es at) ∙ here) (ap (λ (ends : List End). slice_get ends b) (same_Some l.ends fs other) ∙ there) node,
)
apart_after nodes earlier (l ∷ links) are zero (suc k) a b es fs x y at here other there node number =
    let low = first_apart nodes earlier l links are.0 are.1 k a b es fs x y at here other there node in
    absurd (omega (arith, low, number))
apart_after nodes earlier (l ∷ links) are (suc j) zero a b es fs x y at here other there node number =
    let low = first_apart nodes earlier l links are.0 are.1 j b a fs es y x other there at here (sym node) in
    absurd (omega (arith, low, number))
apart_after nodes earlier (l ∷ links) are (suc j) (suc k) a b es fs x y at here other there node number =
    let rest = apart_after nodes (earlier ++ l ∷ []) links are.1 j k a b es fs x y at here other there node number in
    (ap suc rest.0, rest.1)

pub ends_apart : (nodes : ℕ) (links : List PlainLink) → AreLinksAfter nodes [] links → AreEndsApart (ends_in links)
ends_apart nodes links are = apart_after nodes [] links are

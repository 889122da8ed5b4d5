-- Where the connections of a record have prefixes, the connections that its report tells of have theirs.
use Rattle.std.proofs.Common.{◌≡◌, ℕ, zero, suc, ◌+◌, ◌<◌, Bool, true, false, cond, eqb, Option, None, Some, List, [], ◌∷◌, ◌++◌, unwrap_or, refl, ap, subst, arith}
use Rattle.std.specs.Prelude.{slice_get}
use Rattle.std.specs.List.{AllByRecursion, flat_map, enumerate_from}
use Rattle.std.proofs.lemmas.Bool.{eqb-true, eq-eqb}
use Rattle.csp_log.specs.declared.entry.Entry.{Entry}
use Rattle.csp_record.specs.Connections.{openings}
use Rattle.csp_record.specs.Record.{PlainPartyLog}
use Rattle.csp_record.specs.declared.connections.Opening.{Opening}
use Rattle.csp_scene.specs.Scene.{PlainNode, PlainApp}
use Rattle.csp_report.specs.Conns.{Traffics, all_slots, traffic_of}
use Rattle.csp_report.specs.Parties.{party_at, entries_at}
use Rattle.csp_report.specs.ReliablePrefix.{ToldConnection}
use Rattle.csp_report.specs.Shown.{IsShown}
use Rattle.csp_log.specs.declared.who.Who.TheVariants as who
use Rattle.csp_report.proofs.Feeds.{all_joined}
use Rattle.csp_report.proofs.ToldLines.{told_of, slot_told, conns_told, app_told, node_told, report_told}

-- ---- what holds of each part, by its place

front_of : {X : Type 0} (P : X → Type 0) (xs ys : List X) → AllByRecursion P (xs ++ ys) → AllByRecursion P xs
front_of P [] ys all = tt
front_of P (x ∷ xs) ys all = (all.0, front_of P xs ys all.1)

rest_of : {X : Type 0} (P : X → Type 0) (xs ys : List X) → AllByRecursion P (xs ++ ys) → AllByRecursion P ys
rest_of P [] ys all = all
rest_of P (x ∷ xs) ys all = rest_of P xs ys all.1

found_is : {X : Type 0} (x y : X) → Some x ≡ Some y → x ≡ y
found_is x y e = ap (λ o. unwrap_or o x) e

module _ {X Y : Type 0} (P : Y → Type 0) where
  each_at : (f : X → List Y) (xs : List X) → ((i : ℕ) (x : X) → slice_get xs i ≡ Some x → AllByRecursion P (f x)) → AllByRecursion P (flat_map f xs)
  each_at f [] at = tt
  each_at f (x ∷ xs) at = all_joined P (f x) (flat_map f xs) (at 0 x refl) (each_at f xs (λ i y e. at (suc i) y e))

  at_each : (f : X → List Y) (xs : List X) → AllByRecursion P (flat_map f xs) → (i : ℕ) (x : X) → slice_get xs i ≡ Some x → AllByRecursion P (f x)
  at_each f [] all i x e = absurd cc
  at_each f (y ∷ xs) all zero x e = subst (λ z. AllByRecursion P (f z)) (found_is y x e) (front_of P (f y) (flat_map f xs) all)
  at_each f (y ∷ xs) all (suc i) x e = at_each f xs (rest_of P (f y) (flat_map f xs) all) i x e

  each_from : (f : ℕ × X → List Y) (k : ℕ) (xs : List X) → ((i j : ℕ) (x : X) → slice_get xs i ≡ Some x → j ≡ k + i → AllByRecursion P (f (j, x))) → AllByRecursion P (flat_map f (enumerate_from k xs))
  each_from f k [] at = tt
  each_from f k (x ∷ xs) at =
      all_joined P (f (k, x)) (flat_map f (enumerate_from (k + 1) xs)) (at 0 k x refl (omega arith)) (each_from f (k + 1) xs (λ i j y e same. at (suc i) j y e (omega (arith, same))))

  pub each_counted : (f : ℕ × X → List Y) (xs : List X) → ((i : ℕ) (x : X) → slice_get xs i ≡ Some x → AllByRecursion P (f (i, x))) → AllByRecursion P (flat_map f (enumerate_from 0 xs))
  each_counted f xs at = each_from f 0 xs (λ i j x e same. let here : i ≡ j = omega (arith, same) in subst (λ n. AllByRecursion P (f (n, x))) here (at i x e))

  from_each : (f : ℕ × X → List Y) (k : ℕ) (xs : List X) → AllByRecursion P (flat_map f (enumerate_from k xs)) → (i j : ℕ) (x : X) → slice_get xs i ≡ Some x → j ≡ k + i → AllByRecursion P (f (j, x))
  from_each f k [] all i j x e same = absurd cc
  from_each f k (y ∷ xs) all zero j x e same =
      let here : k ≡ j = omega (arith, same) in
      subst (λ n. AllByRecursion P (f (n, x))) here (subst (λ z. AllByRecursion P (f (k, z))) (found_is y x e) (front_of P (f (k, y)) (flat_map f (enumerate_from (k + 1) xs)) all))
  from_each f k (y ∷ xs) all (suc i) j x e same = from_each f (k + 1) xs (rest_of P (f (k, y)) (flat_map f (enumerate_from (k + 1) xs)) all) i j x e (omega (arith, same))

  pub counted_each : (f : ℕ × X → List Y) (xs : List X) → AllByRecursion P (flat_map f (enumerate_from 0 xs)) → (i : ℕ) (x : X) → slice_get xs i ≡ Some x → AllByRecursion P (f (i, x))
  counted_each f xs all i x e = from_each f 0 xs all i i x e (omega arith)

module _ {Y : Type 0} (P : Y → Type 0) (f : ℕ → List Y) where
  each_slot : ((slot : ℕ) → slot < 4 → AllByRecursion P (f slot)) → AllByRecursion P (flat_map f all_slots)
  each_slot at =
      all_joined P (f 0) (flat_map f (1 ∷ 2 ∷ 3 ∷ [])) (at 0 (omega arith))
      (all_joined P (f 1) (flat_map f (2 ∷ 3 ∷ [])) (at 1 (omega arith))
      (all_joined P (f 2) (flat_map f (3 ∷ [])) (at 2 (omega arith)) (all_joined P (f 3) [] (at 3 (omega arith)) tt)))

  slot_each : AllByRecursion P (flat_map f all_slots) → (slot : ℕ) → slot < 4 → AllByRecursion P (f slot)
  slot_each all zero h = front_of P (f 0) (flat_map f (1 ∷ 2 ∷ 3 ∷ [])) all
  slot_each all (suc zero) h = front_of P (f 1) (flat_map f (2 ∷ 3 ∷ [])) (rest_of P (f 0) (flat_map f (1 ∷ 2 ∷ 3 ∷ [])) all)
  slot_each all (suc (suc zero)) h = front_of P (f 2) (flat_map f (3 ∷ [])) (rest_of P (f 1) (flat_map f (2 ∷ 3 ∷ [])) (rest_of P (f 0) (flat_map f (1 ∷ 2 ∷ 3 ∷ [])) all))
  slot_each all (suc (suc (suc zero))) h =
      front_of P (f 3) [] (rest_of P (f 2) (flat_map f (3 ∷ [])) (rest_of P (f 1) (flat_map f (2 ∷ 3 ∷ [])) (rest_of P (f 0) (flat_map f (1 ∷ 2 ∷ 3 ∷ [])) all)))
  slot_each all (suc (suc (suc (suc slot)))) h = absurd (omega (arith, h))

module _ (nodes : List PlainNode) (parties : List PlainPartyLog) where
  -- what the report tells of a connection that it shows
  abbrev pub told_here : (place number : ℕ) (o : Opening) → IsShown nodes parties place number o → ToldConnection
  told_here place number o shown = told_of nodes shown.node.name shown.app.name (traffic_of number (entries_at parties (who.Router place)) shown.log.entries) o

  -- each that it tells of is one that it shows
  pub record IsToldOf (x : ToldConnection) : Type 0 where
    pub place : ℕ
    pub number : ℕ
    pub opening : Opening
    pub shown : IsShown nodes parties place number opening
    pub form : x ≡ told_here place number opening shown

  module _ (place : ℕ) (node : PlainNode) (there : slice_get nodes place ≡ Some node) (number : ℕ) (app : PlainApp) (runs : slice_get node.apps number ≡ Some app)
      (log : PlainPartyLog) (logged : party_at parties (who.App place number) ≡ Some log) where
    abbrev traffic : Traffics
    traffic = traffic_of number (entries_at parties (who.Router place)) log.entries

    abbrev opened : List Opening
    opened = openings number (entries_at parties (who.Router place))

    one_told : (slot : ℕ) → slot < 4 → (i : ℕ) (o : Opening) → slice_get opened i ≡ Some o → (t : Bool) → eqb o.slot slot ≡ t → AllByRecursion IsToldOf (cond t (told_of nodes node.name app.name traffic o ∷ []) [])
    one_told slot small i o e false h = tt
    one_told slot small i o e true h = (
      record {
        place = place;
        number = number;
        opening = o;
        shown = record { node = node; app = app; log = log; at = i; there = there; runs = runs; logged = logged; opened = e; slot = omega (arith, small, eqb-true o.slot slot h) };
        form = refl;
      },
      tt,
    )

    conns_each : AllByRecursion IsToldOf (conns_told nodes node.name app.name number (entries_at parties (who.Router place)) log.entries)
    conns_each =
        each_slot IsToldOf (slot_told nodes node.name app.name traffic opened)
        (λ slot small. each_at IsToldOf (λ o. cond (eqb o.slot slot) (told_of nodes node.name app.name traffic o ∷ []) []) opened (λ i o e. one_told slot small i o e (eqb o.slot slot) refl))

  app_each : (place : ℕ) (node : PlainNode) → slice_get nodes place ≡ Some node → (number : ℕ) (app : PlainApp) → slice_get node.apps number ≡ Some app → (party : Option PlainPartyLog) → party_at parties (who.App place number) ≡ party
      → AllByRecursion IsToldOf (app_told nodes node.name (entries_at parties (who.Router place)) app.name number party)
  app_each place node there number app runs None e = tt
  app_each place node there number app runs (Some log) e = conns_each place node there number app runs log e

  pub all_shown : AllByRecursion IsToldOf (report_told nodes parties)
  all_shown =
      each_counted IsToldOf (λ node. node_told nodes parties node.0 node.1.name node.1.apps) nodes
      (λ place node there.
      each_counted IsToldOf (λ app. app_told nodes node.name (entries_at parties (who.Router place)) app.1.name app.0 (party_at parties (who.App place app.0))) node.apps
      (λ number app runs. app_each place node there number app runs (party_at parties (who.App place number)) refl))

  -- and it tells of each that it shows
  pub told_shown : (P : ToldConnection → Type 0) → AllByRecursion P (report_told nodes parties) → (place number : ℕ) (o : Opening) (shown : IsShown nodes parties place number o) → P (told_here place number o shown)
  told_shown P all place number o shown =
      let of_node : AllByRecursion P (node_told nodes parties place shown.node.name shown.node.apps) =
      counted_each P (λ node. node_told nodes parties node.0 node.1.name node.1.apps) nodes all place shown.node shown.there in
      let of_app : AllByRecursion P (app_told nodes shown.node.name (entries_at parties (who.Router place)) shown.app.name number (party_at parties (who.App place number))) =
      counted_each P (λ app. app_told nodes shown.node.name (entries_at parties (who.Router place)) app.1.name app.0 (party_at parties (who.App place app.0))) shown.node.apps of_node number shown.app shown.runs in
      let of_log : AllByRecursion P (conns_told nodes shown.node.name shown.app.name number (entries_at parties (who.Router place)) shown.log.entries) =
      subst (λ party. AllByRecursion P (app_told nodes shown.node.name (entries_at parties (who.Router place)) shown.app.name number party)) shown.logged of_app in
      let router : List Entry = entries_at parties (who.Router place) in
      let traffic : Traffics = traffic_of number router shown.log.entries in
      let of_slot : AllByRecursion P (slot_told nodes shown.node.name shown.app.name traffic (openings number router) o.slot) =
      slot_each P (slot_told nodes shown.node.name shown.app.name traffic (openings number router)) of_log o.slot shown.slot in
      let of_opening : AllByRecursion P (cond (eqb o.slot o.slot) (told_of nodes shown.node.name shown.app.name traffic o ∷ []) []) =
      at_each P (λ q. cond (eqb q.slot o.slot) (told_of nodes shown.node.name shown.app.name traffic q ∷ []) []) (openings number router) of_slot shown.at o shown.opened in
      let alone : AllByRecursion P (told_of nodes shown.node.name shown.app.name traffic o ∷ []) =
      subst (λ t. AllByRecursion P (cond t (told_of nodes shown.node.name shown.app.name traffic o ∷ []) [])) (eq-eqb o.slot o.slot refl) of_opening in
      alone.0

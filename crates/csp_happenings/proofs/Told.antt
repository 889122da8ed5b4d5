-- What is told of an entry, by what was read of it.
use Rattle.std.proofs.Common.{◌≡◌, ℕ, Bool, false, Option, None, Some, List, [], ◌∷◌, ◌++◌, sym, ap, ◌∙◌, map, Result, Ok, Err, OnOk, IfSome, BTreeSet, option_map, subst, unwrap_or, if◌then◌else◌}
use Rattle.std.specs.List.{list_any}
use Rattle.std.specs.Prelude.{⊤}
use Rattle.std.specs.Option.{option_and_then, option_map_or}
use Rattle.csp_log.specs.Moving.{moved_in}
use Rattle.csp_log.specs.Noting.{noted_in}
use Rattle.csp_log.specs.declared.entry.Entry.{Entry}
use Rattle.csp_log.specs.declared.event.Event.{Event}
use Rattle.csp_log.specs.declared.moved.Moved.{Moved}
use Rattle.csp_log.specs.declared.noted.Noted.{Noted}
use Rattle.csp_log.specs.declared.who.Who.{Who}
use Rattle.csp_log.specs.declared.who.Who.TheVariants as who
use Rattle.csp_scene.specs.Scene.{PlainScene}
use Rattle.csp_log.specs.Framing.{framed_in, marked_in}
use Rattle.csp_happenings.specs.Happenings.{app_told, at, happened, iface_told, is_again, is_beginning, moved_frame, number_of, parcel_in, reported, router_told, was_sent}
use Rattle.csp_happenings.specs.Numbers.{Adds, has}
use Rattle.csp_happenings.specs.Remembering.{Carries, Counts, Remembers, count_of, fate_known}
use Rattle.csp_log.specs.declared.framed.Framed.{Framed}
use Rattle.csp_happenings.specs.declared.kinds.Happening.{Happening}
use Rattle.csp_happenings.specs.declared.links.Carrying.{Carrying}
use Rattle.csp_happenings.specs.declared.telling.Memory.{Memory}
use Rattle.csp_happenings.proofs.Counting.{Carries-more}
use Rattle.csp_happenings.proofs.Sets.{sent-more}

-- what follows from a fact follows where a call succeeded
pub on-ok : {T E : Type 0} (r : Result T E) (P Q : Type 0) → (P → Q) → OnOk r P → OnOk r Q
on-ok (Ok x) P Q f p = f p
on-ok (Err e) P Q f p = p

pub on-both : {T E : Type 0} (r : Result T E) (P Q R : Type 0) → (P → Q → R) → OnOk r P → OnOk r Q → OnOk r R
on-both (Ok x) P Q R f p q = f p q
on-both (Err e) P Q R f p q = p

-- what is in one thing is in the same thing
same : {X : Type 0} (x y : X) → ◌≡◌ {A = Option X} (Some x) (Some y) → x ≡ y
same x y e = ap (λ o. unwrap_or o x) e

-- what was appended is what the entry tells, and what is remembered then
pub tells : (o : Option Entry) (old new more : List Happening) (told : Entry → List Happening) (R : Entry → Type 0) → new ≡ old ++ more → IfSome o (λ e. (more ≡ told e) × R e) → IfSome o (λ e. (new ≡ old ++ told e) × R e)
tells None old new more told R is read = tt
tells (Some e) old new more told R is read = (is ∙ ap (λ list. old ++ list) read.0, read.1)

-- what an entry of an application, a router, a bridge, an interface, a link tells, by what was read of it
pub app-read : (scene : PlainScene) (before : List Entry) (o : Option Entry) (node n : ℕ) (time : ℕ) (noted : Noted) (mark : Option ℕ) (moved : Moved) (events : List Event)
    → option_map (λ e. e.time) o ≡ Some time → option_map noted_in o ≡ Some noted → option_map marked_in o ≡ Some mark → option_map moved_in o ≡ Some moved → option_map (λ e. e.events.items) o ≡ Some events
    → IfSome o (λ e. (app_told (at time (who.App node n)) noted mark moved events ≡ happened scene (who.App node n) before e) × ⊤)
app-read scene before None node n time noted mark moved events t r k m v = tt
app-read scene before (Some e) node n time noted mark moved events t r k m v = (
  sym (λ i. app_told (at (same e.time time t i) (who.App node n)) (same (noted_in e) noted r i) (same (marked_in e) mark k i) (same (moved_in e) moved m i) (same e.events.items events v i)),
  tt,
)

pub router-read : (scene : PlainScene) (before : List Entry) (o : Option Entry) (node : ℕ) (time : ℕ) (noted : Noted) (moved : Moved) (events : List Event)
    → option_map (λ e. e.time) o ≡ Some time → option_map noted_in o ≡ Some noted → option_map moved_in o ≡ Some moved → option_map (λ e. e.events.items) o ≡ Some events
    → IfSome o (λ e. (router_told (at time (who.Router node)) noted moved events ≡ happened scene (who.Router node) before e) × ⊤)
router-read scene before None node time noted moved events t r m v = tt
router-read scene before (Some e) node time noted moved events t r m v = (
  sym (λ i. router_told (at (same e.time time t i) (who.Router node)) (same (noted_in e) noted r i) (same (moved_in e) moved m i) (same e.events.items events v i)),
  tt,
)

pub bridge-read : (scene : PlainScene) (before : List Entry) (o : Option Entry) (node : ℕ) (time : ℕ) (moved : Moved) (events : List Event)
    → option_map (λ e. e.time) o ≡ Some time → option_map moved_in o ≡ Some moved → option_map (λ e. e.events.items) o ≡ Some events
    → IfSome o (λ e. (reported (at time (who.Bridge node)) false (parcel_in moved) events ≡ happened scene (who.Bridge node) before e) × ⊤)
bridge-read scene before None node time moved events t m v = tt
bridge-read scene before (Some e) node time moved events t m v = (
  sym (λ i. reported (at (same e.time time t i) (who.Bridge node)) false (parcel_in (same (moved_in e) moved m i)) (same e.events.items events v i)),
  tt,
)

-- the number of a packet that an interface transmits, by what was read
abbrev number_read : ℕ → Moved → List Event → Option (ℕ × ℕ)
number_read node moved events = if list_any is_beginning events then option_and_then (number_of node) (parcel_in moved) else None

abbrev again_read : BTreeSet (ℕ × ℕ) → ℕ → Moved → Bool
again_read numbers node moved = option_map_or (has numbers) (option_and_then (number_of node) (parcel_in moved)) false

pub iface-read : (scene : PlainScene) (before : List Entry) (o : Option Entry) (node n : ℕ) (old new : BTreeSet (ℕ × ℕ)) (time : ℕ) (moved : Moved) (events : List Event)
    → ((x : ℕ × ℕ) → has old x ≡ was_sent node before x) → Adds old new (number_read node moved events)
    → option_map (λ e. e.time) o ≡ Some time → option_map moved_in o ≡ Some moved → option_map (λ e. e.events.items) o ≡ Some events
    → IfSome o (λ e. (iface_told (at time (who.Iface node n)) (again_read old node moved) moved events ≡ happened scene (who.Iface node n) before e) × ((x : ℕ × ℕ) → has new x ≡ was_sent node (before ++ e ∷ []) x))
iface-read scene before None node n old new time moved events was adds t m v = tt
iface-read scene before (Some e) node n old new time moved events was adds t m v =
    let party = who.Iface node n in
    let ms = sym (same (moved_in e) moved m) in
    let vs = sym (same e.events.items events v) in
    let again : again_read old node moved ≡ is_again node before (parcel_in (moved_in e)) = λ i. option_map_or (λ x. was x i) (option_and_then (number_of node) (parcel_in (ms i))) false in (
      (λ i. iface_told (at (sym (same e.time time t) i) party) (again i) (ms i) (vs i)),
      sent-more node before e old new was (subst (λ (more : Option (ℕ × ℕ)). Adds old new more) (λ i. number_read node (ms i) (vs i)) adds),
    )

pub link-read : (scene : PlainScene) (before : List Entry) (o : Option Entry) (place : ℕ) (old new : Carrying) (time : ℕ) (framed : Framed)
    → Carries scene place before old → Counts old new framed
    → option_map (λ e. e.time) o ≡ Some time → option_map framed_in o ≡ Some framed
    → IfSome o (λ e. (map (at time (who.Link place)) (moved_frame (count_of old) (fate_known old) framed) ≡ happened scene (who.Link place) before e) × Carries scene place (before ++ e ∷ []) new)
link-read scene before None place old new time framed was counts t f = tt
link-read scene before (Some e) place old new time framed was counts t f =
    let party = who.Link place in
    let fs = sym (same (framed_in e) framed f) in (
      (λ i. map (at (sym (same e.time time t) i) party) (moved_frame (λ end. was.taken end i) (λ end n. was.fates end n i) (fs i))),
      Carries-more scene place before e old new was (subst (λ (g : Framed). Counts old new g) fs counts),
    )

-- ---- where a call succeeded

pub iface-told : {T E : Type 0} (r : Result T E) (party : Who) (node n : ℕ) → party ≡ who.Iface node n
    → (scene : PlainScene) (before : List Entry) (o : Option Entry) (old new : Memory) (list_old list_new : List Happening) (time : ℕ) (moved : Moved) (events : List Event)
    → Remembers scene before old party
    → OnOk r (list_new ≡ list_old ++ iface_told (at time party) (again_read old.numbers node moved) moved events)
    → OnOk r (Adds old.numbers new.numbers (number_read node moved events))
    → option_map (λ e. e.time) o ≡ Some time → option_map moved_in o ≡ Some moved → option_map (λ e. e.events.items) o ≡ Some events
    → OnOk r (IfSome o (λ e. (list_new ≡ list_old ++ happened scene party before e) × Remembers scene (before ++ e ∷ []) new party))
iface-told r party node n is scene before o old new list_old list_new time moved events was told numbers t m v =
    let again = again_read old.numbers node moved in
    on-both r _ _ _
    (λ told numbers. subst (λ (p : Who). IfSome o (λ e. (list_new ≡ list_old ++ happened scene p before e) × Remembers scene (before ++ e ∷ []) new p)) (sym is)
    (tells o list_old list_new (iface_told (at time (who.Iface node n)) again moved events) _ _
    (told ∙ (λ i. list_old ++ iface_told (at time (is i)) again moved events))
    (iface-read scene before o node n old.numbers new.numbers time moved events (subst (λ (p : Who). Remembers scene before old p) is was) numbers t m v)))
    told numbers

pub link-told : {T E : Type 0} (r : Result T E) (party : Who) (place : ℕ) → party ≡ who.Link place
    → (scene : PlainScene) (before : List Entry) (o : Option Entry) (old new : Memory) (list_old list_new : List Happening) (time : ℕ) (framed : Framed)
    → Remembers scene before old party
    → OnOk r (list_new ≡ list_old ++ map (at time party) (moved_frame (count_of old.carrying) (fate_known old.carrying) framed))
    → Counts old.carrying new.carrying framed
    → option_map (λ e. e.time) o ≡ Some time → option_map framed_in o ≡ Some framed
    → OnOk r (IfSome o (λ e. (list_new ≡ list_old ++ happened scene party before e) × Remembers scene (before ++ e ∷ []) new party))
link-told r party place is scene before o old new list_old list_new time framed was told counts t f =
    let frames = moved_frame (count_of old.carrying) (fate_known old.carrying) framed in
    on-ok r _ _
    (λ told. subst (λ (p : Who). IfSome o (λ e. (list_new ≡ list_old ++ happened scene p before e) × Remembers scene (before ++ e ∷ []) new p)) (sym is)
    (tells o list_old list_new (map (at time (who.Link place)) frames) _ _
    (told ∙ (λ i. list_old ++ map (at time (is i)) frames))
    (link-read scene before o place old.carrying new.carrying time framed (subst (λ (p : Who). Remembers scene before old p) is was) counts t f)))
    told

-- An idle entry of a party of a node tells nothing.
use Rattle.std.proofs.Common.{◌≡◌, ℕ, false, cond, Option, None, Some, List, [], ◌∷◌, ◌++◌, refl, sym, ap, ◌∙◌, subst, IfSome, append-nil}
use Rattle.std.specs.List.{list_any}
use Rattle.std.specs.Option.{option_and_then}
use Rattle.std.specs.BTreeMap.{is_at}
use Rattle.csp_link.specs.Fates.{fate_of}
use Rattle.csp_log.specs.Idling.{IsIdle}
use Rattle.csp_log.specs.Moving.{moved_in}
use Rattle.csp_log.specs.declared.entry.Entry.{Entry}
use Rattle.csp_log.specs.declared.moved.Moved.TheVariants as moved
use Rattle.csp_log.specs.declared.noted.Noted.TheVariants as noted
use Rattle.csp_log.specs.declared.who.Who.{Who}
use Rattle.csp_log.specs.declared.who.Who.TheVariants as who
use Rattle.csp_scene.specs.Scene.{PlainScene}
use Rattle.csp_log.specs.Framing.{marked_in}
use Rattle.csp_happenings.specs.Happenings.{app_told, at, happened, iface_told, is_again, is_beginning, number_in, number_of, parcel_in, plan_at, reported, router_told}
use Rattle.csp_happenings.specs.Numbers.{Adds, number_cmp}
use Rattle.csp_happenings.specs.Remembering.{Remembers, count_of, fate_known, is_link}
use Rattle.csp_happenings.specs.declared.kinds.Happening.{Happening}
use Rattle.csp_happenings.specs.declared.kinds.What.{What}
use Rattle.csp_happenings.specs.declared.telling.Memory.{Memory}
use Rattle.csp_happenings.proofs.Sets.{Adds-none, sent-more}

app-idle : (to : What → Happening) (mark : Option ℕ) → app_told to noted.NoNote mark moved.NoPacket [] ≡ []
app-idle to None = refl
app-idle to (Some mark) = refl

-- whoever's it is
pub idle-tells : (scene : PlainScene) (party : Who) (before : List Entry) (e : Entry) → is_link party ≡ false → IsIdle e → happened scene party before e ≡ []
idle-tells scene (who.App node n) before e link idle = (λ i. app_told (at e.time (who.App node n)) (idle.noted i) (marked_in e) (idle.moved i) (idle.told i)) ∙ app-idle (at e.time (who.App node n)) (marked_in e)
idle-tells scene (who.Router node) before e link idle = λ i. router_told (at e.time (who.Router node)) (idle.noted i) (idle.moved i) (idle.told i)
idle-tells scene (who.Bridge node) before e link idle = λ i. reported (at e.time (who.Bridge node)) false (parcel_in (idle.moved i)) (idle.told i)
idle-tells scene (who.Iface node n) before e link idle = λ i. iface_told (at e.time (who.Iface node n)) (is_again node before (parcel_in (idle.moved i))) (idle.moved i) (idle.told i)
idle-tells scene (who.Link place) before e link idle = cc

-- and what is remembered stays
number-idle : (node : ℕ) (e : Entry) → IsIdle e → number_in node e ≡ None
number-idle node e idle = ap (λ events. cond (list_any is_beginning events) (option_and_then (number_of node) (parcel_in (moved_in e))) None) idle.told

pub idle-remembers : (scene : PlainScene) (party : Who) (before : List Entry) (e : Entry) (m : Memory) → is_link party ≡ false → IsIdle e → Remembers scene before m party → Remembers scene (before ++ e ∷ []) m party
idle-remembers scene (who.App node n) before e m link idle was = tt
idle-remembers scene (who.Router node) before e m link idle was = tt
idle-remembers scene (who.Bridge node) before e m link idle was = tt
idle-remembers scene (who.Iface node n) before e m link idle was = sent-more node before e m.numbers m.numbers was (subst (λ (more : Option (ℕ × ℕ)). Adds m.numbers m.numbers more) (sym (number-idle node e idle)) (Adds-none m.numbers))
idle-remembers scene (who.Link place) before e m link idle was = cc

-- so nothing is appended
pub idle-step : (scene : PlainScene) (party : Who) (before : List Entry) (o : Option Entry) (m : Memory) (list : List Happening) → is_link party ≡ false → IfSome o IsIdle → Remembers scene before m party
    → IfSome o (λ e. (list ≡ list ++ happened scene party before e) × Remembers scene (before ++ e ∷ []) m party)
idle-step scene party before None m list link idle was = tt
idle-step scene party before (Some e) m list link idle was = (
  sym (ap (λ told. list ++ told) (idle-tells scene party before e link idle) ∙ append-nil list),
  idle-remembers scene party before e m link idle was,
)

-- what is remembered where no turn was yet
pub opening : (scene : PlainScene) (party : Who) (m : Memory) → m.numbers.keys ≡ [] → ((end : ℕ) → count_of m.carrying end ≡ 0) → ((end n : ℕ) → fate_known m.carrying end n ≡ fate_of end n (plan_at scene party)) → Remembers scene [] m party
opening scene (who.App node n) m empty none fates = tt
opening scene (who.Router node) m empty none fates = tt
opening scene (who.Bridge node) m empty none fates = tt
opening scene (who.Iface node n) m empty none fates = λ x. ap (λ keys. list_any (is_at (number_cmp x)) keys) empty
opening scene (who.Link place) m empty none fates = record { taken = none; fates = fates }

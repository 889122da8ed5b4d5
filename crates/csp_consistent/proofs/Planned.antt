-- A link or a hub of a record applies its plan.
use Rattle.std.proofs.Common.{◌≡◌, ◌⊎◌, inl, inr, ℕ, ◌<◌, true, false, Some, List, [], ◌∷◌, length, slice_get, unwrap_or, refl, sym, ap, ◌∙◌, subst, arith}
use Rattle.std.specs.Prelude.{⊤}
use Rattle.std.specs.List.{AllByRecursion}
use Rattle.std.proofs.lemmas.List.FromFn.{length-map-range_with_len}
use Rattle.std.proofs.lemmas.List.Sorted.{IsPermutation-refl}
use Rattle.csp_deck.specs.Runs.{IsRun, state_after, step_after}
use Rattle.csp_hub.proofs.Public as hub_applying
use Rattle.csp_hub.proofs.Public.{as_many, fates_asked, fates_tells, next_there}
use Rattle.csp_hub.specs.Applied.{hub_steps}
use Rattle.csp_hub.specs.Asking as hub_asking
use Rattle.csp_hub.specs.PlainHub as plain_hub
use Rattle.csp_hub.specs.Planning as hub_plan
use Rattle.csp_hub.specs.Telling.{after_answer}
use Rattle.csp_link.proofs.Public.{applies}
use Rattle.csp_link.specs.Applied.{link_steps, frames_in}
use Rattle.csp_link.specs.PlainLink.{direction, opening}
use Rattle.csp_link.specs.PlainLink as plain_link
use Rattle.csp_link.specs.declared.way.Way.{Way}
use Rattle.csp_log.specs.declared.entry.Entry.{Entry}
use Rattle.csp_log.specs.declared.places.QueueId.TheVariants as queue
use Rattle.csp_log.specs.declared.shown.OpShown.{OpShown}
use Rattle.csp_log.specs.declared.shown.OpShown.TheVariants as op
use Rattle.csp_party.specs.Any.{a_link, a_hub}
use Rattle.csp_record.specs.Record.{PlainRecord}
use Rattle.csp_log.specs.declared.who.Who.{Who}
use Rattle.csp_log.specs.declared.who.Who.TheVariants as who
use Rattle.csp_scene.specs.Scene.{PlainScene, PlainLink}
use Rattle.csp_consistent.specs.Links.{IsPlanned, IsSpread, ArePlanned, AreSpread}
use Rattle.csp_topology.specs.Parties.{link_party, parties_of, party_steps}
use Rattle.csp_consistent.specs.Reading.{entries_of}
use Rattle.csp_consistent.specs.Runs.{AreLogsOf}
use Rattle.csp_consistent.proofs.Names.{HasNone, Logged, found, none_there, are_apart}
use Rattle.csp_consistent.proofs.Owners.{IsOf, IsOwner, IsLinkAt, are_owners, as_hub, as_link}

-- the log of a name in a record of a scene's parties, or none
pub logged : (scene : PlainScene) (r : PlainRecord) (w : Who) → AreLogsOf (parties_of scene) r.parties → (entries_of r w ≡ []) ⊎ Logged (IsOf scene) w r.parties
logged scene r w are =
    told (found (IsOf scene) w (parties_of scene) r.parties are (are_apart scene) (are_owners scene))
  where
    told : HasNone w (parties_of scene) ⊎ Logged (IsOf scene) w r.parties → (entries_of r w ≡ []) ⊎ Logged (IsOf scene) w r.parties
    told (inl none) = inl (none_there w (parties_of scene) r.parties are none)
    told (inr l) = inr l

-- the entries of a link or a hub are a run of it
own_run : (scene : PlainScene) (r : PlainRecord) (number : ℕ) (l : PlainLink) → slice_get scene.links number ≡ Some l → Logged (IsOf scene) (who.Link number) r.parties
    → IsRun party_steps 0 (link_party l) (entries_of r (who.Link number))
own_run scene r number l there log =
    let mine : IsLinkAt scene.links number log.opening.party = subst (λ w. IsOwner scene.nodes scene.links w log.opening.party) log.name log.holds in
    let same : mine.link ≡ l = ap (λ o. unwrap_or o l) (sym mine.there ∙ there) in
    let party : log.opening.party ≡ link_party l = mine.party ∙ ap link_party same in
    subst (λ es. IsRun party_steps 0 (link_party l) es) (sym log.entries) (subst (λ p. IsRun party_steps 0 p log.log.entries) party log.logged.run)

link_run : (es : List Entry) (time : ℕ) (s : plain_link.PlainLink) → IsRun party_steps time (a_link s) es → IsRun link_steps time s es
link_run [] time s run = tt
link_run (e ∷ es) time s run = (run.0, record { goes_on = refl; op = run.1.op; fits = run.1.fits; events = run.1.events }, link_run es e.time (step_after link_steps s e) run.2)

hub_run : (es : List Entry) (time : ℕ) (h : plain_hub.PlainHub) → IsRun party_steps time (a_hub h) es → IsRun hub_steps time h es
hub_run [] time h run = tt
hub_run (e ∷ es) time h run = (run.0, record { goes_on = refl; op = run.1.op; fits = run.1.fits; events = run.1.events }, hub_run es e.time (step_after hub_steps h e) run.2)

-- the entries of a link are a run of it from its opening on
pub link_runs : (scene : PlainScene) (r : PlainRecord) (number : ℕ) (l : PlainLink) → slice_get scene.links number ≡ Some l → l.hub ≡ false → Logged (IsOf scene) (who.Link number) r.parties
    → IsRun link_steps 0 (opening l.kind l.plan) (entries_of r (who.Link number))
link_runs scene r number l there is log =
    link_run (entries_of r (who.Link number)) 0 (opening l.kind l.plan)
    (subst (λ p. IsRun party_steps 0 p (entries_of r (who.Link number))) (as_link l is) (own_run scene r number l there log))

-- and those of a hub
pub hub_runs : (scene : PlainScene) (r : PlainRecord) (number : ℕ) (l : PlainLink) → slice_get scene.links number ≡ Some l → l.hub ≡ true → Logged (IsOf scene) (who.Link number) r.parties
    → IsRun hub_steps 0 (plain_hub.opening (length l.ends) l.plan) (entries_of r (who.Link number))
hub_runs scene r number l there is log =
    hub_run (entries_of r (who.Link number)) 0 (plain_hub.opening (length l.ends) l.plan)
    (subst (λ p. IsRun party_steps 0 p (entries_of r (who.Link number))) (as_hub l is) (own_run scene r number l there log))

planned_run : (l : PlainLink) (es : List Entry) (way : Way) → IsRun link_steps 0 (opening l.kind l.plan) es → IsPlanned l.plan es way
planned_run l es way run = record {
  rest = frames_in (direction (state_after link_steps (opening l.kind l.plan) es) way).held;
  copies = applies l.kind l.plan es (state_after link_steps (opening l.kind l.plan) es) (record { run = run; reached = refl }) way;
}

pub are_planned : (scene : PlainScene) (r : PlainRecord) → AreLogsOf (parties_of scene) r.parties → ArePlanned scene r
are_planned scene r are number l way there is =
    told (logged scene r (who.Link number) are)
  where
    told : (entries_of r (who.Link number) ≡ []) ⊎ Logged (IsOf scene) (who.Link number) r.parties → IsPlanned l.plan (entries_of r (who.Link number)) way
    told (inl none) = subst (λ es. IsPlanned l.plan es way) (sym none) (record { rest = []; copies = IsPermutation-refl [] })
    told (inr log) = planned_run l (entries_of r (who.Link number)) way (link_runs scene r number l there is log)

-- ---- a hub

-- it keeps its ends
as_many_after : (h : plain_hub.PlainHub) (e : Entry) → length (step_after hub_steps h e).ends ≡ length h.ends
as_many_after h e = as_many (step_after hub_steps h e) h (fates_tells (hub_asking.asked h e.time) e.time e.answer ∙ fates_asked h e.time)

as_many_then : (es : List Entry) (h : plain_hub.PlainHub) → length (state_after hub_steps h es).ends ≡ length h.ends
as_many_then [] h = refl
as_many_then (e ∷ es) h = as_many_then es (step_after hub_steps h e) ∙ as_many_after h e

opens_with : (l : PlainLink) → length (plain_hub.opening (length l.ends) l.plan).ends ≡ length l.ends
opens_with l = length-map-range_with_len (plain_hub.opening_end l.plan) 0 (length l.ends)

spread_run : (l : PlainLink) (es : List Entry) (end : ℕ) → end < length l.ends → IsRun hub_steps 0 (plain_hub.opening (length l.ends) l.plan) es → IsSpread l.plan es end
spread_run l es end inside run =
    let first : plain_hub.PlainHub = plain_hub.opening (length l.ends) l.plan in
    let last : plain_hub.PlainHub = state_after hub_steps first es in
    let many : length last.ends ≡ length l.ends = as_many_then es first ∙ opens_with l in
    record {
      rest = frames_in (plain_hub.end_at end last.ends).held;
      copies = hub_applying.applies (length l.ends) l.plan es last (record { run = run; reached = refl }) end (omega (arith, many, inside));
    }

pub are_spread : (scene : PlainScene) (r : PlainRecord) → AreLogsOf (parties_of scene) r.parties → AreSpread scene r
are_spread scene r are number l end there is inside =
    told (logged scene r (who.Link number) are)
  where
    told : (entries_of r (who.Link number) ≡ []) ⊎ Logged (IsOf scene) (who.Link number) r.parties → IsSpread l.plan (entries_of r (who.Link number)) end
    told (inl none) = subst (λ es. IsSpread l.plan es end) (sym none) (record { rest = []; copies = IsPermutation-refl [] })
    told (inr log) = spread_run l (entries_of r (who.Link number)) end inside (hub_runs scene r number l there is log)

-- what it pops it pops from one of its ends
abbrev pub PopsWithin : ℕ → OpShown → Type 0
PopsWithin n (op.Pop (queue.Tx from)) = from < n
PopsWithin n _ = ⊤

asks_within : (n end : ℕ) (p : hub_plan.HubPlan) → end < n → PopsWithin n (hub_asking.op_of end p)
asks_within n end (hub_plan.push place h) low = tt
asks_within n end hub_plan.pop low = low
asks_within n end hub_plan.wait low = tt

run_within : (n : ℕ) (es : List Entry) (time : ℕ) (h : plain_hub.PlainHub) → length h.ends ≡ n → h.serving < n → IsRun hub_steps time h es → AllByRecursion (λ e. PopsWithin n e.op) es
run_within n [] time h many low run = tt
run_within n (e ∷ es) time h many low run =
    let next : plain_hub.PlainHub = step_after hub_steps h e in
    let same : length next.ends ≡ length h.ends = as_many_after h e in
    let turned : plain_hub.PlainHub = after_answer e.time (hub_asking.asked h e.time).doing e.answer (hub_asking.asked h e.time) in
    let serves : next.serving < length next.ends = next_there (length next.ends) turned.serving (omega (arith, same, many, low)) in (
      subst (PopsWithin n) (sym run.1.op) (asks_within n h.serving (hub_plan.plan_of h e.time) low),
      run_within n es e.time next (same ∙ many) (omega (arith, serves, same, many)) run.2,
    )

pub pops_within : (scene : PlainScene) (r : PlainRecord) (number : ℕ) (l : PlainLink) → AreLogsOf (parties_of scene) r.parties → slice_get scene.links number ≡ Some l → l.hub ≡ true → 0 < length l.ends
    → AllByRecursion (λ e. PopsWithin (length l.ends) e.op) (entries_of r (who.Link number))
pops_within scene r number l are there is some =
    told (logged scene r (who.Link number) are)
  where
    told : (entries_of r (who.Link number) ≡ []) ⊎ Logged (IsOf scene) (who.Link number) r.parties → AllByRecursion (λ e. PopsWithin (length l.ends) e.op) (entries_of r (who.Link number))
    told (inl none) = subst (λ es. AllByRecursion (λ e. PopsWithin (length l.ends) e.op) es) (sym none) tt
    told (inr log) =
        run_within (length l.ends) (entries_of r (who.Link number)) 0 (plain_hub.opening (length l.ends) l.plan) (opens_with l) some (hub_runs scene r number l there is log)

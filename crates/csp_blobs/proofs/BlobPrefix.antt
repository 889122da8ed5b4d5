-- What is told of blobs on a reliable connection is a beginning of the blobs that were sent on its peer's.
use Rattle.std.proofs.Common.{◌≡◌, ◌⊎◌, inl, inr, ℕ, ◌<◌, Some, None, List, [], ◌∷◌, ◌++◌, slice_get, unwrap_or, refl, sym, ap, ◌∙◌, subst, append_assoc}
use Rattle.csp_app.specs.PlainApp as plain_app
use Rattle.csp_deck.specs.Runs.{IsRun, step_after}
use Rattle.csp_log.specs.PlainLog.{all_events}
use Rattle.csp_log.specs.declared.entry.Entry.{Entry}
use Rattle.csp_base.specs.declared.limits.TheConstants.{SLOTS}
use Rattle.csp_party.specs.Any.{PlainParty, an_app}
use Rattle.csp_record.specs.Record.{PlainRecord}
use Rattle.csp_record.specs.declared.connections.Opening.{Opening}
use Rattle.csp_log.specs.declared.who.Who.TheVariants as who
use Rattle.csp_scene.specs.Scene.{PlainApp, PlainNode, PlainScene}
use Rattle.csp_sfp.specs.Collecting.{CanAllBeCut, CollectsBeginning, Cut, all_pieces, blobs_of, collected, refusals}
use Rattle.csp_sfp.specs.Gathering.{Gathering, nothing}
use Rattle.csp_consistent.proofs.Public.{Logged, IsAppAt, IsOf, IsOwner, logged}
use Rattle.csp_consistent.specs.Reading.{entries_of}
use Rattle.csp_consistent.specs.Runs.{AreLogsOf}
use Rattle.csp_prefix.specs.Apps.{IsAppLog, app_steps}
use Rattle.csp_prefix.specs.Prefix.{HasPeersPrefix, IsBeginning, IsOpened, IsReliablePrefix, sent_on, took_on}
use Rattle.csp_topology.specs.Parties.{parties_of, party_steps}
use Rattle.csp_blobs.specs.Blobs.{AreCollected, IsBlobPrefix, Tells, TellsBeginning}

-- ---- the log of an application in a record

app_run : (es : List Entry) (time : ℕ) (s : plain_app.PlainApp) → IsRun party_steps time (an_app s) es → IsRun app_steps time s es
app_run [] time s run = tt
app_run (e ∷ es) time s run = (run.0, record { goes_on = run.1.goes_on; op = run.1.op; fits = run.1.fits; events = run.1.events }, app_run es e.time (step_after app_steps s e) run.2)

-- the application at this place is the one that stands there
same_app : (scene : PlainScene) (node app : ℕ) (p : PlainParty) (home : PlainNode) (own : PlainApp) → slice_get scene.nodes node ≡ Some home → slice_get home.apps app ≡ Some own
    → (at : IsAppAt scene.nodes node app p) → at.app ≡ own
same_app scene node app p home own there of_it at =
    let same : at.node ≡ home = ap (λ o. unwrap_or o home) (sym at.there ∙ there) in
    ap (λ o. unwrap_or o own) (sym at.of_it ∙ ap (λ (n : PlainNode). slice_get n.apps app) same ∙ of_it)

pub app_log : (scene : PlainScene) (r : PlainRecord) (node app : ℕ) (home : PlainNode) (own : PlainApp) → AreLogsOf (parties_of scene) r.parties → slice_get scene.nodes node ≡ Some home
    → slice_get home.apps app ≡ Some own → IsAppLog app own.steps (entries_of r (who.App node app))
app_log scene r node app home own are there of_it = by (logged scene r (who.App node app) are)
  where
    es : List Entry
    es = entries_of r (who.App node app)

    by : (es ≡ []) ⊎ Logged (IsOf scene) (who.App node app) r.parties → IsAppLog app own.steps es
    by (inl none) = subst (IsAppLog app own.steps) (sym none) tt
    by (inr l) =
        let at : IsAppAt scene.nodes node app l.opening.party = subst (λ w. IsOwner scene.nodes scene.links w l.opening.party) l.name l.holds in
        let party : l.opening.party ≡ an_app (plain_app.opening app own.steps) =
        at.party ∙ ap (λ (a : PlainApp). an_app (plain_app.opening app a.steps)) (same_app scene node app l.opening.party home own there of_it at) in
        app_run es 0 (plain_app.opening app own.steps)
        (subst (IsRun party_steps 0 (an_app (plain_app.opening app own.steps))) (sym l.entries) (subst (λ p. IsRun party_steps 0 p l.log.entries) party l.logged.run))

-- ---- what is collected of a beginning

-- a collector with no blob under way collects a beginning of the blobs of a beginning of their pieces
abbrev pub CollectsBeginnings : Type 0
CollectsBeginnings =
    (g : Gathering) (cuts : List Cut) (payloads rest : List (List ℕ)) → g.total ≡ None → CanAllBeCut cuts → payloads ++ rest ≡ all_pieces cuts
    → CollectsBeginning g payloads (blobs_of cuts)

begins_then : {T : Type 0} (xs ys zs : List T) → IsBeginning xs ys → IsBeginning ys zs → IsBeginning xs zs
begins_then xs ys zs a b = record { rest = a.rest ++ b.rest; whole = sym (append_assoc xs a.rest b.rest) ∙ ap (λ l. l ++ b.rest) a.whole ∙ b.whole }

-- each connection that became open is on a slot
abbrev pub AreOnSlots : PlainRecord → Type 0
AreOnSlots r = (node app : ℕ) (x : Opening) → IsOpened r node app x → x.slot < SLOTS

pub blob_prefix : (scene : PlainScene) (r : PlainRecord) → AreLogsOf (parties_of scene) r.parties → AreCollected → CollectsBeginnings → AreOnSlots r → IsReliablePrefix r → IsBlobPrefix scene r
blob_prefix scene r are apps collects on_slots reliable node app nth x peer opened numbered peered at = record {
  prefix = λ other y cuts of can sent.
      let begins : IsBeginning taken (all_pieces cuts) = begins_then taken (sent_on r peer.0 other y) (all_pieces cuts) (first.prefix other y of) sent in
      of_beginning (blobs_of cuts) (collects nothing cuts taken begins.rest refl can begins.whole);
  never = λ none. of_nothing (first.never none);
}
  where
    es : List Entry
    es = entries_of r (who.App node app)

    taken : List (List ℕ)
    taken = took_on r node app x

    first : HasPeersPrefix r node app x peer
    first = reliable node app nth x peer opened numbered peered

    told : Tells x.slot x.ordinal (all_events es) (collected nothing taken) (refusals nothing taken)
    told = (apps app at.own.steps es (app_log scene r node app at.home at.own are at.there at.of_it)).collects x.slot x.ordinal (on_slots node app x opened) at.collects

    of_beginning : (blobs : List (List ℕ)) → CollectsBeginning nothing taken blobs → TellsBeginning r node app x blobs
    of_beginning blobs b = record { beginning = record { rest = b.rest; whole = b.whole }; tells = record { told = told.told; refused = told.refused ∙ b.taken } }

    of_nothing : taken ≡ [] → TellsBeginning r node app x []
    of_nothing none = of_beginning [] (record { rest = []; whole = ap (λ ps. collected nothing ps ++ []) none; taken = ap (refusals nothing) none })

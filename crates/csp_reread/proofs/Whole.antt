-- What is read of what an end of a scene's KISS link put there.
use Rattle.std.proofs.Common.{◌≡◌, ◌⊎◌, inl, inr, ℕ, ◌≤◌, Bool, Option, Some, List, [], ◌∷◌, ◌++◌, slice_get, unwrap_or, refl, sym, ap, ◌∙◌, subst, arith}
use Rattle.std.proofs.lemmas.List.Concat.{flat_map-cons}
use Rattle.std.proofs.lemmas.Grind.{flat_map-append}
use Rattle.std.specs.Prelude.{if◌then◌else◌}
use Rattle.std.specs.List.{AllByRecursion, flat_map}
use Rattle.csp_base.specs.declared.limits.TheConstants.{MAX_PAYLOAD}
use Rattle.csp_consistent.proofs.Public.{each_first, Logged, IsOf, IsOwner, IsIfaceAt, logged}
use Rattle.csp_consistent.specs.Reading.{entries_of}
use Rattle.csp_consistent.specs.Runs.{AreLogsOf}
use Rattle.csp_deck.specs.Runs.{IsRun}
use Rattle.csp_exports.specs.Frames.{exported, written_by, written_for}
use Rattle.csp_exports.specs.declared.ends.Form.TheVariants as form
use Rattle.csp_kiss.specs.Stream.{events}
use Rattle.csp_kiss.specs.declared.progress.KissPacket.{KissPacket}
use Rattle.csp_log.specs.declared.entry.Entry.{Entry}
use Rattle.csp_log.specs.declared.places.End.{End}
use Rattle.csp_party.specs.Any.{an_iface}
use Rattle.csp_record.specs.Record.{PlainPartyLog, PlainRecord}
use Rattle.csp_record.specs.Transmissions.{iface_entries}
use Rattle.csp_log.specs.Who.{is_iface, is_who}
use Rattle.csp_log.specs.declared.who.Who.{Who}
use Rattle.csp_log.specs.declared.who.Who.TheVariants as who
use Rattle.csp_scene.specs.Links.{links_at}
use Rattle.csp_scene.specs.Scene.{PlainLink, PlainScene}
use Rattle.csp_topology.specs.Parties.{heeded, iface_opening, parties_of, party_steps}
use Rattle.csp_reread.specs.Reread.{covers, sent_by, sent_in, HasWord, ReadsAs}
use Rattle.csp_reread.proofs.Runs.{Ran, ran}
use Rattle.csp_reread.proofs.Streams.{IsTaken, frames-read}
use Rattle.csp_reread.proofs.Turns.{Fit}

-- the entries of an interface, by each of two ways to find them
same_who : (node number : ℕ) (w : Who) → is_iface node number w ≡ is_who (who.Iface node number) w
same_who node number (who.Router n) = refl
same_who node number (who.Bridge n) = refl
same_who node number (who.Iface n k) = refl
same_who node number (who.App n k) = refl
same_who node number (who.Link k) = refl

same_entries : (node number : ℕ) (logs : List PlainPartyLog) → iface_entries logs node number ≡ flat_map (λ party. if is_who (who.Iface node number) party.who then party.entries else []) logs
same_entries node number [] = refl
same_entries node number (log ∷ logs) =
    flat_map-cons (λ (party : PlainPartyLog). if is_iface node number party.who then party.entries else []) log logs
    ∙ ap (λ b. (if b then log.entries else []) ++ iface_entries logs node number) (same_who node number log.who)
    ∙ ap (λ es. (if is_who (who.Iface node number) log.who then log.entries else []) ++ es) (same_entries node number logs)
    ∙ sym (flat_map-cons (λ (party : PlainPartyLog). if is_who (who.Iface node number) party.who then party.entries else []) log logs)

-- what is written for each party is what is written for the interface's entries
written_all : (name : List ℕ) (end : End) (logs : List PlainPartyLog) → flat_map (written_by form.Kiss name end) logs ≡ flat_map (written_for form.Kiss name) (iface_entries logs end.node end.iface)
written_all name end [] = refl
written_all name end (log ∷ logs) =
    let own : List Entry = if is_iface end.node end.iface log.who then log.entries else [] in
    flat_map-cons (written_by form.Kiss name end) log logs
    ∙ ap (λ bs. flat_map (written_for form.Kiss name) own ++ bs) (written_all name end logs)
    ∙ sym (flat_map-append (written_for form.Kiss name) own (iface_entries logs end.node end.iface))
    ∙ ap (flat_map (written_for form.Kiss name)) (sym (flat_map-cons (λ (party : PlainPartyLog). if is_iface end.node end.iface party.who then party.entries else []) log logs))

taken : (mtu : ℕ) (ps : List KissPacket) → mtu ≤ MAX_PAYLOAD → AllByRecursion HasWord ps → AllByRecursion (Fit mtu) ps → AllByRecursion (IsTaken MAX_PAYLOAD) ps
taken mtu [] most words fits = tt
taken mtu (p ∷ ps) most words fits = (record { word = words.0; fits = omega (arith, fits.0, most) }, taken mtu ps most words.1 fits.1)

-- a run of the interface's entries is read so
read_of_run : (cover : Bool) (mtu : ℕ) (sent : List KissPacket) (stream : List ℕ) → mtu ≤ MAX_PAYLOAD → AllByRecursion HasWord sent → Ran cover mtu [] sent stream → ReadsAs cover stream sent
read_of_run cover mtu sent stream most words r =
    let all : AllByRecursion (IsTaken MAX_PAYLOAD) (r.shown ++ r.left) = subst (AllByRecursion (IsTaken MAX_PAYLOAD)) r.whole (taken mtu sent most words r.fits) in
    record {
      shown = r.shown;
      waiting = r.left;
      whole = r.whole;
      few = r.few;
      read = ap (events cover MAX_PAYLOAD) r.bytes ∙ frames-read cover MAX_PAYLOAD r.shown (each_first (IsTaken MAX_PAYLOAD) r.shown r.left all);
    }

none_sent : (cover : Bool) → ReadsAs cover [] []
none_sent cover = record { shown = []; waiting = []; whole = refl; few = omega arith; read = frames-read cover MAX_PAYLOAD [] tt }

module _ (scene : PlainScene) (r : PlainRecord) (link : PlainLink) (end : End) (cover : Bool) (name : List ℕ) (are : AreLogsOf (parties_of scene) r.parties) (there : slice_get (links_at end.node scene.links) end.iface ≡ Some link)
    (covered : covers link.kind ≡ Some cover) (most : link.mtu ≤ MAX_PAYLOAD) where
  abbrev entries : List Entry
  entries = entries_of r (who.Iface end.node end.iface)

  -- the run of the interface there, whatever it heeds
  its_run : Logged (IsOf scene) (who.Iface end.node end.iface) r.parties → (heeds : Option ℕ) × IsRun party_steps 0 (an_iface (iface_opening end.node end.iface link.kind link.mtu heeds)) entries
  its_run log =
      let mine : IsIfaceAt scene.nodes scene.links end.node end.iface log.opening.party = subst (λ w. IsOwner scene.nodes scene.links w log.opening.party) log.name log.holds in
      let same : mine.link ≡ link = ap (λ o. unwrap_or o link) (sym mine.on ∙ there) in
      let heeds : Option ℕ = heeded mine.node.addr link in
      let party : log.opening.party ≡ an_iface (iface_opening end.node end.iface link.kind link.mtu heeds) = mine.party ∙ ap (λ (x : PlainLink). an_iface (iface_opening end.node end.iface x.kind x.mtu (heeded mine.node.addr x))) same in
      (heeds, subst (λ es. IsRun party_steps 0 (an_iface (iface_opening end.node end.iface link.kind link.mtu heeds)) es) (sym log.entries) (subst (λ p. IsRun party_steps 0 p log.log.entries) party log.logged.run))

  read_entries : AllByRecursion HasWord (sent_in entries) → (entries ≡ []) ⊎ Logged (IsOf scene) (who.Iface end.node end.iface) r.parties → ReadsAs cover (flat_map (written_for form.Kiss name) entries) (sent_in entries)
  read_entries words (inl none) = subst (λ es. ReadsAs cover (flat_map (written_for form.Kiss name) es) (sent_in es)) (sym none) (none_sent cover)
  read_entries words (inr log) = read_of_run cover link.mtu (sent_in entries) (flat_map (written_for form.Kiss name) entries) most words (ran cover link.kind link.mtu end.node end.iface (its_run log).0 name entries covered (its_run log).1)

  same : iface_entries r.parties end.node end.iface ≡ entries
  same = same_entries end.node end.iface r.parties

  pub reads : AllByRecursion HasWord (sent_by r end) → ReadsAs cover (exported form.Kiss name end r) (sent_by r end)
  unfolding exported
  reads words =
      subst (λ bs. ReadsAs cover bs (sent_by r end)) (sym (written_all name end r.parties))
      (subst (λ es. ReadsAs cover (flat_map (written_for form.Kiss name) es) (sent_in es)) (sym same)
      (read_entries (subst (λ es. AllByRecursion HasWord (sent_in es)) same words) (logged scene r (who.Iface end.node end.iface) are)))

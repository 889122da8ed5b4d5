-- The bytes that an end of a scene's KISS link put there are read again as the packets that it sent.
use Rattle.std.proofs.Common.{◌≡◌, ℕ, ◌≤◌, Bool, true, false, cond, Option, Some, None, List, [], ◌∷◌, ◌++◌, slice_get, refl, sym, ap, ◌∙◌, subst}
use Rattle.std.proofs.lemmas.Grind.{flat_map-append}
use Rattle.std.proofs.lemmas.List.Concat.{flat_map-cons}
use Rattle.std.specs.List.{AllByRecursion, cons_option, list_any}
use Rattle.std.specs.Option.{option_and_then, option_map}
use Rattle.std.specs.Prelude.{if◌then◌else◌, find}
use Rattle.csp_base.specs.declared.limits.TheConstants.{MAX_PAYLOAD}
use Rattle.csp_buffer.specs.Content.{Content}
use Rattle.csp_consistent.specs.Consistent.{IsConsistent}
use Rattle.csp_consistent.specs.Runs.{AreLogsOf}
use Rattle.csp_exports.specs.Ends.{PlainEndName, end_named, end_on, is_end_at, is_written}
use Rattle.csp_exports.specs.Frames.{exported}
use Rattle.csp_exports.specs.Unused.{is_transmission}
use Rattle.csp_exports.specs.declared.ends.Form.{Form}
use Rattle.csp_exports.specs.declared.ends.Form.TheVariants as form
use Rattle.csp_log.specs.Headers.{IsWord}
use Rattle.csp_log.specs.Moving.{moved_in}
use Rattle.csp_log.specs.declared.entry.Entry.{Entry}
use Rattle.csp_log.specs.declared.places.End.{End}
use Rattle.csp_log.specs.declared.places.LinkKind.{LinkKind}
use Rattle.csp_log.specs.declared.places.LinkKind.TheVariants as link
use Rattle.csp_ordinary.specs.Words.{FetchesWords, HasWords, all_fetched}
use Rattle.csp_record.specs.Record.{PlainPartyLog, PlainRecord}
use Rattle.csp_record.specs.Transmissions.{fetched, iface_entries}
use Rattle.csp_log.specs.Who.{is_iface}
use Rattle.csp_reread.specs.Reread.{HasWord, ReadsAs, begun_by, covers, read_of, sent_by, sent_in}
use Rattle.csp_scene.specs.Links.{links_at}
use Rattle.csp_scene.specs.Naming.{is_link_called}
use Rattle.csp_scene.specs.Ranges.{IsEnd, IsLink, IsScene}
use Rattle.csp_scene.specs.Scene.{PlainLink, PlainScene}
use Rattle.csp_topology.specs.Parties.{parties_of}
use Rattle.csp_trace.specs.Modes.{asked_of}
use Rattle.csp_trace.specs.Owes.{told}
use Rattle.csp_trace.specs.Reread.{IsReadIfKiss}
use Rattle.csp_trace.specs.declared.asked.Asked.{Asked}
use Rattle.csp_trace.specs.declared.asked.Asked.TheVariants as asked
use Rattle.csp_trace.specs.declared.mode.Mode.{Mode}
use Rattle.csp_trace.specs.declared.mode.Mode.TheVariants as mode

-- what is read of the bytes that an end of a KISS link put there, as csp_reread has it
abbrev pub ReadsWhatWasSent : Type 0
ReadsWhatWasSent = (scene : PlainScene) (r : PlainRecord) (l : PlainLink) (end : End) (cover : Bool) (name : List ℕ) → AreLogsOf (parties_of scene) r.parties → slice_get (links_at end.node scene.links) end.iface ≡ Some l → covers l.kind ≡ Some cover
    → l.mtu ≤ MAX_PAYLOAD → AllByRecursion HasWord (sent_by r end) → ReadsAs cover (exported form.Kiss name end r) (sent_by r end)

-- ---- the headers of what an end sent

sent_words : (es more : List Entry) → AllByRecursion IsWord (all_fetched es) → AllByRecursion HasWord (sent_in more) → AllByRecursion HasWord (sent_in es ++ sent_in more)
sent_words [] more all later = later
sent_words (e ∷ es) more all later =
    subst (λ ps. AllByRecursion HasWord (ps ++ sent_in more)) (sym (flat_map-cons (λ (x : Entry). read_of (begun_by x)) e es))
    (by (list_any is_transmission e.events.items) (fetched (moved_in e)) all (λ rest. sent_words es more rest later))
  where
    by : (began : Bool) (o : Option Content) → AllByRecursion IsWord (cons_option o (all_fetched es)) → (AllByRecursion IsWord (all_fetched es) → AllByRecursion HasWord (sent_in es ++ sent_in more))
        → AllByRecursion HasWord ((read_of (if began then o else None) ++ sent_in es) ++ sent_in more)
    by true None h rest = rest h
    by true (Some b) h rest = (h.0, rest h.1)
    by false None h rest = rest h
    by false (Some b) h rest = rest h.1

-- the header of each packet that an end sent is a word, where those of all that were fetched are
iface_words : (node number : ℕ) (parties : List PlainPartyLog) → AllByRecursion FetchesWords parties → AllByRecursion HasWord (sent_in (iface_entries parties node number))
iface_words node number [] all = tt
iface_words node number (party ∷ parties) all =
    let own : List Entry = if is_iface node number party.who then party.entries else [] in
    let same : sent_in (iface_entries (party ∷ parties) node number) ≡ sent_in own ++ sent_in (iface_entries parties node number) =
    ap sent_in (flat_map-cons (λ (p : PlainPartyLog). if is_iface node number p.who then p.entries else []) party parties)
    ∙ flat_map-append (λ (x : Entry). read_of (begun_by x)) own (iface_entries parties node number) in
    subst (AllByRecursion HasWord) (sym same) (by (is_iface node number party.who) (iface_words node number parties all.1))
  where
    by : (b : Bool) → AllByRecursion HasWord (sent_in (iface_entries parties node number)) → AllByRecursion HasWord (sent_in (if b then party.entries else []) ++ sent_in (iface_entries parties node number))
    by true later = sent_words party.entries (iface_entries parties node number) all.0 later
    by false later = later

-- ---- the link and its end

-- what is found among elements of a kind is one of that kind
found : {X : Type 0} (P : X → Type 0) (test : X → Bool) (xs : List X) (x : X) → AllByRecursion P xs → find test xs ≡ Some x → P x
found P test [] x all e = absurd cc
found {X} P test (y ∷ ys) x all e = by (test y) e (λ later. found P test ys x all.1 later)
  where
    by : (passes : Bool) → cond passes (Some y) (find test ys) ≡ Some x → (find test ys ≡ Some x → P x) → P x
    by true e rest = subst P (let same : y ≡ x = cc in same) all.0
    by false e rest = rest e

-- an end that is named is the one, of the link that is named
record IsEndOf (scene : PlainScene) (name : PlainEndName) (end : End) : Type 0 where
  pub link : PlainLink
  pub cover : Bool
  pub called : find (is_link_called name.link) scene.links ≡ Some link
  pub covered : covers link.kind ≡ Some cover
  pub there : slice_get (links_at end.node scene.links) end.iface ≡ Some link
  pub most : link.mtu ≤ MAX_PAYLOAD

on_link : (scene : PlainScene) (name : PlainEndName) (end : End) (l : PlainLink) → find (is_link_called name.link) scene.links ≡ Some l → IsLink scene.nodes scene.links l → end_on scene.nodes form.Kiss name.node l ≡ Some end → IsEndOf scene name end
on_link scene name end l called is on = by l.kind refl on
  where
    of : (cover : Bool) → covers l.kind ≡ Some cover → find (is_end_at scene.nodes name.node) l.ends ≡ Some end → IsEndOf scene name end
    of cover covered e =
        let it : IsEnd scene.nodes scene.links l end = found (IsEnd scene.nodes scene.links l) (is_end_at scene.nodes name.node) l.ends end is.ends e in
        record { link = l; cover = cover; called = called; covered = covered; there = it.iface; most = is.mtu.1 }

    by : (kind : LinkKind) → l.kind ≡ kind → (if is_written form.Kiss kind then find (is_end_at scene.nodes name.node) l.ends else None) ≡ Some end → IsEndOf scene name end
    by link.Kiss k e = of false (ap covers k) e
    by link.KissHeader k e = of true (ap covers k) e
    by link.Can k e = absurd cc

end_of : (scene : PlainScene) (name : PlainEndName) (end : End) → AllByRecursion (IsLink scene.nodes scene.links) scene.links → end_named scene form.Kiss name ≡ Some end → IsEndOf scene name end
end_of scene name end links named = by (find (is_link_called name.link) scene.links) refl named
  where
    by : (o : Option PlainLink) → find (is_link_called name.link) scene.links ≡ o → option_and_then (end_on scene.nodes form.Kiss name.node) o ≡ Some end → IsEndOf scene name end
    by None called e = absurd cc
    by (Some l) called e = on_link scene name end l called (found (IsLink scene.nodes scene.links) (is_link_called name.link) scene.links l links called) e

-- ---- what is asked

end_asked : (m : Mode) (scene : PlainScene) (which : Form) (name : PlainEndName) (end : End) → asked_of m scene ≡ Some (asked.Export which name end) → end_named scene which name ≡ Some end
end_asked (mode.Export w n) scene which name end e = by (end_named scene w n) refl e
  where
    by : (o : Option End) → end_named scene w n ≡ o → option_map (asked.Export w n) o ≡ Some (asked.Export which name end) → end_named scene which name ≡ Some end
    by None is e = absurd cc
    by (Some x) is e =
        let form_same : w ≡ which = cc in
        let name_same : n ≡ name = cc in
        let end_same : x ≡ end = cc in
        subst (λ f. end_named scene f name ≡ Some end) form_same (subst (λ k. end_named scene w k ≡ Some end) name_same (subst (λ y. end_named scene w n ≡ Some y) end_same is))
end_asked mode.Timeline scene which name end e = absurd cc
end_asked (mode.Picture window) scene which name end e = absurd cc
end_asked mode.Unused scene which name end e = absurd cc

-- where a mode asks for the bytes of an end of a KISS link, they are read again as what it sent
pub read_again : ReadsWhatWasSent → (m : Mode) (scene : PlainScene) (run : PlainRecord) (what : Asked) (bytes : List ℕ) → IsScene scene → IsConsistent scene run → HasWords run → asked_of m scene ≡ Some what → bytes ≡ told what scene run
    → IsReadIfKiss what scene run bytes
unfolding IsReadIfKiss
read_again reads m scene run (asked.Export form.Kiss name end) bytes ranges consistent words named shown =
    let of : IsEndOf scene name end = end_of scene name end ranges.links (end_asked m scene form.Kiss name end named) in
    let whole : ReadsAs of.cover (exported form.Kiss name.link end run) (sent_by run end) =
    reads scene run of.link end of.cover name.link consistent.runs of.there of.covered of.most (iface_words end.node end.iface run.parties words) in
    record { link = of.link; cover = of.cover; called = of.called; covered = of.covered; read = subst (λ bs. ReadsAs of.cover bs (sent_by run end)) (sym shown) whole }
read_again reads m scene run (asked.Export form.Candump name end) bytes ranges consistent words named shown = tt
read_again reads m scene run asked.Timeline bytes ranges consistent words named shown = tt
read_again reads m scene run (asked.Picture window) bytes ranges consistent words named shown = tt
read_again reads m scene run asked.Unused bytes ranges consistent words named shown = tt

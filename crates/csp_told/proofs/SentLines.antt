-- The lines of the interfaces are among those that the text of a report has, and what they have as `sent` is the number of transmissions.
use Rattle.std.proofs.Common.{ltb, ◌≡◌, ℕ, ◌≤◌, true, List, [], ◌∷◌, ◌++◌, map, flat_map, slice_get, refl, subst, arith}
use Rattle.std.specs.Prelude.{codes, IsTrue, Some}
use Rattle.std.specs.Fmt.{decimal}
use Rattle.std.specs.List.{AllByRecursion, enumerate_from, list_all}
use Rattle.std.specs.Str.{bytes_eq}
use Rattle.std.proofs.lemmas.Slice.Eq.{bytes_eq-Decides}
use Rattle.csp_iface.specs.declared.sender.TheConstants.{IDS}
use Rattle.csp_log.specs.declared.places.LinkKind.TheVariants as link
use Rattle.csp_record.specs.Record.{PlainRecord}
use Rattle.csp_log.specs.declared.who.Who.TheVariants as who
use Rattle.csp_consistent.specs.Reading.{entries_of}
use Rattle.csp_consistent.specs.Runs.{AreLogsOf}
use Rattle.csp_ordinary.specs.Ordinary.{transmissions}
use Rattle.csp_report.specs.Lines.{Line, text_of}
use Rattle.csp_report.specs.ReliablePrefix.{word_lines}
use Rattle.csp_report.specs.Report.{title_line, end_line, node_line, router_line, node_iface_lines, node_event_lines, node_app_lines, count_lines, report_lines, report}
use Rattle.csp_scene.specs.Links.{touches, links_at}
use Rattle.csp_scene.specs.Naming.{has_name}
use Rattle.csp_scene.specs.Ranges.{IsScene, IsNode, IsLink}
use Rattle.csp_scene.specs.Scene.{PlainScene, PlainNode, PlainLink}
use Rattle.csp_text.specs.Cut.{lines_of}
use Rattle.csp_text.specs.Names.{is_name}
use Rattle.csp_topology.specs.Parties.{parties_of}
use Rattle.csp_told.proofs.Counts.{counted_is, event_alike}
use Rattle.csp_told.proofs.Digits.{same_number}
use Rattle.csp_told.proofs.LinesBack.{cut, joined_words, Lacks, IsBelow, cut_none, cut_parts, lines_back, lacks_joined, fixed_lacks, number_lacks, name_lacks}
use Rattle.csp_told.proofs.Parts.{front_of, rest_of, at_place, before_map, before_flat, numbered_at, any_at, unfiltered}
use Rattle.csp_told.specs.WithinNumbers.{is_can_called, WritesAtMost, IsWithinNumbers, SendsWithinNumbers}

-- ---- what holds of the words of each line of a text

-- of the words of each line that this line gives where it is cut again
abbrev Gives : (Line → Type 0) → Line → Type 0
Gives P line = AllByRecursion (λ bytes. P (cut 32 bytes)) (cut 10 (joined_words line))

each_gives : (P : Line → Type 0) (scene : PlainScene) (run : PlainRecord) → AllByRecursion P (word_lines (report scene run)) → AllByRecursion (Gives P) (report_lines scene.nodes scene.links run)
unfolding report
each_gives P scene run all =
    let lines : List Line = report_lines scene.nodes scene.links run in
    before_flat (λ bytes. P (cut 32 bytes)) (λ line. cut 10 (joined_words line)) lines
    (subst (AllByRecursion (λ bytes. P (cut 32 bytes))) (lines_back lines) (before_map P (cut 32) (lines_of (text_of lines)) all))

-- a line whose words have neither spaces nor line feeds gives just itself
gives_itself : (P : Line → Type 0) (word : List ℕ) (words : Line) → AllByRecursion (Lacks 10) (word ∷ words) → AllByRecursion (Lacks 32) (word ∷ words) → Gives P (word ∷ words) → P (word ∷ words)
gives_itself P word words feedless spaceless given =
    let one : cut 10 (joined_words (word ∷ words)) ≡ joined_words (word ∷ words) ∷ [] = cut_none 10 (joined_words (word ∷ words)) (lacks_joined 10 refl (word ∷ words) feedless) in
    let alone : AllByRecursion (λ bytes. P (cut 32 bytes)) (joined_words (word ∷ words) ∷ []) = subst (AllByRecursion (λ bytes. P (cut 32 bytes))) one given in
    subst P (cut_parts 32 refl word words spaceless) alone.0

-- ---- the lines of the interfaces

-- what holds of each line of a report holds of those of the interfaces
of_ifaces : (P : Line → Type 0) (nodes : List PlainNode) (links : List PlainLink) (run : PlainRecord) → AllByRecursion P (report_lines nodes links run)
    → AllByRecursion P (flat_map (λ node. node_iface_lines run.parties node.0 node.1.name links) (enumerate_from 0 nodes))
unfolding report_lines
of_ifaces P nodes links run all =
    let ns : List Line = map (λ node. node_line run node.0 node.1) (enumerate_from 0 nodes) in
    let rs : List Line = map (λ node. router_line run node.0 node.1) (enumerate_from 0 nodes) in
    let is : List Line = flat_map (λ node. node_iface_lines run.parties node.0 node.1.name links) (enumerate_from 0 nodes) in
    let vs : List Line = flat_map (λ node. node_event_lines run.parties node.0 node.1.name) (enumerate_from 0 nodes) in
    let ps : List Line = flat_map (λ node. node_app_lines nodes run.parties node.0 node.1.name node.1.apps) (enumerate_from 0 nodes) in
    let two : List Line = title_line ∷ end_line run ∷ [] in
    rest_of P (two ++ ns ++ rs) is
    (front_of P (two ++ ns ++ rs ++ is) vs
    (front_of P (two ++ ns ++ rs ++ is ++ vs) ps (front_of P (two ++ ns ++ rs ++ is ++ vs ++ ps) (count_lines run) all)))

of_node : (P : Line → Type 0) (nodes : List PlainNode) (links : List PlainLink) (run : PlainRecord) → AllByRecursion P (report_lines nodes links run)
    → (place : ℕ) (n : PlainNode) → slice_get nodes place ≡ Some n → AllByRecursion P (node_iface_lines run.parties place n.name links)
of_node P nodes links run all place n there =
    let its : ℕ × PlainNode → List Line = λ node. node_iface_lines run.parties node.0 node.1.name links in
    at_place (λ node. AllByRecursion P (its node)) (enumerate_from 0 nodes) (before_flat P its (enumerate_from 0 nodes) (of_ifaces P nodes links run all)) place (place, n) (numbered_at nodes place n there)

link_at : (P : Line → Type 0) (line : ℕ × PlainLink → Line) (links : List PlainLink) → AllByRecursion P (map line (enumerate_from 0 links)) → (number : ℕ) (l : PlainLink) → slice_get links number ≡ Some l → P (line (number, l))
link_at P line links all number l on = at_place (λ link. P (line link)) (enumerate_from 0 links) (before_map P line (enumerate_from 0 links) all) number (number, l) (numbered_at links number l on)

-- words, each with its number
abbrev numbered : List (List ℕ × ℕ) → Line
numbered counts = flat_map (λ pair. pair.0 ∷ decimal pair.1 ∷ []) counts

-- the counts after the first
abbrev other_counts : (accepted bad starved full toobig : ℕ) → List (List ℕ × ℕ)
other_counts accepted bad starved full toobig = (codes "accepted", accepted) ∷ (codes "bad", bad) ∷ (codes "starved", starved) ∷ (codes "full", full) ∷ (codes "toobig", toobig) ∷ []

-- the words of the line of an interface, with these counts
abbrev counted_words : (node link : List ℕ) → (sent accepted bad starved full toobig : ℕ) → Line
counted_words node link sent accepted bad starved full toobig = codes "iface" ∷ node ∷ link ∷ numbered ((codes "sent", sent) ∷ other_counts accepted bad starved full toobig)

-- what follows from the line of an interface with its number of transmissions, whatever its other counts are
of_iface : (P : Line → Type 0) (Q : Type 0) (scene : PlainScene) (run : PlainRecord) → AreLogsOf (parties_of scene) run.parties → AllByRecursion P (report_lines scene.nodes scene.links run)
    → (place number : ℕ) (n : PlainNode) (l : PlainLink) → slice_get scene.nodes place ≡ Some n → slice_get (links_at place scene.links) number ≡ Some l
    → ((sent accepted bad starved full toobig : ℕ) → sent ≡ transmissions (entries_of run (who.Iface place number)) → P (counted_words n.name l.name sent accepted bad starved full toobig) → Q) → Q
of_iface P Q scene run are all place number n l there on follows =
    follows _ _ _ _ _ _
    (counted_is scene run are (who.Iface place number) _
    (event_alike _ (λ s. refl) (λ s. refl) (λ s o. refl) (λ s o. refl) (λ s o l c. refl) (λ s o y. refl) (λ s y. refl) (λ s. refl) (λ s. refl) (λ y. refl) (λ h q t c u. refl) (λ a s h q. refl) (λ c. refl) refl refl refl refl refl))
    (link_at P _ (links_at place scene.links) (of_node P scene.nodes scene.links run all place n there) number l on)

-- ---- the words of such a line

numbered_lacks : (c : ℕ) → IsBelow c → (counts : List (List ℕ × ℕ)) → AllByRecursion (λ pair. list_all (λ b. ltb 47 b) pair.0 ≡ true) counts → AllByRecursion (Lacks c) (numbered counts)
numbered_lacks c below [] all = tt
numbered_lacks c below (pair ∷ counts) all = (fixed_lacks c below pair.0 all.0, (number_lacks c below pair.1, numbered_lacks c below counts all.1))

words_lack : (c : ℕ) → IsBelow c → (node link : List ℕ) → IsTrue (is_name node) → IsTrue (is_name link) → (sent accepted bad starved full toobig : ℕ) → AllByRecursion (Lacks c) (counted_words node link sent accepted bad starved full toobig)
words_lack c below node link node_is link_is sent accepted bad starved full toobig =
    let counts : AllByRecursion (Lacks c) (numbered ((codes "sent", sent) ∷ other_counts accepted bad starved full toobig)) =
    numbered_lacks c below ((codes "sent", sent) ∷ other_counts accepted bad starved full toobig) (refl, (refl, (refl, (refl, (refl, (refl, tt)))))) in
    (fixed_lacks c below (codes "iface") refl, (name_lacks c below node node_is, (name_lacks c below link link_is, counts)))

line_feed : IsBelow 10
line_feed = record { low = omega arith; unnamed = refl }

space : IsBelow 32
space = record { low = omega arith; unnamed = refl }

-- ---- what a text tells of an interface on a CAN link

same_name : (word : List ℕ) → bytes_eq word word ≡ true
same_name word = (bytes_eq-Decides word word).1 refl

called_itself : (l : PlainLink) → l.kind ≡ link.Can → is_can_called l.name l ≡ true
called_itself l can = rw can (same_name l.name)

-- where the text of a report tells of no more transmissions on CAN links than there are numbers, an interface on one made no more
pub sent_within : (scene : PlainScene) (run : PlainRecord) → IsScene scene → AreLogsOf (parties_of scene) run.parties → SendsWithinNumbers scene (report scene run)
    → (place number : ℕ) (n : PlainNode) (l : PlainLink) → slice_get scene.nodes place ≡ Some n → slice_get (links_at place scene.links) number ≡ Some l → l.kind ≡ link.Can
    → transmissions (entries_of run (who.Iface place number)) ≤ IDS
sent_within scene run is are told place number n l there on can =
    of_iface (Gives (IsWithinNumbers scene)) (transmissions (entries_of run (who.Iface place number)) ≤ IDS) scene run are (each_gives (IsWithinNumbers scene) scene run told) place number n l there on by_line
  where
    at : (j : ℕ) × (slice_get scene.links j ≡ Some l)
    at = unfiltered (touches place) scene.links number l on

    node_is : IsTrue (is_name n.name)
    node_is = (at_place IsNode scene.nodes is.nodes place n there).name

    link_is : IsTrue (is_name l.name)
    link_is = (at_place (IsLink scene.nodes scene.links) scene.links is.links at.0 l at.1).name

    by_line : (sent accepted bad starved full toobig : ℕ) → sent ≡ transmissions (entries_of run (who.Iface place number)) → Gives (IsWithinNumbers scene) (counted_words n.name l.name sent accepted bad starved full toobig) → transmissions (entries_of run (who.Iface place number)) ≤ IDS
    by_line sent accepted bad starved full toobig counts given =
        let more : Line = numbered (other_counts accepted bad starved full toobig) in
        let line : IsWithinNumbers scene (counted_words n.name l.name sent accepted bad starved full toobig) =
        gives_itself (IsWithinNumbers scene) (codes "iface") (n.name ∷ l.name ∷ codes "sent" ∷ decimal sent ∷ more)
        (words_lack 10 line_feed n.name l.name node_is link_is sent accepted bad starved full toobig) (words_lack 32 space n.name l.name node_is link_is sent accepted bad starved full toobig) given in
        let writes : WritesAtMost IDS (decimal sent) =
        line (decimal sent) (record {
          node = n.name;
          link = l.name;
          more = more;
          form = refl;
          of_node = any_at (has_name n.name) scene.nodes place n there (same_name n.name);
          on_can = any_at (is_can_called l.name) scene.links at.0 l at.1 (called_itself l can);
        }) in
        omega (arith, counts, same_number sent writes.number (omega (arith, writes.few)) writes.form, writes.few)

-- The text of a report has the reliable prefix where its record has.
use Rattle.std.proofs.Common.{◌≡◌, ◌==◌, ℕ, List, [], ◌∷◌, ◌++◌, drop, get_or, map, sym, ap, subst, ◌∙◌, append-nil}
use Rattle.std.specs.Prelude.{codes}
use Rattle.std.specs.List.{AllByRecursion, flat_map, enumerate_from, slice_split, join_with_byte}
use Rattle.std.specs.Fmt.{decimal}
use Rattle.std.proofs.lemmas.List.{map-append}
use Rattle.csp_text.specs.Cut.{lines_of}
use Rattle.csp_record.specs.Passed.{passed}
use Rattle.csp_record.specs.Record.{PlainRecord}
use Rattle.csp_record.specs.Stale.{stale}
use Rattle.csp_record.specs.Whole.{IsWhole}
use Rattle.csp_scene.specs.Naming.{AreNamedApart}
use Rattle.csp_scene.specs.Ranges.{IsScene}
use Rattle.csp_scene.specs.Scene.{PlainScene, PlainNode, PlainLink}
use Rattle.csp_report.specs.Lines.{Line}
use Rattle.csp_report.specs.Report.{title_line, end_line, node_line, router_line, node_iface_lines, node_event_lines, node_app_lines, count_lines, report_lines, report}
use Rattle.csp_report.specs.ReliablePrefix.{word_lines, all_told, HasReliablePrefix, HavePeersTexts}
use Rattle.csp_report.specs.Shown.{AreNumbered, HavePeersFirst}
use Rattle.csp_report.specs.Summary.{last_two}
use Rattle.csp_report.proofs.Cutting.{recut, lines_back, cut_each, last_two_are, none_counted}
use Rattle.csp_report.proofs.Feeds.{Lacks}
use Rattle.csp_report.proofs.PrefixTold.{have_texts}
use Rattle.csp_report.proofs.ReportLemmas.{IsGood, good_lines, report_is}
use Rattle.csp_report.proofs.ToldLines.{report_told, report_tells}

abbrev joined_words : Line → List ℕ
joined_words words = join_with_byte 32 words

feedless : (lines : List Line) → AllByRecursion IsGood lines → AllByRecursion (λ words. Lacks 10 (join_with_byte 32 words)) lines
feedless [] all = tt
feedless (line ∷ lines) all = (all.0.0, feedless lines all.1)

last_lines : (nodes : List PlainNode) (links : List PlainLink) (run : PlainRecord) → last_two (map joined_words (report_lines nodes links run)) ≡ map joined_words (count_lines run)
unfolding report_lines
last_lines nodes links run =
    let front : List Line =
    (title_line ∷ end_line run ∷ [])
    ++ map (λ node. node_line run node.0 node.1) (enumerate_from 0 nodes)
    ++ map (λ node. router_line run node.0 node.1) (enumerate_from 0 nodes)
    ++ flat_map (λ node. node_iface_lines run.parties node.0 node.1.name links) (enumerate_from 0 nodes)
    ++ flat_map (λ node. node_event_lines run.parties node.0 node.1.name) (enumerate_from 0 nodes)
    ++ flat_map (λ node. node_app_lines nodes run.parties node.0 node.1.name node.1.apps) (enumerate_from 0 nodes) in
    ap last_two (map-append joined_words front (count_lines run))
    ∙ last_two_are (map joined_words front) (joined_words (codes "stale" ∷ decimal (stale run) ∷ [])) (joined_words (codes "passed" ∷ decimal (passed run) ∷ []))

none_stale : (run : PlainRecord) → map joined_words (count_lines run) ≡ codes "stale 0" ∷ codes "passed 0" ∷ [] → stale run ≡ 0
none_stale run e = none_counted (stale run) (ap (λ (ls : List (List ℕ)). drop 6 (get_or ls 0 [])) e)

none_passed : (run : PlainRecord) → map joined_words (count_lines run) ≡ codes "stale 0" ∷ codes "passed 0" ∷ [] → passed run ≡ 0
none_passed run e = none_counted (passed run) (ap (λ (ls : List (List ℕ)). drop 7 (get_or ls 1 [])) e)

module _ (scene : PlainScene) (run : PlainRecord) (is : IsScene scene) (whole : IsWhole (map (λ n. n.buffers) scene.nodes) run) where
  lines_are : lines_of (report scene run) ≡ map joined_words (report_lines scene.nodes scene.links run)
  lines_are = ap lines_of (report_is scene run) ∙ lines_back (report_lines scene.nodes scene.links run) (feedless (report_lines scene.nodes scene.links run) (good_lines scene run is whole))

  tells_of : all_told (word_lines (report scene run)) ≡ report_told scene.nodes run.parties
  tells_of =
      ap (λ (ls : List (List ℕ)). all_told (map (slice_split (λ b. b == 32)) ls)) lines_are
      ∙ ap all_told (cut_each (report_lines scene.nodes scene.links run))
      ∙ ap all_told (sym (append-nil (map recut (report_lines scene.nodes scene.links run))))
      ∙ (report_tells scene.nodes scene.links run is.nodes).tells [] tt
      ∙ append-nil (report_told scene.nodes run.parties)

  pub text_tells : AreNamedApart scene.nodes → AreNumbered scene.nodes run.parties → (stale run ≡ 0 → passed run ≡ 0 → HavePeersFirst scene.nodes run.parties) → HasReliablePrefix (report scene run)
  text_tells apart numbered first undisturbed =
      let counts : map joined_words (count_lines run) ≡ codes "stale 0" ∷ codes "passed 0" ∷ [] =
      sym (ap last_two lines_are ∙ last_lines scene.nodes scene.links run) ∙ undisturbed in
      subst HavePeersTexts (sym tells_of) (have_texts scene.nodes run.parties apart numbered (first (none_stale run counts) (none_passed run counts)))

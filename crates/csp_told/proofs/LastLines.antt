-- The lines of a report end with the two counts: where a record counts no changed packet, the last one is `passed 0`, and where it counts no stale copy
-- either, the one before it is `stale 0`.
use Rattle.std.proofs.Common.{◌≡◌, ℕ, ◌-◌, List, [], ◌∷◌, ◌++◌, append-nil, append_assoc, drop, flat_map, length, length-append, map, refl, sym, ap, ◌∙◌, arith}
use Rattle.std.proofs.Math.Seq.{drop-append_seam}
use Rattle.std.proofs.lemmas.Grind.{flat_map-append}
use Rattle.std.specs.Fmt.{decimal, digits}
use Rattle.std.specs.List.{enumerate_from}
use Rattle.std.specs.Prelude.{codes}
use Rattle.csp_record.specs.Passed.{passed}
use Rattle.csp_record.specs.Record.{PlainRecord}
use Rattle.csp_record.specs.Stale.{stale}
use Rattle.csp_report.specs.Lines.{Line, text_of}
use Rattle.csp_report.specs.ReliablePrefix.{IsUndisturbed}
use Rattle.csp_report.specs.Report.{count_lines, end_line, node_app_lines, node_event_lines, node_iface_lines, node_line, report, report_lines, router_line, title_line}
use Rattle.csp_report.specs.Summary.{last_two}
use Rattle.csp_scene.specs.Scene.{PlainNode, PlainScene}
use Rattle.csp_text.specs.Cut.{lines_of}
use Rattle.csp_told.proofs.LinesBack.{cut, joined_words, lines_back}
use Rattle.csp_told.specs.LastLines.{EndsUnchanged}

-- lines that end with these
record EndsWith (last lines : List Line) : Type 0 where
  before : List Line
  whole : lines ≡ before ++ last

after_more : (last more : List Line) → EndsWith last (more ++ last)
after_more last more = record { before = more; whole = refl }

lines_end : (scene : PlainScene) (run : PlainRecord) → EndsWith (count_lines run) (report_lines scene.nodes scene.links run)
unfolding report_lines
lines_end scene run =
    let nodes : List (ℕ × PlainNode) = enumerate_from 0 scene.nodes in
    after_more (count_lines run)
    ((title_line ∷ end_line run ∷ [])
    ++ map (λ (node : ℕ × PlainNode). node_line run node.0 node.1) nodes
    ++ map (λ (node : ℕ × PlainNode). router_line run node.0 node.1) nodes
    ++ flat_map (λ (node : ℕ × PlainNode). node_iface_lines run.parties node.0 node.1.name scene.links) nodes
    ++ flat_map (λ (node : ℕ × PlainNode). node_event_lines run.parties node.0 node.1.name) nodes
    ++ flat_map (λ (node : ℕ × PlainNode). node_app_lines scene.nodes run.parties node.0 node.1.name node.1.apps) nodes)

-- what a text of lines gives back of a line with a count
abbrev count_back : (name : List ℕ) → ℕ → List (List ℕ)
count_back name count = cut 10 (joined_words (name ∷ decimal count ∷ []))

-- so the lines of a text end with the two counts
record EndsWithCounts (run : PlainRecord) (text : List ℕ) : Type 0 where
  before : List (List ℕ)
  whole : lines_of text ≡ before ++ count_back (codes "stale") (stale run) ++ count_back (codes "passed") (passed run)

text_ends : (run : PlainRecord) (lines : List Line) → EndsWith (count_lines run) lines → EndsWithCounts run (text_of lines)
text_ends run lines e =
    let back : Line → List (List ℕ) = λ words. cut 10 (joined_words words) in
    let before : List (List ℕ) = flat_map back e.before in
    let stale_back : List (List ℕ) = count_back (codes "stale") (stale run) in
    let passed_back : List (List ℕ) = count_back (codes "passed") (passed run) in
    record {
      before = flat_map back e.before;
      whole = ap (λ (ls : List Line). lines_of (text_of ls)) e.whole ∙ lines_back (e.before ++ count_lines run) ∙ flat_map-append back e.before (count_lines run)
          ∙ ap (λ (ls : List (List ℕ)). before ++ (stale_back ++ ls)) (append-nil passed_back) ∙ sym (append_assoc before stale_back passed_back);
    }

report_ends : (scene : PlainScene) (run : PlainRecord) → EndsWithCounts run (report scene run)
unfolding report
report_ends scene run = text_ends run (report_lines scene.nodes scene.links run) (lines_end scene run)

-- of no stale copy and of no changed packet
stale_none : count_back (codes "stale") 0 ≡ codes "stale 0" ∷ []
unfolding digits
stale_none = refl

passed_none : count_back (codes "passed") 0 ≡ codes "passed 0" ∷ []
unfolding digits
passed_none = refl

pub unchanged : (scene : PlainScene) (run : PlainRecord) → passed run ≡ 0 → EndsUnchanged (report scene run)
unchanged scene run none =
    let e = report_ends scene run in
    record {
      before = e.before ++ count_back (codes "stale") (stale run);
      whole = e.whole ∙ ap (λ n. e.before ++ count_back (codes "stale") (stale run) ++ count_back (codes "passed") n) none ∙ ap (λ (ls : List (List ℕ)). e.before ++ count_back (codes "stale") (stale run) ++ ls) passed_none;
    }

last_pair : {X : Type 0} (xs : List X) (a b : X) → drop (length (xs ++ (a ∷ []) ++ (b ∷ [])) - 2) (xs ++ (a ∷ []) ++ (b ∷ [])) ≡ a ∷ b ∷ []
last_pair xs a b =
    let count : length (xs ++ a ∷ b ∷ []) - 2 ≡ length xs = omega (arith, length-append xs (a ∷ b ∷ [])) in
    ap (λ ls. drop (length ls - 2) ls) (append_assoc xs (a ∷ []) (b ∷ [])) ∙ ap (λ n. drop n (xs ++ a ∷ b ∷ [])) count ∙ drop-append_seam xs (a ∷ b ∷ [])

pub undisturbed : (scene : PlainScene) (run : PlainRecord) → stale run ≡ 0 → passed run ≡ 0 → IsUndisturbed (report scene run)
undisturbed scene run fresh none =
    let e = report_ends scene run in
    ap last_two (e.whole ∙ ap (λ n. e.before ++ count_back (codes "stale") n ++ count_back (codes "passed") (passed run)) fresh
    ∙ ap (λ n. e.before ++ count_back (codes "stale") 0 ++ count_back (codes "passed") n) none
    ∙ ap (λ (ls : List (List ℕ)). e.before ++ ls ++ count_back (codes "passed") 0) stale_none ∙ ap (λ (ls : List (List ℕ)). e.before ++ (codes "stale 0" ∷ []) ++ ls) passed_none)
    ∙ last_pair e.before (codes "stale 0") (codes "passed 0")

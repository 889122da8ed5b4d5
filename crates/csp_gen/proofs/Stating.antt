-- The generated text states a scene: line by line.
use Rattle.std.proofs.Common.{◌≡◌, ℕ, zero, suc, ◌+◌, ◌<◌, ◌≤◌, ◌^◌, ◌/◌, ◌%◌, Bool, true, false, ◌&&◌, ◌||◌, cond, eqb, leb, ltb, List, [], ◌∷◌, ◌++◌, length, refl, ap, sym, ◌∙◌, arith, append_assoc, add-one, map, length-append, Result, Ok, Option, Some, None}
use Rattle.std.specs.Prelude.{codes}
use Rattle.std.specs.FinMap as finite
use Rattle.std.proofs.lemmas.Bool.{le-leb, and_parts, eqb-true}
use Rattle.csp_app.specs.PlainStep.{PlainStep}
use Rattle.csp_app.specs.PlainStep as step
use Rattle.csp_link.specs.declared.fault.Fault.{Fault}
use Rattle.csp_route.specs.Routes.{Routes, with_row, merged}
use Rattle.csp_scene.specs.Sketch.{PlainSketch, no_sketch, demand}
use Rattle.csp_scene.specs.Joining.{routed, with_routes}
use Rattle.csp_scene.specs.Rows.{all_rows}
use Rattle.csp_scene.specs.Judge.{is_printable, judge, judge_words, scene_from, in_line, is_in_app}
use Rattle.csp_scene.specs.Scene.{PlainApp}
use Rattle.csp_scene.specs.declared.refusal.SceneKind.{SceneKind}
use Rattle.csp_scene.specs.declared.refusal.SceneKind.TheVariants as kind
use Rattle.csp_link.specs.declared.fault.FaultKind.TheVariants as fault
use Rattle.csp_link.specs.declared.fault.FaultKind.{FaultKind}
use Rattle.csp_scene.specs.Faults.{has_fault, is_same_harm, harm_of}
use Rattle.csp_gen.proofs.Draws.{few_frames, some_frame, gap_more}
use Rattle.csp_gen.proofs.Decimals.{is_decimal-decimal, number_of-decimal}
use Rattle.csp_gen.proofs.Wording.{Lacks, IsWord, words_back, literal, digits_lack, all_pass_join, digits_printable, printable_lacks, lines_back}
use Rattle.std.specs.Fmt.{decimal}
use Rattle.std.specs.List.{AllByRecursion, list_all, range_with_len}
use Rattle.csp_scene.specs.Links.{fault_count}
use Rattle.csp_scene.specs.declared.limits.TheConstants.{LAST_FRAME, MAX_FAULTS, MAX_LINE, MAX_COUNT}
use Rattle.csp_text.specs.Numbers.{begins_as_number, number_of}
use Rattle.std.specs.Str.{all_ascii_digits}
use Rattle.csp_gen.specs.Lines.{text_of}
use Rattle.csp_gen.specs.GenText as text
use Rattle.csp_gen.specs.GenScene.{row, no_rows, all_to, relay_table, StatesScene, connecting, binding, ops, cam, nodes, links, gen_scene}
use Rattle.csp_gen.specs.declared.scenario.TheConstants.{MAX_PACKETS}
use Rattle.csp_gen.proofs.Length.{fault_short}
use Rattle.std.proofs.lemmas.Fmt.{decimal_nonempty, length-decimal-le}
use Rattle.csp_text.specs.Cut.{lines_of, words_of}
use Rattle.csp_gen.specs.GenText.{network_lines, frame_at, fault_line, fault_lines, sender_lines, taker_lines, scenario_lines, gen_text}
use Rattle.csp_gen.proofs.Routing.{no_rows_len, more_rows, merged_len, ground_routes, relay_routes, payload_routes}

-- a line that is not refused
pub next_line : (earlier lines : List (List ℕ)) (d after : PlainSketch) (line : List ℕ) → judge all_rows (is_in_app all_rows earlier) d line ≡ Ok after → scene_from all_rows earlier d (line ∷ lines) ≡ scene_from all_rows (line ∷ earlier) after lines
unfolding scene_from
next_line earlier lines d after line e = ap (λ r. in_line (length earlier) r (λ next. scene_from all_rows (line ∷ earlier) next lines)) e

abbrev pub sketch : Routes → Routes → Routes → List Fault → List PlainApp → List PlainApp → Option ℕ → PlainSketch
sketch r0 r1 r2 plan ground payload host = record { until = Some 40000; schedule = None; nodes = nodes r0 r1 r2 ground payload; links = links plan; host = host; tuned = [] }

-- the network without its routes
six : (rest : List (List ℕ)) → scene_from all_rows [] no_sketch (network_lines ++ rest)
    ≡ scene_from all_rows (codes "link bus can relay payload" ∷ codes "link radio kiss ground relay" ∷ codes "node payload 3 buffers 32" ∷ codes "node relay 2 buffers 32" ∷ codes "node ground 1 buffers 32 seed 65400" ∷ codes "until 40000" ∷ [])
    (sketch no_rows no_rows no_rows [] [] [] None) (codes "route ground 0/0 radio" ∷ codes "route relay 1 radio, 3 bus" ∷ codes "route payload 0/0 bus" ∷ rest)
unfolding scene_from
six rest = refl

fits : (more : Routes) (n : ℕ) → finite.len more ≤ n → n ≤ 32 → leb (finite.len (merged no_rows more)) 32 ≡ true
fits more n h few = let all = merged_len no_rows more in let none = no_rows_len in le-leb (finite.len (merged no_rows more)) 32 (omega arith)

few_to : (iface : ℕ) → finite.len (all_to iface) ≤ 1
few_to iface = more_rows no_rows (row 0 0 iface) 0 (omega (arith, no_rows_len))

ground_line : judge all_rows false (sketch no_rows no_rows no_rows [] [] [] None) (codes "route ground 0/0 radio") ≡ Ok (sketch (merged no_rows (all_to 0)) no_rows no_rows [] [] [] None)
ground_line =
    let d = sketch no_rows no_rows no_rows [] [] [] None in
    ap (routed d (Some 0)) ground_routes ∙ ap (λ t. demand t kind.Full (Ok (with_routes 0 (merged no_rows (all_to 0)) d))) (fits (all_to 0) 1 (few_to 0) (omega arith))

relay_line : judge all_rows false (sketch (merged no_rows (all_to 0)) no_rows no_rows [] [] [] None) (codes "route relay 1 radio, 3 bus") ≡ Ok (sketch (merged no_rows (all_to 0)) (merged no_rows relay_table) no_rows [] [] [] None)
relay_line =
    let d = sketch (merged no_rows (all_to 0)) no_rows no_rows [] [] [] None in
    ap (routed d (Some 1)) relay_routes ∙ ap (λ t. demand t kind.Full (Ok (with_routes 1 (merged no_rows relay_table) d))) (fits relay_table 2 (more_rows (with_row no_rows (row 1 5 0)) (row 3 5 1) 1 (more_rows no_rows (row 1 5 0) 0 (omega (arith, no_rows_len)))) (omega arith))

payload_line : judge all_rows false (sketch (merged no_rows (all_to 0)) (merged no_rows relay_table) no_rows [] [] [] None) (codes "route payload 0/0 bus") ≡ Ok (sketch (merged no_rows (all_to 0)) (merged no_rows relay_table) (merged no_rows (all_to 0)) [] [] [] None)
payload_line =
    let d = sketch (merged no_rows (all_to 0)) (merged no_rows relay_table) no_rows [] [] [] None in
    ap (routed d (Some 2)) payload_routes ∙ ap (λ t. demand t kind.Full (Ok (with_routes 2 (merged no_rows (all_to 0)) d))) (fits (all_to 0) 1 (few_to 0) (omega arith))

-- the lines of the network, the last first
abbrev pub network_before : List (List ℕ)
network_before =
    codes "route payload 0/0 bus" ∷ codes "route relay 1 radio, 3 bus" ∷ codes "route ground 0/0 radio" ∷ codes "link bus can relay payload" ∷ codes "link radio kiss ground relay"
    ∷ codes "node payload 3 buffers 32" ∷ codes "node relay 2 buffers 32" ∷ codes "node ground 1 buffers 32 seed 65400" ∷ codes "until 40000" ∷ []

-- the sketch after the network and some faults
abbrev pub at_fault : List Fault → List PlainApp → List PlainApp → Option ℕ → PlainSketch
at_fault plan ground payload host = sketch (merged no_rows (all_to 0)) (merged no_rows relay_table) (merged no_rows (all_to 0)) plan ground payload host

pub network_stated : (rest : List (List ℕ)) → scene_from all_rows [] no_sketch (network_lines ++ rest) ≡ scene_from all_rows network_before (at_fault [] [] [] None) rest
network_stated rest =
    six rest
    ∙ next_line _ (codes "route relay 1 radio, 3 bus" ∷ codes "route payload 0/0 bus" ∷ rest) (sketch no_rows no_rows no_rows [] [] [] None) (sketch (merged no_rows (all_to 0)) no_rows no_rows [] [] [] None) (codes "route ground 0/0 radio") ground_line
    ∙ next_line _ (codes "route payload 0/0 bus" ∷ rest) (sketch (merged no_rows (all_to 0)) no_rows no_rows [] [] [] None) (sketch (merged no_rows (all_to 0)) (merged no_rows relay_table) no_rows [] [] [] None) (codes "route relay 1 radio, 3 bus") relay_line
    ∙ next_line _ rest (sketch (merged no_rows (all_to 0)) (merged no_rows relay_table) no_rows [] [] [] None) (at_fault [] [] [] None) (codes "route payload 0/0 bus") payload_line

-- ---- the faults

lose_words : (ia : Bool) (plan : List Fault) (ground payload : List PlainApp) (host : Option ℕ) (w : List ℕ)
    → begins_as_number w ≡ true → all_ascii_digits w ≡ true → leb 1 (number_of w) ≡ true → leb (number_of w) LAST_FRAME ≡ true
    → has_fault (record { dir = 0; frame = number_of w; kind = fault.Lose }) plan ≡ false → ltb (fault_count (links plan)) MAX_FAULTS ≡ true
    → judge_words all_rows ia (at_fault plan ground payload host) (codes "fault" ∷ codes "radio" ∷ codes "ab" ∷ w ∷ codes "lose" ∷ []) ≡ Ok (at_fault (plan ++ record { dir = 0; frame = number_of w; kind = fault.Lose } ∷ []) ground payload host)
lose_words true plan ground payload host w begins digits low high fresh room = rw (begins, digits, low, high, fresh, room) refl
lose_words false plan ground payload host w begins digits low high fresh room = rw (begins, digits, low, high, fresh, room) refl

repeat_words : (ia : Bool) (plan : List Fault) (ground payload : List PlainApp) (host : Option ℕ) (w : List ℕ)
    → begins_as_number w ≡ true → all_ascii_digits w ≡ true → leb 1 (number_of w) ≡ true → leb (number_of w) LAST_FRAME ≡ true
    → has_fault (record { dir = 0; frame = number_of w; kind = fault.Repeat 1 }) plan ≡ false → ltb (fault_count (links plan)) MAX_FAULTS ≡ true
    → judge_words all_rows ia (at_fault plan ground payload host) (codes "fault" ∷ codes "radio" ∷ codes "ab" ∷ w ∷ codes "repeat" ∷ codes "1" ∷ []) ≡ Ok (at_fault (plan ++ record { dir = 0; frame = number_of w; kind = fault.Repeat 1 } ∷ []) ground payload host)
repeat_words true plan ground payload host w begins digits low high fresh room = rw (begins, digits, low, high, fresh, room) refl
repeat_words false plan ground payload host w begins digits low high fresh room = rw (begins, digits, low, high, fresh, room) refl

delay_words : (ia : Bool) (plan : List Fault) (ground payload : List PlainApp) (host : Option ℕ) (w : List ℕ)
    → begins_as_number w ≡ true → all_ascii_digits w ≡ true → leb 1 (number_of w) ≡ true → leb (number_of w) LAST_FRAME ≡ true
    → has_fault (record { dir = 0; frame = number_of w; kind = fault.Delay 5 }) plan ≡ false → ltb (fault_count (links plan)) MAX_FAULTS ≡ true
    → judge_words all_rows ia (at_fault plan ground payload host) (codes "fault" ∷ codes "radio" ∷ codes "ab" ∷ w ∷ codes "delay" ∷ codes "5" ∷ []) ≡ Ok (at_fault (plan ++ record { dir = 0; frame = number_of w; kind = fault.Delay 5 } ∷ []) ground payload host)
delay_words true plan ground payload host w begins digits low high fresh room = rw (begins, digits, low, high, fresh, room) refl
delay_words false plan ground payload host w begins digits low high fresh room = rw (begins, digits, low, high, fresh, room) refl

-- ---- a fault's line

-- every fault so far is of an earlier frame
abbrev pub AreBefore : ℕ → List Fault → Type 0
AreBefore frame plan = AllByRecursion (λ f. f.frame < frame) plan

fresh : (dir frame : ℕ) (what : FaultKind) (plan : List Fault) → AreBefore frame plan → has_fault (record { dir = dir; frame = frame; kind = what }) plan ≡ false
fresh dir frame what [] all = refl
fresh dir frame what (f ∷ plan) all = by_test (eqb f.frame frame) refl (fresh dir frame what plan all.1)
  where
    by_test : (t : Bool) → eqb f.frame frame ≡ t → has_fault (record { dir = dir; frame = frame; kind = what }) plan ≡ false → has_fault (record { dir = dir; frame = frame; kind = what }) (f ∷ plan) ≡ false
    by_test true e later = absurd (omega (arith, eqb-true f.frame frame e, all.0))
    by_test false e later = ap (λ t. ((t && eqb f.dir dir) && is_same_harm (harm_of f.kind) (harm_of what)) || has_fault (record { dir = dir; frame = frame; kind = what }) plan) e ∙ later

-- what a line with these words adds, for a frame in decimal digits
record Adds (packets j : ℕ) (ia : Bool) (plan : List Fault) (words : List (List ℕ)) : Type 0 where
  what : FaultKind
  adds : judge_words all_rows ia (at_fault plan [] [] None) words ≡ Ok (at_fault (plan ++ record { dir = 0; frame = frame_at packets j; kind = what } ∷ []) [] [] None)

-- an answer that is no refusal
abbrev ok_sketch : PlainSketch → Result PlainSketch SceneKind
ok_sketch d = Ok d

pub record JudgedFault (packets j : ℕ) (ia : Bool) (plan : List Fault) : Type 0 where
  pub what : FaultKind
  pub judged : judge all_rows ia (at_fault plan [] [] None) (fault_line packets j) ≡ Ok (at_fault (plan ++ record { dir = 0; frame = frame_at packets j; kind = what } ∷ []) [] [] None)

-- a line judged by its words
judged_by : (ia : Bool) (d after : PlainSketch) (line : List ℕ) (words : List (List ℕ)) → list_all is_printable line ≡ true → length line ≤ MAX_LINE → words_of line ≡ words → judge_words all_rows ia d words ≡ Ok after → judge all_rows ia d line ≡ Ok after
judged_by ia d after line words bytes short are adds =
    ap (λ t. demand t kind.Byte (demand (leb (length line) MAX_LINE) kind.Long (judge_words all_rows ia d (words_of line)))) bytes
    ∙ ap (λ t. demand t kind.Long (judge_words all_rows ia d (words_of line))) (le-leb (length line) MAX_LINE short)
    ∙ ap (judge_words all_rows ia d) are ∙ adds

module _ (packets j : ℕ) (few : j ≤ 25) (ia : Bool) (plan : List Fault) (before : AreBefore (frame_at packets j) plan) (room : length plan ≤ 25) where
  small : frame_at packets j < 2 ^ 64
  small = let all = few_frames packets j in omega arith

  some : 0 < frame_at packets j
  some = let least = some_frame packets j in omega arith

  parts : (begins_as_number (decimal (frame_at packets j)) ≡ true) × (all_ascii_digits (decimal (frame_at packets j)) ≡ true)
  parts = and_parts (begins_as_number (decimal (frame_at packets j))) (all_ascii_digits (decimal (frame_at packets j))) (is_decimal-decimal (frame_at packets j) some small)

  value : number_of (decimal (frame_at packets j)) ≡ frame_at packets j
  value = number_of-decimal (frame_at packets j) small

  low : leb 1 (number_of (decimal (frame_at packets j))) ≡ true
  low = ap (leb 1) value ∙ le-leb 1 (frame_at packets j) some

  high : leb (number_of (decimal (frame_at packets j))) LAST_FRAME ≡ true
  high = ap (λ n. leb n LAST_FRAME) value ∙ le-leb (frame_at packets j) LAST_FRAME (let all = few_frames packets j in omega arith)

  new : (what : FaultKind) → has_fault (record { dir = 0; frame = number_of (decimal (frame_at packets j)); kind = what }) plan ≡ false
  new what = ap (λ f. has_fault (record { dir = 0; frame = f; kind = what }) plan) value ∙ fresh 0 (frame_at packets j) what plan before

  space : ltb (fault_count (links plan)) MAX_FAULTS ≡ true
  space = let count : fault_count (links plan) ≡ length plan = omega arith in le-leb (suc (fault_count (links plan))) MAX_FAULTS (omega arith)

  shown : (what : FaultKind) → ok_sketch (at_fault (plan ++ record { dir = 0; frame = number_of (decimal (frame_at packets j)); kind = what } ∷ []) [] [] None) ≡ ok_sketch (at_fault (plan ++ record { dir = 0; frame = frame_at packets j; kind = what } ∷ []) [] [] None)
  shown what = ap (λ f. ok_sketch (at_fault (plan ++ record { dir = 0; frame = f; kind = what } ∷ []) [] [] None)) value

  words_for : (t u : Bool) → Adds packets j ia plan (codes "fault" ∷ codes "radio" ∷ codes "ab" ∷ decimal (frame_at packets j) ∷ cond t (codes "lose" ∷ []) (cond u (codes "repeat" ∷ codes "1" ∷ []) (codes "delay" ∷ codes "5" ∷ [])))
  words_for true u = record { what = fault.Lose; adds = lose_words ia plan [] [] None (decimal (frame_at packets j)) parts.0 parts.1 low high (new fault.Lose) space ∙ shown fault.Lose }
  words_for false true = record { what = fault.Repeat 1; adds = repeat_words ia plan [] [] None (decimal (frame_at packets j)) parts.0 parts.1 low high (new (fault.Repeat 1)) space ∙ shown (fault.Repeat 1) }
  words_for false false = record { what = fault.Delay 5; adds = delay_words ia plan [] [] None (decimal (frame_at packets j)) parts.0 parts.1 low high (new (fault.Delay 5)) space ∙ shown (fault.Delay 5) }

  number_word : IsWord (decimal (frame_at packets j))
  number_word = (digits_lack (decimal (frame_at packets j)) parts.1, decimal_nonempty (frame_at packets j) small)

  front : (h : List ℕ) → codes "fault radio ab " ++ decimal (frame_at packets j) ++ codes " " ++ h ≡ codes "fault radio ab " ++ (decimal (frame_at packets j) ++ 32 ∷ h)
  front h = simp append_assoc

  cut : (t u : Bool) → words_of (codes "fault radio ab " ++ decimal (frame_at packets j) ++ codes " " ++ cond t (codes "lose") (cond u (codes "repeat 1") (codes "delay 5")))
      ≡ codes "fault" ∷ codes "radio" ∷ codes "ab" ∷ decimal (frame_at packets j) ∷ cond t (codes "lose" ∷ []) (cond u (codes "repeat" ∷ codes "1" ∷ []) (codes "delay" ∷ codes "5" ∷ []))
  cut true u = ap words_of (front (codes "lose")) ∙ words_back (codes "fault") (codes "radio" ∷ codes "ab" ∷ decimal (frame_at packets j) ∷ codes "lose" ∷ [])
      (literal (codes "fault") refl (omega arith), (literal (codes "radio") refl (omega arith), (literal (codes "ab") refl (omega arith), (number_word, (literal (codes "lose") refl (omega arith), tt)))))
  cut false true = ap words_of (front (codes "repeat 1")) ∙ words_back (codes "fault") (codes "radio" ∷ codes "ab" ∷ decimal (frame_at packets j) ∷ codes "repeat" ∷ codes "1" ∷ [])
      (literal (codes "fault") refl (omega arith), (literal (codes "radio") refl (omega arith), (literal (codes "ab") refl (omega arith), (number_word, (literal (codes "repeat") refl (omega arith), (literal (codes "1") refl (omega arith), tt))))))
  cut false false = ap words_of (front (codes "delay 5")) ∙ words_back (codes "fault") (codes "radio" ∷ codes "ab" ∷ decimal (frame_at packets j) ∷ codes "delay" ∷ codes "5" ∷ [])
      (literal (codes "fault") refl (omega arith), (literal (codes "radio") refl (omega arith), (literal (codes "ab") refl (omega arith), (number_word, (literal (codes "delay") refl (omega arith), (literal (codes "5") refl (omega arith), tt))))))

  harm_printable : (t u : Bool) → list_all is_printable (cond t (codes "lose") (cond u (codes "repeat 1") (codes "delay 5"))) ≡ true
  harm_printable true u = refl
  harm_printable false true = refl
  harm_printable false false = refl

  pub line_printable : list_all is_printable (fault_line packets j) ≡ true
  line_printable =
      all_pass_join is_printable (codes "fault radio ab " ++ decimal (frame_at packets j) ++ codes " ") (text.harm_of j)
      (all_pass_join is_printable (codes "fault radio ab " ++ decimal (frame_at packets j)) (codes " ") (all_pass_join is_printable (codes "fault radio ab ") (decimal (frame_at packets j)) refl (digits_printable (decimal (frame_at packets j)) parts.1)) refl)
      (harm_printable (eqb (j % 3) 1) (eqb (j % 3) 2))

  pub line_judged : JudgedFault packets j ia plan
  line_judged =
      let a = words_for (eqb (j % 3) 1) (eqb (j % 3) 2) in
      record {
        what = a.what;
        judged = judged_by ia (at_fault plan [] [] None) (at_fault (plan ++ record { dir = 0; frame = frame_at packets j; kind = a.what } ∷ []) [] [] None) (fault_line packets j) _ line_printable
            (let short = fault_short packets j few in let end = length-append (fault_line packets j) (10 ∷ []) in omega arith) (cut (eqb (j % 3) 1) (eqb (j % 3) 2)) a.adds;
      }

-- ---- all faults

record AfterFaults (earlier : List (List ℕ)) (plan : List Fault) (lines rest : List (List ℕ)) : Type 0 where
  before : List (List ℕ)
  all : List Fault
  stated : scene_from all_rows earlier (at_fault plan [] [] None) (lines ++ rest) ≡ scene_from all_rows before (at_fault all [] [] None) rest

more_before : (frame later : ℕ) (what : Fault) (plan : List Fault) → frame < later → what.frame ≡ frame → AreBefore frame plan → AreBefore later (plan ++ what ∷ [])
more_before frame later what [] less is all = (omega (arith, is), tt)
more_before frame later what (f ∷ plan) less is all = (omega (arith, all.0), more_before frame later what plan less is all.1)

faults_stated : (packets a k : ℕ) (earlier : List (List ℕ)) (plan : List Fault) (rest : List (List ℕ)) → a + k ≤ 26 → AreBefore (frame_at packets a) plan → length plan + k ≤ 25 → AfterFaults earlier plan (map (fault_line packets) (range_with_len a k)) rest
faults_stated packets a zero earlier plan rest high before room = record { before = earlier; all = plan; stated = refl }
faults_stated packets a (suc k) earlier plan rest high before room =
    let one = line_judged packets a (omega arith) (is_in_app all_rows earlier) plan before (omega arith) in
    let fault' : Fault = record { dir = 0; frame = frame_at packets a; kind = one.what } in
    let gap : frame_at packets a + 10 ≤ frame_at packets (a + 1) = rw add-one (gap_more packets a) in
    let later = faults_stated packets (a + 1) k (fault_line packets a ∷ earlier) (plan ++ fault' ∷ []) rest (omega arith) (more_before (frame_at packets a) (frame_at packets (a + 1)) fault' plan (omega arith) refl before) (omega (arith, length-append plan (fault' ∷ []))) in
    record {
      before = later.before;
      all = later.all;
      stated = next_line earlier (map (fault_line packets) (range_with_len (a + 1) k) ++ rest) (at_fault plan [] [] None) (at_fault (plan ++ fault' ∷ []) [] [] None) (fault_line packets a) one.judged ∙ later.stated;
    }

-- ---- the applications

app_ops : (ia : Bool) (plan : List Fault) → judge all_rows ia (at_fault plan [] [] None) (codes "app ground ops") ≡ Ok (at_fault plan (ops []) [] (Some 0))
app_ops true plan = refl
app_ops false plan = refl

connects : (plan : List Fault) → judge all_rows true (at_fault plan (ops []) [] (Some 0)) (codes "connect 0 3 10 crc rdp") ≡ Ok (at_fault plan (ops (connecting ∷ [])) [] (Some 0))
connects plan = refl

app_cam : (ia : Bool) (plan : List Fault) (steps : List PlainStep) → judge all_rows ia (at_fault plan (ops steps) [] (Some 0)) (codes "app payload cam") ≡ Ok (at_fault plan (ops steps) (cam []) (Some 2))
app_cam true plan steps = refl
app_cam false plan steps = refl

binds : (plan : List Fault) (steps : List PlainStep) → judge all_rows true (at_fault plan (ops steps) (cam []) (Some 2)) (codes "bind 10 rdp") ≡ Ok (at_fault plan (ops steps) (cam (binding ∷ [])) (Some 2))
binds plan steps = refl

burst_words : (plan : List Fault) (w : List ℕ) → begins_as_number w ≡ true → all_ascii_digits w ≡ true → leb 1 (number_of w) ≡ true → leb (number_of w) MAX_COUNT ≡ true
    → judge_words all_rows true (at_fault plan (ops (connecting ∷ [])) [] (Some 0)) (codes "burst" ∷ codes "0" ∷ w ∷ codes "100" ∷ []) ≡ Ok (at_fault plan (ops (connecting ∷ step.Burst 0 (number_of w) 100 ∷ [])) [] (Some 0))
burst_words plan w begins digits low high = rw (begins, digits, low, high) refl

recv_words : (plan : List Fault) (steps : List PlainStep) (w : List ℕ) → begins_as_number w ≡ true → all_ascii_digits w ≡ true → leb 1 (number_of w) ≡ true → leb (number_of w) MAX_COUNT ≡ true
    → judge_words all_rows true (at_fault plan (ops steps) (cam (binding ∷ [])) (Some 2)) (codes "recv" ∷ codes "0" ∷ w ∷ []) ≡ Ok (at_fault plan (ops steps) (cam (binding ∷ step.Recv 0 (number_of w) None ∷ [])) (Some 2))
recv_words plan steps w begins digits low high = rw (begins, digits, low, high) refl

-- after the last line
ended : (earlier : List (List ℕ)) (packets : ℕ) (plan : List Fault) → scene_from all_rows earlier (at_fault plan (ops (connecting ∷ step.Burst 0 packets 100 ∷ [])) (cam (binding ∷ step.Recv 0 packets None ∷ [])) (Some 2)) [] ≡ Ok (gen_scene packets plan)
unfolding scene_from
ended earlier packets plan = refl

regroup : (a d h : List ℕ) → a ++ d ++ h ≡ a ++ (d ++ h)
regroup a d h = simp append_assoc

module _ (packets : ℕ) (least : 1 ≤ packets) (most : packets ≤ MAX_PACKETS) where
  small_number : packets < 2 ^ 64
  small_number = omega arith

  number_parts : (begins_as_number (decimal packets) ≡ true) × (all_ascii_digits (decimal packets) ≡ true)
  number_parts = and_parts (begins_as_number (decimal packets)) (all_ascii_digits (decimal packets)) (is_decimal-decimal packets least small_number)

  number_value : number_of (decimal packets) ≡ packets
  number_value = number_of-decimal packets small_number

  number_low : leb 1 (number_of (decimal packets)) ≡ true
  number_low = ap (leb 1) number_value ∙ le-leb 1 packets least

  number_high : leb (number_of (decimal packets)) MAX_COUNT ≡ true
  number_high = ap (λ n. leb n MAX_COUNT) number_value ∙ le-leb packets MAX_COUNT (omega arith)

  packets_word : IsWord (decimal packets)
  packets_word = (digits_lack (decimal packets) number_parts.1, decimal_nonempty packets small_number)

  burst_line : List ℕ
  burst_line = codes "burst 0 " ++ decimal packets ++ codes " 100"

  burst_printable : list_all is_printable (codes "burst 0 " ++ decimal packets ++ codes " 100") ≡ true
  burst_printable = all_pass_join is_printable (codes "burst 0 " ++ decimal packets) (codes " 100") (all_pass_join is_printable (codes "burst 0 ") (decimal packets) refl (digits_printable (decimal packets) number_parts.1)) refl

  recv_printable : list_all is_printable (codes "recv 0 " ++ decimal packets) ≡ true
  recv_printable = all_pass_join is_printable (codes "recv 0 ") (decimal packets) refl (digits_printable (decimal packets) number_parts.1)

  digits_short : length (decimal packets) ≤ 3
  digits_short = length-decimal-le 3 packets (omega arith) (omega arith) small_number

  bursts : (plan : List Fault) → judge all_rows true (at_fault plan (ops (connecting ∷ [])) [] (Some 0)) (codes "burst 0 " ++ decimal packets ++ codes " 100") ≡ Ok (at_fault plan (ops (connecting ∷ step.Burst 0 packets 100 ∷ [])) [] (Some 0))
  bursts plan =
      judged_by true (at_fault plan (ops (connecting ∷ [])) [] (Some 0)) (at_fault plan (ops (connecting ∷ step.Burst 0 packets 100 ∷ [])) [] (Some 0)) (codes "burst 0 " ++ decimal packets ++ codes " 100") (codes "burst" ∷ codes "0" ∷ decimal packets ∷ codes "100" ∷ [])
      burst_printable (let all = length-append (codes "burst 0 " ++ decimal packets) (codes " 100") in let some = length-append (codes "burst 0 ") (decimal packets) in let few = digits_short in omega arith)
      (ap words_of (regroup (codes "burst 0 ") (decimal packets) (codes " 100")) ∙ words_back (codes "burst") (codes "0" ∷ decimal packets ∷ codes "100" ∷ []) (literal (codes "burst") refl (omega arith), (literal (codes "0") refl (omega arith), (packets_word, (literal (codes "100") refl (omega arith), tt)))))
      (burst_words plan (decimal packets) number_parts.0 number_parts.1 number_low number_high ∙ ap (λ n. ok_sketch (at_fault plan (ops (connecting ∷ step.Burst 0 n 100 ∷ [])) [] (Some 0))) number_value)

  recvs : (plan : List Fault) (steps : List PlainStep) → judge all_rows true (at_fault plan (ops steps) (cam (binding ∷ [])) (Some 2)) (codes "recv 0 " ++ decimal packets) ≡ Ok (at_fault plan (ops steps) (cam (binding ∷ step.Recv 0 packets None ∷ [])) (Some 2))
  recvs plan steps =
      judged_by true (at_fault plan (ops steps) (cam (binding ∷ [])) (Some 2)) (at_fault plan (ops steps) (cam (binding ∷ step.Recv 0 packets None ∷ [])) (Some 2)) (codes "recv 0 " ++ decimal packets) (codes "recv" ∷ codes "0" ∷ decimal packets ∷ [])
      recv_printable (let all = length-append (codes "recv 0 ") (decimal packets) in let few = digits_short in omega arith)
      (words_back (codes "recv") (codes "0" ∷ decimal packets ∷ []) (literal (codes "recv") refl (omega arith), (literal (codes "0") refl (omega arith), (packets_word, tt))))
      (recv_words plan steps (decimal packets) number_parts.0 number_parts.1 number_low number_high ∙ ap (λ n. ok_sketch (at_fault plan (ops steps) (cam (binding ∷ step.Recv 0 n None ∷ [])) (Some 2))) number_value)

  -- the lines of the applications, after the faults
  apps_stated : (before : List (List ℕ)) (plan : List Fault) → scene_from all_rows before (at_fault plan [] [] None) (sender_lines packets ++ taker_lines packets) ≡ Ok (gen_scene packets plan)
  apps_stated before plan =
      next_line before (codes "connect 0 3 10 crc rdp" ∷ (codes "burst 0 " ++ decimal packets ++ codes " 100") ∷ codes "app payload cam" ∷ codes "bind 10 rdp" ∷ (codes "recv 0 " ++ decimal packets) ∷ []) (at_fault plan [] [] None) (at_fault plan (ops []) [] (Some 0)) (codes "app ground ops") (app_ops (is_in_app all_rows before) plan)
      ∙ next_line (codes "app ground ops" ∷ before) ((codes "burst 0 " ++ decimal packets ++ codes " 100") ∷ codes "app payload cam" ∷ codes "bind 10 rdp" ∷ (codes "recv 0 " ++ decimal packets) ∷ []) (at_fault plan (ops []) [] (Some 0)) (at_fault plan (ops (connecting ∷ [])) [] (Some 0)) (codes "connect 0 3 10 crc rdp") (connects plan)
      ∙ next_line (codes "connect 0 3 10 crc rdp" ∷ codes "app ground ops" ∷ before) (codes "app payload cam" ∷ codes "bind 10 rdp" ∷ (codes "recv 0 " ++ decimal packets) ∷ []) (at_fault plan (ops (connecting ∷ [])) [] (Some 0)) (at_fault plan (ops (connecting ∷ step.Burst 0 packets 100 ∷ [])) [] (Some 0)) (codes "burst 0 " ++ decimal packets ++ codes " 100") (bursts plan)
      ∙ next_line ((codes "burst 0 " ++ decimal packets ++ codes " 100") ∷ codes "connect 0 3 10 crc rdp" ∷ codes "app ground ops" ∷ before) (codes "bind 10 rdp" ∷ (codes "recv 0 " ++ decimal packets) ∷ []) (at_fault plan (ops (connecting ∷ step.Burst 0 packets 100 ∷ [])) [] (Some 0)) (at_fault plan (ops (connecting ∷ step.Burst 0 packets 100 ∷ [])) (cam []) (Some 2)) (codes "app payload cam") (app_cam (is_in_app all_rows ((codes "burst 0 " ++ decimal packets ++ codes " 100") ∷ codes "connect 0 3 10 crc rdp" ∷ codes "app ground ops" ∷ before)) plan (connecting ∷ step.Burst 0 packets 100 ∷ []))
      ∙ next_line (codes "app payload cam" ∷ (codes "burst 0 " ++ decimal packets ++ codes " 100") ∷ codes "connect 0 3 10 crc rdp" ∷ codes "app ground ops" ∷ before) ((codes "recv 0 " ++ decimal packets) ∷ []) (at_fault plan (ops (connecting ∷ step.Burst 0 packets 100 ∷ [])) (cam []) (Some 2)) (at_fault plan (ops (connecting ∷ step.Burst 0 packets 100 ∷ [])) (cam (binding ∷ [])) (Some 2)) (codes "bind 10 rdp") (binds plan (connecting ∷ step.Burst 0 packets 100 ∷ []))
      ∙ next_line (codes "bind 10 rdp" ∷ codes "app payload cam" ∷ (codes "burst 0 " ++ decimal packets ++ codes " 100") ∷ codes "connect 0 3 10 crc rdp" ∷ codes "app ground ops" ∷ before) [] (at_fault plan (ops (connecting ∷ step.Burst 0 packets 100 ∷ [])) (cam (binding ∷ [])) (Some 2)) (at_fault plan (ops (connecting ∷ step.Burst 0 packets 100 ∷ [])) (cam (binding ∷ step.Recv 0 packets None ∷ [])) (Some 2)) (codes "recv 0 " ++ decimal packets) (recvs plan (connecting ∷ step.Burst 0 packets 100 ∷ []))
      ∙ ended ((codes "recv 0 " ++ decimal packets) ∷ codes "bind 10 rdp" ∷ codes "app payload cam" ∷ (codes "burst 0 " ++ decimal packets ++ codes " 100") ∷ codes "connect 0 3 10 crc rdp" ∷ codes "app ground ops" ∷ before) packets plan

all_joined : {X : Type 0} (P : X → Type 0) (xs ys : List X) → AllByRecursion P xs → AllByRecursion P ys → AllByRecursion P (xs ++ ys)
all_joined P [] ys a b = b
all_joined P (x ∷ xs) ys a b = (a.0, all_joined P xs ys a.1 b)

literals_lack : (lines : List (List ℕ)) → list_all (list_all is_printable) lines ≡ true → AllByRecursion (Lacks 10) lines
literals_lack [] all = tt
literals_lack (line ∷ lines) all = let both = and_parts (list_all is_printable line) (list_all (list_all is_printable) lines) all in (printable_lacks line both.0, literals_lack lines both.1)

faults_lack : (packets a k : ℕ) → a + k ≤ 26 → AllByRecursion (Lacks 10) (map (fault_line packets) (range_with_len a k))
faults_lack packets a zero h = tt
faults_lack packets a (suc k) h = (printable_lacks (fault_line packets a) (line_printable packets a (omega arith) true [] tt (omega arith)), faults_lack packets (a + 1) k (omega arith))

lines_grouped : (n f s : List (List ℕ)) (a b c : List ℕ) → n ++ f ++ s ++ (a ∷ b ∷ c ∷ []) ≡ (n ++ f ++ s ++ (a ∷ b ∷ [])) ++ c ∷ []
lines_grouped n f s a b c = simp append_assoc

in_order : (n f s t : List (List ℕ)) → n ++ f ++ s ++ t ≡ n ++ (f ++ (s ++ t))
in_order n f s t = simp append_assoc

pub lines_cut : (packets : ℕ) → 1 ≤ packets → packets ≤ MAX_PACKETS → lines_of (gen_text packets) ≡ network_lines ++ fault_lines packets ++ sender_lines packets ++ taker_lines packets
unfolding gen_text scenario_lines
lines_cut packets least most =
    let count : packets / 20 ≤ 25 = omega arith in
    let last : List ℕ = codes "recv 0 " ++ decimal packets in
    let front : List (List ℕ) = network_lines ++ fault_lines packets ++ sender_lines packets ++ (codes "app payload cam" ∷ codes "bind 10 rdp" ∷ []) in
    let lacks : AllByRecursion (Lacks 10) front =
    all_joined (Lacks 10) (network_lines ++ fault_lines packets ++ sender_lines packets) (codes "app payload cam" ∷ codes "bind 10 rdp" ∷ [])
    (all_joined (Lacks 10) (network_lines ++ fault_lines packets) (sender_lines packets)
    (all_joined (Lacks 10) network_lines (fault_lines packets) (literals_lack network_lines refl) (faults_lack packets 1 (packets / 20) (omega arith)))
    (printable_lacks (codes "app ground ops") refl, (printable_lacks (codes "connect 0 3 10 crc rdp") refl, (printable_lacks (codes "burst 0 " ++ decimal packets ++ codes " 100") (burst_printable packets least most), tt))))
    (literals_lack (codes "app payload cam" ∷ codes "bind 10 rdp" ∷ []) refl) in
    let same = lines_grouped network_lines (fault_lines packets) (sender_lines packets) (codes "app payload cam") (codes "bind 10 rdp") last in
    ap (λ (ls : List (List ℕ)). lines_of (text_of ls)) same ∙ lines_back front last lacks (printable_lacks last (recv_printable packets least most)) ∙ sym same

-- the generated text states the scene
pub text_states : (packets : ℕ) → 1 ≤ packets → packets ≤ MAX_PACKETS → StatesScene packets
text_states packets least most =
    let count : packets / 20 ≤ 25 = omega arith in
    let faults = faults_stated packets 1 (packets / 20) network_before [] (sender_lines packets ++ taker_lines packets) (omega arith) tt (omega arith) in
    record {
      plan = faults.all;
      stated = ap (scene_from all_rows [] no_sketch) (lines_cut packets least most ∙ in_order network_lines (fault_lines packets) (sender_lines packets) (taker_lines packets))
          ∙ network_stated (fault_lines packets ++ (sender_lines packets ++ taker_lines packets))
          ∙ faults.stated ∙ apps_stated packets least most faults.before faults.all;
    }

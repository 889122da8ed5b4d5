-- A text states no more moves than it has bytes.
use Rattle.std.proofs.Common.{◌≡◌, ℕ, ◌+◌, ◌-◌, ◌≤◌, Bool, true, false, cond, not, leb, eqb, List, [], ◌∷◌, ◌++◌, length, map, drop, filter, take, slice_index, Option, Some, None, Result, Ok, Err, arith, refl, ap, subst, length-append, length-drop, length-take}
use Rattle.std.specs.Option.{unwrap_or, is_some, is_none}
use Rattle.std.specs.List.{filter_map, cons_option, slice_split, join_with_byte, list_all}
use Rattle.std.specs.FinMap as finite
use Rattle.std.proofs.lemmas.Bool.{eqb-false}
use Rattle.std.proofs.lemmas.List.Splits.{join_with_byte-slice_split}
use Rattle.csp_app.specs.PlainStep.{PlainStep}
use Rattle.csp_app.specs.PlainStep as step
use Rattle.csp_link.specs.declared.fault.Fault.{Fault}
use Rattle.csp_link.specs.declared.fault.FaultKind.{FaultKind}
use Rattle.csp_link.specs.declared.fault.FaultKind.TheVariants as fault
use Rattle.csp_log.specs.declared.places.LinkKind.{LinkKind}
use Rattle.csp_log.specs.declared.places.LinkKind.TheVariants as carried
use Rattle.csp_rdp_header.specs.declared.options.Options.{Options}
use Rattle.csp_route.specs.Routes.{Routes, merged}
use Rattle.csp_route.specs.Text.{parsed}
use Rattle.csp_route.specs.declared.error.RouteError.{RouteError}
use Rattle.csp_route.specs.declared.table.TheConstants.{MAX_ROWS}
use Rattle.csp_text.specs.Cut.{lines_of, words_of, without_line_feed}
use Rattle.csp_scene.specs.declared.limits.TheConstants.{MAX_LINE, DEFAULT_MTU}
use Rattle.csp_scene.specs.declared.refusal.SceneKind.{SceneKind}
use Rattle.csp_scene.specs.declared.refusal.SceneKind.TheVariants as kind
use Rattle.csp_scene.specs.declared.scenario.Move.{Move}
use Rattle.csp_scene.specs.declared.table.Form.{Form}
use Rattle.csp_scene.specs.declared.table.Form.TheVariants as form
use Rattle.csp_scene.specs.declared.table.Part.{Part}
use Rattle.csp_scene.specs.Scene.{PlainNode, PlainSchedule, PlainScene, in_rounds, shuffled, stepwise, moves_in}
use Rattle.csp_scene.specs.Links.{node_at}
use Rattle.csp_scene.specs.Naming.{node_named, router_named, link_named, is_hub_called}
use Rattle.csp_scene.specs.Arguments.{word_at, number_at, text_from}
use Rattle.csp_scene.specs.Steps.{bind_step, connect_step, send_step, burst_step, blob_step, raw_step, recv_step, collect_step, close_step, wait_step}
use Rattle.csp_scene.specs.Sketch.{PlainSketch, no_sketch, demand, and_then, with_node, with_link}
use Rattle.csp_scene.specs.Nodes.{state_until, new_node, new_bridge, may_add_node, state_node, new_app, may_add_app, with_app_at, state_app_at, state_app, last_app, with_step_at, may_add_step, state_step_at, state_step}
use Rattle.csp_scene.specs.Transport.{given_options, is_tuned, with_rdp_at, state_rdp_at, state_rdp}
use Rattle.csp_scene.specs.Joining.{kiss_kind, mtu_of, new_link, may_add_link, all_named, state_between, state_link, state_hub, kind_of, known_ifaces, with_routes, add_routes, routed, state_route}
use Rattle.csp_scene.specs.Faults.{direction_of, planned, link_at, may_add_fault, with_fault_at, state_fault_at, state_fault, end_named, state_fault_from, state_hub_fault_at, state_hub_fault}
use Rattle.csp_scene.specs.Moves.{move_of}
use Rattle.csp_scene.specs.Schedule.{state_schedule, add_moves, state_moves}
use Rattle.csp_scene.specs.State.{state, are_joined, finish, finish_with}
use Rattle.csp_scene.specs.Rows.{PlainFormRow, all_rows}
use Rattle.csp_scene.specs.Judge.{is_printable, row_for, is_comment, judge_words, judge, is_in_app, in_line, Refusal, scene_from, scene_of}

-- how many moves a scene in the making has
abbrev move_count : PlainSketch → ℕ
move_count d = length (moves_in (unwrap_or d.schedule in_rounds))

-- an answer leaves no more moves than so many
pub record HasAtMost (most : ℕ) (told : Result PlainSketch SceneKind) : Type 0 where
  pub has : (next : PlainSketch) → told ≡ Ok next → move_count next ≤ most

ok_has : (most : ℕ) (d : PlainSketch) → move_count d ≤ most → HasAtMost most (Ok d)
ok_has most d h = record { has = λ next e. let same : d ≡ next = cc in subst (λ (one : PlainSketch). move_count one ≤ most) same h }

err_has : (most : ℕ) (kind : SceneKind) → HasAtMost most (Err kind)
err_has most kind = record { has = λ next e. absurd (cc) }

demanded : (most : ℕ) (b : Bool) (kind : SceneKind) (told : Result PlainSketch SceneKind) → HasAtMost most told → HasAtMost most (demand b kind told)
demanded most true kind told h = h
demanded most false kind told h = err_has most kind

then_has : {A : Type 0} (most : ℕ) (told : Result A SceneKind) (next : A → Result PlainSketch SceneKind) → ((a : A) → HasAtMost most (next a)) → HasAtMost most (and_then told next)
then_has most (Ok a) next h = h a
then_has most (Err kind) next h = err_has most kind

more_has : (least most : ℕ) (told : Result PlainSketch SceneKind) → least ≤ most → HasAtMost least told → HasAtMost most told
more_has least most told grown h = record { has = λ next e. let here = h.has next e in omega (arith, grown, here) }

node_has : (d : PlainSketch) (node : PlainNode) → HasAtMost (move_count d) (state_node d node)
node_has d node = then_has (move_count d) (may_add_node d node.name node.addr) (λ _. Ok (with_node node d)) (λ _. ok_has (move_count d) (with_node node d) (omega arith))

app_has : (d : PlainSketch) (word : List ℕ) (place : Option ℕ) → HasAtMost (move_count d) (state_app_at d word place)
app_has d word None = err_has (move_count d) kind.Unknown
app_has d word (Some place) =
    then_has (move_count d) (may_add_app (node_at d.nodes place).apps d.links word) (λ _. Ok (with_app_at place (new_app word) d)) (λ _. ok_has (move_count d) (with_app_at place (new_app word) d) (omega arith))

step_has : (d : PlainSketch) (step : PlainStep) (place : Option ℕ) → HasAtMost (move_count d) (state_step_at d step place)
step_has d step None = err_has (move_count d) kind.Place
step_has d step (Some place) =
    then_has (move_count d) (may_add_step (last_app (node_at d.nodes place)).steps step) (λ _. Ok (with_step_at place step d)) (λ _. ok_has (move_count d) (with_step_at place step d) (omega arith))

rdp_has : (d : PlainSketch) (options : Options) (place : Option ℕ) → HasAtMost (move_count d) (state_rdp_at d options place)
rdp_has d options None = err_has (move_count d) kind.Unknown
rdp_has d options (Some place) =
    let next = with_rdp_at place options d in
    demanded (move_count d) (not (is_tuned d place)) kind.Twice (Ok next) (ok_has (move_count d) next (omega arith))

link_has : (d : PlainSketch) (word : List ℕ) (carries : LinkKind) (hub : Bool) (mtu : ℕ) (places : Option (List ℕ)) → HasAtMost (move_count d) (state_between d word carries hub mtu places)
link_has d word carries hub mtu None = err_has (move_count d) kind.Unknown
link_has d word carries hub mtu (Some places) =
    let next = with_link (new_link d.links word carries hub mtu places) d in
    then_has (move_count d) (may_add_link d word places) (λ _. Ok next) (λ _. ok_has (move_count d) next (omega arith))

rows_has : (d : PlainSketch) (place : Option ℕ) (more : Routes) → HasAtMost (move_count d) (add_routes d place more)
rows_has d None more = err_has (move_count d) kind.Unknown
rows_has d (Some place) more =
    let routes = merged (node_at d.nodes place).routes more in
    demanded (move_count d) (leb (finite.len routes) MAX_ROWS) kind.Full (Ok (with_routes place routes d)) (ok_has (move_count d) (with_routes place routes d) (omega arith))

routed_has : (d : PlainSketch) (place : Option ℕ) (read : Result Routes RouteError) → HasAtMost (move_count d) (routed d place read)
routed_has d place (Ok more) = rows_has d place more
routed_has d place (Err error) = err_has (move_count d) (kind_of error.kind)

fault_has : (d : PlainSketch) (fault : Fault) (place : Option ℕ) → HasAtMost (move_count d) (state_fault_at d fault place)
fault_has d fault None = err_has (move_count d) kind.Unknown
fault_has d fault (Some place) =
    then_has (move_count d) (may_add_fault d.links place fault) (λ _. Ok (with_fault_at place fault d)) (λ _. ok_has (move_count d) (with_fault_at place fault d) (omega arith))

from_end_has : (d : PlainSketch) (place : ℕ) (args : List (List ℕ)) (what : FaultKind) (end : Option ℕ) → HasAtMost (move_count d) (state_fault_from d place args what end)
from_end_has d place args what None = err_has (move_count d) kind.Unknown
from_end_has d place args what (Some end) = fault_has d (planned end args what) (Some place)

hub_fault_has : (d : PlainSketch) (args : List (List ℕ)) (what : FaultKind) (place : Option ℕ) → HasAtMost (move_count d) (state_hub_fault_at d args what place)
hub_fault_has d args what None = err_has (move_count d) kind.Unknown
hub_fault_has d args what (Some place) = from_end_has d place args what (end_named (word_at args 1) d.nodes (link_at d.links place))

schedule_has : (d : PlainSketch) (schedule : PlainSchedule) → length (moves_in schedule) ≤ 0 → HasAtMost (move_count d) (state_schedule d schedule)
schedule_has d schedule none =
    demanded (move_count d) (is_none d.schedule) kind.Twice (Ok (record d { schedule = Some schedule })) (ok_has (move_count d) (record d { schedule = Some schedule }) (omega (arith, none)))

until_has : (d : PlainSketch) (args : List (List ℕ)) → HasAtMost (move_count d) (state_until d args)
until_has d args =
    demanded (move_count d) (is_none d.until) kind.Twice (Ok (record d { until = Some (number_at args 0) })) (ok_has (move_count d) (record d { until = Some (number_at args 0) }) (omega arith))

-- a list of what there is has no more elements
cons_length : {Y : Type 0} (answer : Option Y) (ys : List Y) (most : ℕ) → length ys ≤ most → length (cons_option answer ys) ≤ most + 1
cons_length None ys most le = omega (arith, le)
cons_length (Some y) ys most le = omega (arith, le)

filter_map_length : {X Y : Type 0} (h : X → Option Y) (xs : List X) → length (filter_map h xs) ≤ length xs
filter_map_length h [] = omega arith
filter_map_length h (x ∷ xs) = let shorter = cons_length (h x) (filter_map h xs) (length xs) (filter_map_length h xs) in omega (arith, shorter)

add_has : (d : PlainSketch) (moves : List Move) (schedule : Option PlainSchedule) → HasAtMost (length (moves_in (unwrap_or schedule in_rounds)) + length moves) (add_moves d moves schedule)
add_has d moves None = ok_has (0 + length moves) (record d { schedule = Some (stepwise moves) }) (omega arith)
add_has d moves (Some in_rounds) = err_has (0 + length moves) kind.Twice
add_has d moves (Some (shuffled seed)) = err_has (0 + length moves) kind.Twice
add_has d moves (Some (stepwise earlier)) = ok_has (length earlier + length moves) (record d { schedule = Some (stepwise (earlier ++ moves)) }) (omega (arith, length-append earlier moves))

moves_has : (d : PlainSketch) (words : List (List ℕ)) → HasAtMost (move_count d + length words) (state_moves d words)
moves_has d words =
    let named = filter_map (move_of d.nodes d.links) words in
    demanded (move_count d + length words) (list_all (λ word. is_some (move_of d.nodes d.links word)) words) kind.Unknown (add_moves d named d.schedule)
    (more_has (move_count d + length named) (move_count d + length words) (add_moves d named d.schedule) (omega (arith, filter_map_length (move_of d.nodes d.links) words)) (add_has d named d.schedule))

-- a line states no more moves than it has words
same_has : (d : PlainSketch) (args : List (List ℕ)) (told : Result PlainSketch SceneKind) → HasAtMost (move_count d) told → HasAtMost (move_count d + length args) told
same_has d args told h = more_has (move_count d) (move_count d + length args) told (omega arith) h

link_line : (d : PlainSketch) (carries : LinkKind) (mtu : ℕ) (args : List (List ℕ)) → HasAtMost (move_count d + length args) (state_link d carries mtu args)
link_line d carries mtu args = same_has d args (state_link d carries mtu args) (link_has d (word_at args 0) carries false mtu (all_named (node_named (word_at args 2) d.nodes ∷ node_named (word_at args 3) d.nodes ∷ [])))

hub_line : (d : PlainSketch) (args : List (List ℕ)) → HasAtMost (move_count d + length args) (state_hub d args)
hub_line d args = same_has d args (state_hub d args) (link_has d (word_at args 0) carried.Can true DEFAULT_MTU (all_named (map (λ word. router_named word d.nodes) (drop 1 args))))

fault_line : (d : PlainSketch) (args : List (List ℕ)) (what : FaultKind) → HasAtMost (move_count d + length args) (state_fault d args what)
fault_line d args what = same_has d args (state_fault d args what) (fault_has d (planned (direction_of (word_at args 1)) args what) (link_named (word_at args 0) d.links))

hub_fault_line : (d : PlainSketch) (args : List (List ℕ)) (what : FaultKind) → HasAtMost (move_count d + length args) (state_hub_fault d args what)
hub_fault_line d args what = same_has d args (state_hub_fault d args what) (hub_fault_has d args what (link_named (word_at args 0) d.links))

step_line : (d : PlainSketch) (args : List (List ℕ)) (step : PlainStep) → HasAtMost (move_count d + length args) (state_step d step)
step_line d args step = same_has d args (state_step d step) (step_has d step d.host)

state_has : (one : Form) (shape : List Part) (d : PlainSketch) (args : List (List ℕ)) → HasAtMost (move_count d + length args) (state one shape d args)
state_has form.Until shape d args = same_has d args (state_until d args) (until_has d args)
state_has form.Rounds shape d args = same_has d args (state_schedule d in_rounds) (schedule_has d in_rounds (omega arith))
state_has form.Shuffle shape d args = same_has d args (state_schedule d (shuffled (number_at args 1))) (schedule_has d (shuffled (number_at args 1)) (omega arith))
state_has form.Moves shape d args = more_has (move_count d + length (drop 1 args)) (move_count d + length args) (state_moves d (drop 1 args)) (omega (arith, length-drop 1 args)) (moves_has d (drop 1 args))
state_has form.Node shape d args = same_has d args (state_node d (new_node shape args)) (node_has d (new_node shape args))
state_has form.Bridge shape d args = same_has d args (state_node d (new_bridge shape args)) (node_has d (new_bridge shape args))
state_has form.Rdp shape d args = same_has d args (state_rdp d args) (rdp_has d (given_options args) (router_named (word_at args 0) d.nodes))
state_has form.KissLink shape d args = link_line d (kiss_kind shape) (mtu_of shape args) args
state_has form.CanLink shape d args = link_line d carried.Can (mtu_of shape args) args
state_has form.Hub shape d args = hub_line d args
state_has form.Route shape d args =
    let place = router_named (word_at args 0) d.nodes in
    same_has d args (state_route d args) (routed_has d place (parsed (known_ifaces d place) (text_from args 1)))
state_has form.Lose shape d args = fault_line d args fault.Lose
state_has form.Repeat shape d args = fault_line d args (fault.Repeat (number_at args 4))
state_has form.Delay shape d args = fault_line d args (fault.Delay (number_at args 4))
state_has form.Flip shape d args = fault_line d args (fault.Flip (number_at args 4))
state_has form.HubLose shape d args = hub_fault_line d args fault.Lose
state_has form.HubRepeat shape d args = hub_fault_line d args (fault.Repeat (number_at args 4))
state_has form.HubDelay shape d args = hub_fault_line d args (fault.Delay (number_at args 4))
state_has form.HubFlip shape d args = hub_fault_line d args (fault.Flip (number_at args 4))
state_has form.App shape d args = same_has d args (state_app d args) (app_has d (word_at args 1) (router_named (word_at args 0) d.nodes))
state_has form.Take shape d args = step_line d args step.Take
state_has form.Give shape d args = step_line d args step.Give
state_has form.Bind shape d args = step_line d args (bind_step shape args)
state_has form.Connect shape d args = step_line d args (connect_step shape args)
state_has form.Send shape d args = step_line d args (send_step args)
state_has form.Burst shape d args = step_line d args (burst_step args)
state_has form.Blob shape d args = step_line d args (blob_step args)
state_has form.Raw shape d args = step_line d args (raw_step args)
state_has form.Recv shape d args = step_line d args (recv_step shape args)
state_has form.Collect shape d args = step_line d args (collect_step shape args)
state_has form.Close shape d args = step_line d args (close_step args)
state_has form.Wait shape d args = step_line d args (wait_step args)

by_comment : (most : ℕ) (comment : Bool) (ignored told : Result PlainSketch SceneKind) → HasAtMost most ignored → HasAtMost most told → HasAtMost most (cond comment ignored told)
by_comment most true ignored told h k = h
by_comment most false ignored told h k = k

words_has : (rows : List PlainFormRow) (in_app : Bool) (d : PlainSketch) (words : List (List ℕ)) → HasAtMost (move_count d + length words) (judge_words rows in_app d words)
words_has rows in_app d [] = ok_has (move_count d + 0) d (omega arith)
words_has rows in_app d (first ∷ args) =
    let most = move_count d + length (first ∷ args) in
    let next : PlainFormRow → Result PlainSketch SceneKind = λ row. state row.form row.shape d args in
    by_comment most (is_comment first) (Ok d) (and_then (row_for rows in_app (is_hub_called (word_at args 0) d.links) first args) next) (ok_has most d (omega arith))
    (then_has most (row_for rows in_app (is_hub_called (word_at args 0) d.links) first args) next (λ row. more_has (move_count d + length args) most (state row.form row.shape d args) (omega arith) (state_has row.form row.shape d args)))

-- pieces that have a byte are no more than the bytes of all of them with one between each two
one_piece : (piece : List ℕ) (rest : List (List ℕ)) → length (cond (not (eqb (length piece) 0)) (piece ∷ rest) rest) ≤ length rest + length piece
one_piece piece rest = by_test (eqb (length piece) 0) refl
  where
    by_test : (b : Bool) → eqb (length piece) 0 ≡ b → length (cond (not b) (piece ∷ rest) rest) ≤ length rest + length piece
    by_test true e = omega arith
    by_test false e = let some : length piece ≡ 0 → ⊥ = eqb-false (length piece) 0 e in omega (arith, some)

filled_count : (c : ℕ) (pieces : List (List ℕ)) → length (filter (λ piece. not (eqb (length piece) 0)) pieces) ≤ length (join_with_byte c pieces)
filled_count c [] = omega arith
filled_count c (piece ∷ []) = let one = one_piece piece [] in omega (arith, one)
filled_count c (piece ∷ next ∷ pieces) =
    let one = one_piece piece (filter (λ p. not (eqb (length p) 0)) (next ∷ pieces)) in
    let rest = filled_count c (next ∷ pieces) in
    omega (arith, one, rest, length-append piece (c ∷ join_with_byte c (next ∷ pieces)))

words_within : (line : List ℕ) → length (words_of line) ≤ length line
words_within line = omega (arith, filled_count 32 (slice_split (λ b. eqb b 32) line), ap length (join_with_byte-slice_split 32 line))

judge_has : (rows : List PlainFormRow) (in_app : Bool) (d : PlainSketch) (line : List ℕ) → HasAtMost (move_count d + length line) (judge rows in_app d line)
judge_has rows in_app d line =
    let most = move_count d + length line in
    let told = judge_words rows in_app d (words_of line) in
    demanded most (list_all is_printable line) kind.Byte (demand (leb (length line) MAX_LINE) kind.Long told)
    (demanded most (leb (length line) MAX_LINE) kind.Long told
    (more_has (move_count d + length (words_of line)) most told (omega (arith, words_within line)) (words_has rows in_app d (words_of line))))

-- the bytes of all lines
abbrev total : List (List ℕ) → ℕ
total [] = 0
total (line ∷ lines) = length line + total lines

total_within : (c : ℕ) (pieces : List (List ℕ)) → total pieces ≤ length (join_with_byte c pieces)
total_within c [] = omega arith
total_within c (piece ∷ []) = omega arith
total_within c (piece ∷ next ∷ pieces) =
    let rest = total_within c (next ∷ pieces) in
    omega (arith, rest, length-append piece (c ∷ join_with_byte c (next ∷ pieces)))

cut_shorter : (b : Bool) (n : ℕ) (text : List ℕ) → length (cond b (take n text) text) ≤ length text
cut_shorter true n text = omega (arith, length-take n text)
cut_shorter false n text = omega arith

by_empty : (b : Bool) (lines : List (List ℕ)) (most : ℕ) → total lines ≤ most → total (cond b [] lines) ≤ most
by_empty true lines most h = omega arith
by_empty false lines most h = h

lines_within : (text : List ℕ) → total (lines_of text) ≤ length text
lines_within text =
    by_empty (eqb (length text) 0) _ (length text)
    (omega (arith, total_within 10 (slice_split (λ b. eqb b 10) (without_line_feed text)), ap length (join_with_byte-slice_split 10 (without_line_feed text)), cut_shorter (eqb (slice_index text (length text - 1)) 10) (length text - 1) text))

-- the scene of some lines has no more moves than the sketch before them and the lines have bytes
finish_has : (d : PlainSketch) (until : Option ℕ) (scene : PlainScene) → finish_with d until ≡ Ok scene → length (moves_in scene.schedule) ≤ move_count d
finish_has d None scene e = absurd (cc)
finish_has d (Some until) scene e = by_demand (are_joined d.links 0 d.nodes) e
  where
    whole : PlainScene
    whole = record { until = until; schedule = unwrap_or d.schedule in_rounds; nodes = d.nodes; links = d.links }

    by_demand : (b : Bool) → demand b kind.Missing (Ok whole) ≡ Ok scene → length (moves_in scene.schedule) ≤ move_count d
    by_demand true is = let same : whole ≡ scene = cc in subst (λ (one : PlainScene). length (moves_in one.schedule) ≤ move_count d) same (omega arith)
    by_demand false is = absurd (cc)

pub unlined : {A B : Type 0} (P : B → Type 0) (count : ℕ) (told : Result A SceneKind) (next : A → Result B Refusal) (b : B) → ((a : A) → told ≡ Ok a → next a ≡ Ok b → P b) → in_line count told next ≡ Ok b → P b
unlined P count (Ok a) next b h e = h a refl e
unlined P count (Err kind) next b h e = absurd (cc)

from_has : (rows : List PlainFormRow) (lines earlier : List (List ℕ)) (d : PlainSketch) (scene : PlainScene) → scene_from rows earlier d lines ≡ Ok scene → length (moves_in scene.schedule) ≤ move_count d + total lines
unfolding scene_from
from_has rows [] earlier d scene e =
    unlined (λ (s : PlainScene). length (moves_in s.schedule) ≤ move_count d + 0) (length earlier) (finish d) (λ s. Ok s) scene
    (λ s is same. let here = finish_has d d.until s is in let it : s ≡ scene = cc in subst (λ (one : PlainScene). length (moves_in one.schedule) ≤ move_count d + 0) it (omega (arith, here))) e
from_has rows (line ∷ lines) earlier d scene e =
    unlined (λ (s : PlainScene). length (moves_in s.schedule) ≤ move_count d + total (line ∷ lines)) (length earlier) (judge rows (is_in_app rows earlier) d line) (λ next. scene_from rows (line ∷ earlier) next lines) scene
    (λ next is left.
    let here = (judge_has rows (is_in_app rows earlier) d line).has next is in
    let rest = from_has rows lines (line ∷ earlier) next scene left in
    omega (arith, here, rest)) e

pub scene_moves : (text : List ℕ) (scene : PlainScene) → scene_of text ≡ Ok scene → length (moves_in scene.schedule) ≤ length text
scene_moves text scene e = let all = from_has all_rows (lines_of text) [] no_sketch scene e in omega (arith, all, lines_within text)

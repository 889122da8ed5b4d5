-- What no line changes of the nodes of a scene but one that adds a node.
use Rattle.std.proofs.Common.{◌≡◌, ℕ, Bool, true, false, cond, not, ◌||◌, leb, ltb, List, [], ◌∷◌, ◌++◌, length, drop, map, slice_set, Option, Some, None, unwrap_or, Result, Ok, Err, refl, subst}
use Rattle.std.specs.Option.{is_some, is_none}
use Rattle.std.specs.List.{filter_map, list_all}
use Rattle.std.specs.FinMap as finite
use Rattle.csp_app.specs.PlainStep.{PlainStep}
use Rattle.csp_app.specs.PlainStep as step
use Rattle.csp_link.specs.declared.fault.Fault.{Fault}
use Rattle.csp_link.specs.declared.fault.FaultKind.{FaultKind}
use Rattle.csp_link.specs.declared.fault.FaultKind.TheVariants as fault
use Rattle.csp_log.specs.declared.places.LinkKind.{LinkKind}
use Rattle.csp_log.specs.declared.places.LinkKind.TheVariants as carried
use Rattle.csp_rdp_header.specs.declared.options.Options.{Options}
use Rattle.csp_route.specs.Routes.{Routes, merged}
use Rattle.csp_route.specs.Text.{parsed}
use Rattle.csp_route.specs.declared.error.RouteError.{RouteError}
use Rattle.csp_route.specs.declared.table.TheConstants.{MAX_ROWS}
use Rattle.csp_text.specs.Cut.{lines_of, words_of}
use Rattle.csp_scene.specs.declared.limits.TheConstants.{MAX_LINE, MAX_NODES, DEFAULT_MTU}
use Rattle.csp_scene.specs.declared.refusal.SceneKind.{SceneKind}
use Rattle.csp_scene.specs.declared.refusal.SceneKind.TheVariants as kind
use Rattle.csp_scene.specs.declared.scenario.Move.{Move}
use Rattle.csp_scene.specs.declared.table.Form.{Form}
use Rattle.csp_scene.specs.declared.table.Form.TheVariants as form
use Rattle.csp_scene.specs.declared.table.Part.{Part}
use Rattle.csp_scene.specs.Scene.{PlainNode, PlainSchedule, PlainScene, in_rounds, shuffled, stepwise}
use Rattle.csp_scene.specs.Links.{node_at}
use Rattle.csp_scene.specs.Naming.{is_name_taken, is_addr_taken, node_named, router_named, link_named, is_hub_called}
use Rattle.csp_scene.specs.Arguments.{word_at, number_at, text_from}
use Rattle.csp_scene.specs.Steps.{bind_step, connect_step, send_step, burst_step, blob_step, raw_step, recv_step, collect_step, close_step, wait_step}
use Rattle.csp_scene.specs.Sketch.{PlainSketch, no_sketch, demand, and_then, with_node, with_link}
use Rattle.csp_scene.specs.Nodes.{state_until, new_node, new_bridge, state_node, new_app, with_app, may_add_app, with_app_at, state_app_at, last_app, with_last_step, with_step_at, may_add_step, state_step_at}
use Rattle.csp_scene.specs.Transport.{given_options, is_tuned, with_rdp, with_rdp_at, state_rdp_at}
use Rattle.csp_scene.specs.Joining.{kiss_kind, mtu_of, new_link, may_add_link, all_named, state_between, kind_of, known_ifaces, with_routes, add_routes, routed}
use Rattle.csp_scene.specs.Faults.{direction_of, planned, link_at, may_add_fault, with_fault_at, state_fault_at, state_fault, end_named, state_fault_from, state_hub_fault_at, state_hub_fault}
use Rattle.csp_scene.specs.Moves.{move_of}
use Rattle.csp_scene.specs.Schedule.{state_schedule, add_moves, state_moves}
use Rattle.csp_scene.specs.State.{state, are_joined, finish, finish_with}
use Rattle.csp_scene.specs.Rows.{PlainFormRow, all_rows}
use Rattle.csp_scene.specs.Judge.{is_printable, row_for, is_comment, judge_words, judge, is_in_app, scene_from, scene_of}
use Rattle.csp_scene.proofs.MoveCounts.{unlined}

-- ---- what a line leaves

-- what is so of no nodes, of one more whose name and address no other has, and of a node changed that keeps its name and its address
pub record IsOfNodes (Are : List PlainNode → Type 0) : Type 0 where
  pub none : Are []
  pub more : (d : PlainSketch) (node : PlainNode) → Are d.nodes → is_name_taken node.name d.nodes d.links ≡ false → is_addr_taken node.addr d.nodes ≡ false → Are (with_node node d).nodes
  pub same : (nodes : List PlainNode) (place : ℕ) (node : PlainNode) → node.name ≡ (node_at nodes place).name → node.addr ≡ (node_at nodes place).addr → Are nodes → Are (slice_set nodes place node)

-- it is so of the nodes of the sketch that an answer leaves
pub record Leaves (Are : List PlainNode → Type 0) (told : Result PlainSketch SceneKind) : Type 0 where
  pub leaves : (next : PlainSketch) → told ≡ Ok next → Are next.nodes

ok_leaves : (Are : List PlainNode → Type 0) (d : PlainSketch) → Are d.nodes → Leaves Are (Ok d)
ok_leaves Are d h = record { leaves = λ next e. let same : d ≡ next = cc in subst (λ (one : PlainSketch). Are one.nodes) same h }

err_leaves : {Are : List PlainNode → Type 0} (kind : SceneKind) → Leaves Are (Err kind)
err_leaves kind = record { leaves = λ next e. absurd (cc) }

demanded : {Are : List PlainNode → Type 0} (b : Bool) (kind : SceneKind) (told : Result PlainSketch SceneKind) → Leaves Are told → Leaves Are (demand b kind told)
demanded true kind told h = h
demanded false kind told h = err_leaves kind

then_leaves : {Are : List PlainNode → Type 0} {A : Type 0} (told : Result A SceneKind) (next : A → Result PlainSketch SceneKind) → ((a : A) → Leaves Are (next a)) → Leaves Are (and_then told next)
then_leaves (Ok a) next h = h a
then_leaves (Err kind) next h = err_leaves kind

module _ (Are : List PlainNode → Type 0) (is : IsOfNodes Are) (d : PlainSketch) (all : Are d.nodes) where
  changed : (place : ℕ) (node : PlainNode) → node.name ≡ (node_at d.nodes place).name → node.addr ≡ (node_at d.nodes place).addr → Are (slice_set d.nodes place node)
  changed place node name addr = is.same d.nodes place node name addr all

  node_leaves : (node : PlainNode) → Leaves Are (state_node d node)
  node_leaves node = by_taken (is_name_taken node.name d.nodes d.links) (is_addr_taken node.addr d.nodes) refl refl
    where
      may : Bool → Bool → Result (Unit {0}) SceneKind
      may named taken = demand (not (named || taken)) kind.Twice (demand (ltb (length d.nodes) MAX_NODES) kind.Full (Ok tt))

      by_taken : (named taken : Bool) → is_name_taken node.name d.nodes d.links ≡ named → is_addr_taken node.addr d.nodes ≡ taken → Leaves Are (and_then (may named taken) (λ _. Ok (with_node node d)))
      by_taken true taken e f = err_leaves kind.Twice
      by_taken false true e f = err_leaves kind.Twice
      by_taken false false e f = then_leaves (may false false) (λ _. Ok (with_node node d)) (λ _. ok_leaves Are (with_node node d) (is.more d node all e f))

  app_leaves : (word : List ℕ) (place : Option ℕ) → Leaves Are (state_app_at d word place)
  app_leaves word None = err_leaves kind.Unknown
  app_leaves word (Some place) =
      then_leaves (may_add_app (node_at d.nodes place).apps d.links word) (λ _. Ok (with_app_at place (new_app word) d))
      (λ _. ok_leaves Are (with_app_at place (new_app word) d) (changed place (with_app (new_app word) (node_at d.nodes place)) refl refl))

  step_leaves : (step : PlainStep) (place : Option ℕ) → Leaves Are (state_step_at d step place)
  step_leaves step None = err_leaves kind.Place
  step_leaves step (Some place) =
      then_leaves (may_add_step (last_app (node_at d.nodes place)).steps step) (λ _. Ok (with_step_at place step d))
      (λ _. ok_leaves Are (with_step_at place step d) (changed place (with_last_step step (node_at d.nodes place)) refl refl))

  rdp_leaves : (options : Options) (place : Option ℕ) → Leaves Are (state_rdp_at d options place)
  rdp_leaves options None = err_leaves kind.Unknown
  rdp_leaves options (Some place) =
      demanded (not (is_tuned d place)) kind.Twice (Ok (with_rdp_at place options d))
      (ok_leaves Are (with_rdp_at place options d) (changed place (with_rdp options (node_at d.nodes place)) refl refl))

  link_leaves : (word : List ℕ) (carries : LinkKind) (hub : Bool) (mtu : ℕ) (places : Option (List ℕ)) → Leaves Are (state_between d word carries hub mtu places)
  link_leaves word carries hub mtu None = err_leaves kind.Unknown
  link_leaves word carries hub mtu (Some places) =
      let next = with_link (new_link d.links word carries hub mtu places) d in
      then_leaves (may_add_link d word places) (λ _. Ok next) (λ _. ok_leaves Are next all)

  rows_leave : (place : Option ℕ) (more : Routes) → Leaves Are (add_routes d place more)
  rows_leave None more = err_leaves kind.Unknown
  rows_leave (Some place) more =
      let routes = merged (node_at d.nodes place).routes more in
      demanded (leb (finite.len routes) MAX_ROWS) kind.Full (Ok (with_routes place routes d))
      (ok_leaves Are (with_routes place routes d) (changed place (record (node_at d.nodes place) { routes = routes }) refl refl))

  routed_leave : (place : Option ℕ) (read : Result Routes RouteError) → Leaves Are (routed d place read)
  routed_leave place (Ok more) = rows_leave place more
  routed_leave place (Err error) = err_leaves (kind_of error.kind)

  fault_leaves : (planned : Fault) (place : Option ℕ) → Leaves Are (state_fault_at d planned place)
  fault_leaves planned None = err_leaves kind.Unknown
  fault_leaves planned (Some place) =
      then_leaves (may_add_fault d.links place planned) (λ _. Ok (with_fault_at place planned d)) (λ _. ok_leaves Are (with_fault_at place planned d) all)

  fault_line_leaves : (args : List (List ℕ)) (what : FaultKind) → Leaves Are (state_fault d args what)
  fault_line_leaves args what = fault_leaves (planned (direction_of (word_at args 1)) args what) (link_named (word_at args 0) d.links)

  from_end_leaves : (place : ℕ) (args : List (List ℕ)) (what : FaultKind) (end : Option ℕ) → Leaves Are (state_fault_from d place args what end)
  from_end_leaves place args what None = err_leaves kind.Unknown
  from_end_leaves place args what (Some end) = fault_leaves (planned end args what) (Some place)

  hub_fault_at_leaves : (args : List (List ℕ)) (what : FaultKind) (place : Option ℕ) → Leaves Are (state_hub_fault_at d args what place)
  hub_fault_at_leaves args what None = err_leaves kind.Unknown
  hub_fault_at_leaves args what (Some place) = from_end_leaves place args what (end_named (word_at args 1) d.nodes (link_at d.links place))

  hub_fault_leaves : (args : List (List ℕ)) (what : FaultKind) → Leaves Are (state_hub_fault d args what)
  hub_fault_leaves args what = hub_fault_at_leaves args what (link_named (word_at args 0) d.links)

  schedule_leaves : (schedule : PlainSchedule) → Leaves Are (state_schedule d schedule)
  schedule_leaves schedule =
      let next : PlainSketch = record d { schedule = Some schedule } in
      demanded (is_none d.schedule) kind.Twice (Ok next) (ok_leaves Are next all)

  until_leaves : (args : List (List ℕ)) → Leaves Are (state_until d args)
  until_leaves args =
      let next : PlainSketch = record d { until = Some (number_at args 0) } in
      demanded (is_none d.until) kind.Twice (Ok next) (ok_leaves Are next all)

  add_leaves : (moves : List Move) (schedule : Option PlainSchedule) → Leaves Are (add_moves d moves schedule)
  add_leaves moves None = ok_leaves Are (record d { schedule = Some (stepwise moves) }) all
  add_leaves moves (Some in_rounds) = err_leaves kind.Twice
  add_leaves moves (Some (shuffled seed)) = err_leaves kind.Twice
  add_leaves moves (Some (stepwise earlier)) = ok_leaves Are (record d { schedule = Some (stepwise (earlier ++ moves)) }) all

  moves_leave : (words : List (List ℕ)) → Leaves Are (state_moves d words)
  moves_leave words =
      let named = filter_map (move_of d.nodes d.links) words in
      demanded (list_all (λ word. is_some (move_of d.nodes d.links word)) words) kind.Unknown (add_moves d named d.schedule) (add_leaves named d.schedule)

  state_leaves : (one : Form) (shape : List Part) (args : List (List ℕ)) → Leaves Are (state one shape d args)
  state_leaves form.Until shape args = until_leaves args
  state_leaves form.Rounds shape args = schedule_leaves in_rounds
  state_leaves form.Shuffle shape args = schedule_leaves (shuffled (number_at args 1))
  state_leaves form.Moves shape args = moves_leave (drop 1 args)
  state_leaves form.Node shape args = node_leaves (new_node shape args)
  state_leaves form.Bridge shape args = node_leaves (new_bridge shape args)
  state_leaves form.Rdp shape args = rdp_leaves (given_options args) (router_named (word_at args 0) d.nodes)
  state_leaves form.KissLink shape args = link_leaves (word_at args 0) (kiss_kind shape) false (mtu_of shape args) (all_named (node_named (word_at args 2) d.nodes ∷ node_named (word_at args 3) d.nodes ∷ []))
  state_leaves form.CanLink shape args = link_leaves (word_at args 0) carried.Can false (mtu_of shape args) (all_named (node_named (word_at args 2) d.nodes ∷ node_named (word_at args 3) d.nodes ∷ []))
  state_leaves form.Hub shape args = link_leaves (word_at args 0) carried.Can true DEFAULT_MTU (all_named (map (λ word. router_named word d.nodes) (drop 1 args)))
  state_leaves form.Route shape args =
      let place = router_named (word_at args 0) d.nodes in
      routed_leave place (parsed (known_ifaces d place) (text_from args 1))
  state_leaves form.Lose shape args = fault_line_leaves args fault.Lose
  state_leaves form.Repeat shape args = fault_line_leaves args (fault.Repeat (number_at args 4))
  state_leaves form.Delay shape args = fault_line_leaves args (fault.Delay (number_at args 4))
  state_leaves form.Flip shape args = fault_line_leaves args (fault.Flip (number_at args 4))
  state_leaves form.HubLose shape args = hub_fault_leaves args fault.Lose
  state_leaves form.HubRepeat shape args = hub_fault_leaves args (fault.Repeat (number_at args 4))
  state_leaves form.HubDelay shape args = hub_fault_leaves args (fault.Delay (number_at args 4))
  state_leaves form.HubFlip shape args = hub_fault_leaves args (fault.Flip (number_at args 4))
  state_leaves form.App shape args = app_leaves (word_at args 1) (router_named (word_at args 0) d.nodes)
  state_leaves form.Take shape args = step_leaves step.Take d.host
  state_leaves form.Give shape args = step_leaves step.Give d.host
  state_leaves form.Bind shape args = step_leaves (bind_step shape args) d.host
  state_leaves form.Connect shape args = step_leaves (connect_step shape args) d.host
  state_leaves form.Send shape args = step_leaves (send_step args) d.host
  state_leaves form.Burst shape args = step_leaves (burst_step args) d.host
  state_leaves form.Blob shape args = step_leaves (blob_step args) d.host
  state_leaves form.Raw shape args = step_leaves (raw_step args) d.host
  state_leaves form.Recv shape args = step_leaves (recv_step shape args) d.host
  state_leaves form.Collect shape args = step_leaves (collect_step shape args) d.host
  state_leaves form.Close shape args = step_leaves (close_step args) d.host
  state_leaves form.Wait shape args = step_leaves (wait_step args) d.host

  by_comment : (comment : Bool) (ignored told : Result PlainSketch SceneKind) → Leaves Are ignored → Leaves Are told → Leaves Are (cond comment ignored told)
  by_comment true ignored told h k = h
  by_comment false ignored told h k = k

  words_leave : (rows : List PlainFormRow) (in_app : Bool) (words : List (List ℕ)) → Leaves Are (judge_words rows in_app d words)
  words_leave rows in_app [] = ok_leaves Are d all
  words_leave rows in_app (first ∷ args) =
      let next : PlainFormRow → Result PlainSketch SceneKind = λ row. state row.form row.shape d args in
      by_comment (is_comment first) (Ok d) (and_then (row_for rows in_app (is_hub_called (word_at args 0) d.links) first args) next) (ok_leaves Are d all)
      (then_leaves (row_for rows in_app (is_hub_called (word_at args 0) d.links) first args) next (λ row. state_leaves row.form row.shape args))

  judge_leaves : (rows : List PlainFormRow) (in_app : Bool) (line : List ℕ) → Leaves Are (judge rows in_app d line)
  judge_leaves rows in_app line =
      let told = judge_words rows in_app d (words_of line) in
      demanded (list_all is_printable line) kind.Byte (demand (leb (length line) MAX_LINE) kind.Long told)
      (demanded (leb (length line) MAX_LINE) kind.Long told (words_leave rows in_app (words_of line)))

  -- the scene after the last line has the nodes of the sketch
  finish_leaves : (until : Option ℕ) (scene : PlainScene) → finish_with d until ≡ Ok scene → Are scene.nodes
  finish_leaves None scene e = absurd (cc)
  finish_leaves (Some until) scene e = by_demand (are_joined d.links 0 d.nodes) e
    where
      whole : PlainScene
      whole = record { until = until; schedule = unwrap_or d.schedule in_rounds; nodes = d.nodes; links = d.links }

      by_demand : (b : Bool) → demand b kind.Missing (Ok whole) ≡ Ok scene → Are scene.nodes
      by_demand true made = let same : whole ≡ scene = cc in subst (λ (one : PlainScene). Are one.nodes) same all
      by_demand false made = absurd (cc)

from_leaves : (Are : List PlainNode → Type 0) (is : IsOfNodes Are) (rows : List PlainFormRow) (lines earlier : List (List ℕ)) (d : PlainSketch) (scene : PlainScene) → Are d.nodes → scene_from rows earlier d lines ≡ Ok scene → Are scene.nodes
unfolding scene_from
from_leaves Are is rows [] earlier d scene all e =
    unlined (λ (s : PlainScene). Are s.nodes) (length earlier) (finish d) (λ s. Ok s) scene
    (λ s made same. let it : s ≡ scene = cc in subst (λ (one : PlainScene). Are one.nodes) it (finish_leaves Are is d all d.until s made)) e
from_leaves Are is rows (line ∷ lines) earlier d scene all e =
    unlined (λ (s : PlainScene). Are s.nodes) (length earlier) (judge rows (is_in_app rows earlier) d line) (λ next. scene_from rows (line ∷ earlier) next lines) scene
    (λ next made left. from_leaves Are is rows lines (line ∷ earlier) next scene ((judge_leaves Are is d all rows (is_in_app rows earlier) line).leaves next made) left) e

-- so it is of the nodes of a scene that a text states
pub nodes_are : (Are : List PlainNode → Type 0) → IsOfNodes Are → (text : List ℕ) (scene : PlainScene) → scene_of text ≡ Ok scene → Are scene.nodes
nodes_are Are is text scene e = from_leaves Are is all_rows (lines_of text) [] no_sketch scene is.none e

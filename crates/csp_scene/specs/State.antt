-- What one more line adds to what earlier lines state.
use Rattle.std.specs.Prelude.{ℕ, ◌+◌, ◌==◌, Bool, true, ◌&&◌, ◌||◌, List, [], ◌∷◌, length, drop, Option, Some, None, is_some, Result, Ok, Err}
use Rattle.std.specs.Option.{unwrap_or}
use Rattle.csp_app.specs.PlainStep as step
use Rattle.csp_link.specs.declared.fault.FaultKind.TheVariants as fault
use Rattle.csp_log.specs.declared.places.LinkKind.TheVariants as carried
use Rattle.csp_scene.specs.declared.limits.TheConstants.{BRIDGE_LINKS}
use Rattle.csp_scene.specs.declared.table.Part.{Part}
use Rattle.csp_scene.specs.declared.table.Form.{Form}
use Rattle.csp_scene.specs.declared.table.Form.TheVariants as form
use Rattle.csp_scene.specs.declared.refusal.SceneKind.{SceneKind}
use Rattle.csp_scene.specs.declared.refusal.SceneKind.TheVariants as kind
use Rattle.csp_scene.specs.Scene.{PlainNode, PlainLink, PlainScene, in_rounds, shuffled}
use Rattle.csp_scene.specs.Links.{links_at}
use Rattle.csp_scene.specs.Arguments.{number_at}
use Rattle.csp_scene.specs.Steps.{bind_step, connect_step, send_step, burst_step, blob_step, raw_step, recv_step, collect_step, close_step, wait_step}
use Rattle.csp_scene.specs.Sketch.{PlainSketch, demand}
use Rattle.csp_scene.specs.Nodes.{state_until, new_node, new_bridge, state_node, state_app, state_step}
use Rattle.csp_scene.specs.Transport.{state_rdp}
use Rattle.csp_scene.specs.Joining.{kiss_kind, mtu_of, state_link, state_hub, state_route}
use Rattle.csp_scene.specs.Faults.{state_fault, state_hub_fault}
use Rattle.csp_scene.specs.Schedule.{state_schedule, state_moves}

-- what a line of a form and of one of its shapes adds, judged against the lines before it: Unknown, then Twice, then Full; the text of a `route` line may besides be Number, as its rows come
abbrev pub state : Form → List Part → PlainSketch → List (List ℕ) → Result PlainSketch SceneKind
state form.Until shape d args = state_until d args
state form.Rounds shape d args = state_schedule d in_rounds
state form.Shuffle shape d args = state_schedule d (shuffled (number_at args 1))
state form.Moves shape d args = state_moves d (drop 1 args)
state form.Node shape d args = state_node d (new_node shape args)
state form.Bridge shape d args = state_node d (new_bridge shape args)
state form.Rdp shape d args = state_rdp d args
state form.KissLink shape d args = state_link d (kiss_kind shape) (mtu_of shape args) args
state form.CanLink shape d args = state_link d carried.Can (mtu_of shape args) args
state form.Hub shape d args = state_hub d args
state form.Route shape d args = state_route d args
state form.Lose shape d args = state_fault d args fault.Lose
state form.Repeat shape d args = state_fault d args (fault.Repeat (number_at args 4))
state form.Delay shape d args = state_fault d args (fault.Delay (number_at args 4))
state form.Flip shape d args = state_fault d args (fault.Flip (number_at args 4))
state form.HubLose shape d args = state_hub_fault d args fault.Lose
state form.HubRepeat shape d args = state_hub_fault d args (fault.Repeat (number_at args 4))
state form.HubDelay shape d args = state_hub_fault d args (fault.Delay (number_at args 4))
state form.HubFlip shape d args = state_hub_fault d args (fault.Flip (number_at args 4))
state form.App shape d args = state_app d args
state form.Take shape d args = state_step d step.Take
state form.Give shape d args = state_step d step.Give
state form.Bind shape d args = state_step d (bind_step shape args)
state form.Connect shape d args = state_step d (connect_step shape args)
state form.Send shape d args = state_step d (send_step args)
state form.Burst shape d args = state_step d (burst_step args)
state form.Blob shape d args = state_step d (blob_step args)
state form.Raw shape d args = state_step d (raw_step args)
state form.Recv shape d args = state_step d (recv_step shape args)
state form.Collect shape d args = state_step d (collect_step shape args)
state form.Close shape d args = state_step d (close_step args)
state form.Wait shape d args = state_step d (wait_step args)

-- each bridge has its links, of nodes of which the first stands in this place
abbrev pub is_joined : List PlainLink → ℕ → PlainNode → Bool
is_joined links place node = is_some node.addr || length (links_at place links) == BRIDGE_LINKS

-- each of these nodes, from this place on, has the links that it must have
abbrev pub are_joined : List PlainLink → ℕ → List PlainNode → Bool
are_joined links place [] = true
are_joined links place (node ∷ nodes) = is_joined links place node && are_joined links (place + 1) nodes

-- after the last line: `until` must have been given, and each bridge its two links
abbrev pub finish_with : PlainSketch → Option ℕ → Result PlainScene SceneKind
finish_with d None = Err kind.Missing
finish_with d (Some until) =
    demand (are_joined d.links 0 d.nodes) kind.Missing
    (Ok (record { until = until; schedule = unwrap_or d.schedule in_rounds; nodes = d.nodes; links = d.links }))

-- the scene once all lines are read: `until` must be there, and each bridge's two links
abbrev pub finish : PlainSketch → Result PlainScene SceneKind
finish d = finish_with d d.until

-- Every packet that a router got from its inbox is genuine, by the flows that the record shows: each router sends only such, but for what it passes on.
use Rattle.std.proofs.Common.{◌≡◌, ℕ, ◌++◌, sym, ap, ◌∙◌}
use Rattle.std.proofs.lemmas.Option.{get_or_from_slice_get}
use Rattle.csp_buffer.specs.Content.{Content}
use Rattle.csp_header.specs.Word.{header_at}
use Rattle.csp_ports.specs.PlainPorts.{start_of}
use Rattle.csp_rdp_header.specs.Head.{head_bytes}
use Rattle.csp_record.specs.Passed.{passed}
use Rattle.csp_record.specs.Record.{PlainRecord}
use Rattle.csp_log.specs.declared.who.Who.TheVariants as who
use Rattle.csp_scene.specs.Links.{links_at, no_node, node_at}
use Rattle.csp_scene.specs.Ranges.{IsScene}
use Rattle.csp_scene.specs.Scene.{PlainNode, PlainScene}
use Rattle.csp_stack.specs.Readings.{is_checked}
use Rattle.csp_consistent.specs.Consistent.{IsConsistent}
use Rattle.csp_prefix.specs.Flows.{Flows, IsFilledFor, IsGenuine, with_checksum}
use Rattle.csp_topology.specs.Parties.{config_of}
use Rattle.csp_consistent.specs.Reading.{entries_of}
use Rattle.csp_prefix.specs.Routers.{AreShown, AreTrueRouters, HearsGenuine, IsTrueRouter}
use Rattle.csp_prefix.proofs.FlowReads.{said_is, said_of}
use Rattle.csp_prefix.proofs.HeardPackets.{hears_only}
use Rattle.csp_prefix.proofs.NodeLanes.{RouterThere}

-- the flows that a record shows
abbrev pub flows_in : PlainScene → PlainRecord → Flows
flows_in scene r = record { said = λ flow. said_of (entries_of r (who.Router flow.0)) flow.1; start = λ flow. start_of (node_at scene.nodes flow.0).seed flow.1 }

-- a packet is as genuine as one that has its header, payload and tag
pub genuine_like : (flows : Flows) (b c : Content) → b.header ≡ c.header → b.payload ≡ c.payload → b.trace.tag ≡ c.trace.tag → IsGenuine flows c → IsGenuine flows b
genuine_like flows b c headers payloads tags g tag e =
    let f : IsFilledFor flows c tag = g tag (sym tags ∙ e) in
    record {
      head = f.head;
      bytes = f.bytes;
      payload = payloads ∙ f.payload ∙ ap (λ h. with_checksum (is_checked (header_at h)) (f.bytes ++ head_bytes f.head)) (sym headers);
      true_of = f.true_of;
    }

module _ (scene : PlainScene) (r : PlainRecord) (is : IsScene scene) (con : IsConsistent scene r) (same : passed r ≡ 0) (true_routers : AreTrueRouters) where
  -- a router of the scene is true, and the record shows its flows
  pub true_router : (place : ℕ) (t : RouterThere scene r place) → IsTrueRouter (config_of place t.addr t.node (links_at place scene.links)).facts (entries_of r (who.Router place))
  true_router place t = true_routers (config_of place t.addr t.node (links_at place scene.links)).facts t.node.routes (entries_of r (who.Router place)) t.log

  pub are_shown : (place : ℕ) (t : RouterThere scene r place) → AreShown (config_of place t.addr t.node (links_at place scene.links)).facts (entries_of r (who.Router place)) (flows_in scene r)
  are_shown place t = record {
    said = λ app nth x flow. said_is (entries_of r (who.Router place)) (true_router place t).numbered app nth x flow;
    start = λ nth. ap (λ (n : PlainNode). start_of n.seed nth) (get_or_from_slice_get scene.nodes place t.node no_node t.there);
  }

  -- all that a router hears is genuine
  pub hears_genuine : (place : ℕ) (t : RouterThere scene r place) → HearsGenuine (flows_in scene r) (entries_of r (who.Router place))
  hears_genuine =
      hears_only scene r is con same (IsGenuine (flows_in scene r)) (genuine_like (flows_in scene r)) (λ place t. (true_router place t).sends (flows_in scene r) (are_shown place t))

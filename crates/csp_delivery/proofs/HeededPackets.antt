-- Each packet that an interface put into its inbox has the trace, with one hop more, of a frame that the interface heeds.
use Rattle.std.proofs.Common.{◌≡◌, ℕ, true, Option, Some, List, slice_get, refl}
use Rattle.std.specs.List.{AllByRecursion}
use Rattle.csp_base.specs.declared.traces.Trace.{Trace}
use Rattle.csp_deck.specs.Runs.{IsRun}
use Rattle.csp_iface.specs.Heeding.{is_for}
use Rattle.csp_iface.specs.Receiving.{arrived}
use Rattle.csp_log.specs.declared.entry.Entry.{Entry}
use Rattle.csp_log.specs.declared.frame.Frame.{Frame}
use Rattle.csp_log.specs.declared.places.LinkKind.{LinkKind}
use Rattle.csp_log.specs.declared.places.QueueId.TheVariants as queue
use Rattle.csp_log.specs.declared.shown.ItemShown.{ItemShown}
use Rattle.csp_log.specs.declared.shown.ItemShown.TheVariants as item
use Rattle.csp_party.specs.Any.{an_iface}
use Rattle.csp_scene.proofs.Public.{AllByRecursion-map}
use Rattle.csp_topology.specs.Parties.{iface_opening, party_steps}
use Rattle.csp_consistent.specs.Reading.{gets, puts}
use Rattle.csp_consistent.proofs.Public.{each_there, IsPacketOf, IsSuchFrame, IsSuchIfHeeded, heeded, such_also}

-- a trace of this kind, with one hop more
pub record HasArrived (T : Trace → Type 0) (t : Trace) : Type 0 where
  pub before : Trace
  pub kind : T before
  pub is : t ≡ arrived before

-- where the traces of the frames that it heeds are of a kind, each packet has one of the kind, with one hop more
pub heeded_traces : (T : Trace → Type 0) (node number : ℕ) (kind : LinkKind) (mtu : ℕ) (heeds : Option ℕ) (es : List Entry) → IsRun party_steps 0 (an_iface (iface_opening node number kind mtu heeds)) es
    → AllByRecursion (IsSuchFrame (IsSuchIfHeeded heeds (λ f. T f.trace))) (gets (queue.Rx number) es) → AllByRecursion (IsPacketOf (HasArrived T)) (puts queue.Inbox es)
heeded_traces T node number kind mtu heeds es run got =
    heeded (HasArrived T) node number kind mtu heeds es run
    (AllByRecursion-map (IsSuchFrame (IsSuchIfHeeded heeds (λ f. T f.trace))) (IsSuchFrame (IsSuchIfHeeded heeds (λ f. HasArrived T (arrived f.trace)))) (gets (queue.Rx number) es)
    (such_also (IsSuchIfHeeded heeds (λ f. T f.trace)) (IsSuchIfHeeded heeds (λ f. HasArrived T (arrived f.trace))) (λ f has for. record { before = f.trace; kind = has for; is = refl })) got)

-- the trace of a frame among items that one who heeds this takes
pub record IsOfHeeded (heeds : Option ℕ) (items : List ItemShown) (t : Trace) : Type 0 where
  pub place : ℕ
  pub frame : Frame
  pub there : slice_get items place ≡ Some (item.Frame frame)
  pub heeded : is_for heeds frame ≡ true
  pub is : t ≡ frame.trace

heeded_here : (heeds : Option ℕ) (items : List ItemShown) (k : ℕ) (i : ItemShown) → slice_get items k ≡ Some i → IsSuchFrame (IsSuchIfHeeded heeds (λ f. IsOfHeeded heeds items f.trace)) i
heeded_here heeds items k (item.Frame f) there = λ for. record { place = k; frame = f; there = there; heeded = for; is = refl }
heeded_here heeds items k (item.Packet _ _) there = tt
heeded_here heeds items k (item.Note _) there = tt

-- so each packet has the trace of a frame that the interface popped and heeds
pub heeded_packets : (node number : ℕ) (kind : LinkKind) (mtu : ℕ) (heeds : Option ℕ) (es : List Entry) → IsRun party_steps 0 (an_iface (iface_opening node number kind mtu heeds)) es
    → AllByRecursion (IsPacketOf (HasArrived (IsOfHeeded heeds (gets (queue.Rx number) es)))) (puts queue.Inbox es)
heeded_packets node number kind mtu heeds es run =
    let items : List ItemShown = gets (queue.Rx number) es in
    heeded_traces (IsOfHeeded heeds items) node number kind mtu heeds es run
    (each_there (IsSuchFrame (IsSuchIfHeeded heeds (λ f. IsOfHeeded heeds items f.trace))) items (heeded_here heeds items))

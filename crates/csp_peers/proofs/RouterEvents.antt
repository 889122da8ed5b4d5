-- Nothing that a router hears is stale, where each packet of the reliable transport that comes is of its connection's peer and acknowledges no more than was
-- sent: by each entry of its log, from what stands before it.
use Rattle.std.proofs.Common.{◌≡◌, ℕ, ◌<◌, ◌≤◌, Bool, true, false, Option, List, [], ◌∷◌, length, refl, sym, ap, ◌∙◌, subst, arith}
use Rattle.std.specs.Prelude.{if◌then◌else◌}
use Rattle.std.specs.List.{AllByRecursion}
use Rattle.csp_base.specs.declared.seat.Seat.{Seat}
use Rattle.csp_buffer.specs.Content.{Content}
use Rattle.csp_conn.specs.declared.slot.Connection.{Connection}
use Rattle.csp_header.specs.Word.{header_at}
use Rattle.csp_deck.specs.Runs.{IsRun}
use Rattle.csp_log.specs.declared.entry.Entry.{Entry}
use Rattle.csp_log.specs.declared.event.Event.{Event}
use Rattle.csp_log.specs.declared.event.Event.TheVariants as event
use Rattle.csp_log.specs.declared.shown.AnswerShown.{AnswerShown}
use Rattle.csp_log.specs.declared.shown.OpShown.{OpShown}
use Rattle.csp_log.specs.declared.shown.OpShown.TheVariants as op
use Rattle.csp_log.specs.declared.places.QueueId.TheVariants as queue
use Rattle.csp_ports.specs.Asking.{is_reliable}
use Rattle.csp_ports.specs.PlainPorts.{PlainPorts, terms_at}
use Rattle.csp_ports.specs.Steps.{timed as ports_timed}
use Rattle.csp_rdp.specs.Machine.{PlainRdp, flow_of, una_of}
use Rattle.csp_record.specs.Stale.{is_stale}
use Rattle.csp_scene.proofs.Public.{AllByRecursion-map}
use Rattle.csp_stack.specs.Router.{Facts, Leaving, State, flows_of}
use Rattle.csp_stack.specs.Rules.{connection_of}
use Rattle.csp_stack.specs.Turn.{asked_at, asks_at, timed, told_at}
use Rattle.csp_prefix.specs.Flows.{Flows}
use Rattle.csp_prefix.specs.Ports.{IsInUse, IsSlot, connection_in, now_at}
use Rattle.csp_prefix.specs.Routers.{router_steps}
use Rattle.csp_prefix.specs.Slots.{Now}
use Rattle.csp_prefix.proofs.Public.{Past, past_after, with_openings, IsFound, found_there, IsCome, part_of, past_of, past_with, step_stands, Aim, IsAim, IsPart, Stands, IsHanding, TellsAt, entry_tells, HearsSo, stands_timed, timed_part, past}
use Rattle.csp_peers.specs.Nearness.{AreShort as AreFlowsShort, HasOnePeer, half}
use Rattle.csp_peers.proofs.ReceiverNear.{not-stale}
use Rattle.csp_peers.proofs.RouterMakes.{AllowsOne, AreShort, book_short}
use Rattle.csp_peers.proofs.RouterNear.{AcksWithin, IsOfPeer, IsPeer, peer_aim, peer_is_aim, fed_by}

-- the least unacknowledged index is at most the next one
una_within : (r : PlainRdp) → r.send.una ≤ r.send.nxt → una_of r ≤ r.send.nxt
una_within r order = by r.was_open
  where
    by : (b : Bool) → (if b then r.send.una else 0) ≤ r.send.nxt
    by true = order
    by false = omega arith

module _ (f : Facts) (es : List Entry) (top bound : ℕ) (flows : Flows) (R : Connection → ℕ × ℕ → Type 0) (hears : Content → Type 0) (few : top ≤ 31) (allows : AllowsOne top) (some : 1 ≤ bound) (within : bound < half) (one : HasOnePeer R)
    (flows_short : AreFlowsShort flows) (far : (flow : ℕ × ℕ) → length (flows.said flow) ≤ bound) (short : AreShort bound es) (known : (b : Content) → hears b → IsOfPeer flows R f.addr top bound b) (acks : (b : Content) → hears b → AcksWithin bound b) where
  abbrev the_aim : Aim
  the_aim = peer_aim f top bound flows R hears

  the_is_aim : IsAim the_aim f (past es)
  the_is_aim = peer_is_aim f es top bound flows R hears few allows within one flows_short far known

  -- what is known of the connection on a slot that was found
  known_there : (h : Past) (p : PlainPorts) (o : Option Leaving) (w : Stands the_aim f h p o) (c : Connection) (s : Seat) → IsFound p.conns c s → is_reliable (terms_at p s).flags ≡ true
      → IsPeer top flows R (flows_of f) w.numbering s (now_at p w.books s)
  known_there h p o w c s x kind =
      let there = w.good.slots s x.app_there x.slot_there in
      let used = subst (λ q. IsSlot the_aim.is q (terms_at p s) w.numbering s (now_at p w.books s)) x.is_open there in
      subst (λ r. IsInUse the_aim.is r w.numbering s (now_at p w.books s)) kind used

  -- what is handed to it is not stale
  handing_fresh : (h : Past) (p : PlainPorts) (o : Option Leaving) (w : Stands the_aim f h p o) (b : Content) (e : Event) → IsPart h (past es) → hears b → IsHanding f p b e → is_stale e ≡ false
  handing_fresh h p o w b e part heard x =
      let found = found_there p.conns (connection_of (header_at b.header)) x.seat w.good.conns x.at in
      let n : Now = now_at p w.books x.seat in
      let is : IsPeer top flows R (flows_of f) w.numbering x.seat n = known_there h p o w (connection_of (header_at b.header)) x.seat found x.kind in
      let fed = fed_by f es top bound flows R hears few allows within one flows_short far known b x.bytes x.parts heard x.read in
      let most = book_short f es top bound some short _ h w.numbering w.books x.seat n part w.tells refl is.0 in
      let admitted = is.0.1.admitted in
      let una = una_within n.machine is.0.1.order in
      let ack = acks b heard fed.0 fed.1 in
      let same : connection_of (header_at b.header) ≡ n.connection = sym (ap connection_in found.is_open) in
      subst (λ v. is_stale v ≡ false) (sym x.told)
      (not-stale flows R bound within one flows_short w.numbering x.seat n b.trace.tag fed.0 is.1 fed.1 (subst (λ c. R c (flow_of fed.0)) same fed.3) fed.4 (omega (arith, ack, within)) (omega (arith, una, admitted, most, within)))

  -- nor does any other event tell of a stale copy
  event_fresh : (h : Past) (p : PlainPorts) (o : Option Leaving) (w : Stands the_aim f h p o) (x : OpShown) (a : AnswerShown) (e : Event) → IsPart h (past es) → HearsSo the_aim x a → TellsAt f p x a e → is_stale e ≡ false
  event_fresh h p o w x a (event.Handed nth peer tag cur una) part heard tells =
      handing_fresh h p o w tells.packet (event.Handed nth peer tag cur una) part (subst (λ b. HearsSo the_aim (op.Pop queue.Inbox) b) tells.answered (subst (λ y. HearsSo the_aim y a) tells.asked heard)) tells.handing
  event_fresh h p o w x a _ part heard tells = refl

  -- so none of a run does
  pub run_fresh : (rest : List Entry) (time : ℕ) (h : Past) (s : State) → IsRun router_steps time (record { facts = f; state = s }) rest → AllByRecursion (IsCome the_aim) rest → IsPart (past_of rest h) (past es) → Stands the_aim f h s.ports s.out
      → AllByRecursion (λ (e : Entry). AllByRecursion (λ v. is_stale v ≡ false) e.events.items) rest
  run_fresh [] time h s run come part w = tt
  run_fresh (e ∷ rest) time h s run come part w =
      let step = run.1 in
      let here : IsPart (past_with e h) (past es) = part_of rest (past_with e h) (past es) part in
      let same : past_with e h ≡ past_after (asks_at f s e.time) e.answer (told_at f (asked_at f s e.time) e.time e.answer).events h =
      ap (λ o. past_after o e.answer e.events.items h) step.op ∙ ap (λ (vs : List Event). past_after (asks_at f s e.time) e.answer vs h) step.events in
      let v = stands_timed the_aim f (past es) the_is_aim h s e.time w in
      let old = timed_part the_aim f (past es) the_is_aim h s e.time e.answer w (subst (λ x. IsPart x (past es)) same here) in
      let fresh = AllByRecursion-map (TellsAt f (timed s e.time).ports e.op e.answer) (λ v. is_stale v ≡ false) e.events.items
      (λ x tells. event_fresh (with_openings (ports_timed e.time s.ports).events h) (timed s e.time).ports (timed s e.time).out v e.op e.answer x old come.0.hears tells) (entry_tells (record { facts = f; state = s }) e step) in
      let done = step_stands the_aim f (past es) the_is_aim e h s (λ seat j few low owed. tt) step come.0 here w in
      (fresh, run_fresh rest e.time (past_with e h) (told_at f (asked_at f s e.time) e.time e.answer).state run.2 come.1 part done.0)

-- machines that are whole
use Rattle.std.specs.Prelude.{◌==◌, Bool, true, false, Some, if◌then◌else◌}
use Rattle.std.proofs.Common.{◌≡◌, ℕ, ◌<◌, List, [], ◌∷◌, map, arith, ap, subst, sym, ◌∙◌}
use Rattle.std.proofs.lemmas.List.{length-map}
use Rattle.std.proofs.lemmas.List.Elements.{All-map, All-weaker}
use Rattle.csp_base.specs.declared.seat.Seat.{Seat}
use Rattle.csp_arena.specs.Cells.{RegionName}
use Rattle.csp_buffer.specs.PlainBuffer.{PlainBuffer}
use Rattle.csp_conn.specs.PlainConns.{IsThere, place_of}
use Rattle.csp_deck.specs.Regions.{nowhere}
use Rattle.csp_ports.specs.Keeps.{AreWhole}
use Rattle.csp_ports.specs.Kept.{ArePorts, IsKept, plain_ports, ports_at}
use Rattle.csp_ports.specs.PlainPorts.{PlainPorts, PortsAt, machine_in}
use Rattle.csp_ports.specs.declared.terms.SlotState.{SlotState}
use Rattle.csp_ports.proofs.Holding.{machine-housed}
use Rattle.csp_ports.proofs.Slots.{placed_machine, placed_state}
use Rattle.csp_ports.specs.declared.ports.Ports.TheInside.{Inside}
use Rattle.csp_rdp.specs.Balance.{IsInOrder, IsWhole}
use Rattle.csp_rdp.specs.Jobs.{admitting, closed_in, sent, ticked, timed_out}
use Rattle.csp_rdp.specs.Machine.{PlainRdp, broken, idle}
use Rattle.csp_rdp.specs.Placed.{placed, placed_kept}
use Rattle.csp_rdp.specs.Sound.{IsUnopened}
use Rattle.csp_rdp.specs.declared.answers.State.{State}
use Rattle.csp_rdp.specs.declared.answers.State.TheVariants.{Closed, SynSent, SynRcvd, Open, CloseWait}
use Rattle.csp_rdp.specs.declared.jobs.Job.{Job}
use Rattle.csp_rdp.specs.declared.jobs.Job.TheVariants as job
use Rattle.csp_rdp_window.specs.Receiving.{Kept, PlainRecv}
use Rattle.csp_rdp_window.specs.Times.{has_passed}

-- ---- so they are after a step

-- an idle one
pub idle_whole : IsWhole idle
idle_whole = record { unopened = tt; ordered = tt }

-- one whose timer is tried
timed_whole : (s : State) (time : ℕ) (r : PlainRdp) → IsWhole r → IsWhole (timed_out s time r)
timed_whole SynSent time r h = record { unopened = tt; ordered = h.ordered }
timed_whole SynRcvd time r h = record { unopened = tt; ordered = h.ordered }
timed_whole Open time r h = go (r.send.una == r.send.nxt)
  where
    go : (b : Bool) → IsWhole (if b then r else broken time r)
    go true = h
    go false = record { unopened = tt; ordered = h.ordered }
timed_whole CloseWait time r h = record { unopened = tt; ordered = h.ordered }
timed_whole Closed time r h = h

pub ticked_whole : (time : ℕ) (r : PlainRdp) → IsWhole r → IsWhole (ticked time r)
ticked_whole time r h = go (has_passed (Some r.since) r.options.conn_timeout time)
  where
    go : (b : Bool) → IsWhole (if b then timed_out r.state time r else r)
    go true = timed_whole r.state time r h
    go false = h

-- one that its application closes
pub closed_whole : (s : State) (time : ℕ) (r : PlainRdp) → IsWhole r → IsWhole (closed_in s time r)
closed_whole SynSent time r h = record { unopened = tt; ordered = h.ordered }
closed_whole SynRcvd time r h = record { unopened = tt; ordered = h.ordered }
closed_whole Open time r h = record { unopened = tt; ordered = h.ordered }
closed_whole CloseWait time r h = h
closed_whole Closed time r h = h

-- one that admits a packet, and one that made one
pub admitted_whole : (b : PlainBuffer) (time : ℕ) (r : PlainRdp) → IsWhole r → IsWhole (admitting b time r)
admitted_whole b time r h = record { unopened = h.unopened; ordered = h.ordered }

pub sent_whole : (j : Job) (time : ℕ) (r : PlainRdp) → IsWhole r → IsWhole (sent j time r)
sent_whole job.Rst time r h = record { unopened = h.unopened; ordered = h.ordered }
sent_whole job.Syn time r h = record { unopened = h.unopened; ordered = h.ordered }
sent_whole job.Deliver time r h = h
sent_whole job.Eak time r h = record { unopened = h.unopened; ordered = h.ordered }
sent_whole job.Data time r h = record { unopened = h.unopened; ordered = h.ordered }
sent_whole job.Ack time r h = record { unopened = h.unopened; ordered = h.ordered }

-- ---- and so they are seen

placed_order : (n : RegionName) (last : ℕ) (ks : List Kept) → IsInOrder last ks → IsInOrder last (map (placed_kept n) ks)
placed_order n last [] h = h
placed_order n last (k ∷ ks) h = (h.0, placed_order n k.index ks h.1)

placed_unopened : (n : RegionName) (s : State) (w : PlainRecv) → IsUnopened s w → IsUnopened s (record w { kept = map (placed_kept n) w.kept })
placed_unopened n SynSent w h = (ap (map (placed_kept n)) h.0, h.1)
placed_unopened n SynRcvd w h = (ap (map (placed_kept n)) h.0, h.1)
placed_unopened n Open w h = tt
placed_unopened n CloseWait w h = tt
placed_unopened n Closed w h = tt

placed_whole : (n : RegionName) (r : PlainRdp) → IsWhole r → IsWhole (placed n r)
placed_whole n r h = record { unopened = placed_unopened n r.state r.recv h.unopened; ordered = placed_order n r.recv.cur r.recv.kept h.ordered }

kept_whole : (name : RegionName) (s : SlotState) → IsKept name s → IsWhole (machine_in (placed_state nowhere s))
kept_whole name s h = subst IsWhole (sym (placed_machine nowhere s)) (placed_whole nowhere (machine_in s) (machine-housed name s h.housed).whole)

whole_in : (p : Inside) → ArePorts p → AreWhole (plain_ports p)
whole_in p a = record {
  few = a.few;
  slots = length-map p.slots.items (placed_state nowhere) ∙ a.slots;
  machines =
      All-map IsWhole machine_in (map (placed_state nowhere) p.slots.items)
      (All-map (λ (s : SlotState). IsWhole (machine_in s)) (placed_state nowhere) p.slots.items
      (All-weaker (IsKept p.token.name) (λ (s : SlotState). IsWhole (machine_in (placed_state nowhere s))) (kept_whole p.token.name) p.slots.items a.kept));
}

pub whole_seen : (p : Inside) (at : PortsAt) → ports_at p ≡ at → ArePorts p → AreWhole at.ports
whole_seen p at view a = subst (λ (x : PortsAt). AreWhole x.ports) view (whole_in p a)

-- the place of a slot that is there is one of theirs
pub there_few : (p : PlainPorts) (seat : Seat) → AreWhole p → IsThere p.conns seat → place_of seat < 16
there_few p seat h there = omega (arith, h.few, there.of_node, there.of_app)

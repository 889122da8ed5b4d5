-- What a reliable connection says in its packets is true, and where it became open it has its number.
use Rattle.std.proofs.Common.{◌≡◌, ℕ, ◌<◌, Bool, true, false, not, cond, List, [], ◌∷◌, length, Option, Some, None, refl, ap, ◌∙◌, sym, subst, arith}
use Rattle.std.specs.Prelude.{◌==◌, if◌then◌else◌, is_some, pos, ◌+ℤ◌}
use Rattle.std.specs.List.{All, find}
use Rattle.std.specs.Option.{option_map_or}
use Rattle.std.proofs.lemmas.Bool.{eqb-true}
use Rattle.std.proofs.lemmas.Int.{ints}
use Rattle.std.proofs.lemmas.List.Elements.{All-head, All-tail}
use Rattle.csp_base.specs.declared.seat.Seat.{Seat}
use Rattle.csp_base.specs.Sequence.{number_of}
use Rattle.csp_base.proofs.Public.{wrapped_is}
use Rattle.csp_ports.specs.PlainPorts.{start_of}
use Rattle.csp_ports.specs.declared.flows.OwnFlows.{OwnFlows}
use Rattle.csp_rdp_window.specs.Receiving.{next_buffer}
use Rattle.csp_rdp_window.specs.Sending.{due_index}
use Rattle.csp_rdp_window.specs.declared.pending.Pending.{Pending}
use Rattle.csp_rdp.specs.Jobs.{head_for, is_ack_due, is_syn_due, job_in, job_of, sending_index, syn_in}
use Rattle.csp_rdp.specs.Machine.{PlainRdp}
use Rattle.csp_rdp.specs.declared.answers.State.{State}
use Rattle.csp_rdp.specs.declared.answers.State.TheVariants.{Closed, SynSent, SynRcvd, Open, CloseWait}
use Rattle.csp_rdp.specs.declared.jobs.Job.{Job}
use Rattle.csp_rdp.specs.declared.jobs.Job.TheVariants as job
use Rattle.csp_prefix.specs.Flows.{IsSaid, is_data}
use Rattle.csp_prefix.specs.Machines.{IsNumbered, IsOpeningOf, IsOver, IsSender, MakesTrue, OpensNumbered, SaysTrue, SendsIn}
use Rattle.csp_prefix.specs.Slots.{Now, Numbering}
use Rattle.csp_prefix.proofs.MachineOpens.{IsEarly}
use Rattle.csp_prefix.proofs.MachineSender.{sends-over}

-- ---- in which states a job is owed

syn-in : (s : State) (time : ℕ) (r : PlainRdp) → job_in s time r ≡ Some job.Syn → IsEarly s
syn-in SynSent time r e = tt
syn-in SynRcvd time r e = tt
syn-in Open time r e = go (is_some (next_buffer r.recv)) r.owed.eak (is_some (due_index time r.options.packet_timeout r.send)) (is_ack_due time r) e
  where
    go : (a b c d : Bool) → (if a then Some job.Deliver else if b then Some job.Eak else if c then Some job.Data else if d then Some job.Ack else None) ≡ Some job.Syn → ⊥
    go true b c d f = cc
    go false true c d f = cc
    go false false true d f = cc
    go false false false true f = cc
    go false false false false f = cc
syn-in CloseWait time r e = cc
syn-in Closed time r e = cc

data-in : (s : State) (time : ℕ) (r : PlainRdp) → job_in s time r ≡ Some job.Data → s ≡ Open
data-in SynSent time r e = go (is_syn_due time r) e
  where
    go : (a : Bool) → (if a then Some job.Syn else None) ≡ Some job.Data → SynSent ≡ Open
    go true f = absurd cc
    go false f = absurd cc
data-in SynRcvd time r e = go (is_syn_due time r) e
  where
    go : (a : Bool) → (if a then Some job.Syn else None) ≡ Some job.Data → SynRcvd ≡ Open
    go true f = absurd cc
    go false f = absurd cc
data-in Open time r e = refl
data-in CloseWait time r e = absurd cc
data-in Closed time r e = absurd cc

-- any job but a reset is owed by state
job-in : (time : ℕ) (r : PlainRdp) (j : Job) → (job.Rst ≡ j → ⊥) → job_of time r ≡ Some j → job_in r.state time r ≡ Some j
job-in time r j other e = go r.owed.rst e
  where
    go : (a : Bool) → (if a then Some job.Rst else job_in r.state time r) ≡ Some j → job_in r.state time r ≡ Some j
    go true f = absurd (other cc)
    go false f = f

rst-syn : job.Rst ≡ job.Syn → ⊥
rst-syn e = cc

rst-data : job.Rst ≡ job.Data → ⊥
rst-data e = cc

-- ---- numbers

number-first : (s : ℕ) → s < 65536 → number_of s (pos 0) ≡ s
number-first s h = wrapped_is (pos s +ℤ pos 0) s 0 0 h (omega (arith, ints))

start-small : (seed n : ℕ) → start_of seed n < 65536
start-small seed n = omega arith

-- ---- payloads

abbrev payload_in : Option Pending → List ℕ
payload_in o = option_map_or (λ p. p.buffer.picture.payload) o []

found-said : (said : List (List ℕ)) (ps : List Pending) (index : ℕ) → All (λ p. IsSaid said p.index p.buffer.picture.payload) ps
    → not (length (payload_in (find (λ p. p.index == index) ps)) == 0) ≡ true → IsSaid said index (payload_in (find (λ p. p.index == index) ps))
found-said said [] index all e = absurd cc
found-said said (p ∷ ps) index all e =
    go (p.index == index) refl e (found-said said ps index (All-tail (λ p. IsSaid said p.index p.buffer.picture.payload) p ps all))
  where
    go : (b : Bool) → (p.index == index) ≡ b → not (length (payload_in (cond b (Some p) (find (λ p. p.index == index) ps))) == 0) ≡ true
        → (not (length (payload_in (find (λ p. p.index == index) ps)) == 0) ≡ true → IsSaid said index (payload_in (find (λ p. p.index == index) ps)))
        → IsSaid said index (payload_in (cond b (Some p) (find (λ p. p.index == index) ps)))
    go true same f rest =
        subst (λ k. IsSaid said k p.buffer.picture.payload) (eqb-true p.index index same) (All-head (λ p. IsSaid said p.index p.buffer.picture.payload) p ps all)
    go false same f rest = rest f

-- the number that is told
abbrev pub nth_told : Option (Option ℕ × Option (ℕ × ℕ)) → Option ℕ
nth_told None = None
nth_told (Some x) = x.0

-- ---- what it says

module _ (o : OwnFlows) (m : Numbering) (seat : Seat) (n : Now) (time : ℕ) where
  numbered-early : (s : State) → IsEarly s → SendsIn s o m seat n → IsNumbered o m seat n
  numbered-early SynSent e i = i.0
  numbered-early SynRcvd e i = i.0
  numbered-early Open e i = absurd e
  numbered-early CloseWait e i = absurd e
  numbered-early Closed e i = absurd e

  -- the opening packet, in either state
  opening-says : (s : State) (r : PlainRdp) → (syn_in s r).index ≡ 0
  opening-says SynSent r = refl
  opening-says SynRcvd r = refl
  opening-says Open r = refl
  opening-says CloseWait r = refl
  opening-says Closed r = refl

  opening-is_data : (s : State) (r : PlainRdp) → is_data (head_for (syn_in s r) r) (syn_in s r).bytes ≡ false
  opening-is_data SynSent r = refl
  opening-is_data SynRcvd r = refl
  opening-is_data Open r = refl
  opening-is_data CloseWait r = refl
  opening-is_data Closed r = refl

  says-syn : IsNumbered o m seat n → SaysTrue o m seat n time job.Syn
  says-syn i = record {
    syn = λ e. (
      i.node,
      ap (λ k. number_of n.machine.send.start (pos k)) (opening-says n.machine.state n.machine)
          ∙ ap (λ s. number_of s (pos 0)) i.start
          ∙ number-first (start_of o.seed n.machine.nth) (start-small o.seed n.machine.nth),
    );
    carries = λ e. absurd (let f = opening-is_data n.machine.state n.machine in cc);
  }

  says-data : SendsIn Open o m seat n → SaysTrue o m seat n time job.Data
  says-data i = record {
    syn = λ e. absurd cc;
    carries = λ e. (
      i.0.node,
      ap (λ s. number_of s (pos (sending_index time n.machine))) i.0.start,
      found-said n.book.sent n.machine.send.packets (sending_index time n.machine) i.2.said e,
      i.1,
    );
  }

  says-job : (j : Job) → job_of time n.machine ≡ Some j → IsSender o m seat n → SaysTrue o m seat n time j
  says-job job.Rst e i = record { syn = λ f. absurd cc; carries = λ f. absurd cc }
  says-job job.Syn e i = says-syn (numbered-early n.machine.state (syn-in n.machine.state time n.machine (job-in time n.machine job.Syn rst-syn e)) i)
  says-job job.Deliver e i = record { syn = λ f. absurd cc; carries = λ f. absurd cc }
  says-job job.Eak e i = record { syn = λ f. absurd cc; carries = λ f. absurd cc }
  says-job job.Data e i =
      let is_open = data-in n.machine.state time n.machine (job-in time n.machine job.Data rst-data e) in
      says-data (subst (λ s. SendsIn s o m seat n) is_open i)
  says-job job.Ack e i = record { syn = λ f. absurd cc; carries = λ f. absurd cc }

  -- ---- its number

  number-told : (nth : ℕ) (peer : Option (ℕ × ℕ)) → IsOver m seat n → n.book.opened ≡ Some (Some nth, peer) → IsOpeningOf m seat n.ordinal nth
  number-told nth peer i e = go n.machine.was_open refl
    where
      go : (b : Bool) → n.machine.was_open ≡ b → IsOpeningOf m seat n.ordinal nth
      go true f =
          let w = i.0 f in
          let told = w.opened in
          let both : Some n.machine.nth ≡ Some nth = ap nth_told (sym told ∙ e) in
          let same : n.machine.nth ≡ nth = cc in
          subst (λ k. IsOpeningOf m seat n.ordinal k) same w.numbered
      go false f = let none = ap (λ k. k.opened) (i.1 f).book in absurd cc

pub sender-says : (o : OwnFlows) → MakesTrue (IsSender o) o
sender-says o m seat n time j i e = says-job o m seat n time j e i

pub sender-opens : (o : OwnFlows) → OpensNumbered (IsSender o)
sender-opens o m seat n nth peer i e = number-told o m seat n 0 nth peer (sends-over o m seat n.machine.state n i) e

-- what the plan of a turn says of the ports
use Rattle.std.proofs.Common.{◌≡◌, ℕ, ◌*◌, ◌<◌, ◌==◌, Bool, true, false, cond, nat_lt, Option, None, Some, List, [], ◌∷◌, refl, subst, arith, find}
use Rattle.std.specs.Prelude.{if◌then◌else◌, is_some}
use Rattle.std.specs.Option.{option_map}
use Rattle.std.proofs.lemmas.Bool.{and_parts, eqb-true, ltb-true}
use Rattle.csp_base.specs.declared.seat.Seat.{Seat}
use Rattle.csp_base.specs.declared.limits.TheConstants.{SLOTS}
use Rattle.csp_conn.specs.PlainConns.{seat_of}
use Rattle.csp_ports.specs.PlainPorts.{PlainPorts, machine_at, stalls_of, terms_at, waiting}
use Rattle.csp_ports.specs.Tasks.{circle, has_task, next_task, place_with_task, task_at, task_by, task_of, task_with}
use Rattle.csp_ports.specs.declared.task.Task.{Task}
use Rattle.csp_ports.specs.declared.task.Task.TheVariants as task
use Rattle.csp_rdp.specs.Jobs.{delivery, delivery_in, is_ack_due, is_syn_due, job_in, job_of}
use Rattle.csp_rdp.specs.Machine.{PlainRdp}
use Rattle.csp_rdp.specs.declared.answers.State.{State}
use Rattle.csp_rdp.specs.declared.answers.State.TheVariants.{Closed, CloseWait, Open, SynRcvd, SynSent}
use Rattle.csp_rdp.specs.declared.jobs.Job.{Job}
use Rattle.csp_rdp.specs.declared.jobs.Job.TheVariants as job
use Rattle.csp_rdp_window.specs.Receiving.{next_buffer}
use Rattle.csp_rdp_window.specs.Sending.{due_index}
use Rattle.csp_stack.specs.Router.{State as RouterState}
use Rattle.csp_stack.specs.Sources.{has_work}
use Rattle.csp_stack.specs.declared.sources.Source.TheVariants as source

-- what a look found passes the look's test
pub found_passes : (p : ℕ → Bool) (ks : List ℕ) (n : ℕ) → find p ks ≡ Some n → p n ≡ true
found_passes p [] n e = absurd cc
found_passes p (k ∷ ks) n e = by_test (p k) refl (found_passes p ks n) e
  where
    by_test : (t : Bool) → p k ≡ t → (find p ks ≡ Some n → p n ≡ true) → cond t (Some k) (find p ks) ≡ Some n → p n ≡ true
    by_test true q more e = let same : k ≡ n = cc in subst (λ m. p m ≡ true) same q
    by_test false q more e = more e

-- an application is served only where no packet of it waits
pub serves_free : (s : RouterState) (time k : ℕ) → has_work s time (source.App k) ≡ true → stalls_of k s.ports.slots ≡ 0
serves_free s time k e = eqb-true (stalls_of k s.ports.slots) 0 (and_parts (waiting k s.ports.owed == 0) (stalls_of k s.ports.slots == 0) e).1

-- ---- tasks
made_job : (down : Bool) (o : Option Job) (j : Job) → task_by down o ≡ Some (task.Make j) → o ≡ Some j
made_job down (Some job.Rst) j e = cc
made_job down (Some job.Syn) j e = cc
made_job true (Some job.Deliver) j e = absurd cc
made_job true (Some job.Eak) j e = absurd cc
made_job true (Some job.Data) j e = absurd cc
made_job true (Some job.Ack) j e = absurd cc
made_job true None j e = absurd cc
made_job false (Some job.Deliver) j e = absurd cc
made_job false (Some job.Eak) j e = cc
made_job false (Some job.Data) j e = cc
made_job false (Some job.Ack) j e = cc
made_job false None j e = absurd cc

delivered_job : (down : Bool) (o : Option Job) → task_by down o ≡ Some task.Deliver → o ≡ Some job.Deliver
delivered_job down (Some job.Rst) e = absurd cc
delivered_job down (Some job.Syn) e = absurd cc
delivered_job true (Some job.Deliver) e = refl
delivered_job true (Some job.Eak) e = absurd cc
delivered_job true (Some job.Data) e = absurd cc
delivered_job true (Some job.Ack) e = absurd cc
delivered_job true None e = absurd cc
delivered_job false (Some job.Deliver) e = refl
delivered_job false (Some job.Eak) e = absurd cc
delivered_job false (Some job.Data) e = absurd cc
delivered_job false (Some job.Ack) e = absurd cc
delivered_job false None e = absurd cc

-- a packet is there to be delivered
no_syn : (due : Bool) → (if due then Some job.Syn else None) ≡ Some job.Deliver → ⊥
no_syn true e = absurd cc
no_syn false e = absurd cc

next_first : (next eak due ack : Bool) → (if next then Some job.Deliver else if eak then Some job.Eak else if due then Some job.Data else if ack then Some job.Ack else None) ≡ Some job.Deliver → next ≡ true
next_first true eak due ack e = refl
next_first false true due ack e = absurd cc
next_first false false true ack e = absurd cc
next_first false false false true e = absurd cc
next_first false false false false e = absurd cc

delivered_in : (s : State) (time : ℕ) (r : PlainRdp) → job_in s time r ≡ Some job.Deliver → is_some (delivery_in s r) ≡ true
delivered_in SynSent time r e = absurd (no_syn (is_syn_due time r) e)
delivered_in SynRcvd time r e = absurd (no_syn (is_syn_due time r) e)
delivered_in Open time r e = next_first (is_some (next_buffer r.recv)) r.owed.eak (is_some (due_index time r.options.packet_timeout r.send)) (is_ack_due time r) e
delivered_in CloseWait time r e = absurd cc
delivered_in Closed time r e = absurd cc

not_rst : (rst : Bool) (o : Option Job) → (if rst then Some job.Rst else o) ≡ Some job.Deliver → o ≡ Some job.Deliver
not_rst true o e = absurd cc
not_rst false o e = e

pub delivery_there : (time : ℕ) (r : PlainRdp) → job_of time r ≡ Some job.Deliver → is_some (delivery r) ≡ true
delivery_there time r e = delivered_in r.state time r (not_rst r.owed.rst (job_in r.state time r) e)

-- the next task is that of a slot which is there
pub record IsTask (time : ℕ) (p : PlainPorts) (t : Seat × Task) : Type 0 where
  pub app_there : t.0.app < p.conns.apps
  pub slot_there : t.0.slot < SLOTS
  pub is_task : task_at time p t.0 ≡ Some t.1

pub task_there : (time : ℕ) (p : PlainPorts) (t : Seat × Task) → next_task time p ≡ Some t → IsTask time p t
task_there time p t e = by_place (place_with_task time p) refl e
  where
    by_task : (k : ℕ) (o : Option Task) → k < p.conns.apps * SLOTS → task_of time p k ≡ o → option_map (λ x. (seat_of k, x)) o ≡ Some t → IsTask time p t
    by_task k None lt q e = absurd cc
    by_task k (Some x) lt q e =
        let same : (seat_of k, x) ≡ t = cc in
        subst (IsTask time p) same (record { app_there = omega (arith, lt); slot_there = omega arith; is_task = q })

    by_place : (o : Option ℕ) → place_with_task time p ≡ o → task_with time p o ≡ Some t → IsTask time p t
    by_place None q e = absurd cc
    by_place (Some k) q e =
        let passes = found_passes (has_task time p) (circle p) k q in
        let parts = and_parts (nat_lt k (p.conns.apps * SLOTS)) (is_some (task_of time p k)) passes in
        by_task k (task_of time p k) (ltb-true k (p.conns.apps * SLOTS) parts.0) refl e

pub make_job : (time : ℕ) (p : PlainPorts) (seat : Seat) (j : Job) → task_at time p seat ≡ Some (task.Make j) → job_of time (machine_at p seat) ≡ Some j
make_job time p seat j e = made_job (terms_at p seat).is_down (job_of time (machine_at p seat)) j e

pub deliver_job : (time : ℕ) (p : PlainPorts) (seat : Seat) → task_at time p seat ≡ Some task.Deliver → is_some (delivery (machine_at p seat)) ≡ true
deliver_job time p seat e = delivery_there time (machine_at p seat) (delivered_job (terms_at p seat).is_down (job_of time (machine_at p seat)) e)

-- the timer changes a connection exactly where it times out
use Rattle.std.specs.Prelude.{◌==◌, ◌&&◌, not, Bool, true, false, Some, if◌then◌else◌}
use Rattle.std.proofs.Common.{◌≡◌, ◌≢◌, ℕ, refl, ap}
use Rattle.csp_rdp.specs.Jobs.{ticked, timed_out}
use Rattle.csp_rdp.specs.Machine.{PlainRdp, broken}
use Rattle.csp_rdp.specs.Timer.{times_out, waits_in}
use Rattle.csp_rdp.specs.declared.answers.State.{State}
use Rattle.csp_rdp.specs.declared.answers.State.TheVariants.{Closed, SynSent, SynRcvd, Open, CloseWait}
use Rattle.csp_rdp_window.specs.Times.{has_passed}

-- a connection that waits for nothing
idle_still : (s : State) (time : ℕ) (r : PlainRdp) → waits_in s r.send.una r.send.nxt ≡ false → timed_out s time r ≡ r
idle_still SynSent time r h = absurd cc
idle_still SynRcvd time r h = absurd cc
idle_still CloseWait time r h = absurd cc
idle_still Closed time r h = refl
idle_still Open time r h = go (r.send.una == r.send.nxt) h
  where
    go : (b : Bool) → not b ≡ false → (if b then r else broken time r) ≡ r
    go true h = refl
    go false h = absurd cc

ticks : (waits passed : Bool) (time : ℕ) (r : PlainRdp) → (waits ≡ false → timed_out r.state time r ≡ r) → (waits && passed) ≡ false → (if passed then timed_out r.state time r else r) ≡ r
ticks true true time r idle h = absurd cc
ticks true false time r idle h = refl
ticks false true time r idle h = idle refl
ticks false false time r idle h = refl

pub in_time : (time : ℕ) (r : PlainRdp) → times_out time r ≡ false → ticked time r ≡ r
in_time time r h = ticks (waits_in r.state r.send.una r.send.nxt) (has_passed (Some r.since) r.options.conn_timeout time) time r (idle_still r.state time r) h

-- a connection that waits is in another state then
leaves : (s : State) (time : ℕ) (r : PlainRdp) → waits_in s r.send.una r.send.nxt ≡ true → (timed_out s time r).state ≢ s
leaves SynSent time r h e = cc
leaves SynRcvd time r h e = cc
leaves CloseWait time r h e = cc
leaves Closed time r h e = absurd cc
leaves Open time r h e = go (r.send.una == r.send.nxt) h e
  where
    go : (b : Bool) → not b ≡ true → (if b then r else broken time r).state ≡ Open → ⊥
    go true h e = absurd cc
    go false h e = cc

moves : (waits passed : Bool) (time : ℕ) (r : PlainRdp) → (waits ≡ true → (timed_out r.state time r).state ≢ r.state) → (waits && passed) ≡ true → (if passed then timed_out r.state time r else r) ≢ r
moves true true time r other h e = other refl (ap (λ (q : PlainRdp). q.state) e)
moves true false time r other h e = absurd cc
moves false true time r other h e = absurd cc
moves false false time r other h e = absurd cc

pub too_late : (time : ℕ) (r : PlainRdp) → times_out time r ≡ true → ticked time r ≢ r
too_late time r h = moves (waits_in r.state r.send.una r.send.nxt) (has_passed (Some r.since) r.options.conn_timeout time) time r (leaves r.state time r) h

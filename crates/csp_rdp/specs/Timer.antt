-- when the timer changes a connection
use Rattle.std.specs.Prelude.{ℕ, ◌==◌, ◌&&◌, not, Bool, true, false, Some}
use Rattle.csp_rdp.specs.Machine.{PlainRdp}
use Rattle.csp_rdp.specs.declared.answers.State.{State}
use Rattle.csp_rdp.specs.declared.answers.State.TheVariants.{Closed, SynSent, SynRcvd, Open, CloseWait}
use Rattle.csp_rdp_window.specs.Times.{has_passed}

-- by state, whether it waits for its peer: in Open while something is not acknowledged; a closed one waits for nothing
abbrev pub waits_in : State → (una nxt : ℕ) → Bool
waits_in SynSent una nxt = true
waits_in SynRcvd una nxt = true
waits_in Open una nxt = not (una == nxt)
waits_in CloseWait una nxt = true
waits_in Closed una nxt = false

-- a connection waits for its timer, and the connection timeout has passed
abbrev pub times_out : ℕ → PlainRdp → Bool
times_out time r = waits_in r.state r.send.una r.send.nxt && has_passed (Some r.since) r.options.conn_timeout time

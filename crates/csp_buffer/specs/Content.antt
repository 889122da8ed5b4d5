use Rattle.std.specs.Prelude.{ℕ, List, []}
use Rattle.csp_base.specs.Trace.{no_trace}
use Rattle.csp_base.specs.declared.traces.Trace.{Trace}

-- what a packet buffer holds, and what a picture of it shows: its number, the header word, the payload's bytes, the trace
pub record Content : Type 0 where
  pub number : ℕ
  pub header : ℕ
  pub payload : List ℕ
  pub trace : Trace

-- a buffer of this number with header 0, no payload and no trace
abbrev pub cleared : ℕ → Content
cleared n = record { number = n; header = 0; payload = []; trace = no_trace }

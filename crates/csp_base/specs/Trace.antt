use Rattle.std.specs.Prelude.{None}
use Rattle.csp_base.specs.declared.traces.Trace.{Trace}

-- the trace of a packet that was not transmitted yet and belongs to no flow
abbrev pub no_trace : Trace
no_trace = record { origin = None; hops = 0; tag = None }

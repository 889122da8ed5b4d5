-- The status of each refusal.
use Rattle.csp_base.specs.declared.source.ReadError.{ReadError}
use Rattle.csp_base.specs.declared.source.ReadError.TheVariants as read
use Rattle.csp_world.specs.declared.limits.TheConstants.{MAX_ENTRIES}
use Rattle.csp_bench.specs.declared.reading.Refusal.{Refusal}
use Rattle.csp_bench.specs.declared.reading.Refusal.TheVariants as refusal
use Rattle.csp_bench.specs.declared.status.LimitKind.TheVariants as limit
use Rattle.csp_bench.specs.declared.status.Status.{Status}
use Rattle.csp_bench.specs.declared.status.Status.TheVariants as status
use Rattle.csp_bench.specs.declared.status.TheConstants.{MAX_SCENARIO}

-- of a source that was not read to its end
abbrev pub status_of_read : ReadError → Status
status_of_read read.NoMemory = status.NoMemory
status_of_read read.Fault = status.ReadFault
status_of_read read.TooLong = status.Limit limit.Bytes MAX_SCENARIO

-- of a text that has no report
abbrev pub status_of : Refusal → Status
status_of refusal.NoMemory = status.NoMemory
status_of (refusal.Scene line kind) = status.Scene line kind
status_of refusal.Entries = status.Limit limit.Entries MAX_ENTRIES

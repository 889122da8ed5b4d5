-- How a buffer and a log keep a trace: its parts side by side.
use Rattle.std.specs.Prelude.{ℕ, Bool, Option, None, Some, ◌^◌, ◌&&◌, nat_lt}
use Rattle.csp_base.specs.declared.traces.Origin.{Origin}
use Rattle.csp_base.specs.declared.traces.Tag.{Tag}
use Rattle.csp_base.specs.declared.traces.Trace.{Trace}
use Rattle.csp_buffer.specs.declared.trail.BriefTrail.{BriefTrail}
use Rattle.csp_buffer.specs.declared.trail.Parts.{Parts}
use Rattle.csp_buffer.specs.declared.trail.Parts.TheVariants as part
use Rattle.csp_buffer.specs.declared.trail.Trail.{Trail}

-- the trace that has these parts of those
abbrev pub with_parts : Parts → Origin → ℕ → Tag → Trace
with_parts part.Neither origin hops tag = record { origin = None; hops = hops; tag = None }
with_parts part.Origin origin hops tag = record { origin = Some origin; hops = hops; tag = None }
with_parts part.Tag origin hops tag = record { origin = None; hops = hops; tag = Some tag }
with_parts part.Both origin hops tag = record { origin = Some origin; hops = hops; tag = Some tag }

-- the trace that is kept so
abbrev pub trace_of : Trail → Trace
trace_of t = with_parts t.parts (record { node = t.node; iface = t.iface; serial = t.serial }) t.hops (record { node = t.owner; nth = t.nth; index = t.index; ack = t.ack })

-- which parts there are
abbrev pub parts_of : Option Origin → Option Tag → Parts
parts_of None None = part.Neither
parts_of (Some origin) None = part.Origin
parts_of None (Some tag) = part.Tag
parts_of (Some origin) (Some tag) = part.Both

-- the numbers of a trail are all of 32 bits
abbrev pub is_brief : Trail → Bool
is_brief t = nat_lt t.serial (2 ^ 32) && nat_lt t.hops (2 ^ 32) && nat_lt t.index (2 ^ 32) && nat_lt t.ack (2 ^ 32)

-- the trail with the numbers of a brief one
abbrev pub full_of : BriefTrail → Trail
full_of b = record { serial = b.serial; hops = b.hops; index = b.index; ack = b.ack; nth = b.nth; node = b.node; iface = b.iface; owner = b.owner; parts = b.parts }

-- which of the frames that it pops an interface takes
use Rattle.std.specs.Prelude.{ℕ, ◌==◌, ◌||◌, Bool, true, Option, Some, None, unwrap_or}
use Rattle.csp_can.specs.Identifiers.{identifier_of}
use Rattle.csp_can.specs.declared.identifiers.Identifier.{Identifier}
use Rattle.csp_base.specs.declared.address.TheConstants.{BROADCAST}
use Rattle.csp_log.specs.declared.frame.Frame.{Frame}

-- a frame with this identifier is for the node of this address: it names that, or every node
abbrev pub names : (addr : ℕ) → Identifier → Bool
names addr i = (i.dest == addr) || (i.dest == BROADCAST)

-- an interface that heeds an address takes the frames for its node alone, any other takes each
abbrev pub is_for : Option ℕ → Frame → Bool
is_for None f = true
is_for (Some addr) f = names addr (identifier_of (unwrap_or f.can 0))

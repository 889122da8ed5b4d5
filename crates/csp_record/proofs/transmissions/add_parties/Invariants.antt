use Rattle.std.proofs.Common.{take}
use Rattle.std.specs.List.{slice_get, filter_map}
use Rattle.csp_record.specs.Table.{Adds}
use Rattle.csp_record.specs.Transmissions.{shown_in, iface_entries}
use Rattle.csp_record.proofs.transmissions.add_parties.Given as goal

-- what the parties so far show was added
abbrev pub invariant-loop-party : goal.invariant-loop-party
invariant-loop-party l = Adds l.initial.table l.table (λ n i s. slice_get (filter_map (shown_in s) (iface_entries (take l.party-index l.parties) n i)) 0)

-- what a node counts of each of its interfaces
use Rattle.std.specs.Prelude.{ℕ, ◌+◌, ◌-◌, ◌^◌, if◌then◌else◌, nat_lt, List, get_or, length, min, replicate, slice_index, slice_set}
use Rattle.csp_cmp.specs.declared.replies.TheConstants.{COUNTS}
use Rattle.csp_service.specs.declared.stats.Count.{Count}
use Rattle.csp_service.specs.declared.stats.Count.TheVariants.{Sent, Received, SendErrors, ReceiveErrors, Dropped, AuthErrors, FrameErrors, SentBytes, ReceivedBytes, Interrupts}
use Rattle.csp_service.specs.declared.stats.Stats.{Stats}

-- the place of a count in a reply, from 0
abbrev pub place_of : Count → ℕ
place_of Sent = 0
place_of Received = 1
place_of SendErrors = 2
place_of ReceiveErrors = 3
place_of Dropped = 4
place_of AuthErrors = 5
place_of FrameErrors = 6
place_of SentBytes = 7
place_of ReceivedBytes = 8
place_of Interrupts = 9

-- the counts of an interface before anything was counted
abbrev pub no_stats : Stats
no_stats = record { counts = replicate COUNTS 0 }

-- the counts with so many more of one; a count stops at the greatest number of 32 bits
abbrev pub raised : Stats → Count → ℕ → Stats
raised s count by = record { counts = slice_set s.counts (place_of count) (min (slice_index s.counts (place_of count) + by) (2 ^ 32 - 1)) }

-- the counts of all interfaces once so many more were counted of the one with this number; a number that is none's counts for none
abbrev pub counted : List Stats → ℕ → Count → ℕ → List Stats
counted stats iface count by = if nat_lt iface (length stats) then slice_set stats iface (raised (get_or stats iface no_stats) count by) else stats

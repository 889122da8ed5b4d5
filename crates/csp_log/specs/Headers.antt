-- the header words of the packets that turns moved
use Rattle.std.specs.Prelude.{ℕ, ◌<◌, ◌^◌, List, ⊤}
use Rattle.std.specs.List.{AllByRecursion}
use Rattle.csp_buffer.specs.Content.{Content}
use Rattle.csp_log.specs.Moving.{moved_in}
use Rattle.csp_log.specs.declared.entry.Entry.{Entry}
use Rattle.csp_log.specs.declared.moved.Moved.{Moved}
use Rattle.csp_log.specs.declared.moved.Moved.TheVariants as moved

-- the header of a packet is a word of 32 bits, as the field is of which it is read
abbrev pub IsWord : Content → Type 0
IsWord b = b.header < 2 ^ 32

-- so is that of the packet that was moved, if one was
abbrev pub MovesWord : Moved → Type 0
MovesWord (moved.Pushed queue packet) = IsWord packet
MovesWord (moved.Popped queue packet) = IsWord packet
MovesWord moved.NoPacket = ⊤

-- so are those of all packets that the turns of these entries moved
abbrev pub MoveWords : List Entry → Type 0
MoveWords entries = AllByRecursion (λ e. MovesWord (moved_in e)) entries

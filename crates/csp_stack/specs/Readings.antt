-- what the rules read off a packet's header, an item, and an answer
use Rattle.std.specs.Prelude.{ℕ, ◌==◌, Bool, true, false, not, ◌||◌, Option, None, Some}
use Rattle.std.specs.Int.RustNames.{bit_and}
use Rattle.csp_buffer.specs.Content.{Content}
use Rattle.csp_header.specs.declared.word.Header.{Header}
use Rattle.csp_log.specs.declared.places.TheConstants.{UNMARKED}
use Rattle.csp_log.specs.declared.shown.AnswerShown.{AnswerShown}
use Rattle.csp_log.specs.declared.shown.AnswerShown.TheVariants as answer
use Rattle.csp_log.specs.declared.shown.ItemShown.{ItemShown}

-- the address of broadcast, which is every node's
abbrev pub broadcast : ℕ
broadcast = 31

-- a packet with this header is for the node of this address: by its own address, or by broadcast
abbrev pub is_here : ℕ → Header → Bool
is_here addr h = (h.dst == addr) || (h.dst == broadcast)

-- it has this flag, or all these flags
abbrev pub has_flag : ℕ → Header → Bool
has_flag flag h = bit_and h.flags.0 flag == flag

-- a packet is authenticated (HMAC) or encrypted (XTEA)
abbrev pub is_secured : Header → Bool
is_secured h = has_flag 0x08 h || has_flag 0x04 h

-- a packet has a checksum (CRC32)
abbrev pub is_checked : Header → Bool
is_checked h = has_flag 0x01 h

-- a packet lacks a flag of those that its port needs, where an application has bound the port
abbrev pub lacks : Option (ℕ × ℕ) → Header → Bool
lacks None h = false
lacks (Some owner) h = not (has_flag owner.1 h)

-- the mark for a next hop: its address, or none
abbrev pub mark_of : Option ℕ → ℕ
mark_of None = UNMARKED
mark_of (Some via) = via

-- the buffer that an answer brings from the pool, or back from it
abbrev pub buffer_in : AnswerShown → Option Content
buffer_in answer.Nothing = None
buffer_in (answer.Taken b) = Some b
buffer_in answer.NoBuffer = None
buffer_in answer.Given = None
buffer_in (answer.PoolFull b) = Some b
buffer_in answer.Pushed = None
buffer_in (answer.Full _) = None
buffer_in (answer.Popped _) = None
buffer_in answer.Empty = None

-- whether an answer says that a push was done
abbrev pub is_pushed : AnswerShown → Bool
is_pushed answer.Nothing = false
is_pushed (answer.Taken _) = false
is_pushed answer.NoBuffer = false
is_pushed answer.Given = false
is_pushed (answer.PoolFull _) = false
is_pushed answer.Pushed = true
is_pushed (answer.Full _) = false
is_pushed (answer.Popped _) = false
is_pushed answer.Empty = false

-- the item that an answer brings from a queue, or back from it
abbrev pub item_in : AnswerShown → Option ItemShown
item_in answer.Nothing = None
item_in (answer.Taken _) = None
item_in answer.NoBuffer = None
item_in answer.Given = None
item_in (answer.PoolFull _) = None
item_in answer.Pushed = None
item_in (answer.Full i) = Some i
item_in (answer.Popped i) = Some i
item_in answer.Empty = None

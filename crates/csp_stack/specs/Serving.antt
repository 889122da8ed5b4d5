-- what a router's services know and change, and their replies
use Rattle.std.specs.Prelude.{ℕ, List}
use Rattle.std.specs.Int.RustNames.{bit_and}
use Rattle.csp_base.specs.Trace.{no_trace}
use Rattle.csp_buffer.specs.Content.{Content}
use Rattle.csp_header.specs.declared.word.Header.{Header}
use Rattle.csp_service.specs.Facts.{PlainFacts}
use Rattle.csp_stack.specs.Router.{Facts, State}
use Rattle.csp_stack.specs.Sending.{headed}

-- what they know: the names of the node and of its interfaces, its routing table, and what the services keep
abbrev pub facts_of : Facts → State → PlainFacts
facts_of f s = record { name = f.name; routes = s.routes; ifaces = f.ifaces; services = s.services }

-- a request changes the routing table, or what the services keep
abbrev pub with_facts : State → PlainFacts → State
with_facts s facts = record s { routes = facts.routes; services = facts.services }

-- a reply swaps addresses and ports, and keeps the priority and the flag CRC32; its source is the node's own address, also where the request came to 31
abbrev pub reply_header : Facts → Header → Header
reply_header f h = record { prio = h.prio; src = f.addr; dst = h.src; dport = h.sport; sport = h.dport; flags = record { 0 = bit_and h.flags.0 0x01 } }

-- a reply to a packet with this header has these bytes, is in the packet's buffer, and has no trace
abbrev pub reply_in : Facts → Header → Content → List ℕ → Content
reply_in f h b bytes = headed (reply_header f h) (record b { payload = bytes; trace = no_trace })

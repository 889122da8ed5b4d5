-- When no flow of a run can be taken for another: no application forges a packet of a connection, no connection is with all nodes at once, no two
-- connections of a node look alike, and on none are so many packets sent that two of its indices are half of all numbers apart.
use Rattle.std.specs.Prelude.{◌≡◌, ℕ, ◌+◌, ◌<◌, Some, List, length}
use Rattle.csp_base.specs.declared.traces.Tag.{Tag}
use Rattle.csp_buffer.specs.Content.{Content}
use Rattle.csp_header.specs.Word.{header_at}
use Rattle.csp_header.specs.declared.word.Header.{Header}
use Rattle.csp_log.specs.declared.entry.Entry.{Entry}
use Rattle.csp_record.specs.Record.{PlainRecord}
use Rattle.csp_record.specs.declared.connections.Opening.{Opening}
use Rattle.csp_log.specs.declared.who.Who.TheVariants as who
use Rattle.csp_scene.specs.Scene.{PlainScene}
use Rattle.csp_consistent.specs.Reading.{entries_of}
use Rattle.csp_prefix.specs.Prefix.{IsOpened, sent_on}
use Rattle.csp_peers.specs.Nearness.{half}
use Rattle.csp_peers.specs.Sent.{IsSentIn}
use Rattle.csp_peers.specs.Unforged.{HasNoBroadcasts, HasNoForgeries}

-- two packets of a node are for the same port of the same address, and from the same port
pub record AreAlike (h k : Header) : Type 0 where
  pub dst : h.dst ≡ k.dst
  pub dport : h.dport ≡ k.dport
  pub sport : h.sport ≡ k.sport

-- what a node sent on its reliable connections: alike packets are of one connection
abbrev pub AreApart : ℕ → List Entry → Type 0
AreApart node es =
    (b c : Content) (s t : Tag) → IsSentIn es b → IsSentIn es c → b.trace.tag ≡ Some s → c.trace.tag ≡ Some t → s.node ≡ node → t.node ≡ node
    → AreAlike (header_at b.header) (header_at c.header) → s.nth ≡ t.nth

-- no two reliable connections of a node showed the same peer address, peer port and own port in their packets
abbrev pub HasConnectionsApart : PlainRecord → Type 0
HasConnectionsApart r = (node : ℕ) → AreApart node (entries_of r (who.Router node))

-- on each reliable connection so few packets were sent that no two of its indices are half of all numbers apart
abbrev pub HasShortFlows : PlainRecord → Type 0
HasShortFlows r = (node app nth : ℕ) (x : Opening) → IsOpened r node app x → x.nth ≡ Some nth → length (sent_on r node app x) + 1 < half

-- the flows of a run are clear
pub record HasClearFlows (scene : PlainScene) (r : PlainRecord) : Type 0 where
  pub unforged : HasNoForgeries scene
  pub to_one : HasNoBroadcasts scene
  pub apart : HasConnectionsApart r
  pub short : HasShortFlows r

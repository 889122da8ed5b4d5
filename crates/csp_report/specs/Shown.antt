-- The connections of a record of which a report tells, and what has to hold of them that what it tells is a reliable prefix.
use Rattle.std.specs.Prelude.{ℕ, ◌≡◌, ◌<◌, ◌^◌, Some, List, [], ◌++◌, slice_get, IfSome}
use Rattle.csp_base.specs.declared.limits.TheConstants.{SLOTS}
use Rattle.csp_scene.specs.Scene.{PlainNode, PlainApp}
use Rattle.csp_record.specs.Connections.{openings}
use Rattle.csp_base.specs.Seat.{seat}
use Rattle.csp_record.specs.Payloads.{sent, took}
use Rattle.csp_record.specs.Record.{PlainPartyLog}
use Rattle.csp_record.specs.declared.connections.Opening.{Opening}
use Rattle.csp_report.specs.Parties.{party_at, entries_at}
use Rattle.csp_log.specs.declared.who.Who.TheVariants as who

-- a connection that became open, of an application of a node, on one of its slots; there are the node, the application and its log
pub record IsShown (nodes : List PlainNode) (parties : List PlainPartyLog) (place number : ℕ) (x : Opening) : Type 0 where
  pub node : PlainNode
  pub app : PlainApp
  pub log : PlainPartyLog
  pub at : ℕ
  pub there : slice_get nodes place ≡ Some node
  pub runs : slice_get node.apps number ≡ Some app
  pub logged : party_at parties (who.App place number) ≡ Some log
  pub opened : slice_get (openings number (entries_at parties (who.Router place))) at ≡ Some x
  pub slot : x.slot < SLOTS

-- its number and that of its peer are of at most 64 bits
pub record IsNumbered (x : Opening) : Type 0 where
  pub own : IfSome x.nth (λ nth. nth < 2 ^ 64)
  pub peers : IfSome x.peer (λ flow. flow.1 < 2 ^ 64)

-- each connection that is shown has numbers of at most 64 bits
abbrev pub AreNumbered : List PlainNode → List PlainPartyLog → Type 0
AreNumbered nodes parties = (place number : ℕ) (x : Opening) → IsShown nodes parties place number x → IsNumbered x

-- what was sent and taken on it, by the logs of its router and of its application
abbrev pub sent_there : List PlainPartyLog → ℕ → ℕ → Opening → List (List ℕ)
sent_there parties place number x = sent (seat number x.slot) x.ordinal (entries_at parties (who.Router place))

-- what was taken on a connection, by its application's log
abbrev pub took_there : List PlainPartyLog → ℕ → ℕ → Opening → List (List ℕ)
took_there parties place number x = took (seat number x.slot) x.ordinal (entries_at parties (who.App place number))

-- these payloads are the first of those
pub record AreFirstOf (some all : List (List ℕ)) : Type 0 where
  pub rest : List (List ℕ)
  pub whole : some ++ rest ≡ all

-- it is shown, and of this flow
abbrev pub IsShownOf : List PlainNode → List PlainPartyLog → ℕ × ℕ → ℕ → Opening → Type 0
IsShownOf nodes parties flow number y = IsShown nodes parties flow.0 number y × (y.nth ≡ Some flow.1)

-- what was taken on x are the first of what was sent on each connection of this flow; where none is, nothing was taken
pub record HasPeersFirst (nodes : List PlainNode) (parties : List PlainPartyLog) (place number : ℕ) (x : Opening) (flow : ℕ × ℕ) : Type 0 where
  pub prefix : (other : ℕ) (y : Opening) → IsShownOf nodes parties flow other y → AreFirstOf (took_there parties place number x) (sent_there parties flow.0 other y)
  pub never : ((other : ℕ) (y : Opening) → IsShownOf nodes parties flow other y → ⊥) → took_there parties place number x ≡ []

-- each reliable connection with a peer that is shown took the first of what its peer sent
abbrev pub HavePeersFirst : List PlainNode → List PlainPartyLog → Type 0
HavePeersFirst nodes parties =
    (place number nth : ℕ) (x : Opening) (flow : ℕ × ℕ) → IsShown nodes parties place number x → x.nth ≡ Some nth → x.peer ≡ Some flow → HasPeersFirst nodes parties place number x flow

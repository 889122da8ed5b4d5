-- The reliable prefix: what an application took on a reliable connection is the beginning of what the connection's peer sent.
use Rattle.std.specs.Prelude.{◌≡◌, ℕ, Some, List, [], ◌++◌, slice_get}
use Rattle.csp_base.specs.Seat.{seat}
use Rattle.csp_record.specs.Connections.{openings}
use Rattle.csp_record.specs.Payloads.{sent, took}
use Rattle.csp_record.specs.Record.{PlainRecord}
use Rattle.csp_record.specs.declared.connections.Opening.{Opening}
use Rattle.csp_log.specs.declared.who.Who.TheVariants as who
use Rattle.csp_consistent.specs.Reading.{entries_of}

-- a list is the beginning of another
pub record IsBeginning {T : Type 0} (xs ys : List T) : Type 0 where
  pub rest : List T
  pub whole : xs ++ rest ≡ ys

-- a connection of an application of a node that became open
pub record IsOpened (r : PlainRecord) (node app : ℕ) (x : Opening) : Type 0 where
  pub at : ℕ
  pub there : slice_get (openings app (entries_of r (who.Router node))) at ≡ Some x

-- it is the connection of this flow
abbrev pub IsOfFlow : PlainRecord → ℕ × ℕ → ℕ → Opening → Type 0
IsOfFlow r flow app x = IsOpened r flow.0 app x × (x.nth ≡ Some flow.1)

-- what was taken on an opened connection, by its application's log
abbrev pub took_on : PlainRecord → ℕ → ℕ → Opening → List (List ℕ)
took_on r node app x = took (seat app x.slot) x.ordinal (entries_of r (who.App node app))

-- what was sent on it, by its router's log
abbrev pub sent_on : PlainRecord → ℕ → ℕ → Opening → List (List ℕ)
sent_on r node app x = sent (seat app x.slot) x.ordinal (entries_of r (who.Router node))

-- for each reliable connection with a peer: what was taken on it is a beginning of what was sent on its peer's connection, and nothing was
-- taken where the peer's never became open
pub record HasPeersPrefix (r : PlainRecord) (node app : ℕ) (x : Opening) (peer : ℕ × ℕ) : Type 0 where
  pub prefix : (other : ℕ) (y : Opening) → IsOfFlow r peer other y → IsBeginning (took_on r node app x) (sent_on r peer.0 other y)
  pub never : ((other : ℕ) (y : Opening) → IsOfFlow r peer other y → ⊥) → took_on r node app x ≡ []

-- what was taken on each reliable connection with a peer is a beginning of what its peer sent
abbrev pub IsReliablePrefix : PlainRecord → Type 0
IsReliablePrefix r = (node app nth : ℕ) (x : Opening) (peer : ℕ × ℕ) → IsOpened r node app x → x.nth ≡ Some nth → x.peer ≡ Some peer → HasPeersPrefix r node app x peer

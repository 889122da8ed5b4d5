-- what contracts see of a record: plain lists and numbers
use Rattle.std.specs.Prelude.{ℕ, Bool, List}
use Rattle.csp_log.specs.Remains.{PlainLeft, PlainHeld}
use Rattle.csp_log.specs.declared.entry.Entry.{Entry}
use Rattle.csp_log.specs.declared.who.Who.{Who}

-- a party's entries, and for an application its present step at the end, 0 where it has ended
pub record PlainPartyLog : Type 0 where
  pub who : Who
  pub entries : List Entry
  pub step : ℕ

-- the log of each party, what was left in each queue, which place held which buffers, the rounds made, and whether every application had ended
pub record PlainRecord : Type 0 where
  pub parties : List PlainPartyLog
  pub left : List PlainLeft
  pub held : List PlainHeld
  pub rounds : ℕ
  pub finished : Bool

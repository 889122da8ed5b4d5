-- what holds of a connection's fields
use Rattle.std.specs.Prelude.{◌≡◌, ◌-◌, ◌≤◌, false, List, [], ◌∷◌, length, ⊤}
use Rattle.csp_base.specs.declared.limits.TheConstants.{MAX_PAYLOAD}
use Rattle.csp_rdp_header.specs.declared.options.Options.{Options}
use Rattle.csp_rdp_header.specs.declared.options.TheConstants.{MAX_WINDOW}
use Rattle.csp_rdp_window.specs.Receiving.{PlainRecv}
use Rattle.csp_rdp_window.specs.Sending.{PlainSend}
use Rattle.csp_rdp_window.specs.declared.pending.Pending.{Pending}
use Rattle.csp_rdp.specs.declared.answers.State.{State}
use Rattle.csp_rdp.specs.declared.answers.State.TheVariants.{Closed, SynSent, SynRcvd, Open, CloseWait}
use Rattle.csp_rdp.specs.declared.jobs.Owed.{Owed}

-- each packet has room for a head and a checksum
abbrev pub AreShort : List Pending → Type 0
AreShort [] = ⊤
AreShort (p ∷ ps) = (length p.buffer.picture.payload ≤ MAX_PAYLOAD - 9) × AreShort ps

-- before the connection is open nothing is kept, and nothing was delivered
abbrev pub IsUnopened : State → PlainRecv → Type 0
IsUnopened SynSent w = (w.kept ≡ []) × (w.cur ≡ 0)
IsUnopened SynRcvd w = (w.kept ≡ []) × (w.cur ≡ 0)
IsUnopened Open w = ⊤
IsUnopened CloseWait w = ⊤
IsUnopened Closed w = ⊤

-- none of these packets is needed
abbrev pub AreLoose : List Pending → Type 0
AreLoose [] = ⊤
AreLoose (p ∷ ps) = (p.needed ≡ false) × AreLoose ps

-- before the connection is open there is no packet to send, and once it is over none is needed
abbrev pub ArePacketsIn : State → List Pending → Type 0
ArePacketsIn SynSent ps = ps ≡ []
ArePacketsIn SynRcvd ps = ps ≡ []
ArePacketsIn Open ps = ⊤
ArePacketsIn CloseWait ps = AreLoose ps
ArePacketsIn Closed ps = AreLoose ps

-- what a connection's fields keep: its window's range, no packet too long, nothing kept or to be sent before it is open, nothing needed once it is over
pub record IsSound (state : State) (options : Options) (send : PlainSend) (recv : PlainRecv) (owed : Owed) : Type 0 where
  pub low : 1 ≤ options.window
  pub high : options.window ≤ MAX_WINDOW
  pub short : AreShort send.packets
  pub unopened : IsUnopened state recv
  pub packets : ArePacketsIn state send.packets
  pub counted : owed.delivered ≤ recv.cur

-- a state that a connection comes to when it leaves Open
abbrev pub IsOver : State → Type 0
IsOver Closed = ⊤
IsOver CloseWait = ⊤
IsOver SynSent = ⊥
IsOver SynRcvd = ⊥
IsOver Open = ⊥

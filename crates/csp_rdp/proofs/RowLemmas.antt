-- what a row says of the packet that comes to it
use Rattle.std.proofs.Common.{◌≡◌, ℕ, ◌+◌, Bool, true, false, not, ◌&&◌, ◌||◌, List, length, Option, Some, None, refl, sym, ap, ◌∙◌}
use Rattle.std.specs.Prelude.{◌==◌, if◌then◌else◌}
use Rattle.csp_rdp_header.specs.Head.{has_flag}
use Rattle.csp_rdp_header.specs.Numbers.{is_malformed}
use Rattle.csp_rdp_header.specs.declared.head.RdpHead.{RdpHead}
use Rattle.csp_rdp_header.specs.declared.head.TheConstants.{RST, EAK, ACK, SYN}
use Rattle.csp_rdp_window.specs.Receiving.{first_missing, index_in, is_awaited, is_kept}
use Rattle.csp_rdp.specs.Machine.{PlainRdp}
use Rattle.csp_rdp.specs.Table.{ack_row, close_wait_row, data_row, entered, entered_from, is_bad_list, open_row, reset_row, row_in, syn_rcvd_row, syn_sent_row}
use Rattle.csp_rdp.specs.declared.answers.State.{State}
use Rattle.csp_rdp.specs.declared.answers.State.TheVariants.{Closed, SynSent, SynRcvd, Open, CloseWait}
use Rattle.csp_rdp.specs.declared.rows.StateRow.{StateRow}
use Rattle.csp_rdp.specs.declared.rows.StateRow.TheVariants as row

-- a row that only an acknowledgement comes to
abbrev IsAcked : StateRow → Bool
IsAcked row.Lists = true
IsAcked (row.Data _) = true
IsAcked _ = false

reset-not : (r : PlainRdp) (o : Option ℕ) → IsAcked (reset_row r o) ≡ false
reset-not r None = refl
reset-not r (Some t) = go (not (t == first_missing r.recv)) (t == r.recv.cur + 1)
  where
    go : (a b : Bool) → IsAcked (if a then row.Stray else if b then row.Reset else row.ResetAt t) ≡ false
    go true b = refl
    go false true = refl
    go false false = refl

not-acked : (x y : StateRow) → x ≡ y → IsAcked x ≡ false → IsAcked y ≡ true → ⊥
not-acked x y e f g = cc

-- in SynRcvd and in Open such a row is that of an acknowledgement without a bad list
record ComesTo (r : PlainRdp) (h : RdpHead) (bytes : List ℕ) (y : StateRow) : Type 0 where
  good : is_bad_list h bytes ≡ false
  acked : ack_row r h bytes ≡ y

rcvd-comes : (r : PlainRdp) (h : RdpHead) (bytes : List ℕ) (y : StateRow) → syn_rcvd_row r h bytes ≡ y → IsAcked y ≡ true → ComesTo r h bytes y
rcvd-comes r h bytes y e g =
    go (has_flag h RST) (has_flag h SYN && not (has_flag h ACK) && h.seq.0 == r.recv.start) (has_flag h SYN || not (has_flag h ACK)) (is_bad_list h bytes) (h.ack.0 == r.send.start) refl e
  where
    go : (a b c d f : Bool) → is_bad_list h bytes ≡ d →
        (if a then reset_row r (index_in r.recv h.seq.0) else if b then row.Repeated else if c then row.Broken else if d then row.Stray else if f then ack_row r h bytes else row.Stray) ≡ y →
        ComesTo r h bytes y
    go true b c d f p q = absurd (not-acked _ y q (reset-not r (index_in r.recv h.seq.0)) g)
    go false true c d f p q = absurd (not-acked _ y q refl g)
    go false false true d f p q = absurd (not-acked _ y q refl g)
    go false false false true f p q = absurd (not-acked _ y q refl g)
    go false false false false true p q = record { good = p; acked = q }
    go false false false false false p q = absurd (not-acked _ y q refl g)

open-comes : (r : PlainRdp) (h : RdpHead) (bytes : List ℕ) (y : StateRow) → open_row r h bytes ≡ y → IsAcked y ≡ true → ComesTo r h bytes y
open-comes r h bytes y e g =
    go (has_flag h RST) (has_flag h SYN && h.seq.0 == r.recv.start) (has_flag h SYN || not (has_flag h ACK)) (is_bad_list h bytes) refl e
  where
    go : (a b c d : Bool) → is_bad_list h bytes ≡ d →
        (if a then reset_row r (index_in r.recv h.seq.0) else if b then row.Late else if c then row.Broken else if d then row.Stray else ack_row r h bytes) ≡ y →
        ComesTo r h bytes y
    go true b c d p q = absurd (not-acked _ y q (reset-not r (index_in r.recv h.seq.0)) g)
    go false true c d p q = absurd (not-acked _ y q refl g)
    go false false true d p q = absurd (not-acked _ y q refl g)
    go false false false true p q = absurd (not-acked _ y q refl g)
    go false false false false p q = record { good = p; acked = q }

sent-not : (r : PlainRdp) (h : RdpHead) → IsAcked (syn_sent_row r h) ≡ false
sent-not r h = go (has_flag h RST) (has_flag h SYN && has_flag h ACK && h.ack.0 == r.send.start)
  where
    go : (a b : Bool) → IsAcked (if a then row.Refused else if b then row.Answered else row.Stray) ≡ false
    go true b = refl
    go false true = refl
    go false false = refl

wait-not : (h : RdpHead) → IsAcked (close_wait_row h) ≡ false
wait-not h = go (has_flag h RST)
  where
    go : (a : Bool) → IsAcked (if a then row.Ended else row.Stray) ≡ false
    go true = refl
    go false = refl

-- and the connection is open, or becomes so
record Enters (s : State) (r : PlainRdp) (h : RdpHead) (bytes : List ℕ) (y : StateRow) (time : ℕ) : Type 0 where
  comes : ComesTo r h bytes y
  is_open : (entered_from s time r).state ≡ Open

comes-to : (s : State) (r : PlainRdp) (h : RdpHead) (bytes : List ℕ) (y : StateRow) (time : ℕ) → r.state ≡ s → row_in s r h bytes ≡ y → IsAcked y ≡ true → Enters s r h bytes y time
comes-to SynSent r h bytes y time s e g = absurd (not-acked _ y e (sent-not r h) g)
comes-to SynRcvd r h bytes y time s e g = record { comes = rcvd-comes r h bytes y e g; is_open = refl }
comes-to Open r h bytes y time s e g = record { comes = open-comes r h bytes y e g; is_open = s }
comes-to CloseWait r h bytes y time s e g = absurd (not-acked _ y e (wait-not h) g)
comes-to Closed r h bytes y time s e g = absurd (not-acked _ y e refl g)

-- ---- data

-- what a packet of this index, that is to be kept, meets
pub record IsFresh (r : PlainRdp) (h : RdpHead) (t time : ℕ) : Type 0 where
  pub shown : index_in r.recv h.seq.0 ≡ Some t
  pub awaited : is_awaited r.recv t ≡ true
  pub missing : is_kept r.recv t ≡ false
  pub is_open : (entered time r).state ≡ Open

data-found : (r : PlainRdp) (o : Option ℕ) (t : ℕ) → data_row r o ≡ row.Data t → (o ≡ Some t) × (is_awaited r.recv t ≡ true) × (is_kept r.recv t ≡ false)
data-found r None t e = cc
data-found r (Some s) t e = go (is_awaited r.recv s) (is_kept r.recv s) refl refl e
  where
    go : (a b : Bool) → is_awaited r.recv s ≡ a → is_kept r.recv s ≡ b → (if not a then row.Outside else if b then row.Duplicate else row.Data s) ≡ row.Data t →
        (Some s ≡ Some t) × (is_awaited r.recv t ≡ true) × (is_kept r.recv t ≡ false)
    go false b p q f = cc
    go true true p q f = cc
    go true false p q f = let same : s ≡ t = cc in (ap Some same, rw (← same) p, rw (← same) q)

data-row : (r : PlainRdp) (h : RdpHead) (bytes : List ℕ) (t : ℕ) → ack_row r h bytes ≡ row.Data t → data_row r (index_in r.recv h.seq.0) ≡ row.Data t
data-row r h bytes t e = go (has_flag h EAK) (length bytes == 0) (data_row r (index_in r.recv h.seq.0)) e
  where
    go : (a b : Bool) (x : StateRow) → (if a then row.Lists else if b then row.Acknowledges else x) ≡ row.Data t → x ≡ row.Data t
    go true b x f = cc
    go false true x f = cc
    go false false x f = f

pub data-fresh : (r : PlainRdp) (h : RdpHead) (bytes : List ℕ) (t time : ℕ) → row_in r.state r h bytes ≡ row.Data t → IsFresh r h t time
data-fresh r h bytes t time e =
    let enters = comes-to r.state r h bytes (row.Data t) time refl e refl in
    let found = data-found r (index_in r.recv h.seq.0) t (data-row r h bytes t enters.comes.acked) in
    record { shown = found.0; awaited = found.1; missing = found.2; is_open = enters.is_open }

-- ---- lists

data-not-list : (r : PlainRdp) (o : Option ℕ) → data_row r o ≡ row.Lists → ⊥
data-not-list r None e = cc
data-not-list r (Some s) e = go (is_awaited r.recv s) (is_kept r.recv s) e
  where
    go : (a b : Bool) → (if not a then row.Outside else if b then row.Duplicate else row.Data s) ≡ row.Lists → ⊥
    go false b f = cc
    go true true f = cc
    go true false f = cc

listed : (r : PlainRdp) (h : RdpHead) (bytes : List ℕ) → ack_row r h bytes ≡ row.Lists → has_flag h EAK ≡ true
listed r h bytes e = go (has_flag h EAK) (length bytes == 0) refl e
  where
    go : (a b : Bool) → has_flag h EAK ≡ a → (if a then row.Lists else if b then row.Acknowledges else data_row r (index_in r.recv h.seq.0)) ≡ row.Lists → has_flag h EAK ≡ true
    go true b p f = p
    go false true p f = cc
    go false false p f = absurd (data-not-list r _ f)

-- a list is read only where it is one
pub list-read : (r : PlainRdp) (h : RdpHead) (bytes : List ℕ) (time : ℕ) → row_in r.state r h bytes ≡ row.Lists → is_malformed bytes ≡ false
list-read r h bytes time e =
    let enters = comes-to r.state r h bytes row.Lists time refl e refl in
    sym (ap (λ b. b && is_malformed bytes) (listed r h bytes enters.comes.acked)) ∙ enters.comes.good

-- ---- entering

pub entered-recv : (s : State) (time : ℕ) (r : PlainRdp) → (entered_from s time r).recv ≡ r.recv
entered-recv SynSent time r = refl
entered-recv SynRcvd time r = refl
entered-recv Open time r = refl
entered-recv CloseWait time r = refl
entered-recv Closed time r = refl

-- a connection neither loses nor doubles a buffer
use Rattle.std.proofs.Common.{◌≡◌, ℕ, ◌+◌, ◌*◌, ◌<◌, ◌≤◌, Bool, true, false, not, ◌&&◌, ◌||◌, cond, List, [], ◌∷◌, ◌++◌, length, map, Option, Some, None, arith, ap, sym, ◌∙◌, refl}
use Rattle.std.proofs.lemmas.Grind.{common_steps}
use Rattle.std.specs.List.{filter, find, list_any}
use Rattle.std.specs.Option.{option_map}
use Rattle.std.specs.Prelude.{◌==◌, if◌then◌else◌, nat_le, nat_lt}
use Rattle.std.proofs.lemmas.Bool.{eqb-false, eqb-true, ltb-false, ltb-true}
use Rattle.std.proofs.lemmas.List.{append-nil, append_assoc, length-append, length-map, map-append}
use Rattle.csp_base.specs.declared.sequence.Seq.{Seq}
use Rattle.csp_base.specs.declared.traces.Tag.{Tag}
use Rattle.csp_buffer.specs.PlainBuffer.{PlainBuffer}
use Rattle.csp_rdp_header.specs.Numbers.{numbers_of}
use Rattle.csp_rdp_header.specs.declared.head.RdpHead.{RdpHead}
use Rattle.csp_rdp_window.specs.Numbers.{number_in, times}
use Rattle.csp_rdp_window.specs.Receiving.{Kept, PlainRecv, confirmed, first_buffer, is_awaited, is_kept, kept_with, recv_numbers, without_first}
use Rattle.csp_rdp_window.specs.Sending.{PlainSend, acked_at, acknowledges, fresh, list_heard, is_inside, is_loose, listed, loose_buffer, marked, needed_if, newest_of, send_numbers, with_mark, without_listed, without_loose}
use Rattle.csp_rdp_window.specs.Shown.{shown}
use Rattle.csp_rdp_window.specs.Times.{has_passed}
use Rattle.csp_rdp_window.specs.declared.pending.Mark.{Mark}
use Rattle.csp_rdp_window.specs.declared.pending.Mark.TheVariants.{Acknowledged, Abandoned, Sent, Missed}
use Rattle.csp_rdp_window.specs.declared.pending.Pending.{Pending}
use Rattle.csp_rdp.specs.Balance.{Balanced, IsInOrder, IsWhole}
use Rattle.csp_rdp.specs.Holding.{handing_out, loose_buffers, rdp_numbers, recv_rested, rested, taken_out_of, unneeded, unneeded_in, unneeded_or, useless_buffers, without_kept}
use Rattle.csp_rdp.proofs.HoldingLemmas.{parted-numbers}
use Rattle.csp_rdp.specs.Jobs.{admitting, closed_in, one_more_delivered, delivering, delivery_in, keeping_again, reset_after, sending_index, sent, taken_in, ticked, timed_out}
use Rattle.csp_rdp.specs.Machine.{PlainRdp, broken, left, owes_rst}
use Rattle.csp_rdp.specs.Sound.{IsOver, IsUnopened}
use Rattle.csp_rdp.specs.Table.{acknowledged, after, back_of, entered, entered_from, listing, row_in}
use Rattle.csp_rdp.specs.declared.answers.State.{State}
use Rattle.csp_rdp.specs.declared.answers.State.TheVariants.{Closed, SynSent, SynRcvd, Open, CloseWait}
use Rattle.csp_rdp.specs.declared.jobs.Job.{Job}
use Rattle.csp_rdp.specs.declared.jobs.Job.TheVariants as job
use Rattle.csp_rdp.specs.declared.rows.StateRow.{StateRow}
use Rattle.csp_rdp.specs.declared.rows.StateRow.TheVariants as row
use Rattle.csp_rdp.proofs.CountLemmas.{times-append}
use Rattle.csp_rdp.proofs.RowLemmas.{data-fresh, entered-recv}
use Rattle.csp_rdp.proofs.SoundLemmas.{marked-buffer, unopened-drained, unopened-over}

-- ---- lists of the same numbers

same : (xs ys : List ℕ) → xs ≡ ys → Balanced xs ys
same xs ys e = record { numbers = λ k. ap (times k) e; count = ap length e }

chained : (xs ys zs : List ℕ) → Balanced xs ys → Balanced ys zs → Balanced xs zs
chained xs ys zs p q = record { numbers = λ k. p.numbers k ∙ q.numbers k; count = p.count ∙ q.count }

-- behind the same list
behind : (xs ys zs : List ℕ) → Balanced ys zs → Balanced (xs ++ ys) (xs ++ zs)
behind xs ys zs p = record {
  numbers = λ k. let a = times-append k xs ys in let b = times-append k xs zs in let e = p.numbers k in omega (arith, a, b, e);
  count = let a = length-append xs ys in let b = length-append xs zs in let e = p.count in omega (arith, a, b, e);
}

-- and in front of one
in-front : (xs ys zs : List ℕ) → Balanced xs ys → Balanced (xs ++ zs) (ys ++ zs)
in-front xs ys zs p = record {
  numbers = λ k. let a = times-append k xs zs in let b = times-append k ys zs in let e = p.numbers k in omega (arith, a, b, e);
  count = let a = length-append xs zs in let b = length-append ys zs in let e = p.count in omega (arith, a, b, e);
}

-- the two last of three lists change places
swapped : (xs ys zs : List ℕ) → Balanced (xs ++ ys ++ zs) (xs ++ zs ++ ys)
swapped xs ys zs = record {
  numbers = λ k.
      let a = times-append k (xs ++ ys) zs in
      let b = times-append k (xs ++ zs) ys in
      let c = times-append k xs ys in
      let d = times-append k xs zs in
      omega (arith, a, b, c, d);
  count =
      let a = length-append (xs ++ ys) zs in
      let b = length-append (xs ++ zs) ys in
      let c = length-append xs ys in
      let d = length-append xs zs in
      omega (arith, a, b, c, d);
}

-- ---- what is kept

abbrev number : Kept → ℕ
number k = k.buffer.picture.number

kept_with-balanced : (t : ℕ) (b : PlainBuffer) (ks : List Kept) → Balanced (map number (kept_with t b ks)) (map number ks ++ b.picture.number ∷ [])
kept_with-balanced t b [] = same _ _ refl
kept_with-balanced t b (k ∷ ks) = go (nat_lt t k.index) (kept_with-balanced t b ks)
  where
    go : (c : Bool) → Balanced (map number (kept_with t b ks)) (map number ks ++ b.picture.number ∷ []) →
        Balanced (map number (if c then record { index = t; buffer = b } ∷ k ∷ ks else k ∷ kept_with t b ks)) (number k ∷ map number ks ++ b.picture.number ∷ [])
    go true rest = swapped [] (b.picture.number ∷ []) (number k ∷ map number ks)
    go false rest = behind (number k ∷ []) (map number (kept_with t b ks)) (map number ks ++ b.picture.number ∷ []) rest

-- past an index nothing has it
filter-later : (u last : ℕ) (ks : List Kept) → u ≤ last → IsInOrder last ks → filter (λ k. not (k.index == u)) ks ≡ ks
filter-later u last [] h order = refl
filter-later u last (k ∷ ks) h order = go (k.index == u) refl (filter-later u k.index ks (let low = order.0 in omega arith) order.1)
  where
    go : (c : Bool) → (k.index == u) ≡ c → filter (λ e. not (e.index == u)) ks ≡ ks → cond (not c) (k ∷ filter (λ e. not (e.index == u)) ks) (filter (λ e. not (e.index == u)) ks) ≡ k ∷ ks
    go true e rest = let is : k.index ≡ u = eqb-true k.index u e in let low = order.0 in absurd (omega arith)
    go false e rest = ap (λ l. k ∷ l) rest

-- one of those kept is found, and is then the only one that goes
taken-balanced : (u last : ℕ) (ks : List Kept) → IsInOrder last ks →
    Balanced (map number (filter (λ k. not (k.index == u)) ks) ++ number_in (option_map (λ k. k.buffer) (find (λ k. k.index == u) ks))) (map number ks)
taken-balanced u last [] order = same _ _ refl
taken-balanced u last (k ∷ ks) order = go (k.index == u) refl (taken-balanced u k.index ks order.1)
  where
    go : (c : Bool) → (k.index == u) ≡ c →
        Balanced (map number (filter (λ e. not (e.index == u)) ks) ++ number_in (option_map (λ e. e.buffer) (find (λ e. e.index == u) ks))) (map number ks) →
        Balanced (map number (cond (not c) (k ∷ filter (λ e. not (e.index == u)) ks) (filter (λ e. not (e.index == u)) ks)) ++ number_in (option_map (λ e. e.buffer) (cond c (Some k) (find (λ e. e.index == u) ks)))) (number k ∷ map number ks)
    go true e rest =
        let is : k.index ≡ u = eqb-true k.index u e in
        rw (filter-later u k.index ks (omega arith) order.1) (swapped [] (map number ks) (number k ∷ []))
    go false e rest = behind (number k ∷ []) _ (map number ks) rest

first-balanced : (ks : List Kept) → Balanced (map number (without_first ks) ++ number_in (first_buffer ks)) (map number ks)
first-balanced [] = same _ _ refl
first-balanced (k ∷ ks) = swapped [] (map number ks) (number k ∷ [])

-- ---- its order

order-lower : (low last : ℕ) (ks : List Kept) → low ≤ last → IsInOrder last ks → IsInOrder low ks
order-lower low last [] h order = tt
order-lower low last (k ∷ ks) h order = (let first = order.0 in omega arith, order.1)

order-filter : (test : Kept → Bool) (last : ℕ) (ks : List Kept) → IsInOrder last ks → IsInOrder last (filter test ks)
order-filter test last [] order = tt
order-filter test last (k ∷ ks) order = go (test k) (order-filter test k.index ks order.1)
  where
    go : (c : Bool) → IsInOrder k.index (filter test ks) → IsInOrder last (cond c (k ∷ filter test ks) (filter test ks))
    go true rest = (order.0, rest)
    go false rest = order-lower last k.index (filter test ks) (let first = order.0 in omega arith) rest

order-first : (last : ℕ) (ks : List Kept) → IsInOrder last ks → IsInOrder last (without_first ks)
order-first last [] order = tt
order-first last (k ∷ ks) order = order-lower last k.index ks (let first = order.0 in omega arith) order.1

-- an index that none has is not that of the first
neither : (k : Kept) (t : ℕ) (ks : List Kept) → list_any (λ e. e.index == t) (k ∷ ks) ≡ false → (k.index ≡ t → ⊥) × (list_any (λ e. e.index == t) ks ≡ false)
neither k t ks e = go (k.index == t) refl e
  where
    go : (c : Bool) → (k.index == t) ≡ c → (c || list_any (λ x. x.index == t) ks) ≡ false → (k.index ≡ t → ⊥) × (list_any (λ x. x.index == t) ks ≡ false)
    go true p q = cc
    go false p q = (eqb-false k.index t p, q)

order-kept_with : (t : ℕ) (b : PlainBuffer) (last : ℕ) (ks : List Kept) → last < t → list_any (λ k. k.index == t) ks ≡ false → IsInOrder last ks → IsInOrder last (kept_with t b ks)
order-kept_with t b last [] later none order = (later, tt)
order-kept_with t b last (k ∷ ks) later none order =
    let two = neither k t ks none in
    go (nat_lt t k.index) refl (λ past. order-kept_with t b k.index ks (below k.index t past two.0) two.1 order.1)
  where
    below : (m n : ℕ) → m ≤ n → (m ≡ n → ⊥) → m < n
    below m n h ne = omega (arith, ne)

    go : (c : Bool) → nat_lt t k.index ≡ c → (k.index ≤ t → IsInOrder k.index (kept_with t b ks)) → IsInOrder last (if c then record { index = t; buffer = b } ∷ k ∷ ks else k ∷ kept_with t b ks)
    go true e rest = (later, (ltb-true t k.index e, order.1))
    go false e rest = (order.0, rest (ltb-false t k.index e))

order-next : (last : ℕ) (ks : List Kept) → list_any (λ k. k.index == last + 1) ks ≡ false → IsInOrder last ks → IsInOrder (last + 1) ks
order-next last [] none order = tt
order-next last (k ∷ ks) none order = (past k.index last order.0 (neither k (last + 1) ks none).0, order.1)
  where
    past : (m n : ℕ) → n < m → (m ≡ n + 1 → ⊥) → n + 1 < m
    past m n h ne = omega (arith, ne)

none-taken : (u : ℕ) (ks : List Kept) → list_any (λ k. k.index == u) (filter (λ k. not (k.index == u)) ks) ≡ false
none-taken u [] = refl
none-taken u (k ∷ ks) = go (k.index == u) refl (none-taken u ks)
  where
    go : (c : Bool) → (k.index == u) ≡ c → list_any (λ e. e.index == u) (filter (λ e. not (e.index == u)) ks) ≡ false →
        list_any (λ e. e.index == u) (cond (not c) (k ∷ filter (λ e. not (e.index == u)) ks) (filter (λ e. not (e.index == u)) ks)) ≡ false
    go true e rest = rest
    go false e rest = rw e rest

-- ---- the send window

abbrev sending : Pending → ℕ
sending p = p.buffer.picture.number

numbers-marked : (m : Mark) (ps : List Pending) → map sending (map (marked m) ps) ≡ map sending ps
numbers-marked m [] = refl
numbers-marked m (p ∷ ps) =
    ap (λ b. b.picture.number ∷ map sending (map (marked m) ps)) (marked-buffer m p)
    ∙ ap (λ l. sending p ∷ l) (numbers-marked m ps)

numbers-listed : (ts : List ℕ) (ps : List Pending) → map sending (map (λ p. needed_if (not (list_any (λ t. t == p.index) ts)) p) ps) ≡ map sending ps
numbers-listed ts [] = refl
numbers-listed ts (p ∷ ps) = ap (λ l. sending p ∷ l) (numbers-listed ts ps)

numbers-heard : (ns : List Seq) (time timeout : ℕ) (w : PlainSend) → send_numbers (list_heard ns time timeout w) ≡ send_numbers w
numbers-heard ns time timeout w =
    numbers-marked (Missed (newest_of (listed w ns)) time timeout) (without_listed (listed w ns) w).packets
    ∙ numbers-listed (listed w ns) w.packets

numbers-acked : (o : Option ℕ) (w : PlainSend) → send_numbers (acked_at o w) ≡ send_numbers w
numbers-acked None w = refl
numbers-acked (Some t) w = go (is_inside w t)
  where
    go : (b : Bool) → send_numbers (if b then record (with_mark (Acknowledged t) w) { una = t + 1 } else w) ≡ send_numbers w
    go true = numbers-marked (Acknowledged t) w.packets
    go false = refl

loose-balanced : (ps : List Pending) → Balanced (map sending (without_loose ps) ++ number_in (option_map (λ p. p.buffer) (find is_loose ps))) (map sending ps)
loose-balanced [] = same _ _ refl
loose-balanced (p ∷ ps) = go p.needed (loose-balanced ps)
  where
    go : (b : Bool) → Balanced (map sending (without_loose ps) ++ number_in (option_map (λ q. q.buffer) (find is_loose ps))) (map sending ps) →
        Balanced (map sending (if b then p ∷ without_loose ps else ps) ++ number_in (option_map (λ q. q.buffer) (cond (not b) (Some p) (find is_loose ps)))) (sending p ∷ map sending ps)
    go true rest = behind (sending p ∷ []) _ (map sending ps) rest
    go false rest = swapped [] (map sending ps) (sending p ∷ [])

-- ---- the connection: what leaves the numbers as they are

numbers-left : (state : State) (time : ℕ) (r : PlainRdp) → rdp_numbers (left state time r) ≡ rdp_numbers r
numbers-left state time r = ap (λ l. l ++ recv_numbers r.recv) (numbers-marked Abandoned r.send.packets)

numbers-entered : (s : State) (time : ℕ) (r : PlainRdp) → rdp_numbers (entered_from s time r) ≡ rdp_numbers r
numbers-entered SynSent time r = refl
numbers-entered SynRcvd time r = refl
numbers-entered Open time r = refl
numbers-entered CloseWait time r = refl
numbers-entered Closed time r = refl

numbers-acknowledged : (h : RdpHead) (time : ℕ) (r : PlainRdp) → rdp_numbers (acknowledged h.ack.0 time (entered time r)) ≡ rdp_numbers r
numbers-acknowledged h time r =
    let now = entered time r in
    ap (λ l. l ++ recv_numbers now.recv) (numbers-acked (shown h.ack.0 now.send.start now.send.una) now.send)
    ∙ numbers-entered r.state time r

numbers-listing : (b : Bool) (bytes : List ℕ) (time : ℕ) (r : PlainRdp) → rdp_numbers (listing b bytes time r) ≡ rdp_numbers r
numbers-listing false bytes time r = refl
numbers-listing true bytes time r = ap (λ l. l ++ recv_numbers r.recv) (numbers-heard (numbers_of bytes) time r.options.packet_timeout r.send)

pub numbers-sent : (j : Job) (time : ℕ) (r : PlainRdp) → rdp_numbers (sent j time r) ≡ rdp_numbers r
numbers-sent job.Rst time r = refl
numbers-sent job.Syn time r = refl
numbers-sent job.Deliver time r = refl
numbers-sent job.Eak time r = refl
numbers-sent job.Data time r = ap (λ l. l ++ recv_numbers r.recv) (numbers-marked (Sent (sending_index time r) time) r.send.packets)
numbers-sent job.Ack time r = refl

pub numbers-delivered : (o : Option ℕ) (time : ℕ) (r : PlainRdp) → rdp_numbers (reset_after o time r) ≡ rdp_numbers r
numbers-delivered None time r = refl
numbers-delivered (Some t) time r = go (nat_le t (r.recv.cur + 1))
  where
    go : (b : Bool) → rdp_numbers (if b then owes_rst (left Closed time r) else r) ≡ rdp_numbers r
    go true = numbers-left Closed time r
    go false = refl

numbers-timed : (s : State) (time : ℕ) (r : PlainRdp) → rdp_numbers (timed_out s time r) ≡ rdp_numbers r
numbers-timed SynSent time r = numbers-left Closed time r
numbers-timed SynRcvd time r = numbers-left Closed time r
numbers-timed CloseWait time r = numbers-left Closed time r
numbers-timed Closed time r = refl
numbers-timed Open time r = go (r.send.una == r.send.nxt)
  where
    go : (b : Bool) → rdp_numbers (if b then r else broken time r) ≡ rdp_numbers r
    go true = refl
    go false = numbers-left CloseWait time r

pub numbers-ticked : (time : ℕ) (r : PlainRdp) → rdp_numbers (ticked time r) ≡ rdp_numbers r
numbers-ticked time r = go (has_passed (Some r.since) r.options.conn_timeout time)
  where
    go : (b : Bool) → rdp_numbers (if b then timed_out r.state time r else r) ≡ rdp_numbers r
    go true = numbers-timed r.state time r
    go false = refl

pub numbers-closed : (s : State) (time : ℕ) (r : PlainRdp) → rdp_numbers (closed_in s time r) ≡ rdp_numbers r
numbers-closed SynSent time r = numbers-left Closed time r
numbers-closed SynRcvd time r = numbers-left CloseWait time r
numbers-closed Open time r = numbers-left CloseWait time r
numbers-closed CloseWait time r = refl
numbers-closed Closed time r = refl

-- ---- what moves a buffer

kept-balanced : (t : ℕ) (b : PlainBuffer) (r : PlainRdp) → Balanced (send_numbers r.send ++ map number (kept_with t b r.recv.kept)) (rdp_numbers r ++ b.picture.number ∷ [])
kept-balanced t b r =
    chained _ _ _
    (behind (send_numbers r.send) _ _ (kept_with-balanced t b r.recv.kept))
    (same _ _ (sym (append_assoc (send_numbers r.send) (recv_numbers r.recv) (b.picture.number ∷ []))))

pub again-balanced : (b : PlainBuffer) (r : PlainRdp) → Balanced (rdp_numbers (keeping_again b r)) (rdp_numbers r ++ b.picture.number ∷ [])
again-balanced b r = kept-balanced (r.recv.cur + 1) b r

pub admitted-balanced : (b : PlainBuffer) (time : ℕ) (r : PlainRdp) → Balanced (rdp_numbers (admitting b time r)) (rdp_numbers r ++ b.picture.number ∷ [])
admitted-balanced b time r =
    chained _ _ _
    (same _ _ (ap (λ l. l ++ recv_numbers r.recv) (map-append sending r.send.packets (fresh r.send.nxt b ∷ []))))
    (swapped (send_numbers r.send) (b.picture.number ∷ []) (recv_numbers r.recv))

-- out of what is kept
recv-balanced : (r : PlainRdp) (ks : List Kept) (out : List ℕ) → Balanced (map number ks ++ out) (recv_numbers r.recv) → Balanced (send_numbers r.send ++ map number ks ++ out) (rdp_numbers r)
recv-balanced r ks out p =
    chained _ _ _
    (same _ _ (append_assoc (send_numbers r.send) (map number ks) out))
    (behind (send_numbers r.send) (map number ks ++ out) (recv_numbers r.recv) p)

nothing-out : (r : PlainRdp) → Balanced (rdp_numbers r ++ []) (rdp_numbers r)
nothing-out r = same _ _ (append-nil (rdp_numbers r))

pub delivery-balanced : (s : State) (r : PlainRdp) → IsWhole r → Balanced (rdp_numbers (taken_in s r) ++ number_in (delivery_in s r)) (rdp_numbers r)
delivery-balanced Open r whole = recv-balanced r _ _ (taken-balanced (r.recv.cur + 1) r.recv.cur r.recv.kept whole.ordered)
delivery-balanced SynSent r whole = nothing-out r
delivery-balanced SynRcvd r whole = nothing-out r
delivery-balanced CloseWait r whole = nothing-out r
delivery-balanced Closed r whole = nothing-out r

unneeded-balanced : (s : State) (r : PlainRdp) → Balanced (rdp_numbers (without_kept s r) ++ number_in (unneeded_in s r)) (rdp_numbers r)
unneeded-balanced Open r = nothing-out r
unneeded-balanced SynSent r = recv-balanced r _ _ (first-balanced r.recv.kept)
unneeded-balanced SynRcvd r = recv-balanced r _ _ (first-balanced r.recv.kept)
unneeded-balanced CloseWait r = recv-balanced r _ _ (first-balanced r.recv.kept)
unneeded-balanced Closed r = recv-balanced r _ _ (first-balanced r.recv.kept)

pub drained-balanced : (o : Option PlainBuffer) (r : PlainRdp) → loose_buffer r.send ≡ o → Balanced (rdp_numbers (handing_out o r) ++ number_in (unneeded_or o r)) (rdp_numbers r)
drained-balanced None r e = unneeded-balanced r.state r
drained-balanced (Some b) r e =
    let rest = map sending (without_loose r.send.packets) in
    let out = b.picture.number ∷ [] in
    let kept = recv_numbers r.recv in
    let sends : Balanced (rest ++ out) (send_numbers r.send) =
    chained _ _ _ (same _ _ (ap (λ x. rest ++ number_in x) (sym e))) (loose-balanced r.send.packets) in
    chained _ _ _ (swapped rest kept out) (in-front (rest ++ out) (send_numbers r.send) kept sends)

-- ---- a packet

-- only SynSent comes to the row of the answer, and nothing is kept there
answer-keeps-none : (s : State) (r : PlainRdp) (h : RdpHead) (bytes : List ℕ) → row_in s r h bytes ≡ row.Answered → IsUnopened s r.recv → r.recv.kept ≡ []
answer-keeps-none SynSent r h bytes e un = un.0
answer-keeps-none SynRcvd r h bytes e un = grind (arith, common_steps)
answer-keeps-none Open r h bytes e un = grind (arith, common_steps)
answer-keeps-none CloseWait r h bytes e un = grind (arith, common_steps)
answer-keeps-none Closed r h bytes e un = cc

-- a packet that is not kept comes back
back : (r : PlainRdp) (ns : List ℕ) (p : PlainBuffer) → ns ≡ rdp_numbers r → Balanced (ns ++ p.picture.number ∷ []) (rdp_numbers r ++ p.picture.number ∷ [])
back r ns p e = same _ _ (ap (λ l. l ++ p.picture.number ∷ []) e)

pub handed-balanced : (y : StateRow) (h : RdpHead) (tag : Option Tag) (p : PlainBuffer) (time : ℕ) (r : PlainRdp) → row_in r.state r h p.picture.payload ≡ y → IsWhole r →
    Balanced (rdp_numbers (after y h tag p time r) ++ number_in (back_of y p)) (rdp_numbers r ++ p.picture.number ∷ [])
handed-balanced row.Stray h tag p time r e whole = same _ _ refl
handed-balanced row.Refused h tag p time r e whole = back r _ p (numbers-left Closed time r)
handed-balanced row.Answered h tag p time r e whole =
    let none = answer-keeps-none r.state r h p.picture.payload e whole.unopened in
    same _ _ (ap (λ ks. send_numbers r.send ++ map number ks ++ p.picture.number ∷ []) (sym none))
handed-balanced row.Repeated h tag p time r e whole = same _ _ refl
handed-balanced row.Late h tag p time r e whole = same _ _ refl
handed-balanced row.Reset h tag p time r e whole = back r _ p (numbers-left Closed time r)
handed-balanced (row.ResetAt t) h tag p time r e whole = same _ _ refl
handed-balanced row.Broken h tag p time r e whole = back r _ p (numbers-left CloseWait time r)
handed-balanced row.Ended h tag p time r e whole = back r _ p (numbers-left Closed time r)
handed-balanced row.Acknowledges h tag p time r e whole = back r _ p (numbers-acknowledged h time r)
handed-balanced row.Lists h tag p time r e whole =
    back r _ p (numbers-listing (acknowledges r.send h.ack.0) p.picture.payload time (acknowledged h.ack.0 time (entered time r)) ∙ numbers-acknowledged h time r)
handed-balanced row.Outside h tag p time r e whole = back r _ p (numbers-entered r.state time r)
handed-balanced row.Duplicate h tag p time r e whole = back r _ p (numbers-acknowledged h time r)
handed-balanced (row.Data t) h tag p time r e whole =
    let now = acknowledged h.ack.0 time (entered time r) in
    chained _ _ _ (same _ _ (append-nil (send_numbers now.send ++ map number (kept_with t p now.recv.kept))))
    (chained _ _ _ (kept-balanced t p now) (back r _ p (numbers-acknowledged h time r)))

-- ---- a connection that is whole

whole-left : (state : State) (time : ℕ) (r : PlainRdp) → IsOver state → IsWhole r → IsWhole (left state time r)
whole-left state time r over whole = record { unopened = unopened-over state r.recv over; ordered = whole.ordered }

whole-entered : (s : State) (time : ℕ) (r : PlainRdp) → IsWhole r → IsWhole (entered_from s time r)
whole-entered SynSent time r whole = whole
whole-entered SynRcvd time r whole = record { unopened = tt; ordered = whole.ordered }
whole-entered Open time r whole = whole
whole-entered CloseWait time r whole = whole
whole-entered Closed time r whole = whole

whole-acknowledged : (h : RdpHead) (time : ℕ) (r : PlainRdp) → IsWhole r → IsWhole (acknowledged h.ack.0 time (entered time r))
whole-acknowledged h time r whole = let now = whole-entered r.state time r whole in record { unopened = now.unopened; ordered = now.ordered }

whole-listing : (b : Bool) (bytes : List ℕ) (time : ℕ) (r : PlainRdp) → IsWhole r → IsWhole (listing b bytes time r)
whole-listing false bytes time r whole = whole
whole-listing true bytes time r whole = record { unopened = whole.unopened; ordered = whole.ordered }

-- an open connection keeps a packet past what was delivered, of an index that it did not keep
open-unopened : (s : State) (w : PlainRecv) → s ≡ Open → IsUnopened s w
open-unopened SynSent w e = cc
open-unopened SynRcvd w e = cc
open-unopened Open w e = tt
open-unopened CloseWait w e = cc
open-unopened Closed w e = cc

above : (w : PlainRecv) (t : ℕ) → is_awaited w t ≡ true → w.cur < t
above w t e = go (nat_lt w.cur t) refl e
  where
    go : (b : Bool) → nat_lt w.cur t ≡ b → (b && nat_le t (w.cur + 2 * w.window)) ≡ true → w.cur < t
    go true p q = ltb-true w.cur t p
    go false p q = cc

pub whole-handed : (y : StateRow) (h : RdpHead) (tag : Option Tag) (p : PlainBuffer) (time : ℕ) (r : PlainRdp) → row_in r.state r h p.picture.payload ≡ y → IsWhole r →
    IsWhole (after y h tag p time r)
whole-handed row.Stray h tag p time r e whole = whole
whole-handed row.Refused h tag p time r e whole = whole-left Closed time r tt whole
whole-handed row.Answered h tag p time r e whole = record { unopened = tt; ordered = tt }
whole-handed row.Repeated h tag p time r e whole = record { unopened = whole.unopened; ordered = whole.ordered }
whole-handed row.Late h tag p time r e whole = record { unopened = whole.unopened; ordered = whole.ordered }
whole-handed row.Reset h tag p time r e whole = record { unopened = tt; ordered = whole.ordered }
whole-handed (row.ResetAt t) h tag p time r e whole = record { unopened = whole.unopened; ordered = whole.ordered }
whole-handed row.Broken h tag p time r e whole = record { unopened = tt; ordered = whole.ordered }
whole-handed row.Ended h tag p time r e whole = whole-left Closed time r tt whole
whole-handed row.Acknowledges h tag p time r e whole = whole-acknowledged h time r whole
whole-handed row.Lists h tag p time r e whole = whole-listing (acknowledges r.send h.ack.0) p.picture.payload time _ (whole-acknowledged h time r whole)
whole-handed row.Outside h tag p time r e whole = let now = whole-entered r.state time r whole in record { unopened = now.unopened; ordered = now.ordered }
whole-handed row.Duplicate h tag p time r e whole = whole-acknowledged h time r whole
whole-handed (row.Data t) h tag p time r e whole =
    let fresh = data-fresh r h p.picture.payload t time e in
    record {
      unopened = open-unopened (entered time r).state _ fresh.is_open;
      ordered = rw (entered-recv r.state time r) (order-kept_with t p r.recv.cur r.recv.kept (above r.recv t fresh.awaited) fresh.missing whole.ordered);
    }

pub whole-taken : (s : State) (r : PlainRdp) → r.state ≡ s → IsWhole r → IsWhole (taken_in s r)
whole-taken SynSent r e whole = whole
whole-taken SynRcvd r e whole = whole
whole-taken Open r e whole = record {
  unopened = open-unopened r.state _ e;
  ordered = order-filter (λ k. not (k.index == r.recv.cur + 1)) r.recv.cur r.recv.kept whole.ordered;
}
whole-taken CloseWait r e whole = whole
whole-taken Closed r e whole = whole

pub missing-taken : (s : State) (r : PlainRdp) → s ≡ Open → is_kept (taken_in s r).recv (r.recv.cur + 1) ≡ false
missing-taken SynSent r e = cc
missing-taken SynRcvd r e = cc
missing-taken Open r e = none-taken (r.recv.cur + 1) r.recv.kept
missing-taken CloseWait r e = cc
missing-taken Closed r e = cc

whole-reset : (o : Option ℕ) (time : ℕ) (r : PlainRdp) → IsWhole r → IsWhole (reset_after o time r)
whole-reset None time r whole = whole
whole-reset (Some t) time r whole = go (nat_le t (r.recv.cur + 1))
  where
    go : (b : Bool) → IsWhole (if b then owes_rst (left Closed time r) else r)
    go true = record { unopened = tt; ordered = whole.ordered }
    go false = whole

pub whole-delivered : (time : ℕ) (r : PlainRdp) → r.state ≡ Open → is_kept r.recv (r.recv.cur + 1) ≡ false → IsWhole r → IsWhole (delivering time r)
whole-delivered time r e none whole =
    whole-reset r.reset_at time (record r { recv = confirmed r.recv; owed = one_more_delivered time r.owed })
    (record { unopened = open-unopened r.state _ e; ordered = order-next r.recv.cur r.recv.kept none whole.ordered })

pub whole-again : (b : PlainBuffer) (r : PlainRdp) → r.state ≡ Open → is_kept r.recv (r.recv.cur + 1) ≡ false → IsWhole r → IsWhole (keeping_again b r)
whole-again b r e none whole = record {
  unopened = open-unopened r.state _ e;
  ordered = order-kept_with (r.recv.cur + 1) b r.recv.cur r.recv.kept (omega arith) none whole.ordered;
}

whole-less : (s : State) (r : PlainRdp) → IsWhole r → IsWhole (without_kept s r)
whole-less Open r whole = whole
whole-less SynSent r whole = record { unopened = unopened-drained r.state r.recv whole.unopened; ordered = order-first r.recv.cur r.recv.kept whole.ordered }
whole-less SynRcvd r whole = record { unopened = unopened-drained r.state r.recv whole.unopened; ordered = order-first r.recv.cur r.recv.kept whole.ordered }
whole-less CloseWait r whole = record { unopened = unopened-drained r.state r.recv whole.unopened; ordered = order-first r.recv.cur r.recv.kept whole.ordered }
whole-less Closed r whole = record { unopened = unopened-drained r.state r.recv whole.unopened; ordered = order-first r.recv.cur r.recv.kept whole.ordered }

pub whole-drained : (o : Option PlainBuffer) (r : PlainRdp) → IsWhole r → IsWhole (handing_out o r)
whole-drained (Some b) r whole = record { unopened = whole.unopened; ordered = whole.ordered }
whole-drained None r whole = whole-less r.state r whole

-- a window that is emptied
unopened-empty : (s : State) (w : PlainRecv) → IsUnopened s w → IsUnopened s (record w { kept = [] })
unopened-empty SynSent w un = (refl, un.1)
unopened-empty SynRcvd w un = (refl, un.1)
unopened-empty Open w un = tt
unopened-empty CloseWait w un = tt
unopened-empty Closed w un = tt

whole-useless : (s : State) (r : PlainRdp) → IsWhole r → IsWhole (record r { recv = recv_rested s r.recv })
whole-useless Open r whole = whole
whole-useless SynSent r whole = record { unopened = unopened-empty r.state r.recv whole.unopened; ordered = tt }
whole-useless SynRcvd r whole = record { unopened = unopened-empty r.state r.recv whole.unopened; ordered = tt }
whole-useless CloseWait r whole = record { unopened = unopened-empty r.state r.recv whole.unopened; ordered = tt }
whole-useless Closed r whole = record { unopened = unopened-empty r.state r.recv whole.unopened; ordered = tt }

pub whole-rested : (r : PlainRdp) → IsWhole r → IsWhole (rested r)
whole-rested r whole = let now = whole-useless r.state r whole in record { unopened = now.unopened; ordered = now.ordered }

pub whole-out : (ps : List Pending) (r : PlainRdp) → IsWhole r → IsWhole (taken_out_of ps r)
whole-out [] r whole = record { unopened = unopened-drained r.state r.recv whole.unopened; ordered = order-first r.recv.cur r.recv.kept whole.ordered }
whole-out (p ∷ ps) r whole = record { unopened = whole.unopened; ordered = whole.ordered }

-- ---- what is needed, and what is not

loose-count : (ps : List Pending) → length (filter is_loose ps) + length (filter (λ p. p.needed) ps) ≡ length ps
loose-count [] = refl
loose-count (p ∷ ps) = go p.needed (loose-count ps)
  where
    go : (b : Bool) → length (filter is_loose ps) + length (filter (λ p. p.needed) ps) ≡ length ps →
        length (cond (not b) (p ∷ filter is_loose ps) (filter is_loose ps)) + length (cond b (p ∷ filter (λ p. p.needed) ps) (filter (λ p. p.needed) ps)) ≡ length (p ∷ ps)
    go true rest = omega (arith, rest)
    go false rest = omega (arith, rest)

useless-count : (s : State) (w : PlainRecv) → length (useless_buffers s w) + length (recv_rested s w).kept ≡ length w.kept
useless-count Open w = omega arith
useless-count SynSent w = omega (arith, length-map w.kept (λ k. k.buffer))
useless-count SynRcvd w = omega (arith, length-map w.kept (λ k. k.buffer))
useless-count CloseWait w = omega (arith, length-map w.kept (λ k. k.buffer))
useless-count Closed w = omega (arith, length-map w.kept (λ k. k.buffer))

numbers-count : (r : PlainRdp) → length (rdp_numbers r) ≡ length r.send.packets + length r.recv.kept
numbers-count r =
    let a = length-append (send_numbers r.send) (recv_numbers r.recv) in
    let b = length-map r.send.packets (λ p. p.buffer.picture.number) in
    let d = length-map r.recv.kept (λ k. k.buffer.picture.number) in
    omega (arith, a, b, d)

unneeded-count : (r : PlainRdp) → length (unneeded r) ≡ length (filter is_loose r.send.packets) + length (useless_buffers r.state r.recv)
unneeded-count r =
    let a = length-append (loose_buffers r.send) (useless_buffers r.state r.recv) in
    let b = length-map (filter is_loose r.send.packets) (λ p. p.buffer) in
    omega (arith, a, b)

pub parted-balanced : (r : PlainRdp) → Balanced (map (λ b. b.picture.number) (unneeded r) ++ rdp_numbers (rested r)) (rdp_numbers r)
parted-balanced r = record {
  numbers = λ k. let a = times-append k (map (λ b. b.picture.number) (unneeded r)) (rdp_numbers (rested r)) in let b = parted-numbers k r in omega (arith, a, b);
  count =
      let a = length-append (map (λ b. b.picture.number) (unneeded r)) (rdp_numbers (rested r)) in
      let b = length-map (unneeded r) (λ b. b.picture.number) in
      let d = loose-count r.send.packets in
      let e = useless-count r.state r.recv in
      omega (arith, a, b, d, e, numbers-count r, numbers-count (rested r), unneeded-count r);
}

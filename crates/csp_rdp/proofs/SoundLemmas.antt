-- what holds of a connection's fields goes on to hold
use Rattle.std.proofs.Common.{◌≡◌, ℕ, ◌+◌, ◌-◌, ◌≤◌, Bool, true, false, not, cond, List, [], ◌∷◌, ◌++◌, length, drop, map, Option, Some, None, arith, ap, sym, ◌∙◌, refl}
use Rattle.std.specs.List.{find, list_any}
use Rattle.std.specs.Option.{option_map, option_map_or}
use Rattle.std.specs.Prelude.{◌==◌, ◌&&◌, if◌then◌else◌, is_some, IsSome, pos, unwrap_or}
use Rattle.std.proofs.lemmas.Bool.{eq-eqb}
use Rattle.csp_base.specs.declared.limits.TheConstants.{MAX_PAYLOAD}
use Rattle.csp_base.specs.Sequence.{number_of}
use Rattle.csp_base.specs.declared.sequence.Seq.{Seq}
use Rattle.csp_buffer.specs.PlainBuffer.{PlainBuffer}
use Rattle.csp_rdp_window.specs.Numbers.{with_payload}
use Rattle.csp_rdp_window.specs.Receiving.{PlainRecv, opening_recv, without_first}
use Rattle.csp_rdp_window.specs.Sending.{PlainSend, acked_at, admitted, due_index, fresh, list_heard, is_due, is_inside, listed, marked, needed_if, newest_of, packet_at, payload_at, with_mark, without_listed, without_loose}
use Rattle.csp_rdp_window.specs.declared.pending.Mark.{Mark}
use Rattle.csp_rdp_window.specs.declared.pending.Mark.TheVariants.{Acknowledged, Listed, Abandoned, Sent, Missed}
use Rattle.csp_rdp_window.specs.declared.pending.Pending.{Pending}
use Rattle.csp_rdp.specs.Machine.{PlainRdp}
use Rattle.csp_rdp.specs.Jobs.{filled, filled_with, headed}
use Rattle.csp_rdp.specs.declared.jobs.Job.TheVariants as job
use Rattle.csp_rdp.specs.Sound.{AreLoose, ArePacketsIn, AreShort, IsOver, IsUnopened}
use Rattle.csp_rdp.specs.declared.answers.State.{State}
use Rattle.csp_rdp.specs.declared.answers.State.TheVariants.{Closed, SynSent, SynRcvd, Open, CloseWait}

if-buffer : (b : Bool) (x y : Pending) → x.buffer ≡ y.buffer → (if b then x else y).buffer ≡ y.buffer
if-buffer true x y e = e
if-buffer false x y e = refl

-- a mark leaves the buffer
pub marked-buffer : (m : Mark) (p : Pending) → (marked m p).buffer ≡ p.buffer
marked-buffer (Acknowledged last) p = refl
marked-buffer (Listed index) p = refl
marked-buffer Abandoned p = refl
marked-buffer (Sent index time) p = if-buffer (p.index == index) _ p refl
marked-buffer (Missed newest time timeout) p = if-buffer _ _ p refl

pub AreShort-marked : (m : Mark) (ps : List Pending) → AreShort ps → AreShort (map (marked m) ps)
AreShort-marked m [] short = tt
AreShort-marked m (p ∷ ps) short = (rw (marked-buffer m p) short.0, AreShort-marked m ps short.1)

AreShort-listed : (ts : List ℕ) (ps : List Pending) → AreShort ps → AreShort (map (λ p. needed_if (not (list_any (λ t. t == p.index) ts)) p) ps)
AreShort-listed ts [] short = tt
AreShort-listed ts (p ∷ ps) short = (short.0, AreShort-listed ts ps short.1)

pub AreShort-heard : (ns : List Seq) (time timeout : ℕ) (w : PlainSend) → AreShort w.packets → AreShort (list_heard ns time timeout w).packets
AreShort-heard ns time timeout w short =
    AreShort-marked (Missed (newest_of (listed w ns)) time timeout) (without_listed (listed w ns) w).packets (AreShort-listed (listed w ns) w.packets short)

pub AreShort-acked : (o : Option ℕ) (w : PlainSend) → AreShort w.packets → AreShort (acked_at o w).packets
AreShort-acked None w short = short
AreShort-acked (Some t) w short = go (is_inside w t)
  where
    go : (b : Bool) → AreShort (if b then record (with_mark (Acknowledged t) w) { una = t + 1 } else w).packets
    go true = AreShort-marked (Acknowledged t) w.packets short
    go false = short

pub AreShort-admitted : (b : PlainBuffer) (w : PlainSend) → AreShort w.packets → length b.picture.payload ≤ MAX_PAYLOAD - 9 → AreShort (admitted b w).packets
AreShort-admitted b w short fits = go w.packets short
  where
    go : (ps : List Pending) → AreShort ps → AreShort (ps ++ fresh w.nxt b ∷ [])
    go [] s = (fits, tt)
    go (p ∷ ps) s = (s.0, go ps s.1)

pub AreShort-drained : (ps : List Pending) → AreShort ps → AreShort (without_loose ps)
AreShort-drained [] short = tt
AreShort-drained (p ∷ ps) short = go p.needed (AreShort-drained ps short.1)
  where
    go : (b : Bool) → AreShort (without_loose ps) → AreShort (if b then p ∷ without_loose ps else ps)
    go true rest = (short.0, rest)
    go false rest = short.1

-- a packet that is found is short
pub short-found : (test : Pending → Bool) (ps : List Pending) (p : Pending) → AreShort ps → find test ps ≡ Some p → length p.buffer.picture.payload ≤ MAX_PAYLOAD - 9
short-found test [] p short e = cc
short-found test (q ∷ ps) p short e = go (test q) short e (short-found test ps p short.1)
  where
    go : (b : Bool) → AreShort (q ∷ ps) → cond b (Some q) (find test ps) ≡ Some p → (find test ps ≡ Some p → length p.buffer.picture.payload ≤ MAX_PAYLOAD - 9) → length p.buffer.picture.payload ≤ MAX_PAYLOAD - 9
    go true s f rest = let same : q ≡ p = cc in rw (← same) s.0
    go false s f rest = rest f

-- a connection that is over keeps what it will
pub unopened-over : (state : State) (w : PlainRecv) → IsOver state → IsUnopened state w
unopened-over Closed w over = tt
unopened-over CloseWait w over = tt
unopened-over SynSent w over = absurd over
unopened-over SynRcvd w over = absurd over
unopened-over Open w over = absurd over

-- what is taken out of a window that has nothing is nothing
pub unopened-drained : (state : State) (w : PlainRecv) → IsUnopened state w → IsUnopened state (record w { kept = without_first w.kept })
unopened-drained SynSent w un = (ap without_first un.0, un.1)
unopened-drained SynRcvd w un = (ap without_first un.0, un.1)
unopened-drained Open w un = tt
unopened-drained CloseWait w un = tt
unopened-drained Closed w un = tt

-- the payload of any index is short
pub short-at : (w : PlainSend) (index : ℕ) → AreShort w.packets → length (payload_at w index) ≤ MAX_PAYLOAD - 9
short-at w index short = go (packet_at w index) refl
  where
    go : (o : Option Pending) → packet_at w index ≡ o → length (option_map_or (λ p. p.buffer.picture.payload) o []) ≤ MAX_PAYLOAD - 9
    go None e = omega arith
    go (Some p) e = short-found (λ p. p.index == index) w.packets p short e

-- an index that is due is that of a packet
there : (test : Pending → Bool) (ps : List Pending) (i : ℕ) → option_map (λ p. p.index) (find test ps) ≡ Some i → is_some (find (λ p. p.index == i) ps) ≡ true
there test [] i e = cc
there test (p ∷ ps) i e = go (test p) (p.index == i) refl e (there test ps i)
  where
    go : (b c : Bool) → (p.index == i) ≡ c → option_map (λ q. q.index) (cond b (Some p) (find test ps)) ≡ Some i →
        (option_map (λ q. q.index) (find test ps) ≡ Some i → is_some (find (λ q. q.index == i) ps) ≡ true) → is_some (cond c (Some p) (find (λ q. q.index == i) ps)) ≡ true
    go b true f e rest = refl
    go true false f e rest = let same : p.index ≡ i = cc in let test = eq-eqb p.index i same in cc
    go false false f e rest = rest e

pub due-there : (time timeout : ℕ) (w : PlainSend) (i : ℕ) → due_index time timeout w ≡ Some i → IsSome (packet_at w i)
due-there time timeout w i e = there (is_due time timeout) w.packets i e

-- an empty list has empty parts
pub first-empty : {A B : Type 0} (f : A → B) (xs : List A) (ys : List B) → map f xs ++ ys ≡ [] → xs ≡ []
first-empty f [] ys e = refl
first-empty f (x ∷ xs) ys e = cc

pub second-empty : {A B : Type 0} (f : A → B) (xs : List B) (ys : List A) → xs ++ map f ys ≡ [] → ys ≡ []
second-empty f [] [] e = refl
second-empty f (x ∷ xs) [] e = refl
second-empty f [] (y ∷ ys) e = cc
second-empty f (x ∷ xs) (y ∷ ys) e = cc

-- the packet of a data job
pub data-filled : (r : PlainRdp) (into : PlainBuffer) (time i : ℕ) → due_index time r.options.packet_timeout r.send ≡ Some i →
    headed (record { flags = 4; index = i; ack = r.recv.cur; bytes = payload_at r.send i })
    (record { flags = 4; seq = record { 0 = number_of r.send.start (pos i) }; ack = record { 0 = number_of r.recv.start (pos r.recv.cur) } })
    r (with_payload (payload_at r.send i) into)
    ≡ filled job.Data time r into
data-filled r into time i e =
    let at : ℕ → PlainBuffer = λ j. filled_with (record { flags = 4; index = j; ack = r.recv.cur; bytes = payload_at r.send j }) r into in
    ap (λ o. at (unwrap_or o 0)) (sym e)

-- before it is open
pub unopened-kept : (state : State) (w : PlainRecv) → state ≡ SynSent → IsUnopened state w → (w.kept ≡ []) × (w.cur ≡ 0)
unopened-kept SynSent w e un = un
unopened-kept SynRcvd w e un = cc
unopened-kept Open w e un = cc
unopened-kept CloseWait w e un = cc
unopened-kept Closed w e un = cc

pub unopened-opening : (state : State) (start window : ℕ) → IsUnopened state (opening_recv start window)
unopened-opening SynSent start window = (refl, refl)
unopened-opening SynRcvd start window = (refl, refl)
unopened-opening Open start window = tt
unopened-opening CloseWait start window = tt
unopened-opening Closed start window = tt

-- ---- the packets of the send window, by state

-- what is done to each packet makes none needed that was not
AreLoose-mapped : (f : Pending → Pending) (ps : List Pending) → ((p : Pending) → p.needed ≡ false → (f p).needed ≡ false) → AreLoose ps → AreLoose (map f ps)
AreLoose-mapped f [] keeps loose = tt
AreLoose-mapped f (p ∷ ps) keeps loose = (keeps p loose.0, AreLoose-mapped f ps keeps loose.1)

packets-mapped : (f : Pending → Pending) (state : State) (ps : List Pending) → ((p : Pending) → p.needed ≡ false → (f p).needed ≡ false) → ArePacketsIn state ps → ArePacketsIn state (map f ps)
packets-mapped f SynSent ps keeps in_ = ap (map f) in_
packets-mapped f SynRcvd ps keeps in_ = ap (map f) in_
packets-mapped f Open ps keeps in_ = tt
packets-mapped f CloseWait ps keeps in_ = AreLoose-mapped f ps keeps in_
packets-mapped f Closed ps keeps in_ = AreLoose-mapped f ps keeps in_

and-false : (a b : Bool) → a ≡ false → (a && b) ≡ false
and-false true b e = cc
and-false false b e = refl

if-needed : (b : Bool) (x y : Pending) → x.needed ≡ y.needed → (if b then x else y).needed ≡ y.needed
if-needed true x y e = e
if-needed false x y e = refl

marked-loose : (m : Mark) (p : Pending) → p.needed ≡ false → (marked m p).needed ≡ false
marked-loose (Acknowledged last) p e = and-false p.needed _ e
marked-loose (Listed index) p e = and-false p.needed _ e
marked-loose Abandoned p e = refl
marked-loose (Sent index time) p e = if-needed (p.index == index) _ p refl ∙ e
marked-loose (Missed newest time timeout) p e = if-needed _ _ p refl ∙ e

pub packets-marked : (m : Mark) (state : State) (ps : List Pending) → ArePacketsIn state ps → ArePacketsIn state (map (marked m) ps)
packets-marked m state ps in_ = packets-mapped (marked m) state ps (marked-loose m) in_

pub packets-heard : (state : State) (ns : List Seq) (time timeout : ℕ) (w : PlainSend) → ArePacketsIn state w.packets → ArePacketsIn state (list_heard ns time timeout w).packets
packets-heard state ns time timeout w in_ =
    let ts = listed w ns in
    packets-marked (Missed (newest_of ts) time timeout) state (without_listed ts w).packets
    (packets-mapped (λ p. needed_if (not (list_any (λ t. t == p.index) ts)) p) state w.packets (λ p e. and-false p.needed _ e) in_)

pub packets-acked : (state : State) (o : Option ℕ) (w : PlainSend) → ArePacketsIn state w.packets → ArePacketsIn state (acked_at o w).packets
packets-acked state None w in_ = in_
packets-acked state (Some t) w in_ = go (is_inside w t)
  where
    go : (b : Bool) → ArePacketsIn state (if b then record (with_mark (Acknowledged t) w) { una = t + 1 } else w).packets
    go true = packets-marked (Acknowledged t) state w.packets in_
    go false = in_

-- an abandoned packet is not needed
AreLoose-abandoned : (ps : List Pending) → AreLoose (map (marked Abandoned) ps)
AreLoose-abandoned [] = tt
AreLoose-abandoned (p ∷ ps) = (refl, AreLoose-abandoned ps)

pub packets-left : (state : State) (ps : List Pending) → IsOver state → ArePacketsIn state (map (marked Abandoned) ps)
packets-left Closed ps over = AreLoose-abandoned ps
packets-left CloseWait ps over = AreLoose-abandoned ps
packets-left SynSent ps over = absurd over
packets-left SynRcvd ps over = absurd over
packets-left Open ps over = absurd over

-- packets that are taken out leave the others
AreLoose-drained : (ps : List Pending) → AreLoose ps → AreLoose (without_loose ps)
AreLoose-drained [] loose = tt
AreLoose-drained (p ∷ ps) loose = go p.needed (AreLoose-drained ps loose.1)
  where
    go : (b : Bool) → AreLoose (without_loose ps) → AreLoose (if b then p ∷ without_loose ps else ps)
    go true rest = (loose.0, rest)
    go false rest = loose.1

pub packets-drained : (state : State) (ps : List Pending) → ArePacketsIn state ps → ArePacketsIn state (without_loose ps)
packets-drained SynSent ps in_ = ap without_loose in_
packets-drained SynRcvd ps in_ = ap without_loose in_
packets-drained Open ps in_ = tt
packets-drained CloseWait ps in_ = AreLoose-drained ps in_
packets-drained Closed ps in_ = AreLoose-drained ps in_

AreLoose-dropped : (ps : List Pending) → AreLoose ps → AreLoose (drop 1 ps)
AreLoose-dropped [] loose = tt
AreLoose-dropped (p ∷ ps) loose = loose.1

pub packets-dropped : (state : State) (ps : List Pending) → ArePacketsIn state ps → ArePacketsIn state (drop 1 ps)
packets-dropped SynSent ps in_ = ap (drop 1) in_
packets-dropped SynRcvd ps in_ = ap (drop 1) in_
packets-dropped Open ps in_ = tt
packets-dropped CloseWait ps in_ = AreLoose-dropped ps in_
packets-dropped Closed ps in_ = AreLoose-dropped ps in_

pub AreShort-dropped : (ps : List Pending) → AreShort ps → AreShort (drop 1 ps)
AreShort-dropped [] short = tt
AreShort-dropped (p ∷ ps) short = short.1

-- an open connection may have any
pub packets-open : (state : State) (ps : List Pending) → state ≡ Open → ArePacketsIn state ps
packets-open Open ps e = tt
packets-open SynSent ps e = cc
packets-open SynRcvd ps e = cc
packets-open CloseWait ps e = cc
packets-open Closed ps e = cc

-- and each may have none
pub packets-none : (state : State) → ArePacketsIn state []
packets-none SynSent = refl
packets-none SynRcvd = refl
packets-none Open = tt
packets-none CloseWait = tt
packets-none Closed = tt

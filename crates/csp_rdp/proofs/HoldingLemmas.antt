-- what a connection holds, and what it does not need any more
use Rattle.std.proofs.Common.{◌≡◌, ℕ, ◌+◌, Bool, true, false, not, cond, List, [], ◌∷◌, ◌++◌, length, map, Option, Some, None, arith, ap, sym, ◌∙◌, refl, append-nil}
use Rattle.std.specs.List.{filter, find}
use Rattle.std.specs.Option.{MatchOption, option_map}
use Rattle.std.specs.Prelude.{◌==◌, if◌then◌else◌}
use Rattle.std.proofs.lemmas.List.{length-append, length-map, map-append}
use Rattle.std.proofs.lemmas.List.Elements.{filter-append}
use Rattle.csp_buffer.specs.PlainBuffer.{PlainBuffer}
use Rattle.csp_rdp_window.specs.Numbers.{times}
use Rattle.csp_rdp_window.specs.Receiving.{Kept, PlainRecv}
use Rattle.csp_rdp_window.specs.Sending.{fresh, is_loose, loose_buffer, marked, without_loose}
use Rattle.csp_rdp_window.specs.declared.pending.Mark.TheVariants.{Sent}
use Rattle.csp_rdp_window.specs.declared.pending.Pending.{Pending}
use Rattle.csp_rdp.specs.Holding.{handing_out, loose_buffers, rdp_buffers, rdp_numbers, recv_rested, rested, unneeded, unneeded_in, unneeded_or, unneeded_buffer, useless_buffers, without_kept, without_unneeded}
use Rattle.csp_rdp.specs.Jobs.{admitting, keeping_again, sent, sending_index, taken_in}
use Rattle.csp_rdp.specs.Machine.{PlainRdp}
use Rattle.csp_rdp.specs.Sound.{AreLoose, ArePacketsIn, IsUnopened}
use Rattle.csp_rdp.specs.declared.answers.State.{State}
use Rattle.csp_rdp.specs.declared.answers.State.TheVariants.{Closed, SynSent, SynRcvd, Open, CloseWait}
use Rattle.csp_rdp.specs.declared.jobs.Job.{Job}
use Rattle.csp_rdp.specs.declared.jobs.Job.TheVariants as job
use Rattle.csp_rdp.proofs.CountLemmas.{times-append, times-cons}
use Rattle.csp_rdp.proofs.SoundLemmas.{first-empty}

-- the buffers of packets, and of what is kept
abbrev pub sending : List Pending → List PlainBuffer
sending ps = map (λ p. p.buffer) ps

abbrev pub keeping_ : List Kept → List PlainBuffer
keeping_ ks = map (λ k. k.buffer) ks

abbrev numbers : List PlainBuffer → List ℕ
numbers bs = map (λ b. b.picture.number) bs

-- the packets that are needed, and those that are not
abbrev needed_of : List Pending → List Pending
needed_of ps = filter (λ p. p.needed) ps

abbrev loose_of : List Pending → List Pending
loose_of ps = filter is_loose ps

-- the connection with other packets
abbrev with_packets : PlainRdp → List Pending → PlainRdp
with_packets r ps = record r { send = record r.send { packets = ps } }

right-empty : {A : Type 0} (xs ys : List A) → xs ++ ys ≡ [] → ys ≡ []
right-empty [] ys e = e
right-empty (x ∷ xs) ys e = cc

-- ---- packets that are not needed

-- a needed one before others
needed-cons : (p : Pending) (ps : List Pending) → p.needed ≡ true → needed_of (p ∷ ps) ≡ p ∷ needed_of ps
needed-cons p ps n = ap (λ b. cond b (p ∷ needed_of ps) (needed_of ps)) n

loose-cons : (p : Pending) (ps : List Pending) → p.needed ≡ true → loose_of (p ∷ ps) ≡ loose_of ps
loose-cons p ps n = ap (λ b. cond (not b) (p ∷ loose_of ps) (loose_of ps)) n

-- none is found: there is none
loose-none : (ps : List Pending) → find is_loose ps ≡ None → (loose_of ps ≡ []) × (needed_of ps ≡ ps)
loose-none [] e = (refl, refl)
loose-none (p ∷ ps) e = go p.needed e (loose-none ps)
  where
    go : (b : Bool) → cond (not b) (Some p) (find is_loose ps) ≡ None → (find is_loose ps ≡ None → (loose_of ps ≡ []) × (needed_of ps ≡ ps)) →
        (cond (not b) (p ∷ loose_of ps) (loose_of ps) ≡ []) × (cond b (p ∷ needed_of ps) (needed_of ps) ≡ p ∷ ps)
    go true f rest = let r = rest f in (r.0, ap (λ l. p ∷ l) r.1)
    go false f rest = cc

-- there is none: none is found
none-loose : (ps : List Pending) → loose_of ps ≡ [] → find is_loose ps ≡ None
none-loose [] e = refl
none-loose (p ∷ ps) e = go p.needed e (none-loose ps)
  where
    go : (b : Bool) → cond (not b) (p ∷ loose_of ps) (loose_of ps) ≡ [] → (loose_of ps ≡ [] → find is_loose ps ≡ None) → cond (not b) (Some p) (find is_loose ps) ≡ None
    go true f rest = rest f
    go false f rest = cc

-- one is found: it is the first, and the rest is that of the others
loose-some : (ps : List Pending) (q : Pending) → find is_loose ps ≡ Some q → (loose_of ps ≡ q ∷ loose_of (without_loose ps)) × (needed_of (without_loose ps) ≡ needed_of ps)
loose-some [] q e = cc
loose-some (p ∷ ps) q e = go p.needed refl e (loose-some ps q)
  where
    go : (b : Bool) → p.needed ≡ b → cond (not b) (Some p) (find is_loose ps) ≡ Some q →
        (find is_loose ps ≡ Some q → (loose_of ps ≡ q ∷ loose_of (without_loose ps)) × (needed_of (without_loose ps) ≡ needed_of ps)) →
        (cond (not b) (p ∷ loose_of ps) (loose_of ps) ≡ q ∷ loose_of (if b then p ∷ without_loose ps else ps)) × (needed_of (if b then p ∷ without_loose ps else ps) ≡ cond b (p ∷ needed_of ps) (needed_of ps))
    go true n f rest = let r = rest f in (r.0 ∙ ap (λ l. q ∷ l) (sym (loose-cons p (without_loose ps) n)), needed-cons p (without_loose ps) n ∙ ap (λ l. p ∷ l) r.1)
    go false n f rest = let same : p ≡ q = cc in (ap (λ x. x ∷ loose_of ps) same, refl)

-- the needed ones alone
needed-again : (ps : List Pending) → (loose_of (needed_of ps) ≡ []) × (needed_of (needed_of ps) ≡ needed_of ps)
needed-again [] = (refl, refl)
needed-again (p ∷ ps) = go p.needed refl (needed-again ps)
  where
    go : (b : Bool) → p.needed ≡ b → (loose_of (needed_of ps) ≡ []) × (needed_of (needed_of ps) ≡ needed_of ps) →
        (loose_of (cond b (p ∷ needed_of ps) (needed_of ps)) ≡ []) × (needed_of (cond b (p ∷ needed_of ps) (needed_of ps)) ≡ cond b (p ∷ needed_of ps) (needed_of ps))
    go true n rest = (loose-cons p (needed_of ps) n ∙ rest.0, needed-cons p (needed_of ps) n ∙ ap (λ l. p ∷ l) rest.1)
    go false n rest = rest

-- ---- what is handed out, one after the other

-- what the next answer is, and what it leaves
abbrev pub Drains : Option PlainBuffer → PlainRdp → PlainRdp → Type 0
Drains o r q = MatchOption o ((unneeded r ≡ []) × (rested r ≡ r) × (q ≡ r)) (λ b. (unneeded r ≡ b ∷ unneeded q) × (rested q ≡ rested r))

empty-part : (ps : List Pending) → find is_loose ps ≡ None → sending (loose_of ps) ++ [] ≡ []
empty-part ps e = ap (λ l. sending l ++ []) (loose-none ps e).0

next-part : (ps : List Pending) (b : PlainBuffer) (bs : List PlainBuffer) → find is_loose ps ≡ None → sending (loose_of ps) ++ b ∷ bs ≡ b ∷ (sending (loose_of ps) ++ bs)
next-part ps b bs e =
    let none = (loose-none ps e).0 in
    ap (λ l. sending l ++ b ∷ bs) none ∙ sym (ap (λ l. b ∷ (sending l ++ bs)) none)

same-part : (r : PlainRdp) → find is_loose r.send.packets ≡ None → with_packets r (needed_of r.send.packets) ≡ r
same-part r e = ap (with_packets r) (loose-none r.send.packets e).1

-- in this state and with this kept
abbrev at : State → List Kept → PlainRdp → PlainRdp
at s ks r = record r { state = s; recv = record r.recv { kept = ks } }

drains-kept : (s : State) (ks : List Kept) (r : PlainRdp) → find is_loose r.send.packets ≡ None → Drains (unneeded_in s (at s ks r)) (at s ks r) (without_kept s (at s ks r))
drains-kept Open ks r e = (empty-part r.send.packets e, same-part (at Open ks r) e, refl)
drains-kept SynSent [] r e = (empty-part r.send.packets e, same-part (at SynSent [] r) e, refl)
drains-kept SynSent (k ∷ ks) r e = (next-part r.send.packets k.buffer (keeping_ ks) e, refl)
drains-kept SynRcvd [] r e = (empty-part r.send.packets e, same-part (at SynRcvd [] r) e, refl)
drains-kept SynRcvd (k ∷ ks) r e = (next-part r.send.packets k.buffer (keeping_ ks) e, refl)
drains-kept CloseWait [] r e = (empty-part r.send.packets e, same-part (at CloseWait [] r) e, refl)
drains-kept CloseWait (k ∷ ks) r e = (next-part r.send.packets k.buffer (keeping_ ks) e, refl)
drains-kept Closed [] r e = (empty-part r.send.packets e, same-part (at Closed [] r) e, refl)
drains-kept Closed (k ∷ ks) r e = (next-part r.send.packets k.buffer (keeping_ ks) e, refl)

drains-found : (o : Option Pending) (r : PlainRdp) → find is_loose r.send.packets ≡ o →
    Drains (unneeded_or (option_map (λ p. p.buffer) o) r) r (handing_out (option_map (λ p. p.buffer) o) r)
drains-found None r e = drains-kept r.state r.recv.kept r e
drains-found (Some p) r e =
    let some = loose-some r.send.packets p e in
    let rest : List Pending → PlainRdp = λ ps. record (with_packets r ps) { recv = recv_rested r.state r.recv } in
    (ap (λ l. sending l ++ useless_buffers r.state r.recv) some.0, ap rest some.1)

pub drains : (r : PlainRdp) → Drains (unneeded_buffer r) r (without_unneeded r)
drains r = drains-found (find is_loose r.send.packets) r refl

-- ---- before it is open and once it is over, nothing else is held

over-loose : (ps : List Pending) (ks : List Kept) → AreLoose ps → sending (loose_of ps) ++ keeping_ ks ≡ [] → map (λ p. p.buffer.picture.number) ps ++ map (λ k. k.buffer.picture.number) ks ≡ []
over-loose [] [] loose e = refl
over-loose [] (k ∷ ks) loose e = cc
over-loose (p ∷ ps) ks loose e = absurd (go p.needed loose.0 e)
  where
    go : (b : Bool) → b ≡ false → sending (cond (not b) (p ∷ loose_of ps) (loose_of ps)) ++ keeping_ ks ≡ [] → ⊥
    go true n f = cc
    go false n f = cc

pub over-empty : (s : State) (ps : List Pending) (w : PlainRecv) → ArePacketsIn s ps → IsUnopened s w → (s ≡ Open → ⊥) →
    sending (loose_of ps) ++ useless_buffers s w ≡ [] → map (λ p. p.buffer.picture.number) ps ++ map (λ k. k.buffer.picture.number) w.kept ≡ []
over-empty SynSent ps w in_ un not_open e = rw (in_, un.0) refl
over-empty SynRcvd ps w in_ un not_open e = rw (in_, un.0) refl
over-empty Open ps w in_ un not_open e = absurd (not_open refl)
over-empty CloseWait ps w in_ un not_open e = over-loose ps w.kept in_ e
over-empty Closed ps w in_ un not_open e = over-loose ps w.kept in_ e

pub few-numbers : (ps : List Pending) (ks : List Kept) → length (map (λ p. p.buffer.picture.number) ps ++ map (λ k. k.buffer.picture.number) ks) ≡ length ps + length ks
few-numbers ps ks =
    let sent = length-map ps (λ p. p.buffer.picture.number) in
    let kept = length-map ks (λ k. k.buffer.picture.number) in
    let both = length-append (map (λ p. p.buffer.picture.number) ps) (map (λ k. k.buffer.picture.number) ks) in
    omega (arith, sent, kept, both)

-- ---- what stays without need

-- nothing is unneeded: no packet is loose, and nothing useless is kept
no-loose : (r : PlainRdp) → unneeded r ≡ [] → loose_of r.send.packets ≡ []
no-loose r e = first-empty (λ p. p.buffer) (loose_of r.send.packets) (useless_buffers r.state r.recv) e

no-useless : (r : PlainRdp) → unneeded r ≡ [] → useless_buffers r.state r.recv ≡ []
no-useless r e = right-empty (loose_buffers r.send) (useless_buffers r.state r.recv) e

pub drained-loose : (r : PlainRdp) → unneeded r ≡ [] → loose_buffer r.send ≡ None
drained-loose r e = ap (option_map (λ p. p.buffer)) (none-loose r.send.packets (no-loose r e))

still-kept : (s : State) (ks : List Kept) (r : PlainRdp) → find is_loose r.send.packets ≡ None → useless_buffers s (at s ks r).recv ≡ [] → rested (at s ks r) ≡ at s ks r
still-kept Open ks r e none = same-part (at Open ks r) e
still-kept SynSent [] r e none = same-part (at SynSent [] r) e
still-kept SynSent (k ∷ ks) r e none = cc
still-kept SynRcvd [] r e none = same-part (at SynRcvd [] r) e
still-kept SynRcvd (k ∷ ks) r e none = cc
still-kept CloseWait [] r e none = same-part (at CloseWait [] r) e
still-kept CloseWait (k ∷ ks) r e none = cc
still-kept Closed [] r e none = same-part (at Closed [] r) e
still-kept Closed (k ∷ ks) r e none = cc

-- what holds nothing without need is what it would be without that
pub rested-still : (r : PlainRdp) → unneeded r ≡ [] → rested r ≡ r
rested-still r e = still-kept r.state r.recv.kept r (none-loose r.send.packets (no-loose r e)) (no-useless r e)

useless-rested : (s : State) (w : PlainRecv) → useless_buffers s (recv_rested s w) ≡ []
useless-rested SynSent w = refl
useless-rested SynRcvd w = refl
useless-rested Open w = refl
useless-rested CloseWait w = refl
useless-rested Closed w = refl

rested-recv : (s : State) (w : PlainRecv) → recv_rested s (recv_rested s w) ≡ recv_rested s w
rested-recv SynSent w = refl
rested-recv SynRcvd w = refl
rested-recv Open w = refl
rested-recv CloseWait w = refl
rested-recv Closed w = refl

pub unneeded-rested : (r : PlainRdp) → unneeded (rested r) ≡ []
unneeded-rested r =
    ap (λ l. sending l ++ useless_buffers r.state (recv_rested r.state r.recv)) (needed-again r.send.packets).0 ∙ useless-rested r.state r.recv

pub rested-again : (r : PlainRdp) → rested (rested r) ≡ rested r
rested-again r =
    let of_packets : List Pending → PlainRdp = λ ps. record (with_packets r ps) { recv = recv_rested r.state (recv_rested r.state r.recv) } in
    let of_recv : PlainRecv → PlainRdp = λ w. record (with_packets r (needed_of r.send.packets)) { recv = w } in
    ap of_packets (needed-again r.send.packets).1 ∙ ap of_recv (rested-recv r.state r.recv)

-- a packet that is sent is needed as it was
same-needed : (b : Bool) (x y : Pending) → x.needed ≡ y.needed → (if b then x else y).needed ≡ y.needed
same-needed true x y e = e
same-needed false x y e = refl

loose-sent : (index time : ℕ) (ps : List Pending) → loose_of ps ≡ [] → loose_of (map (marked (Sent index time)) ps) ≡ []
loose-sent index time [] e = refl
loose-sent index time (p ∷ ps) e =
    let after = marked (Sent index time) p in
    go p.needed after.needed (same-needed (p.index == index) _ p refl) e (loose-sent index time ps)
  where
    go : (b c : Bool) → c ≡ b → cond (not b) (p ∷ loose_of ps) (loose_of ps) ≡ [] → (loose_of ps ≡ [] → loose_of (map (marked (Sent index time)) ps) ≡ []) →
        cond (not c) (marked (Sent index time) p ∷ loose_of (map (marked (Sent index time)) ps)) (loose_of (map (marked (Sent index time)) ps)) ≡ []
    go true true s f rest = rest f
    go true false s f rest = cc
    go false c s f rest = cc

pub unneeded-sent : (j : Job) (time : ℕ) (r : PlainRdp) → unneeded r ≡ [] → unneeded (sent j time r) ≡ []
unneeded-sent job.Rst time r e = e
unneeded-sent job.Syn time r e = e
unneeded-sent job.Deliver time r e = e
unneeded-sent job.Eak time r e = e
unneeded-sent job.Ack time r e = e
unneeded-sent job.Data time r e =
    ap (λ l. sending l ++ useless_buffers r.state r.recv) (loose-sent (sending_index time r) time r.send.packets (no-loose r e)) ∙ no-useless r e

pub unneeded-taken : (s : State) (r : PlainRdp) → unneeded (record r { state = s }) ≡ [] → unneeded (taken_in s (record r { state = s })) ≡ []
unneeded-taken SynSent r e = e
unneeded-taken SynRcvd r e = e
unneeded-taken Open r e = e
unneeded-taken CloseWait r e = e
unneeded-taken Closed r e = e

-- while it is open, nothing that is kept is useless
open-useless : (s : State) (v w : PlainRecv) → s ≡ Open → useless_buffers s v ≡ useless_buffers s w
open-useless Open v w e = refl
open-useless SynSent v w e = cc
open-useless SynRcvd v w e = cc
open-useless CloseWait v w e = cc
open-useless Closed v w e = cc

pub unneeded-kept : (b : PlainBuffer) (r : PlainRdp) → r.state ≡ Open → unneeded r ≡ [] → unneeded (keeping_again b r) ≡ []
unneeded-kept b r is_open e = ap (λ l. loose_buffers r.send ++ l) (open-useless r.state (keeping_again b r).recv r.recv is_open) ∙ e

pub unneeded-admitted : (b : PlainBuffer) (time : ℕ) (r : PlainRdp) → unneeded r ≡ [] → unneeded (admitting b time r) ≡ []
unneeded-admitted b time r e =
    let none : loose_of (r.send.packets ++ fresh r.send.nxt b ∷ []) ≡ [] =
    filter-append is_loose r.send.packets (fresh r.send.nxt b ∷ []) ∙ append-nil (loose_of r.send.packets) ∙ no-loose r e in
    ap (λ l. sending l ++ useless_buffers r.state r.recv) none ∙ no-useless r e

-- ---- its numbers

number-sent : (ps : List Pending) → numbers (sending ps) ≡ map (λ p. p.buffer.picture.number) ps
number-sent [] = refl
number-sent (p ∷ ps) = ap (λ l. p.buffer.picture.number ∷ l) (number-sent ps)

number-kept : (ks : List Kept) → numbers (keeping_ ks) ≡ map (λ k. k.buffer.picture.number) ks
number-kept [] = refl
number-kept (k ∷ ks) = ap (λ l. k.buffer.picture.number ∷ l) (number-kept ks)

pub numbers-buffers : (r : PlainRdp) → rdp_numbers r ≡ numbers (rdp_buffers r)
numbers-buffers r =
    let sent = number-sent r.send.packets in
    let kept = number-kept r.recv.kept in
    sym (map-append (λ b. b.picture.number) (sending r.send.packets) (keeping_ r.recv.kept)
    ∙ ap (λ l. l ++ numbers (keeping_ r.recv.kept)) sent
    ∙ ap (λ l. map (λ p. p.buffer.picture.number) r.send.packets ++ l) kept)

-- what is needed and what is not are all
parted-packets : (k : ℕ) (ps : List Pending) → times k (numbers (sending (loose_of ps))) + times k (map (λ p. p.buffer.picture.number) (needed_of ps)) ≡ times k (map (λ p. p.buffer.picture.number) ps)
parted-packets k [] = refl
parted-packets k (p ∷ ps) = go p.needed (parted-packets k ps)
  where
    go : (b : Bool) → times k (numbers (sending (loose_of ps))) + times k (map (λ p. p.buffer.picture.number) (needed_of ps)) ≡ times k (map (λ p. p.buffer.picture.number) ps) →
        times k (numbers (sending (cond (not b) (p ∷ loose_of ps) (loose_of ps)))) + times k (map (λ p. p.buffer.picture.number) (cond b (p ∷ needed_of ps) (needed_of ps)))
        ≡ times k (p.buffer.picture.number ∷ map (λ p. p.buffer.picture.number) ps)
    go true rest =
        let one = times-cons k p.buffer.picture.number (map (λ q. q.buffer.picture.number) (needed_of ps)) in
        let all = times-cons k p.buffer.picture.number (map (λ q. q.buffer.picture.number) ps) in
        omega (arith, one, all, rest)
    go false rest =
        let one = times-cons k p.buffer.picture.number (numbers (sending (loose_of ps))) in
        let all = times-cons k p.buffer.picture.number (map (λ q. q.buffer.picture.number) ps) in
        omega (arith, one, all, rest)

all-kept : (k : ℕ) (ks : List Kept) → times k (numbers (keeping_ ks)) + 0 ≡ times k (map (λ e. e.buffer.picture.number) ks)
all-kept k ks = let same = ap (times k) (number-kept ks) in omega (arith, same)

parted-kept : (k : ℕ) (s : State) (w : PlainRecv) →
    times k (numbers (useless_buffers s w)) + times k (map (λ e. e.buffer.picture.number) (recv_rested s w).kept) ≡ times k (map (λ e. e.buffer.picture.number) w.kept)
parted-kept k Open w = omega arith
parted-kept k SynSent w = all-kept k w.kept
parted-kept k SynRcvd w = all-kept k w.kept
parted-kept k CloseWait w = all-kept k w.kept
parted-kept k Closed w = all-kept k w.kept

pub parted-numbers : (k : ℕ) (r : PlainRdp) → times k (numbers (unneeded r)) + times k (rdp_numbers (rested r)) ≡ times k (rdp_numbers r)
parted-numbers k r =
    let packets = parted-packets k r.send.packets in
    let kept = parted-kept k r.state r.recv in
    let out = ap (times k) (map-append (λ b. b.picture.number) (loose_buffers r.send) (useless_buffers r.state r.recv)) in
    let out_parts = times-append k (numbers (loose_buffers r.send)) (numbers (useless_buffers r.state r.recv)) in
    let in_parts = times-append k (map (λ p. p.buffer.picture.number) (needed_of r.send.packets)) (map (λ e. e.buffer.picture.number) (recv_rested r.state r.recv).kept) in
    let parts = times-append k (map (λ p. p.buffer.picture.number) r.send.packets) (map (λ e. e.buffer.picture.number) r.recv.kept) in
    omega (arith, packets, kept, out, out_parts, in_parts, parts)

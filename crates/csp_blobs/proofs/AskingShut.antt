-- A reliable connection that was open and is so no more stays so, and nothing more is sent on it. Each step of a node's connections keeps that, once the
-- numbering names for its number a place that it has not: no other connection of the number can be made there.
use Rattle.std.proofs.Common.{◌≡◌, ◌≢◌, ℕ, ◌+◌, ◌<◌, Bool, true, false, Option, Some, None, List, refl, sym, ap, ◌∙◌, subst, arith}
use Rattle.csp_base.specs.declared.seat.Seat.{Seat}
use Rattle.csp_base.specs.declared.traces.Tag.{Tag}
use Rattle.csp_buffer.specs.PlainBuffer.{PlainBuffer}
use Rattle.csp_ports.specs.PlainPorts.{start_of}
use Rattle.csp_ports.specs.declared.flows.OwnFlows.{OwnFlows}
use Rattle.csp_prefix.proofs.Public.{hears-handed, IsEarly, opens-early, sender-kept, sends-over, Delivers, Hears, Ways, answers, delivers, delivers-both, delivers-open, enters, enters_keeping, goes-kept-again, goes-rested, goes-sent, keeps, moves, off, on, over, resets, ways-closing, ways-ticked, sender_not}
use Rattle.csp_prefix.specs.Machines.{IsOver, IsSender, SendsIn, WasOpened, whatever}
use Rattle.csp_prefix.specs.Slots.{Book, IsKept, Now, Numbering, after_delivering, after_opening, after_sending, blank, begun, waiting_for, with_machine}
use Rattle.csp_rdp.specs.Holding.{rested}
use Rattle.csp_rdp.specs.Jobs.{admitting, closing, delivering, keeping_again, sent, ticked, without_delivery}
use Rattle.csp_rdp.specs.Machine.{PlainRdp, accepting, connecting}
use Rattle.csp_rdp.specs.Table.{after_packet}
use Rattle.csp_rdp.specs.declared.answers.State.{State}
use Rattle.csp_rdp.specs.declared.answers.State.TheVariants.{Closed, CloseWait, Open, SynRcvd, SynSent}
use Rattle.csp_rdp_header.specs.declared.head.RdpHead.{RdpHead}
use Rattle.csp_rdp_window.specs.Receiving.{PlainRecv}

-- ---- a machine that is over

abbrev pub IsPast : State → Type 0
IsPast SynSent = ⊥
IsPast SynRcvd = ⊥
IsPast Open = ⊥
IsPast CloseWait = Unit {0}
IsPast Closed = Unit {0}

past_early : (s : State) → IsEarly s → IsPast s → ⊥
past_early SynSent early past = past
past_early SynRcvd early past = past
past_early Open early past = past
past_early CloseWait early past = early
past_early Closed early past = early

ways_nth : (a b : PlainRdp) → Ways a b → b.nth ≡ a.nth
ways_nth a b (on g) = g.own.nth
ways_nth a b (over g) = g.own.nth
ways_nth a b (off g) = g.own.nth

ways_past : (a b : PlainRdp) → Ways a b → IsPast a.state → IsPast b.state
ways_past a b (on g) past = subst IsPast (sym g.state_is) past
ways_past a b (over g) past = subst IsPast (sym g.state_is) tt
ways_past a b (off g) past = subst IsPast (sym g.state_is) tt

hears_nth : (h : RdpHead) (tag : Option Tag) (p : PlainBuffer) (a b : PlainRdp) → Hears h tag p a b → b.nth ≡ a.nth
hears_nth h tag p a b (moves w) = ways_nth a b w
hears_nth h tag p a b (keeps t e c g) = g.own.nth
hears_nth h tag p a b (answers e f g) = g.own.nth
hears_nth h tag p a b (enters e g) = g.own.nth
hears_nth h tag p a b (enters_keeping t e c g) = g.own.nth

hears_past : (h : RdpHead) (tag : Option Tag) (p : PlainBuffer) (a b : PlainRdp) → Hears h tag p a b → IsPast a.state → IsPast b.state
hears_past h tag p a b (moves w) past = ways_past a b w past
hears_past h tag p a b (keeps t e c g) past = absurd (subst IsPast e past)
hears_past h tag p a b (answers e f g) past = absurd (subst IsPast e past)
hears_past h tag p a b (enters e g) past = absurd (subst IsPast e past)
hears_past h tag p a b (enters_keeping t e c g) past = absurd (subst IsPast e past)

delivers_nth : (w : PlainRecv) (a b : PlainRdp) → Delivers w a b → b.nth ≡ a.nth
delivers_nth w a b (delivers g) = g.own.nth
delivers_nth w a b (resets g) = g.own.nth

-- ---- a connection that was open

unopened : (b : Book) (how : Option ℕ × Option (ℕ × ℕ)) → b ≡ blank → b.opened ≡ Some how → ⊥
unopened b how e is = let none : b.opened ≡ None = ap (λ (c : Book). c.opened) e in cc

-- one that the log tells to be open was opened so
pub was_opened : (o : OwnFlows) (m : Numbering) (s : Seat) (n : Now) (how : Option ℕ × Option (ℕ × ℕ)) → IsSender o m s n → n.book.opened ≡ Some how → WasOpened m s n
was_opened o m s n how i e = by n.machine.was_open refl (sends-over o m s n.machine.state n i)
  where
    by : (b : Bool) → n.machine.was_open ≡ b → IsOver m s n → WasOpened m s n
    by true q known = known.0 q
    by false q known = absurd (unopened n.book how (known.1 q).book e)

-- with this number
pub number_is : (o : OwnFlows) (m : Numbering) (s : Seat) (n : Now) (nth : ℕ) (peer : Option (ℕ × ℕ)) → IsSender o m s n → n.book.opened ≡ Some (Some nth, peer) → n.machine.nth ≡ nth
number_is o m s n nth peer i e =
    let both : ◌≡◌ {A = Option (Option ℕ × Option (ℕ × ℕ))} (Some (Some n.machine.nth, n.machine.peer)) (Some (Some nth, peer)) = sym (was_opened o m s n (Some nth, peer) i e).opened ∙ e in
    let pairs : ◌≡◌ {A = Option ℕ × Option (ℕ × ℕ)} (Some n.machine.nth, n.machine.peer) (Some nth, peer) = cc in
    let first : Some n.machine.nth ≡ Some nth = ap (λ h. h.0) pairs in
    cc

-- it is open, or over
pub open_or_past : (s : State) (o : OwnFlows) (m : Numbering) (seat : Seat) (n : Now) (how : Option ℕ × Option (ℕ × ℕ)) → SendsIn s o m seat n → n.book.opened ≡ Some how → s ≢ Open → IsPast s
open_or_past SynSent o m seat n how i e shut = absurd (unopened n.book how i.1.book e)
open_or_past SynRcvd o m seat n how i e shut = absurd (unopened n.book how i.1.book e)
open_or_past Open o m seat n how i e shut = absurd (shut refl)
open_or_past CloseWait o m seat n how i e shut = tt
open_or_past Closed o m seat n how i e shut = tt

-- ---- what is known of the connections of a node once this one is over

-- a place beside a connection's own
abbrev pub beside : Seat × ℕ → Seat × ℕ
beside place = (place.0, place.1 + 1)

-- it is over, and just this was sent on it
pub record IsShut (said : List (List ℕ)) (n : Now) : Type 0 where
  pub past : IsPast n.machine.state
  pub sent : n.book.sent ≡ said

-- a connection is as a sender is, by whatever numbering; and where the numbering names the place beside for this number, the connection of the number at the
-- place is over
pub record Keeps (o : OwnFlows) (place : Seat × ℕ) (nth : ℕ) (said : List (List ℕ)) (m : Numbering) (s : Seat) (n : Now) : Type 0 where
  pub other : Numbering
  pub sender : IsSender o other s n
  pub made : n.machine.nth ≡ nth → nth < m.made
  pub shut : m.home nth ≡ beside place → (s, n.ordinal) ≡ place → n.machine.nth ≡ nth → IsShut said n

module _ (o : OwnFlows) (place : Seat × ℕ) (nth : ℕ) (said : List (List ℕ)) where
  abbrev Is : Numbering → Seat → Now → Type 0
  Is = Keeps o place nth said

  goes : (m : Numbering) (s : Seat) (n k : Now) → k.machine.nth ≡ n.machine.nth → k.ordinal ≡ n.ordinal → ((other : Numbering) → IsSender o other s n → IsSender o other s k)
      → (IsShut said n → IsShut said k) → Is m s n → Is m s k
  goes m s n k number ordinal sends shuts i = record {
    other = i.other;
    sender = sends i.other i.sender;
    made = λ e. i.made (sym number ∙ e);
    shut = λ marked here e. shuts (i.shut marked (ap (λ x. (s, x)) (sym ordinal) ∙ here) (sym number ∙ e));
  }

  -- none is made beside its own place
  born : (m : Numbering) (s : Seat) (n : Now) → m.home m.made ≡ (s, n.ordinal) → n.machine.nth ≡ m.made → IsSender o (record m { made = m.made + 1 }) s n → Is (record m { made = m.made + 1 }) s n
  born m s n home number i = record {
    other = record m { made = m.made + 1 };
    sender = i;
    made = λ e. omega (arith, e, number);
    shut = λ marked here e.
        let same : place ≡ beside place = sym here ∙ sym home ∙ ap m.home (sym number ∙ e) ∙ marked in
        let last : place.1 ≡ place.1 + 1 = ap (λ (t : Seat × ℕ). t.1) same in
        absurd (omega (arith, last));
  }

  pub shut_kept : IsKept o whatever Is
  shut_kept = record {
    grows = λ m later s n g i. record {
      other = i.other;
      sender = i.sender;
      made = λ e. let more = g.more in let low = i.made e in omega (arith, more, low);
      shut = λ marked here e. i.shut (sym (g.same nth (i.made e)) ∙ marked) here e;
    };
    connects = λ m s ordinal time c flags home asked. born m s (begun c flags (connecting (start_of o.seed m.made) o.options o.node m.made time) ordinal) home refl ((sender-kept o).connects m s ordinal time c flags home asked);
    accepts = λ m s ordinal time c flags h tag options home syn invited. born m s (begun c flags (accepting (start_of o.seed m.made) options h.seq.0 tag o.node m.made time) ordinal) home refl
        ((sender-kept o).accepts m s ordinal time c flags h tag options home syn invited);
    early = λ m s n i e. (sender-kept o).early i.other s n i.sender e;
    never = λ m s n i e. (sender-kept o).never i.other s n i.sender e;
    rests = λ m s n i.
        let g = goes-rested n.machine in
        goes m s n (with_machine (rested n.machine) n) g.own.nth refl (λ other k. (sender-kept o).rests other s n k) (λ x. record { past = subst IsPast (sym g.state_is) x.past; sent = x.sent }) i;
    ticks = λ m s n time i.
        let w = ways-ticked time n.machine in
        goes m s n (with_machine (ticked time n.machine) n) (ways_nth n.machine (ticked time n.machine) w) refl (λ other k. (sender-kept o).ticks other s n time k)
        (λ x. record { past = ways_past n.machine (ticked time n.machine) w x.past; sent = x.sent }) i;
    closes = λ m s n time i.
        let w = ways-closing time n.machine in
        goes m s n (with_machine (closing time n.machine) n) (ways_nth n.machine (closing time n.machine) w) refl (λ other k. (sender-kept o).closes other s n time k)
        (λ x. record { past = ways_past n.machine (closing time n.machine) w x.past; sent = x.sent }) i;
    makes = λ m s n time j job i.
        let g = goes-sent j time n.machine in
        goes m s n (with_machine (sent j time n.machine) n) g.own.nth refl (λ other k. (sender-kept o).makes other s n time j job k)
        (λ x. record { past = subst IsPast (sym g.state_is) x.past; sent = x.sent }) i;
    hears = λ m s n h tag b time fed shut i.
        let w = hears-handed h tag b time n.machine in
        goes m s n (with_machine (after_packet h tag b time n.machine) n) (hears_nth h tag b n.machine (after_packet h tag b time n.machine) w) refl (λ other k. (sender-kept o).hears other s n h tag b time fed shut k)
        (λ x. record { past = hears_past h tag b n.machine (after_packet h tag b time n.machine) w x.past; sent = x.sent }) i;
    opens = λ m s n h tag b time fed opening i.
        let r = after_packet h tag b time n.machine in
        goes m s n (after_opening (with_machine r n)) (hears_nth h tag b n.machine r (hears-handed h tag b time n.machine)) refl (λ other k. (sender-kept o).opens other s n h tag b time fed opening k)
        (λ x. absurd (past_early n.machine.state (opens-early n.machine.state r.state opening) x.past)) i;
    admits = λ m s n b time is_open room waits i.
        goes m s n (after_sending b.picture.payload (with_machine (admitting b time n.machine) n)) refl refl (λ other k. (sender-kept o).admits other s n b time is_open room waits k)
        (λ x. absurd (subst IsPast is_open x.past)) i;
    delays = λ m s n payload is_open waits i.
        goes m s n (after_sending payload (waiting_for (Some payload) n)) refl refl (λ other k. (sender-kept o).delays other s n payload is_open waits k) (λ x. absurd (subst IsPast is_open x.past)) i;
    settles = λ m s n b time is_open room waits i.
        goes m s n (waiting_for None (with_machine (admitting b time n.machine) n)) refl refl (λ other k. (sender-kept o).settles other s n b time is_open room waits k)
        (λ x. absurd (subst IsPast is_open x.past)) i;
    drops = λ m s n shut i. goes m s n (waiting_for None n) refl refl (λ other k. (sender-kept o).drops other s n shut k) (λ x. record { past = x.past; sent = x.sent }) i;
    delivers = λ m s n b time e i.
        let is_open = delivers-open n.machine.state n.machine b e in
        goes m s n (after_delivering b.picture.payload (with_machine (delivering time (without_delivery n.machine)) n)) (delivers_nth _ n.machine _ (delivers-both time n.machine is_open)) refl
        (λ other k. (sender-kept o).delivers other s n b time e k) (λ x. absurd (subst IsPast is_open x.past)) i;
    keeps = λ m s n b c e same i.
        let is_open = delivers-open n.machine.state n.machine b e in
        goes m s n (with_machine (keeping_again c (without_delivery n.machine)) n) (goes-kept-again c n.machine is_open).own.nth refl (λ other k. (sender-kept o).keeps other s n b c e same k)
        (λ x. absurd (subst IsPast is_open x.past)) i;
  }

  pub shut_not_plain : (m : Numbering) (s : Seat) (n : Now) → Is m s n → n.book.opened ≡ Some (None, None) → ⊥
  shut_not_plain m s n i e = sender_not n.machine.state o i.other s n i.sender e

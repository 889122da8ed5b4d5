-- How the machine of a reliable connection goes on: a machine with the number of one that was found earlier has delivered no less, and past the opening has the same peer.
use Rattle.std.proofs.Common.{◌≡◌, ℕ, ◌+◌, ◌<◌, ◌≤◌, refl, sym, ap, ◌∙◌, arith, Option}
use Rattle.std.specs.Prelude.{◌≢◌}
use Rattle.csp_base.specs.Seat.{seat}
use Rattle.csp_base.specs.declared.seat.Seat.{Seat}
use Rattle.csp_base.specs.declared.traces.Tag.{Tag}
use Rattle.csp_buffer.specs.PlainBuffer.{PlainBuffer}
use Rattle.csp_ports.specs.declared.flows.OwnFlows.{OwnFlows}
use Rattle.csp_rdp_header.specs.declared.head.RdpHead.{RdpHead}
use Rattle.csp_rdp_window.specs.Receiving.{PlainRecv, confirmed, with_kept, without_next}
use Rattle.csp_rdp.specs.Holding.{recv_rested, rested}
use Rattle.csp_rdp.specs.Jobs.{admitting, closing, delivering, keeping_again, sent, ticked, without_delivery}
use Rattle.csp_rdp.specs.Machine.{PlainRdp}
use Rattle.csp_rdp.specs.Table.{after_packet}
use Rattle.csp_rdp.specs.declared.answers.State.{State}
use Rattle.csp_rdp.specs.declared.answers.State.TheVariants.{Closed, SynSent, SynRcvd, Open, CloseWait}
use Rattle.csp_prefix.specs.Machines.{whatever}
use Rattle.csp_prefix.specs.Slots.{GoesOn, IsKept, Now, Numbering}
use Rattle.csp_prefix.proofs.Public.{hears-handed, Delivers, Goes, Hears, Ways, answers, delivers, delivers-both, delivers-open, enters, enters_keeping, goes-kept-again, goes-rested, goes-sent, keeps, moves, off, on, over, resets, ways-closing, ways-ticked}

-- ---- steps

-- a step delivers no less and leaves the peer, and what is opening then was so with as much delivered; or it answers the opening packet
pub data Advances (a b : PlainRdp) : Type 0 where
  along : b.nth ≡ a.nth → a.recv.cur ≤ b.recv.cur → b.peer ≡ a.peer → (b.state ≡ SynSent → (a.state ≡ SynSent) × (b.recv.cur ≡ a.recv.cur)) → Advances a b
  begins : b.nth ≡ a.nth → a.state ≡ SynSent → b.state ≡ Open → Advances a b

advances-goes : (s : State) (w : PlainRecv) (a b : PlainRdp) → a.recv.cur ≤ w.cur → (s ≡ SynSent → (a.state ≡ SynSent) × (w.cur ≡ a.recv.cur)) → Goes s w a b → Advances a b
advances-goes s w a b le early g =
    let reached : b.recv.cur ≡ w.cur = ap (λ (v : PlainRecv). v.cur) g.recv_is in
    along g.own.nth (omega (arith, le, reached)) g.peer (λ e. let was = early (sym g.state_is ∙ e) in (was.0, reached ∙ was.1))

-- in another state than that of the opening
advances-past : (s : State) (w : PlainRecv) (a b : PlainRdp) → a.recv.cur ≤ w.cur → (s ≡ SynSent → ⊥) → Goes s w a b → Advances a b
advances-past s w a b le past g = advances-goes s w a b le (λ e. absurd (past e)) g

advances-same : (w : PlainRecv) (a b : PlainRdp) → w.cur ≡ a.recv.cur → Goes a.state w a b → Advances a b
advances-same w a b same g = advances-goes a.state w a b (omega (arith, same)) (λ e. (e, same)) g

closed-past : Closed ≡ SynSent → ⊥
closed-past e = cc

waiting-past : CloseWait ≡ SynSent → ⊥
waiting-past e = cc

open-past : Open ≡ SynSent → ⊥
open-past e = cc

advances-ways : (a b : PlainRdp) → Ways a b → Advances a b
advances-ways a b (on g) = advances-same a.recv a b refl g
advances-ways a b (over g) = advances-past Closed a.recv a b (omega arith) closed-past g
advances-ways a b (off g) = advances-past CloseWait a.recv a b (omega arith) waiting-past g

advances-heard : (h : RdpHead) (tag : Option Tag) (p : PlainBuffer) (a b : PlainRdp) → Hears h tag p a b → Advances a b
advances-heard h tag p a b (moves w) = advances-ways a b w
advances-heard h tag p a b (keeps t e c g) = advances-past Open (with_kept t p a.recv) a b (omega arith) open-past g
advances-heard h tag p a b (answers e f g) = begins g.own.nth e g.state_is
advances-heard h tag p a b (enters e g) =
    let reached : b.recv.cur ≡ a.recv.cur = ap (λ (v : PlainRecv). v.cur) g.recv_is in
    along g.own.nth (omega (arith, reached)) g.peer_is (λ f. absurd (open-past (sym g.state_is ∙ f)))
advances-heard h tag p a b (enters_keeping t e c g) =
    let reached : b.recv.cur ≡ a.recv.cur = ap (λ (v : PlainRecv). v.cur) g.recv_is in
    along g.own.nth (omega (arith, reached)) g.peer_is (λ f. absurd (open-past (sym g.state_is ∙ f)))

advances-delivers : (w : PlainRecv) (a b : PlainRdp) → a.recv.cur ≤ w.cur → Delivers w a b → Advances a b
advances-delivers w a b le (delivers g) = advances-past Open w a b le open-past g
advances-delivers w a b le (resets g) = advances-past Closed w a b le closed-past g

rested-cur : (s : State) (w : PlainRecv) → (recv_rested s w).cur ≡ w.cur
rested-cur SynSent w = refl
rested-cur SynRcvd w = refl
rested-cur Open w = refl
rested-cur CloseWait w = refl
rested-cur Closed w = refl

advances-admitting : (b : PlainBuffer) (time : ℕ) (r : PlainRdp) → Advances r (admitting b time r)
advances-admitting b time r = along refl (omega arith) refl (λ e. (e, refl))

-- ---- what is kept by these steps is kept beside what else is known

-- what is known of a machine, at its seat, with the ordinal of its connection
abbrev pub OfMachine : Type 1
OfMachine = Numbering → Seat → PlainRdp → ℕ → Type 0

-- other connections are made; it is born, with nothing delivered; it goes on
pub record IsSteady (P : OfMachine) : Type 0 where
  pub grows : (m later : Numbering) (s : Seat) (r : PlainRdp) (ordinal : ℕ) → GoesOn m later → P m s r ordinal → P later s r ordinal
  pub born : (m : Numbering) (s : Seat) (r : PlainRdp) (ordinal : ℕ) → m.home m.made ≡ (s, ordinal) → r.nth ≡ m.made → r.recv.cur ≡ 0 → P (record m { made = m.made + 1 }) s r ordinal
  pub steps : (m : Numbering) (s : Seat) (a b : PlainRdp) (ordinal : ℕ) → Advances a b → P m s a ordinal → P m s b ordinal

pub steady-kept : (o : OwnFlows) (Is : Numbering → Seat → Now → Type 0) (P : OfMachine) → IsSteady P → IsKept o whatever Is → IsKept o whatever (λ m seat n. Is m seat n × P m seat n.machine n.ordinal)
steady-kept o Is P s k = record {
  grows = λ m later seat n g i. (k.grows m later seat n g i.0, s.grows m later seat n.machine n.ordinal g i.1);
  connects = λ m seat ordinal time c flags home asked. (k.connects m seat ordinal time c flags home asked, s.born m seat _ ordinal home refl refl);
  accepts = λ m seat ordinal time c flags h tag options home syn invited. (k.accepts m seat ordinal time c flags h tag options home syn invited, s.born m seat _ ordinal home refl refl);
  early = λ m seat n i e. k.early m seat n i.0 e;
  never = λ m seat n i e. k.never m seat n i.0 e;
  rests = λ m seat n i. (
    k.rests m seat n i.0,
    s.steps m seat n.machine (rested n.machine) n.ordinal (advances-same (recv_rested n.machine.state n.machine.recv) n.machine (rested n.machine) (rested-cur n.machine.state n.machine.recv) (goes-rested n.machine)) i.1,
  );
  ticks = λ m seat n time i. (k.ticks m seat n time i.0, s.steps m seat n.machine (ticked time n.machine) n.ordinal (advances-ways n.machine (ticked time n.machine) (ways-ticked time n.machine)) i.1);
  closes = λ m seat n time i. (k.closes m seat n time i.0, s.steps m seat n.machine (closing time n.machine) n.ordinal (advances-ways n.machine (closing time n.machine) (ways-closing time n.machine)) i.1);
  makes = λ m seat n time j job i. (
    k.makes m seat n time j job i.0,
    s.steps m seat n.machine (sent j time n.machine) n.ordinal (advances-same n.machine.recv n.machine (sent j time n.machine) refl (goes-sent j time n.machine)) i.1,
  );
  hears = λ m seat n h tag b time fed shut i. (
    k.hears m seat n h tag b time fed shut i.0,
    s.steps m seat n.machine (after_packet h tag b time n.machine) n.ordinal (advances-heard h tag b n.machine (after_packet h tag b time n.machine) (hears-handed h tag b time n.machine)) i.1,
  );
  opens = λ m seat n h tag b time fed opening i. (
    k.opens m seat n h tag b time fed opening i.0,
    s.steps m seat n.machine (after_packet h tag b time n.machine) n.ordinal (advances-heard h tag b n.machine (after_packet h tag b time n.machine) (hears-handed h tag b time n.machine)) i.1,
  );
  admits = λ m seat n b time is_open room waits i. (k.admits m seat n b time is_open room waits i.0, s.steps m seat n.machine (admitting b time n.machine) n.ordinal (advances-admitting b time n.machine) i.1);
  delays = λ m seat n payload is_open waits i. (k.delays m seat n payload is_open waits i.0, i.1);
  settles = λ m seat n b time is_open room waits i. (k.settles m seat n b time is_open room waits i.0, s.steps m seat n.machine (admitting b time n.machine) n.ordinal (advances-admitting b time n.machine) i.1);
  drops = λ m seat n shut i. (k.drops m seat n shut i.0, i.1);
  delivers = λ m seat n b time e i.
      let is_open = delivers-open n.machine.state n.machine b e in (
        k.delivers m seat n b time e i.0,
        s.steps m seat n.machine (delivering time (without_delivery n.machine)) n.ordinal (advances-delivers (confirmed (without_next n.machine.recv)) n.machine _ (omega arith) (delivers-both time n.machine is_open)) i.1,
      );
  keeps = λ m seat n b c e same i.
      let is_open = delivers-open n.machine.state n.machine b e in (
        k.keeps m seat n b c e same i.0,
        s.steps m seat n.machine (keeping_again c (without_delivery n.machine)) n.ordinal
            (advances-past Open (with_kept (n.machine.recv.cur + 1) c (without_next n.machine.recv)) n.machine _ (omega arith) open-past (goes-kept-again c n.machine is_open)) i.1,
      );
}

-- ---- each connection at home

-- it has its number, at home where it is; and nothing is delivered while it opens
pub record IsHomed (m : Numbering) (s : Seat) (r : PlainRdp) (ordinal : ℕ) : Type 0 where
  pub made : r.nth < m.made
  pub home : m.home r.nth ≡ (s, ordinal)
  pub early : r.state ≡ SynSent → r.recv.cur ≡ 0

early-on : (a b : PlainRdp) → Advances a b → (a.state ≡ SynSent → a.recv.cur ≡ 0) → b.state ≡ SynSent → b.recv.cur ≡ 0
early-on a b (along nth le peer was) early e = let q = was e in q.1 ∙ early q.0
early-on a b (begins nth was now) early e = absurd (open-past (sym now ∙ e))

number-on : (a b : PlainRdp) → Advances a b → b.nth ≡ a.nth
number-on a b (along nth le peer was) = nth
number-on a b (begins nth was now) = nth

pub homed-steady : IsSteady IsHomed
homed-steady = record {
  grows = λ m later s r ordinal g i. record { made = let more = g.more in let low = i.made in omega (arith, more, low); home = g.same r.nth i.made ∙ i.home; early = i.early };
  born = λ m s r ordinal home nth cur. record { made = omega (arith, nth); home = ap m.home nth ∙ home; early = λ e. cur };
  steps = λ m s a b ordinal w i.
      let same = number-on a b w in
      record { made = let low = i.made in omega (arith, same, low); home = ap m.home same ∙ i.home; early = early-on a b w i.early };
}

-- ---- one that was found earlier goes on

-- it has delivered no less, with the same peer past the opening; and while it opens it is as it was
pub record Follows (old r : PlainRdp) : Type 0 where
  pub more : old.recv.cur ≤ r.recv.cur
  pub peer : old.state ≢ SynSent → r.peer ≡ old.peer
  pub early : r.state ≡ SynSent → (old.state ≡ SynSent) × (old.recv.cur ≡ 0)

follows-on : (old a b : PlainRdp) → Advances a b → Follows old a → Follows old b
follows-on old a b (along nth le peer was) i = record {
  more = let more = i.more in omega (arith, more, le);
  peer = λ past. peer ∙ i.peer past;
  early = λ e. i.early (was e).0;
}
follows-on old a b (begins nth was now) i =
    let early = i.early was in
    let none = early.1 in
    record {
      more = omega (arith, none);
      peer = λ past. absurd (past early.0);
      early = λ e. absurd (open-past (sym now ∙ e));
    }

-- the numbers that were made before are marked by a home that no slot is; where the number is that of the old machine, this one goes on from it
pub record IsPast (apps : ℕ) (old : PlainRdp) (m : Numbering) (s : Seat) (r : PlainRdp) (ordinal : ℕ) : Type 0 where
  pub made : r.nth < m.made
  pub follows : s.app < apps → m.home r.nth ≡ (seat apps 0, 0) → r.nth ≡ old.nth → Follows old r

born-here : (apps : ℕ) (s : Seat) (ordinal : ℕ) → s.app < apps → ◌≡◌ {A = Seat × ℕ} (s, ordinal) (seat apps 0, 0) → ⊥
born-here apps s ordinal few e = let same : s.app ≡ apps = ap (λ t. t.0.app) e in absurd (omega (arith, same, few))

pub past-steady : (apps : ℕ) (old : PlainRdp) → IsSteady (IsPast apps old)
past-steady apps old = record {
  grows = λ m later s r ordinal g i. record {
    made = let more = g.more in let low = i.made in omega (arith, more, low);
    follows = λ few marked same. i.follows few (sym (g.same r.nth i.made) ∙ marked) same;
  };
  born = λ m s r ordinal home nth cur. record {
    made = omega (arith, nth);
    follows = λ few marked same. absurd (born-here apps s ordinal few (sym home ∙ sym (ap m.home nth) ∙ marked));
  };
  steps = λ m s a b ordinal w i.
      let number = number-on a b w in
      record {
        made = let low = i.made in omega (arith, number, low);
        follows = λ few marked same. follows-on old a b w (i.follows few (sym (ap m.home number) ∙ marked) (sym number ∙ same));
      };
}

-- ---- what is known wherever its home is

pub anywhere-kept : (o : OwnFlows) (Is : Numbering → Seat → Now → Type 0) → IsKept o whatever Is → IsKept o whatever (λ m s n. (home : ℕ → Seat × ℕ) × Is (record { made = m.made; home = home }) s n)
anywhere-kept o Is k = record {
  grows = λ m later s n g i. (i.0, k.grows (record { made = m.made; home = i.0 }) (record { made = later.made; home = i.0 }) s n (record { more = g.more; same = λ number lt. refl }) i.1);
  connects = λ m s ordinal time c flags home asked. (m.home, k.connects m s ordinal time c flags home asked);
  accepts = λ m s ordinal time c flags h tag options home syn invited. (m.home, k.accepts m s ordinal time c flags h tag options home syn invited);
  early = λ m s n i e. k.early (record { made = m.made; home = i.0 }) s n i.1 e;
  never = λ m s n i e. k.never (record { made = m.made; home = i.0 }) s n i.1 e;
  rests = λ m s n i. (i.0, k.rests (record { made = m.made; home = i.0 }) s n i.1);
  ticks = λ m s n time i. (i.0, k.ticks (record { made = m.made; home = i.0 }) s n time i.1);
  closes = λ m s n time i. (i.0, k.closes (record { made = m.made; home = i.0 }) s n time i.1);
  makes = λ m s n time j job i. (i.0, k.makes (record { made = m.made; home = i.0 }) s n time j job i.1);
  hears = λ m s n h tag b time fed shut i. (i.0, k.hears (record { made = m.made; home = i.0 }) s n h tag b time fed shut i.1);
  opens = λ m s n h tag b time fed opening i. (i.0, k.opens (record { made = m.made; home = i.0 }) s n h tag b time fed opening i.1);
  admits = λ m s n b time is_open room waits i. (i.0, k.admits (record { made = m.made; home = i.0 }) s n b time is_open room waits i.1);
  delays = λ m s n payload is_open waits i. (i.0, k.delays (record { made = m.made; home = i.0 }) s n payload is_open waits i.1);
  settles = λ m s n b time is_open room waits i. (i.0, k.settles (record { made = m.made; home = i.0 }) s n b time is_open room waits i.1);
  drops = λ m s n shut i. (i.0, k.drops (record { made = m.made; home = i.0 }) s n shut i.1);
  delivers = λ m s n b time e i. (i.0, k.delivers (record { made = m.made; home = i.0 }) s n b time e i.1);
  keeps = λ m s n b c e same i. (i.0, k.keeps (record { made = m.made; home = i.0 }) s n b c e same i.1);
}

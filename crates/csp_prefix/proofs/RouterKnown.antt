-- What is known of a router's connections alone, whatever comes to it and goes out: that it may be told by another numbering, and that it holds after a turn.
use Rattle.std.proofs.Common.{◌≡◌, ℕ, ◌<◌, Bool, true, false, Option, Some, None, refl, sym, ◌∙◌, arith}
use Rattle.std.specs.Prelude.{⊤}
use Rattle.csp_base.specs.declared.seat.Seat.{Seat}
use Rattle.csp_conn.specs.PlainConns.{slot_at}
use Rattle.csp_base.specs.declared.limits.TheConstants.{SLOTS}
use Rattle.csp_conn.specs.declared.slot.Slot.{Slot}
use Rattle.csp_conn.specs.declared.slot.Slot.TheVariants as has
use Rattle.csp_log.specs.Pictures.{Fits}
use Rattle.csp_log.specs.declared.event.Event.{Event}
use Rattle.csp_log.specs.declared.places.QueueId.TheVariants as queue
use Rattle.csp_log.specs.declared.shown.AnswerShown.{AnswerShown}
use Rattle.csp_log.specs.declared.shown.AnswerShown.TheVariants as answer
use Rattle.csp_log.specs.declared.shown.ItemShown.TheVariants as item
use Rattle.csp_log.specs.declared.shown.OpShown.{OpShown}
use Rattle.csp_log.specs.declared.shown.OpShown.TheVariants as op
use Rattle.csp_ports.specs.Asking.{is_reliable}
use Rattle.csp_ports.specs.PlainPorts.{PlainPorts, terms_at}
use Rattle.csp_ports.specs.declared.terms.Terms.{Terms}
use Rattle.csp_scene.proofs.Public.{AllByRecursion-map}
use Rattle.csp_stack.specs.Router.{Facts, Leaving, State, at_rest, flows_of}
use Rattle.csp_stack.specs.Told.{Told}
use Rattle.csp_stack.specs.Turn.{asked_at, until_answer, asks_at, plan_of, timed, told_at, turn_of}
use Rattle.csp_prefix.specs.Machines.{whatever}
use Rattle.csp_prefix.specs.Ports.{AreGood, Books, IsInUse, IsSlot, Ordinals, now_at}
use Rattle.csp_prefix.specs.Routers.{ComesSo}
use Rattle.csp_prefix.specs.Slots.{IsKept, Now, Numbering}
use Rattle.csp_prefix.proofs.PacketLists.{each_any}
use Rattle.csp_prefix.proofs.PortKept.{ports_kept}
use Rattle.csp_prefix.proofs.RouterBooks.{IsTold, Past, past_after}
use Rattle.csp_prefix.proofs.RouterStanding.{Aim, IsAim, Stands}
use Rattle.csp_prefix.proofs.RouterTrue.{part_all}
use Rattle.csp_prefix.proofs.RouterTurn.{HearsSo, turn_plan}

-- whatever comes and goes, this is known of the connections
abbrev pub known_aim : (Numbering → Seat → Now → Type 0) → Aim
known_aim Is = record {
  is = Is;
  coming = whatever;
  over = λ m app x down. ⊤;
  good = λ b. ⊤;
  hears = λ b. ⊤;
  comes = λ i. ⊤;
  fresh = λ e. ⊤;
  at = λ r. ⊤;
}

pub known_is_aim : (Is : Numbering → Seat → Now → Type 0) (f : Facts) (whole : Past) → IsKept (flows_of f) whatever Is → ((m : Numbering) (seat : Seat) (n : Now) → Is m seat n → n.book.opened ≡ Some (None, None) → ⊥) → IsAim (known_aim Is) f whole
known_is_aim Is f whole kept never = record {
  ports = ports_kept (flows_of f) whatever Is kept;
  ended = λ m seat n how is e. tt;
  plain = λ m seat ordinal down. tt;
  grows = λ m m' app x down on over. tt;
  never_plain = never;
  unmarked = λ mark b e none comes. tt;
  unreliable = λ b none plain. tt;
  wishes = λ p r comes reliable own chosen. tt;
  makes = λ h m books p seat time j b c part tells o there is found job. tt;
  feeds = λ b payload r read heard known fresh. tt;
  asks = λ b payload read heard known syn. tt;
}

-- where one thing is known of each connection by a numbering, another is known by another numbering
in_use_map : (Is Js : Numbering → Seat → Now → Type 0) (reliable : Bool) (m m' : Numbering) (seat : Seat) (n : Now) → (Is m seat n → Js m' seat n) → IsInUse Is reliable m seat n → IsInUse Js reliable m' seat n
in_use_map Is Js true m m' seat n more is = more is
in_use_map Is Js false m m' seat n more is = record { machine = is.machine; waits = is.waits; opened = is.opened }

slot_map : (Is Js : Numbering → Seat → Now → Type 0) (s : Slot) (t : Terms) (m m' : Numbering) (seat : Seat) (n : Now) → (Is m seat n → Js m' seat n) → IsSlot Is s t m seat n → IsSlot Js s t m' seat n
slot_map Is Js has.Free t m m' seat n more is = is
slot_map Is Js has.Held t m m' seat n more is = is
slot_map Is Js (has.Open c) t m m' seat n more is = in_use_map Is Js (is_reliable t.flags) m m' seat n more is

module _ (Is Js : Numbering → Seat → Now → Type 0) (m m' : Numbering) (ordinals : Ordinals) (books : Books) (p : PlainPorts) where
  good_map : m'.made ≡ m.made → ((seat : Seat) → seat.app < p.conns.apps → seat.slot < SLOTS → Is m seat (now_at p books seat) → Js m' seat (now_at p books seat)) → AreGood Is m ordinals books p → AreGood Js m' ordinals books p
  good_map same more good = record {
    few = good.few;
    conns = good.conns;
    states = good.states;
    made = good.made ∙ sym same;
    owners = good.owners;
    owed = good.owed;
    counted = good.counted;
    waits = good.waits;
    ends = good.ends;
    over = good.over;
    slots = λ seat few low. slot_map Is Js (slot_at p.conns seat) (terms_at p seat) m m' seat (now_at p books seat) (more seat few low) (good.slots seat few low);
  }

-- what is told, from another numbering on
abbrev pub told_since : Numbering → Past → Past
told_since m h = record h { since = m }

pub known_stands : (Is Js : Numbering → Seat → Now → Type 0) (f : Facts) (h : Past) (p : PlainPorts) (o : Option Leaving) (w : Stands (known_aim Is) f h p o) (m : Numbering) → m.made ≡ w.numbering.made
    → ((seat : Seat) → seat.app < p.conns.apps → seat.slot < SLOTS → Is w.numbering seat (now_at p w.books seat) → Js m seat (now_at p w.books seat)) → Stands (known_aim Js) f (told_since m h) p o
known_stands Is Js f h p o w m same more = record {
  numbering = m;
  books = w.books;
  good = good_map Is Js w.numbering m h.ends w.books p same more w.good;
  tells = record {
    told = λ app. AllByRecursion-map (IsTold (λ m app x down. ⊤) f.apps w.numbering h w.books app) (IsTold (λ m app x down. ⊤) f.apps m (told_since m h) w.books app) (h.opened app)
        (λ x i. record { app_there = i.app_there; slot_there = i.slot_there; reached = i.reached; present = i.present; over = λ lt. tt }) (w.tells.told app);
    back = w.tells.back;
    sent = w.tells.sent;
    down = w.tells.down;
    later_sent = w.tells.later_sent;
    later_down = w.tells.later_down;
    goes_on = record { more = omega arith; same = λ n lt. refl };
  };
  apps = w.apps;
  out = w.out;
}

-- ---- a turn

pub hears_any : (Is : Numbering → Seat → Now → Type 0) (o : OpShown) (a : AnswerShown) → HearsSo (known_aim Is) o a
hears_any Is (op.Pop queue.Inbox) (answer.Popped (item.Packet mark b)) = tt
hears_any Is (op.Pop (queue.Up k)) (answer.Popped i) = tt
hears_any Is _ _ = tt

-- the rest of it, once the timers were tried
pub known_turns : (Is : Numbering → Seat → Now → Type 0) (f : Facts) → ((whole : Past) → IsAim (known_aim Is) f whole) → (h : Past) (s : State) (time : ℕ) (a : AnswerShown) → Fits (asks_at f s time) a → ComesSo (asks_at f s time) a
    → Stands (known_aim Is) f h (timed s time).ports (timed s time).out
    → Stands (known_aim Is) f (past_after (asks_at f s time) a ((turn_of f (at_rest (until_answer f (timed s time) time (plan_of f (timed s time) time))) time (plan_of f (timed s time) time)).told a).events h)
    (told_at f (asked_at f s time) time a).state.ports (told_at f (asked_at f s time) time a).state.out
known_turns Is f is_aim h s time a fits comes w =
    let t : State = timed s time in
    let told : Told = (turn_of f (at_rest (until_answer f t time (plan_of f t time))) time (plan_of f t time)).told a in
    let later : Past = past_after (asks_at f s time) a told.events h in
    (turn_plan (known_aim Is) f later (is_aim later) t.trash t.out h t time a (λ seat j few low owed. tt) refl w fits comes (hears_any Is (asks_at f s time) a) (part_all later) (each_any {X = Event} (λ e. ⊤) told.events (λ e. tt))).0

-- an application waits for no more answers than it has slots; machines that make a step
use Rattle.std.specs.Prelude.{Option, None, Some, Result, Ok, Err, sum_by}
use Rattle.std.specs.Option.{option_map, option_to_list}
use Rattle.std.proofs.Common.{◌≡◌, ℕ, ◌+◌, ◌≤◌, Bool, true, false, List, [], ◌∷◌, ◌++◌, length, map, take, drop, arith, ap, refl, subst, sym, ◌∙◌}
use Rattle.std.proofs.lemmas.List.{append-nil, length-append, length-map, length-take}
use Rattle.std.proofs.lemmas.List.Sums.{sum_by-cons}
use Rattle.csp_base.specs.Seat.{seat}
use Rattle.csp_base.specs.declared.seat.Seat.{Seat}
use Rattle.csp_arena.specs.Cells.{RegionName}
use Rattle.csp_buffer.specs.Content.{Content}
use Rattle.csp_buffer.specs.PlainBuffer.{PlainBuffer}
use Rattle.csp_conn.specs.PlainConns.{place_of}
use Rattle.csp_deck.specs.Keeping.{PlainPile, with_contents}
use Rattle.csp_log.specs.declared.event.Event.{Event}
use Rattle.csp_log.specs.declared.event.Event.TheVariants as event
use Rattle.csp_ports.proofs.Settling.{by_settled}
use Rattle.csp_ports.proofs.Waiting.{AdmitsIn}
use Rattle.csp_ports.specs.Came.{Comes, come, pictures, at_work}
use Rattle.csp_ports.specs.Kept.{IsHoused, wished, wishes}
use Rattle.csp_ports.specs.Packets.{admitting_by, stray_events, submitting, submitting_in}
use Rattle.csp_ports.specs.PlainPorts.{PlainPorts, PortsAt, anywhere, machine_at, terms_at, with_ports_at, with_stalled}
use Rattle.csp_ports.specs.Steps.{has_room, settled}
use Rattle.csp_ports.specs.declared.terms.Terms.{Terms}
use Rattle.csp_ports.specs.declared.terms.Wish.{Wish}
use Rattle.csp_ports.specs.declared.terms.Wish.TheVariants as wish
use Rattle.csp_rdp.specs.Balance.{Balanced, IsWhole}
use Rattle.csp_rdp.specs.Holding.{rdp_numbers, rested, unneeded}
use Rattle.csp_rdp.specs.Machine.{PlainRdp}
use Rattle.csp_rdp.specs.Placed.{placed_buffer}
use Rattle.csp_rdp.specs.Regions.{AreAllIn}
use Rattle.csp_rdp.specs.declared.answers.State.{State}
use Rattle.csp_rdp.specs.declared.answers.State.TheVariants as state
use Rattle.csp_rdp_window.specs.Numbers.{number_in}

one_wish : (w : Wish) → wished w ≤ 1
one_wish wish.Nothing = omega arith
one_wish wish.Connection = omega arith
one_wish wish.End = omega arith
one_wish wish.Ended = omega arith

few_wishes : (ts : List Terms) → sum_by (λ t. wished t.wish) ts ≤ length ts
few_wishes [] = omega arith
few_wishes (t ∷ ts) = omega (arith, sum_by-cons (λ (t : Terms). wished t.wish) t ts, one_wish t.wish, few_wishes ts)

pub wishes_few : (app : ℕ) (terms : List Terms) → wishes app terms ≤ 4
wishes_few app terms = omega (arith, few_wishes (take 4 (drop (place_of (seat app 0)) terms)), length-take 4 (drop (place_of (seat app 0)) terms))

-- a machine that is housed is so after a step that keeps what this asks
pub housed_next : (name : RegionName) (old new : PlainRdp) → AreAllIn name new → IsWhole new → unneeded new ≡ [] → length (rdp_numbers new) ≤ length (rdp_numbers old) → IsHoused name old → IsHoused name new
housed_next name old new region whole rest fewer h = record { region = region; whole = whole; rested = rest; few = omega (arith, fewer, h.few) }

-- what is handed back is the same packet wherever it lies
pub back_pictures : (n : RegionName) (o other : Option PlainBuffer) → other ≡ option_map (placed_buffer n) o → pictures (option_to_list o) ≡ pictures (option_to_list other)
back_pictures n None other e = rw e refl
back_pictures n (Some b) other e = rw e refl

pub back_events : (n : RegionName) (stray : Bool) (o other : Option PlainBuffer) → other ≡ option_map (placed_buffer n) o → stray_events o stray ≡ stray_events other stray
back_events n stray None other e = rw e refl
back_events n true (Some b) other e = rw e refl
back_events n false (Some b) other e = rw e refl

-- what is handed back, what is let go, and what a machine holds then, are as many as it held, and the one that it was handed
back_count : (back : Option PlainBuffer) → length (number_in back) ≡ length (pictures (option_to_list back))
back_count None = refl
back_count (Some b) = refl

pub hand_size : (r : PlainRdp) (before : List ℕ) (back : Option PlainBuffer) (number : ℕ) (first : List Content) → Balanced (rdp_numbers r ++ number_in back) (before ++ number ∷ []) → Balanced (map (λ b. b.picture.number) (unneeded r) ++ rdp_numbers (rested r)) (rdp_numbers r)
    → length ((first ++ pictures (option_to_list back)) ++ pictures (unneeded r)) + length (rdp_numbers (rested r)) ≡ length first + length before + 1
hand_size r before back number first given parted =
    omega (
      arith,
      given.count,
      length-append (rdp_numbers r) (number_in back),
      length-append before (number ∷ []),
      parted.count,
      length-append (map (λ b. b.picture.number) (unneeded r)) (rdp_numbers (rested r)),
      length-map (unneeded r) (λ b. b.picture.number),
      length-map (unneeded r) (λ b. b.picture),
      length-append first (pictures (option_to_list back)),
      back_count back,
      length-append (first ++ pictures (option_to_list back)) (pictures (unneeded r)),
    )

-- a packet that is admitted, or waits for room
ok_err : (u : Unit) (b : PlainBuffer) → ◌≡◌ {A = Result Unit PlainBuffer} (Ok u) (Err b) → ⊥
ok_err u b e = cc

err_same : (a b : PlainBuffer) → ◌≡◌ {A = Result Unit PlainBuffer} (Err a) (Err b) → a ≡ b
err_same a b e = cc

pub admitted_now : (room : Bool) (answer : Result Unit PlainBuffer) (u : Unit) (old new : PortsAt) (seat : Seat) (b : PlainBuffer) (time : ℕ) → answer ≡ Ok u → AdmitsIn room answer old new seat b time
    → new ≡ with_ports_at old (admitting_by room old.ports seat b.picture time)
admitted_now true answer u old new seat b time is h = h.1
admitted_now false answer u old new seat b time is h = absurd (ok_err u b (sym is ∙ h.0))

pub admitted_later : (room : Bool) (answer : Result Unit PlainBuffer) (back : PlainBuffer) (old mid new : PortsAt) (seat : Seat) (b : PlainBuffer) (time : ℕ) → answer ≡ Err back → AdmitsIn room answer old mid seat b time
    → new ≡ with_ports_at mid (with_stalled mid.ports seat (Some (anywhere back.picture))) → new ≡ with_ports_at old (admitting_by room old.ports seat b.picture time)
admitted_later true answer back old mid new seat b time is h k = absurd (ok_err tt back (sym h.0 ∙ is))
admitted_later false answer back old mid new seat b time is h k =
    let same : back ≡ b = err_same back b (sym is ∙ h.0) in
    k ∙ (ap (λ (x : PortsAt). with_ports_at x (with_stalled x.ports seat (Some (anywhere back.picture)))) h.1
    ∙ ap (λ (x : PlainBuffer). with_ports_at old (with_stalled old.ports seat (Some (anywhere x.picture)))) same)

-- no more than one event
pub stray_few : (o : Option PlainBuffer) (stray : Bool) → length (stray_events o stray) ≤ 1
stray_few None stray = omega arith
stray_few (Some b) true = omega arith
stray_few (Some b) false = omega arith

-- these ports, and nothing besides
pub come_comes : (old new : PortsAt) (p : PlainPorts) (trash : PlainPile) (events : List Event) → new ≡ with_ports_at old p → Comes (at_work old trash events) (at_work new trash events) (come p)
come_comes old new p trash events e = record {
  ports = e;
  trash = ap (with_contents trash) (sym (append-nil trash.contents));
  events = sym (append-nil events);
}

pub admit_back : (room : Bool) (answer : Result Unit PlainBuffer) (back : PlainBuffer) (old mid : PortsAt) (seat : Seat) (b : PlainBuffer) (time : ℕ) → answer ≡ Err back → AdmitsIn room answer old mid seat b time → (back ≡ b) × (mid ≡ old)
admit_back true answer back old mid seat b time is h = absurd (ok_err tt back (sym h.0 ∙ is))
admit_back false answer back old mid seat b time is h = (err_same back b (sym is ∙ h.0), h.1)

pub admitting_apps : (room : Bool) (p : PlainPorts) (seat : Seat) (b : Content) (time : ℕ) → (admitting_by room p seat b time).conns.apps ≡ p.conns.apps
admitting_apps true p seat b time = refl
admitting_apps false p seat b time = refl

pub submitted_comes : (old new : PortsAt) (trash : PlainPile) (later : List Event) (seat : Seat) (b : Content) (time : ℕ) → (machine_at old.ports seat).state ≡ state.Open
    → new ≡ with_ports_at old (admitting_by (has_room (machine_at old.ports seat)) old.ports seat b time) → later ≡ event.Sent seat.slot (terms_at old.ports seat).ordinal ∷ [] → Comes (at_work old trash []) (at_work new trash later) (submitting old.ports seat b time)
submitted_comes old new trash later seat b time opened e l =
    subst (λ (s : State). Comes (at_work old trash []) (at_work new trash later) (submitting_in s old.ports seat b time)) (sym opened)
    (record { ports = e; trash = ap (with_contents trash) (sym (append-nil trash.contents)); events = l })

-- ---- applications stay

pub settled_apps : (time : ℕ) (seat : Seat) (p : PlainPorts) → (settled time seat p).conns.apps ≡ p.conns.apps
settled_apps time seat p = by_settled (λ q. q.conns.apps ≡ p.conns.apps) time seat p refl (λ b e room. refl)

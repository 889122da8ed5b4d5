-- the packet that waits for room, by cases
use Rattle.std.specs.Prelude.{Bool, None, Option, Some, cond, false, true, unwrap_or}
use Rattle.std.specs.Option.{option_map}
use Rattle.std.proofs.Common.{◌≡◌, ℕ, refl, sym, ◌∙◌}
use Rattle.csp_base.specs.declared.seat.Seat.{Seat}
use Rattle.csp_buffer.specs.PlainBuffer.{PlainBuffer}
use Rattle.csp_log.specs.declared.event.Discard.TheVariants as why
use Rattle.csp_ports.specs.Came.{Came, come, discarding}
use Rattle.csp_ports.specs.PlainPorts.{PlainPorts, is_open, machine_at, stalled_at, with_stalled}
use Rattle.csp_ports.specs.Steps.{admitted, dropped, has_room, settled}

-- what holds by each case of an option
by_option : {X Y : Type 0} → (P : Y → Type 0) (f : X → Y) (o : Option X) (y : Y) → (o ≡ None → P y) → ((x : X) → o ≡ Some x → P (f x)) → P (unwrap_or (option_map f o) y)
by_option P f None y empty full = empty refl
by_option P f (Some x) y empty full = full x refl

none_some : {X : Type 0} (x : X) → ◌≡◌ {A = Option X} None (Some x) → ⊥
none_some x e = cc

pub some_same : {X : Type 0} (x y : X) → ◌≡◌ {A = Option X} (Some x) (Some y) → x ≡ y
some_same x y e = cc

-- and by each of a condition
by_cond : {Y : Type 0} → (P : Y → Type 0) (b : Bool) (y z : Y) → (b ≡ true → P y) → (b ≡ false → P z) → P (cond b y z)
by_cond P true y z holds fails = holds refl
by_cond P false y z holds fails = fails refl

pub true_false : true ≡ false → ⊥
true_false e = cc

-- what holds of the ports, and of those with the packet admitted where there is room
pub by_settled : (P : PlainPorts → Type 0) (time : ℕ) (seat : Seat) (p : PlainPorts) → P p
    → ((b : PlainBuffer) → stalled_at p seat ≡ Some b → has_room (machine_at p seat) ≡ true → P (admitted time seat b (with_stalled p seat None))) → P (settled time seat p)
by_settled P time seat p stays goes =
    by_option P (λ b. cond (has_room (machine_at p seat)) (admitted time seat b (with_stalled p seat None)) p) (stalled_at p seat) p (λ e. stays)
    (λ b e. by_cond P (has_room (machine_at p seat)) (admitted time seat b (with_stalled p seat None)) p (goes b e) (λ f. stays))

-- what holds where the packet that waits is one for an open connection, and where one that is not is discarded
pub by_dropped : (P : Came → Type 0) (seat : Seat) (p : PlainPorts) → (((b : PlainBuffer) → stalled_at p seat ≡ Some b → is_open (machine_at p seat).state ≡ true) → P (come p))
    → ((b : PlainBuffer) → stalled_at p seat ≡ Some b → is_open (machine_at p seat).state ≡ false → P (discarding why.NoConn b.picture (with_stalled p seat None))) → P (dropped seat p)
by_dropped P seat p stays goes =
    by_option P (λ b. cond (is_open (machine_at p seat).state) (come p) (discarding why.NoConn b.picture (with_stalled p seat None))) (stalled_at p seat) (come p)
    (λ e. stays (λ b f. absurd (none_some b (sym e ∙ f))))
    (λ b e. by_cond P (is_open (machine_at p seat).state) (come p) (discarding why.NoConn b.picture (with_stalled p seat None)) (λ opens. stays (λ c f. opens)) (goes b e))

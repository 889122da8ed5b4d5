-- A slot that has a connection.
use Rattle.std.proofs.Common.{◌≡◌, ℕ, ◌&&◌, true, nat_eq, refl}
use Rattle.std.proofs.lemmas.Bool.{eqb-true, and_parts}
use Rattle.csp_conn.specs.declared.slot.Connection.{Connection}
use Rattle.csp_conn.specs.declared.slot.Slot.{Slot}
use Rattle.csp_conn.specs.declared.slot.Slot.TheVariants.{Free, Held, Open}
use Rattle.csp_conn.specs.Slots.{between, is_between}

pub is_between-open : (c : Connection) (slot : Slot) → is_between c slot ≡ true → slot ≡ Open c
is_between-open c Free h = cc
is_between-open c Held h = cc
is_between-open c (Open other) h =
    let outer : (nat_eq other.peer c.peer && nat_eq other.peer_port c.peer_port ≡ true) × (nat_eq other.own_port c.own_port ≡ true) =
    and_parts (nat_eq other.peer c.peer && nat_eq other.peer_port c.peer_port) (nat_eq other.own_port c.own_port) h in
    let inner : (nat_eq other.peer c.peer ≡ true) × (nat_eq other.peer_port c.peer_port ≡ true) = and_parts (nat_eq other.peer c.peer) (nat_eq other.peer_port c.peer_port) outer.0 in
    let peer : other.peer ≡ c.peer = eqb-true other.peer c.peer inner.0 in
    let peer_port : other.peer_port ≡ c.peer_port = eqb-true other.peer_port c.peer_port inner.1 in
    let own_port : other.own_port ≡ c.own_port = eqb-true other.own_port c.own_port outer.1 in
    let open_between : ℕ → ℕ → ℕ → Slot = λ p q o. Open (between p q o) in
    let same : open_between other.peer other.peer_port other.own_port ≡ open_between c.peer c.peer_port c.own_port = rw (peer, peer_port, own_port) refl in
    same

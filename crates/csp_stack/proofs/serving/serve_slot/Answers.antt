use Rattle.std.proofs.Common.{◌≡◌, ℕ, ◌⊎◌, inl, inr, length, refl, sym, ap, ◌∙◌}
use Rattle.csp_base.specs.declared.seat.Seat.{Seat}
use Rattle.csp_buffer.specs.Content.{Content}
use Rattle.csp_conn.specs.PlainConns.{slot_at}
use Rattle.csp_conn.specs.declared.slot.Slot.{Slot}
use Rattle.csp_conn.specs.declared.slot.Slot.TheVariants as slot
use Rattle.csp_log.specs.declared.event.Discard.TheVariants as why
use Rattle.csp_stack.specs.Router.{Router, StateAt, router}
use Rattle.csp_stack.specs.Rules.{by_slot}
use Rattle.csp_stack.specs.Told.{discarded}
use Rattle.csp_stack.proofs.serving.serve_slot.Goals as goal

-- a packet for a slot that has no connection is discarded
by_none : (x : Slot) → (x ≡ slot.Free) ⊎ (x ≡ slot.Held) → (r : Router) (seat : Seat) (time : ℕ) (b : Content) → by_slot x r seat time b ≡ discarded r.state why.NoConn b
by_none x (inl e) r seat time b = rw e refl
by_none x (inr e) r seat time b = rw e refl

pub returns-in-Free-clause-told : goal.returns-in-Free-clause-told
returns-in-Free-clause-told c =
    let has = ap (λ (s : StateAt). slot_at s.state.ports.conns c.args.seat) (sym c.state.view_is) ∙ sym c.slot.ensures in
    rw (has, by_none c.slot.result c.in-Free.is (router c.args.facts.now c.args.state.now.state) c.args.seat c.args.now c.args.buffer.picture) c.discard.ensures.told

pub returns-in-Free-clause-sendable : goal.returns-in-Free-clause-sendable
returns-in-Free-clause-sendable c = rw (c.discard.ensures.told.state, c.requires.sound.out) tt

pub returns-in-Free-clause-keeps : goal.returns-in-Free-clause-keeps
returns-in-Free-clause-keeps c = c.discard.ensures.keeps (length c.args.facts.now.ifaces)

pub returns-in-Open-clause-sendable : goal.returns-in-Open-clause-sendable
returns-in-Open-clause-sendable c = c.serve_connection.ensures.sendable

pub returns-in-Open-clause-keeps : goal.returns-in-Open-clause-keeps
returns-in-Open-clause-keeps c = c.serve_connection.ensures.keeps

pub returns-in-Open-clause-told : goal.returns-in-Open-clause-told
returns-in-Open-clause-told c =
    let has = ap (λ (s : StateAt). slot_at s.state.ports.conns c.args.seat) (sym c.state.view_is) ∙ sym c.slot.ensures ∙ c.in-Open.is in
    rw has c.serve_connection.ensures.told

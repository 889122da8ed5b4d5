use Rattle.std.proofs.Common.{rules, ◌≡◌, ℕ, ◌⊎◌, inl, inr, length, refl, sym, ap, ◌∙◌}
use Rattle.csp_base.specs.declared.seat.Seat.{Seat}
use Rattle.csp_buffer.specs.Content.{Content}
use Rattle.csp_conn.specs.PlainConns.{slot_at}
use Rattle.csp_conn.specs.declared.slot.Slot.{Slot}
use Rattle.csp_conn.specs.declared.slot.Slot.TheVariants as slot
use Rattle.csp_rdp.specs.declared.jobs.Job.{Job}
use Rattle.csp_stack.specs.Router.{Router, StateAt, router}
use Rattle.csp_stack.specs.Rules.{made_on}
use Rattle.csp_stack.specs.Told.{absorbed, unchanged}
use Rattle.csp_stack.proofs.making.make.Goals as goal

-- where a slot has no connection the buffer joins the trash
made_on_none : (x : Slot) → (x ≡ slot.Free) ⊎ (x ≡ slot.Held) → (owed : Seat × Job) (r : Router) (time : ℕ) (b : Content) → made_on x owed r time b ≡ absorbed b (unchanged r.state)
made_on_none x (inl e) owed r time b = rw e refl
made_on_none x (inr e) owed r time b = rw e refl

pub returns-in-Free-clause-told : goal.returns-in-Free-clause-told
returns-in-Free-clause-told c =
    let has = ap (λ (s : StateAt). slot_at s.state.ports.conns c.args.seat) (sym c.state.view_is) ∙ sym c.slot.ensures in
    let told = c.absorb.ensures.told in
    rw (has, made_on_none c.slot.result c.in-Free.is (c.args.seat, c.args.job) (router c.args.facts.now c.args.state.now.state) c.args.now c.args.buffer.picture)
    (record { state = told.state; region = told.region; events = search rules })

pub returns-in-Free-clause-sendable : goal.returns-in-Free-clause-sendable
returns-in-Free-clause-sendable c = rw (c.absorb.ensures.told.state, c.requires.sound.out) tt

pub returns-in-Free-clause-keeps : goal.returns-in-Free-clause-keeps
returns-in-Free-clause-keeps c = c.absorb.ensures.keeps (length c.args.facts.now.ifaces)

pub returns-in-Open-clause-told : goal.returns-in-Open-clause-told
returns-in-Open-clause-told c =
    let has = ap (λ (s : StateAt). slot_at s.state.ports.conns c.args.seat) (sym c.state.view_is) ∙ sym c.slot.ensures ∙ c.in-Open.is in
    rw has c.fill.ensures.told

pub returns-in-Open-clause-sendable : goal.returns-in-Open-clause-sendable
returns-in-Open-clause-sendable c = c.fill.ensures.sendable

pub returns-in-Open-clause-keeps : goal.returns-in-Open-clause-keeps
returns-in-Open-clause-keeps c = c.fill.ensures.keeps

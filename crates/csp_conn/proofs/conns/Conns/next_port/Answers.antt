use Rattle.std.proofs.Common.{◌≡◌, ◌≤◌, ◌*◌, arith, List, length, ℕ, ◌∙◌, sym, ap, Some, false, true}
use Rattle.csp_conn.specs.Opening.{is_taken}
use Rattle.csp_conn.specs.Circle.{port_after}
use Rattle.csp_conn.specs.PlainConns.{PlainConns}
use Rattle.csp_conn.proofs.Ports.{first_from-one, first_from-taken, first_from-free, first_from-end, some_left}
use Rattle.csp_conn.proofs.conns.Conns.next_port.Goals as goal

pub loop-steps-init : goal.loop-steps-init
loop-steps-init c = first_from-one (is_taken c.args.self.now c.args.dest) c.args.self.now.last

pub returns-then-not-is_taken-clause-value : goal.returns-then-not-is_taken-clause-value
returns-then-not-is_taken-clause-value c =
    let last_of : PlainConns → ℕ = λ v. v.last in
    let last : c.self.inside.last ≡ c.args.self.now.last = ap last_of c.self.view_is in
    let port : c.port_after-port.result ≡ port_after c.args.self.now.last c.loop-steps.steps = c.port_after-port.ensures.value ∙ ap (λ n. port_after n c.loop-steps.steps) last in
    let here : is_taken c.args.self.now c.args.dest (port_after c.args.self.now.last c.loop-steps.steps) ≡ false =
    rw (← port) (sym c.is_taken.ensures ∙ c.if-not-is_taken.true) in
    c.loop-steps.invariant ∙ first_from-free (is_taken c.args.self.now c.args.dest) c.args.self.now.last c.loop-steps.steps c.loop-steps-test.true here
    ∙ ap (λ p. Some p) (sym port)

pub loop-steps-preserved : goal.loop-steps-preserved
loop-steps-preserved c =
    let last_of : PlainConns → ℕ = λ v. v.last in
    let last : c.self.inside.last ≡ c.args.self.now.last = ap last_of c.self.view_is in
    let port : c.port_after-port.result ≡ port_after c.args.self.now.last c.loop-steps.steps = c.port_after-port.ensures.value ∙ ap (λ n. port_after n c.loop-steps.steps) last in
    let here : is_taken c.args.self.now c.args.dest (port_after c.args.self.now.last c.loop-steps.steps) ≡ true =
    rw (← port) (sym c.is_taken.ensures ∙ c.if-not-is_taken.false) in
    c.loop-steps.invariant ∙ first_from-taken (is_taken c.args.self.now c.args.dest) c.args.self.now.last c.loop-steps.steps c.loop-steps-test.true here

few : {X : Type 0} (slots : List X) (apps : ℕ) → apps ≤ 4 → length slots ≡ apps * 4 → length slots ≤ 16
few slots apps h all = omega arith

pub unreachable-requires : goal.unreachable-requires
unreachable-requires c =
    some_left c.args.dest c.args.self.now.last c.args.self.now.slots (rw (← c.self.view_is) c.self.invariant.own) (rw (← c.self.view_is) c.self.invariant.below) (rw (← c.self.view_is) (few c.self.inside.slots.items c.self.inside.apps c.self.invariant.few c.self.invariant.all)) c.requires
    (sym (first_from-one (is_taken c.args.self.now c.args.dest) c.args.self.now.last) ∙ c.loop-steps.invariant ∙ first_from-end (is_taken c.args.self.now c.args.dest) c.args.self.now.last c.loop-steps.steps c.loop-steps-test.false)

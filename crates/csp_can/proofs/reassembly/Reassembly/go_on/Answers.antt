use Rattle.std.proofs.Common.{◌≡◌, List, ◌∙◌, ap, subst, sym}
use Rattle.csp_base.specs.declared.traces.Trace.{Trace}
use Rattle.csp_can.specs.Identifiers.{identifier_of}
use Rattle.csp_can.specs.Listening.{Listening}
use Rattle.csp_can.specs.Rules.{arrival}
use Rattle.csp_can.specs.Steps.{GoesOnLast, after, more_said}
use Rattle.csp_can.specs.declared.identifiers.Identifier.{Identifier}
use Rattle.csp_can.specs.declared.identifiers.Kind.TheVariants.{More}
use Rattle.csp_can.specs.declared.partials.Partial.{Partial}
use Rattle.csp_can.proofs.Going.{goes_answer, goes_state}
use Rattle.csp_can.proofs.reassembly.Reassembly.go_on.Goals as goal

is_more : (c : goal.After-go_on) → (identifier_of c.args.id).kind ≡ More
is_more c = ap (λ (head : Identifier). head.kind) (sym c.decode-head.ensures) ∙ c.in-More.is

parts : (c : goal.After-go_on) → c.self.inside.partials ≡ c.args.self.now.partials
parts c = ap (λ (l : Listening). l.partials) c.self.view_is

-- the same by what the listener is seen as, and the identifier's definition
seen : (c : goal.After-go_on) (trace : Trace) → GoesOnLast c.self.inside.partials (arrival c.decode-head.result c.args.bytes.now trace c.args.now) → GoesOnLast c.args.self.now.partials (arrival (identifier_of c.args.id) c.args.bytes.now trace c.args.now)
seen c trace goes =
    subst (λ (ps : List Partial). GoesOnLast ps (arrival (identifier_of c.args.id) c.args.bytes.now trace c.args.now)) (parts c)
    (subst (λ (head : Identifier). GoesOnLast c.self.inside.partials (arrival head c.args.bytes.now trace c.args.now)) c.decode-head.ensures goes)

-- and back
unseen : (c : goal.After-go_on) (trace : Trace) → GoesOnLast c.args.self.now.partials (arrival (identifier_of c.args.id) c.args.bytes.now trace c.args.now) → GoesOnLast c.self.inside.partials (arrival c.decode-head.result c.args.bytes.now trace c.args.now)
unseen c trace goes =
    subst (λ (head : Identifier). GoesOnLast c.self.inside.partials (arrival head c.args.bytes.now trace c.args.now)) (sym c.decode-head.ensures)
    (subst (λ (ps : List Partial). GoesOnLast ps (arrival (identifier_of c.args.id) c.args.bytes.now trace c.args.now)) (sym (parts c)) goes)

pub returns-in-More-clause-when : goal.returns-in-More-clause-when
returns-in-More-clause-when c trace = (
  λ did. (is_more c, seen c trace ((c.go_on.ensures.when trace).0 did)),
  λ goes. (c.go_on.ensures.when trace).1 (unseen c trace goes.1),
)

pub returns-in-More-clause-answer : goal.returns-in-More-clause-answer
returns-in-More-clause-answer c did trace =
    goes_answer c.args.self.now (arrival (identifier_of c.args.id) c.args.bytes.now trace c.args.now) (is_more c) (seen c trace ((c.go_on.ensures.when trace).0 did))

pub returns-in-More-clause-state : goal.returns-in-More-clause-state
returns-in-More-clause-state c did trace =
    let moved : c.go_on.new.self ≡ after (more_said c.args.self.now.partials (arrival (identifier_of c.args.id) c.args.bytes.now trace c.args.now)) c.args.self.now.partials (arrival (identifier_of c.args.id) c.args.bytes.now trace c.args.now)
    = c.go_on.ensures.state did trace ∙ (λ i. after (more_said (parts c i) (arrival (c.decode-head.ensures i) c.args.bytes.now trace c.args.now)) (parts c i) (arrival (c.decode-head.ensures i) c.args.bytes.now trace c.args.now)) in
    (λ i. record { mtu = (c.self.view_is i).mtu; partials = moved i })
    ∙ goes_state c.args.self.now (arrival (identifier_of c.args.id) c.args.bytes.now trace c.args.now) (is_more c) (seen c trace ((c.go_on.ensures.when trace).0 did))

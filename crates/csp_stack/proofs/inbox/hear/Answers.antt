use Rattle.std.proofs.Common.{length, ◌∙◌}
use Rattle.csp_stack.proofs.Keeping.{stayed}
use Rattle.csp_stack.proofs.Unmoved.{by_rest, heard_here, unmoved}
use Rattle.csp_stack.specs.Comes.{arrival_of, heard_at_port}
use Rattle.csp_stack.proofs.inbox.hear.Goals as goal

pub returns-in_default-clause-told : goal.returns-in_default-clause-told
returns-in_default-clause-told c = c.in_default.ensures.told (λ q. heard_here c.args.facts.now c.args.state.now.state c.args.now q)

pub returns-in_default-judge_security-clause-told : goal.returns-in_default-judge_security-clause-told
returns-in_default-judge_security-clause-told c =
    rw (c.in-Some.ensures.told.0 (λ q. heard_here c.args.facts.now c.args.state.now.state c.args.now q))
    (unmoved c.args.state.now _ _ _ _ _ (λ s. heard_here c.args.facts.now s c.args.now (arrival_of c.in-Some.packet)) c.in-Some.ensures.told.2 c.in-Some.ensures.told.3 (c.in_default-judge_security.ensures.told (λ q. by_rest c.args.facts.now c.judge_destination.new.state.state c.args.now q)))

pub returns-in_default-judge_checksum-clause-told : goal.returns-in_default-judge_checksum-clause-told
returns-in_default-judge_checksum-clause-told c =
    rw (c.in-Some.ensures.told.0 (λ q. heard_here c.args.facts.now c.args.state.now.state c.args.now q))
    (unmoved c.args.state.now _ _ _ _ _ (λ s. heard_here c.args.facts.now s c.args.now (arrival_of c.in-Some.packet)) c.in-Some.ensures.told.2 c.in-Some.ensures.told.3
    (rw (c.in-Some-judge_security.ensures.told.0 (λ q. by_rest c.args.facts.now c.judge_destination.new.state.state c.args.now q))
    (unmoved c.judge_destination.new.state _ _ _ _ _ (λ s. by_rest c.args.facts.now s c.args.now (arrival_of c.in-Some-judge_security.packet)) c.in-Some-judge_security.ensures.told.2 c.in-Some-judge_security.ensures.told.3
    (c.in_default-judge_checksum.ensures.told (λ q. heard_at_port c.args.facts.now c.judge_security.new.state.state c.args.now q)))))

pub returns-in_default-judge_security-clause-keeps : goal.returns-in_default-judge_security-clause-keeps
returns-in_default-judge_security-clause-keeps c =
    let n = length c.args.facts.now.ifaces in
    rw (← c.in-Some.ensures.same) (stayed c.args.state.now c.judge_destination.new.state c.judge_security.new.state.state n _ c.in-Some.ensures.told.2 (c.in_default-judge_security.ensures.keeps n))

pub returns-in_default-judge_checksum-clause-keeps : goal.returns-in_default-judge_checksum-clause-keeps
returns-in_default-judge_checksum-clause-keeps c =
    let n = length c.args.facts.now.ifaces in
    rw (← (c.in-Some-judge_security.ensures.same ∙ c.in-Some.ensures.same))
    (stayed c.args.state.now c.judge_security.new.state c.judge_checksum.new.state.state n _ (c.in-Some-judge_security.ensures.told.2 ∙ c.in-Some.ensures.told.2) (c.in_default-judge_checksum.ensures.keeps n))

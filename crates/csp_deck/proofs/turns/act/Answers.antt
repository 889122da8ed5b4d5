use Rattle.std.proofs.Common.{◌≡◌, ℕ, ◌+◌, sym, ◌∙◌, arith}
use Rattle.csp_log.specs.PlainLog.{with_entry}
use Rattle.csp_log.specs.Pictures.{shown_op}
use Rattle.csp_log.specs.declared.shown.AnswerShown.{AnswerShown}
use Rattle.csp_deck.specs.Step.{entry_of, times, op_numbers, answer_numbers}
use Rattle.csp_deck.proofs.Serving.{CanServe-there}
use Rattle.csp_deck.proofs.turns.act.Goals as goal

pub carry-requires-clause-asked : goal.carry-requires-clause-asked
carry-requires-clause-asked g c =
    CanServe-there (g.P.Party.uses c.args.party.now) (g.P.Party.uses c.ask-op.new.self) (shown_op c.ask-op.result) (λ q r u. c.ask-op.ensures.uses q ∙ u) c.ask-op.ensures.served

pub carry-requires-clause-served : goal.carry-requires-clause-served
carry-requires-clause-served g c = λ q r u. c.requires.served q r (sym (c.ask-op.ensures.uses q) ∙ u)

-- the answer of this turn
abbrev came : (g : _) (c : goal.After-carry g) → AnswerShown
came g c = c.carry.ensures.went.0

-- the log with the entry of this turn
logged : (g : _) (c : goal.After-carry g) → c.carry.new.log ≡ with_entry c.args.log.now (entry_of c.args.now (g.P.Party.asks c.args.party.now c.args.now) (came g c) (g.P.Party.events (g.P.Party.asked c.args.party.now c.args.now) c.args.now (came g c)))
logged g c = let (a, _, _, _, _, log, _, _) = c.carry.ensures.went in rw (c.ask-op.ensures.op, c.ask-op.ensures.state) at log

-- what the party is after it
stepped : (g : _) (c : goal.After-carry g) → c.carry.new.party ≡ g.P.Party.tells (g.P.Party.asked c.args.party.now c.args.now) c.args.now (came g c)
stepped g c = let (a, _, _, _, party, _, _, _) = c.carry.ensures.went in rw c.ask-op.ensures.state at party

-- what the party holds after it
held : (g : _) (c : goal.After-carry g) (k : ℕ) → times k (g.P.Party.holds c.carry.new.party) + times k (op_numbers (g.P.Party.asks c.args.party.now c.args.now)) ≡ times k (g.P.Party.holds c.args.party.now) + times k (answer_numbers (came g c))
held g c k =
    let (a, _, _, _, _, _, _, holds) = c.carry.ensures.went in
    let before = rw c.ask-op.ensures.op at (c.ask-op.ensures.holds k) in
    let after = holds k in
    omega (arith, before, after)

pub returns-clause-went : goal.returns-clause-went
returns-clause-went g c =
    let (a, answers, fits, cause, _, _, turn, _) = c.carry.ensures.went in
    let e = c.ask-op.ensures.op in (
      a,
      rw e at answers,
      rw e at fits,
      rw e at cause,
      stepped g c,
      logged g c,
      turn,
      held g c,
    )

pub returns-clause-had : goal.returns-clause-had
returns-clause-had g c = λ k.
    let before = rw c.ask-op.ensures.op at (c.ask-op.ensures.holds k) in
    omega (arith, before)

pub returns-clause-asked : goal.returns-clause-asked
returns-clause-asked g c = rw c.ask-op.ensures.op at c.ask-op.ensures.served

pub carry-requires-clause-waiting : goal.carry-requires-clause-waiting
carry-requires-clause-waiting g c = c.ask-op.ensures.waiting

pub carry-requires-clause-awaits : goal.carry-requires-clause-awaits
carry-requires-clause-awaits g c = c.ask-op.ensures.awaits

pub carry-requires-clause-early : goal.carry-requires-clause-early
carry-requires-clause-early g c = c.requires.early

pub carry-requires-clause-room : goal.carry-requires-clause-room
carry-requires-clause-room g c = c.requires.room

pub carry-requires-clause-region : goal.carry-requires-clause-region
carry-requires-clause-region g c = c.ask-op.ensures.region ∙ c.requires.region

pub returns-clause-ready : goal.returns-clause-ready
returns-clause-ready g c = c.carry.ensures.ready

pub returns-clause-uses : goal.returns-clause-uses
returns-clause-uses g c = λ q. c.carry.ensures.uses q ∙ c.ask-op.ensures.uses q

pub returns-clause-rules : goal.returns-clause-rules
returns-clause-rules g c = c.carry.ensures.rules

pub returns-clause-region : goal.returns-clause-region
returns-clause-region g c = (c.carry.ensures.region.0 ∙ c.ask-op.ensures.region, c.carry.ensures.region.1)

pub returns-clause-needs : goal.returns-clause-needs
returns-clause-needs g c = c.carry.ensures.needs ∙ c.ask-op.ensures.needs

pub returns-clause-most : goal.returns-clause-most
returns-clause-most g c = c.carry.ensures.most

use Rattle.std.proofs.Common.{◌≡◌, ℕ, ◌+◌, refl, sym, ap, ◌∙◌, arith}
use Rattle.std.proofs.lemmas.Bool.{false≢true}
use Rattle.csp_log.specs.PlainLog.{PlainLog, with_entry}
use Rattle.csp_log.specs.declared.shown.AnswerShown.{AnswerShown}
use Rattle.csp_deck.specs.Step.{entry_of, times, op_numbers, answer_numbers}
use Rattle.csp_deck.proofs.Keeping.{IsKept-next}
use Rattle.csp_deck.proofs.turns.turn.Goals as goal

-- the answer of a turn that looked
abbrev came : (g : _) (c : goal.After-look-in-Some g) → AnswerShown
came g c = c.look-in-Some.ensures.went.0

-- the log with the entry of this turn
logged : (g : _) (c : goal.After-look-in-Some g) → c.look-in-Some.new.log ≡ with_entry c.args.log.now (entry_of c.args.now (g.P.Party.asks c.args.party.now c.args.now) (came g c) (g.P.Party.events (g.P.Party.asked c.args.party.now c.args.now) c.args.now (came g c)))
logged g c = let (a, _, _, _, _, log, _, _) = c.look-in-Some.ensures.went in rw (sym c.in-Some.ensures.looks.0, c.in-Some.ensures.looks.1) at log

-- what the party is after it
stepped : (g : _) (c : goal.After-look-in-Some g) → c.look-in-Some.new.party ≡ g.P.Party.tells (g.P.Party.asked c.args.party.now c.args.now) c.args.now (came g c)
stepped g c = let (a, _, _, _, party, _, _, _) = c.look-in-Some.ensures.went in rw c.in-Some.ensures.looks.1 at party

-- what the party holds after it
held : (g : _) (c : goal.After-look-in-Some g) (k : ℕ) → times k (g.P.Party.holds c.look-in-Some.new.party) + times k (op_numbers (g.P.Party.asks c.args.party.now c.args.now)) ≡ times k (g.P.Party.holds c.args.party.now) + times k (answer_numbers (came g c))
held g c k =
    let (a, _, _, _, _, _, _, holds) = c.look-in-Some.ensures.went in
    let before = c.in-Some.ensures.holds k in
    let after = holds k in
    rw c.in-Some.ensures.looks.0
    (omega (arith, before, after))

pub returns-in-Some-clause-went : goal.returns-in-Some-clause-went
returns-in-Some-clause-went g c = λ _.
    let (a, answers, fits, cause, _, _, turn, _) = c.look-in-Some.ensures.went in
    let e = sym c.in-Some.ensures.looks.0 in (
      a,
      rw e at answers,
      rw e at fits,
      rw e at cause,
      stepped g c,
      logged g c,
      turn,
      held g c,
    )

pub returns-in-Some-clause-kept : goal.returns-in-Some-clause-kept
returns-in-Some-clause-kept g c = λ opening late kept.
    let p = g.P.Party in
    let (a, _, fits, _, _, _, _, _) = c.look-in-Some.ensures.went in
    IsKept-next (record { has_ended = p.has_ended; asks = p.asks; asked = p.asked; tells = p.tells; events = p.events }) p.holds opening c.args.party.now c.look-in-Some.new.party c.args.log.now.entries c.look-in-Some.new.log.entries c.args.now (came g c)
    late (sym c.ended.ensures ∙ c.if-ended.false) (rw (sym c.in-Some.ensures.looks.0) at fits) (stepped g c) (ap (λ (l : PlainLog). l.entries) (logged g c)) (held g c) kept

pub returns-in-None-clause-went : goal.returns-in-None-clause-went
returns-in-None-clause-went g c = λ _. rw c.in-None.ensures.looks at c.act.ensures.went

pub returns-in-None-clause-had : goal.returns-in-None-clause-had
returns-in-None-clause-had g c = λ _. rw c.in-None.ensures.looks at c.act.ensures.had

pub returns-in-None-clause-kept : goal.returns-in-None-clause-kept
returns-in-None-clause-kept g c = λ opening late kept.
    let p = g.P.Party in
    let (a, _, fits, _, party, log, _, holds) = rw c.in-None.ensures.looks at c.act.ensures.went in
    IsKept-next (record { has_ended = p.has_ended; asks = p.asks; asked = p.asked; tells = p.tells; events = p.events }) p.holds opening c.args.party.now c.act.new.party c.args.log.now.entries c.act.new.log.entries c.args.now a
    late (sym c.ended.ensures ∙ c.if-ended.false) fits party (ap (λ (l : PlainLog). l.entries) log) holds kept

pub returns-then-ended-clause-ended : goal.returns-then-ended-clause-ended
returns-then-ended-clause-ended g c = λ _. (refl, refl, refl, refl, refl)

pub returns-then-ended-clause-went : goal.returns-then-ended-clause-went
returns-then-ended-clause-went g c = λ e. absurd (false≢true (sym e ∙ (sym c.ended.ensures ∙ c.if-ended.true)))

pub returns-then-ended-clause-asked : goal.returns-then-ended-clause-asked
returns-then-ended-clause-asked g c = λ e. absurd (false≢true (sym e ∙ (sym c.ended.ensures ∙ c.if-ended.true)))

pub returns-then-ended-clause-had : goal.returns-then-ended-clause-had
returns-then-ended-clause-had g c = λ e. absurd (false≢true (sym e ∙ (sym c.ended.ensures ∙ c.if-ended.true)))

pub returns-then-ended-clause-kept : goal.returns-then-ended-clause-kept
returns-then-ended-clause-kept g c = λ _ _ kept. kept

pub returns-then-ended-clause-ready : goal.returns-then-ended-clause-ready
returns-then-ended-clause-ready g c = λ _ _ _ e. absurd (false≢true (sym e ∙ (sym c.ended.ensures ∙ c.if-ended.true)))

pub returns-then-ended-clause-counted : goal.returns-then-ended-clause-counted
returns-then-ended-clause-counted g c = c.requires.counted

pub returns-then-ended-clause-uses : goal.returns-then-ended-clause-uses
returns-then-ended-clause-uses g c = λ _. refl

pub returns-then-ended-clause-rules : goal.returns-then-ended-clause-rules
returns-then-ended-clause-rules g c = λ _. refl

pub returns-then-ended-clause-region : goal.returns-then-ended-clause-region
returns-then-ended-clause-region g c = (refl, refl)

pub returns-then-ended-clause-needs : goal.returns-then-ended-clause-needs
returns-then-ended-clause-needs g c = refl

pub look-requires-clause-ready : goal.look-requires-clause-ready
look-requires-clause-ready g c = c.requires.ready (sym c.ended.ensures ∙ c.if-ended.false)

pub look-requires-clause-early : goal.look-requires-clause-early
look-requires-clause-early g c = c.requires.early

pub look-requires-clause-goes_on : goal.look-requires-clause-goes_on
look-requires-clause-goes_on g c = sym c.ended.ensures ∙ c.if-ended.false

pub look-requires-in-Some-clause-waiting : goal.look-requires-in-Some-clause-waiting
look-requires-in-Some-clause-waiting g c = c.in-Some.ensures.waiting.0

pub look-requires-in-Some-clause-awaits : goal.look-requires-in-Some-clause-awaits
look-requires-in-Some-clause-awaits g c = c.in-Some.ensures.waiting.1

pub look-requires-in-Some-clause-early : goal.look-requires-in-Some-clause-early
look-requires-in-Some-clause-early g c = c.requires.early

pub look-requires-in-Some-clause-room : goal.look-requires-in-Some-clause-room
look-requires-in-Some-clause-room g c = c.requires.room

pub look-requires-in-Some-clause-served : goal.look-requires-in-Some-clause-served
look-requires-in-Some-clause-served g c = λ q r u. c.requires.served q r (sym (c.in-Some.ensures.uses q) ∙ u)

pub look-requires-in-Some-clause-region : goal.look-requires-in-Some-clause-region
look-requires-in-Some-clause-region g c = c.in-Some.ensures.region ∙ c.requires.region

pub act-requires-clause-goes_on : goal.act-requires-clause-goes_on
act-requires-clause-goes_on g c = rw c.in-None.ensures.looks (sym c.ended.ensures ∙ c.if-ended.false)

pub act-requires-clause-ready : goal.act-requires-clause-ready
act-requires-clause-ready g c = rw c.in-None.ensures.looks (c.requires.ready (sym c.ended.ensures ∙ c.if-ended.false))

pub act-requires-clause-early : goal.act-requires-clause-early
act-requires-clause-early g c = c.requires.early

pub act-requires-clause-room : goal.act-requires-clause-room
act-requires-clause-room g c = c.requires.room

pub act-requires-clause-served : goal.act-requires-clause-served
act-requires-clause-served g c = λ q r u. c.requires.served q r (sym (c.in-None.ensures.uses q) ∙ u)

pub act-requires-clause-region : goal.act-requires-clause-region
act-requires-clause-region g c = c.in-None.ensures.region ∙ c.requires.region

pub returns-in-Some-clause-ended : goal.returns-in-Some-clause-ended
returns-in-Some-clause-ended g c = λ e. absurd (false≢true (sym (sym c.ended.ensures ∙ c.if-ended.false) ∙ e))

pub returns-in-Some-clause-asked : goal.returns-in-Some-clause-asked
returns-in-Some-clause-asked g c = λ _. rw c.in-Some.ensures.looks.0 c.in-Some.ensures.served

pub returns-in-Some-clause-ready : goal.returns-in-Some-clause-ready
returns-in-Some-clause-ready g c = c.look-in-Some.ensures.ready

pub returns-in-Some-clause-uses : goal.returns-in-Some-clause-uses
returns-in-Some-clause-uses g c = λ q. c.look-in-Some.ensures.uses q ∙ c.in-Some.ensures.uses q

pub returns-in-Some-clause-rules : goal.returns-in-Some-clause-rules
returns-in-Some-clause-rules g c = c.look-in-Some.ensures.rules

pub returns-in-Some-clause-region : goal.returns-in-Some-clause-region
returns-in-Some-clause-region g c = (c.look-in-Some.ensures.region.0 ∙ c.in-Some.ensures.region, c.look-in-Some.ensures.region.1)

pub returns-in-Some-clause-needs : goal.returns-in-Some-clause-needs
returns-in-Some-clause-needs g c = c.look-in-Some.ensures.needs ∙ c.in-Some.ensures.needs

pub returns-in-Some-clause-most : goal.returns-in-Some-clause-most
returns-in-Some-clause-most g c = c.look-in-Some.ensures.most

pub returns-in-None-clause-ended : goal.returns-in-None-clause-ended
returns-in-None-clause-ended g c = λ e. absurd (false≢true (sym (sym c.ended.ensures ∙ c.if-ended.false) ∙ e))

pub returns-in-None-clause-asked : goal.returns-in-None-clause-asked
returns-in-None-clause-asked g c = λ _. rw c.in-None.ensures.looks at c.act.ensures.asked

pub returns-in-None-clause-ready : goal.returns-in-None-clause-ready
returns-in-None-clause-ready g c = c.act.ensures.ready

pub returns-in-None-clause-uses : goal.returns-in-None-clause-uses
returns-in-None-clause-uses g c = λ q. c.act.ensures.uses q ∙ c.in-None.ensures.uses q

pub returns-in-None-clause-rules : goal.returns-in-None-clause-rules
returns-in-None-clause-rules g c = c.act.ensures.rules

pub returns-in-None-clause-region : goal.returns-in-None-clause-region
returns-in-None-clause-region g c = (c.act.ensures.region.0 ∙ c.in-None.ensures.region, c.act.ensures.region.1)

pub returns-in-None-clause-needs : goal.returns-in-None-clause-needs
returns-in-None-clause-needs g c = c.act.ensures.needs ∙ c.in-None.ensures.needs

pub returns-in-None-clause-most : goal.returns-in-None-clause-most
returns-in-None-clause-most g c = c.act.ensures.most

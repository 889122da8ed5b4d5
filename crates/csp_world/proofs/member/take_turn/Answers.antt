use Rattle.std.proofs.Common.{◌≡◌, ◌-◌, ◌≤◌, List, Some, false, sym, ◌∙◌, ap, subst}
use Rattle.std.specs.Prelude.{slice_get, IsSomeAnd, vec_capacity}
use Rattle.csp_lists.specs.PlainDeck.{PlainDeck}
use Rattle.csp_log.specs.PlainLog.{PlainLog}
use Rattle.csp_log.specs.declared.shown.AnswerShown.{AnswerShown}
use Rattle.csp_log.specs.declared.shown.AnswerShown.TheVariants as answer
use Rattle.csp_log.specs.Pictures.{Fits}
use Rattle.csp_deck.specs.Step.{HasCause}
use Rattle.csp_nodes.specs.DecksAt.{DecksAt, IsEmpty, IsFull, rule_at}
use Rattle.csp_nodes.specs.Serving.{answer_in, rule_in}
use Rattle.csp_party.specs.Any.{plain, asks, needs, has_ended}
use Rattle.csp_party.specs.declared.any.AnyParty.{AnyParty}
use Rattle.csp_world.specs.Inside.{IsCalled, rooms}
use Rattle.csp_world.specs.Seen.{plain_member}
use Rattle.csp_party.proofs.Public.{plain_told, stock_left}
use Rattle.csp_world.proofs.TurnLemmas.{any_room, called_told, full_for, kept_at}
use Rattle.csp_world.proofs.member.take_turn.Goals as goal

pub turn-came-requires-clause-served : goal.turn-came-requires-clause-served
turn-came-requires-clause-served c = λ q r u. ap (λ (d : DecksAt). rule_at d q) c.serve.ensures ∙ c.requires.fit.served q r u

goes_on : (c : goal.After-member-1) → has_ended (plain c.args.member.now.party) ≡ false
goes_on c = sym c.ended.ensures ∙ c.if-ended.false

-- it stays the party that its name says
called : (c : goal.After-member-1) → IsCalled c.args.member.now.who (plain c.turn-came.new.party)
called c =
    let (a, _, _, _, party, _, _, _) = c.turn-came.ensures.went (goes_on c) in
    subst (λ (p : AnyParty). IsCalled c.args.member.now.who (plain p)) (sym party)
    (rw (plain_told c.args.member.now.party c.args.time a) (called_told c.args.member.now.who c.args.member.now.party c.args.time a c.requires.fit.called))

rooms_kept : (c : goal.After-member-1) → rooms c.turn-came.new.deck.decks ≡ rooms c.args.decks.now.decks
rooms_kept c =
    let (a, s, _, _, _, _, _, _) = c.turn-came.ensures.went (goes_on c) in
    let o = asks (plain c.args.member.now.party) c.args.time in
    ap (λ (r : AnswerShown × List PlainDeck). rooms r.1) (sym s.answer)
    ∙ c.keeps_shape.ensures.rooms c.serve.new.self.decks c.serve.new.self.links c.serve.new.self.whose o
    ∙ ap (λ (d : DecksAt). rooms d.decks) c.serve.ensures

pub returns-clause-fit : goal.returns-clause-fit
returns-clause-fit c =
    let (a, s, _, _, _, log, _, _) = c.turn-came.ensures.went (goes_on c) in
    let whose = s.whose ∙ ap (λ (d : DecksAt). d.whose) c.serve.ensures in
    let regions = s.regions ∙ ap (λ (d : DecksAt). d.regions) c.serve.ensures in
    let spare : c.turn-came.new.log.spare ≡ c.args.member.now.log.spare - 1 = ap (λ (l : PlainLog). l.spare) log in
    record {
      ready = λ later h e. c.turn-came.ensures.ready later h e;
      counted = c.turn-came.ensures.counted;
      served = λ q r u.
          ap (λ w. rule_in c.turn-came.new.deck.decks c.turn-came.new.deck.links w q) (sym whose)
          ∙ c.turn-came.ensures.rules q ∙ ap (λ (d : DecksAt). rule_at d q) c.serve.ensures ∙ c.requires.fit.served q r (sym (c.turn-came.ensures.uses q) ∙ u);
      called = called c;
      home = λ node h. ap (λ l. slice_get l node) regions ∙ c.requires.fit.home node h ∙ ap Some (sym c.turn-came.ensures.region.0);
      unnoted = c.requires.fit.unnoted;
      room = λ node h. subst (λ l. IsSomeAnd (slice_get l node) (λ room. room ≤ vec_capacity c.args.member.now.numbers)) (sym (rooms_kept c)) (c.requires.fit.room node h);
      stock = rw (spare, c.turn-came.ensures.needs) (stock_left (needs (plain c.args.member.now.party)) c.args.member.now.log.spare c.args.member.now.spares.boxes c.turn-came.new.spares.boxes c.requires.room c.requires.fit.stock c.turn-came.ensures.least);
    }

pub returns-clause-conserved : goal.returns-clause-conserved
returns-clause-conserved c = λ node d at.
    let (a, s, _, _, _, _, _, held) = c.turn-came.ensures.went (goes_on c) in
    let o = asks (plain c.args.member.now.party) c.args.time in
    let w = c.args.member.now.who in
    let decks = c.args.decks.now.decks in
    let links = c.args.decks.now.links in
    let answers : answer_in decks links w o ≡ (a, c.turn-came.new.deck.decks) = ap (λ (x : DecksAt). answer_in x.decks x.links x.whose o) (sym c.serve.ensures) ∙ s.answer in
    let (e, there, law) = c.conserves.ensures decks links w o node d at in (
      e,
      ap (λ (r : AnswerShown × List PlainDeck). slice_get r.1 node) (sym answers) ∙ there,
      λ k. kept_at links w o node k a (plain c.args.member.now.party) (plain c.turn-came.new.party) d e c.requires.fit.called (called c)
          (rw (ap (λ (r : AnswerShown × List PlainDeck). r.0) answers) at law k) (held k),
    )

pub returns-clause-full : goal.returns-clause-full
returns-clause-full c = λ goes b e.
    let (a, s, fits, cause, _, _, _, _) = c.turn-came.ensures.went (goes_on c) in
    let o = asks (plain c.args.member.now.party) c.args.time in
    let w = c.args.member.now.who in
    let d = c.serve.new.self in
    let answers : answer_in d.decks d.links d.whose o ≡ (a, c.turn-came.new.deck.decks) = s.answer in
    let same : (answer_in d.decks d.links d.whose o).0 ≡ answer.PoolFull b = ap (λ (x : DecksAt). (answer_in x.decks x.links x.whose o).0) c.serve.ensures ∙ e in
    let is : a ≡ answer.PoolFull b = sym (ap (λ (r : AnswerShown × List PlainDeck). r.0) answers) ∙ same in
    let decks : d.decks ≡ c.args.decks.now.decks = ap (λ (x : DecksAt). x.decks) c.serve.ensures in
    rw (← decks)
    (full_for d o b (plain_member c.args.member.now) (ap (λ (x : DecksAt). x.whose) c.serve.ensures) c.requires.fit.called
    (λ n h. any_room (slice_get (rooms d.decks) n) (λ room. room ≤ vec_capacity c.args.member.now.numbers) (subst (λ l. IsSomeAnd (slice_get (rooms l) n) (λ room. room ≤ vec_capacity c.args.member.now.numbers)) (sym decks) (c.requires.fit.room n h)))
    (subst (λ x. Fits o x) is fits) (subst (λ x. HasCause (IsEmpty d) (IsFull d) o x) is cause) (c.turn-came.ensures.had (goes_on c)))

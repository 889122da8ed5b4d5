use Rattle.std.proofs.Common.{◌≡◌, ℕ, ◌+◌, ◌*◌, ◌≤◌, Bool, true, false, List, [], ◌∷◌, ◌++◌, vec_capacity, refl, sym, ap, ◌∙◌, subst, arith}
use Rattle.csp_deck.specs.Step.{entry_of}
use Rattle.csp_ends.specs.Ends.{PlainNodeQueues, PlainEnds, rule_of}
use Rattle.csp_ends.specs.Ends as hands
use Rattle.csp_ends.specs.Serving.{Serves}
use Rattle.csp_log.specs.PlainLog.{PlainLog}
use Rattle.csp_log.specs.PlainSpares.{PlainSpares}
use Rattle.csp_log.specs.Pictures.{turn_of}
use Rattle.csp_log.specs.declared.entry.Entry.{Entry}
use Rattle.csp_log.specs.declared.event.Event.{Event}
use Rattle.csp_party.specs.Any.{plain, asks, needs, has_ended}
use Rattle.csp_posts.specs.Posts.{PlainPost, AreTurns}
use Rattle.csp_posts.specs.Ready.{HasTurned}
use Rattle.csp_posts.specs.Seen.{SeenPost}
use Rattle.csp_party.proofs.Public.{events_told, plain_told, stock_left}
use Rattle.csp_posts.proofs.Parties.{any_time, one_turn, ended_turn}
use Rattle.csp_posts.proofs.post.Post.turn.Goals as goal

pub turn-requires-clause-served : goal.turn-requires-clause-served
turn-requires-clause-served g c = λ q r u. ap (λ (e : PlainEnds). rule_of e q) c.new-deck.ensures.ends ∙ c.self.invariant.served q r u

pub invariant_of-self : goal.invariant_of-self
invariant_of-self g c = record {
  ready = λ goes. any_time (plain c.turn.new.party) c.args.now 0 (c.turn.ensures.ready c.args.now (omega arith) c.requires.early goes);
  counted = c.turn.ensures.counted;
  served = λ q r u. c.turn.ensures.rules q ∙ ap (λ (e : PlainEnds). rule_of e q) c.new-deck.ensures.ends ∙ c.self.invariant.served q r (sym (c.turn.ensures.uses q) ∙ u);
  ends = c.turn.new.deck.whole;
  region = c.turn.ensures.region.0 ∙ c.self.invariant.region ∙ sym (ap hands.region_of c.new-deck.ensures.ends) ∙ sym c.turn.ensures.region.1;
  unnoted = c.self.invariant.unnoted;
  stock = stock (has_ended (plain c.self.inside.party)) refl;
} where
  room : 1 ≤ c.self.inside.log.spare
  room = subst (λ (s : SeenPost). 1 ≤ s.spare) (sym c.self.view_is) c.requires.room

  stock : (ended : Bool) → has_ended (plain c.self.inside.party) ≡ ended → needs (plain c.turn.new.party) * c.turn.new.log.spare ≤ c.turn.new.spares.boxes
  stock true e =
      let (_, _, _, log, spares) = c.turn.ensures.ended e in
      let spare = ap (λ (l : PlainLog). l.spare) log in
      let boxes = ap (λ (s : PlainSpares). s.boxes) spares in
      rw (c.turn.ensures.needs, spare, boxes) c.self.invariant.stock
  stock false e =
      let (_, _, _, _, _, log, _, _) = c.turn.ensures.went e in
      let spare = ap (λ (l : PlainLog). l.spare) log in
      rw (c.turn.ensures.needs, spare) (stock_left (needs (plain c.self.inside.party)) c.self.inside.log.spare c.self.inside.spares.boxes c.turn.new.spares.boxes room c.self.invariant.stock c.turn.ensures.least)

pub returns-clause-told : goal.returns-clause-told
returns-clause-told g c =
    subst (λ (s : SeenPost). has_ended s.plain.party ≡ false → (e : Entry) × (c.turn.new.log.entries ≡ s.plain.entries ++ e ∷ []) × (c.turn.result ≡ turn_of e.answer)) c.self.view_is (λ goes.
    let (a, _, _, _, _, log, told, _) = c.turn.ensures.went goes in
    (_, ap (λ (l : PlainLog). l.entries) log, told))

pub returns-clause-turned : goal.returns-clause-turned
returns-clause-turned g c = subst (λ (s : SeenPost). HasTurned nodes now 1 s (record { plain = t; spare = c.turn.new.log.spare; room = vec_capacity c.self.inside.numbers })) c.self.view_is (record {
  turns = turns (has_ended (plain c.self.inside.party)) refl;
  spare = spare (has_ended (plain c.self.inside.party)) refl;
  room = refl;
}) where
  nodes : List PlainNodeQueues
  nodes = c.args.queues.now

  now : ℕ
  now = c.args.now

  s : PlainPost
  s = record { who = c.self.inside.who; party = plain c.self.inside.party; entries = c.self.inside.log.entries; ends = c.self.inside.ends }

  t : PlainPost
  t = record { who = c.self.inside.who; party = plain c.turn.new.party; entries = c.turn.new.log.entries; ends = c.turn.new.deck.ends.now }

  turns : (ended : Bool) → has_ended (plain c.self.inside.party) ≡ ended → AreTurns nodes now 1 s t
  turns true e =
      let (_, party, deck, log, _) = c.turn.ensures.ended e in
      ended_turn nodes now 1 s t e refl (ap plain party) (ap (λ (l : PlainLog). l.entries) log) ((λ i. (deck i).ends.now) ∙ c.new-deck.ensures.ends)
  turns false e =
      let (a, served, fits, _, party, log, _, held) = c.turn.ensures.went e in
      let o = asks (plain c.self.inside.party) now in
      let own = subst (λ (n : List PlainNodeQueues). Serves n c.self.inside.ends o a c.turn.new.deck.ends.now) c.new-deck.ensures.queues
      (subst (λ (e : PlainEnds). Serves c.new-deck.result.queues.now e o a c.turn.new.deck.ends.now) c.new-deck.ensures.ends served.0) in
      one_turn nodes now s t a e fits refl
      (ap plain party ∙ plain_told c.self.inside.party now a)
      (ap (λ (l : PlainLog). l.entries) log ∙ ap (λ (told : List Event). c.self.inside.log.entries ++ entry_of now o a told ∷ []) (events_told c.self.inside.party now a))
      own.ends own.cause held

  spare : (ended : Bool) → has_ended (plain c.self.inside.party) ≡ ended → c.self.inside.log.spare ≤ c.turn.new.log.spare + 1
  spare true e =
      let (_, _, _, log, _) = c.turn.ensures.ended e in
      let same = ap (λ (l : PlainLog). l.spare) log in
      omega (arith, same)
  spare false e =
      let (_, _, _, _, _, log, _, _) = c.turn.ensures.went e in
      let less = ap (λ (l : PlainLog). l.spare) log in
      omega (arith, less)

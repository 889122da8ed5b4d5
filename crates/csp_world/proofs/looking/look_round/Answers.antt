use Rattle.std.proofs.Common.{◌/◌, sym, subst, length, List}
use Rattle.std.specs.Prelude.{All, IsSome}
use Rattle.csp_deck.specs.Circles.{LooksInto}
use Rattle.csp_log.specs.declared.places.QueueId.{QueueId}
use Rattle.csp_nodes.specs.DecksAt.{DecksAt, rule_at}
use Rattle.csp_party.specs.Any.{plain, uses}
use Rattle.csp_world.specs.Looking.{AreEmpty}
use Rattle.csp_world.specs.Seen.{plain_member}
use Rattle.csp_world.proofs.LookingLemmas.{any_steps, makes_round, makes_same, served_all}
use Rattle.csp_world.proofs.looking.look_round.Goals as goal

pub returns-then-not-member-clause-turns : goal.returns-then-not-member-clause-turns
returns-then-not-member-clause-turns c = makes_same c.args.decks.now.decks c.args.decks.now.links c.args.time (plain_member c.args.member.now)

pub returns-then-is_empty-clause-turns : goal.returns-then-is_empty-clause-turns
returns-then-is_empty-clause-turns c = makes_same c.args.decks.now.decks c.args.decks.now.links c.args.time (plain_member c.args.member.now)

pub are_empty-requires : goal.are_empty-requires
are_empty-requires c =
    let queues = c.as_slice-queues.result.now in
    let used : All (λ q. IsSome (uses (plain c.args.member.now.party) q)) queues = subst (All (λ q. IsSome (uses (plain c.args.member.now.party) q))) (sym c.as_slice-queues.ensures.value) c.circle-circle.ensures.served in
    record {
      served = subst (λ (d : DecksAt). All (λ q. IsSome (rule_at d q)) queues) (sym c.serve.ensures) (served_all (uses (plain c.args.member.now.party)) (rule_at (record c.args.decks.now { whose = c.args.member.now.who })) queues c.requires.fit.served used);
    }

pub returns-then-not-are_empty-clause-turns : goal.returns-then-not-are_empty-clause-turns
returns-then-not-are_empty-clause-turns c = makes_same c.args.decks.now.decks c.args.decks.now.links c.args.time (plain_member c.args.member.now)

pub returns-clause-turns : goal.returns-clause-turns
returns-clause-turns c =
    let queues = c.as_slice-queues.result.now in
    let m = c.args.member.now in
    let looks : LooksInto any_steps c.args.time m.party queues m.party = subst (λ (qs : List QueueId). LooksInto any_steps c.args.time m.party qs m.party) (sym c.as_slice-queues.ensures.value) c.circle-circle.ensures.looks in
    let empty : AreEmpty (record c.args.decks.now { whose = m.who }) queues = subst (λ (d : DecksAt). AreEmpty d queues) c.serve.ensures (c.are_empty.ensures.empty c.if-not-are_empty.false) in
    rw (c.log_rounds.ensures.entries)
    (makes_round (c.args.most / length queues) queues c.args.decks.now.decks c.args.decks.now.links c.args.time m.who m.party m.log.entries looks empty)

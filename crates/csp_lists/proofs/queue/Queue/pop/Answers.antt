use Rattle.std.proofs.Common.{◌≡◌, [], ◌∷◌, map, Option, Some, None, MatchOption, ap}
use Rattle.std.specs.Prelude.{All}
use Rattle.std.proofs.lemmas.List.Elements.{All-head}
use Rattle.csp_deck.specs.Carried.{IsCarried}
use Rattle.csp_deck.specs.Regions.{IsItemOf}
use Rattle.csp_lists.specs.PlainDeck.{PlainQueue, refilled}
use Rattle.csp_lists.specs.PlainFifo.{PlainFifo}
use Rattle.csp_lists.specs.Regioned.{shown_pop}
use Rattle.csp_log.specs.Pictures.{shown_item}
use Rattle.csp_log.specs.declared.item.Item.{Item}
use Rattle.csp_log.specs.declared.places.Place.{Place}
use Rattle.csp_log.specs.declared.places.Rule.{Rule}
use Rattle.csp_lists.proofs.Fifos.{Pops, pops_all, pops_one, pops_room, pops_fits}
use Rattle.csp_lists.proofs.queue.Queue.pop.Goals as goal

-- a fifo's queue at this place and under this rule
abbrev queue_of : Place → Rule → PlainFifo Item → PlainQueue
queue_of p r f = record { place = p; rule = r; room = f.room; items = map shown_item f.items }

popped_so : (p : Place) (r : Rule) (old new : PlainFifo Item) (o : Option Item) → Pops old new o → All (λ i. IsCarried r (shown_item i)) old.items
    → MatchOption (shown_pop o) (((queue_of p r old).items ≡ []) × (queue_of p r new ≡ queue_of p r old))
    (λ i. ((queue_of p r old).items ≡ i ∷ (queue_of p r new).items) × (queue_of p r new ≡ refilled (queue_of p r old) (queue_of p r new).items) × IsCarried r i)
popped_so p r old new None pops all = (ap (map shown_item) pops.0, ap (queue_of p r) pops.1)
popped_so p r old new (Some i) pops all = (ap (map shown_item) pops.0, ap (queue_of p r) pops.1, All-head (λ i. IsCarried r (shown_item i)) i new.items (rw pops.0 at all))

pub invariant_of-self : goal.invariant_of-self
invariant_of-self c =
    let old = c.self.inside in
    let kept = c.self.invariant in
    let pops = c.pop.ensures.answer in
    let room = pops_room old.fifo c.pop.new.self c.pop.result pops in
    record {
      carried = pops_all (λ i. IsCarried old.rule (shown_item i)) old.fifo c.pop.new.self c.pop.result pops kept.carried;
      of_it = pops_all (IsItemOf old.token.name) old.fifo c.pop.new.self c.pop.result pops kept.of_it;
      fits = pops_fits old.fifo c.pop.new.self c.pop.result pops kept.fits;
      shown = kept.shown;
      shown_room = rw room kept.shown_room;
      numbers = kept.numbers;
      numbers_room = rw room kept.numbers_room;
    }

pub returns-clause-answer : goal.returns-clause-answer
returns-clause-answer c = rw (← c.self.view_is) (popped_so c.self.inside.place c.self.inside.rule c.self.inside.fifo c.pop.new.self c.pop.result c.pop.ensures.answer c.self.invariant.carried)

pub returns-clause-of_it : goal.returns-clause-of_it
returns-clause-of_it c = rw (← c.self.view_is) (pops_one (IsItemOf c.self.inside.token.name) c.self.inside.fifo c.pop.new.self c.pop.result c.pop.ensures.answer c.self.invariant.of_it)

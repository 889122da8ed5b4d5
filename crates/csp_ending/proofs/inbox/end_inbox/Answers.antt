use Rattle.csp_deck.specs.Carried.{IsInboxItem}
use Rattle.csp_deck.specs.Regions.{IsItemOf}
use Rattle.csp_log.specs.Pictures.{shown_item}
use Rattle.csp_log.specs.declared.item.Item.{Item}
use Rattle.csp_ending.proofs.Sorting.{all_drawn, all_of_it, all_packets, drawn, inbox_ends}
use Rattle.csp_ending.proofs.inbox.end_inbox.Goals as goal

pub sort-requires-clause-packets : goal.sort-requires-clause-packets
sort-requires-clause-packets g c =
    let h = c.close.ensures in
    all_drawn (λ (i : Item). IsInboxItem (shown_item i)) c.close.new.into.items h.left (drawn _ _ h.left c.room.invariant.0 h.appended)
    (λ p. all_packets c.args.pass.role.token.name p (h.left p) (h.each p).carried)

pub sort-requires-clause-of_it : goal.sort-requires-clause-of_it
sort-requires-clause-of_it g c =
    let h = c.close.ensures in
    all_drawn (IsItemOf c.args.store.now.region) c.close.new.into.items h.left (drawn _ _ h.left c.room.invariant.0 h.appended)
    (λ p. all_of_it c.args.pass.role.token.name c.args.store.now.region p (h.left p) c.requires.region (h.each p).carried)

pub returns : goal.returns
returns g c =
    inbox_ends c.args.inbox c.args.pass c.args.node c.args.notes.now c.note.new.notes c.args.store.now c.sort.new.store _ _ _ _ c.requires.of_it c.close.ensures
    c.room.invariant.0 c.room.invariant.2 c.sort.ensures.slates c.sort.ensures.back c.note.ensures.notes c.note.ensures.rooms

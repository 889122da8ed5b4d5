-- Where what an interface fetches is marked with the address of a next hop or not at all, each of its transmissions goes next to a node with an address.
use Rattle.std.proofs.Common.{◌≡◌, ℕ, ◌==◌, ◌<◌, Bool, true, false, Option, None, Some, List, [], ◌∷◌, filter_map, slice_get, unwrap_or, refl, ap, subst, arith}
use Rattle.std.proofs.lemmas.Bool.{eqb-false}
use Rattle.std.specs.List.{AllByRecursion, list_any}
use Rattle.std.specs.Prelude.{if◌then◌else◌}
use Rattle.csp_deck.specs.Runs.{IsRun}
use Rattle.csp_header.specs.Word.{header_at}
use Rattle.csp_iface.specs.Sending.{next_node}
use Rattle.csp_log.specs.declared.entry.Entry.{Entry}
use Rattle.csp_log.specs.declared.places.LinkKind.{LinkKind}
use Rattle.csp_log.specs.declared.places.QueueId.TheVariants as queue
use Rattle.csp_log.specs.declared.places.TheConstants.{UNMARKED}
use Rattle.csp_log.specs.declared.shown.AnswerShown.{AnswerShown}
use Rattle.csp_log.specs.declared.shown.AnswerShown.TheVariants as answer
use Rattle.csp_log.specs.declared.shown.ItemShown.TheVariants as item
use Rattle.csp_log.specs.declared.shown.OpShown.{OpShown}
use Rattle.csp_log.specs.declared.shown.OpShown.TheVariants as op
use Rattle.csp_party.specs.Any.{an_iface}
use Rattle.csp_record.specs.Transmissions.{is_beginning}
use Rattle.csp_log.specs.declared.who.Who.TheVariants as who
use Rattle.csp_stack.specs.Comes.{IsHop}
use Rattle.csp_topology.specs.Parties.{iface_opening, party_steps}
use Rattle.csp_consistent.specs.Addressed.{IsHopItem, addressed_in, goes_to}
use Rattle.csp_consistent.specs.Queues.{MayAsk}
use Rattle.csp_consistent.specs.Reading.{got_by, gets}
use Rattle.csp_consistent.proofs.Public.{each_first, each_last, first_given, own_run, came}

-- a next hop and a destination are addresses of 5 bits
next_low : (mark header : ℕ) → IsHop mark → next_node mark header < 32
next_low mark header hop =
    by (mark == UNMARKED) refl
  where
    by : (b : Bool) → (mark == UNMARKED) ≡ b → (if b then (header_at header).dst else mark) < 32
    by true is = omega arith
    by false is = hop (eqb-false mark UNMARKED is)

-- so is where a turn of an interface sends what it fetches
goes_low : (node number : ℕ) (o : OpShown) (a : AnswerShown) (to : ℕ) → MayAsk (who.Iface node number) o → AllByRecursion IsHopItem (got_by (queue.Out number) o a) → goes_to o a ≡ Some to → to < 32
goes_low node number (op.Pop (queue.Out k)) (answer.Popped (item.Packet mark b)) to own got is =
    let here : IsHop mark = came IsHopItem number (item.Packet mark b) (subst (λ n. AllByRecursion IsHopItem (got_by (queue.Out number) (op.Pop (queue.Out n)) (answer.Popped (item.Packet mark b)))) own got) in
    let same : next_node mark b.header ≡ to = ap (λ o. unwrap_or o to) is in
    subst (λ n. n < 32) same (next_low mark b.header here)
goes_low node number _ _ to own got is = absurd cc

shown_low : (node number serial : ℕ) (es : List Entry) → AllByRecursion (λ e. MayAsk (who.Iface node number) e.op) es → AllByRecursion IsHopItem (gets (queue.Out number) es)
    → AllByRecursion (λ e. (to : ℕ) → addressed_in serial e ≡ Some to → to < 32) es
shown_low node number serial [] own got = tt
shown_low node number serial (e ∷ es) own got =
    (by (list_any (is_beginning serial) e.events.items), shown_low node number serial es own.1 (each_last IsHopItem (got_by (queue.Out number) e.op e.answer) (gets (queue.Out number) es) got))
  where
    by : (b : Bool) (to : ℕ) → (if b then goes_to e.op e.answer else None) ≡ Some to → to < 32
    by true to is = goes_low node number e.op e.answer to own.0 (each_first IsHopItem (got_by (queue.Out number) e.op e.answer) (gets (queue.Out number) es) got) is
    by false to is = absurd cc

-- and where the transmission of a serial goes next that its entries show
pub goes_next_low : (node number : ℕ) (kind : LinkKind) (mtu : ℕ) (heeds : Option ℕ) (es : List Entry) → IsRun party_steps 0 (an_iface (iface_opening node number kind mtu heeds)) es
    → AllByRecursion IsHopItem (gets (queue.Out number) es) → (n to : ℕ) → slice_get (filter_map (addressed_in n) es) 0 ≡ Some to → to < 32
goes_next_low node number kind mtu heeds es run got n to is =
    first_given (λ m. m < 32) (addressed_in n) es to is
    (shown_low node number n es (own_run (who.Iface node number) 0 (an_iface (iface_opening node number kind mtu heeds)) es refl run) got)

use Rattle.std.proofs.Common.{◌≡◌, ℕ, ◌+◌, ◌-◌, rules, tests, arith, ◌∙◌, ap, ap₂, drop, sym, take}
use Rattle.std.proofs.lemmas.Iterator.Consumers.{YieldsList-from_filter, count_from_yields_List}
use Rattle.std.proofs.lemmas.Iterator.{YieldsList-from_slice}
use Rattle.std.proofs.lemmas.List.Sums.{length-filter}
use Rattle.csp_base.specs.Seat.{seat}
use Rattle.csp_base.specs.declared.limits.TheConstants.{SLOTS}
use Rattle.csp_conn.specs.PlainConns.{place_of}
use Rattle.csp_deck.specs.Regions.{nowhere}
use Rattle.csp_ports.proofs.Stalling.{stalls_of_map}
use Rattle.csp_ports.specs.PlainPorts.{PortsAt, has_stalled, stalls_of}
use Rattle.csp_ports.proofs.ports.Ports.stalled.Goals as goal

pub returns : goal.returns
returns c =
    let rs = c.self.inside.slots.items in
    let app = c.args.app in
    let first = c.place-first.result in
    let own = take SLOTS (drop (place_of (seat app 0)) rs) in
    let four : (first + SLOTS) - first ≡ SLOTS = omega arith in
    let is : c.filter.result.iter.rest.now ≡ own =
    ap (λ x. x.rest.now) c.filter.ensures.source ∙ (c.iter.ensures.rest ∙ (ap (λ (n : ℕ). take n (drop first c.as_slice-slots.result.now)) four ∙ ap₂ (λ k l. take SLOTS (drop k l)) c.place-first.ensures.value c.as_slice-slots.ensures.value)) in
    count_from_yields_List c.filter.result c.count.result c.count.ensures.ran
    (YieldsList-from_filter _ has_stalled (YieldsList-from_slice own is) c.filter.ensures.closure (λ x b q h. search (rules, tests)))
    ∙ length-filter has_stalled own
    ∙ sym (stalls_of_map app nowhere rs)
    ∙ ap (λ (x : PortsAt). stalls_of app x.ports.slots) c.self.view_is

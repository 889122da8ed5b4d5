use Rattle.std.proofs.Common.{◌≡◌, ◌<◌, ℕ, Some, get_or, length, map, refl, sym, ap, ◌∙◌, arith}
use Rattle.std.proofs.lemmas.Option.{slice_get-get_or}
use Rattle.csp_closing.proofs.Parting.{node_some, party_there, pile_there, piles_back}
use Rattle.csp_closing.specs.Retired.{rest_of}
use Rattle.csp_closing.specs.Stores.{back_at, pile_of}
use Rattle.csp_party.specs.Any.{holds, plain}
use Rattle.csp_log.specs.Who.{node_of}
use Rattle.csp_closing.proofs.parties.end_party.Goals as goal

pub returns-in-Some-clause-stores : goal.returns-in-Some-clause-stores
returns-in-Some-clause-stores c =
    let all = c.args.stores.now in
    let r = rest_of c.args.party in
    let node : node_of r.who ≡ Some c.in-Some.node = node_some r (c.in-Some.node, c.in-Some.place) (sym c.home.ensures ∙ c.in-Some.is) in
    let within = pile_there all r c.in-Some.node node c.requires.can.pile in
    let few : c.from.result < length all = omega (arith, within, c.from.ensures) in
    let at = slice_get-get_or all c.from.result c.index-stores-from.result few in
    piles_back all c.from.result (get_or all c.from.result c.index-stores-from.result) _ (holds (plain c.args.party.party)) at c.take_held.ensures.back refl refl refl
    ∙ ap (λ (k : ℕ). back_at k (holds (plain c.args.party.party)) (map pile_of all)) c.from.ensures
    ∙ sym (party_there r (map pile_of all) c.in-Some.node node)

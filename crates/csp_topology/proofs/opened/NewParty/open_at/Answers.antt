use Rattle.std.proofs.Common.{◌≡◌, ◌<◌, ℕ, Option, Some, length, refl, sym, subst, ap, ◌∙◌, arith}
use Rattle.std.specs.Prelude.{IfSome, slice_get}
use Rattle.std.proofs.lemmas.Option.{slice_get_read}
use Rattle.csp_log.specs.Who.{node_of}
use Rattle.csp_topology.proofs.NewParties.{opened_apart, opened_if}
use Rattle.csp_topology.specs.Opening.{opening_of}
use Rattle.csp_topology.proofs.opened.NewParty.open_at.Goals as goal

pub returns-in-Some-clause-opened : goal.returns-in-Some-clause-opened
returns-in-Some-clause-opened c =
    let nodes = c.args.nodes.now in
    let place = c.in-Some.place in
    let who : node_of (opening_of c.args.opening).who ≡ Some place = ap node_of (sym c.who.ensures) ∙ sym c.node.ensures ∙ c.in-Some.is in
    let low : place < length nodes = subst (λ (o : Option ℕ). IfSome o (λ node. node < length nodes)) who c.requires.there in
    let from = c.from.ensures in
    let at : slice_get nodes place ≡ Some c.index-nodes-from.result =
    ap (slice_get nodes) (sym from) ∙ slice_get_read nodes (length nodes) c.from.result c.index-nodes-from.result refl (omega (arith, low, from)) c.index-nodes-from.is in
    opened_if nodes c.args.opening place c.index-nodes-from.result c.copy.result c.open.result who at c.copy.ensures c.open.ensures.name c.open.ensures.region c.open.ensures.unnoted c.open.ensures.numbers

pub returns-in-None-clause-opened : goal.returns-in-None-clause-opened
returns-in-None-clause-opened c =
    opened_apart c.args.nodes.now c.args.opening c.open-in-None.result (ap node_of (sym c.who.ensures) ∙ sym c.node.ensures ∙ c.in-None.is) c.open-in-None.ensures.name c.open-in-None.ensures.region c.open-in-None.ensures.unnoted c.open-in-None.ensures.numbers

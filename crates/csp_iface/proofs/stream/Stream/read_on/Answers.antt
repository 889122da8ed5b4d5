use Rattle.std.proofs.Common.{◌≡◌, ◌<◌, Some, length, sym, ◌∙◌, subst}
use Rattle.csp_iface.specs.Keeping.{PlainStream}
use Rattle.csp_iface.specs.Stocking.{read_stock}
use Rattle.csp_kiss.specs.GoingOn.{read_on}
use Rattle.csp_iface.proofs.Circling.{some_left}
use Rattle.csp_iface.proofs.stream.Stream.read_on.Goals as goal

pub returns-in-Some-clause-stock : goal.returns-in-Some-clause-stock
returns-in-Some-clause-stock c =
    let here : c.self.inside.frame ≡ Some c.in-Some.frame = sym c.take.ensures.value ∙ c.in-Some.is in
    let left : c.self.inside.at < length c.in-Some.frame.bytes.items = rw here at c.self.invariant in
    subst (λ (p : PlainStream). c.read_in.new.spares ≡ read_stock p.rest (read_on p.reading p.rest).left c.args.spares.now) c.self.view_is
    (rw (here, some_left c.self.inside.at c.in-Some.frame.bytes.items left) c.read_in.ensures.stock)

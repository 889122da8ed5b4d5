use Rattle.std.proofs.Common.{ap, sym, ◌∙◌}
use Rattle.csp_rdp_header.specs.Numbers.{is_malformed}
use Rattle.csp_rdp_window.specs.Receiving.{is_awaited}
use Rattle.csp_rdp.proofs.RowLemmas.{data-fresh, entered-recv, list-read}
use Rattle.csp_rdp.proofs.rdp.Rdp.step.Goals as goal

pub hear_list-requires : goal.hear_list-requires
hear_list-requires c = ap is_malformed c.payload.ensures.value ∙ list-read c.args.self.now c.args.head c.args.packet.picture.payload c.args.now (sym c.requires.row ∙ c.in-Lists.is)

pub keep-requires-clause-awaited : goal.keep-requires-clause-awaited
keep-requires-clause-awaited c =
    let fresh = data-fresh c.args.self.now c.args.head c.args.packet.picture.payload c.in-Data.index c.args.now (sym c.requires.row ∙ c.in-Data.is) in
    ap (λ r. is_awaited r.recv c.in-Data.index) (c.hear-inside-in-Data.ensures.state)
    ∙ ap (λ r. is_awaited r.recv c.in-Data.index) c.enter-in-Data.ensures.state
    ∙ ap (λ w. is_awaited w c.in-Data.index) (entered-recv c.args.self.now.state c.args.now c.args.self.now)
    ∙ fresh.awaited

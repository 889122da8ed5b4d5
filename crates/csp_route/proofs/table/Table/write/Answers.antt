use Rattle.std.proofs.Common.{◌≡◌, ◌++◌, [], map, length, ap, ◌∙◌}
use Rattle.std.specs.String.{string_bytes}
use Rattle.csp_route.specs.Written.{joined, row_text, written}
use Rattle.csp_route.specs.Text.{names_of, parsed}
use Rattle.csp_route.proofs.Texts.{within}
use Rattle.csp_route.proofs.RoundTrip.{reads_back}
use Rattle.csp_route.proofs.table.Table.write.Goals as goal

pub push_rows-requires : goal.push_rows-requires
push_rows-requires c = within (length c.args.ifaces.now) c.rows.result.now c.args.self.now c.rows.ensures.entries c.requires

pub returns-clause-parses : goal.returns-clause-parses
returns-clause-parses c =
    let text : string_bytes c.push_rows.new.out ≡ written (names_of c.args.ifaces.now) c.args.self.now = c.in_ok-push_rows.ensures.text ∙ (λ i. c.new-out.ensures.bytes i ++ joined [] (map (row_text (names_of c.args.ifaces.now)) (c.rows.ensures.entries i))) in
    λ apart. ap (parsed (names_of c.args.ifaces.now)) text
    ∙ reads_back c.args.ifaces.now c.rows.result.now c.args.self.now c.rows.ensures.kept c.rows.ensures.entries c.rows.ensures.most c.in_ok-push_rows.ensures.writable c.requires apart

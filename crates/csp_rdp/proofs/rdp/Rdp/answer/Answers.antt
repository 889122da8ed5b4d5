use Rattle.std.proofs.Common.{◌∙◌, ap, arith}
use Rattle.csp_rdp.proofs.SoundLemmas.{unopened-kept, unopened-opening}
use Rattle.csp_rdp.proofs.rdp.Rdp.answer.Goals as goal

pub end-requires : goal.end-requires
end-requires c =
    let un = unopened-kept c.self.inside.state c.self.inside.recv (ap (λ r. r.state) c.self.view_is ∙ c.requires) c.self.invariant.unopened in
    rw c.replace.ensures.value un.0

pub invariant_of-self : goal.invariant_of-self
invariant_of-self c =
    let un = unopened-kept c.self.inside.state c.self.inside.recv (ap (λ r. r.state) c.self.view_is ∙ c.requires) c.self.invariant.unopened in
    let opening = c.replace.ensures.after ∙ c.new-window.ensures in
    let cur = ap (λ w. w.cur) opening in
    let counted = c.self.invariant.counted in
    record {
      low = c.self.invariant.low;
      high = c.self.invariant.high;
      short = c.self.invariant.short;
      unopened = rw opening (unopened-opening c.self.inside.state c.args.other.0 c.self.inside.options.window);
      packets = c.self.invariant.packets;
      counted = omega (arith, counted, un.1, cur);
    }

use Rattle.std.proofs.Common.{◌∙◌, ap}
use Rattle.csp_rdp.specs.Holding.{rdp_numbers}
use Rattle.csp_rdp.proofs.SoundLemmas.{first-empty, second-empty}
use Rattle.csp_rdp.proofs.rdp.Rdp.end.Goals as goal

pub end-requires : goal.end-requires
end-requires c = first-empty (λ p. p.buffer.picture.number) c.self.inside.send.packets _ (ap rdp_numbers c.self.view_is ∙ c.requires)

pub end-requires-2 : goal.end-requires-2
end-requires-2 c = second-empty (λ k. k.buffer.picture.number) _ c.self.inside.recv.kept (ap rdp_numbers c.self.view_is ∙ c.requires)

use Rattle.std.proofs.Common.{ap, ◌∙◌, sym}
use Rattle.std.specs.List.{list_all}
use Rattle.std.proofs.lemmas.List.Folds.{list_all-map}
use Rattle.csp_party.specs.Any.{plain, is_done}
use Rattle.csp_world.specs.Seen.{plain_member}
use Rattle.csp_world.specs.World.{PlainMember, finished}
use Rattle.csp_world.proofs.world.World.finished.Goals as goal

pub returns : goal.returns
returns c =
    c.all_done.ensures
    ∙ ap (λ items. list_all (λ m. is_done (plain m.party)) items) c.as_slice.ensures.value
    ∙ sym (list_all-map (λ (m : PlainMember). is_done m.party) plain_member c.self.inside.members.items)
    ∙ ap (λ w. finished w.plain) c.self.view_is

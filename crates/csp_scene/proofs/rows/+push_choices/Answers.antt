use Rattle.std.proofs.Common.{arith, ◌≡◌, ◌++◌, ◌∙◌}
use Rattle.csp_scene.specs.Table.{fixed_of, group_of}
use Rattle.csp_scene.proofs.Shapes.{among_without, among_with, fixed_first}
use Rattle.csp_scene.proofs.rows.+push_choices.Goals as goal

pub push_choices-requires : goal.push_choices-requires
push_choices-requires t c = (omega arith, (c.requires.fixed, among_without c.args.shape.now c.args.optional.now _ c.in-len1-up.len_at_least c.requires.among))

pub push_choices-requires-in-len1-up : goal.push_choices-requires-in-len1-up
push_choices-requires-in-len1-up t c =
    let longer : c.deref.result.now ≡ c.args.shape.now ++ group_of _ = c.deref.ensures.value ∙ c.in_ok-longer-in-len1-up.ensures in
    (omega arith, (fixed_first (fixed_of c.args.form) c.args.shape.now _ _ c.requires.fixed longer, among_with c.args.shape.now _ c.args.optional.now _ _ c.in-len1-up.len_at_least longer c.requires.among))

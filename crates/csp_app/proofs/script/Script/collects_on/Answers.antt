use Rattle.std.proofs.Common.{◌≡◌, sym}
use Rattle.csp_app.proofs.Scripts.{same_collects}
use Rattle.csp_app.proofs.script.Script.collects_on.Goals as goal

pub returns : goal.returns
returns c = rw (c.any_collects.ensures, c.deref.ensures.value, ← c.self.view_is) (sym (same_collects c.args.slot c.self.inside.bytes.items c.self.inside.steps.items))

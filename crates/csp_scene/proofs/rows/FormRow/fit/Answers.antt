use Rattle.std.proofs.Common.{◌≡◌, ◌≤◌, true, subst, map, length}
use Rattle.std.proofs.lemmas.List.{length-map}
use Rattle.csp_scene.specs.Checks.{has_count}
use Rattle.csp_scene.specs.Kept.{IsShapeOf}
use Rattle.csp_scene.proofs.Shapes.{counted, Fits-from_shape, FitsShape-from_shape}
use Rattle.csp_scene.proofs.rows.FormRow.fit.Goals as goal

pub returns-clause-fits : goal.returns-clause-fits
returns-clause-fits c =
    let is = subst (λ row. IsShapeOf row.form row.shape) c.self.view_is c.self.invariant in
    let count : length c.args.self.now.shape ≤ length (map (λ word. word.now) c.args.args.now) = rw length-map (counted c.args.self.now.shape (length c.args.args.now) c.requires) in
    Fits-from_shape _ c.args.self.now.shape (map (λ word. word.now) c.args.args.now) is count (cc) (cc)

pub returns-clause-shape : goal.returns-clause-shape
returns-clause-shape c =
    let is = subst (λ row. IsShapeOf row.form row.shape) c.self.view_is c.self.invariant in
    let words : has_count c.args.self.now.shape (length (map (λ word. word.now) c.args.args.now)) ≡ true = rw length-map c.requires in
    FitsShape-from_shape _ c.args.self.now.shape (map (λ word. word.now) c.args.args.now) is words (cc)

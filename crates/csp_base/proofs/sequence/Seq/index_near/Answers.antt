use Rattle.std.proofs.Common.{◌≡◌, ◌+◌, ◌<◌, pos, sym, ap, ◌∙◌, arith, rules}
use Rattle.std.proofs.lemmas.Int.{ints}
use Rattle.csp_base.specs.Sequence.{number_of, ahead_of}
use Rattle.csp_base.proofs.SequenceLaws.{near_is_near, near_is, near-ahead, near-behind}
use Rattle.csp_base.proofs.sequence.Seq.index_near.Goals as goal

pub returns-then-distance-lt32768-clause-index : goal.returns-then-distance-lt32768-clause-index
returns-then-distance-lt32768-clause-index c =
    let is : c.from-distance.result ≡ ahead_of (number_of c.args.start.0 (pos c.args.around)) c.args.self.0 = search rules in
    let fits : c.args.self.0 < 65536 = search rules in
    near-ahead c.args.self.0 c.args.start.0 (pos c.args.around) fits (omega arith) ∙ ap (λ d. pos (c.args.around + d)) (sym is)

pub returns-then-distance-lt32768-clause-exists : goal.returns-then-distance-lt32768-clause-exists
returns-then-distance-lt32768-clause-exists c = near_is_near _ _ _ (search rules)

pub returns-then-distance-lt32768-clause-one : goal.returns-then-distance-lt32768-clause-one
returns-then-distance-lt32768-clause-one c = near_is c.args.self.0 c.args.start.0 (pos c.args.around)

pub returns-else-distance-lt32768-clause-index : goal.returns-else-distance-lt32768-clause-index
returns-else-distance-lt32768-clause-index c =
    let is : c.from-distance.result ≡ ahead_of (number_of c.args.start.0 (pos c.args.around)) c.args.self.0 = search rules in
    let fits : c.args.self.0 < 65536 = search rules in
    let e = near-behind c.args.self.0 c.args.start.0 (pos c.args.around) fits (omega arith) in
    grind (arith, ints, e, is)

pub returns-else-distance-lt32768-clause-exists : goal.returns-else-distance-lt32768-clause-exists
returns-else-distance-lt32768-clause-exists c = near_is_near _ _ _ (search rules)

pub returns-else-distance-lt32768-clause-one : goal.returns-else-distance-lt32768-clause-one
returns-else-distance-lt32768-clause-one c = near_is c.args.self.0 c.args.start.0 (pos c.args.around)

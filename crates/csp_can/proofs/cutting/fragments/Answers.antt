use Rattle.std.proofs.Common.{length, ap, sym, subst, ◌∙◌, arith}
use Rattle.std.specs.List.{AllByRecursion}
use Rattle.std.proofs.lemmas.Grind.{common_steps}
use Rattle.csp_can.proofs.Own.{makes_only_read}
use Rattle.csp_can.specs.Frames.{IsOnBus}
use Rattle.csp_can.proofs.Whole.{fragments_whole, fragments_on_bus}
use Rattle.csp_can.proofs.CutLemmas.{fragments_length}
use Rattle.csp_can.proofs.cutting.fragments.Goals as goal

pub returns-clause-frames : goal.returns-clause-frames
returns-clause-frames c = grind (arith, common_steps)

pub returns-clause-count : goal.returns-clause-count
returns-clause-count c = ap length (returns-clause-frames c) ∙ fragments_length c.args.header c.args.payload.now c.args.dest c.args.id

pub returns-clause-chain : goal.returns-clause-chain
returns-clause-chain c =
    (fragments_whole c.args.header c.args.payload.now c.args.dest c.args.id _ c.ranges.header.fits c.encode.ensures.dest c.requires.id c.requires.payload (returns-clause-frames c)).0

pub returns-clause-alone : goal.returns-clause-alone
returns-clause-alone c mtu short =
    (fragments_whole c.args.header c.args.payload.now c.args.dest c.args.id _ c.ranges.header.fits c.encode.ensures.dest c.requires.id c.requires.payload (returns-clause-frames c)).1 mtu short

pub returns-clause-own : goal.returns-clause-own
returns-clause-own c =
    makes_only_read c.args.header c.args.payload.now c.args.dest c.args.id _ c.ranges.header.fits c.encode.ensures.dest c.requires.id c.requires.payload (returns-clause-frames c)

pub returns-clause-carried : goal.returns-clause-carried
returns-clause-carried c =
    subst (AllByRecursion IsOnBus) (sym (returns-clause-frames c))
    (fragments_on_bus c.args.header c.args.payload.now c.args.dest c.args.id c.encode.ensures.dest c.requires.id c.requires.payload)

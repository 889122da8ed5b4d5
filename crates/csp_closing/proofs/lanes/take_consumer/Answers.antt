use Rattle.std.proofs.Common.{set}
use Rattle.csp_closing.proofs.Handing.{IsTaken, taken_at}
use Rattle.csp_closing.proofs.lanes.take_consumer.Goals.{After-take_side}
use Rattle.csp_closing.proofs.lanes.take_consumer.Goals as goal

taken : (c : After-take_side) → IsTaken c.args.parties.now (set c.args.parties.now c.args.place c.take_side.new.party) c.args.place
taken c = taken_at c.args.parties.now c.args.place c.index-parties-place.result c.take_side.new.party c.take_side.result c.requires.0 c.requires.1 c.take_side.ensures.sides c.take_side.ensures.home c.take_side.ensures.rest

pub returns-clause-sides : goal.returns-clause-sides
returns-clause-sides c = (taken (goal.at.returns-clause-sides c).After-take_side).sides

pub returns-clause-homes : goal.returns-clause-homes
returns-clause-homes c = (taken (goal.at.returns-clause-homes c).After-take_side).homes

pub returns-clause-rest : goal.returns-clause-rest
returns-clause-rest c = (taken (goal.at.returns-clause-rest c).After-take_side).rest

use Rattle.std.specs.Option.{option_map}
use Rattle.csp_lane.proofs.lane.Lane.open.Given as goal

abbrev pub ghosts-part : goal.ghosts-part
ghosts-part a = record { terms = record { region = a.region.now.name; carries = a.carries; room = a.room; tally = a.tally.now.name; about = option_map (λ t. t.name) a.about.now } }

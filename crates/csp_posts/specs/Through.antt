-- What is true of what went through the ends of lanes that a party has, and of what did not.
use Rattle.std.specs.Prelude.{◌≡◌, true, List, []}
use Rattle.std.specs.List.{AllByRecursion}
use Rattle.csp_consistent.specs.Prompt.{AllAfter, HadNoRoom}
use Rattle.csp_deck.specs.Carried.{IsCarried}
use Rattle.csp_ends.specs.Ends.{PlainSide}
use Rattle.csp_log.specs.declared.entry.Entry.{Entry}
use Rattle.csp_log.specs.declared.places.Rule.TheVariants as rule

-- all that went through an end is what its lane carries
abbrev pub IsThrough : PlainSide → Type 0
IsThrough x = AllByRecursion (IsCarried (rule.Lane x.end.carries)) x.end.items

-- of an end that puts: a push was refused only after as many puts as the lane has room for
abbrev pub WasCrammed : List Entry → PlainSide → Type 0
WasCrammed es x = x.puts ≡ true → AllAfter (λ before e. HadNoRoom x.queue x.end.room before e.op e.answer) [] es

-- a link needs as many boxes after a turn as before
use Rattle.std.proofs.Common.{◌≡◌, ℕ, Bool, true, false, Option, Some, None, length, max, refl, ap}
use Rattle.std.specs.Prelude.{nat_le}
use Rattle.csp_link.specs.Fates.{Fates, most_copies}
use Rattle.csp_link.specs.Holding.{first_due}
use Rattle.csp_link.specs.PlainLink.{PlainDirection, PlainLink, direction, in_turn, with_direction}
use Rattle.csp_link.specs.Stocking.{needs}
use Rattle.csp_link.specs.Turns.{asked, first_rule, frame_back, frame_popped, kept, taken, tells, turn_in, turn_of}
use Rattle.csp_link.specs.declared.doing.Doing.{Doing}
use Rattle.csp_link.specs.declared.doing.Doing.TheVariants as doing
use Rattle.csp_link.specs.declared.held.Held.{Held}
use Rattle.csp_link.specs.declared.held.TheConstants.{MOST_HELD}
use Rattle.csp_link.specs.declared.way.Way.{Way}
use Rattle.csp_link.specs.declared.way.Way.TheVariants.{Forth, Back}
use Rattle.csp_log.specs.declared.frame.Frame.{Frame}
use Rattle.csp_log.specs.declared.shown.AnswerShown.{AnswerShown}

-- what a direction does leaves its fates as they are
fates_until : (way : Way) (now : ℕ) (due : Option (ℕ × Held)) (few : Bool) (d : PlainDirection) → (turn_of way now due d (first_rule due few)).until.fates ≡ d.fates
fates_until way now (Some p) few d = refl
fates_until way now None true d = refl
fates_until way now None false d = refl

fates_kept : (place due : ℕ) (found : Option Frame) (d : PlainDirection) → (kept place due found d).fates ≡ d.fates
fates_kept place due (Some frame) d = refl
fates_kept place due None d = refl

fates_taken : (now : ℕ) (found : Option Frame) (d : PlainDirection) → (taken now found d).fates ≡ d.fates
fates_taken now (Some frame) d = refl
fates_taken now None d = refl

fates_told : (way : Way) (now : ℕ) (t : Doing) (a : AnswerShown) (d : PlainDirection) → ((turn_of way now None d t).told a).fates ≡ d.fates
fates_told way now doing.Rest a d = refl
fates_told way now (doing.Push place due) a d = fates_kept place due (frame_back a) d
fates_told way now doing.Pop a d = fates_taken now (frame_popped a) d
fates_told way now doing.Wait a d = refl

needs_with : (s : PlainLink) (way : Way) (d : PlainDirection) → d.fates ≡ (direction s way).fates → needs (with_direction s way d) ≡ needs s
needs_with s Forth d e = ap (λ (fates : Fates). max (most_copies fates) (most_copies s.back.fates)) e
needs_with s Back d e = ap (λ (fates : Fates). max (most_copies s.forth.fates) (most_copies fates)) e

pub needs_asked : (s : PlainLink) (now : ℕ) → needs (asked s now) ≡ needs s
needs_asked s now = let d = in_turn s in needs_with s s.way (turn_in s.way now d).until (fates_until s.way now (first_due now d.held) (nat_le (length d.held) MOST_HELD) d)

pub needs_told : (s : PlainLink) (now : ℕ) (a : AnswerShown) → needs (tells s now a) ≡ needs s
needs_told s now a = needs_with s s.way ((turn_of s.way now None (in_turn s) s.doing).told a) (fates_told s.way now s.doing a (in_turn s))

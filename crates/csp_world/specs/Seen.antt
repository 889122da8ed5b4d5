-- What the program's parties are seen as, and what a turn comes to.
use Rattle.std.specs.Prelude.{ℕ, Bool, Option, None, Some, length, nat_lt, slice_get, if◌then◌else◌}
use Rattle.csp_base.specs.declared.turns.Turn.{Turn}
use Rattle.csp_base.specs.declared.turns.Turn.TheVariants as turn
use Rattle.csp_deck.specs.Step.{times}
use Rattle.csp_log.specs.Pictures.{turn_of}
use Rattle.csp_log.specs.declared.shown.AnswerShown.{AnswerShown}
use Rattle.csp_party.specs.Any.{has_ended, plain}
use Rattle.csp_world.specs.Holders.{holds_at}
use Rattle.csp_world.specs.World.{PlainMember, PlainWorld, answered}
use Rattle.csp_world.specs.declared.member.Member.{Member}

-- a party without the room of its lists and the region of its buffers
abbrev pub plain_member : Member → PlainMember
plain_member m = record { who = m.who; party = plain m.party; entries = m.log.entries }

-- whether a party is one of this node and holds the number
abbrev pub has_number : ℕ → ℕ → Member → Bool
has_number node k m = nat_lt 0 (times k (holds_at node (plain_member m)))

-- what the turn of a party is answered: none where it has ended
abbrev pub answer_for : PlainWorld → Option PlainMember → Option AnswerShown
answer_for w None = None
answer_for w (Some m) = (if has_ended m.party then None else Some (answered w.decks w.links w.time m).0)

-- what a turn of the party at this place is answered
unfoldable pub answer_at_place : PlainWorld → ℕ → Option AnswerShown
answer_at_place w place = answer_for w (slice_get w.members place)

-- what a turn comes to, by its answer
abbrev pub turn_told : Option AnswerShown → Turn
turn_told None = turn.Ended
turn_told (Some a) = turn_of a

-- how many entries the party's log has
abbrev pub log_len : Option PlainMember → ℕ
log_len None = 0
log_len (Some m) = length m.entries

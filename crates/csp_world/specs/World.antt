-- The world: the lists of each node, the ends of each link, every party with its entries, and the time. A step takes one party.
use Rattle.std.specs.Prelude.{ℕ, ◌+◌, Bool, Option, None, Some, List, [], ◌∷◌, ◌++◌, length, sum_by, slice_get, slice_set, if◌then◌else◌}
use Rattle.std.specs.List.{list_all}
use Rattle.csp_deck.specs.Step.{entry_of}
use Rattle.csp_lists.specs.PlainDeck.{PlainDeck}
use Rattle.csp_log.specs.declared.entry.Entry.{Entry}
use Rattle.csp_log.specs.declared.places.End.{End}
use Rattle.csp_log.specs.declared.shown.AnswerShown.{AnswerShown}
use Rattle.csp_log.specs.declared.shown.OpShown.{OpShown}
use Rattle.csp_log.specs.Weights.{weight_of_all}
use Rattle.csp_nodes.specs.Serving.{answer_in}
use Rattle.csp_party.specs.Any.{PlainParty, asks, asked, tells, events, has_ended, is_done}
use Rattle.csp_log.specs.declared.who.Who.{Who}

-- a party of a world: which it is, its state, and its turns so far, the oldest first
pub record PlainMember : Type 0 where
  pub who : Who
  pub party : PlainParty
  pub entries : List Entry

-- the pool and the queues of each node, the ends of each link, the parties in their order, and how many rounds are
-- complete
pub record PlainWorld : Type 0 where
  pub decks : List PlainDeck
  pub links : List (List End)
  pub members : List PlainMember
  pub time : ℕ

-- what the lists answer the party's operation at this time, and the lists after it
abbrev pub answered : List PlainDeck → List (List End) → ℕ → PlainMember → AnswerShown × List PlainDeck
answered decks links time m = answer_in decks links m.who (asks m.party time)

-- the party after the turn in which it asked this and was answered so: it is told the answer, and the turn is its
-- last entry
abbrev pub told_for : PlainMember → ℕ → OpShown → AnswerShown → PlainMember
told_for m time o a = record m {
  party = tells (asked m.party time) time a;
  entries = m.entries ++ entry_of time o a (events (asked m.party time) time a) ∷ [];
}

-- a party once it was told, with its entry
abbrev pub told : PlainMember → ℕ → AnswerShown → PlainMember
told m time a = told_for m time (asks m.party time) a

-- the turn of this party
abbrev pub turned_with : PlainWorld → ℕ → PlainMember → AnswerShown × List PlainDeck → PlainWorld
turned_with w place m answer = record w { decks = answer.1; members = slice_set w.members place (told m w.time answer.0) }

-- the world after the turn of a party that has not ended
abbrev pub turned : PlainWorld → ℕ → PlainMember → PlainWorld
turned w place m = turned_with w place m (answered w.decks w.links w.time m)

-- the world after the turn of the party at a place, if there is one
abbrev pub turn_at : PlainWorld → ℕ → Option PlainMember → PlainWorld
turn_at w place None = w
turn_at w place (Some m) = (if has_ended m.party then w else turned w place m)

-- the turn of the party at this place: nothing is done or logged where it has ended
unfoldable pub turn : PlainWorld → ℕ → PlainWorld
turn w place = turn_at w place (slice_get w.members place)

-- a round is complete
abbrev pub tick : PlainWorld → PlainWorld
tick w = record w { time = w.time + 1 }

-- every application has ended
abbrev pub finished : PlainWorld → Bool
finished w = list_all (λ m. is_done m.party) w.members

-- how many entries all logs have together
abbrev pub entries : PlainWorld → ℕ
entries w = sum_by (λ m. length m.entries) w.members

-- what the entries of all logs weigh together
abbrev pub weight : PlainWorld → ℕ
weight w = sum_by (λ m. weight_of_all m.entries) w.members

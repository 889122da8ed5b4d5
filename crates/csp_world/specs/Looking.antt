-- Turns that look into empty queues: they change nothing but the log.
use Rattle.std.specs.Prelude.{◌≡◌, ℕ, zero, suc, List, [], ◌++◌, Some, All, map, replicate, slice_get, slice_set}
use Rattle.csp_deck.specs.Step.{entry_of}
use Rattle.csp_lists.specs.PlainDeck.{PlainDeck}
use Rattle.csp_log.specs.declared.entry.Entry.{Entry}
use Rattle.csp_log.specs.declared.places.End.{End}
use Rattle.csp_log.specs.declared.places.QueueId.{QueueId}
use Rattle.csp_log.specs.declared.shown.AnswerShown.TheVariants as answer
use Rattle.csp_log.specs.declared.shown.OpShown.TheVariants as op
use Rattle.csp_nodes.specs.DecksAt.{DecksAt}
use Rattle.csp_nodes.specs.Serving.{answer_in}
use Rattle.csp_world.specs.Schedule.{turns}
use Rattle.csp_world.specs.World.{PlainMember, PlainWorld}

-- the entry of a look into a queue that was empty, of which nothing was reported
abbrev pub look_entry : ℕ → QueueId → Entry
look_entry time q = entry_of time (op.Pop q) answer.Empty []

-- those of looks into these queues one after the other, so many times round
unfoldable pub look_entries : ℕ → ℕ → List QueueId → List Entry
look_entries zero time qs = []
look_entries (suc n) time qs = look_entries n time qs ++ map (look_entry time) qs

-- these queues of the party whose turn it is are empty
abbrev pub AreEmpty : DecksAt → List QueueId → Type 0
AreEmpty d qs = All (λ q. answer_in d.decks d.links d.whose (op.Pop q) ≡ (answer.Empty, d.decks)) qs

-- in any world with these lists, at this time, so many turns of a party that is this make it that, and change nothing else
abbrev pub MakesOf : List PlainDeck → List (List End) → ℕ → ℕ → PlainMember → PlainMember → Type 0
MakesOf decks links time n m after = (w : PlainWorld) (place : ℕ) → w.decks ≡ decks → w.links ≡ links → w.time ≡ time → slice_get w.members place ≡ Some m
    → turns w (replicate n place) ≡ record w { members = slice_set w.members place after }

-- The parties of a threaded run, and what turns and meetings make of them.
use Rattle.std.specs.Prelude.{◌≡◌, ◌⊎◌, ◌+◌, ◌≤◌, ℕ, true, List, [], ◌++◌, length}
use Rattle.std.specs.List.{AllByRecursion}
use Rattle.csp_deck.specs.Runs.{IsRun, state_after, handed_over, received}
use Rattle.csp_deck.specs.Step as step
use Rattle.csp_ends.specs.Causes.{HaveCauses}
use Rattle.csp_ends.specs.Ends.{PlainNodeQueues, PlainEnds}
use Rattle.csp_ends.specs.Moves.{ends_after_all, room_for}
use Rattle.csp_log.specs.declared.entry.Entry.{Entry}
use Rattle.csp_party.specs.Any.{PlainParty, has_ended, holds}
use Rattle.csp_log.specs.declared.who.Who.{Who}
use Rattle.csp_topology.specs.Parties.{party_steps}

-- a party of a threaded run: who it is, its state, its turns, and what it has in hand
pub record PlainPost : Type 0 where
  pub who : Who
  pub party : PlainParty
  pub entries : List Entry
  pub ends : PlainEnds

-- what turns at one time made of a party, over the queues of these nodes: so many turns, or fewer where it has ended, and none once it had
-- ended. Each was a step of the party, did one operation, for its cause, and is one entry. The party holds what it held and what came, less what
-- it handed over
pub record AreTurns (nodes : List PlainNodeQueues) (time count : ℕ) (s t : PlainPost) : Type 0 where
  pub more : List Entry
  pub entries : t.entries ≡ s.entries ++ more
  pub times : AllByRecursion (λ e. e.time ≡ time) more
  pub run : IsRun party_steps time s.party more
  pub reached : state_after party_steps s.party more ≡ t.party
  pub held : (k : ℕ) → step.times k (holds t.party) + step.times k (handed_over more) ≡ step.times k (holds s.party) + step.times k (received more)
  pub ends : t.ends ≡ ends_after_all (room_for nodes s.ends.home) s.ends more
  pub causes : HaveCauses (room_for nodes s.ends.home) s.ends more
  pub all : (length more ≡ count) ⊎ ((has_ended t.party ≡ true) × (length more ≤ count))
  pub none : has_ended s.party ≡ true → more ≡ []
  pub stays : has_ended s.party ≡ true → has_ended t.party ≡ true
  pub who : t.who ≡ s.who

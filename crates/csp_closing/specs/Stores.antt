-- The parties and the memory of their nodes at the end of a run.
use Rattle.std.specs.Prelude.{◌≡◌, ◌≤◌, ℕ, zero, suc, ⊤, Option, None, Some, List, [], ◌∷◌, ◌++◌, IsSomeAnd, length, slice_get, vec_capacity}
use Rattle.std.specs.Option.{option_map, option_to_list}
use Rattle.csp_closing.specs.Retired.{PlainRest}
use Rattle.csp_consistent.specs.Pools.{held_by}
use Rattle.csp_ending.specs.Notes.{PlainNotes}
use Rattle.csp_ending.specs.Stores.{PlainStore, HasRoom, IsWhole, part}
use Rattle.csp_log.specs.Remains.{PlainHeld}
use Rattle.csp_party.specs.Any.{holds, plain, present_step, region_of}
use Rattle.csp_record.specs.Record.{PlainPartyLog}
use Rattle.csp_log.specs.Who.{home_of, node_of}
use Rattle.csp_standing.specs.declared.fabric.NodeStore.{NodeStore}

-- the memory of a node, and what is to be noted of its pool: between which places the buffers stand that were in it, and how many numbers there is room for
pub record PlainPile : Type 0 where
  pub store : PlainStore
  pub noted : List ℕ
  pub spare : ℕ
  pub first : ℕ
  pub last : ℕ

-- that of a node
abbrev pub pile_of : NodeStore → PlainPile
pile_of s = record { store = s.store; noted = s.numbers.items; spare = vec_capacity s.numbers; first = s.first; last = s.last }

-- with buffers of these numbers back
abbrev pub with_back : List ℕ → PlainPile → PlainPile
with_back ns s = record {
  store = record { region = s.store.region; count = s.store.count; numbers = s.store.numbers ++ ns; room = s.store.room };
  noted = s.noted;
  spare = s.spare;
  first = s.first;
  last = s.last;
}

-- those of all nodes, once buffers of these numbers came back to the one at this place
abbrev pub back_at : ℕ → List ℕ → List PlainPile → List PlainPile
back_at at ns [] = []
back_at zero ns (s ∷ piles) = with_back ns s ∷ piles
back_at (suc at) ns (s ∷ piles) = s ∷ back_at at ns piles

-- to the node of a party: a link or a hub has none
abbrev pub back_to : Option ℕ → List ℕ → List PlainPile → List PlainPile
back_to None ns piles = piles
back_to (Some node) ns piles = back_at node ns piles

-- once what a party held came back
abbrev pub party_back : PlainRest → List PlainPile → List PlainPile
party_back r piles = back_to (node_of r.who) (holds (plain r.party)) piles

-- once what each of these held did
abbrev pub parties_back : List PlainRest → List PlainPile → List PlainPile
parties_back [] piles = piles
parties_back (r ∷ rest) piles = parties_back rest (party_back r piles)

-- the memory of a party's node has room for what the party holds, which is of its region; a link or a hub holds nothing
abbrev pub HasPile : Option ℕ → PlainRest → List PlainPile → Type 0
HasPile None r piles = holds (plain r.party) ≡ []
HasPile (Some node) r piles = IsSomeAnd (slice_get piles node) (λ s. (region_of r.party ≡ s.store.region) × HasRoom s.store (length (holds (plain r.party))))

-- a party can end: nothing is noted of it yet, and there is room for its numbers and its buffers
pub record CanEndParty (piles : List PlainPile) (r : PlainRest) : Type 0 where
  pub unnoted : r.noted ≡ []
  pub room : length (holds (plain r.party)) ≤ r.room
  pub pile : HasPile (node_of r.who) r piles

-- so can each of these, one after the other
abbrev pub CanEndParties : List PlainPile → List PlainRest → Type 0
CanEndParties piles [] = ⊤
CanEndParties piles (r ∷ rest) = CanEndParty piles r × CanEndParties (party_back r piles) rest

-- a party's log
abbrev pub rest_log : PlainRest → PlainPartyLog
rest_log r = record { who = r.who; entries = r.entries; step = present_step (plain r.party) }

-- what it held, where it has a place
abbrev pub rest_held : PlainRest → List PlainHeld
rest_held r = option_to_list (option_map (held_by (holds (plain r.party))) (home_of r.who))

-- the notes with these on places
abbrev pub with_held : PlainNotes → List PlainHeld → ℕ → PlainNotes
with_held m more others = record { left = m.left; held = m.held ++ more; queues = m.queues; others = others }

-- the memory of a node can be given back: each of its buffers is back once, and those of the pool stand between the two places
pub record CanGiveBack (s : PlainPile) : Type 0 where
  pub from : s.first ≤ s.last
  pub to : s.last ≤ length s.store.numbers
  pub unnoted : s.noted ≡ []
  pub room : s.store.count ≤ s.spare
  pub whole : IsWhole s.store

-- the numbers of the buffers that were in its pool
abbrev pub pool_part : PlainPile → List ℕ
pool_part s = part s.first s.last s.store.numbers

-- The passes of a node's pool and inbox, which come together at the end of a run.
use Rattle.std.specs.Prelude.{◌≡◌, ℕ, true, false, Option, None, Some, List, [], ◌∷◌, IfSome, IsSomeAnd, if◌then◌else◌}
use Rattle.std.specs.List.{AllByRecursion, flat_map}
use Rattle.std.specs.Option.{option_map, option_to_list}
use Rattle.csp_closing.specs.declared.passes.Passes.{Passes}
use Rattle.csp_ends.specs.Ends.{PlainHome, PlainNodeQueues}
use Rattle.csp_inbox.specs.Passes as inbox
use Rattle.csp_pool.specs.Hands.{both}
use Rattle.csp_pool.specs.PlainPool as pool
use Rattle.csp_posts.specs.Between.{is_home}

-- the passes that a party has, where they are of this node
abbrev pub home_at : ℕ → Option PlainHome → List PlainHome
home_at node home = (if is_home node home then option_to_list home else [])

-- those that parties have, party by party
abbrev pub homes_at : ℕ → List (Option PlainHome) → List PlainHome
homes_at node homes = flat_map (home_at node) homes

-- what a party has once those of this node were taken from it
abbrev pub without_home : ℕ → Option PlainHome → Option PlainHome
without_home node home = (if is_home node home then None else home)

-- a pass of an inbox into which another was joined, where there is one
abbrev pub joined_inbox : inbox.PlainPass → Option inbox.PlainPass → inbox.PlainPass
joined_inbox x None = x
joined_inbox x (Some y) = inbox.joined_pass x y

-- passes into which those of a party were joined
abbrev pub joined : Passes → PlainHome → Passes
joined v h = record { pool = record { pool = v.pool.pool; hand = both v.pool.hand h.pool.hand }; inbox = joined_inbox v.inbox h.inbox }

-- and those of more parties, one after the other
abbrev pub all_joined : Passes → List PlainHome → Passes
all_joined v [] = v
all_joined v (h ∷ hs) = all_joined (joined v h) hs

-- the passes of a party that has both
abbrev pub opening : PlainHome → Option Passes
opening h = option_map (λ (x : inbox.PlainPass). record { pool = h.pool; inbox = x }) h.inbox

-- those of the first party, into which those of the others were joined
abbrev pub gathered : List PlainHome → Option Passes
gathered [] = None
gathered (h ∷ hs) = option_map (λ (v : Passes). all_joined v hs) (opening h)

-- others may be joined into these passes: they are the opening ones of these queues
pub record AreOpen (q : PlainNodeQueues) (v : Passes) : Type 0 where
  pub pool : pool.IsPassOf q.pool v.pool
  pub opens : v.pool.hand.opens ≡ 1
  pub inbox : inbox.IsPassOf q.inbox v.inbox
  pub reads : v.inbox.role.reads ≡ true

-- a party has the opening passes of these queues
abbrev pub CanLead : PlainNodeQueues → PlainHome → Type 0
CanLead q h = IsSomeAnd (opening h) (AreOpen q)

-- its passes may be joined into those
pub record CanJoin (q : PlainNodeQueues) (h : PlainHome) : Type 0 where
  pub pool : pool.IsPassOf q.pool h.pool
  pub inbox : IfSome h.inbox (λ x. inbox.IsPassOf q.inbox x × (x.role.reads ≡ false))

-- the first party has the opening passes, and the others may be joined into them
abbrev pub CanGather : PlainNodeQueues → List PlainHome → Type 0
CanGather q [] = ⊥
CanGather q (h ∷ hs) = CanLead q h × AllByRecursion (CanJoin q) hs

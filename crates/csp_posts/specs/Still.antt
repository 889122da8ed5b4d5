-- What turns and meetings leave as it is of what a party has in hand.
use Rattle.std.specs.Prelude.{ℕ, List, [], map}
use Rattle.std.specs.Option.{option_map}
use Rattle.csp_deck.specs.Runs.{Runs}
use Rattle.csp_ends.specs.Ends.{PlainNodeQueues, PlainSide, PlainHome, PlainEnds, AreOf, AreEnds}
use Rattle.csp_ends.specs.Traced.{AreMarked, AreTraced}
use Rattle.csp_inbox.specs.Passes as inbox
use Rattle.csp_lane.specs.Ends.{end_with}
use Rattle.csp_party.specs.Any.{PlainParty}
use Rattle.csp_pool.specs.PlainPool as pool
use Rattle.csp_pool.specs.Tallies.{blank}
use Rattle.csp_pool.specs.declared.hand.Hand.{Hand}
use Rattle.csp_posts.specs.Balance.{IsBalanced}
use Rattle.csp_posts.specs.Posts.{PlainPost}
use Rattle.csp_topology.specs.Parties.{party_steps}

-- an end, but for what went through it and what it knows
abbrev pub still_side : PlainSide → PlainSide
still_side s = record {
  queue = s.queue;
  node = s.node;
  lane = s.lane;
  puts = s.puts;
  end = end_with s.end [] [] 0;
}

-- the hand of a pass of a pool, but for what it did and knows
abbrev pub still_hand : Hand → Hand
still_hand v = record { region = v.region; opens = v.opens; part = v.part; out = v.out; put = []; taken = []; puts = blank; takes = blank }

-- a pass of a pool, but for what it did and knows
abbrev pub still_pool : pool.PlainPass → pool.PlainPass
still_pool p = record { pool = p.pool; hand = still_hand p.hand }

-- a pass of an inbox, but for what it did and knows
abbrev pub still_inbox : inbox.PlainPass → inbox.PlainPass
still_inbox p = record { inbox = p.inbox; role = p.role; critical = inbox.no_mail; high = inbox.no_mail; normal = inbox.no_mail; low = inbox.no_mail }

-- the passes of a node, but for what they did and know
abbrev pub still_home : PlainHome → PlainHome
still_home h = record { node = h.node; pool = still_pool h.pool; inbox = option_map still_inbox h.inbox }

-- all that a party has in hand, but for what went through it and what it knows: which queues it is of, their names, rooms, regions, and its part in
-- each
abbrev pub still : PlainEnds → PlainEnds
still e = record { home = option_map still_home e.home; sides = map still_side e.sides }

-- it is of a party that opened so, whose pass of the pool put these numbers at the opening: its log is a run from there; what it has in hand is of the
-- queues of these nodes, and tells what the log says, its marks too; and no buffer was lost or made
pub record IsPostFrom (nodes : List PlainNodeQueues) (opening : PlainParty) (opened : List ℕ) (s : PlainPost) : Type 0 where
  pub runs : Runs party_steps opening s.entries s.party
  pub of_it : AreOf nodes s.ends
  pub ends : AreEnds s.ends
  pub traced : AreTraced opened s.entries s.ends
  pub marked : AreMarked s.entries s.ends.sides
  pub balanced : IsBalanced opened s

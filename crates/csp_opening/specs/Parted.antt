-- How the passes of nodes are parted among parties.
use Rattle.std.specs.Prelude.{◌≡◌, ⊤, ℕ, zero, suc, true, Option, None, Some, List, [], ◌∷◌, IfSome, IsSome, IsSomeAnd, slice_get, unwrap_or}
use Rattle.std.specs.Option.{option_and_then, option_map}
use Rattle.csp_ends.specs.Ends.{PlainHome, PlainNodeQueues}
use Rattle.csp_inbox.specs.Passes as inbox
use Rattle.csp_log.specs.declared.places.TheConstants.{UNMARKED}
use Rattle.csp_opening.specs.declared.homes.Lead.{Lead}
use Rattle.csp_pool.specs.Hands.{split_left, split_right}
use Rattle.csp_pool.specs.PlainPool as pool
use Rattle.csp_log.specs.declared.who.Who.{Who}
use Rattle.csp_log.specs.declared.who.Who.TheVariants as who
use Rattle.csp_topology.specs.Writers.{mark_for}

-- a pass of a pool with this hand
abbrev pub with_hand_of : Lead → (pool.PlainPass)
with_hand_of l = record { pool = l.pool.pool; hand = split_left l.pool.hand }

-- the passes of a router or bridge once those of an interface that puts with this mark were split off
abbrev pub after_iface : (mark : ℕ) → Lead → Lead
after_iface mark l = record { pool = with_hand_of l; inbox = inbox.parted_pass l.inbox mark }

-- and once that of an application was
abbrev pub after_app : Lead → Lead
after_app l = record { pool = with_hand_of l; inbox = l.inbox }

-- the home of an interface that puts with this mark
abbrev pub iface_home : (node mark : ℕ) → Lead → PlainHome
iface_home node mark l = record { node = node; pool = record { pool = l.pool.pool; hand = split_right l.pool.hand }; inbox = Some (inbox.split_pass l.inbox mark) }

-- that of an application
abbrev pub app_home : ℕ → Lead → PlainHome
app_home node l = record { node = node; pool = record { pool = l.pool.pool; hand = split_right l.pool.hand }; inbox = None }

-- that of a router or a bridge
abbrev pub lead_home : ℕ → Lead → PlainHome
lead_home node l = record { node = node; pool = l.pool; inbox = Some l.inbox }

-- the passes of all nodes, those of one changed
abbrev pub changed : ℕ → (Lead → Lead) → List Lead → List Lead
changed k f [] = []
changed zero f (l ∷ leads) = f l ∷ leads
changed (suc k) f (l ∷ leads) = l ∷ changed k f leads

-- the home of a party, of what is split off: none of a router or a bridge, and none of a link
abbrev pub part_home : List Lead → Who → Option PlainHome
part_home leads (who.Iface node number) = option_and_then (λ mark. option_map (iface_home node mark) (slice_get leads node)) (mark_for (who.Iface node number))
part_home leads (who.App node _) = option_map (app_home node) (slice_get leads node)
part_home leads (who.Router _) = None
part_home leads (who.Bridge _) = None
part_home leads (who.Link _) = None

-- what is left of the passes then
abbrev pub part_left : List Lead → Who → List Lead
part_left leads (who.Iface node number) = unwrap_or (option_map (λ mark. changed node (after_iface mark) leads) (mark_for (who.Iface node number))) leads
part_left leads (who.App node _) = changed node after_app leads
part_left leads (who.Router _) = leads
part_left leads (who.Bridge _) = leads
part_left leads (who.Link _) = leads

-- the homes of parties, one after another
abbrev pub part_homes : List Lead → List Who → List (Option PlainHome)
part_homes leads [] = []
part_homes leads (w ∷ ws) = part_home leads w ∷ part_homes (part_left leads w) ws

-- and what is left of the passes after them all
abbrev pub parts_left : List Lead → List Who → List Lead
parts_left leads [] = leads
parts_left leads (w ∷ ws) = parts_left (part_left leads w) ws

-- the passes are those that opened the pool and the inbox of a node
pub record IsLeadOf (q : PlainNodeQueues) (l : Lead) : Type 0 where
  pub pool : pool.IsPassOf q.pool l.pool
  pub opens : l.pool.hand.opens ≡ 1
  pub inbox : inbox.IsPassOf q.inbox l.inbox
  pub reads : l.inbox.role.reads ≡ true

-- the pass of the inbox is the one that reads, and has no mark of its own
pub record IsOpening (l : Lead) : Type 0 where
  pub mark : l.inbox.role.mark ≡ UNMARKED
  pub reads : l.inbox.role.reads ≡ true

-- so are those of each node
abbrev pub AreLeadsOf : List PlainNodeQueues → List Lead → Type 0
AreLeadsOf [] [] = ⊤
AreLeadsOf (q ∷ nodes) (l ∷ leads) = IsLeadOf q l × AreLeadsOf nodes leads
AreLeadsOf _ _ = ⊥

-- the passes of a party can be split off: it is of one of these nodes, and no other has its mark
abbrev pub CanPart : List Lead → Who → Type 0
CanPart leads (who.Iface node number) = IfSome (mark_for (who.Iface node number)) (λ mark. IsSomeAnd (slice_get leads node) (λ l. inbox.IsFree l.inbox mark))
CanPart leads (who.App node _) = IsSome (slice_get leads node)
CanPart leads (who.Router _) = ⊤
CanPart leads (who.Bridge _) = ⊤
CanPart leads (who.Link _) = ⊤

-- so can those of all, one after another
abbrev pub CanPartAll : List Lead → List Who → Type 0
CanPartAll leads [] = ⊤
CanPartAll leads (w ∷ ws) = CanPart leads w × CanPartAll (part_left leads w) ws

-- the first of these passes, as the home of a node's router or bridge
abbrev pub first_home : ℕ → List Lead → Option PlainHome
first_home node [] = None
first_home node (l ∷ leads) = Some (lead_home node l)

-- the others
abbrev pub others : List Lead → List Lead
others [] = []
others (l ∷ leads) = leads

-- the home of a party: of a router or a bridge the passes that come next, of any other what was split off
abbrev pub home_with : List Lead → Who → Option PlainHome → Option PlainHome
home_with leads (who.Router node) home = first_home node leads
home_with leads (who.Bridge node) home = first_home node leads
home_with leads (who.Iface _ _) home = home
home_with leads (who.App _ _) home = home
home_with leads (who.Link _) home = home

-- the passes that are left then
abbrev pub leads_past : List Lead → Who → List Lead
leads_past leads (who.Router _) = others leads
leads_past leads (who.Bridge _) = others leads
leads_past leads (who.Iface _ _) = leads
leads_past leads (who.App _ _) = leads
leads_past leads (who.Link _) = leads

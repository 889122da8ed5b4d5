-- The pool and the queues of each node of a scene.
use Rattle.std.specs.Prelude.{ℕ, ◌+◌, ◌<◌, ◌≤◌, List, [], ◌∷◌, All, length, map}
use Rattle.csp_log.specs.Kinds.{carried_on}
use Rattle.csp_lists.specs.PlainDeck.{IsLinkRule}
use Rattle.csp_log.specs.declared.places.Carries.{Carries}
use Rattle.csp_scene.specs.Links.{links_at}
use Rattle.csp_scene.specs.Scene.{PlainNode, PlainLink}
use Rattle.csp_base.specs.declared.limits.TheConstants.{MAX_APPS}
use Rattle.csp_scene.specs.declared.limits.TheConstants.{MAX_LINKS}

-- of a node: how many buffers its pool has, the room of its inbox for each priority, how many applications it has, and what the link of each of its
-- interfaces carries
pub record PlainNodePlan : Type 0 where
  pub buffers : ℕ
  pub inbox : ℕ
  pub apps : ℕ
  pub lanes : List Carries

-- those of a node on these links
abbrev pub plan_of : PlainNode → List PlainLink → PlainNodePlan
plan_of n links = record { buffers = n.buffers; inbox = n.inbox; apps = length n.apps; lanes = map (λ l. carried_on l.kind) links }

-- those of the nodes from this place on
abbrev pub plans_from : ℕ → List PlainNode → List PlainLink → List PlainNodePlan
plans_from place [] links = []
plans_from place (n ∷ nodes) links = plan_of n (links_at place links) ∷ plans_from (place + 1) nodes links

-- such a node can be opened: it has a buffer, no more applications and interfaces than a node may have, and the lanes of its interfaces carry frames
pub record IsPlan (n : PlainNodePlan) : Type 0 where
  pub some : 0 < n.buffers
  pub apps : n.apps ≤ MAX_APPS
  pub few : length n.lanes ≤ MAX_LINKS
  pub lanes : All IsLinkRule n.lanes

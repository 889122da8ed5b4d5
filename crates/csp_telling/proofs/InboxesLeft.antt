-- What came through each inbox, and what was left there.
use Rattle.std.proofs.Common.{◌≡◌, ◌==◌, ℕ, Some, None, Option, List, [], ◌∷◌, ◌++◌, map, flat_map, refl, sym, ap, ◌∙◌, subst, slice_get}
use Rattle.std.specs.List.{AllByRecursion}
use Rattle.std.specs.Option.{option_map}
use Rattle.std.specs.Prelude.{IfSome, if◌then◌else◌}
use Rattle.csp_base.specs.Priority.{prio_number}
use Rattle.csp_base.specs.declared.priority.Prio.{Prio}
use Rattle.csp_consistent.proofs.Public.{apps_put_none, links_put_none, priority_carried}
use Rattle.csp_consistent.specs.Inboxes.{came_through}
use Rattle.csp_consistent.specs.Prompt.{inbox_puts}
use Rattle.csp_consistent.specs.Queues.{MayAsk, UsesItsQueues}
use Rattle.csp_consistent.specs.Reading.{entries_of, gets, left_in, puts, with_mark, with_priority}
use Rattle.csp_consistent.specs.Told.{IsInboxTold, IsPriorityTold}
use Rattle.csp_deck.specs.Carried.{IsCarried}
use Rattle.csp_ends.specs.Ends.{PlainHome}
use Rattle.csp_ends.specs.Traced.{IsHomeTraced, IsMailTraced}
use Rattle.csp_inbox.specs.Marks as marks
use Rattle.csp_inbox.specs.Passes as inbox
use Rattle.csp_log.specs.Who.{node_of}
use Rattle.csp_log.specs.declared.entry.Entry.{Entry}
use Rattle.csp_log.specs.declared.places.QueueId.TheVariants as queue
use Rattle.csp_log.specs.declared.places.Rule.TheVariants as rule
use Rattle.csp_log.specs.declared.who.Who.TheVariants as who
use Rattle.csp_log.specs.declared.who.Who.{Who}
use Rattle.csp_posts.specs.Between.{is_home}
use Rattle.csp_posts.specs.Posts.{PlainPost}
use Rattle.csp_record.specs.Record.{PlainRecord}
use Rattle.csp_scene.proofs.Public.{AllByRecursion-append}
use Rattle.csp_scene.specs.Scene.{PlainNode, PlainScene}
use Rattle.csp_standing.proofs.Public.{HasHub, hub_at, IsAt, at_home, post_at}
use Rattle.csp_standing.specs.Network.{ArePostsOf, IsHomeIn, IsPostOf, PlainNetwork, opened_in}
use Rattle.csp_telling.proofs.LaneNotes.{inbox_left}
use Rattle.csp_telling.proofs.LanesLeft.{own_entries}
use Rattle.csp_telling.proofs.Marked.{logs_marks, put_at, same_marked}
use Rattle.csp_telling.proofs.Nodes.{IsAtNode, IsEnded, IsKnown, at_scene}
use Rattle.csp_telling.specs.Closed.{log_of}
use Rattle.csp_telling.specs.Remains.{kept_at, kept_by, kept_from}
use Rattle.csp_topology.specs.Lanes.{leader_of}
use Rattle.csp_topology.specs.Parties.{PlainOpening, parties_of}
use Rattle.csp_topology.specs.Wires.{wires_of}
use Rattle.csp_topology.specs.Writers.{mark_for}

-- ---- what all parties put

kept_pass : (p : Prio) (w : Who) (es : List Entry) (pass : Option inbox.PlainPass) → AllByRecursion (λ e. MayAsk w e.op) es → IfSome pass (λ x. (q : Prio) → IsMailTraced es x q) → option_map (λ (x : inbox.PlainPass). x.role.mark) pass ≡ mark_for w
    → kept_by p pass ≡ with_priority p (puts queue.Inbox es)
kept_pass p w es (Some x) may told e = (told p).kept
kept_pass p (who.App n k) es None may told e = sym (ap (with_priority p) (apps_put_none n k es may))
kept_pass p (who.Link n) es None may told e = sym (ap (with_priority p) (links_put_none n es may))
kept_pass p (who.Router n) es None may told e = absurd cc
kept_pass p (who.Bridge n) es None may told e = absurd cc
kept_pass p (who.Iface n k) es None may told e = absurd cc

kept_home : (node : ℕ) (p : Prio) (w : Who) (opened : List ℕ) (es : List Entry) (home : Option PlainHome) → AllByRecursion (λ e. MayAsk w e.op) es → IfSome home (IsHomeIn w) → IfSome home (IsHomeTraced opened es)
    → (if is_home node home then kept_from p home else []) ≡ (if is_home node home then with_priority p (puts queue.Inbox es) else [])
kept_home node p w opened es None may is told = refl
kept_home node p w opened es (Some h) may is told = ap (λ items. if h.node == node then items else []) (kept_pass p w es h.inbox may told.inbox is.mark)

module _ (scene : PlainScene) (n : PlainNetwork) (node : ℕ) (p : Prio) where
  one_kept : (o : PlainOpening) (s : PlainPost) → IsPostOf scene n o s → AllByRecursion (λ e. MayAsk s.who e.op) s.entries → (if is_home node s.ends.home then kept_from p s.ends.home else []) ≡ put_at node p (log_of s)
  one_kept o s post may =
      kept_home node p o.who (opened_in scene o.who) s.entries s.ends.home (subst (λ w. AllByRecursion (λ e. MayAsk w e.op) s.entries) post.who may) post.home.passes post.from.traced.home
      ∙ ap (λ t. if t then with_priority p (puts queue.Inbox s.entries) else []) (at_home node s.ends.home (node_of s.who) (post.home.node ∙ ap node_of (sym post.who)))

  all_kept : (os : List PlainOpening) (posts : List PlainPost) → ArePostsOf scene n os posts → AllByRecursion UsesItsQueues (map log_of posts) → kept_at node p posts ≡ flat_map (put_at node p) (map log_of posts)
  all_kept [] [] are uses = refl
  all_kept (o ∷ os) (s ∷ posts) are uses = λ i. one_kept o s are.0 uses.0 i ++ all_kept os posts are.1 uses.1 i
  all_kept [] (s ∷ posts) are uses = absurd are
  all_kept (o ∷ os) [] are uses = absurd are

-- ---- what came through

module _ (scene : PlainScene) (n : PlainNetwork) (posts : List PlainPost) (r : PlainRecord) (ended : IsEnded scene n posts r) (known : IsKnown scene r) (node : ℕ) (c : PlainNode) (there : slice_get scene.nodes node ≡ Some c) where
  abbrev here : IsAtNode scene posts ended.closed.all node
  here = at_scene scene n posts r ended node c there

  abbrev hub : HasHub posts (leader_of node c.addr) node
  hub = hub_at scene n posts ended.net node c.addr (known.hubs node c there)

  its : IsAt scene n (parties_of scene) hub.at hub.post
  its = post_at scene n (parties_of scene) posts hub.at hub.post ended.net.parties hub.there

  hub_entries : hub.post.entries ≡ entries_of r (leader_of node c.addr)
  hub_entries = own_entries scene n posts r ended hub.at hub.post (leader_of node c.addr) hub.there hub.who

  told : (p : Prio) → IsMailTraced hub.post.entries hub.pass p
  told =
      let home : IsHomeTraced (opened_in scene its.party.who) hub.post.entries hub.home = subst (λ h. IfSome h (IsHomeTraced (opened_in scene its.party.who) hub.post.entries)) hub.its its.post.from.traced.home in
      subst (λ x. IfSome x (λ z. (p : Prio) → IsMailTraced hub.post.entries z p)) hub.inbox home.inbox

  came : (p : Prio) → came_through r node (leader_of node c.addr) p ≡ (inbox.mail_at hub.pass p).got ++ here.has.remains.inbox p
  came p = λ i. (ap (λ es. with_priority p (gets queue.Inbox es)) (sym hub_entries) ∙ sym (told p).got) i
      ++ inbox_left r (wires_of scene) ended.closed.all ended.closed.told.left node here.lanes here.has.remains here.at here.has.there here.names p i

  got_all : AllByRecursion (IsCarried rule.Inbox) (gets queue.Inbox (entries_of r (leader_of node c.addr)))
  got_all = subst (λ es. AllByRecursion (IsCarried rule.Inbox) (gets queue.Inbox es)) hub_entries its.post.got

  carried : (p : Prio) → AllByRecursion (IsCarried (rule.Priority p)) (came_through r node (leader_of node c.addr) p)
  carried p =
      AllByRecursion-append (IsCarried (rule.Priority p)) (with_priority p (gets queue.Inbox (entries_of r (leader_of node c.addr)))) (left_in r node queue.Inbox (prio_number p)) (priority_carried p (gets queue.Inbox (entries_of r (leader_of node c.addr))) got_all)
      (subst (AllByRecursion (IsCarried (rule.Priority p))) (sym (inbox_left r (wires_of scene) ended.closed.all ended.closed.told.left node here.lanes here.has.remains here.at here.has.there here.names p)) (here.has.left.inbox p).carried)

  -- what was put is what the logs say
  put : (p : Prio) → kept_at node p posts ≡ inbox_puts r node p
  put p =
      all_kept scene n node p (parties_of scene) posts ended.net.parties (subst (AllByRecursion UsesItsQueues) ended.closed.told.parties known.uses)
      ∙ ap (λ logs. flat_map (put_at node p) logs) (sym ended.closed.told.parties)

  order : (p : Prio) (mark : ℕ) → with_mark mark (came_through r node (leader_of node c.addr) p) ≡ with_mark mark (inbox_puts r node p)
  order p mark =
      sym (same_marked p mark (came_through r node (leader_of node c.addr) p) (carried p))
      ∙ ap (marks.with_mark mark) (came p)
      ∙ sym ((here.has.left.inbox p).sorted hub.at hub.post hub.home hub.pass hub.there hub.its hub.node hub.inbox hub.reads mark)
      ∙ ap (marks.with_mark mark) (put p)
      ∙ logs_marks node p mark r.parties

  priority_told : (p : Prio) → IsPriorityTold r node (leader_of node c.addr) p
  priority_told p = record {
    put = inbox_puts r node p;
    got = with_priority p (gets queue.Inbox (entries_of r (leader_of node c.addr)));
    left = left_in r node queue.Inbox (prio_number p);
    kept = record { order = order p; carried = carried p };
    puts = λ mark. refl;
    gets = refl;
    noted = refl;
  }

pub inboxes_told : (scene : PlainScene) (n : PlainNetwork) (posts : List PlainPost) (r : PlainRecord) → IsEnded scene n posts r → IsKnown scene r
    → (node : ℕ) (c : PlainNode) → slice_get scene.nodes node ≡ Some c → IsInboxTold r node (leader_of node c.addr)
inboxes_told scene n posts r ended known node c there =
    record { priorities = priority_told scene n posts r ended known node c there; got = got_all scene n posts r ended known node c there }

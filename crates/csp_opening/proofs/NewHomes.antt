-- The passes that the parties of nodes have before their first turn.
use Rattle.std.proofs.Common.{◌≡◌, ◌+◌, ◌<◌, ℕ, zero, suc, true, List, [], ◌∷◌, Option, None, Some, length, map, refl, sym, ap, ◌∙◌, subst, arith}
use Rattle.std.specs.Prelude.{⊤, IfSome, IsSomeAnd, slice_get, if◌then◌else◌}
use Rattle.std.specs.List.{range_with_len}
use Rattle.std.specs.Option.{option_map}
use Rattle.std.proofs.lemmas.List.{append-nil}
use Rattle.std.proofs.lemmas.Option.{same_Some, slice_get-map}
use Rattle.csp_arena.specs.Cells.{RegionName}
use Rattle.csp_base.specs.declared.priority.Prio.{Prio}
use Rattle.csp_base.specs.declared.priority.Prio.TheVariants.{Critical, High, Normal, Low}
use Rattle.csp_deck.specs.Step.{times}
use Rattle.csp_ends.specs.Ends.{IsHomeOf, PlainHome, PlainNodeQueues, inbox_of, region_or}
use Rattle.csp_ends.specs.Traced.{IsHomeTraced, IsMailTraced}
use Rattle.csp_inbox.specs.Passes as inbox
use Rattle.csp_inbox.specs.declared.hand.Mail.{Mail}
use Rattle.csp_lists.specs.PlainDeck.{numbers_of}
use Rattle.csp_log.specs.declared.places.Rule.TheVariants as rule
use Rattle.csp_log.specs.declared.places.TheConstants.{UNMARKED}
use Rattle.csp_opening.proofs.Ordered.{home_in}
use Rattle.csp_opening.proofs.Passing.{fixed, parts_at_node}
use Rattle.csp_opening.specs.Opened.{AreNodesWith, IsNodeOf, lead_in, queues_in, region_in}
use Rattle.csp_opening.specs.Parted.{app_home, iface_home, lead_home, part_home, parts_left}
use Rattle.csp_opening.specs.declared.homes.Lead.{Lead}
use Rattle.csp_opening.specs.declared.nodes.Node.{Node}
use Rattle.csp_pool.specs.Hands.{opening_hand}
use Rattle.csp_pool.specs.PlainPool as pool
use Rattle.csp_pool.specs.Tallies.{Tally, accounted, blank}
use Rattle.csp_pool.specs.declared.hand.Hand.{Hand}
use Rattle.csp_posts.specs.Balance.{times_from, times_into}
use Rattle.csp_posts.specs.Books.{IsFresh}
use Rattle.csp_log.specs.Who.{node_of}
use Rattle.csp_log.specs.declared.who.Who.{Who}
use Rattle.csp_log.specs.declared.who.Who.TheVariants as who
use Rattle.csp_scene.specs.Links.{links_at, node_at}
use Rattle.csp_scene.specs.Scene.{PlainLink, PlainNode, PlainScene}
use Rattle.csp_standing.specs.Network.{IsHomeAmong, opened_in}
use Rattle.csp_topology.specs.Plan.{PlainNodePlan, plan_of, plans_from}
use Rattle.csp_topology.specs.Wired.{inbox_rule, is_leader}
use Rattle.csp_topology.specs.declared.wire.Wire.{Wire}
use Rattle.csp_topology.specs.Writers.{mark_for}

-- the home of a party before its first turn, over queues whose buffers are of these regions: its pass of the pool put these numbers
pub record IsHomeNew (nodes : List PlainNodeQueues) (regions : List RegionName) (w : Who) (opened : List ℕ) (home : Option PlainHome) : Type 0 where
  pub of_it : IfSome home (IsHomeOf nodes)
  pub among : IsHomeAmong regions w home
  pub traced : IfSome home (IsHomeTraced opened [])
  pub fresh : IfSome home IsFresh
  pub into : (k : ℕ) → times_into k home ≡ times k opened
  pub from : (k : ℕ) → times_from k home ≡ 0
  pub token : IfSome (inbox_of home) (λ p. p.role.token.name ≡ region_or home)
  pub serves : inbox_rule w ≡ Some rule.Inbox → option_map (λ _. rule.Inbox) (inbox_of home) ≡ Some rule.Inbox

-- the queues of the node at a place, and its region
there_queues : (xs : List Node) (m : ℕ) (x : Node) → slice_get xs m ≡ Some x → slice_get (map queues_in xs) m ≡ Some (queues_in x)
there_queues xs m x at = slice_get-map queues_in xs m ∙ ap (option_map queues_in) at

there_region : (xs : List Node) (m : ℕ) (x : Node) → slice_get xs m ≡ Some x → slice_get (map region_in xs) m ≡ Some (region_in x)
there_region xs m x at = slice_get-map region_in xs m ∙ ap (option_map region_in) at

-- what is known of the passes of a router or a bridge
record IsLeadNew (x : Node) (buffers : ℕ) (l : Lead) : Type 0 where
  pool : l.pool.pool ≡ x.base.pool.name
  hand : record l.pool.hand { out = 0 } ≡ opening_hand (region_in x) (range_with_len 0 buffers)
  inbox : record l.inbox { role = inbox.role l.inbox.role.token.name l.inbox.role.room l.inbox.role.mark l.inbox.role.writes l.inbox.role.reads [] } ≡ inbox.opening_pass x.mail.inbox (region_in x)

hand_is : (n : PlainNodePlan) (ws : List Wire) (x : Node) → IsNodeOf n ws x → x.base.pass.hand ≡ opening_hand (region_in x) (range_with_len 0 n.buffers)
hand_is n ws x is = is.base.hand ∙ ap (λ c. opening_hand (region_in x) (range_with_len 0 c)) is.count

lead_new : (n : PlainNodePlan) (ws : List Wire) (x : Node) (l : Lead) → IsNodeOf n ws x → fixed l ≡ fixed (lead_in x) → IsLeadNew x n.buffers l
lead_new n ws x l is same = record {
  pool = ap (λ (y : Lead). y.pool.pool) same ∙ is.base.of_it;
  hand = ap (λ (y : Lead). y.pool.hand) same ∙ ap (λ (v : Hand). record v { out = 0 }) (hand_is n ws x is);
  inbox = ap (λ (y : Lead). y.inbox) same
      ∙ ap (λ (p : inbox.PlainPass). record p { role = inbox.role p.role.token.name p.role.room p.role.mark p.role.writes p.role.reads [] }) is.pass;
}

-- of one pass, the mail of each priority
no_mail_at : (p : inbox.PlainPass) → p.critical ≡ inbox.no_mail → p.high ≡ inbox.no_mail → p.normal ≡ inbox.no_mail → p.low ≡ inbox.no_mail → (prio : Prio) → inbox.mail_at p prio ≡ inbox.no_mail
no_mail_at p a b c d Critical = a
no_mail_at p a b c d High = b
no_mail_at p a b c d Normal = c
no_mail_at p a b c d Low = d

mail_traced : (p : inbox.PlainPass) (prio : Prio) → inbox.mail_at p prio ≡ inbox.no_mail → IsMailTraced [] p prio
mail_traced p prio e = record { kept = ap (λ (v : Mail). v.kept) e; got = ap (λ (v : Mail). v.got) e }

-- the home of a router or a bridge
hub_new : (xs : List Node) (m : ℕ) (x : Node) (buffers : ℕ) (l : Lead) (w : Who) → slice_get xs m ≡ Some x → IsLeadNew x buffers l → is_leader w ≡ true → node_of w ≡ Some m → mark_for w ≡ Some UNMARKED
    → IsHomeNew (map queues_in xs) (map region_in xs) w (range_with_len 0 buffers) (Some (lead_home m l))
hub_new xs m x buffers l w at is lead node mark =
    let opened = range_with_len 0 buffers in
    let region : l.pool.hand.region ≡ region_in x = ap (λ (v : Hand). v.region) is.hand in
    let put : l.pool.hand.put ≡ opened = ap (λ (v : Hand). v.put) is.hand in
    let taken : l.pool.hand.taken ≡ [] = ap (λ (v : Hand). v.taken) is.hand in
    let puts : l.pool.hand.puts ≡ record blank { untold = length opened } = ap (λ (v : Hand). v.puts) is.hand in
    let takes : l.pool.hand.takes ≡ blank = ap (λ (v : Hand). v.takes) is.hand in
    let critical : l.inbox.critical ≡ inbox.no_mail = ap (λ (p : inbox.PlainPass). p.critical) is.inbox in
    let high : l.inbox.high ≡ inbox.no_mail = ap (λ (p : inbox.PlainPass). p.high) is.inbox in
    let normal : l.inbox.normal ≡ inbox.no_mail = ap (λ (p : inbox.PlainPass). p.normal) is.inbox in
    let low : l.inbox.low ≡ inbox.no_mail = ap (λ (p : inbox.PlainPass). p.low) is.inbox in
    let kept = λ (k : ℕ) (v : Mail) (e : v ≡ inbox.no_mail). ap (λ (z : Mail). times k (numbers_of z.kept)) e in
    let got = λ (k : ℕ) (v : Mail) (e : v ≡ inbox.no_mail). ap (λ (z : Mail). times k (numbers_of z.got)) e in
    record {
      of_it = subst (λ o. IsSomeAnd o (λ q. pool.IsPassOf q.pool l.pool × inbox.IsPassOf q.inbox l.inbox)) (sym (there_queues xs m x at))
          (is.pool, record { inbox = ap (λ (p : inbox.PlainPass). p.inbox) is.inbox; room = ap (λ (p : inbox.PlainPass). p.role.room) is.inbox });
      among = record {
        node = sym node;
        passes = record {
          opens = ap (λ (v : Hand). v.opens) is.hand ∙ ap (λ b. if b then 1 else 0) (sym lead);
          part = ap (λ (v : Hand). v.part) is.hand ∙ ap (λ b. if b then 0 else 1) (sym lead);
          mark = ap (λ (p : inbox.PlainPass). Some p.role.mark) is.inbox ∙ sym mark;
          roles = (ap (λ (p : inbox.PlainPass). p.role.reads) is.inbox ∙ sym lead, ap (λ (p : inbox.PlainPass). p.role.writes) is.inbox);
        };
        region = there_region xs m x at ∙ ap Some (sym region);
      };
      traced = record {
        put = put ∙ sym (append-nil opened);
        taken = taken;
        inbox = λ p. mail_traced l.inbox p (no_mail_at l.inbox critical high normal low p);
      };
      fresh = record {
        puts = let a = ap accounted puts in let b = ap (λ (ns : List ℕ). length ns) put in omega (arith, a, b);
        takes = let a = ap accounted takes in let b = ap (λ (ns : List ℕ). length ns) taken in omega (arith, a, b);
        itself = record { puts = λ e. ap (λ (t : Tally). t.counted) puts; takes = λ e. ap (λ (t : Tally). t.counted) takes };
        empty = λ p. ap (λ (v : Mail). v.kept) (no_mail_at l.inbox critical high normal low p);
      };
      into = λ k. (let a = ap (times k) put in let b = kept k l.inbox.critical critical in let c = kept k l.inbox.high high in let d = kept k l.inbox.normal normal in let e = kept k l.inbox.low low in omega (arith, a, b, c, d, e));
      from = λ k. (let a = ap (times k) taken in let b = got k l.inbox.critical critical in let c = got k l.inbox.high high in let d = got k l.inbox.normal normal in let e = got k l.inbox.low low in omega (arith, a, b, c, d, e));
      token = ap (λ (p : inbox.PlainPass). p.role.token.name) is.inbox ∙ sym region;
      serves = λ e. refl;
    }

-- the home of an interface
iface_new : (xs : List Node) (m number : ℕ) (x : Node) (n : PlainNodePlan) (ws : List Wire) → slice_get xs m ≡ Some x → IsNodeOf n ws x
    → IsHomeNew (map queues_in xs) (map region_in xs) (who.Iface m number) [] (Some (iface_home m number (lead_in x)))
iface_new xs m number x n ws at is =
    let region : x.base.pass.hand.region ≡ region_in x = ap (λ (v : Hand). v.region) (hand_is n ws x is) in
    record {
      of_it = subst (λ o. IsSomeAnd o (λ q. (x.base.pass.pool ≡ q.pool.name) × inbox.IsPassOf q.inbox (inbox.split_pass x.mail.pass number))) (sym (there_queues xs m x at))
          (is.base.of_it, record { inbox = ap (λ (p : inbox.PlainPass). p.inbox) is.pass; room = ap (λ (p : inbox.PlainPass). p.role.room) is.pass });
      among = record { node = refl; passes = record { opens = refl; part = refl; mark = refl; roles = (refl, refl) }; region = there_region xs m x at ∙ ap Some (sym region) };
      traced = record { put = refl; taken = refl; inbox = split_traced };
      fresh = record { puts = refl; takes = refl; itself = record { puts = λ e. refl; takes = λ e. refl }; empty = split_empty };
      into = λ k. refl;
      from = λ k. refl;
      token = ap (λ (p : inbox.PlainPass). p.role.token.name) is.pass ∙ sym region;
      serves = λ e. refl;
    } where
      split_traced : (p : Prio) → IsMailTraced [] (inbox.split_pass x.mail.pass number) p
      split_traced Critical = record { kept = refl; got = refl }
      split_traced High = record { kept = refl; got = refl }
      split_traced Normal = record { kept = refl; got = refl }
      split_traced Low = record { kept = refl; got = refl }

      split_empty : (p : Prio) → (inbox.mail_at (inbox.split_pass x.mail.pass number) p).kept ≡ []
      split_empty Critical = refl
      split_empty High = refl
      split_empty Normal = refl
      split_empty Low = refl

-- that of an application
app_new : (xs : List Node) (m number : ℕ) (x : Node) (n : PlainNodePlan) (ws : List Wire) → slice_get xs m ≡ Some x → IsNodeOf n ws x
    → IsHomeNew (map queues_in xs) (map region_in xs) (who.App m number) [] (Some (app_home m (lead_in x)))
app_new xs m number x n ws at is =
    let region : x.base.pass.hand.region ≡ region_in x = ap (λ (v : Hand). v.region) (hand_is n ws x is) in
    record {
      of_it = subst (λ o. IsSomeAnd o (λ q. (x.base.pass.pool ≡ q.pool.name) × ⊤)) (sym (there_queues xs m x at)) (is.base.of_it, tt);
      among = record { node = refl; passes = record { opens = refl; part = refl; mark = refl; roles = tt }; region = there_region xs m x at ∙ ap Some (sym region) };
      traced = record { put = refl; taken = refl; inbox = tt };
      fresh = record { puts = refl; takes = refl; itself = record { puts = λ e. refl; takes = λ e. refl }; empty = tt };
      into = λ k. refl;
      from = λ k. refl;
      token = tt;
      serves = λ e. absurd cc;
    }

-- a link has none
link_new : (nodes : List PlainNodeQueues) (regions : List RegionName) (number : ℕ) → IsHomeNew nodes regions (who.Link number) [] None
link_new nodes regions number = record {
  of_it = tt;
  among = record { node = refl; passes = tt; region = tt };
  traced = tt;
  fresh = tt;
  into = λ k. refl;
  from = λ k. refl;
  token = tt;
  serves = λ e. absurd cc;
}

-- a node of a scene at a place, as it was opened: on these links
pub record HasNode (nodes : List PlainNode) (wires : List (List Wire)) (xs : List Node) (m : ℕ) : Type 0 where
  pub plain : PlainNode
  pub on : List PlainLink
  pub row : List Wire
  pub node : Node
  pub plain_at : slice_get nodes m ≡ Some plain
  pub row_at : slice_get wires m ≡ Some row
  pub at : slice_get xs m ≡ Some node
  pub is : IsNodeOf (plan_of plain on) row node

pub node_there : (place : ℕ) (nodes : List PlainNode) (links : List PlainLink) (wires : List (List Wire)) (xs : List Node) → AreNodesWith (plans_from place nodes links) wires xs → (m : ℕ) → m < length nodes → HasNode nodes wires xs m
node_there place (n ∷ nodes) links (ws ∷ wires) (x ∷ xs) h zero low = record { plain = n; on = links_at place links; row = ws; node = x; plain_at = refl; row_at = refl; at = refl; is = h.0 }
node_there place (n ∷ nodes) links (ws ∷ wires) (x ∷ xs) h (suc m) low =
    let r = node_there (place + 1) nodes links wires xs h.1 m (omega (arith, low)) in
    record { plain = r.plain; on = r.on; row = r.row; node = r.node; plain_at = r.plain_at; row_at = r.row_at; at = r.at; is = r.is }
node_there place [] links wires xs h m low = absurd (omega (arith, low))
node_there place (n ∷ nodes) links [] xs h m low = absurd h
node_there place (n ∷ nodes) links (ws ∷ wires) [] h m low = absurd h

lead_there : (xs : List Node) (m : ℕ) (x : Node) → slice_get xs m ≡ Some x → slice_get (map lead_in xs) m ≡ Some (lead_in x)
lead_there xs m x at = slice_get-map lead_in xs m ∙ ap (option_map lead_in) at

-- the node of a scene at a place
pub node_is : (nodes : List PlainNode) (m : ℕ) (n : PlainNode) → slice_get nodes m ≡ Some n → node_at nodes m ≡ n
node_is [] m n e = absurd cc
node_is (x ∷ nodes) zero n e = same_Some x n e
node_is (x ∷ nodes) (suc m) n e = node_is nodes m n e

-- so it is of each party, once the passes of all were split off
pub home_new : (scene : PlainScene) (wires : List (List Wire)) (xs : List Node) (ws : List Who) (w : Who) → AreNodesWith (plans_from 0 scene.nodes scene.links) wires xs → IfSome (node_of w) (λ m. m < length scene.nodes)
    → IsHomeNew (map queues_in xs) (map region_in xs) w (opened_in scene w) (home_in (parts_left (map lead_in xs) ws) w (part_home (map lead_in xs) w))
home_new scene wires xs ws (who.Router m) nodes low =
    let t = node_there 0 scene.nodes scene.links wires xs nodes m low in
    let l = parts_at_node (map lead_in xs) ws m (lead_in t.node) (lead_there xs m t.node t.at) in
    subst (λ o. IsHomeNew (map queues_in xs) (map region_in xs) (who.Router m) (opened_in scene (who.Router m)) (option_map (lead_home m) o)) (sym l.1)
    (subst (λ (n : PlainNode). IsHomeNew (map queues_in xs) (map region_in xs) (who.Router m) (range_with_len 0 n.buffers) (Some (lead_home m l.0))) (sym (node_is scene.nodes m t.plain t.plain_at))
    (hub_new xs m t.node t.plain.buffers l.0 (who.Router m) t.at (lead_new (plan_of t.plain t.on) t.row t.node l.0 t.is l.2.fixed) refl refl refl))
home_new scene wires xs ws (who.Bridge m) nodes low =
    let t = node_there 0 scene.nodes scene.links wires xs nodes m low in
    let l = parts_at_node (map lead_in xs) ws m (lead_in t.node) (lead_there xs m t.node t.at) in
    subst (λ o. IsHomeNew (map queues_in xs) (map region_in xs) (who.Bridge m) (opened_in scene (who.Bridge m)) (option_map (lead_home m) o)) (sym l.1)
    (subst (λ (n : PlainNode). IsHomeNew (map queues_in xs) (map region_in xs) (who.Bridge m) (range_with_len 0 n.buffers) (Some (lead_home m l.0))) (sym (node_is scene.nodes m t.plain t.plain_at))
    (hub_new xs m t.node t.plain.buffers l.0 (who.Bridge m) t.at (lead_new (plan_of t.plain t.on) t.row t.node l.0 t.is l.2.fixed) refl refl refl))
home_new scene wires xs ws (who.Iface m k) nodes low =
    let t = node_there 0 scene.nodes scene.links wires xs nodes m low in
    subst (λ o. IsHomeNew (map queues_in xs) (map region_in xs) (who.Iface m k) [] (option_map (iface_home m k) o)) (sym (lead_there xs m t.node t.at)) (iface_new xs m k t.node (plan_of t.plain t.on) t.row t.at t.is)
home_new scene wires xs ws (who.App m k) nodes low =
    let t = node_there 0 scene.nodes scene.links wires xs nodes m low in
    subst (λ o. IsHomeNew (map queues_in xs) (map region_in xs) (who.App m k) [] (option_map (app_home m) o)) (sym (lead_there xs m t.node t.at)) (app_new xs m k t.node (plan_of t.plain t.on) t.row t.at t.is)
home_new scene wires xs ws (who.Link k) nodes low = link_new (map queues_in xs) (map region_in xs) k

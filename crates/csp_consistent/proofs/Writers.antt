-- What the parties of a node put into its inbox with a mark is what the one party put whose mark it is.
use Rattle.std.proofs.Common.{◌≡◌, ◌<◌, ◌≤◌, ℕ, ◌==◌, ◌&&◌, Bool, true, false, Option, None, Some, List, [], ◌∷◌, ◌++◌, length, not, flat_map, refl, sym, ap, ◌∙◌, subst, arith, slice_get}
use Rattle.std.specs.List.{AllByRecursion}
use Rattle.std.specs.Prelude.{if◌then◌else◌}
use Rattle.std.proofs.Math.Bool.{and-false}
use Rattle.std.proofs.lemmas.Bool.{eq-eqb, eqb-false, eqb-true, ne_eqb}
use Rattle.std.proofs.lemmas.Grind.{flat_map-append}
use Rattle.std.proofs.lemmas.List.Filters.{length-filter_both}
use Rattle.std.proofs.lemmas.Option.{same_Some, slice_get_within}
use Rattle.csp_base.specs.Priority.{prio_number, prio_of}
use Rattle.csp_base.specs.declared.priority.Prio.TheVariants.{Critical, High, Normal, Low}
use Rattle.csp_base.specs.declared.priority.Prio.{Prio}
use Rattle.csp_buffer.specs.Content.{Content}
use Rattle.csp_consistent.proofs.Names.{entries_in}
use Rattle.csp_consistent.proofs.Owners.{IsOf, IsOwner}
use Rattle.csp_topology.specs.Writers.{writer_of}
use Rattle.csp_consistent.specs.Pools.{is_node}
use Rattle.csp_consistent.specs.Queues.{MayAsk, MayPush, UseTheirQueues}
use Rattle.csp_consistent.specs.Reading.{of_mark, of_priority, put_by, puts, with_mark, with_priority}
use Rattle.csp_consistent.specs.Runs.{AreLogsOf}
use Rattle.csp_deck.specs.Carried.{IsCarried, priority_of}
use Rattle.csp_log.specs.Who.{is_who, node_of}
use Rattle.csp_log.specs.declared.entry.Entry.{Entry}
use Rattle.csp_log.specs.declared.places.QueueId.TheVariants as queue
use Rattle.csp_log.specs.declared.places.Rule.TheVariants as rule
use Rattle.csp_log.specs.declared.places.TheConstants.{UNMARKED}
use Rattle.csp_log.specs.declared.shown.AnswerShown.TheVariants as answer
use Rattle.csp_log.specs.declared.shown.AnswerShown.{AnswerShown}
use Rattle.csp_log.specs.declared.shown.ItemShown.TheVariants as item
use Rattle.csp_log.specs.declared.shown.ItemShown.{ItemShown}
use Rattle.csp_log.specs.declared.shown.OpShown.TheVariants as op
use Rattle.csp_log.specs.declared.shown.OpShown.{OpShown}
use Rattle.csp_log.specs.declared.who.Who.TheVariants as who
use Rattle.csp_log.specs.declared.who.Who.{Who}
use Rattle.csp_party.specs.Any.{PlainParty}
use Rattle.csp_record.specs.Record.{PlainPartyLog}
use Rattle.csp_scene.proofs.Public.{AllByRecursion-append}
use Rattle.csp_scene.specs.Links.{links_at, touches}
use Rattle.csp_scene.specs.Scene.{PlainLink, PlainNode, PlainScene}
use Rattle.csp_scene.specs.declared.limits.TheConstants.{MAX_LINKS}
use Rattle.csp_topology.specs.Lanes.{leader_of}
use Rattle.csp_topology.specs.Parties.{PlainOpening}

-- ---- the names

module _ (nodes : List PlainNode) (links : List PlainLink) (node : ℕ) (x : PlainNode) (at : slice_get nodes node ≡ Some x) where
  -- the leader of a node is its router or its bridge, whichever the scene has
  pub leader_router : (n : ℕ) (party : PlainParty) → IsOwner nodes links (who.Router n) party → is_who (leader_of node x.addr) (who.Router n) ≡ (n == node)
  leader_router n party is = named x.addr refl where
    named : (addr : Option ℕ) → x.addr ≡ addr → is_who (leader_of node addr) (who.Router n) ≡ (n == node)
    named (Some addr) e = refl
    named None e = by (n == node) refl where
      by : (same : Bool) → (n == node) ≡ same → false ≡ same
      by true g =
          let own : x ≡ is.node = same_Some x is.node (sym at ∙ ap (slice_get nodes) (sym (eqb-true n node g)) ∙ is.there) in
          let none : None ≡ Some is.addr = sym e ∙ ap (λ (y : PlainNode). y.addr) own ∙ is.called in
          absurd cc
      by false g = refl

  pub leader_bridge : (n : ℕ) (party : PlainParty) → IsOwner nodes links (who.Bridge n) party → is_who (leader_of node x.addr) (who.Bridge n) ≡ (n == node)
  leader_bridge n party is = named x.addr refl where
    named : (addr : Option ℕ) → x.addr ≡ addr → is_who (leader_of node addr) (who.Bridge n) ≡ (n == node)
    named None e = refl
    named (Some addr) e = by (n == node) refl where
      by : (same : Bool) → (n == node) ≡ same → false ≡ same
      by true g =
          let own : x ≡ is.node = same_Some x is.node (sym at ∙ ap (slice_get nodes) (sym (eqb-true n node g)) ∙ is.there) in
          let some : Some addr ≡ None = sym e ∙ ap (λ (y : PlainNode). y.addr) own ∙ is.bare in
          absurd cc
      by false g = refl

  leader_iface : (addr : Option ℕ) (n k : ℕ) → is_who (leader_of node addr) (who.Iface n k) ≡ false
  leader_iface None n k = refl
  leader_iface (Some addr) n k = refl

  and-true : (b : Bool) → b ≡ (b && true)
  and-true true = refl
  and-true false = refl

  -- a mark is that of the party which puts it: none is the leader's, and a number that of the interface
  pub writer_router : (n mark : ℕ) (party : PlainParty) → IsOwner nodes links (who.Router n) party → is_who (writer_of node (leader_of node x.addr) mark) (who.Router n) ≡ ((n == node) && (UNMARKED == mark))
  writer_router n mark party is = by (mark == UNMARKED) refl where
    by : (none : Bool) → (mark == UNMARKED) ≡ none → is_who (if none then leader_of node x.addr else who.Iface node mark) (who.Router n) ≡ ((n == node) && (UNMARKED == mark))
    by true e = leader_router n party is ∙ and-true (n == node) ∙ ap (λ (b : Bool). (n == node) && b) (sym (eq-eqb UNMARKED mark (sym (eqb-true mark UNMARKED e))))
    by false e = sym (ap (λ (b : Bool). (n == node) && b) (ne_eqb UNMARKED mark (λ g. eqb-false mark UNMARKED e (sym g))) ∙ and-false (n == node))

  pub writer_iface : (few : length links ≤ MAX_LINKS) (n k mark : ℕ) (party : PlainParty) → IsOwner nodes links (who.Iface n k) party → is_who (writer_of node (leader_of node x.addr) mark) (who.Iface n k) ≡ ((n == node) && (k == mark))
  writer_iface few n k mark party is = by (mark == UNMARKED) refl where
    numbered : k ≡ UNMARKED → ⊥
    numbered e =
        let within : k < length (links_at n links) = slice_get_within (links_at n links) k is.link is.on in
        let all = length-filter_both (touches n) (λ y. not (touches n y)) (λ y. refl) links in
        omega (arith, within, all, few, e)

    by : (none : Bool) → (mark == UNMARKED) ≡ none → is_who (if none then leader_of node x.addr else who.Iface node mark) (who.Iface n k) ≡ ((n == node) && (k == mark))
    by true e = leader_iface x.addr n k ∙ sym (ap (λ (b : Bool). (n == node) && b) (ne_eqb k mark (λ g. numbered (g ∙ eqb-true mark UNMARKED e))) ∙ and-false (n == node))
    by false e = refl

-- ---- the marks

-- what entries put into the inbox is what their party may put there
own_put : (w : Who) (o : OpShown) (a : AnswerShown) → MayAsk w o → AllByRecursion (MayPush w queue.Inbox) (put_by queue.Inbox o a)
own_put w (op.Push queue.Inbox i) answer.Pushed may = (may, tt)
own_put w (op.Push q i) answer.Pushed may = tt
own_put w _ _ may = tt

pub own_puts : (w : Who) (es : List Entry) → AllByRecursion (λ e. MayAsk w e.op) es → AllByRecursion (MayPush w queue.Inbox) (puts queue.Inbox es)
own_puts w [] may = tt
own_puts w (e ∷ es) may = AllByRecursion-append (MayPush w queue.Inbox) (put_by queue.Inbox e.op e.answer) (puts queue.Inbox es) (own_put w e.op e.answer may.0) (own_puts w es may.1)

-- what is of a priority is among all
if_kept : (P : ItemShown → Type 0) (b : Bool) (i : ItemShown) (rest : List ItemShown) → P i → AllByRecursion P rest → AllByRecursion P ((if b then i ∷ [] else []) ++ rest)
if_kept P true i rest h all = (h, all)
if_kept P false i rest h all = all

of_all : (P : ItemShown → Type 0) (p : Prio) (is : List ItemShown) → AllByRecursion P is → AllByRecursion P (with_priority p is)
of_all P p [] all = tt
of_all P p (item.Packet m b ∷ is) all = if_kept P (prio_number (priority_of b) == prio_number p) (item.Packet m b) (with_priority p is) all.0 (of_all P p is all.1)
of_all P p (item.Frame f ∷ is) all = of_all P p is all.1
of_all P p (item.Note n ∷ is) all = of_all P p is all.1

abbrev if_so : {X : Type 0} → Bool → List X → List X
if_so so xs = (if so then xs else [])

if_empty : (so : Bool) → if_so {X = ItemShown} so [] ≡ []
if_empty true = refl
if_empty false = refl

if_both : (so other : Bool) (is : List ItemShown) → if_so so (if_so other is) ≡ if_so (so && other) is
if_both true other is = refl
if_both false other is = refl

if_more : (so : Bool) (i : ItemShown) (is : List ItemShown) → if_so so (i ∷ []) ++ if_so so is ≡ if_so so (i ∷ is)
if_more true i is = refl
if_more false i is = refl

-- a router puts without a mark, and an interface with its number
router_marked : (n mark : ℕ) (is : List ItemShown) → AllByRecursion (MayPush (who.Router n) queue.Inbox) is → with_mark mark is ≡ if_so (UNMARKED == mark) is
router_marked n mark [] all = sym (if_empty (UNMARKED == mark))
router_marked n mark (item.Packet k b ∷ is) all =
    (λ i. if_so (all.0 i == mark) (item.Packet k b ∷ []) ++ router_marked n mark is all.1 i) ∙ if_more (UNMARKED == mark) (item.Packet k b) is
router_marked n mark (item.Frame f ∷ is) all = absurd all.0
router_marked n mark (item.Note f ∷ is) all = absurd all.0

iface_marked : (n k mark : ℕ) (is : List ItemShown) → AllByRecursion (MayPush (who.Iface n k) queue.Inbox) is → with_mark mark is ≡ if_so (k == mark) is
iface_marked n k mark [] all = sym (if_empty (k == mark))
iface_marked n k mark (item.Packet m b ∷ is) all =
    (λ i. if_so (all.0 i == mark) (item.Packet m b ∷ []) ++ iface_marked n k mark is all.1 i) ∙ if_more (k == mark) (item.Packet m b) is
iface_marked n k mark (item.Frame f ∷ is) all = absurd all.0
iface_marked n k mark (item.Note f ∷ is) all = absurd all.0

-- and no other party puts
none_put : (w : Who) → ((i : ItemShown) → MayPush w queue.Inbox i → ⊥) → (es : List Entry) → AllByRecursion (λ e. MayAsk w e.op) es → puts queue.Inbox es ≡ []
none_put w none es may = by (puts queue.Inbox es) (own_puts w es may) where
  by : (is : List ItemShown) → AllByRecursion (MayPush w queue.Inbox) is → is ≡ []
  by [] all = refl
  by (i ∷ is) all = absurd (none i all.0)

bridges_put_none : (n : ℕ) (es : List Entry) → AllByRecursion (λ e. MayAsk (who.Bridge n) e.op) es → puts queue.Inbox es ≡ []
bridges_put_none n es may = none_put (who.Bridge n) (λ i on. absurd on) es may

pub apps_put_none : (n k : ℕ) (es : List Entry) → AllByRecursion (λ e. MayAsk (who.App n k) e.op) es → puts queue.Inbox es ≡ []
apps_put_none n k es may = none_put (who.App n k) (λ i on. absurd on) es may

pub links_put_none : (n : ℕ) (es : List Entry) → AllByRecursion (λ e. MayAsk (who.Link n) e.op) es → puts queue.Inbox es ≡ []
links_put_none n es may = none_put (who.Link n) (λ i on. absurd on) es may

-- ---- what entries put of a priority

pub if_put : (p : Prio) (so : Bool) (es : List Entry) → if_so so (with_priority p (puts queue.Inbox es)) ≡ with_priority p (puts queue.Inbox (if_so so es))
if_put p true es = refl
if_put p false es = refl

pub more_put : (p : Prio) (es fs : List Entry) → with_priority p (puts queue.Inbox (es ++ fs)) ≡ with_priority p (puts queue.Inbox es) ++ with_priority p (puts queue.Inbox fs)
more_put p es fs = ap (with_priority p) (flat_map-append (λ (e : Entry). put_by queue.Inbox e.op e.answer) es fs) ∙ flat_map-append (of_priority p) (puts queue.Inbox es) (puts queue.Inbox fs)

-- ---- what a node's parties put with a mark

module _ (scene : PlainScene) (few : length scene.links ≤ MAX_LINKS) (node : ℕ) (x : PlainNode) (at : slice_get scene.nodes node ≡ Some x) (mark : ℕ) (p : Prio) where
  abbrev writer : Who
  writer = writer_of node (leader_of node x.addr) mark

  nothing : (here so : Bool) (is : List ItemShown) → is ≡ [] → with_mark mark (if_so here (with_priority p is)) ≡ if_so so (with_priority p is)
  nothing here so is none =
      ap (λ xs. with_mark mark (if_so here (with_priority p xs))) none ∙ ap (with_mark mark) (if_empty here) ∙ sym (ap (λ xs. if_so so (with_priority p xs)) none ∙ if_empty so)

  marked : (here : Bool) (is js : List ItemShown) → with_mark mark is ≡ js → with_mark mark (if_so here is) ≡ if_so here js
  marked true is js e = e
  marked false is js e = refl

  -- what one party put
  pub one_put : (w : Who) (party : PlainParty) (es : List Entry) → IsOwner scene.nodes scene.links w party → AllByRecursion (λ e. MayAsk w e.op) es
      → with_mark mark (if_so (is_node node (node_of w)) (with_priority p (puts queue.Inbox es))) ≡ if_so (is_who writer w) (with_priority p (puts queue.Inbox es))
  one_put (who.Router n) party es own may =
      let is = with_priority p (puts queue.Inbox es) in
      marked (n == node) is _ (router_marked n mark is (of_all (MayPush (who.Router n) queue.Inbox) p (puts queue.Inbox es) (own_puts (who.Router n) es may)))
      ∙ if_both (n == node) (UNMARKED == mark) is ∙ ap (λ so. if_so so is) (sym (writer_router scene.nodes scene.links node x at n mark party own))
  one_put (who.Iface n k) party es own may =
      let is = with_priority p (puts queue.Inbox es) in
      marked (n == node) is _ (iface_marked n k mark is (of_all (MayPush (who.Iface n k) queue.Inbox) p (puts queue.Inbox es) (own_puts (who.Iface n k) es may)))
      ∙ if_both (n == node) (k == mark) is ∙ ap (λ so. if_so so is) (sym (writer_iface scene.nodes scene.links node x at few n k mark party own))
  one_put (who.Bridge n) party es own may = nothing (n == node) (is_who writer (who.Bridge n)) (puts queue.Inbox es) (bridges_put_none n es may)
  one_put (who.App n k) party es own may = nothing (n == node) (is_who writer (who.App n k)) (puts queue.Inbox es) (apps_put_none n k es may)
  one_put (who.Link n) party es own may = nothing false (is_who writer (who.Link n)) (puts queue.Inbox es) (links_put_none n es may)

  abbrev put_here : PlainPartyLog → List ItemShown
  put_here log = if_so (is_node node (node_of log.who)) (with_priority p (puts queue.Inbox log.entries))

  pub all_put : (os : List PlainOpening) (logs : List PlainPartyLog) → AreLogsOf os logs → AllByRecursion (IsOf scene) os → UseTheirQueues logs
      → with_mark mark (flat_map put_here logs) ≡ with_priority p (puts queue.Inbox (entries_in writer logs))
  all_put [] [] are own uses = refl
  all_put [] (log ∷ logs) are own uses = absurd are
  all_put (o ∷ os) [] are own uses = absurd are
  all_put (o ∷ os) (log ∷ logs) are own uses =
      let mine : IsOwner scene.nodes scene.links log.who o.party = subst (λ w. IsOwner scene.nodes scene.links w o.party) (sym are.0.who) own.0 in
      flat_map-append (of_mark mark) (put_here log) (flat_map put_here logs)
      ∙ (λ i. (one_put log.who o.party log.entries mine uses.0 ∙ if_put p (is_who writer log.who) log.entries) i ++ all_put os logs are.1 own.1 uses.1 i)
      ∙ sym (more_put p (if_so (is_who writer log.who) log.entries) (entries_in writer logs))

-- ---- what an inbox carries, of one priority

prio_back : (p : Prio) → prio_of (prio_number p) ≡ p
prio_back Critical = refl
prio_back High = refl
prio_back Normal = refl
prio_back Low = refl

-- priorities are known by their numbers
pub prio_is : (p q : Prio) → (prio_number q == prio_number p) ≡ true → q ≡ p
prio_is p q e = sym (prio_back q) ∙ ap prio_of (eqb-true (prio_number q) (prio_number p) e) ∙ prio_back p

packet_carried : (p : Prio) (c : Bool) (k : ℕ) (b : Content) (rest : List ItemShown) → (prio_number (priority_of b) == prio_number p) ≡ c → IsCarried rule.Inbox (item.Packet k b) → AllByRecursion (IsCarried (rule.Priority p)) rest
    → AllByRecursion (IsCarried (rule.Priority p)) ((if c then item.Packet k b ∷ [] else []) ++ rest)
packet_carried p true k b rest e h all = ((h, prio_is p (priority_of b) e), all)
packet_carried p false k b rest e h all = all

pub priority_carried : (p : Prio) (is : List ItemShown) → AllByRecursion (IsCarried rule.Inbox) is → AllByRecursion (IsCarried (rule.Priority p)) (with_priority p is)
priority_carried p [] all = tt
priority_carried p (item.Packet k b ∷ is) all = packet_carried p (prio_number (priority_of b) == prio_number p) k b (with_priority p is) refl all.0 (priority_carried p is all.1)
priority_carried p (item.Frame f ∷ is) all = absurd all.0
priority_carried p (item.Note n ∷ is) all = absurd all.0

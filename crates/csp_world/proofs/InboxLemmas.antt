-- What came through each inbox is what its producers put, in their orders.
use Rattle.std.proofs.Common.{◌≡◌, ℕ, zero, suc, ◌+◌, ◌<◌, ◌≤◌, ◌==◌, Bool, true, false, Option, Some, List, [], ◌∷◌, ◌++◌, length, map, set, refl, sym, subst, ap, ◌∙◌, arith}
use Rattle.std.specs.Prelude.{slice_get, if◌then◌else◌}
use Rattle.std.specs.List.{AllByRecursion, flat_map}
use Rattle.std.proofs.Math.Path.{transport}
use Rattle.std.proofs.lemmas.Bool.Decides.{nat_tests}
use Rattle.std.proofs.lemmas.Grind.{flat_map-append}
use Rattle.std.proofs.lemmas.List.{append-nil, append_assoc}
use Rattle.std.proofs.lemmas.Option.{same_Some}
use Rattle.csp_base.specs.Priority.{prio_number}
use Rattle.csp_base.specs.declared.priority.Prio.{Prio}
use Rattle.csp_consistent.proofs.Public.{AreApart, entries_in, more_put, none_there, prio_is, who_is, IsOf, IsOwner, IsOwn, own_asks, own_told}
use Rattle.csp_consistent.specs.Inboxes.{IsInboxInOrder, put_with}
use Rattle.csp_consistent.specs.Promises.{IsInboxKept}
use Rattle.csp_topology.specs.Writers.{writer_of}
use Rattle.csp_topology.specs.Lanes.{leader_of}
use Rattle.csp_topology.specs.Parties.{PlainOpening, party_steps}
use Rattle.csp_consistent.specs.Queues.{MayAsk}
use Rattle.csp_consistent.specs.Reading.{got_by, gets, left_here, left_in, of_mark, of_priority, put_by, puts, with_mark, with_priority}
use Rattle.csp_deck.specs.Carried.{IsInboxItem, IsOfPriority}
use Rattle.csp_deck.specs.Runs.{state_after, step_after}
use Rattle.csp_deck.specs.Step.{entry_of}
use Rattle.csp_lists.specs.Gathered.{left_at}
use Rattle.csp_lists.specs.Order.{places_in}
use Rattle.csp_lists.specs.PlainDeck.{PlainDeck, PlainQueue, most_urgent, opening_deck, opening_queue, shape_of}
use Rattle.csp_log.specs.declared.entry.Entry.{Entry}
use Rattle.csp_log.specs.declared.places.Carries.{Carries}
use Rattle.csp_log.specs.declared.places.Place.{Place}
use Rattle.csp_log.specs.declared.places.Place.TheVariants as place
use Rattle.csp_log.specs.declared.places.QueueId.{QueueId}
use Rattle.csp_log.specs.declared.places.QueueId.TheVariants as queue
use Rattle.csp_log.specs.declared.places.TheConstants.{IFACES}
use Rattle.csp_log.specs.declared.shown.AnswerShown.{AnswerShown}
use Rattle.csp_log.specs.declared.shown.ItemShown.{ItemShown}
use Rattle.csp_log.specs.declared.shown.OpShown.{OpShown}
use Rattle.csp_nodes.specs.Gathering.{all_left}
use Rattle.csp_nodes.specs.Serving.{served}
use Rattle.csp_party.specs.Any.{PlainParty, asked, asks, events}
use Rattle.csp_log.specs.Who.{is_who}
use Rattle.csp_log.specs.declared.who.Who.{Who}
use Rattle.csp_scene.proofs.Public.{AllByRecursion-append, AllByRecursion-map}
use Rattle.csp_scene.specs.Scene.{PlainLink, PlainNode, PlainScene}
use Rattle.csp_buffer.specs.Content.{Content}
use Rattle.csp_world.proofs.ContentLemmas.{IsRight, PicksOne, content, in_queue, is_named}
use Rattle.csp_world.proofs.InboxNames.{IsParty}
use Rattle.csp_world.proofs.InboxTurns.{AllOf, IsUrgent, got_same, got_urgent, in_inbox, put_carried, put_same, urgent_alone}
use Rattle.csp_world.proofs.KeptLemmas.{flat-push}
use Rattle.csp_world.proofs.LocalLemmas.{IsLocal, Keeps, local}
use Rattle.csp_world.proofs.LoggedLemmas.{AreLogged, logged_logs}
use Rattle.csp_world.proofs.MovedLemmas.{KeepsShape, got_there, moved, put_there, right_after}
use Rattle.csp_world.proofs.OpeningRules.{Stands}
use Rattle.csp_world.proofs.QueuedLemmas.{KeepsQueues, IsQueued, queued-opening}
use Rattle.csp_world.specs.Opening.{new_member}
use Rattle.csp_world.specs.Record.{member_log, record_of}
use Rattle.csp_world.specs.World.{PlainMember, PlainWorld, answered, told, turned}

-- ---- what was left in a queue is what is in it

left_deck : (node j : ℕ) (q : QueueId) (prio : ℕ) (here : Bool) → (j == node) ≡ here → (qs : List PlainQueue) → flat_map (left_here node q prio) (map (left_at j) qs) ≡ (if here then flat_map (in_queue q prio) qs else [])
left_deck node j q prio true e [] = refl
left_deck node j q prio false e [] = refl
left_deck node j q prio true e (x ∷ qs) = rw (e, left_deck node j q prio true e qs) refl
left_deck node j q prio false e (x ∷ qs) = rw (e, left_deck node j q prio false e qs) refl

left_later : (node j : ℕ) (q : QueueId) (prio : ℕ) (decks : List PlainDeck) → node < j → flat_map (left_here node q prio) (all_left j decks) ≡ []
left_later node j q prio [] h = refl
left_later node j q prio (d ∷ decks) h =
    let apart : (j == node) ≡ false = grind (arith, nat_tests) in
    flat_map-append (left_here node q prio) (map (left_at j) d.queues) (all_left (j + 1) decks)
    ∙ rw (left_deck node j q prio false apart d.queues, left_later node (j + 1) q prio decks (omega (arith, h))) refl

left_from : (node j i : ℕ) (q : QueueId) (prio : ℕ) (decks : List PlainDeck) (d : PlainDeck) → node ≡ j + i → slice_get decks i ≡ Some d → flat_map (left_here node q prio) (all_left j decks) ≡ content q prio d
left_from node j i q prio [] d n e = absurd cc
left_from node j zero q prio (x ∷ decks) d n e =
    let same : (j == node) ≡ true = grind (arith, nat_tests) in
    flat_map-append (left_here node q prio) (map (left_at j) x.queues) (all_left (j + 1) decks)
    ∙ rw (left_deck node j q prio true same x.queues, left_later node (j + 1) q prio decks (omega (arith, n))) (append-nil (content q prio x) ∙ ap (content q prio) (same_Some x d e))
left_from node j (suc i) q prio (x ∷ decks) d n e =
    let apart : (j == node) ≡ false = grind (arith, nat_tests) in
    flat_map-append (left_here node q prio) (map (left_at j) x.queues) (all_left (j + 1) decks)
    ∙ rw (left_deck node j q prio false apart x.queues) (left_from node (j + 1) i q prio decks d (omega (arith, n)) e)

pub left_is : (w : PlainWorld) (node : ℕ) (q : QueueId) (prio : ℕ) (d : PlainDeck) → slice_get w.decks node ≡ Some d → left_in (record_of w) node q prio ≡ content q prio d
left_is w node q prio d at = left_from node 0 node q prio w.decks d (omega arith) at

-- ---- a turn is one more entry of its party, and of no other

entry_if : (so : Bool) (old more rest : List Entry) → (so ≡ true → rest ≡ []) → (if so then old ++ more else []) ++ rest ≡ ((if so then old else []) ++ rest) ++ (if so then more else [])
entry_if true old more rest none = rw (none refl) (append-nil (old ++ more) ∙ ap (λ es. es ++ more) (sym (append-nil old)))
entry_if false old more rest none = sym (append-nil rest)

pub entries_step : (w : Who) (time : ℕ) (os : List PlainOpening) (ms : List PlainMember) → AreApart os → AreLogged time os ms → (k : ℕ) (m n : PlainMember) (more : List Entry) → slice_get ms k ≡ Some m → n.who ≡ m.who → n.entries ≡ m.entries ++ more
    → entries_in w (map member_log (set ms k n)) ≡ entries_in w (map member_log ms) ++ (if is_who w m.who then more else [])
entries_step w time [] [] apart logged k m n more at name longer = absurd cc
entries_step w time [] (z ∷ ms) apart logged k m n more at name longer = absurd logged
entries_step w time (o ∷ os) [] apart logged k m n more at name longer = absurd logged
entries_step w time (o ∷ os) (z ∷ ms) apart logged zero m n more at name longer =
    let rest = entries_in w (map member_log ms) in
    let none : is_who w m.who ≡ true → rest ≡ [] = λ e.
    let named : w ≡ o.who = who_is w m.who e ∙ ap (λ (x : PlainMember). x.who) (sym (same_Some z m at)) ∙ logged.0.who in
    ap (λ (v : Who). entries_in v (map member_log ms)) named ∙ none_there o.who os (map member_log ms) (logged_logs time os ms logged.1) apart.0 in
    rw (name, longer) (entry_if (is_who w m.who) m.entries more rest none)
    ∙ ap (λ (x : PlainMember). ((if is_who w x.who then x.entries else []) ++ rest) ++ (if is_who w m.who then more else [])) (sym (same_Some z m at))
entries_step w time (o ∷ os) (z ∷ ms) apart logged (suc k) m n more at name longer =
    ap (λ es. (if is_who w z.who then z.entries else []) ++ es) (entries_step w time os ms apart.1 logged.1 k m n more at name longer)
    ∙ sym (append_assoc (if is_who w z.who then z.entries else []) (entries_in w (map member_log ms)) (if is_who w m.who then more else []))

pub gets-push : (q : QueueId) (es : List Entry) (so : Bool) (e : Entry) → gets q (es ++ (if so then e ∷ [] else [])) ≡ gets q es ++ (if so then got_by q e.op e.answer else [])
gets-push q es true e = flat-push (λ x. got_by q x.op x.answer) es e
gets-push q es false e = ap (gets q) (append-nil es) ∙ sym (append-nil (gets q es))

pub puts-push : (q : QueueId) (es : List Entry) (so : Bool) (e : Entry) → puts q (es ++ (if so then e ∷ [] else [])) ≡ puts q es ++ (if so then put_by q e.op e.answer else [])
puts-push q es true e = flat-push (λ x. put_by q x.op x.answer) es e
puts-push q es false e = ap (puts q) (append-nil es) ∙ sym (append-nil (puts q es))

-- ---- the party of a turn

own_state : (w : Who) (p : PlainParty) (es : List Entry) → IsOwn w p → IsOwn w (state_after party_steps p es)
own_state w p [] own = own
own_state w p (e ∷ es) own = own_state w (step_after party_steps p e) es (own_told w p e.time e.answer own)

abbrev pub AreOwn : List PlainOpening → Type 0
AreOwn os = AllByRecursion (λ o. IsOwn o.who o.party) os

pub member_own : (time : ℕ) (os : List PlainOpening) (ms : List PlainMember) → AreOwn os → AreLogged time os ms → (k : ℕ) (m : PlainMember) → slice_get ms k ≡ Some m → IsOwn m.who m.party
member_own time [] [] own logged k m at = absurd cc
member_own time [] (z ∷ ms) own logged k m at = absurd logged
member_own time (o ∷ os) [] own logged k m at = absurd logged
member_own time (o ∷ os) (z ∷ ms) own logged zero m at =
    subst (λ (x : PlainMember). IsOwn x.who x.party) (same_Some z m at)
    (subst (λ (v : Who). IsOwn v z.party) (sym logged.0.who) (subst (IsOwn o.who) logged.0.reached (own_state o.who o.party z.entries own.0)))
member_own time (o ∷ os) (z ∷ ms) own logged (suc k) m at = member_own time os ms own.1 logged.1 k m at

pub member_party : (nodes : List PlainNode) (links : List PlainLink) → length links ≤ IFACES → (time : ℕ) (os : List PlainOpening) (ms : List PlainMember) → AllByRecursion (λ o. IsOwner nodes links o.who o.party) os → AreLogged time os ms
    → (k : ℕ) (m : PlainMember) → slice_get ms k ≡ Some m → IsParty nodes links m.who
member_party nodes links few time [] [] owned logged k m at = absurd cc
member_party nodes links few time [] (z ∷ ms) owned logged k m at = absurd logged
member_party nodes links few time (o ∷ os) [] owned logged k m at = absurd logged
member_party nodes links few time (o ∷ os) (z ∷ ms) owned logged zero m at =
    subst (λ (x : PlainMember). IsParty nodes links x.who) (same_Some z m at)
    (record { party = o.party; owner = subst (λ (v : Who). IsOwner nodes links v o.party) (sym logged.0.who) owned.0; few = few })
member_party nodes links few time (o ∷ os) (z ∷ ms) owned logged (suc k) m at = member_party nodes links few time os ms owned.1 logged.1 k m at

-- ---- what came through an inbox

-- the name and priority of a queue of an inbox are those of one place
inbox_is : (p : Prio) (y : Place) → IsQueued y → is_named queue.Inbox (prio_number p) y ≡ true → y ≡ place.Inbox p
inbox_is p (place.Inbox other) h e = ap place.Inbox (prio_is p other e)
inbox_is p (place.Lane queue.Inbox) h e = absurd h
inbox_is p (place.Lane (queue.Up k)) h e = absurd cc
inbox_is p (place.Lane (queue.Down k)) h e = absurd cc
inbox_is p (place.Lane (queue.Out k)) h e = absurd cc
inbox_is p (place.Lane (queue.Tx k)) h e = absurd cc
inbox_is p (place.Lane (queue.Rx k)) h e = absurd cc
inbox_is p place.Pool h e = absurd h
inbox_is p place.Router h e = absurd h
inbox_is p (place.Iface k) h e = absurd h
inbox_is p (place.App k) h e = absurd h

inbox_one : (p : Prio) → PicksOne queue.Inbox (prio_number p)
inbox_one p x y h g e f = inbox_is p y g f ∙ sym (inbox_is p x h e)

abbrev pub through : ℕ → PlainNode → Prio → PlainDeck → List PlainMember → List ItemShown
through node x p d ms = with_priority p (gets queue.Inbox (entries_in (leader_of node x.addr) (map member_log ms))) ++ content queue.Inbox (prio_number p) d

abbrev pub written : ℕ → PlainNode → Prio → ℕ → List PlainMember → List ItemShown
written node x p mark ms = with_priority p (puts queue.Inbox (entries_in (writer_of node (leader_of node x.addr) mark) (map member_log ms)))

-- the lists of its node have kept the inbox's promise so far, of what the logs say
pub record HasKeptInbox (node : ℕ) (x : PlainNode) (decks : List PlainDeck) (ms : List PlainMember) : Type 0 where
  pub deck : PlainDeck
  pub there : slice_get decks node ≡ Some deck
  pub right : IsRight deck
  pub kept : IsInboxKept (λ p mark. written node x p mark ms) (gets queue.Inbox (entries_in (leader_of node x.addr) (map member_log ms))) (λ p. content queue.Inbox (prio_number p) deck)

all-first : (p : Prio) (xs ys : List ItemShown) → AllOf p (xs ++ ys) → AllOf p xs
all-first p [] ys h = tt
all-first p (x ∷ xs) ys h = (h.0, all-first p xs ys h.1)

all-second : (p : Prio) (xs ys : List ItemShown) → AllOf p (xs ++ ys) → AllOf p ys
all-second p [] ys h = h
all-second p (x ∷ xs) ys h = all-second p xs ys h.1

-- what is to be known of a scene and its parties
pub record IsKnown (scene : PlainScene) (os : List PlainOpening) : Type 0 where
  pub stands : Stands
  pub queues : KeepsQueues
  pub shape : KeepsShape
  pub keeps : Keeps IsRight
  pub apart : AreApart os
  pub own : AreOwn os
  pub owned : AllByRecursion (IsOf scene) os
  pub few : length scene.links ≤ IFACES

-- so it stays in a turn
pub inbox_turned : (scene : PlainScene) (os : List PlainOpening) → IsKnown scene os → (node : ℕ) (x : PlainNode) → slice_get scene.nodes node ≡ Some x → (w : PlainWorld) → AreLogged w.time os w.members
    → (k : ℕ) (m : PlainMember) → slice_get w.members k ≡ Some m → HasKeptInbox node x w.decks w.members → HasKeptInbox node x (turned w k m).decks (turned w k m).members
inbox_turned scene os known node x at w logged k m found h = record {
  deck = l.after;
  there = l.got;
  right = right_after known.keeps h.deck h.right node there r l;
  kept = record {
    priorities = λ p. record {
      order = λ mark.
          ap (with_mark mark) (grown p)
          ∙ flat_map-append (of_mark mark) (through node x p h.deck w.members) (put_there queue.Inbox (prio_number p) node there r.0)
          ∙ ap (λ is. is ++ with_mark mark (put_there queue.Inbox (prio_number p) node there r.0)) ((h.kept.priorities p).order mark)
          ∙ ap (λ is. written node x p mark w.members ++ is) (sym (put_same scene w.links node x at m.who party e may p mark))
          ∙ sym (more_put p (old (writer_of node hub mark)) (if is_who (writer_of node hub mark) m.who then e ∷ [] else []))
          ∙ ap (λ es. with_priority p (puts queue.Inbox es)) (sym (longer (writer_of node hub mark)));
      carried =
          subst (AllOf p) (sym (grown p))
          (AllByRecursion-append (IsOfPriority p) (through node x p h.deck w.members) (put_there queue.Inbox (prio_number p) node there r.0) (h.kept.priorities p).carried (put_carried scene w.links node m.who party e may p));
    };
    got =
        subst (AllByRecursion IsInboxItem) (sym more)
        (AllByRecursion-append IsInboxItem (gets queue.Inbox (old hub)) (got_urgent h.deck node there r.0) h.kept.got
        (AllByRecursion-map (IsOfPriority (most_urgent h.deck)) IsInboxItem (got_urgent h.deck node there r.0) (in_inbox (most_urgent h.deck)) urgent));
  };
} where
  hub : Who
  hub = leader_of node x.addr

  o : OpShown
  o = asks m.party w.time

  r : AnswerShown × List PlainDeck
  r = answered w.decks w.links w.time m

  there : Option (ℕ × OpShown)
  there = served w.links m.who o

  l : IsLocal there r node h.deck
  l = local w.decks w.links m.who o node h.deck h.there

  e : Entry
  e = entry_of w.time o r.0 (events (asked m.party w.time) w.time r.0)

  party : IsParty scene.nodes scene.links m.who
  party = member_party scene.nodes scene.links known.few w.time os w.members known.owned logged k m found

  may : MayAsk m.who o
  may = own_asks m.who m.party w.time (member_own w.time os w.members known.own logged k m found)

  old : Who → List Entry
  old v = entries_in v (map member_log w.members)

  longer : (v : Who) → entries_in v (map member_log (turned w k m).members) ≡ old v ++ (if is_who v m.who then e ∷ [] else [])
  longer v = entries_step v w.time os w.members known.apart logged k m (told m w.time r.0) (e ∷ []) found refl refl

  move : (p : Prio) → got_there queue.Inbox (prio_number p) h.deck node there r.0 ++ content queue.Inbox (prio_number p) l.after ≡ content queue.Inbox (prio_number p) h.deck ++ put_there queue.Inbox (prio_number p) node there r.0
  move p = moved known.stands known.keeps queue.Inbox (prio_number p) (inbox_one p) h.deck h.right node there r l

  urgent : IsUrgent h.deck node there r.0
  urgent =
      let u = most_urgent h.deck in
      all-first u (got_there queue.Inbox (prio_number u) h.deck node there r.0) (content queue.Inbox (prio_number u) l.after)
      (subst (AllOf u) (sym (move u))
      (AllByRecursion-append (IsOfPriority u) (content queue.Inbox (prio_number u) h.deck) (put_there queue.Inbox (prio_number u) node there r.0)
      (all-second u (with_priority u (gets queue.Inbox (old hub))) (content queue.Inbox (prio_number u) h.deck) (h.kept.priorities u).carried)
      (put_carried scene w.links node m.who party e may u)))

  more : gets queue.Inbox (entries_in hub (map member_log (turned w k m).members)) ≡ gets queue.Inbox (old hub) ++ got_urgent h.deck node there r.0
  more =
      ap (gets queue.Inbox) (longer hub) ∙ gets-push queue.Inbox (old hub) (is_who hub m.who) e
      ∙ ap (λ is. gets queue.Inbox (old hub) ++ is) (got_same scene w.links node x at h.deck r.0 m.who party o may)

  grown : (p : Prio) → through node x p l.after (turned w k m).members ≡ through node x p h.deck w.members ++ put_there queue.Inbox (prio_number p) node there r.0
  grown p =
      let before = with_priority p (gets queue.Inbox (old hub)) in
      let got = got_there queue.Inbox (prio_number p) h.deck node there r.0 in
      ap (λ is. is ++ content queue.Inbox (prio_number p) l.after)
      (ap (with_priority p) more
      ∙ flat_map-append (of_priority p) (gets queue.Inbox (old hub)) (got_urgent h.deck node there r.0)
      ∙ ap (λ is. before ++ is) (urgent_alone p h.deck node there r.0 urgent))
      ∙ append_assoc before got (content queue.Inbox (prio_number p) l.after)
      ∙ ap (λ is. before ++ is) (move p)
      ∙ sym (append_assoc before (content queue.Inbox (prio_number p) h.deck) (put_there queue.Inbox (prio_number p) node there r.0))

-- at the opening nothing came through
if_empty : {X : Type 0} (so : Bool) (rest : List X) → rest ≡ [] → (if so then [] else []) ++ rest ≡ []
if_empty true rest e = e
if_empty false rest e = e

pub no_entries : (v : Who) (os : List PlainOpening) → entries_in v (map member_log (map new_member os)) ≡ []
no_entries v [] = refl
no_entries v (o ∷ os) = if_empty (is_who v o.who) _ (no_entries v os)

pub no_content : (q : QueueId) (prio inbox : ℕ) (links : List Carries) (ps : List Place) → flat_map (in_queue q prio) (map (opening_queue inbox links) ps) ≡ []
no_content q prio inbox links [] = refl
no_content q prio inbox links (p ∷ ps) = if_empty (is_named q prio p) _ (no_content q prio inbox links ps)

places_stand : (inbox : ℕ) (links : List Carries) (ps : List Place) → map (λ q. q.place) (map (opening_queue inbox links) ps) ≡ ps
places_stand inbox links [] = refl
places_stand inbox links (p ∷ ps) = ap (λ (xs : List Place). p ∷ xs) (places_stand inbox links ps)

pub right_opening : (buffers : List Content) (inbox apps : ℕ) (links : List Carries) → IsRight (opening_deck buffers inbox apps links)
right_opening buffers inbox apps links = record { queued = queued-opening buffers inbox apps links; right = places_stand inbox links (places_in (shape_of apps links)) }

pub inbox_opened : (node : ℕ) (x : PlainNode) (buffers : List Content) (inbox apps : ℕ) (links : List Carries) (decks : List PlainDeck) (os : List PlainOpening) → slice_get decks node ≡ Some (opening_deck buffers inbox apps links)
    → HasKeptInbox node x decks (map new_member os)
inbox_opened node x buffers inbox apps links decks os at = record {
  deck = opening_deck buffers inbox apps links;
  there = at;
  right = right_opening buffers inbox apps links;
  kept = record {
    priorities = λ p. record {
      order = λ mark. ap (with_mark mark) (nothing p) ∙ sym (ap (λ es. with_priority p (puts queue.Inbox es)) (no_entries (writer_of node (leader_of node x.addr) mark) os));
      carried = subst (AllOf p) (sym (nothing p)) tt;
    };
    got = subst (λ es. AllByRecursion IsInboxItem (gets queue.Inbox es)) (sym (no_entries (leader_of node x.addr) os)) tt;
  };
} where
  nothing : (p : Prio) → through node x p (opening_deck buffers inbox apps links) (map new_member os) ≡ []
  nothing p = rw (no_entries (leader_of node x.addr) os) (no_content queue.Inbox (prio_number p) inbox links (places_in (shape_of apps links)))

-- so the record says
pub inbox_in_order : (w : PlainWorld) (node : ℕ) (x : PlainNode) → HasKeptInbox node x w.decks w.members → IsInboxInOrder (record_of w) node (leader_of node x.addr)
inbox_in_order w node x h =
    transport (λ i. IsInboxKept (put_with (record_of w) node (leader_of node x.addr)) (gets queue.Inbox (entries_in (leader_of node x.addr) (map member_log w.members)))
    (λ p. sym (left_is w node queue.Inbox (prio_number p) h.deck h.there) i)) h.kept

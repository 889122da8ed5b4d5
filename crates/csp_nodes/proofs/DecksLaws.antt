-- What one node's lists answer is what the party is answered.
use Rattle.std.proofs.Common.{◌≡◌, ℕ, zero, suc, ◌+◌, ◌<◌, ◌≤◌, Bool, true, false, Option, None, Some, Result, Ok, Err, MatchResult, IfSome, List, [], ◌∷◌, ◌++◌, length, map, get_or, refl, sym, ◌∙◌, ap, subst, arith, set, IsSome}
use Rattle.std.specs.Prelude.{slice_get, slice_set, nat_lt, if◌then◌else◌, IsSomeAnd, ⊤}
use Rattle.std.specs.List.{AllByRecursion}
use Rattle.std.specs.Option.{option_map, option_and_then}
use Rattle.std.proofs.lemmas.List.{map-set, length-map}
use Rattle.std.proofs.lemmas.Option.{slice_get-map, slice_get_read, slice_get_within, get_or_from_slice_get}
use Rattle.std.proofs.lemmas.Bool.Decides.{nat_tests}
use Rattle.std.proofs.Math.Seq.{map-set_same}
use Rattle.csp_arena.specs.Cells.{RegionName}
use Rattle.csp_base.specs.declared.priority.Prio.{Prio}
use Rattle.csp_base.specs.declared.priority.Prio.TheVariants.{Critical, High, Normal, Low}
use Rattle.csp_buffer.specs.Content.{Content}
use Rattle.csp_deck.specs.Carried.{IsCarried, IsCarriedIn, place_for, places_of, places_before, passed_over, priority_of}
use Rattle.csp_deck.specs.Regions.{IsItemOf, nowhere}
use Rattle.csp_lists.specs.PlainDeck as lists
use Rattle.csp_lists.specs.Regioned.{shown_pop}
use Rattle.csp_lists.specs.PlainDeck.{DeckAt, PlainDeck, answer_of, rule_of, IsEmptyAt, IsFullAt}
use Rattle.csp_log.specs.Pictures.{shown_item}
use Rattle.csp_log.specs.declared.item.Item.{Item}
use Rattle.csp_log.specs.declared.item.Item.TheVariants as real
use Rattle.csp_log.specs.declared.places.Carries.TheVariants as lane
use Rattle.csp_log.specs.declared.places.End.{End}
use Rattle.csp_log.specs.declared.places.Place.{Place}
use Rattle.csp_log.specs.declared.places.Place.TheVariants as place
use Rattle.csp_log.specs.declared.places.QueueId.{QueueId}
use Rattle.csp_log.specs.declared.places.QueueId.TheVariants as queue
use Rattle.csp_log.specs.declared.places.Rule.{Rule}
use Rattle.csp_log.specs.declared.places.Rule.TheVariants as rule
use Rattle.csp_log.specs.declared.shown.AnswerShown.{AnswerShown}
use Rattle.csp_log.specs.declared.shown.AnswerShown.TheVariants as answer
use Rattle.csp_log.specs.declared.shown.ItemShown.{ItemShown}
use Rattle.csp_log.specs.declared.shown.ItemShown.TheVariants as item
use Rattle.csp_log.specs.declared.shown.OpShown.{OpShown}
use Rattle.csp_log.specs.declared.shown.OpShown.TheVariants as op
use Rattle.csp_nodes.specs.DecksAt.{DecksAt, Answers, home_among, region_in, region_there, region_or, rule_at, region_at, IsEmpty, IsFull, TakesSo, GivesSo, PushesSo, PopsSo}
use Rattle.csp_nodes.specs.NodeAt.{TakesAt, GivesAt}
use Rattle.csp_nodes.specs.Seeing.{decks_of, regions_of}
use Rattle.csp_nodes.specs.Serving.{answer_at, answer_there, answer_in, at_end, at_queue, goes, served, rule_in, rule_there, seen_by, of_frames, place_in, IsThere, or_none, no_lists}
use Rattle.csp_log.specs.Who.{node_of}
use Rattle.csp_log.specs.declared.who.Who.{Who}
use Rattle.csp_log.specs.declared.who.Who.TheVariants as who
use Rattle.csp_nodes.proofs.SetLemmas.{set_same}

-- the lists of these nodes as a party sees them
abbrev pub seen : List DeckAt → List (List End) → Who → DecksAt
seen nodes links w = record { decks = decks_of nodes; regions = regions_of nodes; links = links; whose = w }

-- an operation leaves what each queue carries
abbrev pub KeepsRules : Type 0
KeepsRules = (decks : List PlainDeck) (links : List (List End)) (w : Who) (o : OpShown) (x : Who) (q : QueueId) → rule_in (answer_in decks links w o).1 links x q ≡ rule_in decks links x q

pub rules_stay : KeepsRules → (d e : DecksAt) (o : OpShown) (a : AnswerShown) → Answers d o a e → (q : QueueId) → rule_at e q ≡ rule_at d q
rules_stay law d e o a s q =
    rw (s.links, s.whose) (ap (λ (r : AnswerShown × List PlainDeck). rule_in r.1 d.links d.whose q) (sym s.answer) ∙ law d.decks d.links d.whose o d.whose q)

pub region_stays : (d e : DecksAt) (o : OpShown) (a : AnswerShown) → Answers d o a e → region_at e ≡ region_at d
region_stays d e o a s = rw (s.regions, s.whose) refl

deck_there : (nodes : List DeckAt) (n : ℕ) (d : DeckAt) → slice_get nodes n ≡ Some d → slice_get (decks_of nodes) n ≡ Some d.deck
deck_there nodes n d at = slice_get-map (λ (d : DeckAt). d.deck) nodes n ∙ ap (option_map (λ (d : DeckAt). d.deck)) at

region_there_is : (nodes : List DeckAt) (n : ℕ) (d : DeckAt) → slice_get nodes n ≡ Some d → slice_get (regions_of nodes) n ≡ Some d.region
region_there_is nodes n d at = slice_get-map (λ (d : DeckAt). d.region) nodes n ∙ ap (option_map (λ (d : DeckAt). d.region)) at

-- what a node's lists answer
pub lifted : (nodes : List DeckAt) (links : List (List End)) (w : Who) (o p : OpShown) (n : ℕ) (d e : DeckAt) (a : AnswerShown) → served links w o ≡ Some (n, p) → slice_get nodes n ≡ Some d
    → answer_of d.deck p ≡ (a, e.deck) → e.region ≡ d.region → Answers (seen nodes links w) o a (seen (set nodes n e) links w)
lifted nodes links w o p n d e a s at law r = record {
  answer = ap (answer_there (decks_of nodes) o) s
      ∙ ap (answer_at (decks_of nodes) o (n, p)) (deck_there nodes n d at)
      ∙ ap (λ (x : AnswerShown × PlainDeck). (x.0, slice_set (decks_of nodes) n x.1)) law
      ∙ ap (λ (l : List PlainDeck). (a, l)) (sym (map-set (λ (d : DeckAt). d.deck) nodes n e));
  regions = map-set_same (λ (d : DeckAt). d.region) nodes n e d (r ∙ ap (λ (d : DeckAt). d.region) (sym (get_or_from_slice_get nodes n d d at)));
  links = refl;
  whose = refl;
}

-- what none answers
pub unserved : (d : DecksAt) (o : OpShown) → served d.links d.whose o ≡ None → Answers d o (answer_of no_lists o).0 d
unserved d o s = record { answer = ap (answer_there d.decks o) s; regions = refl; links = refl; whose = refl }

pub missing : (d : DecksAt) (o p : OpShown) (n : ℕ) → served d.links d.whose o ≡ Some (n, p) → slice_get d.decks n ≡ None → Answers d o (answer_of no_lists o).0 d
missing d o p n s at = record { answer = ap (answer_there d.decks o) s ∙ ap (answer_at d.decks o (n, p)) at; regions = refl; links = refl; whose = refl }

past_end : {X : Type 0} (xs : List X) (n : ℕ) → length xs ≤ n → slice_get xs n ≡ None
past_end [] zero h = refl
past_end [] (suc n) h = refl
past_end (x ∷ xs) zero h = absurd (omega arith)
past_end (x ∷ xs) (suc n) h = past_end xs n (omega arith)

not_below : (n m : ℕ) → nat_lt n m ≡ false → m ≤ n
not_below n m e = grind (arith, nat_tests, e)

-- what two equal answers name
some_is : {X : Type 0} {x y : X} → Some x ≡ Some y → x ≡ y
some_is e = cc

both_are : {p r : ℕ × QueueId} → Some p ≡ Some r → (p.0 ≡ r.0) × (p.1 ≡ r.1)
both_are e = let same = some_is e in (ap (λ (x : ℕ × QueueId). x.0) same, ap (λ (x : ℕ × QueueId). x.1) same)

-- of the pool: the node of the party, where it is one of these
home_is : (decks : List PlainDeck) (o : Option ℕ) (n : ℕ) → home_among decks o ≡ Some n → o ≡ Some n
home_is decks None n e = cc
home_is decks (Some m) n e = by (nat_lt m (length decks)) e where
  by : (b : Bool) → (if b then Some m else None) ≡ Some n → Some m ≡ Some n
  by true f = f
  by false f = cc

-- a party that is at a node, or a link
data Seat (w : Who) : Type 0 where
  at_node : (n : ℕ) → node_of w ≡ Some n → ((links : List (List End)) (q : QueueId) → goes links w q ≡ Some (n, q)) → ((r : Option Rule) → seen_by w r ≡ r) → Seat w
  at_link : (l : ℕ) → w ≡ who.Link l → Seat w

seat : (w : Who) → Seat w
seat (who.Router n) = at_node n refl (λ links q. refl) (λ r. refl)
seat (who.Bridge n) = at_node n refl (λ links q. refl) (λ r. refl)
seat (who.Iface n k) = at_node n refl (λ links q. refl) (λ r. refl)
seat (who.App n k) = at_node n refl (λ links q. refl) (λ r. refl)
seat (who.Link l) = at_link l refl

-- a link's queue at a node is a lane with frames
data LaneOf (q name : QueueId) : Type 0 where
  tx : (k j : ℕ) → q ≡ queue.Tx k → name ≡ queue.Tx j → LaneOf q name
  rx : (k j : ℕ) → q ≡ queue.Rx k → name ≡ queue.Rx j → LaneOf q name

lane_at : (ends : List End) (q : QueueId) (n : ℕ) (name : QueueId) → at_end ends q ≡ Some (n, name) → LaneOf q name
lane_at ends (queue.Tx k) n name e = by (slice_get ends k) e where
  by : (o : Option End) → option_map {U = ℕ × QueueId} (λ (e : End). (e.node, queue.Tx e.iface)) o ≡ Some (n, name) → LaneOf (queue.Tx k) name
  by None f = cc
  by (Some x) f = let (_, is) = both_are f in tx k x.iface refl (sym is)
lane_at ends (queue.Rx k) n name e = by (slice_get ends k) e where
  by : (o : Option End) → option_map {U = ℕ × QueueId} (λ (e : End). (e.node, queue.Rx e.iface)) o ≡ Some (n, name) → LaneOf (queue.Rx k) name
  by None f = cc
  by (Some x) f = let (_, is) = both_are f in rx k x.iface refl (sym is)
lane_at ends queue.Inbox n name e = cc
lane_at ends (queue.Up k) n name e = cc
lane_at ends (queue.Down k) n name e = cc
lane_at ends (queue.Out k) n name e = cc

link_lane : (links : List (List End)) (l : ℕ) (q : QueueId) (n : ℕ) (name : QueueId) → goes links (who.Link l) q ≡ Some (n, name) → LaneOf q name
link_lane links l q n name e = by (slice_get links l) e where
  by : (o : Option (List End)) → option_and_then (λ ends. at_end ends q) o ≡ Some (n, name) → LaneOf q name
  by None f = cc
  by (Some ends) f = lane_at ends q n name f

-- a queue's place is one of a queue
abbrev pub IsQueue : Place → Type 0
IsQueue place.Pool = ⊥
IsQueue (place.Inbox p) = ⊤
IsQueue (place.Lane q) = ⊤
IsQueue place.Router = ⊥
IsQueue (place.Iface k) = ⊥
IsQueue (place.App k) = ⊥

own_place : (links : List (List End)) (w : Who) (n : ℕ) → node_of w ≡ Some n → ((q : QueueId) → goes links w q ≡ Some (n, q)) → (p : Place) → IsQueue p → place_in links w p ≡ Some (n, p)
own_place links w n home go place.Pool h = absurd h
own_place links w n home go (place.Inbox p) h = rw home refl
own_place links w n home go (place.Lane q) h = ap (option_map (λ (there : ℕ × QueueId). (there.0, place.Lane there.1))) (go q)
own_place links w n home go place.Router h = absurd h
own_place links w n home go (place.Iface k) h = absurd h
own_place links w n home go (place.App k) h = absurd h

-- what is true at a node's place is true at the party's
pub there : (Is : PlainDeck → Place → Type 0) (nodes : List DeckAt) (links : List (List End)) (w : Who) (n : ℕ) (d : DeckAt) (p name : Place) → place_in links w p ≡ Some (n, name) → slice_get nodes n ≡ Some d
    → Is d.deck name → IsThere Is (decks_of nodes) p (place_in links w p)
there Is nodes links w n d p name go at h =
    subst (λ (o : Option (ℕ × Place)). IsThere Is (decks_of nodes) p o) (sym go)
    (subst (λ (x : PlainDeck). Is x name) (sym (ap or_none (deck_there nodes n d at))) h)

pushed_to : (q : QueueId) (i : ItemShown) → IsQueue (place_for q i)
pushed_to queue.Inbox (item.Packet m b) = tt
pushed_to queue.Inbox (item.Frame f) = tt
pushed_to queue.Inbox (item.Note n) = tt
pushed_to (queue.Up k) i = tt
pushed_to (queue.Down k) i = tt
pushed_to (queue.Out k) i = tt
pushed_to (queue.Tx k) i = tt
pushed_to (queue.Rx k) i = tt

lane_for : (q name : QueueId) (i : ItemShown) → LaneOf q name → (place_for q i ≡ place.Lane q) × (place_for name i ≡ place.Lane name)
lane_for q name i (tx k j e f) = rw (e, f) (refl, refl)
lane_for q name i (rx k j e f) = rw (e, f) (refl, refl)

push_place : (links : List (List End)) (w : Who) (q : QueueId) (i : ItemShown) (n : ℕ) (name : QueueId) → Seat w → goes links w q ≡ Some (n, name) → place_in links w (place_for q i) ≡ Some (n, place_for name i)
push_place links w q i n name (at_node m home go see) e =
    let (node, is) = both_are (sym (go links q) ∙ e) in
    own_place links w m home (go links) (place_for q i) (pushed_to q i) ∙ rw (is, node) refl
push_place links w q i n name (at_link l e') e =
    let lane = link_lane links l q n name (subst (λ x. goes links x q ≡ Some (n, name)) e' e) in
    let (its, named) = lane_for q name i lane in
    rw (its, named) (ap (option_map (λ (there : ℕ × QueueId). (there.0, place.Lane there.1))) e)

pub pushes : KeepsRules → (nodes : List DeckAt) (links : List (List End)) (w : Who) (q : QueueId) (i : ItemShown) (n : ℕ) (name : QueueId) (d e : DeckAt) (r : Result (Unit {0}) ItemShown)
    → goes links w q ≡ Some (n, name) → slice_get nodes n ≡ Some d → lists.PushesSo d.deck name i r e.deck → e.region ≡ d.region
    → PushesSo (seen nodes links w) q i r (seen (set nodes n e) links w)
pushes law nodes links w q i n name d e (Ok u) go at so reg =
    let s = lifted nodes links w (op.Push q i) (op.Push name i) n d e answer.Pushed (ap (option_map (at_queue (λ to. op.Push to i))) go) at so.answer reg in
    record { answer = s; full = tt; rules = rules_stay law _ _ _ _ s; region = region_stays _ _ _ _ s }
pushes law nodes links w q i n name d e (Err j) go at so reg =
    let s = lifted nodes links w (op.Push q i) (op.Push name i) n d e (answer.Full j) (ap (option_map (at_queue (λ to. op.Push to i))) go) at so.answer reg in
    record {
      answer = s;
      full = there IsFullAt nodes links w n d (place_for q i) (place_for name i) (push_place links w q i n name (seat w) go) at so.full;
      rules = rules_stay law _ _ _ _ s;
      region = region_stays _ _ _ _ s;
    }

-- the places that a pop looks at
empties : (nodes : List DeckAt) (links : List (List End)) (w : Who) (n : ℕ) (d : DeckAt) → node_of w ≡ Some n → ((q : QueueId) → goes links w q ≡ Some (n, q)) → slice_get nodes n ≡ Some d
    → (ps : List Place) → AllByRecursion IsQueue ps → AllByRecursion (IsEmptyAt d.deck) ps → AllByRecursion (IsEmpty (seen nodes links w)) ps
empties nodes links w n d home go at [] qs h = tt
empties nodes links w n d home go at (p ∷ ps) qs h =
    (there IsEmptyAt nodes links w n d p p (own_place links w n home go p qs.0) at h.0, empties nodes links w n d home go at ps qs.1 h.1)

popped_from : (q : QueueId) → AllByRecursion IsQueue (places_of q)
popped_from queue.Inbox = (tt, (tt, (tt, (tt, tt))))
popped_from (queue.Up k) = (tt, tt)
popped_from (queue.Down k) = (tt, tt)
popped_from (queue.Out k) = (tt, tt)
popped_from (queue.Tx k) = (tt, tt)
popped_from (queue.Rx k) = (tt, tt)

before_it : (p : Prio) → AllByRecursion IsQueue (places_before p)
before_it Critical = tt
before_it High = (tt, tt)
before_it Normal = (tt, (tt, tt))
before_it Low = (tt, (tt, (tt, tt)))

passed : (q : QueueId) (i : ItemShown) → AllByRecursion IsQueue (passed_over q i)
passed queue.Inbox (item.Packet m b) = before_it (priority_of b)
passed queue.Inbox (item.Frame f) = tt
passed queue.Inbox (item.Note n) = tt
passed (queue.Up k) i = tt
passed (queue.Down k) i = tt
passed (queue.Out k) i = tt
passed (queue.Tx k) i = tt
passed (queue.Rx k) i = tt

lane_only : (q name : QueueId) → LaneOf q name → (places_of q ≡ place.Lane q ∷ []) × (places_of name ≡ place.Lane name ∷ [])
lane_only q name (tx k j e f) = rw (e, f) (refl, refl)
lane_only q name (rx k j e f) = rw (e, f) (refl, refl)

none_before : (q name : QueueId) (i : ItemShown) → LaneOf q name → passed_over q i ≡ []
none_before q name i (tx k j e f) = rw e refl
none_before q name i (rx k j e f) = rw e refl

none_there : (nodes : List DeckAt) (links : List (List End)) (w : Who) (q : QueueId) (n : ℕ) (name : QueueId) (d : DeckAt) → Seat w → goes links w q ≡ Some (n, name) → slice_get nodes n ≡ Some d
    → AllByRecursion (IsEmptyAt d.deck) (places_of name) → AllByRecursion (IsEmpty (seen nodes links w)) (places_of q)
none_there nodes links w q n name d (at_node m home go see) e at h =
    let (node, is) = both_are (sym (go links q) ∙ e) in
    empties nodes links w m d home (go links) (rw node at) (places_of q) (popped_from q) (rw is h)
none_there nodes links w q n name d (at_link l e') e at h =
    let (its, named) = lane_only q name (link_lane links l q n name (subst (λ x. goes links x q ≡ Some (n, name)) e' e)) in
    let h' : AllByRecursion (IsEmptyAt d.deck) (place.Lane name ∷ []) = subst (λ ps. AllByRecursion (IsEmptyAt d.deck) ps) named h in
    subst (λ ps. AllByRecursion (IsEmpty (seen nodes links w)) ps) (sym its)
    (there IsEmptyAt nodes links w n d (place.Lane q) (place.Lane name) (ap (option_map (λ (there : ℕ × QueueId). (there.0, place.Lane there.1))) e) at h'.0, tt)

none_passed : (nodes : List DeckAt) (links : List (List End)) (w : Who) (q : QueueId) (i : ItemShown) (n : ℕ) (name : QueueId) (d : DeckAt) → Seat w → goes links w q ≡ Some (n, name) → slice_get nodes n ≡ Some d
    → AllByRecursion (IsEmptyAt d.deck) (passed_over name i) → AllByRecursion (IsEmpty (seen nodes links w)) (passed_over q i)
none_passed nodes links w q i n name d (at_node m home go see) e at h =
    let (node, is) = both_are (sym (go links q) ∙ e) in
    empties nodes links w m d home (go links) (rw node at) (passed_over q i) (passed q i) (rw is h)
none_passed nodes links w q i n name d (at_link l e') e at h =
    let none = none_before q name i (link_lane links l q n name (subst (λ x. goes links x q ≡ Some (n, name)) e' e)) in
    subst (λ ps. AllByRecursion (IsEmpty (seen nodes links w)) ps) (sym none) tt

-- what a queue of a party carries is what that queue carries at the node
pub rule_known : (nodes : List DeckAt) (links : List (List End)) (w : Who) (q : QueueId) (n : ℕ) (name : QueueId) (d : DeckAt) → goes links w q ≡ Some (n, name) → slice_get nodes n ≡ Some d
    → rule_in (decks_of nodes) links w q ≡ seen_by w (rule_of d.deck name)
rule_known nodes links w q n name d e at =
    ap (λ g. seen_by w (rule_there (decks_of nodes) g)) e ∙ ap (λ x. seen_by w (option_and_then (λ d. rule_of d name) x)) (deck_there nodes n d at)

framed : (r : Option Rule) (i : ItemShown) → IsCarriedIn (option_and_then of_frames r) i → IsCarriedIn r i
framed None i h = absurd h
framed (Some (rule.Lane lane.Kiss)) i h = h
framed (Some (rule.Lane lane.Can)) i h = h
framed (Some (rule.Lane lane.Up)) i h = absurd h
framed (Some (rule.Lane lane.Down)) i h = absurd h
framed (Some (rule.Lane lane.Out)) i h = absurd h
framed (Some rule.Inbox) i h = absurd h
framed (Some (rule.Priority p)) i h = absurd h

seen_carried : (w : Who) (r : Option Rule) (i : ItemShown) → IsCarriedIn (seen_by w r) i → IsCarriedIn r i
seen_carried (who.Router n) r i h = h
seen_carried (who.Bridge n) r i h = h
seen_carried (who.Iface n k) r i h = h
seen_carried (who.App n k) r i h = h
seen_carried (who.Link l) r i h = framed r i h

pub carried_there : (nodes : List DeckAt) (links : List (List End)) (w : Who) (q : QueueId) (i : ItemShown) (n : ℕ) (name : QueueId) (d : DeckAt) → goes links w q ≡ Some (n, name) → slice_get nodes n ≡ Some d
    → IsCarriedIn (rule_in (decks_of nodes) links w q) i → IsCarriedIn (rule_of d.deck name) i
carried_there nodes links w q i n name d e at h = seen_carried w (rule_of d.deck name) i (subst (λ r. IsCarriedIn r i) (rule_known nodes links w q n name d e at) h)

-- and back, where the party sees the queue
unframed : (r : Option Rule) (i : ItemShown) → IsSome (option_and_then of_frames r) → IsCarriedIn r i → IsCarriedIn (option_and_then of_frames r) i
unframed None i s h = absurd h
unframed (Some (rule.Lane lane.Kiss)) i s h = h
unframed (Some (rule.Lane lane.Can)) i s h = h
unframed (Some (rule.Lane lane.Up)) i s h = cc
unframed (Some (rule.Lane lane.Down)) i s h = cc
unframed (Some (rule.Lane lane.Out)) i s h = cc
unframed (Some rule.Inbox) i s h = cc
unframed (Some (rule.Priority p)) i s h = cc

seen_back : (w : Who) (r : Option Rule) (i : ItemShown) → IsSome (seen_by w r) → IsCarriedIn r i → IsCarriedIn (seen_by w r) i
seen_back (who.Router n) r i s h = h
seen_back (who.Bridge n) r i s h = h
seen_back (who.Iface n k) r i s h = h
seen_back (who.App n k) r i s h = h
seen_back (who.Link l) r i s h = unframed r i s h

-- a link's items are frames, which are of every region
frame_of : (r : Option Rule) (i : Item) (region : RegionName) → IsCarriedIn (option_and_then of_frames r) (shown_item i) → IsItemOf region i
frame_of None i region h = absurd h
frame_of (Some (rule.Lane lane.Kiss)) (real.Packet m b) region h = absurd h
frame_of (Some (rule.Lane lane.Kiss)) (real.Frame f) region h = tt
frame_of (Some (rule.Lane lane.Kiss)) (real.Note n) region h = tt
frame_of (Some (rule.Lane lane.Can)) (real.Packet m b) region h = absurd h
frame_of (Some (rule.Lane lane.Can)) (real.Frame f) region h = tt
frame_of (Some (rule.Lane lane.Can)) (real.Note n) region h = tt
frame_of (Some (rule.Lane lane.Up)) i region h = absurd h
frame_of (Some (rule.Lane lane.Down)) i region h = absurd h
frame_of (Some (rule.Lane lane.Out)) i region h = absurd h
frame_of (Some rule.Inbox) i region h = absurd h
frame_of (Some (rule.Priority p)) i region h = absurd h

own_region : (nodes : List DeckAt) (w : Who) (n : ℕ) (d : DeckAt) → node_of w ≡ Some n → slice_get nodes n ≡ Some d → region_in (regions_of nodes) w ≡ d.region
own_region nodes w n d home at = ap (region_there (regions_of nodes)) home ∙ ap region_or (region_there_is nodes n d at)

-- an item is of the region that the party sees just where it is of the node's
of_party : (nodes : List DeckAt) (links : List (List End)) (w : Who) (q : QueueId) (i : Item) (n : ℕ) (name : QueueId) (d : DeckAt) (x y : RegionName) → Seat w → goes links w q ≡ Some (n, name) → slice_get nodes n ≡ Some d
    → IsCarriedIn (rule_in (decks_of nodes) links w q) (shown_item i) → (node_of w ≡ Some n → x ≡ y) → IsItemOf x i → IsItemOf y i
of_party nodes links w q i n name d x y (at_node m home go see) e at c same h =
    let (node, _) = both_are (sym (go links q) ∙ e) in
    subst (λ r. IsItemOf r i) (same (home ∙ ap Some node)) h
of_party nodes links w q i n name d x y (at_link l e') e at c same h =
    let rule : rule_in (decks_of nodes) links w q ≡ option_and_then of_frames (rule_of d.deck name) = rule_known nodes links w q n name d e at ∙ ap (λ v. seen_by v (rule_of d.deck name)) e' in
    frame_of (rule_of d.deck name) i y (subst (λ r. IsCarriedIn r (shown_item i)) rule c)

pub given_of_it : (nodes : List DeckAt) (links : List (List End)) (w : Who) (q : QueueId) (i : Item) (n : ℕ) (name : QueueId) (d : DeckAt) → goes links w q ≡ Some (n, name) → slice_get nodes n ≡ Some d
    → IsCarriedIn (rule_in (decks_of nodes) links w q) (shown_item i) → IsItemOf (region_in (regions_of nodes) w) i → IsItemOf d.region i
given_of_it nodes links w q i n name d e at c h =
    of_party nodes links w q i n name d (region_in (regions_of nodes) w) d.region (seat w) e at c (λ home. own_region nodes w n d home at) h

pub carried_back : (nodes : List DeckAt) (links : List (List End)) (w : Who) (q : QueueId) (i : ItemShown) (n : ℕ) (name : QueueId) (d : DeckAt) → goes links w q ≡ Some (n, name) → slice_get nodes n ≡ Some d
    → IsSome (rule_in (decks_of nodes) links w q) → IsCarriedIn (rule_of d.deck name) i → IsCarriedIn (rule_in (decks_of nodes) links w q) i
carried_back nodes links w q i n name d e at s c =
    let rule = rule_known nodes links w q n name d e at in
    subst (λ r. IsCarriedIn r i) (sym rule) (seen_back w (rule_of d.deck name) i (subst IsSome rule s) c)

pub got_of_it : (nodes : List DeckAt) (links : List (List End)) (w : Who) (q : QueueId) (i : Item) (n : ℕ) (name : QueueId) (d : DeckAt) → goes links w q ≡ Some (n, name) → slice_get nodes n ≡ Some d
    → IsSome (rule_in (decks_of nodes) links w q) → IsCarriedIn (rule_of d.deck name) (shown_item i) → IsItemOf d.region i → IsItemOf (region_in (regions_of nodes) w) i
got_of_it nodes links w q i n name d e at s c h =
    of_party nodes links w q i n name d d.region (region_in (regions_of nodes) w) (seat w) e at (carried_back nodes links w q (shown_item i) n name d e at s c) (λ home. sym (own_region nodes w n d home at)) h

pub pops : KeepsRules → (nodes : List DeckAt) (links : List (List End)) (w : Who) (q : QueueId) (n : ℕ) (name : QueueId) (d e : DeckAt) (r : Option ItemShown)
    → goes links w q ≡ Some (n, name) → slice_get nodes n ≡ Some d → IsSome (rule_in (decks_of nodes) links w q) → lists.PopsSo d.deck name r e.deck → e.region ≡ d.region
    → PopsSo (seen nodes links w) q r (seen (set nodes n e) links w)
pops law nodes links w q n name d e None go at some so reg =
    let s = lifted nodes links w (op.Pop q) (op.Pop name) n d e answer.Empty (ap (option_map (at_queue op.Pop)) go) at so.answer reg in
    record { answer = s; empty = none_there nodes links w q n name d (seat w) go at so.empty; carried = tt; rules = rules_stay law _ _ _ _ s; region = region_stays _ _ _ _ s }
pops law nodes links w q n name d e (Some i) go at some so reg =
    let s = lifted nodes links w (op.Pop q) (op.Pop name) n d e (answer.Popped i) (ap (option_map (at_queue op.Pop)) go) at so.answer reg in
    record {
      answer = s;
      empty = none_passed nodes links w q i n name d (seat w) go at so.empty;
      carried = carried_back nodes links w q i n name d go at some so.carried;
      rules = rules_stay law _ _ _ _ s;
      region = region_stays _ _ _ _ s;
    }

-- a queue in which a pop finds nothing
pub finds_none : KeepsRules → (nodes : List DeckAt) (links : List (List End)) (w : Who) (q : QueueId) (n : ℕ) (name : QueueId) (d : DeckAt)
    → goes links w q ≡ Some (n, name) → slice_get nodes n ≡ Some d → IsSome (rule_in (decks_of nodes) links w q) → lists.PopsSo d.deck name None d.deck
    → PopsSo (seen nodes links w) q None (seen nodes links w)
finds_none law nodes links w q n name d go at some so =
    subst (λ (ns : List DeckAt). PopsSo (seen nodes links w) q None (seen ns links w)) (set_same nodes n d at) (pops law nodes links w q n name d d None go at some so refl)

-- the pool of the party's node
pool_there : (links : List (List End)) (w : Who) (n : ℕ) → node_of w ≡ Some n → place_in links w place.Pool ≡ Some (n, place.Pool)
pool_there links w n home = ap (option_map (λ (node : ℕ). (node, place.Pool))) home

pub takes : KeepsRules → (nodes : List DeckAt) (links : List (List End)) (w : Who) (n : ℕ) (d e : DeckAt) (r : Option Content) → home_among (decks_of nodes) (node_of w) ≡ Some n → slice_get nodes n ≡ Some d
    → TakesAt d.deck r e.deck → e.region ≡ d.region → TakesSo (seen nodes links w) r (seen (set nodes n e) links w)
takes law nodes links w n d e None h at so reg =
    let home = home_is (decks_of nodes) (node_of w) n h in
    let s = lifted nodes links w op.Take op.Take n d e answer.NoBuffer (ap (option_map (λ (node : ℕ). (node, op.Take))) home) at so.answer reg in
    record { answer = s; empty = there IsEmptyAt nodes links w n d place.Pool place.Pool (pool_there links w n home) at so.empty; rules = rules_stay law _ _ _ _ s; region = region_stays _ _ _ _ s }
takes law nodes links w n d e (Some b) h at so reg =
    let home = home_is (decks_of nodes) (node_of w) n h in
    let s = lifted nodes links w op.Take op.Take n d e (answer.Taken b) (ap (option_map (λ (node : ℕ). (node, op.Take))) home) at so.answer reg in
    record { answer = s; empty = tt; rules = rules_stay law _ _ _ _ s; region = region_stays _ _ _ _ s }

pub gives : KeepsRules → (nodes : List DeckAt) (links : List (List End)) (w : Who) (b : Content) (n : ℕ) (d e : DeckAt) (r : Result (Unit {0}) Content) → home_among (decks_of nodes) (node_of w) ≡ Some n → slice_get nodes n ≡ Some d
    → GivesAt d.deck b r e.deck → e.region ≡ d.region → GivesSo (seen nodes links w) b r (seen (set nodes n e) links w)
gives law nodes links w b n d e (Ok u) h at so reg =
    let home = home_is (decks_of nodes) (node_of w) n h in
    let s = lifted nodes links w (op.Give b) (op.Give b) n d e answer.Given (ap (option_map (λ (node : ℕ). (node, op.Give b))) home) at so.answer reg in
    record { answer = s; full = tt; rules = rules_stay law _ _ _ _ s; region = region_stays _ _ _ _ s }
gives law nodes links w b n d e (Err x) h at so reg =
    let home = home_is (decks_of nodes) (node_of w) n h in
    let s = lifted nodes links w (op.Give b) (op.Give b) n d e (answer.PoolFull x) (ap (option_map (λ (node : ℕ). (node, op.Give b))) home) at so.answer reg in
    record { answer = s; full = there IsFullAt nodes links w n d place.Pool place.Pool (pool_there links w n home) at so.full; rules = rules_stay law _ _ _ _ s; region = region_stays _ _ _ _ s }

-- the region of what was taken is the party's
pub home_region : (nodes : List DeckAt) (w : Who) (n : ℕ) (d : DeckAt) → home_among (decks_of nodes) (node_of w) ≡ Some n → slice_get nodes n ≡ Some d → region_in (regions_of nodes) w ≡ d.region
home_region nodes w n d h at = own_region nodes w n d (home_is (decks_of nodes) (node_of w) n h) at

-- a party without a node is answered for lists of nothing
pub nobody : (d : DecksAt) (o : OpShown) (m : Option ℕ) → m ≡ node_of d.whose → served d.links d.whose o ≡ option_map (λ (node : ℕ). (node, o)) m → home_among d.decks m ≡ None → Answers d o (answer_of no_lists o).0 d
nobody d o None is s h = unserved d o s
nobody d o (Some n) is s h = by (nat_lt n (length d.decks)) refl h where
  by : (b : Bool) → nat_lt n (length d.decks) ≡ b → (if b then Some n else None) ≡ None → Answers d o (answer_of no_lists o).0 d
  by true e f = cc
  by false e f = missing d o o n s (past_end d.decks n (not_below n (length d.decks) e))

-- its pool has nothing, and no room
pub no_pool : (Is : PlainDeck → Place → Type 0) (d : DecksAt) (m : Option ℕ) → m ≡ node_of d.whose → home_among d.decks m ≡ None → Is no_lists place.Pool → IsThere Is d.decks place.Pool (option_map (λ (node : ℕ). (node, place.Pool)) m)
no_pool Is d None is h x = x
no_pool Is d (Some n) is h x = by (nat_lt n (length d.decks)) refl h where
  by : (b : Bool) → nat_lt n (length d.decks) ≡ b → (if b then Some n else None) ≡ None → IsThere Is d.decks place.Pool (Some (n, place.Pool))
  by true e f = cc
  by false e f = subst (λ (y : PlainDeck). Is y place.Pool) (sym (ap or_none (past_end d.decks n (not_below n (length d.decks) e)))) x

-- the node that serves a queue, or the pool, is there
some_inside : (w : Who) (x : Option PlainDeck) (name : QueueId) → IsSome (seen_by w (option_and_then (λ d. rule_of d name) x)) → (d : PlainDeck) × (x ≡ Some d)
some_inside w (Some d) name h = (d, refl)
some_inside (who.Router n) None name h = cc
some_inside (who.Bridge n) None name h = cc
some_inside (who.Iface n k) None name h = cc
some_inside (who.App n k) None name h = cc
some_inside (who.Link l) None name h = cc

read_there : (nodes : List DeckAt) (n : ℕ) (d : DeckAt) → n < length nodes → d ≡ get_or nodes n d → slice_get nodes n ≡ Some d
read_there nodes n d h e = slice_get_read nodes (length nodes) n d refl h e

pub queue_found : (nodes : List DeckAt) (links : List (List End)) (w : Who) (q : QueueId) (n : ℕ) (name : QueueId) (d : DeckAt) → IsSome (rule_in (decks_of nodes) links w q) → goes links w q ≡ Some (n, name) → d ≡ get_or nodes n d → slice_get nodes n ≡ Some d
queue_found nodes links w q n name d s e read =
    let some : IsSome (seen_by w (rule_there (decks_of nodes) (Some (n, name)))) = subst (λ g. IsSome (seen_by w (rule_there (decks_of nodes) g))) e s in
    let (x, at) = some_inside w (slice_get (decks_of nodes) n) name some in
    let within : n < length (decks_of nodes) = slice_get_within (decks_of nodes) n x at in
    read_there nodes n d (rw (← length-map nodes (λ (d : DeckAt). d.deck)) within) read

pub home_found : (nodes : List DeckAt) (w : Who) (n : ℕ) (d : DeckAt) → home_among (decks_of nodes) (node_of w) ≡ Some n → d ≡ get_or nodes n d → slice_get nodes n ≡ Some d
home_found nodes w n d h read = by (node_of w) h where
  inside : (b : Bool) (m : ℕ) → nat_lt m (length (decks_of nodes)) ≡ b → (if b then Some m else None) ≡ Some n → n < length nodes
  inside true m e f =
      let same : m ≡ n = cc in
      let less : m < length (decks_of nodes) = grind (arith, nat_tests, e) in
      rw (← length-map nodes (λ (d : DeckAt). d.deck), ← same) less
  inside false m e f = cc

  by : (m : Option ℕ) → home_among (decks_of nodes) m ≡ Some n → slice_get nodes n ≡ Some d
  by None f = cc
  by (Some m) f = read_there nodes n d (inside (nat_lt m (length (decks_of nodes))) m refl f) read

-- what is carried is carried by a queue that is there
pub is_there : (r : Option Rule) (i : ItemShown) → IsCarriedIn r i → IsSome r
is_there None i h = absurd h
is_there (Some r) i h = refl

-- what a pop of a node got is of the party's region
pub all_of_it : (nodes : List DeckAt) (links : List (List End)) (w : Who) (q : QueueId) (r : Option Item) (n : ℕ) (name : QueueId) (d : DeckAt) → goes links w q ≡ Some (n, name) → slice_get nodes n ≡ Some d
    → IsSome (rule_in (decks_of nodes) links w q) → IfSome (shown_pop r) (λ i. IsCarriedIn (rule_of d.deck name) i) → IfSome r (λ i. IsItemOf d.region i) → IfSome r (λ i. IsItemOf (region_in (regions_of nodes) w) i)
all_of_it nodes links w q None n name d e at s c h = tt
all_of_it nodes links w q (Some i) n name d e at s c h = got_of_it nodes links w q i n name d e at s c h

-- a list that grew has what it had
pub kept_before : {X : Type 0} (xs ys : List X) (k : ℕ) → k < length xs → slice_get (xs ++ ys) k ≡ slice_get xs k
kept_before [] ys k h = absurd (omega arith)
kept_before (x ∷ xs) ys zero h = refl
kept_before (x ∷ xs) ys (suc k) h = kept_before xs ys k (omega arith)

-- an operation that asks nothing changes nothing
set_again : {X : Type 0} (xs : List X) (n : ℕ) (x : X) → slice_get xs n ≡ Some x → slice_set xs n x ≡ xs
set_again [] n x e = refl
set_again (y ∷ xs) zero x e = let same : y ≡ x = cc in ap (λ z. z ∷ xs) (sym same)
set_again (y ∷ xs) (suc n) x e = ap (λ zs. y ∷ zs) (set_again xs n x e)

pub rests : (d : DecksAt) → Answers d op.Nothing answer.Nothing d
rests d = record { answer = by (node_of d.whose); regions = refl; links = refl; whose = refl } where
  found : (n : ℕ) (x : Option PlainDeck) → slice_get d.decks n ≡ x → answer_at d.decks op.Nothing (n, op.Nothing) x ≡ (answer.Nothing, d.decks)
  found n None e = refl
  found n (Some x) e = ap (λ (ds : List PlainDeck). (answer.Nothing, ds)) (set_again d.decks n x e)

  by : (m : Option ℕ) → answer_there d.decks op.Nothing (option_map (λ (node : ℕ). (node, op.Nothing)) m) ≡ (answer.Nothing, d.decks)
  by None = refl
  by (Some n) = found n (slice_get d.decks n) refl

-- a push leaves the pool's room
pub push_kept : ((d : PlainDeck) (o : OpShown) → (answer_of d o).1.pool.room ≡ d.pool.room) → (d e : PlainDeck) (q : QueueId) (i : Item) (r : Result (Unit {0}) Item)
    → MatchResult r (λ _. answer_of d (op.Push q (shown_item i)) ≡ (answer.Pushed, e)) (λ j. answer_of d (op.Push q (shown_item i)) ≡ (answer.Full (shown_item j), e)) → e.pool.room ≡ d.pool.room
push_kept law d e q i (Ok u) a = ap (λ (x : AnswerShown × PlainDeck). x.1.pool.room) (sym a) ∙ law d (op.Push q (shown_item i))
push_kept law d e q i (Err j) a = ap (λ (x : AnswerShown × PlainDeck). x.1.pool.room) (sym a) ∙ law d (op.Push q (shown_item i))

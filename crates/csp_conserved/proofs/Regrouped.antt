-- What the parties of a node have together is what its router or bridge, its interfaces and its applications have.
use Rattle.std.proofs.Common.{◌≡◌, ℕ, ◌+◌, ◌<◌, ◌==◌, ◌&&◌, Bool, true, false, Option, None, Some, List, [], ◌∷◌, ◌++◌, length, slice_get, append-nil, refl, sym, ap, ◌∙◌, subst, arith}
use Rattle.std.specs.Prelude.{if◌then◌else◌, ⊤}
use Rattle.std.specs.List.{AllByRecursion, flat_map}
use Rattle.std.specs.Option.{option_map, option_to_list}
use Rattle.std.proofs.lemmas.Bool.{eqb-true}
use Rattle.std.proofs.lemmas.Grind.{flat_map-append}
use Rattle.std.proofs.lemmas.Option.{same_Some, slice_get_within}
use Rattle.csp_conserved.proofs.Sums.{over, over_hit, over_none, parts, parts_both, parts_none}
use Rattle.csp_conserved.proofs.Turns.{all_got, all_put, entries_more, got_numbers, log_balanced, put_numbers}
use Rattle.csp_conserved.specs.Flow.{numbers_there}
use Rattle.csp_conserved.specs.Kept.{KeepNumbers}
use Rattle.csp_consistent.proofs.Public.{entries_in, IsOf, IsOwner}
use Rattle.csp_consistent.specs.Pools.{given, given_by, held_after, held_by, is_node, parties_held, party_held, taken, taken_by}
use Rattle.csp_consistent.specs.Runs.{AreLogsOf}
use Rattle.csp_deck.proofs.Public.{times-append}
use Rattle.csp_deck.specs.Step.{times}
use Rattle.csp_log.specs.declared.entry.Entry.{Entry}
use Rattle.csp_log.specs.declared.places.Place.{Place}
use Rattle.csp_party.specs.Any.{holds}
use Rattle.csp_record.specs.Record.{PlainPartyLog}
use Rattle.csp_log.specs.Who.{home_of, node_of, is_who}
use Rattle.csp_log.specs.declared.who.Who.{Who}
use Rattle.csp_log.specs.declared.who.Who.TheVariants as who
use Rattle.csp_scene.specs.Links.{links_at}
use Rattle.csp_scene.specs.Scene.{PlainNode, PlainScene}
use Rattle.csp_topology.specs.Lanes.{leader_of}
use Rattle.csp_topology.specs.Parties.{PlainOpening}

-- what the entries of a log give, where its party is of this node
abbrev pub here : (Entry → List ℕ) → ℕ → PlainPartyLog → List ℕ
here g node log = (if is_node node (node_of log.who) then flat_map g log.entries else [])

-- ---- a party of a node is one of these

abbrev IsWithinNode : (node ifaces apps : ℕ) → Option ℕ → Who → Type 0
IsWithinNode node ifaces apps addr (who.Router place) = place ≡ node → (a : ℕ) × (addr ≡ Some a)
IsWithinNode node ifaces apps addr (who.Bridge place) = place ≡ node → addr ≡ None
IsWithinNode node ifaces apps addr (who.Iface place j) = place ≡ node → j < ifaces
IsWithinNode node ifaces apps addr (who.App place j) = place ≡ node → j < apps
IsWithinNode node ifaces apps addr (who.Link _) = ⊤

within_node : (scene : PlainScene) (node : ℕ) (n : PlainNode) (o : PlainOpening) → slice_get scene.nodes node ≡ Some n → IsOf scene o → IsWithinNode node (length (links_at node scene.links)) (length n.apps) n.addr o.who
within_node scene node n o there is = by o.who is
  where
    same : (place : ℕ) (m : PlainNode) → slice_get scene.nodes place ≡ Some m → place ≡ node → m ≡ n
    same place m at e = same_Some m n (sym at ∙ ap (slice_get scene.nodes) e ∙ there)

    by : (w : Who) → IsOwner scene.nodes scene.links w o.party → IsWithinNode node (length (links_at node scene.links)) (length n.apps) n.addr w
    by (who.Router place) mine = λ e. (mine.addr, ap (λ (m : PlainNode). m.addr) (sym (same place mine.node mine.there e)) ∙ mine.called)
    by (who.Bridge place) mine = λ e. ap (λ (m : PlainNode). m.addr) (sym (same place mine.node mine.there e)) ∙ mine.bare
    by (who.Iface place j) mine = λ e. subst (λ m. j < length (links_at m scene.links)) e (slice_get_within (links_at place scene.links) j mine.link mine.on)
    by (who.App place j) mine = λ e. subst (λ (m : PlainNode). j < length m.apps) (same place mine.node mine.there e) (slice_get_within mine.node.apps j mine.app mine.of_it)
    by (who.Link _) mine = tt

-- what one has of a node, its router or bridge, its interfaces and its applications have
abbrev IsCounted : (node ifaces apps : ℕ) → Who → Who → Type 0
IsCounted node ifaces apps hub w =
    (x : ℕ) → parts ifaces apps (if is_who hub w then x else 0) (λ j. if is_who (who.Iface node j) w then x else 0) (λ j. if is_who (who.App node j) w then x else 0) ≡ (if is_node node (node_of w) then x else 0)

nothing : (ifaces apps n : ℕ) (f g : ℕ → ℕ) → ((j : ℕ) → f j ≡ 0) → ((j : ℕ) → g j ≡ 0) → parts ifaces apps n f g ≡ n
nothing ifaces apps n f g e1 e2 = omega (arith, over_none ifaces f (λ j low. e1 j), over_none apps g (λ j low. e2 j))

no_if : (b : Bool) (x : ℕ) → (b ≡ true → ⊥) → (if b then x else 0) ≡ 0
no_if true x h = absurd (h refl)
no_if false x h = refl

-- of so many one has it, where the place is the node's
hits : (count j x : ℕ) (b : Bool) → (b ≡ true → j < count) → over count (λ i. if b && j == i then x else 0) ≡ (if b then x else 0)
hits count j x true low = over_hit count j x (low refl)
hits count j x false low = over_none count (λ i. 0) (λ i h. refl)

counted : (node ifaces apps : ℕ) (addr : Option ℕ) (w : Who) → IsWithinNode node ifaces apps addr w → IsCounted node ifaces apps (leader_of node addr) w
counted node ifaces apps (Some a) (who.Router place) h x = nothing ifaces apps (if place == node then x else 0) (λ j. 0) (λ j. 0) (λ j. refl) (λ j. refl)
counted node ifaces apps None (who.Router place) h x =
    nothing ifaces apps 0 (λ j. 0) (λ j. 0) (λ j. refl) (λ j. refl) ∙ sym (no_if (place == node) x (λ e. let it = (h (eqb-true place node e)).1 in cc))
counted node ifaces apps None (who.Bridge place) h x = nothing ifaces apps (if place == node then x else 0) (λ j. 0) (λ j. 0) (λ j. refl) (λ j. refl)
counted node ifaces apps (Some a) (who.Bridge place) h x =
    nothing ifaces apps 0 (λ j. 0) (λ j. 0) (λ j. refl) (λ j. refl) ∙ sym (no_if (place == node) x (λ e. let it = h (eqb-true place node e) in cc))
counted node ifaces apps addr (who.Iface place j) h x = by addr
  where
    by : (addr : Option ℕ) → parts ifaces apps (if is_who (leader_of node addr) (who.Iface place j) then x else 0) (λ i. if place == node && j == i then x else 0) (λ i. 0) ≡ (if place == node then x else 0)
    by None = omega (arith, hits ifaces j x (place == node) (λ e. h (eqb-true place node e)), over_none apps (λ i. 0) (λ i low. refl))
    by (Some a) = omega (arith, hits ifaces j x (place == node) (λ e. h (eqb-true place node e)), over_none apps (λ i. 0) (λ i low. refl))
counted node ifaces apps addr (who.App place j) h x = by addr
  where
    by : (addr : Option ℕ) → parts ifaces apps (if is_who (leader_of node addr) (who.App place j) then x else 0) (λ i. 0) (λ i. if place == node && j == i then x else 0) ≡ (if place == node then x else 0)
    by None = omega (arith, hits apps j x (place == node) (λ e. h (eqb-true place node e)), over_none ifaces (λ i. 0) (λ i low. refl))
    by (Some a) = omega (arith, hits apps j x (place == node) (λ e. h (eqb-true place node e)), over_none ifaces (λ i. 0) (λ i low. refl))
counted node ifaces apps addr (who.Link k) h x = by addr
  where
    by : (addr : Option ℕ) → parts ifaces apps (if is_who (leader_of node addr) (who.Link k) then x else 0) (λ i. 0) (λ i. 0) ≡ 0
    by None = parts_none ifaces apps (λ i. 0) (λ i. 0) (λ i. refl) (λ i. refl)
    by (Some a) = parts_none ifaces apps (λ i. 0) (λ i. 0) (λ i. refl) (λ i. refl)

pub all_counted : (scene : PlainScene) (node : ℕ) (n : PlainNode) (os : List PlainOpening) (logs : List PlainPartyLog) → slice_get scene.nodes node ≡ Some n → AllByRecursion (IsOf scene) os → AreLogsOf os logs
    → AllByRecursion (λ log. IsCounted node (length (links_at node scene.links)) (length n.apps) (leader_of node n.addr) log.who) logs
all_counted scene node n [] [] there own are = tt
all_counted scene node n [] (log ∷ logs) there own are = absurd are
all_counted scene node n (o ∷ os) [] there own are = absurd are
all_counted scene node n (o ∷ os) (log ∷ logs) there own are = (
  subst (IsCounted node (length (links_at node scene.links)) (length n.apps) (leader_of node n.addr)) (sym are.0.who)
      (counted node (length (links_at node scene.links)) (length n.apps) n.addr o.who (within_node scene node n o there own.0)),
  all_counted scene node n os logs there own.1 are.1,
)

-- ---- so what they have is regrouped

times_if : (k : ℕ) (b : Bool) (ns : List ℕ) → times k (if b then ns else []) ≡ (if b then times k ns else 0)
times_if k true ns = refl
times_if k false ns = refl

flat_if : (k : ℕ) (g : Entry → List ℕ) (b : Bool) (es : List Entry) → times k (flat_map g (if b then es else [])) ≡ (if b then times k (flat_map g es) else 0)
flat_if k g true es = refl
flat_if k g false es = refl

module _ (k node ifaces apps : ℕ) (hub : Who) (g : Entry → List ℕ) where
  -- how often a number is among what the entries of a name give
  abbrev named : List PlainPartyLog → Who → ℕ
  named logs w = times k (flat_map g (entries_in w logs))

  named_more : (log : PlainPartyLog) (logs : List PlainPartyLog) (w : Who) → named (log ∷ logs) w ≡ (if is_who w log.who then times k (flat_map g log.entries) else 0) + named logs w
  named_more log logs w =
      entries_more k g (if is_who w log.who then log.entries else []) (entries_in w logs)
      ∙ ap (λ n. n + named logs w) (flat_if k g (is_who w log.who) log.entries)

  pub regrouped : (logs : List PlainPartyLog) → AllByRecursion (λ log. IsCounted node ifaces apps hub log.who) logs
      → times k (flat_map (here g node) logs) ≡ parts ifaces apps (named logs hub) (λ j. named logs (who.Iface node j)) (λ j. named logs (who.App node j))
  regrouped [] h = sym (parts_none ifaces apps (λ j. 0) (λ j. 0) (λ j. refl) (λ j. refl))
  regrouped (log ∷ logs) h =
      let x = times k (flat_map g log.entries) in
      omega (
        arith,
        times-append k (here g node log) (flat_map (here g node) logs),
        times_if k (is_node node (node_of log.who)) (flat_map g log.entries),
        regrouped logs h.1,
        h.0 x,
        parts_both ifaces apps (named (log ∷ logs) hub) (if is_who hub log.who then x else 0) (named logs hub)
            (λ j. named (log ∷ logs) (who.Iface node j)) (λ j. if is_who (who.Iface node j) log.who then x else 0) (λ j. named logs (who.Iface node j))
            (λ j. named (log ∷ logs) (who.App node j)) (λ j. if is_who (who.App node j) log.who then x else 0) (λ j. named logs (who.App node j))
            (named_more log logs hub) (λ j. named_more log logs (who.Iface node j)) (λ j. named_more log logs (who.App node j)),
      )

-- ---- what the parties of a node hold together

module _ (k node : ℕ) where
  -- a party that has this home
  held_here : (ns gs ps ts ys : List ℕ) (home : Option (ℕ × Place)) → times k ns + times k gs + times k ps ≡ times k ts + times k ys
      → times k (flat_map (numbers_there node) (option_to_list (option_map (held_by ns) home)))
      + times k (if is_node node (option_map (λ (h : ℕ × Place). h.0) home) then gs else [])
      + times k (if is_node node (option_map (λ (h : ℕ × Place). h.0) home) then ps else [])
      ≡ times k (if is_node node (option_map (λ (h : ℕ × Place). h.0) home) then ts else [])
      + times k (if is_node node (option_map (λ (h : ℕ × Place). h.0) home) then ys else [])
  held_here ns gs ps ts ys None law = refl
  held_here ns gs ps ts ys (Some h) law = by (h.0 == node)
    where
      by : (b : Bool) → times k ((if b then ns else []) ++ []) + times k (if b then gs else []) + times k (if b then ps else []) ≡ times k (if b then ts else []) + times k (if b then ys else [])
      by true = ap (λ l. times k l + times k gs + times k ps) (append-nil ns) ∙ law
      by false = refl

  pub held_balanced : (os : List PlainOpening) (logs : List PlainPartyLog) → AreLogsOf os logs → KeepNumbers os logs → AllByRecursion (λ o. holds o.party ≡ []) os
      → times k (flat_map (numbers_there node) (parties_held os logs)) + times k (flat_map (here (λ e. given_by e.op e.answer) node) logs) + times k (flat_map (here (λ e. put_numbers e.op e.answer) node) logs)
      ≡ times k (flat_map (here (λ e. taken_by e.answer) node) logs) + times k (flat_map (here (λ e. got_numbers e.op e.answer) node) logs)
  held_balanced [] [] are keep none = refl
  held_balanced [] (log ∷ logs) are keep none = absurd are
  held_balanced (o ∷ os) [] are keep none = absurd are
  held_balanced (o ∷ os) (log ∷ logs) are keep none =
      omega (
        arith,
        held_here (held_after o log) (given log.entries) (all_put log.entries) (taken log.entries) (all_got log.entries) (home_of log.who) (log_balanced k o log are.0 keep.0 none.0),
        held_balanced os logs are.1 keep.1 none.1,
        ap (times k) (flat_map-append (numbers_there node) (party_held o log) (parties_held os logs)),
        times-append k (flat_map (numbers_there node) (party_held o log)) (flat_map (numbers_there node) (parties_held os logs)),
        times-append k (here (λ (e : Entry). given_by e.op e.answer) node log) (flat_map (here (λ (e : Entry). given_by e.op e.answer) node) logs),
        times-append k (here (λ (e : Entry). put_numbers e.op e.answer) node log) (flat_map (here (λ (e : Entry). put_numbers e.op e.answer) node) logs),
        times-append k (here (λ (e : Entry). taken_by e.answer) node log) (flat_map (here (λ (e : Entry). taken_by e.answer) node) logs),
        times-append k (here (λ (e : Entry). got_numbers e.op e.answer) node log) (flat_map (here (λ (e : Entry). got_numbers e.op e.answer) node) logs),
      )

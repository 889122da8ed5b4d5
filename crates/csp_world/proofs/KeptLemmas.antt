-- Of each pool, its numbers at the opening with those given are those taken with those in it.
use Rattle.std.proofs.Common.{◌≡◌, ℕ, ◌+◌, Bool, true, false, Some, List, [], ◌∷◌, ◌++◌, map, set, refl, sym, ap, ◌∙◌, arith, sum_by}
use Rattle.std.specs.Prelude.{slice_get}
use Rattle.std.specs.List.{flat_map, range_with_len}
use Rattle.std.proofs.lemmas.Grind.{flat_map-append}
use Rattle.std.proofs.lemmas.List.{append-nil}
use Rattle.std.proofs.lemmas.List.Folds.{flat_map-map}
use Rattle.std.proofs.lemmas.List.Sums.{sum_by-cons}
use Rattle.csp_topology.specs.Parties.{PlainOpening}
use Rattle.csp_consistent.specs.Pools.{given, given_at, given_by, is_node, taken, taken_at, taken_by}
use Rattle.csp_consistent.specs.Promises.{IsPoolKept}
use Rattle.csp_deck.specs.Step.{entry_of, times}
use Rattle.csp_lists.specs.PlainDeck.{PlainDeck, buffer_numbers}
use Rattle.csp_log.specs.declared.entry.Entry.{Entry}
use Rattle.csp_log.specs.declared.shown.AnswerShown.{AnswerShown}
use Rattle.csp_party.specs.Any.{asked, asks, events}
use Rattle.csp_log.specs.Who.{node_of}
use Rattle.csp_nodes.proofs.Public.{times_joined, sum_set}
use Rattle.csp_world.proofs.LocalLemmas.{local}
use Rattle.csp_world.proofs.PoolLemmas.{at_home, pooled}
use Rattle.csp_world.specs.Opening.{new_member}
use Rattle.csp_world.specs.Record.{member_log}
use Rattle.csp_world.specs.World.{PlainMember, PlainWorld, answered, told, turned}

-- how often a number is among those of all parties
times_all : {X : Type 0} (k : ℕ) (f : X → List ℕ) (xs : List X) → times k (flat_map f xs) ≡ sum_by (λ x. times k (f x)) xs
times_all k f [] = refl
times_all k f (x ∷ xs) = times_joined k (f x) (flat_map f xs) ∙ ap (λ n. times k (f x) + n) (times_all k f xs) ∙ sym (sum_by-cons (λ y. times k (f y)) x xs)

-- where one party has some more, all have
all_more : (k : ℕ) (f : PlainMember → List ℕ) (ms : List PlainMember) (place : ℕ) (m n : PlainMember) (more : List ℕ) → slice_get ms place ≡ Some m → times k (f n) ≡ times k (f m) + times k more
    → times k (flat_map f (set ms place n)) ≡ times k (flat_map f ms) + times k more
all_more k f ms place m n more at e =
    let before = times_all k f ms in
    let after = times_all k f (set ms place n) in
    let changed = sum_set (λ x. times k (f x)) ms place m n at in
    omega (arith, before, after, changed, e)

pub flat-push : {X : Type 0} (f : Entry → List X) (es : List Entry) (e : Entry) → flat_map f (es ++ e ∷ []) ≡ flat_map f es ++ f e
flat-push f es e = rw (flat_map-append f es (e ∷ []), append-nil (f e)) refl

-- what the log of a party says that it gave at a node, and took there
abbrev pub gave : ℕ → PlainMember → List ℕ
gave node m = given_at node (member_log m)

abbrev pub took : ℕ → PlainMember → List ℕ
took node m = taken_at node (member_log m)

home_more : (k : ℕ) (here : Bool) (old more : List ℕ) → times k (at_home here (old ++ more)) ≡ times k (at_home here old) + times k (at_home here more)
home_more k true old more = times_joined k old more
home_more k false old more = refl

gave_told : (k node time : ℕ) (m : PlainMember) (a : AnswerShown) → times k (gave node (told m time a)) ≡ times k (gave node m) + times k (at_home (is_node node (node_of m.who)) (given_by (asks m.party time) a))
gave_told k node time m a =
    let here = is_node node (node_of m.who) in
    ap (λ (ns : List ℕ). times k (at_home here ns)) (flat-push (λ x. given_by x.op x.answer) m.entries (entry_of time (asks m.party time) a (events (asked m.party time) time a)))
    ∙ home_more k here (given m.entries) _

took_told : (k node time : ℕ) (m : PlainMember) (a : AnswerShown) → times k (took node (told m time a)) ≡ times k (took node m) + times k (at_home (is_node node (node_of m.who)) (taken_by a))
took_told k node time m a =
    let here = is_node node (node_of m.who) in
    ap (λ (ns : List ℕ). times k (at_home here ns)) (flat-push (λ x. taken_by x.answer) m.entries (entry_of time (asks m.party time) a (events (asked m.party time) time a)))
    ∙ home_more k here (taken m.entries) _

-- the lists of a node with so many buffers have kept the pool's promise so far, of what the logs say
pub record HasKeptPool (node count : ℕ) (decks : List PlainDeck) (ms : List PlainMember) : Type 0 where
  pub deck : PlainDeck
  pub there : slice_get decks node ≡ Some deck
  pub kept : IsPoolKept (range_with_len 0 count) (flat_map (gave node) ms) (flat_map (took node) ms) (buffer_numbers deck.pool.items)

pub kept_turned : (node count : ℕ) (w : PlainWorld) (place : ℕ) (m : PlainMember) → slice_get w.members place ≡ Some m → HasKeptPool node count w.decks w.members
    → HasKeptPool node count (turned w place m).decks (turned w place m).members
kept_turned node count w place m at h =
    let a = answered w.decks w.links w.time m in
    let l = local w.decks w.links m.who (asks m.party w.time) node h.deck h.there in
    record {
      deck = l.after;
      there = l.got;
      kept = λ k.
          let moved = pooled w.decks w.links m.who (asks m.party w.time) node h.deck h.there k in
          let gives = all_more k (gave node) w.members place m (told m w.time a.0) (at_home (is_node node (node_of m.who)) (given_by (asks m.party w.time) a.0)) at (gave_told k node w.time m a.0) in
          let takes = all_more k (took node) w.members place m (told m w.time a.0) (at_home (is_node node (node_of m.who)) (taken_by a.0)) at (took_told k node w.time m a.0) in
          let before = h.kept k in
          omega (arith, moved, gives, takes, before);
    }

-- at the opening none was given or taken
none_at : (here : Bool) → at_home here [] ≡ []
none_at true = refl
none_at false = refl

none_given : (node : ℕ) (os : List PlainOpening) → flat_map (gave node) (map new_member os) ≡ []
none_given node [] = refl
none_given node (o ∷ os) = rw (none_at (is_node node (node_of o.who)), none_given node os) refl

none_taken : (node : ℕ) (os : List PlainOpening) → flat_map (took node) (map new_member os) ≡ []
none_taken node [] = refl
none_taken node (o ∷ os) = rw (none_at (is_node node (node_of o.who)), none_taken node os) refl

pub kept_opened : (node count : ℕ) (decks : List PlainDeck) (d : PlainDeck) (os : List PlainOpening) → slice_get decks node ≡ Some d → buffer_numbers d.pool.items ≡ range_with_len 0 count
    → HasKeptPool node count decks (map new_member os)
kept_opened node count decks d os at all = record {
  deck = d;
  there = at;
  kept = λ k.
      let gives = ap (times k) (none_given node os) in
      let takes = ap (times k) (none_taken node os) in
      let full = ap (times k) all in
      omega (arith, gives, takes, full);
}

-- by the logs of the record
pub gave_logs : (node : ℕ) (ms : List PlainMember) → flat_map (given_at node) (map member_log ms) ≡ flat_map (gave node) ms
gave_logs node ms = flat_map-map (given_at node) member_log ms

pub took_logs : (node : ℕ) (ms : List PlainMember) → flat_map (taken_at node) (map member_log ms) ≡ flat_map (took node) ms
took_logs node ms = flat_map-map (taken_at node) member_log ms

-- The end of a world: what its lists have room for, and what its record is.
use Rattle.std.proofs.Common.{◌≡◌, ℕ, zero, suc, ◌+◌, ◌≤◌, Bool, Option, None, Some, List, [], ◌∷◌, ◌++◌, All, get_or, length, map, refl, sym, ◌∙◌, ap, subst, arith, vec_capacity}
use Rattle.std.specs.Prelude.{slice_get, IsSomeAnd}
use Rattle.std.specs.List.{flat_map, list_all}
use Rattle.std.specs.Option.{option_map}
use Rattle.std.proofs.lemmas.List.{append_assoc, length-append}
use Rattle.std.proofs.lemmas.List.Folds.{list_all-map}
use Rattle.std.proofs.lemmas.List.FromFn.{length-range_with_len}
use Rattle.std.proofs.lemmas.Option.{slice_get-map, slice_get-get_or}
use Rattle.std.proofs.lemmas.Simd.{map-map}
use Rattle.csp_lists.specs.Gathered.{queued_numbers}
use Rattle.csp_lists.specs.PlainDeck.{PlainDeck, buffer_numbers}
use Rattle.csp_log.specs.Remains.{PlainLeft, PlainHeld}
use Rattle.csp_nodes.specs.DecksAt.{DecksAt}
use Rattle.csp_nodes.specs.Emptied.{PlainEmptied, IsComplete, with_gathered}
use Rattle.csp_nodes.specs.Gathering.{all_left, queues_held, pools_held}
use Rattle.csp_party.specs.Any.{PlainParty, holds, plain, is_done}
use Rattle.csp_record.specs.Record.{PlainPartyLog, PlainRecord}
use Rattle.csp_log.specs.Who.{node_of}
use Rattle.csp_log.specs.declared.who.Who.{Who}
use Rattle.csp_log.specs.declared.who.Who.TheVariants as who
use Rattle.csp_world.specs.Holders.{holds_at, IsConserved}
use Rattle.csp_world.specs.Inside.{world_of, IsCalled, IsFit, AllFit}
use Rattle.csp_world.specs.Record.{member_held, member_log, record_of}
use Rattle.csp_world.specs.Seen.{plain_member}
use Rattle.csp_world.specs.Taking.{IsTakeable}
use Rattle.csp_world.specs.World.{PlainMember, PlainWorld}
use Rattle.csp_world.specs.declared.member.Member.{Member}
use Rattle.csp_world.proofs.ClosingMembers.{own_held, with_members}
use Rattle.csp_world.proofs.ClosingParts.{emptied_of, numbers_len}
use Rattle.csp_world.proofs.ClosingSums.{once_each}
use Rattle.csp_nodes.proofs.Public.{Gathers, Long, times_joined}
use Rattle.csp_world.proofs.TurnLemmas.{link_holds}

-- once its queues and parties are emptied, a node is complete
complete_at : (w : PlainWorld) → Gathers → Long → IsConserved w → (node : ℕ) (d : PlainDeck) → slice_get w.decks node ≡ Some d
    → IsComplete (with_gathered (flat_map (holds_at node) w.members) (emptied_of d))
complete_at w gathers long conserved node d e =
    let queued = queued_numbers d in
    let taken = flat_map (holds_at node) w.members in
    let pooled = buffer_numbers d.pool.items in
    record {
      fits = lengths _ _ _ _ _ _ _ _ _
          (long _ _ (once_each w gathers conserved node d e)) (length-range_with_len 0 d.pool.room)
          (length-append queued (taken ++ pooled)) (length-append taken pooled) (length-append queued taken) (numbers_len d.pool.items);
      once = λ k. joined _ _ _ _ _ _ _
          (once_each w gathers conserved node d e k) (times_joined k queued (taken ++ pooled)) (times_joined k taken pooled) (times_joined k queued taken);
    }
  where
    lengths : (all range room part front q t p items : ℕ) → all ≡ range → range ≡ room → all ≡ q + part → part ≡ t + p → front ≡ q + t → p ≡ items → front + items ≡ room
    lengths all range room part front q t p items a b c e f g = omega arith

    joined : (all range part front q t p : ℕ) → all ≡ range → all ≡ q + part → part ≡ t + p → front ≡ q + t → front + p ≡ range
    joined all range part front q t p a b c e = omega arith

-- so the buffers in its queues fit its pool, and with them those of its parties
pub queues_fit : (w : PlainWorld) → Gathers → Long → IsConserved w → All (λ d. length (queued_numbers d) ≤ d.pool.room) w.decks
queues_fit w gathers long conserved k x h =
    let d = get_or w.decks k x in
    let whole = complete_at w gathers long conserved k d (slice_get-get_or w.decks k x h) in
    omega (arith, whole.fits, length-append (queued_numbers d) (flat_map (holds_at k) w.members))

pub members_fit : (w : PlainWorld) → Gathers → Long → IsConserved w → (node : ℕ) (e : PlainEmptied) → slice_get (map emptied_of w.decks) node ≡ Some e
    → length e.gathered + length (flat_map (holds_at node) w.members) ≤ e.pool.room
members_fit w gathers long conserved node e f = at (slice_get w.decks node) refl (sym (slice_get-map emptied_of w.decks node) ∙ f) where
  at : (o : Option PlainDeck) → slice_get w.decks node ≡ o → option_map emptied_of o ≡ Some e → length e.gathered + length (flat_map (holds_at node) w.members) ≤ e.pool.room
  at None g h = cc
  at (Some d) g h =
      let same : emptied_of d ≡ e = cc in
      let whole = complete_at w gathers long conserved node d g in
      subst (λ (x : PlainEmptied). length x.gathered + length (flat_map (holds_at node) w.members) ≤ x.pool.room) same
      (omega (arith, whole.fits, length-append (queued_numbers d) (flat_map (holds_at node) w.members)))

-- each party holds no more than all parties of its node
member_within : (ms : List PlainMember) (k home : ℕ) (m : PlainMember) → slice_get ms k ≡ Some m → node_of m.who ≡ Some home → length (holds m.party) ≤ length (flat_map (holds_at home) ms)
member_within [] zero home m e f = cc
member_within [] (suc k) home m e f = cc
member_within (x ∷ ms) zero home m e f =
    let same : x ≡ m = cc in
    let own = ap (λ (ns : List ℕ). length ns) (own_held m home f) in
    rw same (omega (arith, own, length-append (holds_at home m) (flat_map (holds_at home) ms)))
member_within (x ∷ ms) (suc k) home m e f =
    omega (arith, member_within ms k home m e f, length-append (holds_at home x) (flat_map (holds_at home) ms))

-- a party of no node is a link, which holds nothing
homeless : (w : Who) (p : PlainParty) → IsCalled w p → node_of w ≡ None → holds p ≡ []
homeless (who.Router n) p c e = cc
homeless (who.Bridge n) p c e = cc
homeless (who.Iface n k) p c e = cc
homeless (who.App n k) p c e = cc
homeless (who.Link l) p c e = link_holds p c

-- each party can be taken back
pub all_takeable : (d : DecksAt) (members : List Member) (time : ℕ) → Gathers → Long → IsConserved (world_of d members time) → AllFit d time members → All (IsTakeable d.regions) members
all_takeable d members time gathers long conserved fit k x h = record {
  home = f.home;
  none = λ e. homeless m.who (plain m.party) f.called e;
  unnoted = f.unnoted;
  room = by (node_of m.who) refl;
} where
  m : Member
  m = get_or members k x

  found : slice_get members k ≡ Some m
  found = slice_get-get_or members k x h

  f : IsFit d time m
  f = fit k m found

  at_node : (node : ℕ) → node_of m.who ≡ Some node → (o : Option PlainDeck) → slice_get d.decks node ≡ o → IsSomeAnd (option_map (λ (x : PlainDeck). x.pool.room) o) (λ room. room ≤ vec_capacity m.numbers) → length (holds (plain m.party)) ≤ vec_capacity m.numbers
  at_node node e None s r = absurd r
  at_node node e (Some x) s r =
      let whole = complete_at (world_of d members time) gathers long conserved node x s in
      let within = member_within (map plain_member members) k node (plain_member m) (slice_get-map plain_member members k ∙ ap (option_map plain_member) found) e in
      omega (arith, within, whole.fits, r, length-append (queued_numbers x) (flat_map (holds_at node) (map plain_member members)))

  by : (o : Option ℕ) → node_of m.who ≡ o → length (holds (plain m.party)) ≤ vec_capacity m.numbers
  by None e = let none = ap (λ (ns : List ℕ). length ns) (homeless m.who (plain m.party) f.called e) in omega (arith, none)
  by (Some node) e = at_node node e (slice_get d.decks node) refl (subst (λ o. IsSomeAnd o (λ room. room ≤ vec_capacity m.numbers)) (slice_get-map (λ (x : PlainDeck). x.pool.room) d.decks node) (f.room node e))

-- the nodes, once their queues and parties are emptied
abbrev pub AllTaken : PlainWorld → List PlainEmptied → Type 0
AllTaken w es = (node : ℕ) → slice_get es node ≡ with_members w.members node (slice_get (map emptied_of w.decks) node)

-- each of them is complete
pub all_complete : (w : PlainWorld) → Gathers → Long → IsConserved w → (es : List PlainEmptied) → AllTaken w es → All IsComplete es
all_complete w gathers long conserved es taken k x h =
    at (slice_get w.decks k) refl (ap (with_members w.members k) (sym (slice_get-map emptied_of w.decks k)) ∙ sym (taken k) ∙ slice_get-get_or es k x h)
  where
    at : (o : Option PlainDeck) → slice_get w.decks k ≡ o → with_members w.members k (option_map emptied_of o) ≡ Some (get_or es k x) → IsComplete (get_or es k x)
    at None g f = cc
    at (Some d) g f =
        let same : with_gathered (flat_map (holds_at k) w.members) (emptied_of d) ≡ get_or es k x = cc in
        subst IsComplete same (complete_at w gathers long conserved k d g)

-- lists with the same elements
same_list : {A : Type 0} (xs ys : List A) → ((k : ℕ) → slice_get xs k ≡ slice_get ys k) → xs ≡ ys
same_list [] [] e = refl
same_list [] (y ∷ ys) e = let a = e 0 in cc
same_list (x ∷ xs) [] e = let a = e 0 in cc
same_list (x ∷ xs) (y ∷ ys) e =
    let a = e 0 in
    let first : x ≡ y = cc in
    rw (first, same_list xs ys (λ k. e (suc k))) refl

-- their pools are those of the world
pub pools_are : (w : PlainWorld) (es : List PlainEmptied) → AllTaken w es → map (λ e. e.pool) es ≡ map (λ d. d.pool) w.decks
pools_are w es taken = same_list _ _ (λ k. slice_get-map (λ (e : PlainEmptied). e.pool) es k ∙ ap (option_map (λ (e : PlainEmptied). e.pool)) (taken k ∙ ap (with_members w.members k) (slice_get-map emptied_of w.decks k)) ∙ at k (slice_get w.decks k) ∙ sym (slice_get-map (λ (d : PlainDeck). d.pool) w.decks k)) where
  at : (k : ℕ) (o : Option PlainDeck) → option_map (λ (e : PlainEmptied). e.pool) (with_members w.members k (option_map emptied_of o)) ≡ option_map (λ (d : PlainDeck). d.pool) o
  at k None = refl
  at k (Some d) = refl

-- what is noted of each party, one after the other
noted_members : (members : List Member) → flat_map (λ m. member_held (plain_member m)) members ≡ flat_map member_held (map plain_member members)
noted_members [] = refl
noted_members (m ∷ members) = ap (λ x. member_held (plain_member m) ++ x) (noted_members members)

-- what is noted is the record of the world
pub noted : (d : DecksAt) (members : List Member) (time : ℕ) (es : List PlainEmptied) (logs : List PlainPartyLog) (left : List PlainLeft) (first second third : List PlainHeld) (done : Bool)
    → AllTaken (world_of d members time) es
    → logs ≡ map (λ m. member_log (plain_member m)) members
    → left ≡ all_left 0 d.decks
    → first ≡ queues_held 0 d.decks
    → second ≡ first ++ flat_map (λ m. member_held (plain_member m)) members
    → third ≡ second ++ pools_held 0 (map (λ e. e.pool) es)
    → done ≡ list_all (λ m. is_done (plain m.party)) members
    → let r : PlainRecord = record { parties = logs; left = left; held = third; rounds = time; finished = done } in r ≡ record_of (world_of d members time)
noted d members time es logs left first second third done taken a b c e f g =
    let logs_are : logs ≡ map member_log (map plain_member members) = a ∙ sym (map-map member_log plain_member members) in
    let done_is : done ≡ list_all (λ m. is_done m.party) (map plain_member members) = g ∙ sym (list_all-map (λ (m : PlainMember). is_done m.party) plain_member members) in
    let pools = pools_are (world_of d members time) es taken in
    let held_is : third ≡ queues_held 0 d.decks ++ (flat_map member_held (map plain_member members) ++ pools_held 0 (map (λ d. d.pool) d.decks)) =
    f ∙ ap (λ x. x ++ pools_held 0 (map (λ e. e.pool) es)) (e ∙ ap (λ x. x ++ flat_map (λ m. member_held (plain_member m)) members) c)
    ∙ append_assoc (queues_held 0 d.decks) (flat_map (λ m. member_held (plain_member m)) members) (pools_held 0 (map (λ e. e.pool) es))
    ∙ ap (λ x. queues_held 0 d.decks ++ (x ++ pools_held 0 (map (λ e. e.pool) es))) (noted_members members)
    ∙ ap (λ x. queues_held 0 d.decks ++ (flat_map member_held (map plain_member members) ++ pools_held 0 x)) pools in
    rw (logs_are, b, held_is, done_is) refl

-- The record of each world that turns and ticks make of a scene's opening is causal.
use Rattle.std.proofs.Common.{◌≡◌, ◌⊎◌, inl, inr, ℕ, ◌+◌, ◌≤◌, Bool, true, false, Option, None, Some, List, [], ◌∷◌, ◌++◌, length, map, slice_get, unwrap_or, refl, sym, ap, ◌∙◌, subst, append-nil, arith, length-append}
use Rattle.std.specs.Prelude.{if◌then◌else◌}
use Rattle.std.proofs.lemmas.Grind.{flat_map-append}
use Rattle.std.proofs.lemmas.Option.{same_Some, slice_get_within}
use Rattle.std.specs.Option.{option_map}
use Rattle.csp_causal.specs.Causal.{AreCausal, IsCausal}
use Rattle.csp_consistent.proofs.Public.{Logged, are_apart, entries_in, IsAppAt, IsOf, IsRouterAt, logged}
use Rattle.csp_consistent.specs.Consistent.{IsConsistent}
use Rattle.csp_consistent.specs.Reading.{entries_of, gets, got_by, left_in, puts}
use Rattle.csp_deck.specs.Step.{entry_of}
use Rattle.csp_log.specs.declared.entry.Entry.{Entry}
use Rattle.csp_log.specs.declared.places.QueueId.{QueueId}
use Rattle.csp_log.specs.declared.places.QueueId.TheVariants as queue
use Rattle.csp_lists.specs.PlainDeck.{PlainDeck}
use Rattle.csp_log.specs.declared.shown.AnswerShown.{AnswerShown}
use Rattle.csp_log.specs.declared.shown.ItemShown.{ItemShown}
use Rattle.csp_party.specs.Any.{asked, asks, events, has_ended}
use Rattle.csp_prefix.proofs.Public.{AreAppLanes, app_lanes_there, owner_of}
use Rattle.csp_record.specs.Record.{PlainRecord}
use Rattle.csp_log.specs.Who.{is_who}
use Rattle.csp_log.specs.declared.who.Who.{Who}
use Rattle.csp_log.specs.declared.who.Who.TheVariants as who
use Rattle.csp_scene.specs.Scene.{PlainNode, PlainScene}
use Rattle.csp_topology.specs.Lanes.{leader_of}
use Rattle.csp_topology.specs.Parties.{parties_of}
use Rattle.csp_world.proofs.Public.{entries_step, no_entries, AreLogged, all_logged, members_opened}
use Rattle.csp_world.specs.Opening.{opening}
use Rattle.csp_world.specs.Reached.{Happening, IsReached, a_tick, a_turn, world_after}
use Rattle.csp_world.specs.Record.{member_log, record_of, sim_record}
use Rattle.csp_world.specs.Schedule.{run}
use Rattle.csp_world.specs.World.{PlainMember, PlainWorld, answered, told, turn, turn_at, turned}

-- ---- without turns

gets_none : (q : QueueId) (first later : List Entry) → [] ≡ first ++ later → gets q first ≡ []
gets_none q [] later e = refl
gets_none q (x ∷ first) later e = absurd cc

none_first : (there back : QueueId) (first second : List Entry) → first ≡ [] → AreCausal there back first second
none_first there back first second none before after earlier later b s =
    inr (subst (λ is. length is ≤ length (puts back earlier)) (sym (gets_none back before after (sym none ∙ b))) (omega arith))

none_second : (there back : QueueId) (first second : List Entry) → second ≡ [] → AreCausal there back first second
none_second there back first second none before after earlier later b s =
    inl (subst (λ is. length is ≤ length (puts there before)) (sym (gets_none there earlier later (sym none ∙ s))) (omega arith))

-- ---- with a turn more

-- what was got of each lane, followed by what was left, is what was put
record AreRelayed (k : ℕ) (first second : List Entry) : Type 0 where
  pub up_left : List ItemShown
  pub down_left : List ItemShown
  pub up : gets (queue.Up k) second ++ up_left ≡ puts (queue.Up k) first
  pub down : gets (queue.Down k) first ++ down_left ≡ puts (queue.Down k) second

few_got : (q : QueueId) (es more : List Entry) (left put : List ItemShown) → gets q (es ++ more) ++ left ≡ put → length (gets q es) ≤ length put
few_got q es more left put e =
    let parts : length (gets q (es ++ more)) ≡ length (gets q es) + length (gets q more) =
    ap length (flat_map-append (λ (x : Entry). got_by q x.op x.answer) es more) ∙ length-append (gets q es) (gets q more) in
    let all : length (gets q (es ++ more)) + length left ≡ length put = sym (length-append (gets q (es ++ more)) left) ∙ ap length e in
    omega (arith, parts, all)

abbrev FirstGrows : Type 0
FirstGrows =
    (there back : QueueId) (first second : List Entry) (e : Entry) → AreCausal there back first second → length (gets there second) ≤ length (puts there (first ++ e ∷ []))
    → AreCausal there back (first ++ e ∷ []) second

abbrev SecondGrows : Type 0
SecondGrows =
    (there back : QueueId) (first second : List Entry) (e : Entry) → AreCausal there back first second → length (gets back first) ≤ length (puts back (second ++ e ∷ []))
    → AreCausal there back first (second ++ e ∷ [])

abbrev one_if : Bool → Entry → List Entry
one_if t e = if t then e ∷ [] else []

module _ (first_grows : FirstGrows) (second_grows : SecondGrows) where
  first_if : (there back : QueueId) (first second : List Entry) (e : Entry) (t : Bool) → AreCausal there back first second → length (gets there second) ≤ length (puts there (first ++ one_if t e))
      → AreCausal there back (first ++ one_if t e) second
  first_if there back first second e true causal low = first_grows there back first second e causal low
  first_if there back first second e false causal low = subst (λ es. AreCausal there back es second) (sym (append-nil first)) causal

  second_if : (there back : QueueId) (first second : List Entry) (e : Entry) (t : Bool) → AreCausal there back first second → length (gets back first) ≤ length (puts back (second ++ one_if t e))
      → AreCausal there back first (second ++ one_if t e)
  second_if there back first second e true causal low = second_grows there back first second e causal low
  second_if there back first second e false causal low = subst (λ es. AreCausal there back first es) (sym (append-nil second)) causal

  both_grow : (k : ℕ) (first second : List Entry) (e : Entry) (t u : Bool) → AreRelayed k (first ++ one_if t e) (second ++ one_if u e) → AreCausal (queue.Up k) (queue.Down k) first second
      → AreCausal (queue.Up k) (queue.Down k) (first ++ one_if t e) (second ++ one_if u e)
  both_grow k first second e t u r causal =
      let down : length (gets (queue.Down k) (first ++ one_if t e)) + length r.down_left ≡ length (puts (queue.Down k) (second ++ one_if u e)) =
      sym (length-append (gets (queue.Down k) (first ++ one_if t e)) r.down_left) ∙ ap length r.down in
      second_if (queue.Up k) (queue.Down k) (first ++ one_if t e) second e u
      (first_if (queue.Up k) (queue.Down k) first second e t causal (few_got (queue.Up k) second (one_if u e) r.up_left (puts (queue.Up k) (first ++ one_if t e)) r.up))
      (omega (arith, down))

  -- ---- the logs of an application and its router

  related : (scene : PlainScene) (r : PlainRecord) (node k : ℕ) → IsConsistent scene r
      → (entries_of r (who.App node k) ≡ []) ⊎ ((entries_of r (who.Router node) ≡ []) ⊎ AreRelayed k (entries_of r (who.App node k)) (entries_of r (who.Router node)))
  related scene r node k con = by (logged scene r (who.App node k) con.runs) (logged scene r (who.Router node) con.runs)
    where
      A : List Entry
      A = entries_of r (who.App node k)

      R : List Entry
      R = entries_of r (who.Router node)

      by : (A ≡ []) ⊎ Logged (IsOf scene) (who.App node k) r.parties → (R ≡ []) ⊎ Logged (IsOf scene) (who.Router node) r.parties → (A ≡ []) ⊎ ((R ≡ []) ⊎ AreRelayed k A R)
      by (inl none) other = inl none
      by (inr l) (inl none) = inr (inl none)
      by (inr l) (inr m) =
          let app : IsAppAt scene.nodes node k l.opening.party = owner_of scene r (who.App node k) l in
          let router : IsRouterAt scene.nodes scene.links node m.opening.party = owner_of scene r (who.Router node) m in
          let one : app.node ≡ router.node = ap (λ o. unwrap_or o app.node) (sym app.there ∙ router.there) in
          let lanes : AreAppLanes r node (who.Router node) k =
          subst (λ a. AreAppLanes r node (leader_of node a) k) (ap (λ (n : PlainNode). n.addr) one ∙ router.called)
          (app_lanes_there scene r node k app.node con.lanes app.there (slice_get_within app.node.apps k app.app app.of_it)) in
          inr (inr (record {
            up_left = left_in r node (queue.Up k) 0;
            down_left = left_in r node (queue.Down k) 0;
            up = lanes.0.kept.order;
            down = lanes.1.kept.order;
          }))

  by_relation : (k : ℕ) (first second before earlier : List Entry) (e : Entry) (t u : Bool) → first ≡ before ++ one_if t e → second ≡ earlier ++ one_if u e
      → (first ≡ []) ⊎ ((second ≡ []) ⊎ AreRelayed k first second) → AreCausal (queue.Up k) (queue.Down k) before earlier → AreCausal (queue.Up k) (queue.Down k) first second
  by_relation k first second before earlier e t u f s (inl none) causal = none_first (queue.Up k) (queue.Down k) first second none
  by_relation k first second before earlier e t u f s (inr (inl none)) causal = none_second (queue.Up k) (queue.Down k) first second none
  by_relation k first second before earlier e t u f s (inr (inr r)) causal =
      subst (λ es. AreCausal (queue.Up k) (queue.Down k) es second) (sym f)
      (subst (λ es. AreCausal (queue.Up k) (queue.Down k) (before ++ one_if t e) es) (sym s)
      (both_grow k before earlier e t u (subst (λ es. AreRelayed k es (earlier ++ one_if u e)) f (subst (λ es. AreRelayed k first es) s r)) causal))

  -- ---- worlds

  module _ (scene : PlainScene) (con : (w : PlainWorld) → IsReached scene w → IsConsistent scene (record_of w)) where
    causal_turned : (w : PlainWorld) (place : ℕ) (m : PlainMember) → slice_get w.members place ≡ Some m → AreLogged w.time (parties_of scene) w.members → IsConsistent scene (record_of (turned w place m))
        → IsCausal (record_of w) → IsCausal (record_of (turned w place m))
    causal_turned w place m found logs con_after causal node k =
        by_relation k (entries_of after (who.App node k)) (entries_of after (who.Router node)) (entries_of (record_of w) (who.App node k)) (entries_of (record_of w) (who.Router node)) e _ _
        (longer (who.App node k)) (longer (who.Router node)) (related scene after node k con_after) (causal node k)
      where
        after : PlainRecord
        after = record_of (turned w place m)

        r : AnswerShown × List PlainDeck
        r = answered w.decks w.links w.time m

        e : Entry
        e = entry_of w.time (asks m.party w.time) r.0 (events (asked m.party w.time) w.time r.0)

        longer : (v : Who) → entries_in v (map member_log (turned w place m).members) ≡ entries_in v (map member_log w.members) ++ one_if (is_who v m.who) e
        longer v = entries_step v w.time (parties_of scene) w.members (are_apart scene) logs place m (told m w.time r.0) (e ∷ []) found refl refl

    causal_at : (w : PlainWorld) (place : ℕ) (found : Option PlainMember) → slice_get w.members place ≡ found → AreLogged w.time (parties_of scene) w.members → IsConsistent scene (record_of (turn_at w place found))
        → IsCausal (record_of w) → IsCausal (record_of (turn_at w place found))
    causal_at w place None found logs con_after causal = causal
    causal_at w place (Some m) found logs con_after causal = by (has_ended m.party) con_after
      where
        after : Bool → PlainWorld
        after ended = (if ended then w else turned w place m)

        by : (ended : Bool) → IsConsistent scene (record_of (after ended)) → IsCausal (record_of (after ended))
        by true _ = causal
        by false con_turned = causal_turned w place m found logs con_turned causal

    causal_turn : (w : PlainWorld) (place : ℕ) → AreLogged w.time (parties_of scene) w.members → IsConsistent scene (record_of (turn w place)) → IsCausal (record_of w) → IsCausal (record_of (turn w place))
    unfolding turn
    causal_turn w place logs con_after causal = causal_at w place (slice_get w.members place) refl logs con_after causal

    causal_after : (hs : List Happening) → IsCausal (record_of (world_after scene hs))
    causal_after [] = λ node k.
        none_first (queue.Up k) (queue.Down k) (entries_of (record_of (opening scene)) (who.App node k)) (entries_of (record_of (opening scene)) (who.Router node))
        (ap (λ ms. entries_in (who.App node k) (map member_log ms)) (members_opened scene) ∙ no_entries (who.App node k) (parties_of scene))
    causal_after (a_turn place ∷ hs) =
        causal_turn (world_after scene hs) place (all_logged scene hs) (con (turn (world_after scene hs) place) (record { happenings = a_turn place ∷ hs; there = refl })) (causal_after hs)
    causal_after (a_tick ∷ hs) = causal_after hs

    pub reached_causal : (w : PlainWorld) → IsReached scene w → IsCausal (record_of w)
    reached_causal w reached = subst (λ v. IsCausal (record_of v)) (sym reached.there) (causal_after reached.happenings)

-- ---- the last world

pub ended_causal : (scene : PlainScene) (r : PlainRecord) → ((w : PlainWorld) → IsReached scene w → IsCausal (record_of w)) → ((w : PlainWorld) → run scene ≡ Some w → IsReached scene w) → sim_record scene ≡ Some r → IsCausal r
unfolding sim_record
ended_causal scene r causal reached e = by (run scene) refl e where
  by : (o : Option PlainWorld) → run scene ≡ o → option_map record_of o ≡ Some r → IsCausal r
  by None at f = absurd cc
  by (Some w) at f = subst IsCausal (same_Some (record_of w) r f) (causal w (reached w at))

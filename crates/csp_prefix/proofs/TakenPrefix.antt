-- What was taken on a reliable connection is a beginning of what was sent on its peer's.
use Rattle.std.proofs.Common.{◌≡◌, ◌⊎◌, inl, inr, ℕ, false, Some, List, [], ◌∷◌, ◌++◌, flat_map, slice_get, unwrap_or, refl, sym, ap, ◌∙◌, subst, append_assoc}
use Rattle.std.proofs.lemmas.Option.{slice_get_within}
use Rattle.csp_base.specs.Seat.{seat}
use Rattle.csp_base.specs.declared.seat.Seat.{Seat}
use Rattle.csp_log.specs.PlainLog.{all_events}
use Rattle.csp_log.specs.declared.entry.Entry.{Entry}
use Rattle.csp_log.specs.declared.places.QueueId.TheVariants as queue
use Rattle.csp_log.specs.declared.shown.ItemShown.{ItemShown}
use Rattle.csp_record.specs.Passed.{passed}
use Rattle.csp_record.specs.Payloads.{took}
use Rattle.csp_record.specs.Record.{PlainPartyLog, PlainRecord}
use Rattle.csp_record.specs.Stale.{is_stale, stale}
use Rattle.csp_record.specs.declared.connections.Opening.{Opening}
use Rattle.csp_log.specs.declared.who.Who.TheVariants as who
use Rattle.csp_scene.specs.Ranges.{IsScene}
use Rattle.csp_scene.specs.Scene.{PlainNode, PlainScene}
use Rattle.csp_consistent.specs.Consistent.{IsConsistent}
use Rattle.csp_prefix.specs.Delivered.{delivered}
use Rattle.csp_prefix.specs.Items.{payloads_in}
use Rattle.csp_topology.specs.Lanes.{leader_of}
use Rattle.csp_prefix.specs.Prefix.{IsBeginning, IsOfFlow, IsOpened, IsReliablePrefix, sent_on, took_on}
use Rattle.csp_consistent.specs.Reading.{entries_of, gets, left_in, puts}
use Rattle.csp_prefix.specs.Routers.{AreTrueRouters, HasNoStale}
use Rattle.csp_prefix.proofs.FlowReads.{said_is, said_none}
use Rattle.csp_prefix.proofs.GenuinePackets.{are_shown, flows_in, hears_genuine, true_router}
use Rattle.csp_consistent.proofs.Public.{Logged, IsAppAt, IsOf, logged}
use Rattle.csp_prefix.proofs.NodeLanes.{AreAppLanes, RouterThere, app_lanes_there, app_true, owner_of}
use Rattle.csp_prefix.proofs.OpeningPlaces.{opener}
use Rattle.csp_prefix.proofs.PacketLists.{events_of, none_counted}
use Rattle.csp_prefix.proofs.PayloadReads.{delivered_is, payloads_begin}

begins_nothing : {T : Type 0} (xs ys : List T) → xs ≡ [] → IsBeginning xs ys
begins_nothing xs ys e = record { rest = ys; whole = ap (λ zs. zs ++ ys) e }

begins_then : {T : Type 0} (xs ys zs : List T) → IsBeginning xs ys → IsBeginning ys zs → IsBeginning xs zs
begins_then xs ys zs a b = record { rest = a.rest ++ b.rest; whole = sym (append_assoc xs a.rest b.rest) ∙ ap (λ l. l ++ b.rest) a.whole ∙ b.whole }

begins_same : {T : Type 0} (xs us ys vs : List T) → us ≡ xs → ys ≡ vs → IsBeginning xs ys → IsBeginning us vs
begins_same xs us ys vs e f b = record { rest = b.rest; whole = ap (λ l. l ++ b.rest) e ∙ b.whole ∙ f }

none_begins : {T : Type 0} (xs : List T) → IsBeginning xs [] → xs ≡ []
none_begins [] b = refl
none_begins (x ∷ xs) b = absurd (never b.whole)
  where
    never : (x ∷ xs) ++ b.rest ≡ [] → ⊥
    never e = cc

module _ (scene : PlainScene) (r : PlainRecord) (is : IsScene scene) (con : IsConsistent scene r) (fresh : stale r ≡ 0) (same : passed r ≡ 0) (true_routers : AreTrueRouters) where
  no_stale : (place : ℕ) → HasNoStale (entries_of r (who.Router place))
  no_stale place = events_of (λ e. is_stale e ≡ false) (who.Router place) r.parties (none_counted is_stale (flat_map (λ (log : PlainPartyLog). all_events log.entries) r.parties) fresh)

  -- what an application took begins what its router delivered
  took_begins : (place : ℕ) (seat : Seat) (ordinal : ℕ) (t : RouterThere scene r place)
      → IsBeginning (took seat ordinal (entries_of r (who.App place seat.app))) (delivered seat ordinal (entries_of r (who.Router place)))
  took_begins place seat ordinal t =
      by (logged scene r (who.App place seat.app) con.runs)
    where
      lane : (n : PlainNode) → slice_get scene.nodes place ≡ Some n → AreAppLanes r place (leader_of place n.addr) seat.app → AreAppLanes r place (who.Router place) seat.app
      lane n there all =
          let one : n ≡ t.node = ap (λ o. unwrap_or o n) (sym there ∙ t.there) in
          subst (λ a. AreAppLanes r place (leader_of place a) seat.app) (ap (λ (m : PlainNode). m.addr) one ∙ t.called) all

      by : (entries_of r (who.App place seat.app) ≡ []) ⊎ Logged (IsOf scene) (who.App place seat.app) r.parties → IsBeginning (took seat ordinal (entries_of r (who.App place seat.app))) (delivered seat ordinal (entries_of r (who.Router place)))
      by (inl none) = begins_nothing (took seat ordinal (entries_of r (who.App place seat.app))) (delivered seat ordinal (entries_of r (who.Router place))) (ap (took seat ordinal) none)
      by (inr l) =
          let at : IsAppAt scene.nodes place seat.app l.opening.party = owner_of scene r (who.App place seat.app) l in
          let lanes : AreAppLanes r place (who.Router place) seat.app = lane at.node at.there (app_lanes_there scene r place seat.app at.node con.lanes at.there (slice_get_within at.node.apps seat.app at.app at.of_it)) in
          let got : List ItemShown = gets (queue.Down seat.app) (entries_of r (who.App place seat.app)) in
          let put : List ItemShown = puts (queue.Down seat.app) (entries_of r (who.Router place)) in
          begins_same (payloads_in seat.slot ordinal got) (took seat ordinal (entries_of r (who.App place seat.app))) (payloads_in seat.slot ordinal put) (delivered seat ordinal (entries_of r (who.Router place)))
          ((app_true scene r place seat.app con.runs).takes seat.slot ordinal) (sym (delivered_is seat ordinal (entries_of r (who.Router place))))
          (payloads_begin seat.slot ordinal got (left_in r place (queue.Down seat.app) 0) put lanes.1.kept.order)

  -- so it begins what the flow of the peer says
  took_said : (place app nth : ℕ) (x : Opening) (peer : ℕ × ℕ) → IsOpened r place app x → x.nth ≡ Some nth → x.peer ≡ Some peer → IsBeginning (took_on r place app x) ((flows_in scene r).said peer)
  took_said place app nth x peer opened numbered peered =
      let es : List Entry = entries_of r (who.Router place) in
      let t : RouterThere scene r place = opener scene r is con place app opened.at x opened.there in
      begins_then (took_on r place app x) (delivered (seat app x.slot) x.ordinal es) ((flows_in scene r).said peer) (took_begins place (seat app x.slot) x.ordinal t)
      ((true_router scene r is con same true_routers place t).delivers (flows_in scene r) (are_shown scene r is con same true_routers place t) (hears_genuine scene r is con same true_routers place t) (no_stale place)
      app nth x peer (record { at = opened.at; there = opened.there; numbered = numbered }) peered)

  -- that is what was sent on the peer's connection
  said_sent : (peer : ℕ × ℕ) (other : ℕ) (y : Opening) → IsOfFlow r peer other y → (flows_in scene r).said peer ≡ sent_on r peer.0 other y
  said_sent peer other y of =
      let t : RouterThere scene r peer.0 = opener scene r is con peer.0 other of.0.at y of.0.there in
      said_is (entries_of r (who.Router peer.0)) (true_router scene r is con same true_routers peer.0 t).numbered other peer.1 y (record { at = of.0.at; there = of.0.there; numbered = of.1 })

  pub reliable_prefix : IsReliablePrefix r
  reliable_prefix place app nth x peer opened numbered peered = record {
    prefix = λ other y of. begins_same (took_on r place app x) (took_on r place app x) ((flows_in scene r).said peer) (sent_on r peer.0 other y) refl (said_sent peer other y of) (took_said place app nth x peer opened numbered peered);
    never = λ none. none_begins (took_on r place app x)
        (begins_same (took_on r place app x) (took_on r place app x) ((flows_in scene r).said peer) [] refl
        (said_none (entries_of r (who.Router peer.0)) peer.1 (λ other y flow. none other y (record { at = flow.at; there = flow.there }, flow.numbered)))
        (took_said place app nth x peer opened numbered peered));
  }

-- Blobs over a reliable connection that was asked for: what was sent on it are pieces of the blobs of the steps after the `connect`.
use Rattle.std.proofs.Common.{◌≡◌, ℕ, ◌+◌, ◌<◌, true, Some, List, [], ◌∷◌, ◌++◌, drop, length, slice_get, unwrap_or, refl, sym, ap, ◌∙◌, subst, append_assoc}
use Rattle.std.specs.List.{AllByRecursion}
use Rattle.std.proofs.lemmas.Option.{slice_get_within}
use Rattle.std.proofs.lemmas.Grind.{flat_map-append}
use Rattle.csp_base.specs.Seat.{seat}
use Rattle.csp_log.specs.declared.entry.Entry.{Entry}
use Rattle.csp_log.specs.declared.event.Event.TheVariants as event
use Rattle.csp_log.specs.declared.note.Note.{Note}
use Rattle.csp_log.specs.declared.note.Note.TheVariants as note
use Rattle.csp_log.specs.declared.places.QueueId.TheVariants as queue
use Rattle.csp_log.specs.declared.shown.ItemShown.{ItemShown}
use Rattle.csp_log.specs.declared.shown.ItemShown.TheVariants as item
use Rattle.csp_record.specs.Payloads.{sent}
use Rattle.csp_record.specs.Record.{PlainRecord}
use Rattle.csp_log.specs.declared.who.Who.TheVariants as who
use Rattle.csp_scene.specs.Ranges.{IsApp, IsNode, IsScene, IsStep}
use Rattle.csp_scene.specs.Scene.{PlainNode, PlainScene}
use Rattle.csp_sfp.specs.Collecting.{all_pieces}
use Rattle.csp_causal.specs.Causal.{IsCausal}
use Rattle.csp_consistent.proofs.Public.{each_at}
use Rattle.csp_consistent.specs.Consistent.{IsConsistent}
use Rattle.csp_consistent.specs.Reading.{entries_of, gets, left_in, puts}
use Rattle.csp_prefix.proofs.Public.{AreAppLanes, RouterThere, app_lanes_there, opener}
use Rattle.csp_prefix.specs.Apps.{IsAppLog}
use Rattle.csp_prefix.specs.Prefix.{IsBeginning, sent_on}
use Rattle.csp_topology.specs.Lanes.{leader_of}
use Rattle.csp_blobs.proofs.AskedCuts.{gets_append, nothing_comes}
use Rattle.csp_blobs.proofs.BlobPrefix.{AreOnSlots, app_log}
use Rattle.csp_blobs.specs.Asking.{AnswerNoMore, AreBlobsWhole, IsConnect, SendWhatComes, WaitForAnswers, asks}
use Rattle.csp_blobs.specs.Blobs.{IsBlobPrefix}
use Rattle.csp_blobs.specs.Sending.{IsSince, SendPieces, SendsPieces, cuts_on, payload_on, pushed_on}

connect_asks : (slot : ℕ) (n : Note) → IsConnect slot n → asks n ≡ true
connect_asks slot (note.Connect own dest port prio flags from) is = refl
connect_asks slot note.Bound is = absurd is
connect_asks slot _ is = absurd is

begins_then : {T : Type 0} (xs ys zs : List T) → IsBeginning xs ys → IsBeginning ys zs → IsBeginning xs zs
begins_then xs ys zs a b = record { rest = a.rest ++ b.rest; whole = sym (append_assoc xs a.rest b.rest) ∙ ap (λ l. l ++ b.rest) a.whole ∙ b.whole }

module _ (scene : PlainScene) (r : PlainRecord) (is : IsScene scene) (con : IsConsistent scene r) (causal : IsCausal r) (answer : AnswerNoMore) (wait : WaitForAnswers) (send : SendWhatComes) (pieces : SendPieces)
    (on_slots : AreOnSlots r) (collects : IsBlobPrefix scene r) where
  -- the lanes between an application and its router are in order
  lanes_there : (place k : ℕ) (n : PlainNode) (t : RouterThere scene r place) → slice_get scene.nodes place ≡ Some n → k < length n.apps → AreAppLanes r place (who.Router place) k
  lanes_there place k n t there low =
      let one : n ≡ t.node = ap (λ o. unwrap_or o n) (sym there ∙ t.there) in
      subst (λ a. AreAppLanes r place (leader_of place a) k) (ap (λ (m : PlainNode). m.addr) one ∙ t.called) (app_lanes_there scene r place k n con.lanes there low)

  pub blobs_whole : AreBlobsWhole scene r
  blobs_whole node app nth other x y peer steps opened numbered peered at flow sends asked = record {
    at = since.asked.at;
    own = since.asked.own;
    there = since.asked.there;
    asks = since.asked.asks;
    first = since.asked.first;
    tells = (collects node app nth x peer opened numbered peered at).prefix other y (cuts_on y.slot (drop (since.asked.at + 1) steps)) flow (all.cuts (since.asked.at + 1)) sent_pieces;
  }
    where
      place : ℕ
      place = peer.0

      A : List Entry
      A = entries_of r (who.App place other)

      R : List Entry
      R = entries_of r (who.Router place)

      t : RouterThere scene r place
      t = opener scene r is con place other flow.0.at y flow.0.there

      low : other < length sends.home.apps
      low = slice_get_within sends.home.apps other sends.own sends.of_it

      lanes : AreAppLanes r place (who.Router place) other
      lanes = lanes_there place other sends.home t sends.there low

      log : IsAppLog other steps A
      log = subst (λ own. IsAppLog other own A) sends.script (app_log scene r place other sends.home sends.own con.runs sends.there sends.of_it)

      ranges : AllByRecursion IsStep steps
      ranges = subst (AllByRecursion IsStep) sends.script (each_at IsApp sends.home.apps other sends.own (each_at IsNode scene.nodes place sends.home is.nodes sends.there).apps sends.of_it).ranges

      all : SendsPieces (seat other y.slot) steps A
      all = pieces (seat other y.slot) steps A (on_slots place other y flow.0) ranges sends.blobs log

      up_left : List ItemShown
      up_left = left_in r place (queue.Up other) 0

      right : R ≡ asked.first ++ asked.own ∷ (asked.between ++ asked.opens ∷ asked.later)
      right = asked.whole ∙ append_assoc asked.first (asked.own ∷ asked.between) (asked.opens ∷ asked.later)

      quiet : gets (queue.Up other) (asked.between ++ asked.opens ∷ []) ≡ []
      quiet =
          nothing_comes other A R up_left (left_in r place (queue.Down other) 0) lanes.0.kept.order lanes.1.kept.order (causal place other) (λ before after own i e put. wait other steps A before after own i log e put)
          (λ before after e. answer _ _ R before after other t.log e) asked.first asked.between asked.later asked.own asked.opens asked.note right asked.got (connect_asks y.slot asked.note asked.connects)
          asked.unanswered

      before : List ItemShown
      before = gets (queue.Up other) asked.first

      later : List ItemShown
      later = gets (queue.Up other) asked.later

      -- after the note comes what comes once the connection is open
      mid : asked.between ++ asked.opens ∷ asked.later ≡ (asked.between ++ asked.opens ∷ []) ++ asked.later
      mid = sym (append_assoc asked.between (asked.opens ∷ []) asked.later)

      rest_got : gets (queue.Up other) (asked.between ++ asked.opens ∷ asked.later) ≡ later
      rest_got = ap (gets (queue.Up other)) mid ∙ gets_append (queue.Up other) (asked.between ++ asked.opens ∷ []) asked.later ∙ ap (λ l. l ++ later) quiet

      all_got : gets (queue.Up other) R ≡ before ++ item.Note asked.note ∷ later
      all_got =
          ap (gets (queue.Up other)) right ∙ gets_append (queue.Up other) asked.first (asked.own ∷ (asked.between ++ asked.opens ∷ asked.later))
          ∙ (λ k. before ++ (asked.got k ++ rest_got k))

      all_put : puts (queue.Up other) A ≡ before ++ item.Note asked.note ∷ (later ++ up_left)
      all_put = sym lanes.0.kept.order ∙ ap (λ l. l ++ up_left) all_got ∙ append_assoc before (item.Note asked.note ∷ later) up_left

      since : IsSince y.slot steps before (later ++ up_left) asked.note
      since = all.after before (later ++ up_left) asked.note all_put

      -- what was sent
      to_opening : List Entry
      to_opening = asked.first ++ asked.own ∷ asked.between

      told : slice_get asked.opens.events.items asked.at ≡ Some (event.Opened other y.slot (Some peer.1) y.peer)
      told = asked.opened ∙ ap (λ n. Some (event.Opened other y.slot n y.peer)) flow.1

      sent_then : IsBeginning (sent_on r place other y) (pushed_on y.slot later)
      sent_then =
          subst (λ o. IsBeginning (sent (seat other y.slot) o R) (pushed_on y.slot later)) asked.ordinal
          (send _ _ R to_opening asked.later asked.opens (seat other y.slot) peer.1 asked.at y.peer t.log asked.whole told)

      pushed : IsBeginning (pushed_on y.slot later) (pushed_on y.slot (later ++ up_left))
      pushed = record { rest = pushed_on y.slot up_left; whole = sym (flat_map-append (payload_on y.slot) later up_left) }

      sent_pieces : IsBeginning (sent_on r place other y) (all_pieces (cuts_on y.slot (drop (since.asked.at + 1) steps)))
      sent_pieces =
          begins_then (sent_on r place other y) (pushed_on y.slot later) (all_pieces (cuts_on y.slot (drop (since.asked.at + 1) steps))) sent_then
          (begins_then (pushed_on y.slot later) (pushed_on y.slot (later ++ up_left)) (all_pieces (cuts_on y.slot (drop (since.asked.at + 1) steps))) pushed since.pieces)

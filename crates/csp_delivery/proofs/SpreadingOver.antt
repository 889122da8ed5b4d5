-- What comes over the hubs of a consistent record of the first frames of a transmission.
use Rattle.std.proofs.Common.{◌≡◌, ◌≢◌, ◌⊎◌, inl, inr, ℕ, zero, suc, ◌<◌, ◌≤◌, ◌==◌, Bool, true, false, Option, Some, List, [], ◌∷◌, ◌++◌, length, slice_get, unwrap_or, refl, sym, ap, ◌∙◌, subst, arith}
use Rattle.std.specs.Prelude.{if◌then◌else◌}
use Rattle.std.proofs.lemmas.List.Elements.{filter_map-append}
use Rattle.std.proofs.lemmas.Option.{slice_get_within}
use Rattle.csp_base.specs.declared.limits.TheConstants.{MAX_PAYLOAD}
use Rattle.csp_base.specs.declared.traces.Origin.{Origin}
use Rattle.csp_deck.specs.Runs.{IsRun}
use Rattle.csp_delivery.specs.Delivery.{AreFirstsCopied, AreFirstsOfOthers, IsFirstCopied, IsOf, IsOfNoOther, MakesOfFirst, firsts, frames_among, frames_got, never, origin_at}
use Rattle.csp_hub.specs.Applied as hub
use Rattle.csp_link.specs.Applied.{made_from}
use Rattle.csp_link.specs.Fates.{fate_of}
use Rattle.csp_link.specs.Turns.{frame_in}
use Rattle.csp_log.specs.declared.entry.Entry.{Entry}
use Rattle.csp_log.specs.declared.frame.Frame.{Frame}
use Rattle.csp_log.specs.declared.places.End.{End}
use Rattle.csp_log.specs.declared.places.QueueId.TheVariants as queue
use Rattle.csp_log.specs.declared.shown.AnswerShown.{AnswerShown}
use Rattle.csp_log.specs.declared.shown.AnswerShown.TheVariants as answer
use Rattle.csp_log.specs.declared.shown.ItemShown.{ItemShown}
use Rattle.csp_log.specs.declared.shown.ItemShown.TheVariants as item
use Rattle.csp_log.specs.declared.shown.OpShown.{OpShown}
use Rattle.csp_log.specs.declared.shown.OpShown.TheVariants as op
use Rattle.csp_party.specs.Any.{an_iface}
use Rattle.csp_record.specs.Record.{PlainRecord}
use Rattle.csp_log.specs.declared.who.Who.TheVariants as who
use Rattle.csp_scene.specs.Links.{links_at}
use Rattle.csp_scene.specs.Ranges.{IsEnd, IsLink, IsScene}
use Rattle.csp_scene.specs.Scene.{PlainLink, PlainScene}
use Rattle.csp_topology.proofs.Public.{home_ranged}
use Rattle.csp_topology.specs.Lanes.{PlainLane}
use Rattle.csp_topology.specs.Parties.{iface_opening, party_steps}
use Rattle.csp_consistent.specs.Consistent.{IsConsistent}
use Rattle.csp_consistent.specs.Lanes.{IsInOrder}
use Rattle.csp_consistent.specs.Reading.{entries_of, gets, got_by, left_in, put_by, puts}
use Rattle.csp_consistent.proofs.Public.{AreLanes, end_lanes_of, IsIfaceRun, iface_run, each_at, one_at, Logged, IsOf as IsOwned, logged, pops_within}
use Rattle.csp_delivery.proofs.SendingCounts.{AreNone, among_append, none_first}
use Rattle.csp_delivery.proofs.SendingOnce.{sent_once, sent_own}
use Rattle.csp_delivery.proofs.SpreadingFew.{makes_made, makes_one, makes_some, pushed_few}

-- ---- the frames that a hub got and put are those among the items of its lanes

if_frame : (b : Bool) (f : Frame) → (if b then f ∷ [] else []) ≡ frames_among (if b then item.Frame f ∷ [] else [])
if_frame true f = refl
if_frame false f = refl

none_if : (b : Bool) (i : ItemShown) → frames_among (i ∷ []) ≡ [] → [] ≡ frames_among (if b then i ∷ [] else [])
none_if true i e = sym e
none_if false i e = refl

popped_one : (k : ℕ) (q : OpShown) (a : AnswerShown) → hub.popped_by k q a ≡ frames_among (got_by (queue.Tx k) q a)
popped_one k (op.Pop (queue.Tx from)) (answer.Popped (item.Frame f)) = if_frame (from == k) f
popped_one k (op.Pop (queue.Tx from)) (answer.Popped (item.Packet mark b)) = none_if (from == k) (item.Packet mark b) refl
popped_one k (op.Pop (queue.Tx from)) (answer.Popped (item.Note n)) = none_if (from == k) (item.Note n) refl
popped_one k (op.Pop queue.Inbox) (answer.Popped i) = refl
popped_one k (op.Pop (queue.Up _)) (answer.Popped i) = refl
popped_one k (op.Pop (queue.Down _)) (answer.Popped i) = refl
popped_one k (op.Pop (queue.Out _)) (answer.Popped i) = refl
popped_one k (op.Pop (queue.Rx _)) (answer.Popped i) = refl
popped_one k _ _ = refl

pushed_one : (k : ℕ) (q : OpShown) (a : AnswerShown) → hub.pushed_by k q a ≡ frames_among (put_by (queue.Rx k) q a)
pushed_one k (op.Push (queue.Rx to) (item.Frame f)) answer.Pushed = if_frame (to == k) f
pushed_one k (op.Push (queue.Rx to) (item.Packet mark b)) answer.Pushed = none_if (to == k) (item.Packet mark b) refl
pushed_one k (op.Push (queue.Rx to) (item.Note n)) answer.Pushed = none_if (to == k) (item.Note n) refl
pushed_one k (op.Push queue.Inbox i) answer.Pushed = refl
pushed_one k (op.Push (queue.Up _) i) answer.Pushed = refl
pushed_one k (op.Push (queue.Down _) i) answer.Pushed = refl
pushed_one k (op.Push (queue.Out _) i) answer.Pushed = refl
pushed_one k (op.Push (queue.Tx _) i) answer.Pushed = refl
pushed_one k _ _ = refl

pub popped_among : (k : ℕ) (es : List Entry) → hub.frames_popped k es ≡ frames_among (gets (queue.Tx k) es)
popped_among k [] = refl
popped_among k (e ∷ es) = (λ i. popped_one k e.op e.answer i ++ popped_among k es i) ∙ sym (filter_map-append frame_in (got_by (queue.Tx k) e.op e.answer) (gets (queue.Tx k) es))

pub pushed_among : (k : ℕ) (es : List Entry) → hub.frames_pushed k es ≡ frames_among (puts (queue.Rx k) es)
pushed_among k [] = refl
pushed_among k (e ∷ es) = (λ i. pushed_one k e.op e.answer i ++ pushed_among k es i) ∙ sym (filter_map-append frame_in (put_by (queue.Rx k) e.op e.answer) (puts (queue.Rx k) es))

-- of a lane no more come than went in
pub lane_few : (o : Origin) (r : PlainRecord) (l : PlainLane) → IsInOrder r l → firsts o (frames_among (gets l.to.queue (entries_of r l.to.who))) ≤ firsts o (frames_among (puts l.from.queue (entries_of r l.from.who)))
lane_few o r l order =
    let all : firsts o (frames_among (gets l.to.queue (entries_of r l.to.who) ++ left_in r l.node l.queue 0)) ≡ firsts o (frames_among (puts l.from.queue (entries_of r l.from.who))) = ap (λ is. firsts o (frames_among is)) order.kept.order in
    omega (arith, all, among_append o (gets l.to.queue (entries_of r l.to.who)) (left_in r l.node l.queue 0))

-- another place than this
another : (at n : ℕ) → 2 ≤ n → (k : ℕ) × (k < n) × (k ≢ at)
another zero n two = (1, omega (arith, two), λ e. omega (arith, e))
another (suc at) n two = (0, omega (arith, two), λ e. omega (arith, e))

-- ---- a record

module _ (scene : PlainScene) (r : PlainRecord) (ranges : IsScene scene) (con : IsConsistent scene r) where
  -- the entries of the interface at an end
  abbrev own : End → List Entry
  own end = entries_of r (who.Iface end.node end.iface)

  -- what holds of no entries and of those of each run of the interface at an end of a link holds of its entries
  by_run : (P : List Entry → Type 0) (l : PlainLink) (end : End) → slice_get (links_at end.node scene.links) end.iface ≡ Some l → P []
      → ((heeds : Option ℕ) (es : List Entry) → IsRun party_steps 0 (an_iface (iface_opening end.node end.iface l.kind l.mtu heeds)) es → P es) → P (own end)
  by_run P l end on none ran =
      by (logged scene r (who.Iface end.node end.iface) con.runs)
    where
      by : (own end ≡ []) ⊎ Logged (IsOwned scene) (who.Iface end.node end.iface) r.parties → P (own end)
      by (inl empty) = subst P (sym empty) none
      by (inr log) =
          let run : IsIfaceRun scene r end.node end.iface = iface_run scene r end.node end.iface log in
          let same : run.link ≡ l = ap (λ x. unwrap_or x l) (sym run.on ∙ on) in
          ran run.heeds (own end) (subst (λ (x : PlainLink). IsRun party_steps 0 (an_iface (iface_opening end.node end.iface x.kind x.mtu run.heeds)) (own end)) same run.run)

  module _ (number : ℕ) (l : PlainLink) (there : slice_get scene.links number ≡ Some l) where
    -- the entries of the link or hub
    abbrev es : List Entry
    es = entries_of r (who.Link number)

    is : IsLink scene.nodes scene.links l
    is = each_at (IsLink scene.nodes scene.links) scene.links number l ranges.links there

    on_it : (at : ℕ) (end : End) → slice_get l.ends at ≡ Some end → slice_get (links_at end.node scene.links) end.iface ≡ Some l
    on_it at end there = (each_at (IsEnd scene.nodes scene.links l) l.ends at end is.ends there).iface

    lanes : (at : ℕ) (end : End) → slice_get l.ends at ≡ Some end → AreLanes r number l at end
    lanes at end on = end_lanes_of scene r number l at end (home_ranged scene ranges) con.lanes there on

    -- what was popped from an end
    popped_few : (o : Origin) (at : ℕ) (end : End) → slice_get l.ends at ≡ Some end → firsts o (hub.frames_popped at es) ≤ firsts o (frames_among (puts (queue.Tx end.iface) (own end)))
    popped_few o at end on = omega (arith, ap (firsts o) (popped_among at es), lane_few o r _ (lanes at end on).0)

    -- from each end it pops no two first frames of a transmission
    pub popped_once : (o : Origin) (at : ℕ) (end : End) → slice_get l.ends at ≡ Some end → firsts o (hub.frames_popped at es) ≤ 1
    popped_once o at end on =
        let most : l.mtu ≤ MAX_PAYLOAD = omega (arith, is.mtu.1) in
        let put : firsts o (frames_among (puts (queue.Tx end.iface) (own end))) ≤ 1 =
        by_run (λ xs. firsts o (frames_among (puts (queue.Tx end.iface) xs)) ≤ 1) l end (on_it at end on) (omega arith) (λ heeds xs run. sent_once o end.node end.iface l.kind l.mtu heeds xs most run) in
        omega (arith, put, popped_few o at end on)

    -- and none of a transmission of another interface
    pub popped_own : (o : Origin) (at : ℕ) (end : End) → slice_get l.ends at ≡ Some end → (IsOf o end.node end.iface → ⊥) → firsts o (hub.frames_popped at es) ≡ 0
    popped_own o at end on other =
        let put : firsts o (frames_among (puts (queue.Tx end.iface) (own end))) ≡ 0 =
        by_run (λ xs. firsts o (frames_among (puts (queue.Tx end.iface) xs)) ≡ 0) l end (on_it at end on) refl (λ heeds xs run. sent_own o end.node end.iface l.kind l.mtu heeds xs other run) in
        omega (arith, put, popped_few o at end on)

    -- where a transmission is of no end but those in two places, to the one come no more of its first frames than the plan makes copies of the one from the other
    come_few : (o : Origin) (place at n : ℕ) (from end : End) → l.hub ≡ true → slice_get l.ends place ≡ Some from → slice_get l.ends at ≡ Some end
        → ((k : ℕ) (other : End) → slice_get l.ends k ≡ Some other → k ≢ at → k ≢ place → IsOf o other.node other.iface → ⊥) → MakesOfFirst l.plan es place o n → firsts o (frames_got r end) ≤ n
    come_few o place at n from end bus at_place at_end apart makes =
        let low : at < length l.ends = slice_get_within l.ends at end at_end in
        let pushed : firsts o (hub.frames_pushed at es) ≤ firsts o (made_from (λ k. fate_of place k l.plan) 1 (hub.frames_popped place es)) =
        pushed_few o l.plan (length l.ends) at place es (con.hubs number l at there bus low) (pops_within scene r number l con.runs there bus (omega (arith, low)))
        (λ k inside apart_end apart_place.
        let other = one_at l.ends k inside in
        popped_own o k other.0 other.1 (apart k other.0 other.1 apart_end apart_place)) in
        let made : firsts o (made_from (λ k. fate_of place k l.plan) 1 (hub.frames_popped place es)) ≡ n = makes_made l.plan es place o n (popped_once o place from at_place) makes in
        omega (arith, lane_few o r _ (lanes at end at_end).1, ap (firsts o) (pushed_among at es), pushed, made)

    -- a transmission from an end is of no other
    pub first_copies : (place at : ℕ) (from end : End) (serial n : ℕ) → l.hub ≡ true → slice_get l.ends place ≡ Some from → slice_get l.ends at ≡ Some end
        → MakesOfFirst l.plan es place (origin_at from serial) n → firsts (origin_at from serial) (frames_got r end) ≤ n
    first_copies place at from end serial n bus at_place at_end makes =
        come_few (origin_at from serial) place at n from end bus at_place at_end
        (λ k other on apart_end apart_place of. apart_place (sym (is.shape.apart place k from other at_place on of.0))) makes

    copied : (place : ℕ) (from : End) (serial : ℕ) → l.hub ≡ true → slice_get l.ends place ≡ Some from → IsFirstCopied r number l place (origin_at from serial)
    copied place from serial bus at_place =
        let o : Origin = origin_at from serial in
        let some : (n : ℕ) × MakesOfFirst l.plan es place o n = makes_some l.plan es place o in
        record {
          many = some.0;
          makes = some.1;
          alone = λ n makes. makes_one l.plan es place o n some.0 (popped_once o place from at_place) makes some.1;
          few = λ at end at_end. first_copies place at from end serial some.0 bus at_place at_end some.1;
        }

    -- of a transmission that is of no other end none comes to an end, since from another end none comes
    pub first_none : (o : Origin) (at : ℕ) (end : End) → l.hub ≡ true → slice_get l.ends at ≡ Some end → IsOfNoOther l.ends at o → firsts o (frames_got r end) ≡ 0
    first_none o at end bus at_end apart =
        let beside : (k : ℕ) × (k < length l.ends) × (k ≢ at) = another at (length l.ends) is.shape.least in
        let one : (other : End) × (slice_get l.ends beside.0 ≡ Some other) = one_at l.ends beside.0 beside.1 in
        let none : AreNone o (hub.frames_popped beside.0 es) = none_first o (hub.frames_popped beside.0 es) (popped_own o beside.0 one.0 one.1 (apart beside.0 one.0 one.1 beside.2)) in
        omega (arith, come_few o beside.0 at 0 one.0 end bus one.1 at_end (λ k other on apart_end apart_place. apart k other on apart_end) (never refl none))

  pub firsts_copied : AreFirstsCopied scene r
  firsts_copied number l place from serial there bus at_place = copied number l there place from serial bus at_place

  pub firsts_of_others : AreFirstsOfOthers scene r
  firsts_of_others number l at end o there bus at_end apart = first_none number l there o at end bus at_end apart

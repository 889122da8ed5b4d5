-- What an interface handed to its inbox was sent by an interface at another end of its link.
use Rattle.std.proofs.Common.{◌≡◌, ◌≢◌, ◌⊎◌, inl, inr, ℕ, zero, suc, ◌+◌, ◌<◌, ◌==◌, ◌||◌, Bool, true, false, cond, Option, Some, List, [], ◌∷◌, ◌++◌, length, flat_map, filter_map, slice_get, unwrap_or, refl, sym, ap, ◌∙◌, subst, arith, eqb-true}
use Rattle.std.specs.Prelude.{if◌then◌else◌}
use Rattle.std.specs.List.{AllByRecursion, list_any}
use Rattle.std.proofs.lemmas.Option.{slice_get_within}
use Rattle.csp_base.specs.declared.traces.Trace.{Trace}
use Rattle.csp_deck.specs.Runs.{IsRun}
use Rattle.csp_hub.specs.Applied as hub
use Rattle.csp_iface.specs.Receiving.{arrived}
use Rattle.csp_iface.specs.Sending.{sent_trace}
use Rattle.csp_link.specs.Applied.{frames_popped}
use Rattle.csp_link.specs.Copies.{damaged}
use Rattle.csp_link.specs.Fates.{fate_of}
use Rattle.csp_link.specs.Ways as ways
use Rattle.csp_link.specs.declared.way.Way.{Way}
use Rattle.csp_link.specs.declared.way.Way.TheVariants.{Forth, Back}
use Rattle.csp_log.specs.declared.frame.Frame.{Frame}
use Rattle.csp_log.specs.declared.places.End.{End}
use Rattle.csp_log.specs.declared.places.QueueId.TheVariants as queue
use Rattle.csp_log.specs.declared.shown.ItemShown.{ItemShown}
use Rattle.csp_log.specs.declared.shown.ItemShown.TheVariants as item
use Rattle.csp_party.specs.Any.{an_iface}
use Rattle.csp_record.specs.Record.{PlainPartyLog, PlainRecord}
use Rattle.csp_record.specs.Transmissions.{iface_entries, shown_in}
use Rattle.csp_log.specs.Who.{is_iface, is_who}
use Rattle.csp_log.specs.declared.who.Who.{Who}
use Rattle.csp_log.specs.declared.who.Who.TheVariants as who
use Rattle.csp_scene.proofs.Public.{AllByRecursion-map}
use Rattle.csp_scene.specs.Kept.{AreLinksAfter, IsLinkAfter, IsEndAfter}
use Rattle.csp_scene.specs.Links.{links_at, touches}
use Rattle.csp_scene.specs.Ranges.{HasEnds}
use Rattle.csp_scene.specs.Scene.{PlainScene, PlainLink, PlainNode}
use Rattle.csp_consistent.specs.Lanes.{AreInOrder}
use Rattle.csp_consistent.specs.Origins.{IsSent, HaveOrigins}
use Rattle.csp_topology.proofs.Public.{AreHome, home_placed}
use Rattle.csp_topology.specs.Parties.{heeded, iface_opening, parties_of, party_steps}
use Rattle.csp_consistent.specs.Reading.{entries_of, puts, gets}
use Rattle.csp_consistent.specs.Runs.{AreLogsOf}
use Rattle.csp_consistent.proofs.Across.{IsFromOther, across_so, all_popped_alike, damaged_of, end_lanes_of, spread_so, through}
use Rattle.csp_consistent.proofs.Each.{each_at, one_at}
use Rattle.csp_consistent.proofs.Names.{Logged}
use Rattle.csp_consistent.proofs.Owners.{IsIfaceAt, IsOf, IsOwner}
use Rattle.csp_consistent.proofs.Planned.{are_planned, are_spread, logged, pops_within}
use Rattle.csp_consistent.proofs.Received.{IsFrameOf, IsPacketOf, IsSuchFrame, received, such_also}
use Rattle.csp_consistent.proofs.Transmitted.{IsBegun, transmitted_all}

-- ---- the link of an interface

-- a link that stands in a place has this end in a place, and others
pub record IsJoint (links : List PlainLink) (l : PlainLink) (end : End) : Type 0 where
  pub number : ℕ
  pub there : slice_get links number ≡ Some l
  pub at : ℕ
  pub on : slice_get l.ends at ≡ Some end
  pub shape : HasEnds l

later : (x : PlainLink) (links : List PlainLink) (l : PlainLink) (place m n : ℕ) → m ≡ n → IsJoint links l (record { node = place; iface = m }) → IsJoint (x ∷ links) l (record { node = place; iface = n })
later x links l place m n same joint =
    subst (λ k. IsJoint (x ∷ links) l (record { node = place; iface = k })) same (record { number = suc joint.number; there = joint.there; at = joint.at; on = joint.on; shape = joint.shape })

-- an end at a node that a link touches
abbrev HasTouched : ℕ → List End → Type 0
HasTouched place ends = (at : ℕ) × (end : End) × (slice_get ends at ≡ Some end) × ((end.node == place) ≡ true)

touched_at : (place : ℕ) (ends : List End) → list_any (λ (end : End). end.node == place) ends ≡ true → HasTouched place ends
touched_at place [] e = absurd cc
touched_at place (x ∷ ends) e =
    by (x.node == place) refl e (touched_at place ends)
  where
    by : (b : Bool) → (x.node == place) ≡ b → (b || list_any (λ (end : End). end.node == place) ends) ≡ true → (list_any (λ (end : End). end.node == place) ends ≡ true → HasTouched place ends) → HasTouched place (x ∷ ends)
    by true is f rest = (0, x, refl, is)
    by false is f rest = let more = rest f in (suc more.0, more.1, more.2, more.3)

end_is : (nodes : ℕ) (earlier : List PlainLink) (end : End) (place : ℕ) → IsEndAfter nodes earlier end → (end.node == place) ≡ true → end ≡ record { node = place; iface = length (links_at place earlier) + 0 }
end_is nodes earlier end place after e =
    let at : end.node ≡ place = eqb-true end.node place e in
    let none : length (links_at place earlier) ≡ length (links_at place earlier) + 0 = omega arith in
    let number : end.iface ≡ length (links_at place earlier) + 0 = after.iface ∙ ap (λ n. length (links_at n earlier)) at ∙ none in
    λ i. record { node = at i; iface = number i }

here : (nodes place : ℕ) (x : PlainLink) (links earlier : List PlainLink) (l : PlainLink) → IsLinkAfter nodes earlier x → touches place x ≡ true → Some x ≡ Some l → IsJoint (x ∷ links) l (record { node = place; iface = length (links_at place earlier) + 0 })
here nodes place x links earlier l after touched there =
    let same : x ≡ l = ap (λ o. unwrap_or o x) there in
    let one = touched_at place x.ends touched in
    let is : one.1 ≡ record { node = place; iface = length (links_at place earlier) + 0 } = end_is nodes earlier one.1 place (each_at (IsEndAfter nodes earlier) x.ends one.0 one.1 after.ends one.2) one.3 in
    record {
      number = 0;
      there = there;
      at = one.0;
      on = ap (λ (y : PlainLink). slice_get y.ends one.0) (sym same) ∙ one.2 ∙ ap Some is;
      shape = subst HasEnds same after.shape;
    }

pub more_at : (place : ℕ) (x : PlainLink) (b : Bool) → touches place x ≡ b → (earlier : List PlainLink) → length (links_at place (earlier ++ x ∷ [])) ≡ length (links_at place earlier) + (if b then 1 else 0)
more_at place x true e [] = ap (λ c. length (cond c (x ∷ []) [])) e
more_at place x false e [] = ap (λ c. length (cond c (x ∷ []) [])) e
more_at place x b e (y ∷ earlier) =
    first (touches place y) (more_at place x b e earlier)
  where
    first : (c : Bool) → length (links_at place (earlier ++ x ∷ [])) ≡ length (links_at place earlier) + (if b then 1 else 0)
        → length (cond c (y ∷ links_at place (earlier ++ x ∷ [])) (links_at place (earlier ++ x ∷ []))) ≡ length (cond c (y ∷ links_at place earlier) (links_at place earlier)) + (if b then 1 else 0)
    first true rest = omega (arith, rest)
    first false rest = rest

-- the link of an interface
pub joint : (nodes place : ℕ) (links earlier : List PlainLink) (j : ℕ) (l : PlainLink) → AreLinksAfter nodes earlier links → slice_get (links_at place links) j ≡ Some l → IsJoint links l (record { node = place; iface = length (links_at place earlier) + j })
joint nodes place [] earlier j l are on = absurd cc
joint nodes place (x ∷ links) earlier j l are on =
    first (touches place x) refl j on (λ k. joint nodes place links (earlier ++ x ∷ []) k l are.1)
  where
    first : (b : Bool) → touches place x ≡ b → (j : ℕ) → slice_get (cond b (x ∷ links_at place links) (links_at place links)) j ≡ Some l
        → ((k : ℕ) → slice_get (links_at place links) k ≡ Some l → IsJoint links l (record { node = place; iface = length (links_at place (earlier ++ x ∷ [])) + k }))
        → IsJoint (x ∷ links) l (record { node = place; iface = length (links_at place earlier) + j })
    first true e zero on rest = here nodes place x links earlier l are.0 e on
    first true e (suc k) on rest = later x links l place (length (links_at place (earlier ++ x ∷ [])) + k) (length (links_at place earlier) + suc k) (omega (arith, more_at place x true e earlier)) (rest k on)
    first false e k on rest = later x links l place (length (links_at place (earlier ++ x ∷ [])) + k) (length (links_at place earlier) + k) (omega (arith, more_at place x false e earlier)) (rest k on)

-- where it is no hub it has just one other end: the frames of this direction come from there
pub record IsPair (l : PlainLink) (at : ℕ) : Type 0 where
  pub way : Way
  pub to : at ≡ ways.number (ways.other way)
  pub beyond : End
  pub from : slice_get l.ends (ways.number way) ≡ Some beyond

one_other : (ends : List End) (at : ℕ) (end : End) → length ends ≡ 2 → slice_get ends at ≡ Some end → (way : Way) × (at ≡ ways.number (ways.other way)) × (beyond : End) × (slice_get ends (ways.number way) ≡ Some beyond)
one_other [] at end two e = absurd cc
one_other (a ∷ []) at end two e = absurd (omega (arith, two))
one_other (a ∷ b ∷ []) zero end two e = (Back, refl, b, refl)
one_other (a ∷ b ∷ []) (suc zero) end two e = (Forth, refl, a, refl)
one_other (a ∷ b ∷ []) (suc (suc k)) end two e = absurd cc
one_other (a ∷ b ∷ c ∷ more) at end two e = absurd (omega (arith, two))

pub pair : (links : List PlainLink) (l : PlainLink) (end : End) → (j : IsJoint links l end) → l.hub ≡ false → IsPair l j.at
pair links l end j is = let one = one_other l.ends j.at end (j.shape.pair is) j.on in record { way = one.0; to = one.1; beyond = one.2; from = one.3 }

ways_apart : (way : Way) → ways.number way ≢ ways.number (ways.other way)
ways_apart Forth e = omega (arith, e)
ways_apart Back e = omega (arith, e)

-- ---- its entries

-- the entries of an interface, as they are read for its transmissions
is_alike : (node number : ℕ) (w : Who) → is_iface node number w ≡ is_who (who.Iface node number) w
is_alike node number (who.Iface n k) = refl
is_alike node number (who.Router _) = refl
is_alike node number (who.Bridge _) = refl
is_alike node number (who.App _ _) = refl
is_alike node number (who.Link _) = refl

pub entries_alike : (node number : ℕ) (parties : List PlainPartyLog) → iface_entries parties node number ≡ flat_map (λ party. if is_who (who.Iface node number) party.who then party.entries else []) parties
entries_alike node number [] = refl
entries_alike node number (party ∷ parties) = λ i. (if is_alike node number party.who i then party.entries else []) ++ entries_alike node number parties i

-- the run of an interface, where it has entries
pub record IsIfaceRun (scene : PlainScene) (r : PlainRecord) (node number : ℕ) : Type 0 where
  pub link : PlainLink
  pub on : slice_get (links_at node scene.links) number ≡ Some link
  pub heeds : Option ℕ
  pub of_node : (n : PlainNode) → slice_get scene.nodes node ≡ Some n → heeds ≡ heeded n.addr link
  pub run : IsRun party_steps 0 (an_iface (iface_opening node number link.kind link.mtu heeds)) (entries_of r (who.Iface node number))

pub iface_run : (scene : PlainScene) (r : PlainRecord) (node number : ℕ) → Logged (IsOf scene) (who.Iface node number) r.parties → IsIfaceRun scene r node number
iface_run scene r node number log =
    let mine : IsIfaceAt scene.nodes scene.links node number log.opening.party = subst (λ w. IsOwner scene.nodes scene.links w log.opening.party) log.name log.holds in
    let heeds : Option ℕ = heeded mine.node.addr mine.link in
    record {
      link = mine.link;
      on = mine.on;
      heeds = heeds;
      of_node = λ n there. ap (λ (x : PlainNode). heeded x.addr mine.link) (ap (λ o. unwrap_or o n) (sym mine.there ∙ there));
      run = subst (λ es. IsRun party_steps 0 (an_iface (iface_opening node number mine.link.kind mine.link.mtu heeds)) es) (sym log.entries) (subst (λ p. IsRun party_steps 0 p log.log.entries) mine.party log.logged.run);
    }

-- whatever an interface pushed to its link has the trace of one of its transmissions
sent_all : (scene : PlainScene) (r : PlainRecord) → AreLogsOf (parties_of scene) r.parties → (node number : ℕ)
    → AllByRecursion (IsFrameOf (IsBegun node number (entries_of r (who.Iface node number)))) (puts (queue.Tx number) (entries_of r (who.Iface node number)))
sent_all scene r are node number =
    told (logged scene r (who.Iface node number) are)
  where
    told : (entries_of r (who.Iface node number) ≡ []) ⊎ Logged (IsOf scene) (who.Iface node number) r.parties
        → AllByRecursion (IsFrameOf (IsBegun node number (entries_of r (who.Iface node number)))) (puts (queue.Tx number) (entries_of r (who.Iface node number)))
    told (inl none) = subst (λ es. AllByRecursion (IsFrameOf (IsBegun node number es)) (puts (queue.Tx number) es)) (sym none) tt
    told (inr log) =
        let own : IsIfaceRun scene r node number = iface_run scene r node number log in
        transmitted_all node number own.link.kind own.link.mtu own.heeds (entries_of r (who.Iface node number)) own.run

-- ---- what came over a link

-- what came over a link that is no hub
pub came_over : (scene : PlainScene) (r : PlainRecord) (l : PlainLink) (end : End) (Q R : Frame → Type 0) → AreHome scene → AreLogsOf (parties_of scene) r.parties → AreInOrder scene r → (j : IsJoint scene.links l end) → l.hub ≡ false → (p : IsPair l j.at)
    → ((k : ℕ) (f : Frame) → slice_get (frames_popped p.way (entries_of r (who.Link j.number))) k ≡ Some f → Q f → R (damaged (fate_of (ways.number p.way) (k + 1) l.plan).flip f))
    → AllByRecursion (IsSuchFrame Q) (puts (queue.Tx p.beyond.iface) (entries_of r (who.Iface p.beyond.node p.beyond.iface))) → AllByRecursion (IsSuchFrame R) (gets (queue.Rx end.iface) (entries_of r (who.Iface end.node end.iface)))
came_over scene r l end Q R home are order j is p each all =
    let es = entries_of r (who.Link j.number) in
    through (IsSuchFrame R) r _ (end_lanes_of scene r j.number l j.at end home order j.there j.on).1
    (subst (λ k. AllByRecursion (IsSuchFrame R) (puts (queue.Rx k) es)) (sym p.to)
    (across_so Q R l.plan p.way es (are_planned scene r are j.number l p.way j.there is) each
    (through (IsSuchFrame Q) r _ (end_lanes_of scene r j.number l (ways.number p.way) p.beyond home order j.there p.from).0 all)))

-- another end of a link than the one in this place, of which this holds
pub record IsOfOther (l : PlainLink) (at : ℕ) (R : End → Type 0) : Type 0 where
  pub place : ℕ
  pub apart : place ≢ at
  pub end : End
  pub there : slice_get l.ends place ≡ Some end
  pub holds : R end

-- what came over a link or a hub: by each other end a kind of frames
module _ (scene : PlainScene) (r : PlainRecord) (l : PlainLink) (end : End) (Q R : End → Frame → Type 0) (home : AreHome scene) (are : AreLogsOf (parties_of scene) r.parties) (order : AreInOrder scene r) (j : IsJoint scene.links l end)
    (each : (from k : ℕ) (other : End) (f : Frame) → from ≢ j.at → slice_get l.ends from ≡ Some other → slice_get (hub.frames_popped from (entries_of r (who.Link j.number))) k ≡ Some f → Q other f → R other (damaged (fate_of from (k + 1) l.plan).flip f))
    (all : (from : ℕ) (other : End) → from ≢ j.at → slice_get l.ends from ≡ Some other → AllByRecursion (IsSuchFrame (Q other)) (puts (queue.Tx other.iface) (entries_of r (who.Iface other.node other.iface)))) where
  abbrev Comes : Type 0
  Comes = AllByRecursion (IsSuchFrame (λ f. IsOfOther l j.at (λ other. R other f))) (gets (queue.Rx end.iface) (entries_of r (who.Iface end.node end.iface)))

  over_link : l.hub ≡ false → Comes
  over_link is =
      let p : IsPair l j.at = pair scene.links l end j is in
      let apart : ways.number p.way ≢ j.at = λ e. ways_apart p.way (e ∙ p.to) in
      AllByRecursion-map (IsSuchFrame (R p.beyond)) (IsSuchFrame (λ f. IsOfOther l j.at (λ other. R other f))) (gets (queue.Rx end.iface) (entries_of r (who.Iface end.node end.iface)))
      (such_also (R p.beyond) (λ f. IsOfOther l j.at (λ other. R other f)) (λ f holds. record { place = ways.number p.way; apart = apart; end = p.beyond; there = p.from; holds = holds }))
      (came_over scene r l end (Q p.beyond) (R p.beyond) home are order j is p
      (λ k f there has. each (ways.number p.way) k p.beyond f apart p.from (ap (λ fs. slice_get fs k) (sym (all_popped_alike p.way (entries_of r (who.Link j.number)))) ∙ there) has)
      (all (ways.number p.way) p.beyond apart p.from))

  -- the end in a place, of which this holds
  abbrev AtPlace : (End → Frame → Type 0) → ℕ → Frame → Type 0
  AtPlace P k f = (other : End) × (slice_get l.ends k ≡ Some other) × P other f

  over_hub : l.hub ≡ true → Comes
  over_hub is =
      let es = entries_of r (who.Link j.number) in
      let low : j.at < length l.ends = slice_get_within l.ends j.at end j.on in
      AllByRecursion-map (IsSuchFrame (IsFromOther (AtPlace R) (length l.ends) j.at)) (IsSuchFrame (λ f. IsOfOther l j.at (λ other. R other f))) (gets (queue.Rx end.iface) (entries_of r (who.Iface end.node end.iface)))
      (such_also (IsFromOther (AtPlace R) (length l.ends) j.at) (λ f. IsOfOther l j.at (λ other. R other f))
      (λ f from. record { place = from.from; apart = from.apart; end = from.holds.0; there = from.holds.1; holds = from.holds.2 }))
      (through (IsSuchFrame (IsFromOther (AtPlace R) (length l.ends) j.at)) r _ (end_lanes_of scene r j.number l j.at end home order j.there j.on).1
      (spread_so (AtPlace Q) (AtPlace R) l.plan (length l.ends) j.at es (are_spread scene r are j.number l j.at j.there is low) (pops_within scene r j.number l are j.there is (omega (arith, low)))
      (λ from k f apart there has. (has.0, has.1, each from k has.0 f apart has.1 there has.2))
      (λ from inside apart.
      let other = one_at l.ends from inside in
      AllByRecursion-map (IsSuchFrame (Q other.0)) (IsSuchFrame (AtPlace Q from)) (gets (queue.Tx from) es) (such_also (Q other.0) (AtPlace Q from) (λ f has. (other.0, other.1, has)))
      (through (IsSuchFrame (Q other.0)) r _ (end_lanes_of scene r j.number l from other.0 home order j.there other.1).0 (all from other.0 apart other.1)))))

  pub came_from_others : Comes
  came_from_others =
      by l.hub refl
    where
      by : (b : Bool) → l.hub ≡ b → Comes
      by true is = over_hub is
      by false is = over_link is

-- ---- their traces

-- a trace that came over has one hop more than that of a transmission at another end
abbrev HasCome : PlainRecord → PlainLink → (at : ℕ) → Trace → Type 0
HasCome r l at t = IsOfOther l at (λ from. (u : Trace) × IsBegun from.node from.iface (entries_of r (who.Iface from.node from.iface)) u × (t ≡ arrived u))

is_sent : (scene : PlainScene) (r : PlainRecord) (l : PlainLink) (end : End) (j : IsJoint scene.links l end) (i : ItemShown) → IsPacketOf (HasCome r l j.at) i → IsSent scene r end i
is_sent scene r l end j (item.Packet mark b) come =
    let from : End = come.end in
    let begun : IsBegun from.node from.iface (entries_of r (who.Iface from.node from.iface)) come.holds.0 = come.holds.1 in
    let trace : b.trace ≡ arrived (sent_trace from.node from.iface begun.serial begun.packet.trace) = come.holds.2 ∙ ap arrived begun.trace in
    record {
      origin = record { node = from.node; iface = from.iface; serial = begun.serial };
      named = ap (λ (t : Trace). t.origin) trace;
      beyond = record { number = j.number; link = l; there = j.there; one = j.at; other = come.place; at_one = j.on; at_other = come.there; apart = λ e. come.apart (sym e) };
      sent = begun.packet;
      shown = ap (λ es. slice_get (filter_map (shown_in begun.serial) es) 0) (entries_alike from.node from.iface r.parties) ∙ begun.shown;
      tag = ap (λ (t : Trace). t.tag) trace;
      hops = ap (λ (t : Trace). t.hops) trace;
    }
is_sent scene r l end j (item.Frame _) come = come
is_sent scene r l end j (item.Note _) come = come

-- the trace of a frame that began at an end
abbrev Begun : PlainRecord → End → Frame → Type 0
Begun r from f = IsBegun from.node from.iface (entries_of r (who.Iface from.node from.iface)) f.trace

pub have_origins : (scene : PlainScene) (r : PlainRecord) → AreLinksAfter (length scene.nodes) [] scene.links → AreLogsOf (parties_of scene) r.parties → AreInOrder scene r → HaveOrigins scene r
have_origins scene r after are order end =
    told (logged scene r (who.Iface end.node end.iface) are)
  where
    told : (entries_of r (who.Iface end.node end.iface) ≡ []) ⊎ Logged (IsOf scene) (who.Iface end.node end.iface) r.parties → AllByRecursion (IsSent scene r end) (puts queue.Inbox (entries_of r (who.Iface end.node end.iface)))
    told (inl none) = subst (λ es. AllByRecursion (IsSent scene r end) (puts queue.Inbox es)) (sym none) tt
    told (inr log) =
        let own : IsIfaceRun scene r end.node end.iface = iface_run scene r end.node end.iface log in
        let l : PlainLink = own.link in
        let first : 0 + end.iface ≡ end.iface = omega arith in
        let j : IsJoint scene.links l end = subst (λ k. IsJoint scene.links l (record { node = end.node; iface = k })) first (joint (length scene.nodes) end.node scene.links [] end.iface l after own.on) in
        let got : AllByRecursion (IsSuchFrame (λ f. IsOfOther l j.at (λ from. Begun r from f))) (gets (queue.Rx end.iface) (entries_of r (who.Iface end.node end.iface))) =
        came_from_others scene r l end (Begun r) (Begun r) (home_placed scene after) are order j
        (λ at k from f apart on there begun. damaged_of (IsBegun from.node from.iface (entries_of r (who.Iface from.node from.iface))) (fate_of at (k + 1) l.plan).flip f begun) (λ at from apart on. sent_all scene r are from.node from.iface) in
        AllByRecursion-map (IsPacketOf (HasCome r l j.at)) (IsSent scene r end) (puts queue.Inbox (entries_of r (who.Iface end.node end.iface))) (is_sent scene r l end j)
        (received (HasCome r l j.at) end.node end.iface l.kind l.mtu own.heeds (entries_of r (who.Iface end.node end.iface)) own.run
        (AllByRecursion-map (IsSuchFrame (λ f. IsOfOther l j.at (λ from. Begun r from f))) (IsFrameOf (λ t. HasCome r l j.at (arrived t))) (gets (queue.Rx end.iface) (entries_of r (who.Iface end.node end.iface)))
        (such_also (λ f. IsOfOther l j.at (λ from. Begun r from f)) (λ f. HasCome r l j.at (arrived f.trace))
        (λ f come. record { place = come.place; apart = come.apart; end = come.end; there = come.there; holds = (f.trace, come.holds, refl) })) got))

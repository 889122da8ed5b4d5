-- Each number of each node is held at the end by just one place, once.
use Rattle.std.proofs.Common.{◌≡◌, ℕ, zero, suc, ◌+◌, ◌<◌, ◌≤◌, Some, List, [], ◌∷◌, ◌++◌, length, map, slice_get, refl, sym, ap, ◌∙◌, arith}
use Rattle.std.specs.List.{AllByRecursion, flat_map, range_with_len}
use Rattle.std.proofs.lemmas.Grind.{flat_map-append}
use Rattle.std.proofs.lemmas.List.Sums.{count_by-le-length, length-filter}
use Rattle.csp_conserved.proofs.Bare.{IsBareAt, bare_at, may_in}
use Rattle.csp_conserved.proofs.Frames.{iface_gets_bare, tx_bare}
use Rattle.csp_prefix.proofs.Public.{each_both, app_lanes_there, out_lane_there}
use Rattle.csp_conserved.proofs.Homes.{AsksIn}
use Rattle.csp_conserved.proofs.Hubs.{hub_asks}
use Rattle.csp_conserved.proofs.Left.{left_there, pool_there}
use Rattle.csp_conserved.proofs.Mail.{mail_balanced}
use Rattle.csp_conserved.proofs.Queues.{PopsIn, among, among_more, app_gets, app_puts, got_in, hub_gets, hub_puts, iface_gets, iface_puts, none_among, pops_in, put_in}
use Rattle.csp_conserved.proofs.Regrouped.{all_counted, held_balanced, here, regrouped}
use Rattle.csp_conserved.proofs.Sums.{over, over_both, over_none, over_same}
use Rattle.csp_conserved.proofs.Turns.{all_got, all_put, got_numbers, put_numbers}
use Rattle.csp_conserved.specs.Flow.{IsFlow, numbers_there}
use Rattle.csp_conserved.specs.Kept.{KeepNumbers}
use Rattle.csp_consistent.proofs.Public.{uses, are_owners}
use Rattle.csp_consistent.specs.Inboxes.{AreInboxesInOrder}
use Rattle.csp_consistent.specs.Lanes.{AreInOrder, IsInOrder}
use Rattle.csp_consistent.specs.Pools.{AreNumbersKept, left_held, parties_held, pools_held}
use Rattle.csp_consistent.specs.Queues.{MayAsk}
use Rattle.csp_consistent.specs.Reading.{entries_of, gets, left_in, puts}
use Rattle.csp_consistent.specs.Runs.{AreLogsOf}
use Rattle.csp_deck.proofs.Public.{times-append}
use Rattle.csp_deck.specs.Step.{times}
use Rattle.csp_log.specs.declared.entry.Entry.{Entry}
use Rattle.csp_log.specs.declared.places.QueueId.{QueueId}
use Rattle.csp_log.specs.declared.places.QueueId.TheVariants as queue
use Rattle.csp_log.specs.declared.places.TheConstants.{UNMARKED}
use Rattle.csp_party.specs.Any.{holds}
use Rattle.csp_record.specs.Record.{PlainRecord}
use Rattle.csp_log.specs.declared.who.Who.{Who}
use Rattle.csp_log.specs.declared.who.Who.TheVariants as who
use Rattle.csp_scene.specs.Kept.{AreLinksAfter}
use Rattle.csp_scene.specs.Links.{links_at, touches}
use Rattle.csp_scene.specs.Ranges.{IsScene}
use Rattle.csp_scene.specs.Scene.{PlainNode, PlainScene}
use Rattle.csp_topology.specs.Lanes.{PlainLane, leader_of, out_lane}
use Rattle.csp_topology.specs.Parties.{parties_of}

get_there : {X : Type 0} (xs : List X) (k : ℕ) → k < length xs → (x : X) × (slice_get xs k ≡ Some x)
get_there [] k low = absurd (omega (arith, low))
get_there (x ∷ xs) zero low = (x, refl)
get_there (x ∷ xs) (suc k) low = get_there xs k (omega (arith, low))

-- of a lane: what came and what was left is what was put
lane_balanced : (k : ℕ) (r : PlainRecord) (l : PlainLane) → IsInOrder r l
    → put_in k (entries_of r l.from.who) l.from.queue ≡ got_in k (entries_of r l.to.who) l.to.queue + among k (left_in r l.node l.queue 0)
lane_balanced k r l order = ap (among k) (sym order.kept.order) ∙ among_more k (gets l.to.queue (entries_of r l.to.who)) (left_in r l.node l.queue 0)

module _ (scene : PlainScene) (r : PlainRecord) (is : IsScene scene) (after : AreLinksAfter (length scene.nodes) [] scene.links) (are : AreLogsOf (parties_of scene) r.parties) (order : AreInOrder scene r)
    (node : ℕ) (n : PlainNode) (there : slice_get scene.nodes node ≡ Some n) (k : ℕ) where
  abbrev ifaces : ℕ
  ifaces = length (links_at node scene.links)

  abbrev apps : ℕ
  apps = length n.apps

  abbrev hub : Who
  hub = leader_of node n.addr

  abbrev of_hub : List Entry
  of_hub = entries_of r hub

  abbrev of_iface : ℕ → List Entry
  of_iface j = entries_of r (who.Iface node j)

  abbrev of_app : ℕ → List Entry
  of_app j = entries_of r (who.App node j)

  -- what was left in a queue
  abbrev left : QueueId → ℕ → ℕ
  left q prio = among k (left_in r node q prio)

  asks : AllByRecursion (λ e. AsksIn ifaces apps e.op) of_hub
  asks = hub_asks scene r node n is are there

  may : (w : Who) → AllByRecursion (λ e. MayAsk w e.op) (entries_of r w)
  may w = may_in w r.parties (uses scene r.parties are)

  pops : AllByRecursion (λ e. PopsIn k ifaces apps e.op) of_hub
  pops =
      each_both (λ (e : Entry). MayAsk hub e.op) (λ e. AsksIn ifaces apps e.op) (λ e. PopsIn k ifaces apps e.op) of_hub
      (λ e m a. pops_in k ifaces apps node n.addr e.op m a) (may hub) asks

  -- all that the parties of the node put
  abbrev all_puts : ℕ
  all_puts = times k (flat_map (here (λ (e : Entry). put_numbers e.op e.answer) node) r.parties)

  puts_parted : all_puts ≡ (put_in k of_hub queue.Inbox + over ifaces (λ j. put_in k of_hub (queue.Out j)) + over apps (λ j. put_in k of_hub (queue.Down j)))
      + over ifaces (λ j. put_in k (of_iface j) queue.Inbox) + over apps (λ j. put_in k (of_app j) (queue.Up j))
  puts_parted =
      omega (
        arith,
        regrouped k node ifaces apps hub (λ (e : Entry). put_numbers e.op e.answer) r.parties (all_counted scene node n (parties_of scene) r.parties there (are_owners scene) are),
        hub_puts k ifaces apps of_hub asks,
        over_same ifaces (λ j. times k (all_put (of_iface j))) (λ j. put_in k (of_iface j) queue.Inbox) (λ j low. omega (arith, iface_puts k node j (of_iface j) (may (who.Iface node j)), none_among k (puts (queue.Tx j) (of_iface j)) (tx_bare scene r are node j j))),
        over_same apps (λ j. times k (all_put (of_app j))) (λ j. put_in k (of_app j) (queue.Up j)) (λ j low. app_puts k node j (of_app j) (may (who.App node j))),
      )

  -- and all that they got
  abbrev all_gots : ℕ
  all_gots = times k (flat_map (here (λ (e : Entry). got_numbers e.op e.answer) node) r.parties)

  gots_parted : all_gots ≡ (got_in k of_hub queue.Inbox + over apps (λ j. got_in k of_hub (queue.Up j))) + over ifaces (λ j. got_in k (of_iface j) (queue.Out j)) + over apps (λ j. got_in k (of_app j) (queue.Down j))
  gots_parted =
      omega (
        arith,
        regrouped k node ifaces apps hub (λ (e : Entry). got_numbers e.op e.answer) r.parties (all_counted scene node n (parties_of scene) r.parties there (are_owners scene) are),
        hub_gets k ifaces apps of_hub pops,
        over_same ifaces (λ j. times k (all_got (of_iface j))) (λ j. got_in k (of_iface j) (queue.Out j))
            (λ j low. let l = get_there (links_at node scene.links) j low in omega (arith, iface_gets k node j (of_iface j) (may (who.Iface node j)), none_among k (gets (queue.Rx j) (of_iface j)) (iface_gets_bare scene r are node j l.0 after order l.1))),
        over_same apps (λ j. times k (all_got (of_app j))) (λ j. got_in k (of_app j) (queue.Down j)) (λ j low. app_gets k node j (of_app j) (may (who.App node j))),
      )

  -- the lanes of the node
  outs : over ifaces (λ j. put_in k of_hub (queue.Out j)) ≡ over ifaces (λ j. got_in k (of_iface j) (queue.Out j)) + over ifaces (λ j. left (queue.Out j) 0)
  outs =
      over_both ifaces (λ j. put_in k of_hub (queue.Out j)) (λ j. got_in k (of_iface j) (queue.Out j)) (λ j. left (queue.Out j) 0)
      (λ j low. lane_balanced k r (out_lane node hub j) (out_lane_there scene r node j n order there low))

  ups : over apps (λ j. put_in k (of_app j) (queue.Up j)) ≡ over apps (λ j. got_in k of_hub (queue.Up j)) + over apps (λ j. left (queue.Up j) 0)
  ups =
      over_both apps (λ j. put_in k (of_app j) (queue.Up j)) (λ j. got_in k of_hub (queue.Up j)) (λ j. left (queue.Up j) 0)
      (λ j low. lane_balanced k r _ (app_lanes_there scene r node j n order there low).0)

  downs : over apps (λ j. put_in k of_hub (queue.Down j)) ≡ over apps (λ j. got_in k (of_app j) (queue.Down j)) + over apps (λ j. left (queue.Down j) 0)
  downs =
      over_both apps (λ j. put_in k of_hub (queue.Down j)) (λ j. got_in k (of_app j) (queue.Down j)) (λ j. left (queue.Down j) 0)
      (λ j low. lane_balanced k r _ (app_lanes_there scene r node j n order there low).1)

  bare : (j : ℕ) → j < ifaces → IsBareAt r node j
  bare j low = let l = get_there (links_at node scene.links) j low in bare_at scene r are node j l.0 after order l.1

  rxs : over ifaces (λ j. left (queue.Rx j) 0) ≡ 0
  rxs = over_none ifaces (λ j. left (queue.Rx j) 0) (λ j low. none_among k (left_in r node (queue.Rx j) 0) (bare j low).rx)

  txs : over ifaces (λ j. left (queue.Tx j) 0) ≡ 0
  txs = over_none ifaces (λ j. left (queue.Tx j) 0) (λ j low. none_among k (left_in r node (queue.Tx j) 0) (bare j low).tx)

  few : ifaces ≤ UNMARKED
  few = let it = length-filter (touches node) scene.links in let le = count_by-le-length (touches node) scene.links in omega (arith, it, le, is.few_links)

  node_flows : AreInboxesInOrder scene r → AreNumbersKept scene r → KeepNumbers (parties_of scene) r.parties → AllByRecursion (λ o. holds o.party ≡ []) (parties_of scene)
      → times k (flat_map (numbers_there node) r.held) ≡ times k (range_with_len 0 n.buffers)
  node_flows inboxes kept keep none =
      let queued = map left_held r.left in
      let parties = parties_held (parties_of scene) r.parties in
      let pools = pools_held 0 kept.in_pools in
      omega (
        arith,
        ap (λ hs. times k (flat_map (numbers_there node) hs)) kept.held,
        ap (times k) (flat_map-append (numbers_there node) queued (parties ++ pools)),
        times-append k (flat_map (numbers_there node) queued) (flat_map (numbers_there node) (parties ++ pools)),
        ap (times k) (flat_map-append (numbers_there node) parties pools),
        times-append k (flat_map (numbers_there node) parties) (flat_map (numbers_there node) pools),
        left_there k scene r node n there kept.left,
        pool_there k node 0 node kept.in_pools (omega arith),
        held_balanced k node (parties_of scene) r.parties are keep none,
        kept.pools node n there k,
        puts_parted,
        gots_parted,
        outs,
        ups,
        downs,
        rxs,
        txs,
        mail_balanced k scene r node hub are (inboxes node n there) few,
      )

pub flows : (scene : PlainScene) (r : PlainRecord) → IsScene scene → AreLinksAfter (length scene.nodes) [] scene.links → AreLogsOf (parties_of scene) r.parties → AreInOrder scene r
    → AreInboxesInOrder scene r → AreNumbersKept scene r → KeepNumbers (parties_of scene) r.parties → AllByRecursion (λ o. holds o.party ≡ []) (parties_of scene) → IsFlow scene r
flows scene r is after are order inboxes kept keep none node n there k = node_flows scene r is after are order node n there k inboxes kept keep none

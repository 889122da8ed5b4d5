-- The connections that the lines of a report tell of are those of the record.
use Rattle.std.proofs.Common.{◌≡◌, ℕ, zero, suc, ◌+◌, ◌/◌, ◌%◌, Bool, true, false, cond, ◌&&◌, not, eqb, Option, None, Some, List, [], ◌∷◌, ◌++◌, map, refl, ap, subst, ◌∙◌, append-nil, arith}
use Rattle.std.specs.Prelude.{⊤, codes, slice_get, slice_index, IsTrue}
use Rattle.std.specs.List.{AllByRecursion, flat_map, enumerate_from, list_all}
use Rattle.std.specs.Fmt.{decimal}
use Rattle.std.specs.Option.{option_map}
use Rattle.std.specs.Str.{bytes_eq}
use Rattle.std.proofs.lemmas.Slice.Eq.{bytes_eq-Decides}
use Rattle.hex.specs.Hex.{lower_digits, encode_with, encode_lower}
use Rattle.csp_text.specs.Names.{is_name}
use Rattle.csp_log.specs.PlainLog.{all_events}
use Rattle.csp_log.specs.declared.entry.Entry.{Entry}
use Rattle.csp_log.specs.declared.event.Event.{Event}
use Rattle.csp_log.specs.declared.event.Event.TheVariants as event
use Rattle.csp_record.specs.Connections.{openings}
use Rattle.csp_record.specs.Record.{PlainPartyLog, PlainRecord}
use Rattle.csp_record.specs.declared.connections.Opening.{Opening}
use Rattle.csp_scene.specs.Links.{links_at}
use Rattle.csp_scene.specs.Ranges.{IsNode, IsApp}
use Rattle.csp_scene.specs.Scene.{PlainNode, PlainApp, PlainLink}
use Rattle.csp_report.specs.Conns.{peer_flow, kind_words, opening_line, bytes_word, payload_lines, Traffics, opening_lines, slot_lines, all_slots, traffic_of, conn_lines}
use Rattle.csp_report.specs.Events.{asked_lines, entry_lines, event_lines}
use Rattle.csp_report.specs.Ifaces.{iface_line}
use Rattle.csp_sfp.specs.declared.errors.SfpError.{SfpError}
use Rattle.csp_report.specs.declared.blobs.Blob.{Blob}
use Rattle.csp_report.specs.Blobs.{blobs_on, refusals_on, blob_line, blob_lines, badblob_line, collected_lines}
use Rattle.csp_report.specs.Lines.{Line, conn_words}
use Rattle.csp_report.specs.Parties.{party_at, entries_at}
use Rattle.csp_report.specs.ReliablePrefix.{is_conn, is_on, text_in, ToldConnection}
use Rattle.csp_report.specs.Report.{title_line, end_line, node_line, router_words, router_line, node_iface_lines, node_event_lines, state_line, app_lines, node_app_lines, count_lines, report_lines}
use Rattle.csp_log.specs.declared.who.Who.TheVariants as who
use Rattle.csp_report.proofs.Cutting.{recut, recut_is}
use Rattle.csp_report.proofs.Feeds.{Lacks, Lacks-decimal, Lacks-name, all_joined}
use Rattle.csp_report.proofs.Telling.{IsOther, IsBlock, Tells, told_block, tells_none, tells_both, tells_nothing, tells_each, tells_block}

-- ---- words without spaces

opposite : (t : Bool) → not t ≡ true → t ≡ false
opposite true e = cc
opposite false e = refl

both : (a b : Bool) → (a && b) ≡ true → (a ≡ true) × (b ≡ true)
both true true e = (refl, refl)
both true false e = cc
both false b e = cc

plain : (bytes : List ℕ) → list_all (λ b. not (eqb b 32)) bytes ≡ true → Lacks 32 bytes
plain [] all = tt
plain (b ∷ bytes) all = let parts = both (not (eqb b 32)) (list_all (λ b. not (eqb b 32)) bytes) all in (opposite (eqb b 32) parts.0, plain bytes parts.1)

digit_lacks : (digits : List ℕ) → Lacks 32 digits → (i : ℕ) → eqb (slice_index digits i) 32 ≡ false
digit_lacks [] all i = refl
digit_lacks (d ∷ digits) all zero = all.0
digit_lacks (d ∷ digits) all (suc i) = digit_lacks digits all.1 i

hex_lacks : (bytes : List ℕ) → Lacks 32 (encode_lower bytes)
unfolding encode_with
hex_lacks [] = tt
hex_lacks (b ∷ bytes) = (digit_lacks lower_digits (plain lower_digits refl) (b / 16), (digit_lacks lower_digits (plain lower_digits refl) (b % 16), hex_lacks bytes))

bytes_lack : (payload : List ℕ) → Lacks 32 (bytes_word payload)
bytes_lack [] = plain (codes "-") refl
bytes_lack (byte ∷ bytes) = hex_lacks (byte ∷ bytes)

number : (n : ℕ) → Lacks 32 (decimal n)
number n = Lacks-decimal 32 (omega arith) n

named : (name : List ℕ) → IsTrue (is_name name) → Lacks 32 name
named name is = Lacks-name 32 refl name is

abbrev FlowLacks : Option (List ℕ × ℕ) → Type 0
FlowLacks None = ⊤
FlowLacks (Some flow) = Lacks 32 flow.0

node_lacks : (nodes : List PlainNode) → AllByRecursion IsNode nodes → (i nth : ℕ) → FlowLacks (option_map (λ node. (node.name, nth)) (slice_get nodes i))
node_lacks [] all i nth = tt
node_lacks (n ∷ nodes) all zero nth = named n.name all.0.name
node_lacks (n ∷ nodes) all (suc i) nth = node_lacks nodes all.1 i nth

peer_lacks : (nodes : List PlainNode) → AllByRecursion IsNode nodes → (peer : Option (ℕ × ℕ)) → FlowLacks (peer_flow nodes peer)
peer_lacks nodes all None = tt
peer_lacks nodes all (Some flow) = node_lacks nodes all flow.0 flow.1

kind_lacks : (nth : Option ℕ) (flow : Option (List ℕ × ℕ)) → FlowLacks flow → AllByRecursion (Lacks 32) (kind_words nth flow)
kind_lacks None flow lacks = (plain (codes "plain") refl, tt)
kind_lacks (Some nth) None lacks = (plain (codes "rdp") refl, (number nth, (plain (codes "peer") refl, (plain (codes "none") refl, tt))))
kind_lacks (Some nth) (Some flow) lacks = (plain (codes "rdp") refl, (number nth, (plain (codes "peer") refl, (lacks, (number flow.1, tt)))))

-- ---- what a record tells of connections

-- of one that became open
abbrev pub told_of : List PlainNode → List ℕ → List ℕ → Traffics → Opening → ToldConnection
told_of nodes node app traffic o = record {
  line = opening_line nodes node app o;
  sent = map bytes_word (traffic.sent_on o.slot o.ordinal);
  took = map bytes_word (traffic.took_on o.slot o.ordinal);
}

abbrev pub slot_told : List PlainNode → List ℕ → List ℕ → Traffics → List Opening → ℕ → List ToldConnection
slot_told nodes node app traffic opened slot = flat_map (λ o. cond (eqb o.slot slot) (told_of nodes node app traffic o ∷ []) []) opened

abbrev pub conns_told : List PlainNode → List ℕ → List ℕ → ℕ → List Entry → List Entry → List ToldConnection
conns_told nodes node app number' router own = flat_map (slot_told nodes node app (traffic_of number' router own) (openings number' router)) all_slots

abbrev pub app_told : List PlainNode → List ℕ → List Entry → List ℕ → ℕ → Option PlainPartyLog → List ToldConnection
app_told nodes node router app number' None = []
app_told nodes node router app number' (Some party) = conns_told nodes node app number' router party.entries

abbrev pub node_told : List PlainNode → List PlainPartyLog → ℕ → List ℕ → List PlainApp → List ToldConnection
node_told nodes parties place node apps =
    flat_map (λ app. app_told nodes node (entries_at parties (who.Router place)) app.1.name app.0 (party_at parties (who.App place app.0))) (enumerate_from 0 apps)

abbrev pub report_told : List PlainNode → List PlainPartyLog → List ToldConnection
report_told nodes parties = flat_map (λ node. node_told nodes parties node.0 node.1.name node.1.apps) (enumerate_from 0 nodes)

-- ---- the lines of a connection

same : (word : List ℕ) → bytes_eq word word ≡ true
same word = (bytes_eq-Decides word word).1 refl

four : (a b c d : Bool) → a ≡ true → b ≡ true → c ≡ true → d ≡ true → (a && (b && (c && (d && true)))) ≡ true
four true true true true e f g h = refl
four true true true false e f g h = cc
four true true false d e f g h = cc
four true false c d e f g h = cc
four false b c d e f g h = cc

module _ (nodes : List PlainNode) (nodes_are : AllByRecursion IsNode nodes) (node app : List ℕ) (node_is : IsTrue (is_name node)) (app_is : IsTrue (is_name app)) where
  -- the line of a payload with its number
  abbrev line_with : List ℕ → ℕ → ℕ → ℕ → List ℕ → Line
  line_with word slot ordinal k payload = conn_words word node app slot ordinal ++ decimal (k + 1) ∷ bytes_word payload ∷ []

  abbrev lines_with : List ℕ → ℕ → ℕ → ℕ → List (List ℕ) → List Line
  lines_with word slot ordinal k payloads = map (λ payload. line_with word slot ordinal payload.0 payload.1) (enumerate_from k payloads)

  line_recut : (word : List ℕ) → Lacks 32 word → (slot ordinal k : ℕ) (payload : List ℕ) → recut (line_with word slot ordinal k payload) ≡ line_with word slot ordinal k payload
  line_recut word lacks slot ordinal k payload =
      recut_is word (node ∷ app ∷ decimal slot ∷ decimal ordinal ∷ decimal (k + 1) ∷ bytes_word payload ∷ [])
      (lacks, (named node node_is, (named app app_is, (number slot, (number ordinal, (number (k + 1), (bytes_lack payload, tt)))))))

  lines_recut : (word : List ℕ) → Lacks 32 word → (slot ordinal k : ℕ) (payloads : List (List ℕ)) → map recut (lines_with word slot ordinal k payloads) ≡ lines_with word slot ordinal k payloads
  lines_recut word lacks slot ordinal k [] = refl
  lines_recut word lacks slot ordinal k (payload ∷ payloads) =
      ap (λ (l : Line). l ∷ map recut (lines_with word slot ordinal (k + 1) payloads)) (line_recut word lacks slot ordinal k payload)
      ∙ ap (λ (ls : List Line). line_with word slot ordinal k payload ∷ ls) (lines_recut word lacks slot ordinal (k + 1) payloads)

  texts_are : (word : List ℕ) (slot ordinal k : ℕ) (payloads : List (List ℕ)) → map text_in (lines_with word slot ordinal k payloads) ≡ map bytes_word payloads
  texts_are word slot ordinal k [] = refl
  texts_are word slot ordinal k (payload ∷ payloads) = ap (λ (ts : List (List ℕ)). bytes_word payload ∷ ts) (texts_are word slot ordinal (k + 1) payloads)

  each_line : (P : Line → Type 0) (word : List ℕ) (slot ordinal : ℕ) → ((k : ℕ) (payload : List ℕ) → P (line_with word slot ordinal k payload)) → (k : ℕ) (payloads : List (List ℕ)) → AllByRecursion P (lines_with word slot ordinal k payloads)
  each_line P word slot ordinal at k [] = tt
  each_line P word slot ordinal at k (payload ∷ payloads) = (at k payload, each_line P word slot ordinal at (k + 1) payloads)

  on_it : (slot ordinal : ℕ) → (bytes_eq node node && (bytes_eq app app && (bytes_eq (decimal slot) (decimal slot) && (bytes_eq (decimal ordinal) (decimal ordinal) && true)))) ≡ true
  on_it slot ordinal =
      four (bytes_eq node node) (bytes_eq app app) (bytes_eq (decimal slot) (decimal slot)) (bytes_eq (decimal ordinal) (decimal ordinal))
      (same node) (same app) (same (decimal slot)) (same (decimal ordinal))

  -- the lines of blobs tell of no payload
  blobs_other : (slot ordinal k : ℕ) (blobs : List Blob) → AllByRecursion (λ l. IsOther (recut l)) (map (λ blob. blob_line node app slot ordinal (blob.0 + 1) blob.1) (enumerate_from k blobs))
  blobs_other slot ordinal k [] = tt
  blobs_other slot ordinal k (blob ∷ blobs) = (record { no_conn = refl; breaks = record { no_sent = refl; no_took = refl } }, blobs_other slot ordinal (k + 1) blobs)

  refusals_other : (slot ordinal : ℕ) (reasons : List SfpError) → AllByRecursion (λ l. IsOther (recut l)) (map (badblob_line node app slot ordinal) reasons)
  refusals_other slot ordinal [] = tt
  refusals_other slot ordinal (reason ∷ reasons) = (record { no_conn = refl; breaks = record { no_sent = refl; no_took = refl } }, refusals_other slot ordinal reasons)

  collected_other : (slot ordinal : ℕ) (events : List Event) → AllByRecursion (λ l. IsOther (recut l)) (collected_lines node app slot ordinal events)
  collected_other slot ordinal events =
      all_joined (λ l. IsOther (recut l)) (blob_lines node app slot ordinal (blobs_on slot ordinal events)) _ (blobs_other slot ordinal 0 (blobs_on slot ordinal events)) (refusals_other slot ordinal (refusals_on slot ordinal events))

  module _ (traffic : Traffics) where
    block : (o : Opening)
        → IsBlock (opening_line nodes node app o) (payload_lines (codes "sent") node app o.slot o.ordinal (traffic.sent_on o.slot o.ordinal)) (payload_lines (codes "took") node app o.slot o.ordinal (traffic.took_on o.slot o.ordinal))
    block o = record {
      own =
          recut_is (codes "conn") (node ∷ app ∷ decimal o.slot ∷ decimal o.ordinal ∷ kind_words o.nth (peer_flow nodes o.peer))
          (plain (codes "conn") refl, (named node node_is, (named app app_is, (number o.slot, (number o.ordinal, kind_lacks o.nth (peer_flow nodes o.peer) (peer_lacks nodes nodes_are o.peer))))));
      is_own = refl;
      breaks = record { no_sent = refl; no_took = refl };
      sents_same = lines_recut (codes "sent") (plain (codes "sent") refl) o.slot o.ordinal 0 (traffic.sent_on o.slot o.ordinal);
      tooks_same = lines_recut (codes "took") (plain (codes "took") refl) o.slot o.ordinal 0 (traffic.took_on o.slot o.ordinal);
      sents_told =
          each_line (λ l. (is_conn l ≡ false) × (is_on (codes "sent") (opening_line nodes node app o) l ≡ true) × (is_on (codes "took") (opening_line nodes node app o) l ≡ false)) (codes "sent") o.slot o.ordinal
          (λ k payload. (refl, on_it o.slot o.ordinal, refl)) 0 (traffic.sent_on o.slot o.ordinal);
      tooks_told =
          each_line (λ l. (is_conn l ≡ false) × (is_on (codes "sent") (opening_line nodes node app o) l ≡ false) × (is_on (codes "took") (opening_line nodes node app o) l ≡ true)) (codes "took") o.slot o.ordinal
          (λ k payload. (refl, refl, on_it o.slot o.ordinal)) 0 (traffic.took_on o.slot o.ordinal);
    }

    texts_told : (o : Opening)
        → told_block (opening_line nodes node app o) (payload_lines (codes "sent") node app o.slot o.ordinal (traffic.sent_on o.slot o.ordinal)) (payload_lines (codes "took") node app o.slot o.ordinal (traffic.took_on o.slot o.ordinal))
        ≡ told_of nodes node app traffic o
    texts_told o =
        ap (λ (ts : List (List ℕ)). record { line = opening_line nodes node app o; sent = ts; took = map text_in (payload_lines (codes "took") node app o.slot o.ordinal (traffic.took_on o.slot o.ordinal)) })
        (texts_are (codes "sent") o.slot o.ordinal 0 (traffic.sent_on o.slot o.ordinal))
        ∙ ap (λ (ts : List (List ℕ)). record { line = opening_line nodes node app o; sent = map bytes_word (traffic.sent_on o.slot o.ordinal); took = ts }) (texts_are (codes "took") o.slot o.ordinal 0 (traffic.took_on o.slot o.ordinal))

    -- its line, and those of what was sent and taken on it
    abbrev traffic_lines : Opening → List Line
    traffic_lines o =
        opening_line nodes node app o
        ∷ payload_lines (codes "sent") node app o.slot o.ordinal (traffic.sent_on o.slot o.ordinal)
        ++ payload_lines (codes "took") node app o.slot o.ordinal (traffic.took_on o.slot o.ordinal)

    traffic_tells : (o : Opening) → Tells (traffic_lines o) (told_of nodes node app traffic o ∷ [])
    traffic_tells o =
        subst (λ (x : ToldConnection). Tells (traffic_lines o) (x ∷ [])) (texts_told o)
        (tells_block (opening_line nodes node app o) (payload_lines (codes "sent") node app o.slot o.ordinal (traffic.sent_on o.slot o.ordinal)) (payload_lines (codes "took") node app o.slot o.ordinal (traffic.took_on o.slot o.ordinal)) (block o))

    opening_tells : (o : Opening) → Tells (opening_lines nodes node app traffic o) (told_of nodes node app traffic o ∷ [])
    opening_tells o =
        tells_both (traffic_lines o) (collected_lines node app o.slot o.ordinal traffic.told) (told_of nodes node app traffic o ∷ []) []
        (traffic_tells o) (tells_nothing (collected_lines node app o.slot o.ordinal traffic.told) (collected_other o.slot o.ordinal traffic.told))

    tells_if : (t : Bool) (lines : List Line) (told : List ToldConnection) → Tells lines told → Tells (cond t lines []) (cond t told [])
    tells_if true lines told tells = tells
    tells_if false lines told tells = tells_none

    slot_tells : (opened : List Opening) (slot : ℕ) → Tells (slot_lines nodes node app traffic opened slot) (slot_told nodes node app traffic opened slot)
    slot_tells [] slot = tells_none
    slot_tells (o ∷ opened) slot =
        tells_both (cond (eqb o.slot slot) (opening_lines nodes node app traffic o) []) (slot_lines nodes node app traffic opened slot) (cond (eqb o.slot slot) (told_of nodes node app traffic o ∷ []) []) (slot_told nodes node app traffic opened slot)
        (tells_if (eqb o.slot slot) (opening_lines nodes node app traffic o) (told_of nodes node app traffic o ∷ []) (opening_tells o))
        (slot_tells opened slot)

    slots_tell : (opened : List Opening) (slots : List ℕ) → Tells (flat_map (slot_lines nodes node app traffic opened) slots) (flat_map (slot_told nodes node app traffic opened) slots)
    slots_tell opened [] = tells_none
    slots_tell opened (slot ∷ slots) =
        tells_both (slot_lines nodes node app traffic opened slot) (flat_map (slot_lines nodes node app traffic opened) slots) (slot_told nodes node app traffic opened slot) (flat_map (slot_told nodes node app traffic opened) slots)
        (slot_tells opened slot) (slots_tell opened slots)

  -- ---- the lines of an application

  event_other : (e : Event) → AllByRecursion (λ l. IsOther (recut l)) (event_lines node app e)
  event_other (event.TookEmpty step) = (record { no_conn = refl; breaks = record { no_sent = refl; no_took = refl } }, tt)
  event_other (event.Refused step reason) = (record { no_conn = refl; breaks = record { no_sent = refl; no_took = refl } }, tt)
  event_other (event.GaveUp step) = (record { no_conn = refl; breaks = record { no_sent = refl; no_took = refl } }, tt)
  event_other (event.SlotDown step) = (record { no_conn = refl; breaks = record { no_sent = refl; no_took = refl } }, tt)
  event_other (event.Sent slot ordinal) = tt
  event_other (event.Took slot ordinal) = tt
  event_other (event.BlobTook slot ordinal len crc) = tt
  event_other (event.BlobRefused slot ordinal reason) = tt
  event_other (event.Discarded reason) = tt
  event_other (event.Handed nth peer tag cur una) = tt
  event_other (event.Opened number' slot nth peer) = tt
  event_other (event.Transmitted serial) = tt
  event_other (event.Bad count) = tt
  event_other event.Starved = tt
  event_other event.InboxFull = tt
  event_other event.TooBig = tt
  event_other event.Reboot = tt
  event_other event.Shutdown = tt

  events_other : (events : List Event) → AllByRecursion (λ l. IsOther (recut l)) (flat_map (event_lines node app) events)
  events_other [] = tt
  events_other (e ∷ events) = all_joined (λ l. IsOther (recut l)) (event_lines node app e) (flat_map (event_lines node app) events) (event_other e) (events_other events)

  app_tells : (router : List Entry) (number' : ℕ) (party : Option PlainPartyLog) → Tells (app_lines nodes node router app number' party) (app_told nodes node router app number' party)
  app_tells router number' None = tells_none
  app_tells router number' (Some party) =
      tells_both (state_line node app party.step ∷ flat_map (event_lines node app) (all_events party.entries)) (conn_lines nodes node app number' router party.entries) [] (conns_told nodes node app number' router party.entries)
      (tells_nothing (state_line node app party.step ∷ flat_map (event_lines node app) (all_events party.entries)) (record { no_conn = refl; breaks = record { no_sent = refl; no_took = refl } }, events_other (all_events party.entries)))
      (slots_tell (traffic_of number' router party.entries) (openings number' router) all_slots)

-- ---- and of the nodes

each_counted : {X : Type 0} (P : X → Type 0) (k : ℕ) (xs : List X) → AllByRecursion P xs → AllByRecursion (λ (p : ℕ × X). P p.1) (enumerate_from k xs)
each_counted P k [] all = tt
each_counted P k (x ∷ xs) all = (all.0, each_counted P (k + 1) xs all.1)

each_map : {X Y : Type 0} (P : Y → Type 0) (f : X → Y) → ((x : X) → P (f x)) → (xs : List X) → AllByRecursion P (map f xs)
each_map P f at [] = tt
each_map P f at (x ∷ xs) = (at x, each_map P f at xs)

each_flat : {X Y : Type 0} (P : Y → Type 0) (f : X → List Y) → ((x : X) → AllByRecursion P (f x)) → (xs : List X) → AllByRecursion P (flat_map f xs)
each_flat P f at [] = tt
each_flat P f at (x ∷ xs) = all_joined P (f x) (flat_map f xs) (at x) (each_flat P f at xs)

apps_tell : (nodes : List PlainNode) → AllByRecursion IsNode nodes → (parties : List PlainPartyLog) (place : ℕ) (n : PlainNode) → IsNode n → Tells (node_app_lines nodes parties place n.name n.apps) (node_told nodes parties place n.name n.apps)
apps_tell nodes are parties place n is =
    tells_each (λ (p : ℕ × PlainApp). IsApp p.1) (λ app. app_lines nodes n.name (entries_at parties (who.Router place)) app.1.name app.0 (party_at parties (who.App place app.0))) (λ app. app_told nodes n.name (entries_at parties (who.Router place)) app.1.name app.0 (party_at parties (who.App place app.0)))
    (λ app app_is. app_tells nodes are n.name app.1.name is.name app_is.name (entries_at parties (who.Router place)) app.0 (party_at parties (who.App place app.0)))
    (enumerate_from 0 n.apps) (each_counted IsApp 0 n.apps is.apps)

nodes_tell : (nodes : List PlainNode) → AllByRecursion IsNode nodes → (parties : List PlainPartyLog) → Tells (flat_map (λ node. node_app_lines nodes parties node.0 node.1.name node.1.apps) (enumerate_from 0 nodes)) (report_told nodes parties)
nodes_tell nodes are parties =
    tells_each (λ (p : ℕ × PlainNode). IsNode p.1) (λ node. node_app_lines nodes parties node.0 node.1.name node.1.apps) (λ node. node_told nodes parties node.0 node.1.name node.1.apps)
    (λ node node_is. apps_tell nodes are parties node.0 node.1 node_is) (enumerate_from 0 nodes) (each_counted IsNode 0 nodes are)

abbrev IsOtherWords : Line → Type 0
IsOtherWords line = IsOther (recut line)

node_other : (run : PlainRecord) (place : ℕ) (n : PlainNode) (addr : Option ℕ) → n.addr ≡ addr → IsOtherWords (node_line run place n)
node_other run place n (Some addr) e = rw e (record { no_conn = refl; breaks = record { no_sent = refl; no_took = refl } })
node_other run place n None e = rw e (record { no_conn = refl; breaks = record { no_sent = refl; no_took = refl } })

router_other : (run : PlainRecord) (place : ℕ) (name : List ℕ) (addr : Option ℕ) → IsOtherWords (router_words run place name addr)
router_other run place name (Some addr) = record { no_conn = refl; breaks = record { no_sent = refl; no_took = refl } }
router_other run place name None = record { no_conn = refl; breaks = record { no_sent = refl; no_took = refl } }

asked_other : (node : List ℕ) (round : ℕ) (e : Event) → AllByRecursion IsOtherWords (asked_lines node round e)
asked_other node round event.Reboot = (record { no_conn = refl; breaks = record { no_sent = refl; no_took = refl } }, tt)
asked_other node round event.Shutdown = (record { no_conn = refl; breaks = record { no_sent = refl; no_took = refl } }, tt)
asked_other node round (event.TookEmpty step) = tt
asked_other node round (event.Sent slot ordinal) = tt
asked_other node round (event.Took slot ordinal) = tt
asked_other node round (event.BlobTook slot ordinal len crc) = tt
asked_other node round (event.BlobRefused slot ordinal reason) = tt
asked_other node round (event.Refused step reason) = tt
asked_other node round (event.GaveUp step) = tt
asked_other node round (event.SlotDown step) = tt
asked_other node round (event.Discarded reason) = tt
asked_other node round (event.Handed nth peer tag cur una) = tt
asked_other node round (event.Opened number' slot nth peer) = tt
asked_other node round (event.Transmitted serial) = tt
asked_other node round (event.Bad count) = tt
asked_other node round event.Starved = tt
asked_other node round event.InboxFull = tt
asked_other node round event.TooBig = tt

-- the lines before those of the applications
abbrev head_lines : List PlainNode → List PlainLink → PlainRecord → List Line
head_lines nodes links run =
    (title_line ∷ end_line run ∷ [])
    ++ map (λ node. node_line run node.0 node.1) (enumerate_from 0 nodes)
    ++ map (λ node. router_line run node.0 node.1) (enumerate_from 0 nodes)
    ++ flat_map (λ node. node_iface_lines run.parties node.0 node.1.name links) (enumerate_from 0 nodes)
    ++ flat_map (λ node. node_event_lines run.parties node.0 node.1.name) (enumerate_from 0 nodes)

end_other : (run : PlainRecord) → IsOtherWords (end_line run)
end_other run = record { no_conn = refl; breaks = record { no_sent = refl; no_took = refl } }

title_other : IsOtherWords title_line
title_other = record { no_conn = refl; breaks = record { no_sent = refl; no_took = refl } }

counts_other : (run : PlainRecord) → AllByRecursion IsOtherWords (count_lines run)
counts_other run = (record { no_conn = refl; breaks = record { no_sent = refl; no_took = refl } }, (record { no_conn = refl; breaks = record { no_sent = refl; no_took = refl } }, tt))

head_other : (nodes : List PlainNode) (links : List PlainLink) (run : PlainRecord) → AllByRecursion IsOtherWords (head_lines nodes links run)
head_other nodes links run =
    let two : List Line = title_line ∷ end_line run ∷ [] in
    let ns : List Line = map (λ node. node_line run node.0 node.1) (enumerate_from 0 nodes) in
    let rs : List Line = map (λ node. router_line run node.0 node.1) (enumerate_from 0 nodes) in
    let is : List Line = flat_map (λ node. node_iface_lines run.parties node.0 node.1.name links) (enumerate_from 0 nodes) in
    let vs : List Line = flat_map (λ node. node_event_lines run.parties node.0 node.1.name) (enumerate_from 0 nodes) in
    all_joined IsOtherWords (two ++ ns ++ rs ++ is) vs
    (all_joined IsOtherWords (two ++ ns ++ rs) is
    (all_joined IsOtherWords (two ++ ns) rs
    (all_joined IsOtherWords two ns (title_other, (end_other run, tt)) (each_map IsOtherWords (λ node. node_line run node.0 node.1) (λ node. node_other run node.0 node.1 node.1.addr refl) (enumerate_from 0 nodes)))
    (each_map IsOtherWords (λ node. router_line run node.0 node.1) (λ node. router_other run node.0 node.1.name node.1.addr) (enumerate_from 0 nodes)))
    (each_flat IsOtherWords (λ node. node_iface_lines run.parties node.0 node.1.name links)
    (λ node. each_map IsOtherWords (λ link. iface_line node.1.name link.1.name (entries_at run.parties (who.Iface node.0 link.0))) (λ link. record { no_conn = refl; breaks = record { no_sent = refl; no_took = refl } }) (enumerate_from 0 (links_at node.0 links)))
    (enumerate_from 0 nodes)))
    (each_flat IsOtherWords (λ node. node_event_lines run.parties node.0 node.1.name)
    (λ node. each_flat IsOtherWords (entry_lines node.1.name) (λ entry. each_flat IsOtherWords (asked_lines node.1.name entry.time) (asked_other node.1.name entry.time) entry.events.items) (entries_at run.parties (who.Router node.0)))
    (enumerate_from 0 nodes))

-- the lines of a report tell of the connections of its record
pub report_tells : (nodes : List PlainNode) (links : List PlainLink) (run : PlainRecord) → AllByRecursion IsNode nodes → Tells (report_lines nodes links run) (report_told nodes run.parties)
unfolding report_lines
report_tells nodes links run are =
    let ps : List Line = flat_map (λ node. node_app_lines nodes run.parties node.0 node.1.name node.1.apps) (enumerate_from 0 nodes) in
    let front : Tells (head_lines nodes links run ++ ps) (report_told nodes run.parties) =
    tells_both (head_lines nodes links run) ps [] (report_told nodes run.parties) (tells_nothing (head_lines nodes links run) (head_other nodes links run)) (nodes_tell nodes are run.parties) in
    subst (λ (told : List ToldConnection). Tells ((head_lines nodes links run ++ ps) ++ count_lines run) told) (append-nil (report_told nodes run.parties))
    (tells_both (head_lines nodes links run ++ ps) (count_lines run) (report_told nodes run.parties) [] front (tells_nothing (count_lines run) (counts_other run)))

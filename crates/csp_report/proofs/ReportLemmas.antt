-- The report's lines, joined; and the lines that its line feeds determine.
use Rattle.std.proofs.Common.{◌≡◌, ℕ, zero, suc, ◌+◌, Bool, true, false, cond, eqb, Option, None, Some, List, [], ◌∷◌, ◌++◌, map, refl, sym, ap, subst, ◌∙◌, append_assoc, add-zero, arith}
use Rattle.std.specs.Prelude.{⊤, codes, count_by, slice_get, IsTrue}
use Rattle.std.specs.List.{AllByRecursion, flat_map, enumerate_from, join_with_byte}
use Rattle.std.specs.Fmt.{decimal}
use Rattle.std.specs.Int.{w32, to_be_bytes}
use Rattle.std.specs.Option.{option_map}
use Rattle.std.proofs.lemmas.List.Concat.{flat_map-append}
use Rattle.std.proofs.lemmas.Option.{slice_get-map}
use Rattle.csp_text.specs.Names.{is_name}
use Rattle.csp_scene.specs.Links.{touches, links_at}
use Rattle.csp_scene.specs.Scene.{PlainScene, PlainNode, PlainApp, PlainLink}
use Rattle.csp_scene.specs.Ranges.{IsScene, IsNode, IsApp, IsLink}
use Rattle.csp_log.specs.PlainLog.{all_events}
use Rattle.csp_log.specs.declared.entry.Entry.{Entry}
use Rattle.csp_log.specs.declared.event.Discard.{Discard}
use Rattle.csp_log.specs.declared.event.Discard.TheVariants as discard
use Rattle.csp_log.specs.declared.event.Event.{Event}
use Rattle.csp_log.specs.declared.event.Event.TheVariants as event
use Rattle.csp_log.specs.declared.note.Why.{Why}
use Rattle.csp_log.specs.declared.note.Why.TheVariants as why
use Rattle.csp_record.specs.Passed.{passed}
use Rattle.csp_record.specs.Stale.{stale}
use Rattle.csp_record.specs.Record.{PlainPartyLog, PlainRecord}
use Rattle.csp_record.specs.Whole.{IsWhole, IsWholeNode}
use Rattle.csp_report.specs.declared.ifaces.IfaceCount.{IfaceCount}
use Rattle.csp_report.specs.declared.ifaces.IfaceCount.TheVariants as count
use Rattle.csp_log.specs.declared.who.Who.TheVariants as who
use Rattle.csp_report.specs.declared.places.PlaceKind.TheVariants as kind
use Rattle.csp_report.specs.declared.text.TheConstants.{VERSION}
use Rattle.csp_sfp.specs.declared.errors.SfpError.{SfpError}
use Rattle.csp_sfp.specs.declared.errors.SfpError.TheVariants as sfp
use Rattle.csp_report.specs.declared.blobs.Blob.{Blob}
use Rattle.csp_report.specs.Blobs.{word_of_bad_piece, crc_word, blobs_on, refusals_on, blob_line, blob_lines, badblob_line, collected_lines}
use Rattle.csp_report.specs.Lines.{Line, ended_line, text_of, conn_words}
use Rattle.csp_report.specs.Parties.{party_at, entries_at, events_at}
use Rattle.csp_report.specs.Places.{held_in}
use Rattle.csp_report.specs.Conns.{peer_flow, kind_words, opening_line, bytes_word, payload_lines, Traffics, opening_lines, slot_lines, all_slots, traffic_of, conn_lines}
use Rattle.csp_record.specs.declared.connections.Opening.{Opening}
use Rattle.csp_record.specs.Connections.{openings}
use Rattle.csp_report.specs.Events.{is_discard, all_discards, discard_words, word_of, word_of_refusal, asked_lines, entry_lines, step_line, refused_line, event_lines}
use Rattle.csp_report.specs.Ifaces.{entries_count, count_word, all_counts, iface_line}
use Rattle.csp_report.specs.Report.{title_line, end_line, name_words, node_line, router_words, router_line, node_iface_lines, node_event_lines, state_line, app_lines, node_app_lines, count_lines, report_lines, report}
use Rattle.csp_report.specs.PlacesAddUp.{AddsUp, is_of_node, PlacesAddUp}
use Rattle.csp_report.proofs.Adding.{adding}
use Rattle.csp_report.proofs.Feeds.{Lacks, all_joined, Lacks-join, Lacks-decimal, Lacks-name, Lacks-hex, plain, split_lines}

joined : (s a b c d e f g h t u n r i v p x : List ℕ) → a ≡ s ++ t → b ≡ a ++ u → c ≡ b ++ n → d ≡ c ++ r → e ≡ d ++ i → f ≡ e ++ v → g ≡ f ++ p → h ≡ g ++ x → h ≡ s ++ (t ++ (u ++ (n ++ (r ++ (i ++ (v ++ (p ++ x)))))))
joined s a b c d e f g h t u n r i v p x e1 e2 e3 e4 e5 e6 e7 e8 = rw (e8, e7, e6, e5, e4, e3, e2, e1) (simp append_assoc)

flat_lines : (f : Line → List ℕ) (t u : Line) (n r i v p x : List Line) → flat_map f ((t ∷ u ∷ []) ++ n ++ r ++ i ++ v ++ p ++ x) ≡ f t ++ (f u ++ (flat_map f n ++ (flat_map f r ++ (flat_map f i ++ (flat_map f v ++ (flat_map f p ++ flat_map f x))))))
flat_lines f t u n r i v p x = simp (flat_map-append, append_assoc)

-- the texts appended one after the other are those of the report's lines
pub report_joined : (nodes : List PlainNode) (links : List PlainLink) (run : PlainRecord) (s a b c d e f g h : List ℕ)
    → a ≡ s ++ ended_line title_line → b ≡ a ++ ended_line (end_line run)
    → c ≡ b ++ text_of (map (λ node. node_line run node.0 node.1) (enumerate_from 0 nodes))
    → d ≡ c ++ text_of (map (λ node. router_line run node.0 node.1) (enumerate_from 0 nodes))
    → e ≡ d ++ text_of (flat_map (λ node. node_iface_lines run.parties node.0 node.1.name links) (enumerate_from 0 nodes))
    → f ≡ e ++ text_of (flat_map (λ node. node_event_lines run.parties node.0 node.1.name) (enumerate_from 0 nodes))
    → g ≡ f ++ text_of (flat_map (λ node. node_app_lines nodes run.parties node.0 node.1.name node.1.apps) (enumerate_from 0 nodes))
    → h ≡ g ++ text_of (count_lines run)
    → h ≡ s ++ text_of (report_lines nodes links run)
unfolding report_lines
report_joined nodes links run s a b c d e f g h e1 e2 e3 e4 e5 e6 e7 e8 =
    joined s a b c d e f g h _ _ _ _ _ _ _ _ e1 e2 e3 e4 e5 e6 e7 e8
    ∙ ap (λ t. s ++ t) (sym (flat_lines ended_line title_line (end_line run)
    (map (λ node. node_line run node.0 node.1) (enumerate_from 0 nodes))
    (map (λ node. router_line run node.0 node.1) (enumerate_from 0 nodes))
    (flat_map (λ node. node_iface_lines run.parties node.0 node.1.name links) (enumerate_from 0 nodes))
    (flat_map (λ node. node_event_lines run.parties node.0 node.1.name) (enumerate_from 0 nodes))
    (flat_map (λ node. node_app_lines nodes run.parties node.0 node.1.name node.1.apps) (enumerate_from 0 nodes))
    (count_lines run)))

-- the report is the text of its lines
pub report_is : (scene : PlainScene) (run : PlainRecord) → report scene run ≡ text_of (report_lines scene.nodes scene.links run)
unfolding report
report_is scene run = refl

-- what each line has to be: without a line feed, and adding up where it is a node's or a bridge's
abbrev MayStand : List ℕ → Type 0
MayStand line = IsTrue (is_of_node line) → AddsUp line

abbrev pub IsGood : Line → Type 0
IsGood words = Lacks 10 (join_with_byte 32 words) × MayStand (join_with_byte 32 words)

never : {A : Type 0} → false ≡ true → A
never {A} h = absurd (contradicts h)
  where
    contradicts : false ≡ true → ⊥
    contradicts h = cc

other : (words : Line) → AllByRecursion (Lacks 10) words → is_of_node (join_with_byte 32 words) ≡ false → IsGood words
other words lacks no_node = (Lacks-join 10 refl words lacks, λ is. never (sym no_node ∙ is))

number : (n : ℕ) → Lacks 10 (decimal n)
number n = Lacks-decimal 10 (omega arith) n

named : (name : List ℕ) → IsTrue (is_name name) → Lacks 10 name
named name is = Lacks-name 10 refl name is

-- fixed words, each with a number
abbrev numbered : List (List ℕ × ℕ) → Line
numbered pairs = flat_map (λ pair. pair.0 ∷ decimal pair.1 ∷ []) pairs

numbered_lacks : (pairs : List (List ℕ × ℕ)) → AllByRecursion (λ pair. Lacks 10 pair.0) pairs → AllByRecursion (Lacks 10) (numbered pairs)
numbered_lacks [] all = tt
numbered_lacks (pair ∷ pairs) all = (all.0, (number pair.1, numbered_lacks pairs all.1))

-- the counts of a node
abbrev node_counts : PlainRecord → ℕ → ℕ → List (List ℕ × ℕ)
node_counts run place buffers =
    (codes "buffers", buffers) ∷ (codes "free", held_in run place kind.Pool) ∷ (codes "inbox", held_in run place kind.Inbox) ∷ (codes "lane", held_in run place kind.Lane)
    ∷ (codes "router", held_in run place kind.Router) ∷ (codes "iface", held_in run place kind.Iface) ∷ (codes "app", held_in run place kind.App) ∷ []

good_node : (run : PlainRecord) (place : ℕ) (node : PlainNode) → IsNode node → IsWholeNode run place node.buffers → IsGood (node_line run place node)
good_node run place node is whole = (Lacks-join 10 refl (node_line run place node) (all_joined (Lacks 10) (name_words node.name node.addr) (numbered (node_counts run place node.buffers)) (name_lacks node.addr) places_lack), λ _. adds)
  where
    name_lacks : (addr : Option ℕ) → AllByRecursion (Lacks 10) (name_words node.name addr)
    name_lacks (Some addr) = (plain (codes "node") refl, (named node.name is.name, (number addr, tt)))
    name_lacks None = (plain (codes "bridge") refl, (named node.name is.name, tt))

    places_lack : AllByRecursion (Lacks 10) (numbered (node_counts run place node.buffers))
    places_lack =
        numbered_lacks (node_counts run place node.buffers)
        (plain (codes "buffers") refl, (plain (codes "free") refl, (plain (codes "inbox") refl, (plain (codes "lane") refl, (plain (codes "router") refl, (plain (codes "iface") refl, (plain (codes "app") refl, tt)))))))

    adds : AddsUp (join_with_byte 32 (node_line run place node))
    adds = record {
      name = node.name;
      addr = node.addr;
      buffers = node.buffers;
      held = held_in run place;
      is_named = is.name;
      form = refl;
      sum = adding run place node.buffers whole;
    }

good_nodes : (run : PlainRecord) (k : ℕ) (nodes : List PlainNode) → AllByRecursion IsNode nodes → ((i : ℕ) (n : PlainNode) → slice_get nodes i ≡ Some n → IsWholeNode run (k + i) n.buffers) → AllByRecursion IsGood (map (λ node. node_line run node.0 node.1) (enumerate_from k nodes))
good_nodes run k [] all whole = tt
good_nodes run k (n ∷ nodes) all whole = (
  good_node run k n all.0 (subst (λ (p : ℕ). IsWholeNode run p n.buffers) (add-zero k) (whole 0 n refl)),
  good_nodes run (k + 1) nodes all.1 (λ i m e. let at : k + suc i ≡ k + 1 + i = omega arith in subst (λ (p : ℕ). IsWholeNode run p m.buffers) at (whole (suc i) m e)),
)

word_lacks : (why : Discard) → Lacks 10 (word_of why)
word_lacks discard.NoRoute = plain (codes "noroute") refl
word_lacks discard.BackOut = plain (codes "backout") refl
word_lacks discard.Refused = plain (codes "refused") refl
word_lacks discard.CrcWrong = plain (codes "crc") refl
word_lacks discard.NoSocket = plain (codes "nosocket") refl
word_lacks discard.NoSlot = plain (codes "noslot") refl
word_lacks discard.Required = plain (codes "required") refl
word_lacks discard.Malformed = plain (codes "malformed") refl
word_lacks discard.Mixed = plain (codes "mixed") refl
word_lacks discard.NoConn = plain (codes "noconn") refl
word_lacks discard.Stray = plain (codes "stray") refl
word_lacks discard.Full = plain (codes "full") refl

refusal_lacks : (reason : Why) → Lacks 10 (word_of_refusal reason)
refusal_lacks why.InUse = plain (codes "inuse") refl
refusal_lacks why.NotBindable = plain (codes "notbindable") refl
refusal_lacks why.Busy = plain (codes "busy") refl
refusal_lacks why.PortBusy = plain (codes "portbusy") refl
refusal_lacks why.Timeout = plain (codes "timeout") refl
refusal_lacks why.Reset = plain (codes "reset") refl

piece_lacks : (reason : SfpError) → Lacks 10 (word_of_bad_piece reason)
piece_lacks sfp.Short = plain (codes "short") refl
piece_lacks sfp.NoData = plain (codes "nodata") refl
piece_lacks (sfp.BadTotal total) = plain (codes "badtotal") refl
piece_lacks (sfp.WrongTotal kept found) = plain (codes "wrongtotal") refl
piece_lacks (sfp.WrongOffset expected found) = plain (codes "wrongoffset") refl
piece_lacks (sfp.TooMuch total) = plain (codes "toomuch") refl

discards_lack : (events : List Event) (reasons : List Discard) → AllByRecursion (Lacks 10) (discard_words events reasons)
discards_lack events [] = tt
discards_lack events (why ∷ reasons) = (word_lacks why, (number (count_by (is_discard why) events), discards_lack events reasons))

good_router : (run : PlainRecord) (place : ℕ) (name : List ℕ) → IsTrue (is_name name) → (addr : Option ℕ) → IsGood (router_words run place name addr)
good_router run place name is (Some addr) = other (router_words run place name (Some addr)) (plain (codes "router") refl, (named name is, discards_lack (events_at run.parties (who.Router place)) all_discards)) refl
good_router run place name is None = other (router_words run place name None) (plain (codes "relay") refl, (named name is, discards_lack (events_at run.parties (who.Bridge place)) (discard.Full ∷ []))) refl

good_routers : (run : PlainRecord) (k : ℕ) (nodes : List PlainNode) → AllByRecursion IsNode nodes → AllByRecursion IsGood (map (λ node. router_line run node.0 node.1) (enumerate_from k nodes))
good_routers run k [] all = tt
good_routers run k (n ∷ nodes) all = (good_router run k n.name all.0.name n.addr, good_routers run (k + 1) nodes all.1)

count_lacks : (which : IfaceCount) → Lacks 10 (count_word which)
count_lacks count.Sent = plain (codes "sent") refl
count_lacks count.Accepted = plain (codes "accepted") refl
count_lacks count.Bad = plain (codes "bad") refl
count_lacks count.Starved = plain (codes "starved") refl
count_lacks count.Full = plain (codes "full") refl
count_lacks count.TooBig = plain (codes "toobig") refl

counts_lack : (entries : List Entry) (counts : List IfaceCount) → AllByRecursion (Lacks 10) (flat_map (λ which. count_word which ∷ decimal (entries_count which entries) ∷ []) counts)
counts_lack entries [] = tt
counts_lack entries (which ∷ counts) = (count_lacks which, (number (entries_count which entries), counts_lack entries counts))

good_iface : (node link : List ℕ) (entries : List Entry) → IsTrue (is_name node) → IsTrue (is_name link) → IsGood (iface_line node link entries)
good_iface node link entries node_is link_is = other (iface_line node link entries) (plain (codes "iface") refl, (named node node_is, (named link link_is, counts_lack entries all_counts))) refl

good_ifaces : (parties : List PlainPartyLog) (place k : ℕ) (node : List ℕ) → IsTrue (is_name node) → (links : List PlainLink) → AllByRecursion (λ link. IsTrue (is_name link.name)) links
    → AllByRecursion IsGood (map (λ link. iface_line node link.1.name (entries_at parties (who.Iface place link.0))) (enumerate_from k links))
good_ifaces parties place k node is [] all = tt
good_ifaces parties place k node is (link ∷ links) all =
    (good_iface node link.name (entries_at parties (who.Iface place k)) is all.0, good_ifaces parties place (k + 1) node is links all.1)

some_named : (place : ℕ) (links : List PlainLink) → AllByRecursion (λ link. IsTrue (is_name link.name)) links → AllByRecursion (λ link. IsTrue (is_name link.name)) (links_at place links)
some_named place [] all = tt
some_named place (link ∷ links) all = by (touches place link) (some_named place links all.1)
  where
    by : (t : Bool) → AllByRecursion (λ other. IsTrue (is_name other.name)) (links_at place links) → AllByRecursion (λ other. IsTrue (is_name other.name)) (cond t (link ∷ links_at place links) (links_at place links))
    by true rest = (all.0, rest)
    by false rest = rest

good_node_ifaces : (parties : List PlainPartyLog) (k : ℕ) (nodes : List PlainNode) (links : List PlainLink) → AllByRecursion IsNode nodes → AllByRecursion (λ link. IsTrue (is_name link.name)) links
    → AllByRecursion IsGood (flat_map (λ node. node_iface_lines parties node.0 node.1.name links) (enumerate_from k nodes))
good_node_ifaces parties k [] links all named_links = tt
good_node_ifaces parties k (n ∷ nodes) links all named_links =
    all_joined IsGood (node_iface_lines parties k n.name links) _ (good_ifaces parties k 0 n.name all.0.name (links_at k links) (some_named k links named_links)) (good_node_ifaces parties (k + 1) nodes links all.1 named_links)

good_asked : (node : List ℕ) (round : ℕ) → IsTrue (is_name node) → (e : Event) → AllByRecursion IsGood (asked_lines node round e)
good_asked node round is event.Reboot = (other (codes "event" ∷ node ∷ codes "reboot" ∷ decimal round ∷ []) (plain (codes "event") refl, (named node is, (plain (codes "reboot") refl, (number round, tt)))) refl, tt)
good_asked node round is event.Shutdown = (other (codes "event" ∷ node ∷ codes "shutdown" ∷ decimal round ∷ []) (plain (codes "event") refl, (named node is, (plain (codes "shutdown") refl, (number round, tt)))) refl, tt)
good_asked node round is (event.TookEmpty step) = tt
good_asked node round is (event.Sent slot ordinal) = tt
good_asked node round is (event.Took slot ordinal) = tt
good_asked node round is (event.BlobTook slot ordinal len crc) = tt
good_asked node round is (event.BlobRefused slot ordinal reason) = tt
good_asked node round is (event.Refused step reason) = tt
good_asked node round is (event.GaveUp step) = tt
good_asked node round is (event.SlotDown step) = tt
good_asked node round is (event.Discarded reason) = tt
good_asked node round is (event.Handed nth peer tag cur una) = tt
good_asked node round is (event.Opened app slot nth peer) = tt
good_asked node round is (event.Transmitted serial) = tt
good_asked node round is (event.Bad frames) = tt
good_asked node round is event.Starved = tt
good_asked node round is event.InboxFull = tt
good_asked node round is event.TooBig = tt

good_all_asked : (node : List ℕ) (round : ℕ) → IsTrue (is_name node) → (events : List Event) → AllByRecursion IsGood (flat_map (asked_lines node round) events)
good_all_asked node round is [] = tt
good_all_asked node round is (e ∷ events) = all_joined IsGood (asked_lines node round e) _ (good_asked node round is e) (good_all_asked node round is events)

good_entries : (node : List ℕ) → IsTrue (is_name node) → (entries : List Entry) → AllByRecursion IsGood (flat_map (entry_lines node) entries)
good_entries node is [] = tt
good_entries node is (entry ∷ entries) = all_joined IsGood (entry_lines node entry) _ (good_all_asked node entry.time is entry.events.items) (good_entries node is entries)

good_node_events : (parties : List PlainPartyLog) (k : ℕ) (nodes : List PlainNode) → AllByRecursion IsNode nodes → AllByRecursion IsGood (flat_map (λ node. node_event_lines parties node.0 node.1.name) (enumerate_from k nodes))
good_node_events parties k [] all = tt
good_node_events parties k (n ∷ nodes) all =
    all_joined IsGood (node_event_lines parties k n.name) _ (good_entries n.name all.0.name (entries_at parties (who.Router k))) (good_node_events parties (k + 1) nodes all.1)

-- the name of a peer's node
abbrev FlowLacks : Option (List ℕ × ℕ) → Type 0
FlowLacks None = ⊤
FlowLacks (Some flow) = Lacks 10 flow.0

node_lacks : (nodes : List PlainNode) → AllByRecursion IsNode nodes → (i nth : ℕ) → FlowLacks (option_map (λ node. (node.name, nth)) (slice_get nodes i))
node_lacks [] all i nth = tt
node_lacks (n ∷ nodes) all zero nth = named n.name all.0.name
node_lacks (n ∷ nodes) all (suc i) nth = node_lacks nodes all.1 i nth

peer_lacks : (nodes : List PlainNode) → AllByRecursion IsNode nodes → (peer : Option (ℕ × ℕ)) → FlowLacks (peer_flow nodes peer)
peer_lacks nodes all None = tt
peer_lacks nodes all (Some flow) = node_lacks nodes all flow.0 flow.1

kind_lacks : (nth : Option ℕ) (flow : Option (List ℕ × ℕ)) → FlowLacks flow → AllByRecursion (Lacks 10) (kind_words nth flow)
kind_lacks None flow lacks = (plain (codes "plain") refl, tt)
kind_lacks (Some nth) None lacks = (plain (codes "rdp") refl, (number nth, (plain (codes "peer") refl, (plain (codes "none") refl, tt))))
kind_lacks (Some nth) (Some flow) lacks = (plain (codes "rdp") refl, (number nth, (plain (codes "peer") refl, (lacks, (number flow.1, tt)))))

bytes_lack : (payload : List ℕ) → Lacks 10 (bytes_word payload)
bytes_lack [] = plain (codes "-") refl
bytes_lack (byte ∷ bytes) = Lacks-hex (byte ∷ bytes)

links_named : (nodes : List PlainNode) (all_links links : List PlainLink) → AllByRecursion (IsLink nodes all_links) links → AllByRecursion (λ link. IsTrue (is_name link.name)) links
links_named nodes all_links [] all = tt
links_named nodes all_links (link ∷ links) all = (all.0.name, links_named nodes all_links links all.1)

module _ (node app : List ℕ) (node_is : IsTrue (is_name node)) (app_is : IsTrue (is_name app)) where
  good_state : (step : ℕ) → IsGood (state_line node app step)
  good_state step = other (state_line node app step) (plain (codes "app") refl, (named node node_is, (named app app_is, progress (eqb step 0)))) refl
    where
      progress : (t : Bool) → AllByRecursion (Lacks 10) (cond t (codes "ended" ∷ []) (codes "step" ∷ decimal step ∷ []))
      progress true = (plain (codes "ended") refl, tt)
      progress false = (plain (codes "step") refl, (number step, tt))

  step_good : (word : List ℕ) (step : ℕ) → Lacks 10 word → is_of_node (join_with_byte 32 (step_line word node app step)) ≡ false → IsGood (step_line word node app step)
  step_good word step lacks starts = other (step_line word node app step) (lacks, (named node node_is, (named app app_is, (number step, tt)))) starts

  good_event : (event' : Event) → AllByRecursion IsGood (event_lines node app event')
  good_event (event.TookEmpty step) = (step_good (codes "empty") step (plain (codes "empty") refl) refl, tt)
  good_event (event.Refused step reason) = (other (refused_line node app step reason) (plain (codes "refused") refl, (named node node_is, (named app app_is, (number step, (refusal_lacks reason, tt))))) refl, tt)
  good_event (event.GaveUp step) = (step_good (codes "gaveup") step (plain (codes "gaveup") refl) refl, tt)
  good_event (event.SlotDown step) = (step_good (codes "down") step (plain (codes "down") refl) refl, tt)
  good_event (event.Sent slot ordinal) = tt
  good_event (event.Took slot ordinal) = tt
  good_event (event.BlobTook slot ordinal len crc) = tt
  good_event (event.BlobRefused slot ordinal reason) = tt
  good_event (event.Discarded reason) = tt
  good_event (event.Handed nth peer tag cur una) = tt
  good_event (event.Opened number slot nth peer) = tt
  good_event (event.Transmitted serial) = tt
  good_event (event.Bad count) = tt
  good_event event.Starved = tt
  good_event event.InboxFull = tt
  good_event event.TooBig = tt
  good_event event.Reboot = tt
  good_event event.Shutdown = tt

  good_events : (events : List Event) → AllByRecursion IsGood (flat_map (event_lines node app) events)
  good_events [] = tt
  good_events (e ∷ events) = all_joined IsGood (event_lines node app e) (flat_map (event_lines node app) events) (good_event e) (good_events events)

  numbers_lack : (word : List ℕ) (slot ordinal : ℕ) → Lacks 10 word → AllByRecursion (Lacks 10) (conn_words word node app slot ordinal)
  numbers_lack word slot ordinal lacks = (lacks, (named node node_is, (named app app_is, (number slot, (number ordinal, tt)))))

  good_payloads : (word : List ℕ) (slot ordinal k : ℕ) (payloads : List (List ℕ)) → Lacks 10 word
      → ((i : ℕ) (payload : List ℕ) → is_of_node (join_with_byte 32 (conn_words word node app slot ordinal ++ decimal i ∷ bytes_word payload ∷ [])) ≡ false)
      → AllByRecursion IsGood (map (λ payload. conn_words word node app slot ordinal ++ decimal (payload.0 + 1) ∷ bytes_word payload.1 ∷ []) (enumerate_from k payloads))
  good_payloads word slot ordinal k [] lacks starts = tt
  good_payloads word slot ordinal k (payload ∷ payloads) lacks starts = (
    other (conn_words word node app slot ordinal ++ decimal (k + 1) ∷ bytes_word payload ∷ [])
        (all_joined (Lacks 10) (conn_words word node app slot ordinal) (decimal (k + 1) ∷ bytes_word payload ∷ []) (numbers_lack word slot ordinal lacks) (number (k + 1), (bytes_lack payload, tt)))
        (starts (k + 1) payload),
    good_payloads word slot ordinal (k + 1) payloads lacks starts,
  )

  good_blobs : (slot ordinal k : ℕ) (blobs : List Blob) → AllByRecursion IsGood (map (λ blob. blob_line node app slot ordinal (blob.0 + 1) blob.1) (enumerate_from k blobs))
  good_blobs slot ordinal k [] = tt
  good_blobs slot ordinal k (blob ∷ blobs) = (
    other (blob_line node app slot ordinal (k + 1) blob)
        (all_joined (Lacks 10) (conn_words (codes "blob") node app slot ordinal) (decimal (k + 1) ∷ decimal blob.len ∷ crc_word blob.crc ∷ [])
        (numbers_lack (codes "blob") slot ordinal (plain (codes "blob") refl)) (number (k + 1), (number blob.len, (Lacks-hex (to_be_bytes w32 blob.crc), tt))))
        refl,
    good_blobs slot ordinal (k + 1) blobs,
  )

  good_refusals : (slot ordinal : ℕ) (reasons : List SfpError) → AllByRecursion IsGood (map (badblob_line node app slot ordinal) reasons)
  good_refusals slot ordinal [] = tt
  good_refusals slot ordinal (reason ∷ reasons) = (
    other (badblob_line node app slot ordinal reason)
        (all_joined (Lacks 10) (conn_words (codes "badblob") node app slot ordinal) (word_of_bad_piece reason ∷ []) (numbers_lack (codes "badblob") slot ordinal (plain (codes "badblob") refl)) (piece_lacks reason, tt))
        refl,
    good_refusals slot ordinal reasons,
  )

  good_collected : (slot ordinal : ℕ) (events : List Event) → AllByRecursion IsGood (collected_lines node app slot ordinal events)
  good_collected slot ordinal events =
      all_joined IsGood (blob_lines node app slot ordinal (blobs_on slot ordinal events)) _ (good_blobs slot ordinal 0 (blobs_on slot ordinal events)) (good_refusals slot ordinal (refusals_on slot ordinal events))

  module _ (nodes : List PlainNode) (nodes_are : AllByRecursion IsNode nodes) where
    good_opening : (traffic : Traffics) (o : Opening) → AllByRecursion IsGood (opening_lines nodes node app traffic o)
    good_opening traffic o = (
      other (opening_line nodes node app o)
          (all_joined (Lacks 10) (conn_words (codes "conn") node app o.slot o.ordinal) (kind_words o.nth (peer_flow nodes o.peer)) (numbers_lack (codes "conn") o.slot o.ordinal (plain (codes "conn") refl)) (kind_lacks o.nth (peer_flow nodes o.peer) (peer_lacks nodes nodes_are o.peer)))
          refl,
      all_joined IsGood (payload_lines (codes "sent") node app o.slot o.ordinal (traffic.sent_on o.slot o.ordinal) ++ payload_lines (codes "took") node app o.slot o.ordinal (traffic.took_on o.slot o.ordinal)) _
          (all_joined IsGood (payload_lines (codes "sent") node app o.slot o.ordinal (traffic.sent_on o.slot o.ordinal)) _
          (good_payloads (codes "sent") o.slot o.ordinal 0 (traffic.sent_on o.slot o.ordinal) (plain (codes "sent") refl) (λ i payload. refl))
          (good_payloads (codes "took") o.slot o.ordinal 0 (traffic.took_on o.slot o.ordinal) (plain (codes "took") refl) (λ i payload. refl)))
          (good_collected o.slot o.ordinal traffic.told),
    )

    good_slot : (traffic : Traffics) (opened : List Opening) (slot : ℕ) → AllByRecursion IsGood (slot_lines nodes node app traffic opened slot)
    good_slot traffic [] slot = tt
    good_slot traffic (o ∷ opened) slot = all_joined IsGood (cond (eqb o.slot slot) (opening_lines nodes node app traffic o) []) _ (by (eqb o.slot slot)) (good_slot traffic opened slot)
      where
        by : (t : Bool) → AllByRecursion IsGood (cond t (opening_lines nodes node app traffic o) [])
        by true = good_opening traffic o
        by false = tt

    good_slots : (traffic : Traffics) (opened : List Opening) (slots : List ℕ) → AllByRecursion IsGood (flat_map (slot_lines nodes node app traffic opened) slots)
    good_slots traffic opened [] = tt
    good_slots traffic opened (slot ∷ slots) = all_joined IsGood (slot_lines nodes node app traffic opened slot) _ (good_slot traffic opened slot) (good_slots traffic opened slots)

    good_app : (router : List Entry) (number : ℕ) (party : Option PlainPartyLog) → AllByRecursion IsGood (app_lines nodes node router app number party)
    good_app router number None = tt
    good_app router number (Some party) = (
      good_state party.step,
      all_joined IsGood (flat_map (event_lines node app) (all_events party.entries)) (conn_lines nodes node app number router party.entries) (good_events (all_events party.entries)) (good_slots (traffic_of number router party.entries) (openings number router) all_slots),
    )

module _ (all_nodes : List PlainNode) (nodes_are : AllByRecursion IsNode all_nodes) where
  good_apps : (parties : List PlainPartyLog) (place k : ℕ) (node : List ℕ) → IsTrue (is_name node) → (apps : List PlainApp) → AllByRecursion IsApp apps
      → AllByRecursion IsGood (flat_map (λ app. app_lines all_nodes node (entries_at parties (who.Router place)) app.1.name app.0 (party_at parties (who.App place app.0))) (enumerate_from k apps))
  good_apps parties place k node is [] all = tt
  good_apps parties place k node is (app ∷ apps) all =
      all_joined IsGood (app_lines all_nodes node (entries_at parties (who.Router place)) app.name k (party_at parties (who.App place k))) _
      (good_app node app.name is all.0.name all_nodes nodes_are (entries_at parties (who.Router place)) k (party_at parties (who.App place k)))
      (good_apps parties place (k + 1) node is apps all.1)

  good_node_apps : (parties : List PlainPartyLog) (k : ℕ) (nodes : List PlainNode) → AllByRecursion IsNode nodes → AllByRecursion IsGood (flat_map (λ node. node_app_lines all_nodes parties node.0 node.1.name node.1.apps) (enumerate_from k nodes))
  good_node_apps parties k [] all = tt
  good_node_apps parties k (n ∷ nodes) all =
      all_joined IsGood (node_app_lines all_nodes parties k n.name n.apps) _ (good_apps parties k 0 n.name all.0.name n.apps all.0.apps) (good_node_apps parties (k + 1) nodes all.1)

good_end : (run : PlainRecord) → IsGood (end_line run)
good_end run = other (end_line run) (plain (codes "end") refl, (flag run.finished, (number run.rounds, tt))) refl
  where
    flag : (t : Bool) → Lacks 10 (cond t (codes "finished") (codes "unfinished"))
    flag true = plain (codes "finished") refl
    flag false = plain (codes "unfinished") refl

counted_at : (nodes : List PlainNode) (i : ℕ) (n : PlainNode) → slice_get nodes i ≡ Some n → slice_get (map (λ (n : PlainNode). n.buffers) nodes) i ≡ Some n.buffers
counted_at nodes i n e = slice_get-map (λ (n : PlainNode). n.buffers) nodes i ∙ ap (option_map (λ (n : PlainNode). n.buffers)) e

good_counts : (run : PlainRecord) → AllByRecursion IsGood (count_lines run)
good_counts run = (
  other (codes "stale" ∷ decimal (stale run) ∷ []) (plain (codes "stale") refl, (number (stale run), tt)) refl,
  (other (codes "passed" ∷ decimal (passed run) ∷ []) (plain (codes "passed") refl, (number (passed run), tt)) refl, tt),
)

pub good_lines : (scene : PlainScene) (run : PlainRecord) → IsScene scene → IsWhole (map (λ n. n.buffers) scene.nodes) run → AllByRecursion IsGood (report_lines scene.nodes scene.links run)
unfolding report_lines
good_lines scene run is whole =
    let two_lines : List Line = title_line ∷ end_line run ∷ [] in
    let ns : List Line = map (λ node. node_line run node.0 node.1) (enumerate_from 0 scene.nodes) in
    let rs : List Line = map (λ node. router_line run node.0 node.1) (enumerate_from 0 scene.nodes) in
    let is_lines : List Line = flat_map (λ node. node_iface_lines run.parties node.0 node.1.name scene.links) (enumerate_from 0 scene.nodes) in
    let vs : List Line = flat_map (λ node. node_event_lines run.parties node.0 node.1.name) (enumerate_from 0 scene.nodes) in
    let ps : List Line = flat_map (λ node. node_app_lines scene.nodes run.parties node.0 node.1.name node.1.apps) (enumerate_from 0 scene.nodes) in
    let head : AllByRecursion IsGood two_lines = (other title_line (plain (codes "csp-report") refl, (number VERSION, tt)) refl, (good_end run, tt)) in
    let nodes : AllByRecursion IsGood ns = good_nodes run 0 scene.nodes is.nodes (λ i n e. let at : i ≡ 0 + i = omega arith in subst (λ (p : ℕ). IsWholeNode run p n.buffers) at (whole i n.buffers (counted_at scene.nodes i n e))) in
    let ifaces : AllByRecursion IsGood is_lines = good_node_ifaces run.parties 0 scene.nodes scene.links is.nodes (links_named scene.nodes scene.links scene.links is.links) in
    all_joined IsGood (two_lines ++ ns ++ rs ++ is_lines ++ vs ++ ps) (count_lines run)
    (all_joined IsGood (two_lines ++ ns ++ rs ++ is_lines ++ vs) ps
    (all_joined IsGood (two_lines ++ ns ++ rs ++ is_lines) vs
    (all_joined IsGood (two_lines ++ ns ++ rs) is_lines (all_joined IsGood (two_lines ++ ns) rs (all_joined IsGood two_lines ns head nodes) (good_routers run 0 scene.nodes is.nodes)) ifaces)
    (good_node_events run.parties 0 scene.nodes is.nodes))
    (good_node_apps scene.nodes is.nodes run.parties 0 scene.nodes is.nodes))
    (good_counts run)

-- each line of the report that is a node's or a bridge's adds up, where the record is whole
pub report_adds_up : (scene : PlainScene) (run : PlainRecord) → IsScene scene → IsWhole (map (λ n. n.buffers) scene.nodes) run → PlacesAddUp (report scene run)
unfolding report
report_adds_up scene run is whole = split_lines MayStand (λ h. never h) (report_lines scene.nodes scene.links run) (good_lines scene run is whole)

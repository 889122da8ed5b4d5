-- The report of a record: its lines, each a list of words.
use Rattle.std.specs.Prelude.{ℕ, ◌==◌, Option, None, Some, List, [], ◌∷◌, ◌++◌, map, codes, if◌then◌else◌}
use Rattle.std.specs.List.{flat_map, enumerate_from}
use Rattle.std.specs.Fmt.{decimal}
use Rattle.csp_log.specs.PlainLog.{all_events}
use Rattle.csp_log.specs.declared.entry.Entry.{Entry}
use Rattle.csp_log.specs.declared.event.Discard.TheVariants as discard
use Rattle.csp_scene.specs.Links.{links_at}
use Rattle.csp_scene.specs.Scene.{PlainScene, PlainNode, PlainApp, PlainLink}
use Rattle.csp_record.specs.Passed.{passed}
use Rattle.csp_record.specs.Record.{PlainPartyLog, PlainRecord}
use Rattle.csp_record.specs.Stale.{stale}
use Rattle.csp_report.specs.Lines.{Line, text_of}
use Rattle.csp_report.specs.Parties.{party_at, entries_at, events_at}
use Rattle.csp_report.specs.Places.{held_in}
use Rattle.csp_report.specs.Conns.{conn_lines}
use Rattle.csp_report.specs.Events.{all_discards, discard_words, entry_lines, event_lines}
use Rattle.csp_report.specs.Ifaces.{iface_line}
use Rattle.csp_log.specs.declared.who.Who.TheVariants as who
use Rattle.csp_report.specs.declared.places.PlaceKind.{PlaceKind}
use Rattle.csp_report.specs.declared.places.PlaceKind.TheVariants as kind
use Rattle.csp_report.specs.declared.text.TheConstants.{VERSION}

-- `csp-report V`: the version of the report
abbrev pub title_line : Line
title_line = codes "csp-report" ∷ decimal VERSION ∷ []

-- `end finished R` or `end unfinished R`: whether every application had ended, and the rounds made
abbrev pub end_line : PlainRecord → Line
end_line record' = codes "end" ∷ (if record'.finished then codes "finished" else codes "unfinished") ∷ decimal record'.rounds ∷ []

-- `node NAME ADDR`, or for a bridge, which has no address, `bridge NAME`
abbrev pub name_words : List ℕ → Option ℕ → Line
name_words name (Some addr) = codes "node" ∷ name ∷ decimal addr ∷ []
name_words name None = codes "bridge" ∷ name ∷ []

-- a node's or bridge's line, where its places held so many buffers: its name, and then `buffers N free F inbox I lane L router R iface X app A`
abbrev pub node_words : (name : List ℕ) → (addr : Option ℕ) → (buffers : ℕ) → (held : PlaceKind → ℕ) → Line
node_words name addr buffers held =
    name_words name addr ++ codes "buffers" ∷ decimal buffers
    ∷ codes "free" ∷ decimal (held kind.Pool) ∷ codes "inbox" ∷ decimal (held kind.Inbox) ∷ codes "lane" ∷ decimal (held kind.Lane)
    ∷ codes "router" ∷ decimal (held kind.Router) ∷ codes "iface" ∷ decimal (held kind.Iface) ∷ codes "app" ∷ decimal (held kind.App) ∷ []

-- the line of the node or bridge at this place: where its buffers were when the run ended
abbrev pub node_line : PlainRecord → ℕ → PlainNode → Line
node_line record' place node = node_words node.name node.addr node.buffers (held_in record' place)

-- `router NAME` and its discards for each reason; or `relay NAME` and the bridge's discards at a full queue
abbrev pub router_words : PlainRecord → ℕ → List ℕ → Option ℕ → Line
router_words record' place name (Some addr) = codes "router" ∷ name ∷ discard_words (events_at record'.parties (who.Router place)) all_discards
router_words record' place name None = codes "relay" ∷ name ∷ discard_words (events_at record'.parties (who.Bridge place)) (discard.Full ∷ [])

-- the line of a router or a bridge
abbrev pub router_line : PlainRecord → ℕ → PlainNode → Line
router_line record' place node = router_words record' place node.name node.addr

-- the lines of the interfaces of the node at this place, which are those of its links in their order
abbrev pub node_iface_lines : List PlainPartyLog → ℕ → List ℕ → List PlainLink → List Line
node_iface_lines parties place node links =
    map (λ link. iface_line node link.1.name (entries_at parties (who.Iface place link.0))) (enumerate_from 0 (links_at place links))

-- the lines of what the node at this place was asked to do, by its router's entries, in order of time
abbrev pub node_event_lines : List PlainPartyLog → ℕ → List ℕ → List Line
node_event_lines parties place node = flat_map (entry_lines node) (entries_at parties (who.Router place))

-- `app NODE NAME ended`, or `app NODE NAME step K` with its present step, from 1
abbrev pub state_line : List ℕ → List ℕ → ℕ → Line
state_line node app step = codes "app" ∷ node ∷ app ∷ (if step == 0 then codes "ended" ∷ [] else codes "step" ∷ decimal step ∷ [])

-- the lines of an application: its state, then what it reported in order of time, then its connections, by its router's entries and its own
abbrev pub app_lines : List PlainNode → List ℕ → List Entry → List ℕ → ℕ → Option PlainPartyLog → List Line
app_lines nodes node router app number None = []
app_lines nodes node router app number (Some party) = state_line node app party.step ∷ flat_map (event_lines node app) (all_events party.entries) ++ conn_lines nodes node app number router party.entries

-- the lines of these applications of the node at this place, each found among the parties of the record
abbrev pub node_app_lines : List PlainNode → List PlainPartyLog → ℕ → List ℕ → List PlainApp → List Line
node_app_lines nodes parties place node apps =
    flat_map (λ app. app_lines nodes node (entries_at parties (who.Router place)) app.1.name app.0 (party_at parties (who.App place app.0))) (enumerate_from 0 apps)

-- the last two lines: `stale S` and `passed P`
abbrev pub count_lines : PlainRecord → List Line
count_lines record' = (codes "stale" ∷ decimal (stale record') ∷ []) ∷ (codes "passed" ∷ decimal (passed record') ∷ []) ∷ []

-- the lines of a report on these nodes and links: each kind of line for all nodes before the next kind begins
unfoldable pub report_lines : List PlainNode → List PlainLink → PlainRecord → List Line
report_lines nodes links record' =
    (title_line ∷ end_line record' ∷ [])
    ++ map (λ node. node_line record' node.0 node.1) (enumerate_from 0 nodes)
    ++ map (λ node. router_line record' node.0 node.1) (enumerate_from 0 nodes)
    ++ flat_map (λ node. node_iface_lines record'.parties node.0 node.1.name links) (enumerate_from 0 nodes)
    ++ flat_map (λ node. node_event_lines record'.parties node.0 node.1.name) (enumerate_from 0 nodes)
    ++ flat_map (λ node. node_app_lines nodes record'.parties node.0 node.1.name node.1.apps) (enumerate_from 0 nodes)
    ++ count_lines record'

-- the report: its lines joined, each with the line feed that ends it
unfoldable pub report : PlainScene → PlainRecord → List ℕ
report scene record' = text_of (report_lines scene.nodes scene.links record')

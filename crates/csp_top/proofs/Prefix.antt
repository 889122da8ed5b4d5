-- A record's reliable prefix, as its report shows the record's connections.
use Rattle.std.proofs.Common.{◌≡◌, ℕ, zero, suc, ◌+◌, ◌<◌, Bool, true, false, cond, Option, None, Some, List, [], ◌∷◌, ◌++◌, length, unwrap_or, slice_get, refl, sym, ap, subst, ◌∙◌, append-nil, arith}
use Rattle.std.specs.List.{AllByRecursion}
use Rattle.csp_base.specs.Seat.{seat}
use Rattle.csp_consistent.proofs.Public.{HasNone, AreApart, entries_in, none_there, who_same, who_is, are_apart}
use Rattle.csp_topology.specs.Parties.{PlainOpening, parties_of, parties_from, parties_at, links_from, ifaces_from, apps_from}
use Rattle.csp_prefix.specs.Prefix.{IsBeginning, IsOpened, took_on, sent_on, HasPeersPrefix, IsReliablePrefix}
use Rattle.csp_consistent.specs.Reading.{entries_of}
use Rattle.csp_consistent.specs.Runs.{AreLogsOf}
use Rattle.csp_log.specs.declared.entry.Entry.{Entry}
use Rattle.csp_record.specs.Connections.{openings}
use Rattle.csp_record.specs.Payloads.{sent, took}
use Rattle.csp_record.specs.Record.{PlainPartyLog, PlainRecord}
use Rattle.csp_log.specs.Who.{is_who}
use Rattle.csp_record.specs.declared.connections.Opening.{Opening}
use Rattle.csp_log.specs.declared.who.Who.{Who}
use Rattle.csp_log.specs.declared.who.Who.TheVariants as who
use Rattle.csp_report.specs.Parties.{party_at}
use Rattle.csp_report.specs.Parties as shown
use Rattle.csp_report.specs.Shown.{AreNumbered, IsShown, IsShownOf, AreFirstOf, sent_there, took_there, HasPeersFirst, HavePeersFirst}
use Rattle.csp_scene.specs.Links.{links_at, node_at}
use Rattle.csp_scene.specs.Scene.{PlainScene, PlainNode, PlainLink, PlainApp}
use Rattle.csp_top.proofs.OpeningNumbers.{front_of, rest_of, opened_numbered}
use Rattle.csp_top.specs.Prefix.{IsReadable, AreReadable, TellsNumbered}

-- ---- the first party of a name

module _ (w : Who) where
  -- the first party of a name is the only one
  same_entries : (os : List PlainOpening) (logs : List PlainPartyLog) → AreLogsOf os logs → AreApart os → shown.entries_of (party_at logs w) ≡ entries_in w logs
  same_entries [] [] are apart = refl
  same_entries [] (log ∷ logs) are apart = absurd are
  same_entries (o ∷ os) [] are apart = absurd are
  same_entries (o ∷ os) (log ∷ logs) are apart = by_test (is_who w log.who) refl (same_entries os logs are.1 apart.1)
    where
      only : is_who w log.who ≡ true → entries_in w logs ≡ []
      only is =
          let name : w ≡ o.who = who_is w log.who is ∙ are.0.who in
          none_there w os logs are.1 (subst (λ x. HasNone x os) (sym name) apart.0)

      by_test : (t : Bool) → is_who w log.who ≡ t → shown.entries_of (party_at logs w) ≡ entries_in w logs → shown.entries_of (cond t (Some log) (party_at logs w)) ≡ cond (is_who w log.who) log.entries [] ++ entries_in w logs
      by_test true is later =
          sym (ap (λ t. cond t log.entries [] ++ entries_in w logs) is ∙ ap (λ (es : List Entry). log.entries ++ es) (only is) ∙ append-nil log.entries)
      by_test false not_it later = later ∙ sym (ap (λ t. cond t log.entries [] ++ entries_in w logs) not_it)

  none_found : (os : List PlainOpening) (logs : List PlainPartyLog) → AreLogsOf os logs → party_at logs w ≡ None → HasNone w os
  none_found [] [] are none = tt
  none_found [] (log ∷ logs) are none = absurd are
  none_found (o ∷ os) [] are none = absurd are
  none_found (o ∷ os) (log ∷ logs) are none = by_test (is_who w log.who) refl none (none_found os logs are.1)
    where
      by_test : (t : Bool) → is_who w log.who ≡ t → cond t (Some log) (party_at logs w) ≡ None → (party_at logs w ≡ None → HasNone w os) → HasNone w (o ∷ os)
      by_test true e f later = absurd cc
      by_test false e f later = (ap (is_who w) (sym are.0.who) ∙ e, later f)

-- ---- the application of a node is among the parties of the scene

differs : (w x : Who) → w ≡ x → is_who w x ≡ false → ⊥
differs w x same other = clash (sym (who_same w) ∙ ap (is_who w) same ∙ other)
  where
    clash : true ≡ false → ⊥
    clash e = cc

app_among : (place k number : ℕ) (apps : List PlainApp) (i : ℕ) (app : PlainApp) → slice_get apps i ≡ Some app → number ≡ k + i → HasNone (who.App place number) (apps_from place k apps) → ⊥
app_among place k number [] i app e same none = absurd cc
app_among place k number (a ∷ apps) zero app e same none =
    let here : number ≡ k = omega (arith, same) in
    differs (who.App place number) (who.App place k) (ap (who.App place) here) none.0
app_among place k number (a ∷ apps) (suc i) app e same none = app_among place (k + 1) number apps i app e (omega (arith, same)) none.1

node_among : (links : List PlainLink) (place number p : ℕ) (nodes : List PlainNode) (i : ℕ) (n : PlainNode) (app : PlainApp) → slice_get nodes i ≡ Some n → slice_get n.apps number ≡ Some app → place ≡ p + i
    → HasNone (who.App place number) (parties_from p nodes links) → ⊥
node_among links place number p [] i n app e f same none = absurd cc
node_among links place number p (m ∷ nodes) zero n app e f same none =
    let here : p ≡ place = omega (arith, same) in
    let it : m ≡ n = ap (λ o. unwrap_or o m) e in
    let apps : slice_get m.apps number ≡ Some app = ap (λ (x : PlainNode). slice_get x.apps number) it ∙ f in
    let of_node : HasNone (who.App place number) (parties_at p m (links_at p links)) =
    front_of (λ o. is_who (who.App place number) o.who ≡ false) (parties_at p m (links_at p links)) (parties_from (p + 1) nodes links) none in
    let of_apps : HasNone (who.App place number) (apps_from p 0 m.apps) =
    rest_of (λ o. is_who (who.App place number) o.who ≡ false) (ifaces_from p m.addr 0 (links_at p links)) (apps_from p 0 m.apps) of_node.1 in
    app_among place 0 number m.apps number app apps (omega arith) (subst (λ q. HasNone (who.App place number) (apps_from q 0 m.apps)) here of_apps)
node_among links place number p (m ∷ nodes) (suc i) n app e f same none =
    node_among links place number (p + 1) nodes i n app e f (omega (arith, same))
    (rest_of (λ o. is_who (who.App place number) o.who ≡ false) (parties_at p m (links_at p links)) (parties_from (p + 1) nodes links) none)

is_among : (scene : PlainScene) (place number : ℕ) (n : PlainNode) (app : PlainApp) → slice_get scene.nodes place ≡ Some n → slice_get n.apps number ≡ Some app → HasNone (who.App place number) (parties_of scene) → ⊥
unfolding parties_of
is_among scene place number n app e f none =
    node_among scene.links place number 0 scene.nodes place n app e f (omega arith)
    (front_of (λ o. is_who (who.App place number) o.who ≡ false) (parties_from 0 scene.nodes scene.links) (links_from 0 scene.links) none)

-- the node in a place, where it has so many applications
home_of : (nodes : List PlainNode) (place app : ℕ) → app < length (node_at nodes place).apps → (n : PlainNode) × (slice_get nodes place ≡ Some n) × (app < length n.apps)
home_of [] place app h = absurd (omega (arith, h))
home_of (n ∷ nodes) zero app h = (n, refl, h)
home_of (n ∷ nodes) (suc place) app h = home_of nodes place app h

element : {X : Type 0} (xs : List X) (i : ℕ) → i < length xs → (x : X) × (slice_get xs i ≡ Some x)
element [] i h = absurd (omega (arith, h))
element (x ∷ xs) zero h = (x, refl)
element (x ∷ xs) (suc i) h = element xs i (omega (arith, h))

-- ---- a connection that became open is one that the report shows

module _ (scene : PlainScene) (r : PlainRecord) (are : AreLogsOf (parties_of scene) r.parties) (readable : AreReadable scene r) where
  router_entries : (place : ℕ) → shown.entries_of (party_at r.parties (who.Router place)) ≡ entries_of r (who.Router place)
  router_entries place = same_entries (who.Router place) (parties_of scene) r.parties are (are_apart scene)

  app_entries : (place number : ℕ) → shown.entries_of (party_at r.parties (who.App place number)) ≡ entries_of r (who.App place number)
  app_entries place number = same_entries (who.App place number) (parties_of scene) r.parties are (are_apart scene)

  opened_of : (place number : ℕ) (x : Opening) → IsShown scene.nodes r.parties place number x → IsOpened r place number x
  opened_of place number x shown = record { at = shown.at; there = subst (λ es. slice_get (openings number es) shown.at ≡ Some x) (router_entries place) shown.opened }

  party_there : (place number : ℕ) (n : PlainNode) (app : PlainApp) → slice_get scene.nodes place ≡ Some n → slice_get n.apps number ≡ Some app → (party : Option PlainPartyLog) → party_at r.parties (who.App place number) ≡ party
      → (log : PlainPartyLog) × (party ≡ Some log)
  party_there place number n app e f (Some log) is = (log, refl)
  party_there place number n app e f None is =
      absurd (is_among scene place number n app e f (none_found (who.App place number) (parties_of scene) r.parties are is))

  shown_of : (place number : ℕ) (x : Opening) → IsOpened r place number x → IsShown scene.nodes r.parties place number x
  shown_of place number x opened =
      let read : IsReadable scene.nodes place number x = readable place number x opened in
      let home : (n : PlainNode) × (slice_get scene.nodes place ≡ Some n) × (number < length n.apps) = home_of scene.nodes place number read.app in
      let its : (app : PlainApp) × (slice_get home.0.apps number ≡ Some app) = element home.0.apps number home.2 in
      let log : (l : PlainPartyLog) × (party_at r.parties (who.App place number) ≡ Some l) = party_there place number home.0 its.0 home.1 its.1 (party_at r.parties (who.App place number)) refl in
      record {
        node = home.0;
        app = its.0;
        log = log.0;
        at = opened.at;
        there = home.1;
        runs = its.1;
        logged = log.1;
        opened = subst (λ es. slice_get (openings number es) opened.at ≡ Some x) (sym (router_entries place)) opened.there;
        slot = read.slot;
      }

  pub are_numbered : AllByRecursion TellsNumbered r.parties → AreNumbered scene.nodes r.parties
  are_numbered tell place number x shown = opened_numbered (is_who (who.Router place)) r.parties number shown.at x tell shown.opened

  took_same : (place number : ℕ) (x : Opening) → took_there r.parties place number x ≡ took_on r place number x
  took_same place number x = ap (took (seat number x.slot) x.ordinal) (app_entries place number)

  sent_same : (place number : ℕ) (x : Opening) → sent_there r.parties place number x ≡ sent_on r place number x
  sent_same place number x = ap (sent (seat number x.slot) x.ordinal) (router_entries place)

  module _ (prefix : IsReliablePrefix r) (place number nth : ℕ) (x : Opening) (flow : ℕ × ℕ) (shown : IsShown scene.nodes r.parties place number x) (own : x.nth ≡ Some nth) (peers : x.peer ≡ Some flow) where
    theirs : HasPeersPrefix r place number x flow
    theirs = prefix place number nth x flow (opened_of place number x shown) own peers

    first_of : (other : ℕ) (y : Opening) → IsShownOf scene.nodes r.parties flow other y → AreFirstOf (took_there r.parties place number x) (sent_there r.parties flow.0 other y)
    first_of other y of =
        let begins : IsBeginning (took_on r place number x) (sent_on r flow.0 other y) = theirs.prefix other y (opened_of flow.0 other y of.0, of.1) in
        record { rest = begins.rest; whole = ap (λ (ps : List (List ℕ)). ps ++ begins.rest) (took_same place number x) ∙ begins.whole ∙ sym (sent_same flow.0 other y) }

    none_of : ((other : ℕ) (y : Opening) → IsShownOf scene.nodes r.parties flow other y → ⊥) → took_there r.parties place number x ≡ []
    none_of none = took_same place number x ∙ theirs.never (λ other y of. none other y (shown_of flow.0 other y of.0, of.1))

    peers_first : HasPeersFirst scene.nodes r.parties place number x flow
    peers_first = record { prefix = first_of; never = none_of }

  pub prefixes : IsReliablePrefix r → HavePeersFirst scene.nodes r.parties
  prefixes prefix place number nth x flow shown own peers = peers_first prefix place number nth x flow shown own peers

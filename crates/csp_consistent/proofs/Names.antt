-- The parties of a scene have different names, so that the entries of a name are those of one log.
use Rattle.std.proofs.Common.{◌≡◌, ◌⊎◌, inl, inr, ℕ, ◌+◌, ◌≤◌, Bool, true, false, ◌&&◌, Option, Some, None, List, [], ◌∷◌, ◌++◌, ◌==◌, zero, suc, unwrap_or, slice_get, flat_map, refl, sym, ap, ◌∙◌, subst, arith, append-nil, le_refl}
use Rattle.std.specs.Prelude.{if◌then◌else◌, ⊤}
use Rattle.std.specs.List.{AllByRecursion}
use Rattle.std.proofs.lemmas.Bool.{eqb-true, eq-eqb}
use Rattle.csp_log.specs.declared.entry.Entry.{Entry}
use Rattle.csp_record.specs.Record.{PlainPartyLog}
use Rattle.csp_log.specs.Who.{is_who}
use Rattle.csp_log.specs.declared.who.Who.{Who}
use Rattle.csp_log.specs.declared.who.Who.TheVariants as who
use Rattle.csp_scene.proofs.Public.{AllByRecursion-append, AllByRecursion-map}
use Rattle.csp_scene.specs.Links.{links_at}
use Rattle.csp_scene.specs.Scene.{PlainScene, PlainNode, PlainLink, PlainApp}
use Rattle.csp_topology.specs.Parties.{PlainOpening, parties_of, parties_from, parties_at, links_from, ifaces_from, apps_from, leader_opening}
use Rattle.csp_consistent.specs.Runs.{IsLogOf, AreLogsOf}

both_true : (a b : Bool) → (a && b) ≡ true → (a ≡ true) × (b ≡ true)
both_true true b e = (refl, e)
both_true false b e = absurd cc

both_same : (a b : Bool) → a ≡ true → b ≡ true → (a && b) ≡ true
both_same true b e f = f
both_same false b e f = e

-- a party is the one of its own name, and of no other
pub who_same : (w : Who) → is_who w w ≡ true
who_same (who.Router node) = eq-eqb node node refl
who_same (who.Bridge node) = eq-eqb node node refl
who_same (who.Iface node number) = both_same _ _ (eq-eqb node node refl) (eq-eqb number number refl)
who_same (who.App node number) = both_same _ _ (eq-eqb node node refl) (eq-eqb number number refl)
who_same (who.Link number) = eq-eqb number number refl

pub who_is : (a b : Who) → is_who a b ≡ true → a ≡ b
who_is (who.Router node) (who.Router other) e = ap who.Router (sym (eqb-true other node e))
who_is (who.Bridge node) (who.Bridge other) e = ap who.Bridge (sym (eqb-true other node e))
who_is (who.Iface node number) (who.Iface other k) e =
    let both : ((other == node) ≡ true) × ((k == number) ≡ true) = both_true (other == node) (k == number) e in
    λ i. who.Iface (sym (eqb-true other node both.0) i) (sym (eqb-true k number both.1) i)
who_is (who.App node number) (who.App other k) e =
    let both : ((other == node) ≡ true) × ((k == number) ≡ true) = both_true (other == node) (k == number) e in
    λ i. who.App (sym (eqb-true other node both.0) i) (sym (eqb-true k number both.1) i)
who_is (who.Link number) (who.Link k) e = ap who.Link (sym (eqb-true k number e))
who_is _ _ e = absurd cc

-- no party has this name
abbrev pub HasNone : Who → List PlainOpening → Type 0
HasNone w os = AllByRecursion (λ o. is_who w o.who ≡ false) os

-- no two parties have one name
abbrev pub AreApart : List PlainOpening → Type 0
AreApart [] = ⊤
AreApart (o ∷ os) = HasNone o.who os × AreApart os

-- the entries of a name in these logs
abbrev pub entries_in : Who → List PlainPartyLog → List Entry
entries_in w logs = flat_map (λ party. if is_who w party.who then party.entries else []) logs

-- a name's log: that of the one party of this name, of which this holds
pub record Logged (P : PlainOpening → Type 0) (w : Who) (logs : List PlainPartyLog) : Type 0 where
  pub opening : PlainOpening
  pub log : PlainPartyLog
  pub holds : P opening
  pub name : opening.who ≡ w
  pub logged : IsLogOf opening log
  pub entries : entries_in w logs ≡ log.entries

-- a name that no party has has no entries
pub none_there : (w : Who) (os : List PlainOpening) (logs : List PlainPartyLog) → AreLogsOf os logs → HasNone w os → entries_in w logs ≡ []
none_there w [] [] are none = refl
none_there w [] (log ∷ logs) are none = absurd are
none_there w (o ∷ os) [] are none = absurd are
none_there w (o ∷ os) (log ∷ logs) are none =
    ap (λ b. (if b then log.entries else []) ++ entries_in w logs) (ap (is_who w) are.0.who ∙ none.0) ∙ none_there w os logs are.1 none.1

this_log : (P : PlainOpening → Type 0) (w : Who) (o : PlainOpening) (os : List PlainOpening) (log : PlainPartyLog) (logs : List PlainPartyLog)
    → IsLogOf o log → AreLogsOf os logs → HasNone o.who os → P o → is_who w o.who ≡ true → Logged P w (log ∷ logs)
this_log P w o os log logs one are none holds e =
    let same : w ≡ o.who = who_is w o.who e in
    record {
      opening = o;
      log = log;
      holds = holds;
      name = sym same;
      logged = one;
      entries = ap (λ b. (if b then log.entries else []) ++ entries_in w logs) (ap (is_who w) one.who ∙ e)
          ∙ ap (λ es. log.entries ++ es) (none_there w os logs are (subst (λ x. HasNone x os) (sym same) none))
          ∙ append-nil log.entries;
    }

later_log : (P : PlainOpening → Type 0) (w : Who) (log : PlainPartyLog) (logs : List PlainPartyLog) → is_who w log.who ≡ false → Logged P w logs → Logged P w (log ∷ logs)
later_log P w log logs other l = record {
  opening = l.opening;
  log = l.log;
  holds = l.holds;
  name = l.name;
  logged = l.logged;
  entries = ap (λ b. (if b then log.entries else []) ++ entries_in w logs) other ∙ l.entries;
}

-- no party has a name, or its log is that of the one that has it
pub found : (P : PlainOpening → Type 0) (w : Who) (os : List PlainOpening) (logs : List PlainPartyLog) → AreLogsOf os logs → AreApart os → AllByRecursion P os → HasNone w os ⊎ Logged P w logs
found P w [] [] are apart each = inl tt
found P w [] (log ∷ logs) are apart each = absurd are
found P w (o ∷ os) [] are apart each = absurd are
found P w (o ∷ os) (log ∷ logs) are apart each =
    first (is_who w o.who) refl (found P w os logs are.1 apart.1 each.1)
  where
    first : (b : Bool) → is_who w o.who ≡ b → HasNone w os ⊎ Logged P w logs → HasNone w (o ∷ os) ⊎ Logged P w (log ∷ logs)
    first true e later = inr (this_log P w o os log logs are.0 are.1 apart.0 each.0 e)
    first false e (inl none) = inl (e, none)
    first false e (inr l) = inr (later_log P w log logs (ap (is_who w) are.0.who ∙ e) l)

-- the entries of the name of the party in this place are those of the log there
pub entries_at : (os : List PlainOpening) (logs : List PlainPartyLog) (k : ℕ) (o : PlainOpening) → AreLogsOf os logs → AreApart os → slice_get os k ≡ Some o
    → (log : PlainPartyLog) × (slice_get logs k ≡ Some log) × IsLogOf o log × (entries_in o.who logs ≡ log.entries)
unfolding this_log
entries_at [] logs k o are apart e = absurd cc
entries_at (x ∷ os) [] k o are apart e = absurd are
entries_at (x ∷ os) (log ∷ logs) zero o are apart e =
    let same : x ≡ o = ap (λ found. unwrap_or found x) e in
    let mine : IsLogOf o log = subst (λ y. IsLogOf y log) same are.0 in
    let none : HasNone o.who os = subst (λ y. HasNone y.who os) same apart.0 in
    (log, refl, mine, (this_log (λ _. ⊤) o.who o os log logs mine are.1 none tt (who_same o.who)).entries)
entries_at (x ∷ os) (log ∷ logs) (suc k) o are apart e =
    let rest : (l : PlainPartyLog) × (slice_get logs k ≡ Some l) × IsLogOf o l × (entries_in o.who logs ≡ l.entries) = entries_at os logs k o are.1 apart.1 e in
    let other : is_who o.who x.who ≡ false = differs x o os k apart.0 e in
    (rest.0, rest.1, rest.2, ap (λ b. (if b then log.entries else []) ++ entries_in o.who logs) (ap (is_who o.who) are.0.who ∙ other) ∙ rest.3)
  where
    swapped : (a b : Who) → is_who a b ≡ false → (c : Bool) → is_who b a ≡ c → c ≡ false
    swapped a b e true f = sym (who_same a) ∙ ap (λ w. is_who a w) (sym (who_is b a f)) ∙ e
    swapped a b e false f = refl

    differs : (x o : PlainOpening) (os : List PlainOpening) (k : ℕ) → HasNone x.who os → slice_get os k ≡ Some o → is_who o.who x.who ≡ false
    differs x o [] k none e = absurd cc
    differs x o (y ∷ os) zero none e = swapped x.who o.who (subst (λ z. is_who x.who z.who ≡ false) (ap (λ found. unwrap_or found y) e) none.0) (is_who o.who x.who) refl
    differs x o (y ∷ os) (suc k) none e = differs x o os k none.1 e

-- where each name of a list is of a class and this one is not, the list has it not
none_of : (C : Who → Type 0) (w : Who) (os : List PlainOpening) → AllByRecursion (λ o. C o.who) os → (C w → ⊥) → HasNone w os
none_of C w [] each never = tt
none_of C w (o ∷ os) each never =
    (differs (is_who w o.who) refl, none_of C w os each.1 never)
  where
    differs : (b : Bool) → is_who w o.who ≡ b → is_who w o.who ≡ false
    differs true e = absurd (never (subst C (sym (who_is w o.who e)) each.0))
    differs false e = e

apart_both : (C D : Who → Type 0) (xs ys : List PlainOpening) → AllByRecursion (λ o. C o.who) xs → AllByRecursion (λ o. D o.who) ys → ((w : Who) → C w → D w → ⊥) → AreApart xs → AreApart ys → AreApart (xs ++ ys)
apart_both C D [] ys cs ds never left right = right
apart_both C D (x ∷ xs) ys cs ds never left right =
    (AllByRecursion-append (λ o. is_who x.who o.who ≡ false) xs ys left.0 (none_of D x.who ys ds (never x.who cs.0)), apart_both C D xs ys cs.1 ds never left.1 right)

-- classes of names: by what the party is, by its number and by its node
abbrev IsLinkFrom : ℕ → Who → Type 0
IsLinkFrom n (who.Link k) = n ≤ k
IsLinkFrom n _ = ⊥

abbrev IsIfaceFrom : ℕ → Who → Type 0
IsIfaceFrom n (who.Iface node k) = n ≤ k
IsIfaceFrom n _ = ⊥

abbrev IsAppFrom : ℕ → Who → Type 0
IsAppFrom n (who.App node k) = n ≤ k
IsAppFrom n _ = ⊥

abbrev IsPart : Who → Type 0
IsPart (who.Iface node k) = ⊤
IsPart (who.App node k) = ⊤
IsPart _ = ⊥

abbrev IsAt : ℕ → Who → Type 0
IsAt place (who.Router node) = node ≡ place
IsAt place (who.Bridge node) = node ≡ place
IsAt place (who.Iface node k) = node ≡ place
IsAt place (who.App node k) = node ≡ place
IsAt place (who.Link k) = ⊥

abbrev IsFrom : ℕ → Who → Type 0
IsFrom place (who.Router node) = place ≤ node
IsFrom place (who.Bridge node) = place ≤ node
IsFrom place (who.Iface node k) = place ≤ node
IsFrom place (who.App node k) = place ≤ node
IsFrom place (who.Link k) = ⊥

links_all : (n m : ℕ) (links : List PlainLink) → m ≤ n → AllByRecursion (λ o. IsLinkFrom m o.who) (links_from n links)
links_all n m [] h = tt
links_all n m (l ∷ links) h = (h, links_all (n + 1) m links (omega (arith, h)))

links_apart : (n : ℕ) (links : List PlainLink) → AreApart (links_from n links)
links_apart n [] = tt
links_apart n (l ∷ links) = (none_of (IsLinkFrom (n + 1)) (who.Link n) (links_from (n + 1) links) (links_all (n + 1) (n + 1) links (le_refl (n + 1))) (λ h. omega (arith, h)), links_apart (n + 1) links)

ifaces_all : (place : ℕ) (addr : Option ℕ) (n m : ℕ) (links : List PlainLink) → m ≤ n → AllByRecursion (λ o. IsIfaceFrom m o.who) (ifaces_from place addr n links)
ifaces_all place addr n m [] h = tt
ifaces_all place addr n m (l ∷ links) h = (h, ifaces_all place addr (n + 1) m links (omega (arith, h)))

ifaces_apart : (place : ℕ) (addr : Option ℕ) (n : ℕ) (links : List PlainLink) → AreApart (ifaces_from place addr n links)
ifaces_apart place addr n [] = tt
ifaces_apart place addr n (l ∷ links) =
    (none_of (IsIfaceFrom (n + 1)) (who.Iface place n) (ifaces_from place addr (n + 1) links) (ifaces_all place addr (n + 1) (n + 1) links (le_refl (n + 1))) (λ h. omega (arith, h)), ifaces_apart place addr (n + 1) links)

apps_all : (place n m : ℕ) (apps : List PlainApp) → m ≤ n → AllByRecursion (λ o. IsAppFrom m o.who) (apps_from place n apps)
apps_all place n m [] h = tt
apps_all place n m (a ∷ apps) h = (h, apps_all place (n + 1) m apps (omega (arith, h)))

apps_apart : (place n : ℕ) (apps : List PlainApp) → AreApart (apps_from place n apps)
apps_apart place n [] = tt
apps_apart place n (a ∷ apps) =
    (none_of (IsAppFrom (n + 1)) (who.App place n) (apps_from place (n + 1) apps) (apps_all place (n + 1) (n + 1) apps (le_refl (n + 1))) (λ h. omega (arith, h)), apps_apart place (n + 1) apps)

never_both : (w : Who) → IsIfaceFrom 0 w → IsAppFrom 0 w → ⊥
never_both (who.Iface _ _) one other = other
never_both (who.Router _) one other = one
never_both (who.Bridge _) one other = one
never_both (who.App _ _) one other = one
never_both (who.Link _) one other = one

-- the interfaces and applications of a node
parts_part : (place : ℕ) (addr : Option ℕ) (links : List PlainLink) (n m : ℕ) (apps : List PlainApp) → AllByRecursion (λ o. IsPart o.who) (ifaces_from place addr n links ++ apps_from place m apps)
parts_part place addr [] n m [] = tt
parts_part place addr [] n m (a ∷ apps) = (tt, parts_part place addr [] n (m + 1) apps)
parts_part place addr (l ∷ links) n m apps = (tt, parts_part place addr links (n + 1) m apps)

parts_at : (place : ℕ) (addr : Option ℕ) (links : List PlainLink) (n m : ℕ) (apps : List PlainApp) → AllByRecursion (λ o. IsAt place o.who) (ifaces_from place addr n links ++ apps_from place m apps)
parts_at place addr [] n m [] = tt
parts_at place addr [] n m (a ∷ apps) = (refl, parts_at place addr [] n (m + 1) apps)
parts_at place addr (l ∷ links) n m apps = (refl, parts_at place addr links (n + 1) m apps)

hub_none : (addr : Option ℕ) (place : ℕ) (n : PlainNode) (links : List PlainLink) (os : List PlainOpening) → AllByRecursion (λ o. IsPart o.who) os → HasNone (leader_opening addr place n links).who os
hub_none None place n links os each = none_of IsPart (who.Bridge place) os each (λ h. h)
hub_none (Some addr) place n links os each = none_of IsPart (who.Router place) os each (λ h. h)

hub_at : (addr : Option ℕ) (place : ℕ) (n : PlainNode) (links : List PlainLink) → IsAt place (leader_opening addr place n links).who
hub_at None place n links = refl
hub_at (Some addr) place n links = refl

node_at : (place : ℕ) (n : PlainNode) (links : List PlainLink) → AllByRecursion (λ o. IsAt place o.who) (parties_at place n links)
node_at place n links = (hub_at n.addr place n links, parts_at place n.addr links 0 0 n.apps)

node_apart : (place : ℕ) (n : PlainNode) (links : List PlainLink) → AreApart (parties_at place n links)
node_apart place n links = (
  hub_none n.addr place n links (ifaces_from place n.addr 0 links ++ apps_from place 0 n.apps) (parts_part place n.addr links 0 0 n.apps),
  apart_both (IsIfaceFrom 0) (IsAppFrom 0) (ifaces_from place n.addr 0 links) (apps_from place 0 n.apps) (ifaces_all place n.addr 0 0 links (le_refl 0)) (apps_all place 0 0 n.apps (le_refl 0)) never_both
      (ifaces_apart place n.addr 0 links) (apps_apart place 0 n.apps),
)

-- the nodes
at_from : (place m : ℕ) → m ≤ place → (w : Who) → IsAt place w → IsFrom m w
at_from place m h (who.Router node) e = omega (arith, h, e)
at_from place m h (who.Bridge node) e = omega (arith, h, e)
at_from place m h (who.Iface node _) e = omega (arith, h, e)
at_from place m h (who.App node _) e = omega (arith, h, e)
at_from place m h (who.Link _) e = e

at_never : (place : ℕ) (w : Who) → IsAt place w → IsFrom (place + 1) w → ⊥
at_never place (who.Router node) e h = omega (arith, h, e)
at_never place (who.Bridge node) e h = omega (arith, h, e)
at_never place (who.Iface node _) e h = omega (arith, h, e)
at_never place (who.App node _) e h = omega (arith, h, e)
at_never place (who.Link _) e h = e

from_never : (w : Who) → IsFrom 0 w → IsLinkFrom 0 w → ⊥
from_never (who.Router node) e h = h
from_never (who.Bridge node) e h = h
from_never (who.Iface node _) e h = h
from_never (who.App node _) e h = h
from_never (who.Link _) e h = e

nodes_all : (place m : ℕ) (nodes : List PlainNode) (links : List PlainLink) → m ≤ place → AllByRecursion (λ o. IsFrom m o.who) (parties_from place nodes links)
nodes_all place m [] links h = tt
nodes_all place m (n ∷ nodes) links h =
    AllByRecursion-append (λ (o : PlainOpening). IsFrom m o.who) (parties_at place n (links_at place links)) (parties_from (place + 1) nodes links)
    (AllByRecursion-map (λ (o : PlainOpening). IsAt place o.who) (λ o. IsFrom m o.who) (parties_at place n (links_at place links)) (λ o e. at_from place m h o.who e) (node_at place n (links_at place links)))
    (nodes_all (place + 1) m nodes links (omega (arith, h)))

nodes_apart : (place : ℕ) (nodes : List PlainNode) (links : List PlainLink) → AreApart (parties_from place nodes links)
nodes_apart place [] links = tt
nodes_apart place (n ∷ nodes) links =
    apart_both (IsAt place) (IsFrom (place + 1)) (parties_at place n (links_at place links)) (parties_from (place + 1) nodes links)
    (node_at place n (links_at place links)) (nodes_all (place + 1) (place + 1) nodes links (le_refl (place + 1))) (at_never place)
    (node_apart place n (links_at place links)) (nodes_apart (place + 1) nodes links)

-- no two parties of a scene have one name
pub are_apart : (scene : PlainScene) → AreApart (parties_of scene)
unfolding parties_of
are_apart scene =
    apart_both (IsFrom 0) (IsLinkFrom 0) (parties_from 0 scene.nodes scene.links) (links_from 0 scene.links)
    (nodes_all 0 0 scene.nodes scene.links (le_refl 0)) (links_all 0 0 scene.links (le_refl 0)) from_never
    (nodes_apart 0 scene.nodes scene.links) (links_apart 0 scene.links)

-- Where the connections of a record have prefixes, the connections that its report tells of have theirs.
use Rattle.std.proofs.Common.{◌≡◌, ℕ, ◌<◌, ◌^◌, true, ◌&&◌, Option, None, Some, List, [], ◌∷◌, ◌++◌, length, drop, get_or, map, unwrap_or, refl, sym, ap, subst, ◌∙◌, arith}
use Rattle.std.specs.Prelude.{codes, slice_get, IfSome, IsTrue}
use Rattle.std.specs.List.{AllByRecursion, starts_with}
use Rattle.std.specs.Fmt.{decimal}
use Rattle.std.specs.Option.{option_map}
use Rattle.std.specs.Str.{bytes_eq}
use Rattle.std.proofs.lemmas.Fmt.{decimal_injective}
use Rattle.std.proofs.lemmas.Slice.Eq.{bytes_eq-Decides}
use Rattle.csp_record.specs.Record.{PlainPartyLog}
use Rattle.csp_base.specs.Seat.{seat}
use Rattle.csp_record.specs.Payloads.{took}
use Rattle.csp_record.specs.declared.connections.Opening.{Opening}
use Rattle.csp_scene.specs.Naming.{AreNamedApart}
use Rattle.csp_scene.specs.Scene.{PlainNode}
use Rattle.csp_report.specs.Conns.{peer_flow, rdp_words, kind_words, opening_line, bytes_word}
use Rattle.csp_report.specs.Lines.{Line}
use Rattle.csp_report.specs.Parties.{entries_of}
use Rattle.csp_report.specs.ReliablePrefix.{ToldConnection, IsOfFlow, HasPeer, HasPeersTexts, HavePeersTexts}
use Rattle.csp_report.specs.Shown.{IsShown, AreNumbered, sent_there, took_there, AreFirstOf, IsShownOf, HasPeersFirst, HavePeersFirst}
use Rattle.csp_report.proofs.ToldLines.{report_told}
use Rattle.csp_report.proofs.ToldPrefix.{told_here, IsToldOf, all_shown, told_shown}

-- ---- what the words of a line say

word_at : (n : ℕ) (xs ys : Line) → xs ≡ ys → get_or xs n [] ≡ get_or ys n []
word_at n xs ys e = ap (λ (ws : Line). get_or ws n []) e

-- the words `rdp NTH peer NODE NTH2` are those of a connection with a number, whose peer's node is there
record IsPeers (nodes : List PlainNode) (o : Opening) (node nth : List ℕ) : Type 0 where
  pub own : ℕ
  pub flow : ℕ × ℕ
  pub home : PlainNode
  pub own_is : o.nth ≡ Some own
  pub peer_is : o.peer ≡ Some flow
  pub there : slice_get nodes flow.0 ≡ Some home
  pub name : home.name ≡ node
  pub number : decimal flow.1 ≡ nth

module _ (nodes : List PlainNode) (o : Opening) (own_nth node nth : List ℕ) where
  abbrev peer_words : Line
  peer_words = codes "rdp" ∷ own_nth ∷ codes "peer" ∷ node ∷ nth ∷ []

  no_peer : (own : ℕ) → rdp_words own None ≡ peer_words → IsPeers nodes o node nth
  no_peer own e = absurd (omega (arith, ap (λ (ws : Line). length ws) e))

  at_home : (own : ℕ) (flow : ℕ × ℕ) (home : Option PlainNode) → o.nth ≡ Some own → o.peer ≡ Some flow → slice_get nodes flow.0 ≡ home → rdp_words own (option_map (λ n. (n.name, flow.1)) home) ≡ peer_words → IsPeers nodes o node nth
  at_home own flow None own_is peer_is there e = no_peer own e
  at_home own flow (Some home) own_is peer_is there e = record {
    own = own;
    flow = flow;
    home = home;
    own_is = own_is;
    peer_is = peer_is;
    there = there;
    name = word_at 3 (rdp_words own (Some (home.name, flow.1))) peer_words e;
    number = word_at 4 (rdp_words own (Some (home.name, flow.1))) peer_words e;
  }

  with_peer : (own : ℕ) (peer : Option (ℕ × ℕ)) → o.nth ≡ Some own → o.peer ≡ peer → rdp_words own (peer_flow nodes peer) ≡ peer_words → IsPeers nodes o node nth
  with_peer own None own_is peer_is e = no_peer own e
  with_peer own (Some flow) own_is peer_is e = at_home own flow (slice_get nodes flow.0) own_is peer_is refl e

  are_peers : (own : Option ℕ) → o.nth ≡ own → kind_words own (peer_flow nodes o.peer) ≡ peer_words → IsPeers nodes o node nth
  are_peers None own_is e = absurd (omega (arith, ap (λ (ws : Line). length ws) e))
  are_peers (Some own) own_is e = with_peer own o.peer own_is refl e

-- and the words `rdp NTH ..` are those of a connection with this number
record IsOwn (o : Opening) (nth : List ℕ) : Type 0 where
  pub own : ℕ
  pub own_is : o.nth ≡ Some own
  pub number : decimal own ≡ nth

is_own : (o : Opening) (flow : Option (List ℕ × ℕ)) (nth : List ℕ) (more : Line) (own : Option ℕ) → o.nth ≡ own → kind_words own flow ≡ codes "rdp" ∷ nth ∷ more → IsOwn o nth
is_own o flow nth more None own_is e = absurd (omega (arith, ap (λ (ws : Line). length ws) e))
is_own o None nth more (Some own) own_is e = record { own = own; own_is = own_is; number = word_at 1 (rdp_words own None) (codes "rdp" ∷ nth ∷ more) e }
is_own o (Some flow) nth more (Some own) own_is e = record { own = own; own_is = own_is; number = word_at 1 (rdp_words own (Some flow)) (codes "rdp" ∷ nth ∷ more) e }

own_words : (own : ℕ) (flow : Option (List ℕ × ℕ)) → rdp_words own flow ≡ codes "rdp" ∷ decimal own ∷ drop 2 (rdp_words own flow)
own_words own None = refl
own_words own (Some flow) = refl

-- ---- payloads and their texts

same : (word : List ℕ) → bytes_eq word word ≡ true
same word = (bytes_eq-Decides word word).1 refl

begin_so : (some rest : List (List ℕ)) → starts_with bytes_eq (map bytes_word (some ++ rest)) (map bytes_word some) ≡ true
begin_so [] rest = refl
begin_so (payload ∷ some) rest = ap (λ t. t && starts_with bytes_eq (map bytes_word (some ++ rest)) (map bytes_word some)) (same (bytes_word payload)) ∙ begin_so some rest

texts_begin : (some all : List (List ℕ)) → AreFirstOf some all → IsTrue (starts_with bytes_eq (map bytes_word all) (map bytes_word some))
texts_begin some all first = subst (λ (ps : List (List ℕ)). starts_with bytes_eq (map bytes_word ps) (map bytes_word some) ≡ true) first.whole (begin_so some first.rest)

-- ---- each connection that a report tells of

module _ (nodes : List PlainNode) (parties : List PlainPartyLog) (apart : AreNamedApart nodes) (numbered : AreNumbered nodes parties) (first : HavePeersFirst nodes parties) where
  abbrev told : List ToldConnection
  told = report_told nodes parties

  bound : (P : ℕ → Type 0) (o : Option ℕ) (n : ℕ) → IfSome o P → o ≡ Some n → P n
  bound P o n h e = subst (λ q. IfSome q P) e h

  flow_bound : (P : ℕ × ℕ → Type 0) (o : Option (ℕ × ℕ)) (flow : ℕ × ℕ) → IfSome o P → o ≡ Some flow → P flow
  flow_bound P o flow h e = subst (λ q. IfSome q P) e h

  module _ (place number : ℕ) (o : Opening) (shown : IsShown nodes parties place number o) (node nth : List ℕ) (peers : IsPeers nodes o node nth) where
    abbrev x_told : ToldConnection
    x_told = told_here nodes parties place number o shown

    peers_first : HasPeersFirst nodes parties place number o peers.flow
    peers_first = first place number peers.own o peers.flow shown peers.own_is peers.peer_is

    took_same : took_there parties place number o ≡ took (seat number o.slot) o.ordinal shown.log.entries
    took_same = ap (λ party. took (seat number o.slot) o.ordinal (entries_of party)) shown.logged

    -- one of the peer's flow
    module _ (p k : ℕ) (q : Opening) (there : IsShown nodes parties p k q) (of_flow : IsOfFlow node nth (told_here nodes parties p k q there)) where
      node_is : there.node.name ≡ node
      node_is = word_at 1 (opening_line nodes there.node.name there.app.name q) (codes "conn" ∷ node ∷ of_flow.app ∷ of_flow.slot ∷ of_flow.ordinal ∷ codes "rdp" ∷ nth ∷ of_flow.more) of_flow.form

      own : IsOwn q nth
      own = is_own q (peer_flow nodes q.peer) nth of_flow.more q.nth refl (ap (λ (ws : Line). drop 5 ws) of_flow.form)

      place_is : p ≡ peers.flow.0
      place_is = apart p peers.flow.0 there.node peers.home there.there peers.there (node_is ∙ sym peers.name)

      number_is : own.own ≡ peers.flow.1
      number_is =
          decimal_injective own.own peers.flow.1
          (bound (λ n. n < 2 ^ 64) q.nth own.own (numbered p k q there).own own.own_is)
          (flow_bound (λ flow. flow.1 < 2 ^ 64) o.peer peers.flow (numbered place number o shown).peers peers.peer_is)
          (own.number ∙ sym peers.number)

      shown_of : IsShownOf nodes parties peers.flow k q
      shown_of = (subst (λ n. IsShown nodes parties n k q) place_is there, own.own_is ∙ ap Some number_is)

      begins : AreFirstOf (took (seat number o.slot) o.ordinal shown.log.entries) (sent_there parties p k q)
      begins =
          subst (λ n. AreFirstOf (took (seat number o.slot) o.ordinal shown.log.entries) (sent_there parties n k q)) (sym place_is)
          (subst (λ ps. AreFirstOf ps (sent_there parties peers.flow.0 k q)) took_same (peers_first.prefix k q shown_of))

      one_prefix : IsTrue (starts_with bytes_eq (told_here nodes parties p k q there).sent x_told.took)
      one_prefix = texts_begin (took (seat number o.slot) o.ordinal shown.log.entries) (sent_there parties p k q) begins

    each_prefix : (ys : List ToldConnection) → AllByRecursion (IsToldOf nodes parties) ys → AllByRecursion (λ y. IsOfFlow node nth y → IsTrue (starts_with bytes_eq y.sent x_told.took)) ys
    each_prefix [] all = tt
    each_prefix (y ∷ ys) all = (
      subst (λ z. IsOfFlow node nth z → IsTrue (starts_with bytes_eq z.sent x_told.took)) (sym all.0.form) (one_prefix all.0.place all.0.number all.0.opening all.0.shown),
      each_prefix ys all.1,
    )

    -- one that is shown and of the peer's flow is told so
    told_so : (k : ℕ) (q : Opening) (there : IsShown nodes parties peers.flow.0 k q) → q.nth ≡ Some peers.flow.1 → IsOfFlow node nth (told_here nodes parties peers.flow.0 k q there)
    told_so k q there own_is = record {
      app = there.app.name;
      slot = decimal q.slot;
      ordinal = decimal q.ordinal;
      more = drop 2 (rdp_words peers.flow.1 (peer_flow nodes q.peer));
      form =
          ap (λ own. opening_line nodes there.node.name there.app.name (record q { nth = own })) own_is
          ∙ ap (λ (ws : Line). codes "conn" ∷ there.node.name ∷ there.app.name ∷ decimal q.slot ∷ decimal q.ordinal ∷ ws) (own_words peers.flow.1 (peer_flow nodes q.peer))
          ∙ ap (λ (number' : List ℕ). codes "conn" ∷ there.node.name ∷ there.app.name ∷ decimal q.slot ∷ decimal q.ordinal ∷ codes "rdp" ∷ number' ∷ drop 2 (rdp_words peers.flow.1 (peer_flow nodes q.peer))) peers.number
          ∙ ap (λ (name : List ℕ). codes "conn" ∷ name ∷ there.app.name ∷ decimal q.slot ∷ decimal q.ordinal ∷ codes "rdp" ∷ nth ∷ drop 2 (rdp_words peers.flow.1 (peer_flow nodes q.peer))) (name_is there.node there.there);
    }
      where
        name_is : (n : PlainNode) → slice_get nodes peers.flow.0 ≡ Some n → n.name ≡ node
        name_is n e = ap (λ found. (unwrap_or found n).name) (sym e ∙ peers.there) ∙ peers.name

    none_taken : AllByRecursion (λ y. IsOfFlow node nth y → ⊥) told → x_told.took ≡ []
    none_taken none =
        ap (map bytes_word)
        (sym took_same
        ∙ peers_first.never (λ k q of. told_shown nodes parties (λ y. IsOfFlow node nth y → ⊥) none peers.flow.0 k q of.0 (told_so k q of.0 of.1)))

    has_texts : HasPeersTexts told node nth x_told
    has_texts = record { prefix = each_prefix told (all_shown nodes parties); never = none_taken }

  one_has : (place number : ℕ) (o : Opening) (shown : IsShown nodes parties place number o) (node nth : List ℕ) → HasPeer node nth (told_here nodes parties place number o shown)
      → HasPeersTexts told node nth (told_here nodes parties place number o shown)
  one_has place number o shown node nth peer =
      has_texts place number o shown node nth (are_peers nodes o peer.own_nth node nth o.nth refl (ap (λ (ws : Line). drop 5 ws) peer.form))

  each_has : (xs : List ToldConnection) → AllByRecursion (IsToldOf nodes parties) xs → AllByRecursion (λ x. (node nth : List ℕ) → HasPeer node nth x → HasPeersTexts told node nth x) xs
  each_has [] all = tt
  each_has (x ∷ xs) all = (
    subst (λ z. (node nth : List ℕ) → HasPeer node nth z → HasPeersTexts told node nth z) (sym all.0.form) (one_has all.0.place all.0.number all.0.opening all.0.shown),
    each_has xs all.1,
  )

  -- all that the report tells of have theirs
  pub have_texts : HavePeersTexts (report_told nodes parties)
  have_texts = each_has told (all_shown nodes parties)

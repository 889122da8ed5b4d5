-- The header of each packet whose transmission a record shows is a word, where those of all that were fetched are.
use Rattle.std.proofs.Common.{◌≡◌, ℕ, ◌<◌, ◌^◌, Bool, true, false, Option, None, Some, List, [], ◌∷◌, refl, sym, ◌∙◌, subst}
use Rattle.std.specs.List.{AllByRecursion, cons_option, list_any}
use Rattle.std.specs.Prelude.{if◌then◌else◌}
use Rattle.csp_base.specs.declared.traces.Origin.{Origin}
use Rattle.csp_buffer.specs.Content.{Content}
use Rattle.csp_log.specs.Headers.{IsWord, MovesWord, MoveWords}
use Rattle.csp_log.specs.Moving.{moved_in}
use Rattle.csp_log.specs.declared.entry.Entry.{Entry}
use Rattle.csp_log.specs.declared.moved.Moved.{Moved}
use Rattle.csp_log.specs.declared.moved.Moved.TheVariants as moved
use Rattle.csp_log.specs.declared.places.QueueId.TheVariants as queue
use Rattle.csp_record.specs.Record.{PlainPartyLog, PlainRecord}
use Rattle.csp_record.specs.Transmissions.{fetched, iface_entries, is_beginning, shown_in, transmission}
use Rattle.csp_log.specs.Who.{is_iface}
use Rattle.csp_scene.proofs.Public.{AllByRecursion-append}
use Rattle.csp_consistent.proofs.Public.{first_given}
use Rattle.csp_ordinary.specs.Words.{HasWords, all_fetched}

-- ---- entry by entry

-- what was fetched was moved
fetched-word : (m : Moved) (more : List Content) → MovesWord m → AllByRecursion IsWord more → AllByRecursion IsWord (cons_option (fetched m) more)
fetched-word (moved.Pushed q p) more h hs = hs
fetched-word (moved.Popped (queue.Out number) p) more h hs = (h, hs)
fetched-word (moved.Popped queue.Inbox p) more h hs = hs
fetched-word (moved.Popped (queue.Up _) p) more h hs = hs
fetched-word (moved.Popped (queue.Down _) p) more h hs = hs
fetched-word (moved.Popped (queue.Tx _) p) more h hs = hs
fetched-word (moved.Popped (queue.Rx _) p) more h hs = hs
fetched-word moved.NoPacket more h hs = hs

pub fetched_words : (es : List Entry) → MoveWords es → AllByRecursion IsWord (all_fetched es)
fetched_words [] all = tt
fetched_words (e ∷ es) all = fetched-word (moved_in e) (all_fetched es) all.0 (fetched_words es all.1)

-- ---- what a record shows

pub none_some : {X : Type 0} (x : X) → ◌≡◌ {A = Option X} None (Some x) → ⊥
none_some x e = cc

pub some_same : (a b : Content) → ◌≡◌ {A = Option Content} (Some a) (Some b) → a ≡ b
some_same a b e = cc

shown_fetched : (b : Bool) (o : Option Content) (c : Content) → (if b then o else None) ≡ Some c → o ≡ Some c
shown_fetched true o c e = e
shown_fetched false o c e = absurd cc

shown_words : (serial : ℕ) (es : List Entry) → AllByRecursion IsWord (all_fetched es) → AllByRecursion (λ e. (c : Content) → shown_in serial e ≡ Some c → IsWord c) es
shown_words serial [] all = tt
shown_words serial (e ∷ es) all =
    by (fetched (moved_in e)) refl all (λ rest. shown_words serial es rest)
  where
    by : (o : Option Content) → fetched (moved_in e) ≡ o → AllByRecursion IsWord (cons_option o (all_fetched es)) → (AllByRecursion IsWord (all_fetched es) → AllByRecursion (λ e. (c : Content) → shown_in serial e ≡ Some c → IsWord c) es)
        → AllByRecursion (λ e. (c : Content) → shown_in serial e ≡ Some c → IsWord c) (e ∷ es)
    by None is h rest = (λ c f. absurd (none_some c (sym is ∙ shown_fetched (list_any (is_beginning serial) e.events.items) (fetched (moved_in e)) c f)), rest h)
    by (Some d) is h rest = (λ c f. subst IsWord (some_same d c (sym is ∙ shown_fetched (list_any (is_beginning serial) e.events.items) (fetched (moved_in e)) c f)) h.0, rest h.1)

iface_words : (node number serial : ℕ) (parties : List PlainPartyLog) → AllByRecursion (λ party. AllByRecursion IsWord (all_fetched party.entries)) parties
    → AllByRecursion (λ e. (c : Content) → shown_in serial e ≡ Some c → IsWord c) (iface_entries parties node number)
iface_words node number serial [] all = tt
iface_words node number serial (party ∷ parties) all =
    AllByRecursion-append (λ (e : Entry). (c : Content) → shown_in serial e ≡ Some c → IsWord c) (if is_iface node number party.who then party.entries else []) (iface_entries parties node number)
    (by (is_iface node number party.who)) (iface_words node number serial parties all.1)
  where
    by : (b : Bool) → AllByRecursion (λ e. (c : Content) → shown_in serial e ≡ Some c → IsWord c) (if b then party.entries else [])
    by true = shown_words serial party.entries all.0
    by false = tt

pub word_of : (r : PlainRecord) → HasWords r → (o : Origin) (b : Content) → transmission r o ≡ Some b → b.header < 2 ^ 32
word_of r words o b e = first_given IsWord (shown_in o.serial) (iface_entries r.parties o.node o.iface) b e (iface_words o.node o.iface o.serial r.parties words)

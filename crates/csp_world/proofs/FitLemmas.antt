-- Parties stay fit for their turns.
use Rattle.std.proofs.Common.{◌≡◌, ℕ, ◌+◌, ◌*◌, ◌==◌, ◌≤◌, Bool, true, false, Option, None, Some, List, [], ◌∷◌, length, map, set, sym, ◌∙◌, ap, subst, refl, arith}
use Rattle.std.specs.Prelude.{slice_get, IsSomeAnd, vec_capacity}
use Rattle.std.proofs.lemmas.Bool.Decides.{nat_tests}
use Rattle.std.proofs.lemmas.List.{length-map}
use Rattle.std.proofs.lemmas.List.Sums.{sum_by-cons}
use Rattle.csp_lists.specs.PlainDeck.{PlainDeck}
use Rattle.csp_nodes.specs.DecksAt.{DecksAt}
use Rattle.csp_nodes.specs.Gathering.{queue_count}
use Rattle.csp_party.specs.Any.{plain, needs}
use Rattle.csp_nodes.proofs.Public.{set_here, set_there}
use Rattle.csp_world.specs.Grown.{IsGrown}
use Rattle.csp_world.specs.Inside.{IsFit, AllFit, HasRoom, rooms}
use Rattle.csp_world.specs.declared.member.Member.{Member}
use Rattle.csp_world.specs.declared.room.Room.{Room}

-- from a later time on too
pub fit_later : (d : DecksAt) (members : List Member) (time : ℕ) → AllFit d time members → AllFit d (time + 1) members
fit_later d members time all place m e =
    let f = all place m e in
    record {
      ready = λ later h. f.ready later (omega arith);
      counted = f.counted;
      served = f.served;
      called = f.called;
      home = f.home;
      unnoted = f.unnoted;
      room = f.room;
      stock = f.stock;
    }

-- over lists that grew too
room_grown : (d e : DecksAt) → IsGrown d e → (node : ℕ) (P : ℕ → Type 0) → IsSomeAnd (slice_get (rooms d.decks) node) P → IsSomeAnd (slice_get (rooms e.decks) node) P
room_grown d e g node P h = by (slice_get (rooms d.decks) node) refl h where
  by : (o : Option ℕ) → slice_get (rooms d.decks) node ≡ o → IsSomeAnd o P → IsSomeAnd (slice_get (rooms e.decks) node) P
  by None s f = absurd f
  by (Some room) s f = subst (λ o. IsSomeAnd o P) (sym (g.rooms node room s)) f

pub fit_grown : (d e : DecksAt) (time : ℕ) (m : Member) → IsGrown d e → IsFit d time m → IsFit e time m
fit_grown d e time m g f = record {
  ready = f.ready;
  counted = f.counted;
  served = λ q r u. g.rules m.who q r (f.served q r u);
  called = f.called;
  home = λ node h. g.regions node _ (f.home node h);
  unnoted = f.unnoted;
  room = λ node h. room_grown d e g node (λ room. room ≤ vec_capacity m.numbers) (f.room node h);
  stock = f.stock;
}

pub all_grown : (d e : DecksAt) (time : ℕ) (members : List Member) → IsGrown d e → AllFit d time members → AllFit e time members
all_grown d e time members g all place m s = fit_grown d e time m g (all place m s)

-- where one party is changed
pub all_set : (d : DecksAt) (time : ℕ) (members : List Member) (place : ℕ) (old new : Member) → slice_get members place ≡ Some old → AllFit d time members → IsFit d time new → AllFit d time (set members place new)
all_set d time members place old new got all fit k m s = by (place == k) refl where
  by : (b : Bool) → (place == k) ≡ b → IsFit d time m
  by true h =
      let same : place ≡ k = grind (arith, nat_tests, h) in
      let here : slice_get (set members place new) k ≡ Some new = subst (λ n. slice_get (set members place new) n ≡ Some new) same (set_here members place old new got) in
      let is : new ≡ m = cc in
      subst (λ (x : Member). IsFit d time x) is fit
  by false h = all k m (sym (set_there members place k new h) ∙ s)

-- a party whose log and stock are given room is as fit as before
pub fit_logged : (d : DecksAt) (time : ℕ) (old new : Member) → (new.who ≡ old.who) × (new.party ≡ old.party) × (new.numbers ≡ old.numbers) × (new.log.entries ≡ old.log.entries) → needs (plain new.party) * new.log.spare ≤ new.spares.boxes → IsFit d time old → IsFit d time new
fit_logged d time old new (w, p, n, l) stock f = record {
  ready = rw p f.ready;
  counted = rw (p, l) f.counted;
  served = rw (p, w) f.served;
  called = rw (p, w) f.called;
  home = rw (p, w) f.home;
  unnoted = rw n f.unnoted;
  room = rw (n, w) f.room;
  stock = stock;
}

-- as many queues as before
counted_by : (xs ys : List PlainDeck) → map (λ (d : PlainDeck). length d.queues) ys ≡ map (λ (d : PlainDeck). length d.queues) xs → queue_count ys ≡ queue_count xs
counted_by [] [] e = refl
counted_by [] (y ∷ ys) e = cc
counted_by (x ∷ xs) [] e = cc
counted_by (x ∷ xs) (y ∷ ys) e =
    let first : length y.queues ≡ length x.queues = cc in
    let rest : map (λ (d : PlainDeck). length d.queues) ys ≡ map (λ (d : PlainDeck). length d.queues) xs = cc in
    let more = counted_by xs ys rest in
    add _ _ _ _ _ _ (sum_by-cons (λ (d : PlainDeck). length d.queues) y ys) (sum_by-cons (λ (d : PlainDeck). length d.queues) x xs) first more where
      add : (a b f g s t : ℕ) → a ≡ f + s → b ≡ g + t → f ≡ g → s ≡ t → a ≡ b
      add a b f g s t h i j k = omega arith

-- and as much room
pub room_kept : (decks after : List PlainDeck) (members members' : ℕ) (r : Room) → map (λ (d : PlainDeck). length d.queues) after ≡ map (λ (d : PlainDeck). length d.queues) decks → members' ≡ members → HasRoom decks members r → HasRoom after members' r
room_kept decks after members members' r same more h =
    let queues = counted_by decks after same in
    let nodes : length after ≡ length decks = sym (length-map after (λ (d : PlainDeck). length d.queues)) ∙ ap (λ (l : List ℕ). length l) same ∙ length-map decks (λ (d : PlainDeck). length d.queues) in
    record {
      no_logs = h.no_logs;
      logs = rw more h.logs;
      no_left = h.no_left;
      left = rw queues h.left;
      no_held = h.no_held;
      held = rw (queues, more, nodes) h.held;
      no_emptied = h.no_emptied;
      emptied = rw nodes h.emptied;
      counted = h.counted ∙ sym queues;
    }

pub as_many : (decks after : List PlainDeck) → rooms after ≡ rooms decks → length after ≡ length decks
as_many decks after same = sym (length-map after (λ (d : PlainDeck). d.pool.room)) ∙ ap (λ (l : List ℕ). length l) same ∙ length-map decks (λ (d : PlainDeck). d.pool.room)

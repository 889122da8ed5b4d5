-- Lemmas on one turn of a party.
use Rattle.std.proofs.Common.{◌≡◌, ◌==◌, ℕ, ◌+◌, ◌≤◌, Bool, true, false, cond, Option, None, Some, List, [], ◌∷◌, refl, sym, ◌∙◌, ap, subst, arith}
use Rattle.std.specs.Prelude.{slice_get, if◌then◌else◌, IsSomeAnd, ⊤}
use Rattle.std.specs.Option.{option_map}
use Rattle.std.proofs.lemmas.Bool.Decides.{nat_tests}
use Rattle.std.proofs.lemmas.Option.{slice_get-map}
use Rattle.std.proofs.lemmas.List.Sums.{sum_by-cons}
use Rattle.csp_buffer.specs.Content.{Content}
use Rattle.csp_lists.specs.PlainDeck.{PlainDeck, numbers_in, IsFullAt}
use Rattle.csp_deck.specs.Step.{times, op_numbers, answer_numbers, HasCause}
use Rattle.csp_log.specs.Pictures.{Fits}
use Rattle.csp_log.specs.declared.places.End.{End}
use Rattle.csp_log.specs.declared.places.Place.TheVariants as place
use Rattle.csp_log.specs.declared.shown.AnswerShown.TheVariants as answer
use Rattle.csp_log.specs.declared.shown.OpShown.TheVariants as op
use Rattle.csp_log.specs.declared.shown.AnswerShown.{AnswerShown}
use Rattle.csp_log.specs.declared.shown.OpShown.{OpShown}
use Rattle.csp_nodes.specs.DecksAt.{DecksAt, IsEmpty, IsFull}
use Rattle.csp_nodes.specs.Serving.{IsThere, is_served_at, or_none, place_in}
use Rattle.csp_party.specs.Any.{PlainParty, a_router, a_bridge, an_iface, an_app, a_link, a_hub, plain, asked, tells, holds}
use Rattle.csp_party.specs.declared.any.AnyParty.{AnyParty}
use Rattle.csp_party.specs.declared.any.AnyParty.TheVariants as party
use Rattle.csp_log.specs.Who.{node_of}
use Rattle.csp_log.specs.declared.who.Who.{Who}
use Rattle.csp_log.specs.declared.who.Who.TheVariants as who
use Rattle.csp_world.specs.Grown.{IsFullFor}
use Rattle.csp_world.specs.Holders.{is_at}
use Rattle.csp_world.specs.Inside.{IsCalled, IsLink, rooms}
use Rattle.csp_world.specs.World.{PlainMember}

-- a link stays one, and so does a hub
link_told : (p : AnyParty) (time : ℕ) (a : AnswerShown) → IsLink (plain p) → IsLink (tells (asked (plain p) time) time a)
link_told (party.Router r) time a h = absurd h
link_told (party.Bridge b) time a h = absurd h
link_told (party.Iface i) time a h = absurd h
link_told (party.App p) time a h = absurd h
link_told (party.Link l) time a h = tt
link_told (party.Hub u) time a h = tt

pub called_told : (w : Who) (p : AnyParty) (time : ℕ) (a : AnswerShown) → IsCalled w (plain p) → IsCalled w (tells (asked (plain p) time) time a)
called_told (who.Router n) p time a h = tt
called_told (who.Bridge n) p time a h = tt
called_told (who.Iface n k) p time a h = tt
called_told (who.App n k) p time a h = tt
called_told (who.Link l) p time a h = link_told p time a h

-- and holds nothing
pub link_holds : (p : PlainParty) → IsLink p → holds p ≡ []
link_holds (a_router r) h = absurd h
link_holds (a_bridge b) h = absurd h
link_holds (an_iface i) h = absurd h
link_holds (an_app a) h = absurd h
link_holds (a_link l) h = refl
link_holds (a_hub u) h = refl

-- the lists that serve a party of a node are that node's
pub served_home : (links : List (List End)) (w : Who) (o : OpShown) (node n : ℕ) → node_of w ≡ Some n → is_served_at links w o node ≡ is_at node w
served_home links (who.Router m) op.Nothing node n e = refl
served_home links (who.Router m) op.Take node n e = refl
served_home links (who.Router m) (op.Give b) node n e = refl
served_home links (who.Router m) (op.Push q i) node n e = refl
served_home links (who.Router m) (op.Pop q) node n e = refl
served_home links (who.Bridge m) op.Nothing node n e = refl
served_home links (who.Bridge m) op.Take node n e = refl
served_home links (who.Bridge m) (op.Give b) node n e = refl
served_home links (who.Bridge m) (op.Push q i) node n e = refl
served_home links (who.Bridge m) (op.Pop q) node n e = refl
served_home links (who.Iface m k) op.Nothing node n e = refl
served_home links (who.Iface m k) op.Take node n e = refl
served_home links (who.Iface m k) (op.Give b) node n e = refl
served_home links (who.Iface m k) (op.Push q i) node n e = refl
served_home links (who.Iface m k) (op.Pop q) node n e = refl
served_home links (who.App m k) op.Nothing node n e = refl
served_home links (who.App m k) op.Take node n e = refl
served_home links (who.App m k) (op.Give b) node n e = refl
served_home links (who.App m k) (op.Push q i) node n e = refl
served_home links (who.App m k) (op.Pop q) node n e = refl
served_home links (who.Link l) o node n e = cc

-- at each node a party and the lists hold together after its turn what they held before
abbrev pub Kept : ℕ → Bool → PlainParty → PlainParty → PlainDeck → PlainDeck → Type 0
Kept k here p q d e = times k (if here then holds q else []) + times k (numbers_in e) ≡ times k (if here then holds p else []) + times k (numbers_in d)

abbrev pub Served : ℕ → Bool → OpShown → AnswerShown → PlainDeck → PlainDeck → Type 0
Served k here o a d e = times k (numbers_in e) + (if here then times k (answer_numbers a) else 0) ≡ times k (numbers_in d) + (if here then times k (op_numbers o) else 0)

own : (k : ℕ) (here : Bool) (o : OpShown) (a : AnswerShown) (p q : PlainParty) (d e : PlainDeck) → Served k here o a d e → times k (holds q) + times k (op_numbers o) ≡ times k (holds p) + times k (answer_numbers a) → Kept k here p q d e
own k true o a p q d e s h = add _ _ _ _ _ _ s h where
  add : (e a d o q p : ℕ) → e + a ≡ d + o → q + o ≡ p + a → q + e ≡ p + d
  add e a d o q p f g = omega arith
own k false o a p q d e s h = add _ _ s where
  add : (e d : ℕ) → e + 0 ≡ d + 0 → 0 + e ≡ 0 + d
  add e d f = omega arith

none : (k : ℕ) (here : Bool) (o : OpShown) (a : AnswerShown) (p q : PlainParty) (d e : PlainDeck) → holds p ≡ [] → holds q ≡ [] → Served k here o a d e → times k (holds q) + times k (op_numbers o) ≡ times k (holds p) + times k (answer_numbers a) → Kept k false p q d e
none k true o a p q d e hp hq s h = add _ _ _ _ _ _ s h (ap (times k) hp) (ap (times k) hq) where
  add : (e a d o q p : ℕ) → e + a ≡ d + o → q + o ≡ p + a → p ≡ 0 → q ≡ 0 → 0 + e ≡ 0 + d
  add e a d o q p f g x y = omega arith
none k false o a p q d e hp hq s h = add _ _ s where
  add : (e d : ℕ) → e + 0 ≡ d + 0 → 0 + e ≡ 0 + d
  add e d f = omega arith

at_home : (links : List (List End)) (w : Who) (o : OpShown) (node n k : ℕ) (a : AnswerShown) (p q : PlainParty) (d e : PlainDeck) → node_of w ≡ Some n
    → Served k (is_served_at links w o node) o a d e → times k (holds q) + times k (op_numbers o) ≡ times k (holds p) + times k (answer_numbers a) → Kept k (is_at node w) p q d e
at_home links w o node n k a p q d e home s h = own k (is_at node w) o a p q d e (subst (λ b. Served k b o a d e) (served_home links w o node n home) s) h

pub kept_at : (links : List (List End)) (w : Who) (o : OpShown) (node k : ℕ) (a : AnswerShown) (p q : PlainParty) (d e : PlainDeck) → IsCalled w p → IsCalled w q
    → Served k (is_served_at links w o node) o a d e → times k (holds q) + times k (op_numbers o) ≡ times k (holds p) + times k (answer_numbers a) → Kept k (is_at node w) p q d e
kept_at links (who.Router n) o node k a p q d e cp cq s h = at_home links (who.Router n) o node n k a p q d e refl s h
kept_at links (who.Bridge n) o node k a p q d e cp cq s h = at_home links (who.Bridge n) o node n k a p q d e refl s h
kept_at links (who.Iface n i) o node k a p q d e cp cq s h = at_home links (who.Iface n i) o node n k a p q d e refl s h
kept_at links (who.App n i) o node k a p q d e cp cq s h = at_home links (who.App n i) o node n k a p q d e refl s h
kept_at links (who.Link l) o node k a p q d e cp cq s h = none k (is_served_at links (who.Link l) o node) o a p q d e (link_holds p cp) (link_holds q cq) s h

-- where a pool is found full, what was handed over came back
given_back : (d : DecksAt) (o : OpShown) (b : Content) → Fits o (answer.PoolFull b) → HasCause (IsEmpty d) (IsFull d) o (answer.PoolFull b) → IsFull d place.Pool × (op_numbers o ≡ b.number ∷ [])
given_back d op.Nothing b f h = absurd f
given_back d op.Take b f h = absurd f
given_back d (op.Give x) b f h = (h.0, ap (λ (y : Content). y.number ∷ []) (sym f))
given_back d (op.Push q i) b f h = absurd f
given_back d (op.Pop q) b f h = absurd f

one_of : (n : ℕ) → times n (n ∷ []) ≡ 1
one_of n = sum_by-cons (λ m. cond (m == n) 1 0) n [] ∙ (let same : (n == n) ≡ true = grind (arith, nat_tests) in rw same refl)

-- the lists of a node that has room for so many buffers
deck_there : (decks : List PlainDeck) (node : ℕ) (P : ℕ → Type 0) → IsSomeAnd (slice_get (rooms decks) node) P → (d : PlainDeck) × (slice_get decks node ≡ Some d)
deck_there decks node P h = by (slice_get decks node) refl (subst (λ o. IsSomeAnd o P) (slice_get-map (λ (d : PlainDeck). d.pool.room) decks node) h) where
  by : (o : Option PlainDeck) → slice_get decks node ≡ o → IsSomeAnd (option_map (λ (d : PlainDeck). d.pool.room) o) P → (d : PlainDeck) × (slice_get decks node ≡ Some d)
  by None e f = absurd f
  by (Some d) e f = (d, e)

full_at : (d : DecksAt) (w : Who) (n k : ℕ) (m : PlainMember) → m.who ≡ w → node_of w ≡ Some n → IsSomeAnd (slice_get (rooms d.decks) n) (λ room. ⊤) → IsThere IsFullAt d.decks place.Pool (option_map (λ (node : ℕ). (node, place.Pool)) (node_of w)) → 1 ≤ times k (holds m.party) → IsFullFor d.decks m k
full_at d w n k m is home some full has =
    let (x, at) = deck_there d.decks n (λ room. ⊤) some in
    let there : IsThere IsFullAt d.decks place.Pool (Some (n, place.Pool)) = subst (λ (o : Option ℕ). IsThere IsFullAt d.decks place.Pool (option_map (λ (node : ℕ). (node, place.Pool)) o)) home full in
    let its : IsFullAt x place.Pool = subst (λ (o : Option PlainDeck). IsFullAt (or_none o) place.Pool) at there in
    record { node = n; deck = x; home = ap node_of is ∙ home; there = at; full = its; has = has }

some_node : (w : Who) (p : PlainParty) → IsCalled w p → (k : ℕ) → 1 ≤ times k (holds p) → (n : ℕ) × (node_of w ≡ Some n)
some_node (who.Router n) p c k h = (n, refl)
some_node (who.Bridge n) p c k h = (n, refl)
some_node (who.Iface n i) p c k h = (n, refl)
some_node (who.App n i) p c k h = (n, refl)
some_node (who.Link l) p c k h = let empty = ap (times k) (link_holds p c) in absurd (omega (arith, empty, h))

-- so it is a party of a node whose pool is full, and it had the buffer
pub full_for : (d : DecksAt) (o : OpShown) (b : Content) (m : PlainMember) → d.whose ≡ m.who → IsCalled m.who m.party → ((n : ℕ) → node_of m.who ≡ Some n → IsSomeAnd (slice_get (rooms d.decks) n) (λ room. ⊤))
    → Fits o (answer.PoolFull b) → HasCause (IsEmpty d) (IsFull d) o (answer.PoolFull b) → ((k : ℕ) → times k (op_numbers o) ≤ times k (holds m.party)) → IsFullFor d.decks m b.number
full_for d o b m is called some fits cause had =
    let (full, given) = given_back d o b fits cause in
    let less : times b.number (b.number ∷ []) ≤ times b.number (holds m.party) = subst (λ (ns : List ℕ). times b.number ns ≤ times b.number (holds m.party)) given (had b.number) in
    let one = one_of b.number in
    let has : 1 ≤ times b.number (holds m.party) = omega (arith, one, less) in
    let (n, home) = some_node m.who m.party called b.number has in
    full_at d m.who n b.number m refl home (some n home) (subst (λ w. IsThere IsFullAt d.decks place.Pool (place_in d.links w place.Pool)) is full) has

-- there is a node
pub any_room : (o : Option ℕ) (P : ℕ → Type 0) → IsSomeAnd o P → IsSomeAnd o (λ room. ⊤)
any_room None P h = absurd h
any_room (Some n) P h = tt

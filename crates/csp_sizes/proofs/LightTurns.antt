-- A turn of a light world gives a light world, and weighs at most one.
use Rattle.std.proofs.Common.{◌≡◌, ℕ, ◌+◌, ◌/◌, ◌≤◌, Bool, true, false, List, [], ◌∷◌, ◌++◌, length, slice_get, Option, None, Some, refl, ap, arith}
use Rattle.std.proofs.lemmas.List.Elements.{All-set}
use Rattle.std.proofs.lemmas.List.Sums.{sum_by-append, sum_by-cons, sum_by-set}
use Rattle.std.proofs.lemmas.List.{length-set}
use Rattle.std.proofs.lemmas.Option.{get_or_from_slice_get, slice_get_within}
use Rattle.std.specs.Prelude.{if◌then◌else◌}
use Rattle.csp_deck.specs.Step.{entry_of}
use Rattle.csp_lists.specs.PlainDeck.{PlainDeck}
use Rattle.csp_log.specs.Weights.{answer_bytes, op_bytes, weight_of, weight_of_all}
use Rattle.csp_log.specs.declared.event.Event.{Event}
use Rattle.csp_log.specs.declared.shown.AnswerShown.TheVariants as answer
use Rattle.csp_log.specs.declared.shown.AnswerShown.{AnswerShown}
use Rattle.csp_log.specs.declared.shown.OpShown.TheVariants as op
use Rattle.csp_log.specs.declared.shown.OpShown.{OpShown}
use Rattle.csp_party.specs.Any.{PlainParty, a_bridge, a_hub, a_link, a_router, an_app, an_iface, asked, asks, events, has_ended, tells}
use Rattle.csp_sizes.proofs.LightAnswers.{room_small}
use Rattle.csp_sizes.proofs.LightApps as apps
use Rattle.csp_sizes.proofs.LightDecks.{AreServed, all_there, decks_light}
use Rattle.csp_sizes.proofs.LightIfaces as ifaces
use Rattle.csp_sizes.proofs.LightLinks as links
use Rattle.csp_sizes.proofs.LightRouters as routers
use Rattle.csp_sizes.specs.Light.{IsLightAnswer, IsLightOp, IsLightParty}
use Rattle.csp_sizes.specs.Worlds.{IsLightWorld}
use Rattle.csp_world.specs.World.{PlainMember, PlainWorld, answered, told, turn, turn_at, turned, turned_with, weight}

-- ---- a party

party_asks : (p : PlainParty) (time : ℕ) → IsLightParty p → IsLightOp (asks p time)
party_asks (a_router r) time h = routers.asks_light r time h
party_asks (a_bridge b) time h = absurd h
party_asks (an_iface i) time h = ifaces.asks_light i time h
party_asks (an_app a) time h = apps.asks_light a time h
party_asks (a_link l) time h = links.asks_light l time h
party_asks (a_hub u) time h = absurd h

party_light : (p : PlainParty) (time : ℕ) (a : AnswerShown) → IsLightParty p → IsLightAnswer (asks p time) a → IsLightParty (tells (asked p time) time a)
party_light (a_router r) time a h light = routers.router_light r time a h light
party_light (a_bridge b) time a h light = absurd h
party_light (an_iface i) time a h light = ifaces.iface_light i time a h light
party_light (an_app s) time a h light = apps.app_light s time a h light
party_light (a_link l) time a h light = links.link_light l time a h light
party_light (a_hub u) time a h light = absurd h

-- ---- its entry

op_few : (o : OpShown) → IsLightOp o → op_bytes o ≤ 531
op_few op.Nothing h = omega arith
op_few op.Take h = omega arith
op_few (op.Give b) h = h
op_few (op.Push q i) h = omega (arith, h, room_small q)
op_few (op.Pop q) h = omega arith

answer_few : (o : OpShown) (a : AnswerShown) → IsLightAnswer o a → answer_bytes a ≤ 531
answer_few op.Nothing answer.Nothing h = omega arith
answer_few op.Take (answer.Taken b) h = h
answer_few op.Take answer.NoBuffer h = omega arith
answer_few (op.Give b) answer.Given h = omega arith
answer_few (op.Give b) (answer.PoolFull c) h = h
answer_few (op.Push q i) answer.Pushed h = omega arith
answer_few (op.Push q i) (answer.Full j) h = omega (arith, h, room_small q)
answer_few (op.Pop q) (answer.Popped j) h = omega (arith, h, room_small q)
answer_few (op.Pop q) answer.Empty h = omega arith
answer_few o a h = absurd h

entry_weighs : (time : ℕ) (o : OpShown) (a : AnswerShown) (es : List Event) → IsLightOp o → IsLightAnswer o a → weight_of (entry_of time o a es) ≤ 1
entry_weighs time o a es asking light =
    let x = op_few o asking in
    let y = answer_few o a light in
    let none : (op_bytes o + answer_bytes a) / 1063 ≡ 0 = omega (arith, x, y) in
    omega (arith, none)

-- ---- the world

-- it is light, of as many parties as before, and at most so much was added to what all entries weigh
pub record IsLightAfter (n : ℕ) (w v : PlainWorld) : Type 0 where
  pub members : length v.members ≡ length w.members
  pub light : IsLightWorld v
  pub weighs : weight v ≤ weight w + n

after_none : (n : ℕ) (w : PlainWorld) → IsLightWorld w → IsLightAfter n w w
after_none n w h = record { members = refl; light = h; weighs = omega arith }

by_light : (w : PlainWorld) (place : ℕ) (m : PlainMember) (x : AnswerShown × List PlainDeck) → slice_get w.members place ≡ Some m → IsLightWorld w → IsLightParty m.party → AreServed (asks m.party w.time) x
    → IsLightAfter 1 w (turned_with w place m x)
by_light w place m x e h own lists =
    let time = w.time in
    let entry = entry_of time (asks m.party time) x.0 (events (asked m.party time) time x.0) in
    let one = entry_weighs time (asks m.party time) x.0 (events (asked m.party time) time x.0) (party_asks m.party time own) lists.answer in
    let within = slice_get_within w.members place m e in
    let here = get_or_from_slice_get w.members place m m e in
    let all = sum_by-set (λ (p : PlainMember). weight_of_all p.entries) w.members place (told m time x.0) m within in
    let had : weight_of_all (m.entries ++ entry ∷ []) ≡ weight_of_all m.entries + weight_of_all (entry ∷ []) = sum_by-append weight_of m.entries (entry ∷ []) in
    let single : weight_of_all (entry ∷ []) ≡ weight_of entry + weight_of_all [] = sum_by-cons weight_of entry [] in
    let was = ap (λ (p : PlainMember). weight_of_all p.entries) here in
    record {
      members = length-set w.members place (told m time x.0);
      light = record {
        decks = lists.decks;
        members = All-set (λ (m : PlainMember). IsLightParty m.party) w.members place (told m time x.0) (party_light m.party time x.0 own lists.answer) h.members;
      };
      weighs = omega (arith, one, all, had, single, was);
    }

if_light : (b : Bool) (w : PlainWorld) (place : ℕ) (m : PlainMember) → slice_get w.members place ≡ Some m → IsLightWorld w → IsLightAfter 1 w (if b then w else turned w place m)
if_light true w place m e h = after_none 1 w h
if_light false w place m e h =
    let own = all_there (λ (m : PlainMember). IsLightParty m.party) w.members place m h.members e in
    by_light w place m (answered w.decks w.links w.time m) e h own (decks_light w.decks w.links m.who (asks m.party w.time) (party_asks m.party w.time own) h.decks)

at_light : (w : PlainWorld) (place : ℕ) (o : Option PlainMember) → slice_get w.members place ≡ o → IsLightWorld w → IsLightAfter 1 w (turn_at w place o)
at_light w place None e h = after_none 1 w h
at_light w place (Some m) e h = if_light (has_ended m.party) w place m e h

pub turn_light : (w : PlainWorld) (place : ℕ) → IsLightWorld w → IsLightAfter 1 w (turn w place)
unfolding turn
turn_light w place h = at_light w place (slice_get w.members place) refl h

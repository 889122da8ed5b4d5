-- Lemmas on a world to which a party is added that is new.
use Rattle.std.proofs.Common.{◌≡◌, ℕ, ◌+◌, ◌≤◌, Bool, true, false, List, [], ◌∷◌, ◌++◌, Option, length, map, ap, refl, sym, ◌∙◌, subst, arith, vec_capacity, Vec, Global, length-append, if◌then◌else◌}
use Rattle.std.specs.List.{flat_map}
use Rattle.std.proofs.lemmas.List.{map-append}
use Rattle.csp_deck.specs.Step.{times}
use Rattle.csp_lists.specs.PlainDeck.{PlainDeck, numbers_in}
use Rattle.csp_nodes.specs.DecksAt.{DecksAt}
use Rattle.csp_party.specs.Any.{holds, plain}
use Rattle.csp_log.specs.Who.{node_of}
use Rattle.csp_topology.specs.declared.opened.NewParty.{NewParty}
use Rattle.csp_topology.specs.declared.topology.TheConstants.{MAX_PARTIES}
use Rattle.csp_world.proofs.OpeningLists.{each-push, flat_map-push_none}
use Rattle.csp_world.specs.Holders.{holds_at, is_home, IsConserved}
use Rattle.csp_world.specs.Inside.{world_of, IsFit, AllFit, HasRoom, IsWorld}
use Rattle.csp_world.specs.Seen.{plain_member}
use Rattle.csp_world.specs.Settling.{CanSettle}
use Rattle.csp_world.specs.declared.member.Member.{Member}
use Rattle.csp_world.specs.declared.room.Room.{Room}
use Rattle.csp_world.specs.declared.world.World.TheInside.{Inside}

-- a party of a world as it was before it was one
abbrev pub as_new : Member → NewParty
as_new m = record { who = m.who; party = m.party; numbers = m.numbers }

-- where it could be one it is fit, with an empty log
new_fit : (d : DecksAt) (time : ℕ) (m : Member) → CanSettle d.decks d.links d.regions (as_new m) → m.log.spare ≡ 0 → IsFit d time m
new_fit d time m can spare = record {
  ready = λ later from until goes. can.new.ready later until goes;
  counted = omega (arith, can.new.counted);
  served = can.new.served;
  called = can.new.called;
  home = can.home;
  unnoted = can.unnoted;
  room = can.room;
  stock = rw spare (omega arith);
}

-- a party that holds nothing holds nothing of any node
none_home : (node : ℕ) (numbers : List ℕ) (home : Option ℕ) → numbers ≡ [] → (if is_home node home then numbers else []) ≡ []
none_home node numbers home e = by (is_home node home) where
  by : (here : Bool) → (if here then numbers else []) ≡ []
  by true = e
  by false = refl

pub flat_map-members : (node : ℕ) (ms : List Member) (m : Member) → holds (plain m.party) ≡ [] → flat_map (holds_at node) (map plain_member (ms ++ m ∷ [])) ≡ flat_map (holds_at node) (map plain_member ms)
flat_map-members node ms m e =
    ap (flat_map (holds_at node)) (map-append plain_member ms (m ∷ []))
    ∙ flat_map-push_none (holds_at node) (map plain_member ms) (plain_member m) (none_home node (holds (plain m.party)) (node_of m.who) e)

-- and with it the numbers stay where they are
pub conserved-push : (d : DecksAt) (time : ℕ) (ms : List Member) (m : Member) → IsConserved (world_of d ms time) → holds (plain m.party) ≡ [] → IsConserved (world_of d (ms ++ m ∷ []) time)
conserved-push d time ms m h e node deck at k = ap (λ (l : List ℕ). times k (numbers_in deck ++ l)) (flat_map-members node ms m e) ∙ h node deck at k

-- the room for a record with one party more
pub has_room-push : (decks : List PlainDeck) (count : ℕ) (r s : Room) → HasRoom decks count r
    → s.logs.items ≡ [] → count + 1 ≤ vec_capacity s.logs → s.held.items ≡ [] → r.queues + count + 1 + length decks ≤ vec_capacity s.held
    → s.left ≡ r.left → s.emptied ≡ r.emptied → s.queues ≡ r.queues → HasRoom decks (count + 1) s
has_room-push decks count r s h no_logs logs no_held held left emptied queues = record {
  no_logs = no_logs;
  logs = logs;
  no_left = rw left h.no_left;
  left = rw left h.left;
  no_held = no_held;
  held = omega (arith, held, h.counted);
  no_emptied = rw emptied h.no_emptied;
  emptied = rw emptied h.emptied;
  counted = queues ∙ h.counted;
}

-- room that is no less is room enough
pub has_room-kept : (decks : List PlainDeck) (count : ℕ) (r s : Room) → HasRoom decks count r
    → s.logs.items ≡ [] → vec_capacity r.logs ≤ vec_capacity s.logs → s.held.items ≡ [] → vec_capacity r.held ≤ vec_capacity s.held
    → s.left ≡ r.left → s.emptied ≡ r.emptied → s.queues ≡ r.queues → HasRoom decks count s
has_room-kept decks count r s h no_logs logs no_held held left emptied queues = record {
  no_logs = no_logs;
  logs = omega (arith, logs, h.logs);
  no_left = rw left h.no_left;
  left = rw left h.left;
  no_held = no_held;
  held = omega (arith, held, h.held);
  no_emptied = rw emptied h.no_emptied;
  emptied = rw emptied h.emptied;
  counted = queues ∙ h.counted;
}

-- a world with one party more
pub world-push : (w : Inside) (members : Vec Member Global) (room : Room) (m : Member) → IsWorld w → members.items ≡ w.members.items ++ m ∷ [] → CanSettle w.decks.decks w.decks.links w.decks.regions (as_new m) → m.log.spare ≡ 0
    → length w.members.items + 1 ≤ MAX_PARTIES → HasRoom w.decks.decks (length w.members.items + 1) room
    → IsWorld (record { decks = w.decks; members = members; time = w.time; room = room; desk = w.desk; boxes = w.boxes })
world-push w members room m h e can spare few more =
    let l : length members.items ≡ length w.members.items + 1 = ap (λ (ms : List Member). length ms) e ∙ length-append w.members.items (m ∷ []) in
    record {
      fit = subst (λ (ms : List Member). AllFit w.decks w.time ms) (sym e) (each-push (λ _ (x : Member). IsFit w.decks w.time x) w.members.items m h.fit (new_fit w.decks w.time m can spare));
      conserved = subst (λ (ms : List Member). IsConserved (world_of w.decks ms w.time)) (sym e) (conserved-push w.decks w.time w.members.items m h.conserved can.new.holds);
      room = subst (λ (n : ℕ). HasRoom w.decks.decks n room) (sym l) more;
      early = h.early;
      few_decks = h.few_decks;
      few_members = omega (arith, l, few);
    }

-- a world with the same parties and room enough
pub world-kept : (w : Inside) (members : Vec Member Global) (room : Room) → IsWorld w → members.items ≡ w.members.items → HasRoom w.decks.decks (length w.members.items) room
    → IsWorld (record { decks = w.decks; members = members; time = w.time; room = room; desk = w.desk; boxes = w.boxes })
world-kept w members room h e more = record {
  fit = rw e h.fit;
  conserved = rw e h.conserved;
  room = rw e more;
  early = h.early;
  few_decks = h.few_decks;
  few_members = rw e h.few_members;
}

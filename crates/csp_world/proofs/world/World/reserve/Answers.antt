use Rattle.std.proofs.Common.{◌≡◌, ◌<◌, List, ap, ◌∙◌, sym, subst, length, map, set}
use Rattle.std.specs.Prelude.{slice_index}
use Rattle.std.proofs.lemmas.List.{length-map, length-set}
use Rattle.csp_log.specs.declared.entry.Entry.{Entry}
use Rattle.csp_party.specs.Any.{plain}
use Rattle.csp_party.specs.declared.any.AnyParty.{AnyParty}
use Rattle.csp_log.specs.declared.who.Who.{Who}
use Rattle.csp_world.specs.Holders.{IsConserved}
use Rattle.csp_world.specs.Inside.{world_of}
use Rattle.csp_world.specs.Seen.{plain_member}
use Rattle.csp_world.specs.SeenWorld.{SeenWorld}
use Rattle.csp_world.proofs.FitLemmas.{all_set, fit_logged}
use Rattle.csp_world.proofs.StepLemmas.{member_got, plain_same, unchanged, room_made, spare_other}
use Rattle.csp_world.proofs.world.World.reserve.Goals as goal

within : (c : goal.After-self-1) → c.args.party < length c.self.inside.members.items
within c =
    let in_world : c.args.party < length (map plain_member c.self.inside.members.items) = subst (λ (w : SeenWorld). c.args.party < length w.plain.members) (sym c.self.view_is) c.requires.party in
    rw (← length-map c.self.inside.members.items plain_member) in_world

same_member : (c : goal.After-self-1) → plain_member c.reserve.new.self ≡ plain_member c.index_mut.result.now
same_member c =
    let (w, p, _, l) = c.reserve.ensures.party in
    ap (λ (x : Who). record { who = x; party = plain c.reserve.new.self.party; entries = c.reserve.new.self.log.entries }) w
    ∙ ap (λ (x : AnyParty). record { who = c.index_mut.result.now.who; party = plain x; entries = c.reserve.new.self.log.entries }) p
    ∙ ap (λ (x : List Entry). record { who = c.index_mut.result.now.who; party = plain c.index_mut.result.now.party; entries = x }) l

same_world : (c : goal.After-self-1) → world_of c.self.inside.decks (set c.self.inside.members.items c.args.party c.reserve.new.self) c.self.inside.time ≡ world_of c.self.inside.decks c.self.inside.members.items c.self.inside.time
same_world c = plain_same c.self.inside.decks c.self.inside.members.items c.self.inside.time c.args.party c.index_mut.result.now _ c.index_mut.ensures.value (same_member c)

pub invariant_of-self : goal.invariant_of-self
invariant_of-self c =
    let items = c.self.inside.members.items in
    let got = member_got items c.args.party c.index_mut.result.now (within c) c.index_mut.ensures.value in
    let members = length-set items c.args.party c.reserve.new.self in
    record {
      fit = all_set c.self.inside.decks c.self.inside.time items c.args.party c.index_mut.result.now c.reserve.new.self got c.self.invariant.fit
          (fit_logged c.self.inside.decks c.self.inside.time c.index_mut.result.now c.reserve.new.self c.reserve.ensures.party c.reserve.ensures.stock (c.self.invariant.fit c.args.party c.index_mut.result.now got));
      conserved = subst IsConserved (sym (same_world c)) c.self.invariant.conserved;
      room = rw members c.self.invariant.room;
      early = c.self.invariant.early;
      few_decks = c.self.invariant.few_decks;
      few_members = rw members c.self.invariant.few_members;
    }

pub reserve-requires-clause-stock : goal.reserve-requires-clause-stock
reserve-requires-clause-stock c =
    let in_world : c.args.party < length (map plain_member c.self.inside.members.items) = subst (λ (w : SeenWorld). c.args.party < length w.plain.members) (sym c.self.view_is) c.requires.party in
    let inside : c.args.party < length c.self.inside.members.items = rw (← length-map c.self.inside.members.items plain_member) in_world in
    (c.self.invariant.fit c.args.party c.index_mut.result.now (member_got c.self.inside.members.items c.args.party c.index_mut.result.now inside c.index_mut.ensures.value)).stock

pub returns-clause-refused : goal.returns-clause-refused
returns-clause-refused c =
    unchanged c.reserve.result c.self.inside.members.items c.args.party c.index_mut.result.now c.reserve.new.self
    (world_of c.self.inside.decks (set c.self.inside.members.items c.args.party c.reserve.new.self) c.self.inside.time) (world_of c.self.inside.decks c.self.inside.members.items c.self.inside.time)
    c.self.inside.decks.regions c.args.self.now c.index_mut.ensures.value (same_world c) c.self.view_is c.reserve.ensures.refused

pub returns-clause-plain : goal.returns-clause-plain
returns-clause-plain c = same_world c ∙ ap (λ (w : SeenWorld). w.plain) c.self.view_is

pub returns-clause-room : goal.returns-clause-room
returns-clause-room c =
    room_made c.reserve.result c.self.inside.members.items c.args.self.now.spares c.args.party c.args.turns c.index_mut.result.now _
    (within c) (ap (λ (w : SeenWorld). w.spares) c.self.view_is) c.index_mut.ensures.value c.reserve.ensures.room

pub returns-clause-others : goal.returns-clause-others
returns-clause-others c k ne =
    spare_other c.self.inside.members.items c.args.party k _ ne ∙ ap (λ (v : SeenWorld). slice_index v.spares k) c.self.view_is

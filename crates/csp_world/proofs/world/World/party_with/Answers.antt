use Rattle.std.proofs.Common.{◌≡◌, ◌++◌, refl, None, Some, List, [], length, map, find, sym, ◌∙◌, ap, arith}
use Rattle.std.specs.List.{flat_map}
use Rattle.std.specs.Option.{option_map}
use Rattle.csp_log.specs.declared.places.Place.{Place}
use Rattle.csp_world.specs.Holders.{holder_at, holders}
use Rattle.csp_world.specs.Seen.{plain_member, has_number}
use Rattle.csp_world.specs.SeenWorld.{SeenWorld}
use Rattle.csp_world.proofs.PlaceLemmas.{none_holds, one_holds, has_node, its_place}
use Rattle.csp_world.proofs.world.World.party_with.Goals as goal

pub unreachable-requires : goal.unreachable-requires
unreachable-requires c =
    let items = c.self.inside.members.items in
    let lost : find (has_number c.args.node c.args.number) items ≡ None =
    ap (find (has_number c.args.node c.args.number)) (sym c.as_slice.ensures.value) ∙ sym c.member_with.ensures ∙ ap (option_map (λ m. m.now)) c.in-None.is in
    let none = none_holds c.args.node c.args.number items lost in
    let parties : flat_map (holder_at c.args.node c.args.number) c.args.self.now.plain.members ≡ [] = ap (λ (w : SeenWorld). flat_map (holder_at c.args.node c.args.number) w.plain.members) (sym c.self.view_is) ∙ none in
    let all : holders c.args.self.now.plain c.args.node c.args.number ≡ [] = rw (c.requires.unlisted, parties) refl in
    let count = c.requires.one in
    let gone = ap (λ (ps : List Place). length ps) all in
    absurd (omega (arith, count, gone))

pub place_of-requires : goal.place_of-requires
place_of-requires c =
    let items = c.self.inside.members.items in
    let got : find (has_number c.args.node c.args.number) items ≡ Some c.in-Some.member.now =
    ap (find (has_number c.args.node c.args.number)) (sym c.as_slice.ensures.value) ∙ sym c.member_with.ensures ∙ ap (option_map (λ m. m.now)) c.in-Some.is in
    has_node c.args.node c.args.number items c.in-Some.member.now got

pub returns : goal.returns
returns c =
    let items = c.self.inside.members.items in
    let got : find (has_number c.args.node c.args.number) items ≡ Some c.in-Some.member.now =
    ap (find (has_number c.args.node c.args.number)) (sym c.as_slice.ensures.value) ∙ sym c.member_with.ensures ∙ ap (option_map (λ m. m.now)) c.in-Some.is in
    let all : holders c.args.self.now.plain c.args.node c.args.number ≡ flat_map (holder_at c.args.node c.args.number) (map plain_member items) =
    ap (λ (ps : List Place). ps ++ flat_map (holder_at c.args.node c.args.number) c.args.self.now.plain.members) c.requires.unlisted
    ∙ ap (λ (w : SeenWorld). flat_map (holder_at c.args.node c.args.number) w.plain.members) (sym c.self.view_is) in
    let one : length (flat_map (holder_at c.args.node c.args.number) (map plain_member items)) ≡ 1 = ap (λ (ps : List Place). length ps) (sym all) ∙ c.requires.one in
    let (home, at, is) = one_holds c.args.node c.args.number items c.in-Some.member.now got one in
    all ∙ is ∙ its_place home c.place_of.result at c.place_of.ensures

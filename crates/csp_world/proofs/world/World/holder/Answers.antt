use Rattle.std.proofs.Common.{◌≡◌, ◌<◌, [], ◌∷◌, length, refl, sym, ap, subst}
use Rattle.std.specs.Prelude.{slice_get, slice_index}
use Rattle.csp_world.specs.Holders.{counts, holders, deck_holders}
use Rattle.csp_world.specs.Inside.{world_of}
use Rattle.csp_world.specs.SeenWorld.{SeenWorld}
use Rattle.csp_world.proofs.PlaceLemmas.{held_once, listed_there, unlisted_there}
use Rattle.csp_world.proofs.world.World.holder.Goals as goal

pub party_with-requires-clause-one : goal.party_with-requires-clause-one
party_with-requires-clause-one c =
    let w = world_of c.self.inside.decks c.self.inside.members.items c.self.inside.time in
    let same : w ≡ c.args.self.now.plain = ap (λ (v : SeenWorld). v.plain) c.self.view_is in
    subst (λ v. length (holders v c.args.node c.args.number) ≡ 1) same
    (held_once c.counts_holders.ensures w c.self.invariant.conserved c.args.node c.args.number (subst (λ v. c.args.node < length (counts v)) (sym same) c.requires.node) (subst (λ v. c.args.number < slice_index (counts v) c.args.node) (sym same) c.requires.number))

pub party_with-requires-clause-unlisted : goal.party_with-requires-clause-unlisted
party_with-requires-clause-unlisted c =
    let w = world_of c.self.inside.decks c.self.inside.members.items c.self.inside.time in
    let same : w ≡ c.args.self.now.plain = ap (λ (v : SeenWorld). v.plain) c.self.view_is in
    subst (λ v. deck_holders (slice_get v.decks c.args.node) c.args.number ≡ []) same
    (unlisted_there w c.args.node c.args.number (slice_get w.decks c.args.node) c.place.result c.place.ensures c.in-None.is)

pub returns-in-Some : goal.returns-in-Some
returns-in-Some c =
    let w = world_of c.self.inside.decks c.self.inside.members.items c.self.inside.time in
    let same : w ≡ c.args.self.now.plain = ap (λ (v : SeenWorld). v.plain) c.self.view_is in
    let one = held_once c.counts_holders.ensures w c.self.invariant.conserved c.args.node c.args.number (subst (λ v. c.args.node < length (counts v)) (sym same) c.requires.node) (subst (λ v. c.args.number < slice_index (counts v) c.args.node) (sym same) c.requires.number) in
    subst (λ v. holders v c.args.node c.args.number ≡ c.in-Some.place ∷ []) same
    (listed_there w c.args.node c.args.number c.in-Some.place (slice_get w.decks c.args.node) refl c.place.result c.place.ensures c.in-Some.is one)

use Rattle.std.proofs.Common.{ℕ, List, Some, ◌≡◌, length, set, sym, ap, ◌∙◌, arith}
use Rattle.std.specs.Option.{option_map}
use Rattle.std.specs.Prelude.{slice_get}
use Rattle.std.proofs.lemmas.List.{map-set}
use Rattle.std.proofs.Math.Seq.{map-set_same}
use Rattle.csp_log.specs.declared.places.Place.{Place}
use Rattle.csp_nodes.specs.Emptied.{EmptiedAt, PlainEmptied, emptied_in}
use Rattle.csp_party.specs.Any.{region_of}
use Rattle.csp_log.specs.Who.{node_of}
use Rattle.csp_world.specs.Seen.{plain_member}
use Rattle.csp_world.proofs.ClosingMembers.{home_read, home_within, member_back, own_held}
use Rattle.csp_world.proofs.world.closing.empty_member.Goals as goal

pub index_mut-requires : goal.index_mut-requires
index_mut-requires c =
    let node : node_of c.args.member.who ≡ Some c.in-Some.node = ap (option_map (λ (h : ℕ × Place). h.0)) (sym c.home.ensures ∙ c.in-Some.is) in
    let within = home_within c.args.emptied.now.items c.in-Some.node (region_of c.args.member.party) (c.requires.party.home c.in-Some.node node) in
    omega (arith, within, c.from.ensures, c.args.emptied.now.ok.0)

pub end-requires-clause-home : goal.end-requires-clause-home
end-requires-clause-home c =
    let node : node_of c.args.member.who ≡ Some c.in-Some.node = ap (option_map (λ (h : ℕ × Place). h.0)) (sym c.home.ensures ∙ c.in-Some.is) in
    let (_, region) = home_read c.args.emptied.now.items c.in-Some.node (region_of c.args.member.party) c.index_mut.result.now (c.requires.party.home c.in-Some.node node) (rw c.from.ensures at c.index_mut.ensures.value) in
    region

pub end-requires-clause-fits : goal.end-requires-clause-fits
end-requires-clause-fits c =
    let node : node_of c.args.member.who ≡ Some c.in-Some.node = ap (option_map (λ (h : ℕ × Place). h.0)) (sym c.home.ensures ∙ c.in-Some.is) in
    let (found, _) = home_read c.args.emptied.now.items c.in-Some.node (region_of c.args.member.party) c.index_mut.result.now (c.requires.party.home c.in-Some.node node) (rw c.from.ensures at c.index_mut.ensures.value) in
    let fits = c.requires.fits c.in-Some.node c.index_mut.result.now.emptied found in
    let own = ap (λ (ns : List ℕ). length ns) (own_held (plain_member c.args.member) c.in-Some.node node) in
    omega (arith, fits, own)

pub returns-in-Some-clause-emptied : goal.returns-in-Some-clause-emptied
returns-in-Some-clause-emptied c = λ k.
    let items = c.args.emptied.now.items in
    let node : node_of c.args.member.who ≡ Some c.in-Some.node = ap (option_map (λ (h : ℕ × Place). h.0)) (sym c.home.ensures ∙ c.in-Some.is) in
    let (found, _) = home_read items c.in-Some.node (region_of c.args.member.party) c.index_mut.result.now (c.requires.party.home c.in-Some.node node) (rw c.from.ensures at c.index_mut.ensures.value) in
    ap (λ n. slice_get (emptied_in (set items n c.end.new.emptied)) k) c.from.ensures
    ∙ ap (λ (l : List PlainEmptied). slice_get l k) (map-set (λ (e : EmptiedAt). e.emptied) items c.in-Some.node c.end.new.emptied ∙ ap (λ (e : EmptiedAt). set (emptied_in items) c.in-Some.node e.emptied) c.end.ensures.emptied)
    ∙ member_back (plain_member c.args.member) (emptied_in items) c.in-Some.node c.index_mut.result.now.emptied node found k

pub returns-in-Some-clause-regions : goal.returns-in-Some-clause-regions
returns-in-Some-clause-regions c =
    map-set_same (λ (e : EmptiedAt). e.region) c.args.emptied.now.items c.from.result c.end.new.emptied c.index_mut.result.now
    (ap (λ (e : EmptiedAt). e.region) c.end.ensures.emptied ∙ ap (λ (e : EmptiedAt). e.region) c.index_mut.ensures.value)

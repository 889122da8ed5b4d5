use Rattle.std.proofs.Common.{rules, tests, ◌≡◌, ◌∙◌, ap, map, nat_lt, sym}
use Rattle.std.specs.List.{flat_map, list_any}
use Rattle.std.proofs.lemmas.Iterator.Search.{any_from_yields_List}
use Rattle.std.proofs.lemmas.Iterator.{YieldsList-from_slice}
use Rattle.csp_deck.specs.Keeping.{numbers_of}
use Rattle.csp_deck.specs.Step.{times}
use Rattle.csp_ports.specs.Held.{held, slot_buffers}
use Rattle.csp_ports.proofs.Holding.{held-by, held-times, slots-any}
use Rattle.csp_ports.proofs.ports.Ports.holds.Goals as goal

pub returns : goal.returns
returns c =
    let rs = c.self.inside.slots.items in
    let k = c.args.number in
    let found : c.any.result ≡ list_any (λ r. nat_lt 0 (times k (map (λ b. b.picture.number) (slot_buffers r)))) rs
    = any_from_yields_List {v = λ y. y.now} (λ r. nat_lt 0 (times k (map (λ b. b.picture.number) (slot_buffers r)))) _ _ _ c.any.ensures.ran (YieldsList-from_slice rs cc) (λ x b q h. search (rules, tests)) in
    held-by (times k (map (λ b. b.picture.number) (flat_map slot_buffers rs))) (times k (numbers_of (held c.args.self.now.ports))) c.any.result
    (found ∙ slots-any k rs) (ap (λ p. times k (numbers_of (held p.ports))) (sym c.self.view_is) ∙ held-times k rs)

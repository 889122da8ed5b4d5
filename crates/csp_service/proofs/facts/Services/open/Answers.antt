use Rattle.std.proofs.Common.{◌≡◌, refl, replicate}
use Rattle.csp_service.specs.declared.facts.TheConstants.{IFACE_ROOM, MEMORY}
use Rattle.csp_service.proofs.facts.Services.open.Goals as goal

pub returns : goal.returns
returns c =
    let stats : c.in_ok-stats.stats.items ≡ replicate IFACE_ROOM c.new.result = c.in_ok-stats.ensures.items_if_clones_equal (λ y h. h) in
    let memory : c.in_ok-memory.memory.items ≡ replicate MEMORY 0 = c.in_ok-memory.ensures.items_if_clones_equal (λ y h. h) in
    rw (stats, memory, c.new.ensures) refl

use Rattle.std.proofs.Common.{subst, sym, length, arith, ap, ◌∙◌, refl}
use Rattle.std.proofs.lemmas.List.{length-set}
use Rattle.csp_route.specs.Routes.{with_row, key_of, IsWithin}
use Rattle.csp_route.proofs.Views.{set_found, set_absent, written_whole, no_room, room_at, room_beyond, most_view}
use Rattle.csp_route.proofs.Withins.{row_within}
use Rattle.csp_route.proofs.table.Table.set.Goals as goal

pub invariant_of-self : goal.invariant_of-self
invariant_of-self c = (set_found c.self.inside.rows.items _ c.args.row (record { addr = c.prefix-prefix.result.addr; mask = c.args.row.mask; iface = c.args.row.iface; via = c.args.row.via }) c.in-Ok.place c.self.invariant c.requires (ap (λ k. record { addr = k.addr; mask = c.args.row.mask }) c.prefix-prefix.ensures) refl (cc (c.place_of.ensures.value, c.deref.ensures.0, c.in-Ok.is, c.prefix-prefix.ensures)) (written_whole _ _ _ _ c.deref_mut.ensures.value)).stays

pub returns-in-Ok-clause-ok : goal.returns-in-Ok-clause-ok
returns-in-Ok-clause-ok c = (set_found c.self.inside.rows.items _ c.args.row (record { addr = c.prefix-prefix.result.addr; mask = c.args.row.mask; iface = c.args.row.iface; via = c.args.row.via }) c.in-Ok.place c.self.invariant c.requires (ap (λ k. record { addr = k.addr; mask = c.args.row.mask }) c.prefix-prefix.ensures) refl (cc (c.place_of.ensures.value, c.deref.ensures.0, c.in-Ok.is, c.prefix-prefix.ensures)) (written_whole _ _ _ _ c.deref_mut.ensures.value)).shows ∙ ap (λ m. with_row m c.args.row) c.self.view_is

pub returns-in-Ok-clause-full : goal.returns-in-Ok-clause-full
returns-in-Ok-clause-full c = (λ e. absurd (cc), λ none. absurd (room_at c.self.inside.rows.items c.args.self.now (key_of c.args.row) c.in-Ok.place c.self.invariant c.self.view_is (cc) none))

pub returns-then-len-eq-MAX_ROWS-clause-full : goal.returns-then-len-eq-MAX_ROWS-clause-full
returns-then-len-eq-MAX_ROWS-clause-full c = (λ _. no_room c.self.inside.rows.items c.args.self.now (key_of c.args.row) c.in-Err.place c.self.invariant c.self.view_is (cc) (cc), λ _. refl)

pub invariant_of-self-in-Err : goal.invariant_of-self-in-Err
invariant_of-self-in-Err c = (set_absent c.self.inside.rows.items _ c.args.row (record { addr = c.prefix-prefix.result.addr; mask = c.args.row.mask; iface = c.args.row.iface; via = c.args.row.via }) c.in-Err.place c.self.invariant c.requires (ap (λ k. record { addr = k.addr; mask = c.args.row.mask }) c.prefix-prefix.ensures) refl (cc (c.place_of.ensures.value, c.deref.ensures.0, c.in-Err.is, c.prefix-prefix.ensures)) c.insert.ensures.items).stays

pub returns-else-len-eq-MAX_ROWS-clause-ok : goal.returns-else-len-eq-MAX_ROWS-clause-ok
returns-else-len-eq-MAX_ROWS-clause-ok c = (set_absent c.self.inside.rows.items _ c.args.row (record { addr = c.prefix-prefix.result.addr; mask = c.args.row.mask; iface = c.args.row.iface; via = c.args.row.via }) c.in-Err.place c.self.invariant c.requires (ap (λ k. record { addr = k.addr; mask = c.args.row.mask }) c.prefix-prefix.ensures) refl (cc (c.place_of.ensures.value, c.deref.ensures.0, c.in-Err.is, c.prefix-prefix.ensures)) c.insert.ensures.items).shows ∙ ap (λ m. with_row m c.args.row) c.self.view_is

pub returns-else-len-eq-MAX_ROWS-clause-full : goal.returns-else-len-eq-MAX_ROWS-clause-full
returns-else-len-eq-MAX_ROWS-clause-full c = (λ e. absurd (cc), λ none. absurd (room_beyond c.self.inside.rows.items c.args.self.now (key_of c.args.row) c.self.invariant c.self.view_is (λ full. absurd (omega arith)) none))

pub returns-then-len-eq-MAX_ROWS-clause-most : goal.returns-then-len-eq-MAX_ROWS-clause-most
returns-then-len-eq-MAX_ROWS-clause-most c = most_view c.self.inside.rows.items c.args.self.now c.self.invariant c.self.view_is (omega arith)

pub returns-in-Ok-clause-most : goal.returns-in-Ok-clause-most
returns-in-Ok-clause-most c = most_view _ _ (set_found c.self.inside.rows.items _ c.args.row (record { addr = c.prefix-prefix.result.addr; mask = c.args.row.mask; iface = c.args.row.iface; via = c.args.row.via }) c.in-Ok.place c.self.invariant c.requires (ap (λ k. record { addr = k.addr; mask = c.args.row.mask }) c.prefix-prefix.ensures) refl (cc (c.place_of.ensures.value, c.deref.ensures.0, c.in-Ok.is, c.prefix-prefix.ensures)) (written_whole _ _ _ _ c.deref_mut.ensures.value)).stays refl (omega (arith, c.deref_mut.ensures.fits, ap length c.deref_mut.ensures.value, ap length (written_whole c.self.inside.rows.items c.deref_mut.result.now c.in-Ok.place (record { addr = c.prefix-prefix.result.addr; mask = c.args.row.mask; iface = c.args.row.iface; via = c.args.row.via }) c.deref_mut.ensures.value), length-set c.self.inside.rows.items c.in-Ok.place (record { addr = c.prefix-prefix.result.addr; mask = c.args.row.mask; iface = c.args.row.iface; via = c.args.row.via })))

pub returns-else-len-eq-MAX_ROWS-clause-most : goal.returns-else-len-eq-MAX_ROWS-clause-most
returns-else-len-eq-MAX_ROWS-clause-most c = most_view c.insert.new.self.items _ (set_absent c.self.inside.rows.items _ c.args.row (record { addr = c.prefix-prefix.result.addr; mask = c.args.row.mask; iface = c.args.row.iface; via = c.args.row.via }) c.in-Err.place c.self.invariant c.requires (ap (λ k. record { addr = k.addr; mask = c.args.row.mask }) c.prefix-prefix.ensures) refl (cc (c.place_of.ensures.value, c.deref.ensures.0, c.in-Err.is, c.prefix-prefix.ensures)) c.insert.ensures.items).stays refl (omega arith)

pub returns-in-Ok-clause-known : goal.returns-in-Ok-clause-known
returns-in-Ok-clause-known c =
    let shows = (set_found c.self.inside.rows.items _ c.args.row (record { addr = c.prefix-prefix.result.addr; mask = c.args.row.mask; iface = c.args.row.iface; via = c.args.row.via }) c.in-Ok.place c.self.invariant c.requires (ap (λ k. record { addr = k.addr; mask = c.args.row.mask }) c.prefix-prefix.ensures) refl (cc (c.place_of.ensures.value, c.deref.ensures.0, c.in-Ok.is, c.prefix-prefix.ensures)) (written_whole _ _ _ _ c.deref_mut.ensures.value)).shows ∙ ap (λ m. with_row m c.args.row) c.self.view_is in
    λ count all leads. subst (IsWithin count) (sym shows) (row_within count c.args.self.now c.args.row all leads)

pub returns-else-len-eq-MAX_ROWS-clause-known : goal.returns-else-len-eq-MAX_ROWS-clause-known
returns-else-len-eq-MAX_ROWS-clause-known c =
    let shows = (set_absent c.self.inside.rows.items _ c.args.row (record { addr = c.prefix-prefix.result.addr; mask = c.args.row.mask; iface = c.args.row.iface; via = c.args.row.via }) c.in-Err.place c.self.invariant c.requires (ap (λ k. record { addr = k.addr; mask = c.args.row.mask }) c.prefix-prefix.ensures) refl (cc (c.place_of.ensures.value, c.deref.ensures.0, c.in-Err.is, c.prefix-prefix.ensures)) c.insert.ensures.items).shows ∙ ap (λ m. with_row m c.args.row) c.self.view_is in
    λ count all leads. subst (IsWithin count) (sym shows) (row_within count c.args.self.now c.args.row all leads)

use Rattle.std.proofs.Common.{◌≡◌, ◌*◌, ◌∙◌, rules, arith, refl, replicate}
use Rattle.std.proofs.lemmas.List.{take-replicate}
use Rattle.csp_conn.specs.declared.slot.Slot.TheVariants.{Free}
use Rattle.csp_conn.proofs.conns.Conns.new.Goals as goal

pub returns : goal.returns
returns c =
    let slots : c.truncate.new.self.items ≡ replicate (c.args.apps * 4) Free =
    c.truncate.ensures.items ∙ rw c.from-slots.ensures.0 (take-replicate (c.args.apps * 4) 16 Free (omega (arith, c.requires))) in
    let last : c.unwrap.result ≡ 63 = search rules in
    rw (slots, last) refl

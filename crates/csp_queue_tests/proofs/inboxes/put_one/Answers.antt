use Rattle.std.proofs.Common.{◌∙◌, sym, ap, subst}
use Rattle.csp_buffer.specs.PlainBuffer.{PlainBuffer}
use Rattle.csp_deck.specs.Regions.{IsItemOf}
use Rattle.csp_log.specs.declared.item.Item.{Item}
use Rattle.csp_queue_tests.proofs.inboxes.put_one.Goals as goal

pub returns-in-Err-clause-back : goal.returns-in-Err-clause-back
returns-in-Err-clause-back g c =
    c.unpack.ensures _ (subst (λ (i : Item). IsItemOf c.args.pass.now.role.token.name i) (sym c.in-Err.ensures.back) (ap (λ (b : PlainBuffer). b.region) c.set_header.ensures ∙ c.requires.region))

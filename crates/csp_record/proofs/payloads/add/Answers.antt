use Rattle.std.proofs.Common.{◌≡◌, [], ◌∷◌, ◌++◌, unwrap_or, sym, ap, ◌∙◌}
use Rattle.csp_record.proofs.Gaining.{Gains-one}
use Rattle.csp_record.proofs.payloads.add.Goals as goal
use Rattle.csp_record.proofs.payloads.add.Goals.{in-Some, in-None}

pub returns : goal.returns
returns c =
    let had : c.match-remove.payloads ≡ unwrap_or c.remove.result [] = elim c.match-remove.branch [
      | in-Some w ↦ w.payloads-is ∙ sym (ap (λ found. unwrap_or found []) w.in-Some.is)
      | in-None w ↦ w.payloads-is ∙ w.new-payloads.ensures ∙ sym (ap (λ found. unwrap_or found []) w.in-None.is)
    ] in
    Gains-one c.args.table.now c.remove.new.self c.insert.new.self c.args.slot c.args.ordinal c.args.payload.now c.push.new.self
    (c.in_ok-push.ensures ∙ ap (λ list. list ++ c.args.payload.now ∷ []) (had ∙ ap (λ found. unwrap_or found []) c.remove.ensures.value))
    (λ q. c.remove.ensures.updates.0 q)
    (λ q. c.in_ok-insert.ensures.updates.0 q)

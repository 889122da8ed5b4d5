use Rattle.std.proofs.Common.{◌≡◌, ◌+◌, [], ◌∷◌, ◌++◌, map, drop}
use Rattle.std.specs.List.{enumerate_from}
use Rattle.std.specs.String.{string_bytes}
use Rattle.std.specs.Fmt.{decimal}
use Rattle.csp_report.specs.Lines.{text_of, conn_words}
use Rattle.csp_report.specs.Conns.{bytes_word, payload_lines}
use Rattle.csp_report.proofs.conns.push_payloads.Given as goal

-- the text so far, then the lines that are still to come, are those of all these payloads
abbrev pub invariant-loop-index : goal.invariant-loop-index
invariant-loop-index l =
    string_bytes l.out ++ text_of (map (λ payload. conn_words l.word l.named.node.now l.named.app.now l.named.slot l.named.ordinal ++ decimal (payload.0 + 1) ∷ bytes_word payload.1 ∷ []) (enumerate_from l.index (drop l.index l.payloads)))
    ≡ string_bytes l.initial.out ++ text_of (payload_lines l.word l.named.node.now l.named.app.now l.named.slot l.named.ordinal l.payloads)

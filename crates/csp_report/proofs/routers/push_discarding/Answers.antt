use Rattle.std.proofs.Common.{[], ◌∷◌, count_by}
use Rattle.std.specs.String.{string_bytes}
use Rattle.csp_log.specs.declared.event.Discard.{Discard}
use Rattle.csp_report.specs.Events.{is_discard, word_of}
use Rattle.csp_report.proofs.Joining.{counted_line, words_more}
use Rattle.csp_report.proofs.routers.push_discarding.Goals as goal

pub returns : goal.returns
returns c =
    let s = string_bytes c.args.out.now in
    let b = string_bytes c.push_word.new.out in
    counted_line word_of (λ (why : Discard). count_by (is_discard why) c.args.events.now) s b (string_bytes c.push_discards.new.out) (string_bytes c.end_line.new.out)
    c.args.word.now (c.args.name.now ∷ []) c.args.reasons.now
    (words_more s (string_bytes c.begin_line.new.out) b c.args.word.now [] c.args.name.now [] c.in_ok-begin_line.ensures c.in_ok-push_word.ensures)
    c.in_ok-push_discards.ensures c.in_ok-end_line.ensures

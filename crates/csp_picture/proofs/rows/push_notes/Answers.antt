use Rattle.std.proofs.Common.{◌<◌, ◌++◌, ◌∙◌, length, arith, ap, sym, append-nil}
use Rattle.std.specs.String.{string_bytes}
use Rattle.csp_picture.specs.Rows.{notes_of, notes}
use Rattle.csp_picture.specs.Seen.{is_shown}
use Rattle.csp_picture.proofs.Steps.{told_more, along_end}
use Rattle.csp_picture.proofs.rows.push_notes.Goals as goal

pub loop-happening-preserved : goal.loop-happening-preserved
loop-happening-preserved c =
    let l = c.loop-happening in
    let window = c.args.window in
    let hs = c.args.happenings.now in
    let i = l.happening-index in
    let h = c.happening-item.result in
    let within : i < length hs = omega arith in
    told_more window hs i h within c.happening-item.is l.seen (λ s g. notes_of (is_shown window g) c.args.nodes c.args.links.now s g) (string_bytes l.out) (string_bytes c.push_notes_of.new.out)
    (string_bytes c.args.out.now ++ notes c.args.nodes c.args.links.now window c.args.seen.now hs) c.pass.new.self
    (c.in_ok-push_notes_of.ensures ∙ ap (λ b. string_bytes l.out ++ notes_of b c.args.nodes c.args.links.now l.seen h) c.is_shown-shown.ensures) c.in_ok-pass.ensures l.invariant

pub returns : goal.returns
returns c =
    let l = c.loop-happening in
    let window = c.args.window in
    sym (append-nil (string_bytes l.out))
    ∙ ap (λ rest. string_bytes l.out ++ rest) (sym (along_end (λ s g. notes_of (is_shown window g) c.args.nodes c.args.links.now s g) window l.seen c.args.happenings.now l.happening-index (omega arith)))
    ∙ l.invariant

use Rattle.std.proofs.Common.{sym}
use Rattle.csp_trace.proofs.Rereading.{read_again}
use Rattle.csp_trace.proofs.tracing.traced.Goals as goal

pub returns-in-Ok-told-clause-trace : goal.returns-in-Ok-told-clause-trace
returns-in-Ok-told-clause-trace c =
    let named = sym c.in-Some.ensures in
    record {
      scene = _;
      run = _;
      what = _;
      stated = c.in-Ok.ensures.scene;
      named = named;
      ran = c.in-Ok-run_of.ensures.ran;
      shown = c.in-Ok-told.ensures;
      read = read_again c.reads_what_was_sent.ensures c.args.mode.now _ _ _ _ c.in-Ok.ensures.ranges c.in-Ok-run_of.ensures.consistent c.hold_words.ensures named c.in-Ok-told.ensures;
    }

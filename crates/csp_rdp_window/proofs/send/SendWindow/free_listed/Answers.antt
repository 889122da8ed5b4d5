use Rattle.std.proofs.Common.{ap, ◌≡◌, ◌∙◌, get_or, refl, sym, take}
use Rattle.std.proofs.lemmas.List.{get_or_default}
use Rattle.csp_base.specs.declared.sequence.Seq.{Seq}
use Rattle.csp_rdp_window.specs.Sending.{listed, send_numbers}
use Rattle.csp_rdp_window.proofs.SendLemmas.{numbers-listed, listed-none, listed-some, needed_if-true, same-seen}
use Rattle.csp_rdp_window.proofs.send.SendWindow.free_listed.Goals as goal
use Rattle.csp_rdp_window.proofs.send.SendWindow.free_listed.Goals.{in-Some, in-None}

pub loop-number-init : goal.loop-number-init
loop-number-init c =
    let w = c.args.self.now in
    (refl, sym (same-seen w.start w.window w.una w.nxt _ _ (needed_if-true w.packets)))

pub loop-number-preserved : goal.loop-number-preserved
loop-number-preserved c =
    let number : Seq = get_or c.args.list.now c.loop-number.number-index record { 0 = 0 } in
    let is : number ≡ get_or c.args.list.now c.loop-number.number-index number = get_or_default c.args.list.now c.loop-number.number-index _ number c.loop-number-test.true in
    elim c.match-listed_index.branch [
      | in-Some w ↦ listed-some c.args.self.now c.loop-number.self c.match-listed_index.self c.args.list.now c.loop-number.number-index number
          c.loop-number.newest c.match-listed_index.newest w.in-Some.index c.loop-number-test.true is c.loop-number.invariant.0 c.loop-number.invariant.1
          (sym w.in-Some.is ∙ c.listed_index.ensures) (w.self-is ∙ w.mark.ensures.state) (w.newest-is ∙ w.greater-newest.ensures)
      | in-None w ↦
          let next = listed-none c.args.self.now c.loop-number.self c.args.list.now c.loop-number.number-index number
          c.loop-number.newest c.loop-number-test.true is c.loop-number.invariant.0 c.loop-number.invariant.1 (sym w.in-None.is ∙ c.listed_index.ensures) in
          (w.newest-is ∙ next.0, w.self-is ∙ next.1)
    ]

pub returns-clause-holds : goal.returns-clause-holds
returns-clause-holds c =
    ap send_numbers c.loop-number.invariant.1 ∙ numbers-listed (listed c.args.self.now (take c.loop-number.number-index c.args.list.now)) c.args.self.now

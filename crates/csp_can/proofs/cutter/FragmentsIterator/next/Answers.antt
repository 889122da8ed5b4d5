use Rattle.std.proofs.Common.{◌≡◌, ℕ, ◌-◌, List, drop, ap, sym, ◌∙◌, arith}
use Rattle.csp_can.specs.Frames.{written}
use Rattle.csp_can.specs.Fragments.{more_frame}
use Rattle.csp_can.specs.declared.frames.CanFrame.{CanFrame}
use Rattle.csp_can.proofs.CutLemmas.{to_come-next, piece_fits, one_fewer}
use Rattle.csp_can.proofs.cutter.FragmentsIterator.next.Goals as goal

pub invariant_of-self-in-None-2 : goal.invariant_of-self-in-None-2
invariant_of-self-in-None-2 c =
    let a = c.self.inside in
    let made : c.more_frame-frame.result ≡ written (more_frame a.head (a.left - 1) (drop a.given a.payload.items)) = c.more_frame-frame.ensures ∙ ap (λ (p : List ℕ). written (more_frame a.head (a.left - 1) (drop a.given p))) c.deref.ensures.0 in
    let fits = piece_fits a.given a.payload.items c.more_frame-frame.result.bytes.items c.self.invariant.1 (ap (λ (f : CanFrame). f.bytes.items) made) in
    (c.self.invariant.0, omega (arith, fits))

pub returns-in-None-2-clause-steps : goal.returns-in-None-2-clause-steps
returns-in-None-2-clause-steps c =
    let a = c.self.inside in
    let made : c.more_frame-frame.result ≡ written (more_frame a.head (a.left - 1) (drop a.given a.payload.items)) = c.more_frame-frame.ensures ∙ ap (λ (p : List ℕ). written (more_frame a.head (a.left - 1) (drop a.given p))) c.deref.ensures.0 in
    sym c.self.view_is ∙ to_come-next _ _ a.head a.left a.given _ a.payload.items _ (cc) (cc) (omega arith) made (omega arith)

pub returns-in-None-2-clause-goes : goal.returns-in-None-2-clause-goes
returns-in-None-2-clause-goes c =
    record { on = λ _. (tt, tt, one_fewer _ _ _ (returns-in-None-2-clause-steps c)); keeps = tt; rests = λ _. tt }

-- A bridge keeps the numbers of its buffers in each turn.
use Rattle.std.proofs.Common.{◌≡◌, ℕ, ◌+◌, Option, None, Some, [], ◌∷◌, arith}
use Rattle.csp_bridge.specs.PlainBridge.{PlainBridge, holds}
use Rattle.csp_bridge.specs.Turns.{asked, asks, tells}
use Rattle.csp_bridge.specs.declared.doing.Doing.{Doing}
use Rattle.csp_buffer.specs.Content.{Content}
use Rattle.csp_deck.proofs.Public.{times-append}
use Rattle.csp_deck.specs.Keeping.{number_in}
use Rattle.csp_deck.specs.Step.{answer_numbers, op_numbers, times}
use Rattle.csp_log.specs.Pictures.{Fits}
use Rattle.csp_log.specs.declared.shown.AnswerShown.{AnswerShown}
use Rattle.csp_log.specs.declared.shown.AnswerShown.TheVariants as answer
use Rattle.csp_log.specs.declared.shown.ItemShown.TheVariants as item

keeps_by : (trash out : Option Content) (to : ℕ) (doing : Doing) (a : AnswerShown) → let s : PlainBridge = record { trash = trash; out = out; to = to; doing = doing } in
    Fits (asks s) a → (k : ℕ) → times k (holds (tells (asked s) a)) + times k (op_numbers (asks s)) ≡ times k (holds s) + times k (answer_numbers a)
keeps_by (Some b) out to doing answer.Given fits k = omega (arith, times-append k (b.number ∷ []) (number_in out))
keeps_by (Some b) out to doing (answer.PoolFull c) fits k = omega (arith, times-append k (b.number ∷ []) (number_in out), times-append k (c.number ∷ []) (number_in out))
keeps_by (Some b) out to doing a fits k = absurd fits
keeps_by None (Some b) to doing answer.Pushed fits k = omega arith
keeps_by None (Some b) to doing (answer.Full (item.Packet mark c)) fits k = omega arith
keeps_by None (Some b) to doing (answer.Full (item.Frame frame)) fits k = omega arith
keeps_by None (Some b) to doing (answer.Full (item.Note note)) fits k = omega arith
keeps_by None (Some b) to doing a fits k = absurd fits
keeps_by None None to doing (answer.Popped (item.Packet mark b)) fits k = omega arith
keeps_by None None to doing (answer.Popped (item.Frame frame)) fits k = omega arith
keeps_by None None to doing (answer.Popped (item.Note note)) fits k = omega arith
keeps_by None None to doing answer.Empty fits k = omega arith
keeps_by None None to doing a fits k = absurd fits

pub bridge_keeps : (s : PlainBridge) (a : AnswerShown) → Fits (asks s) a → (k : ℕ) → times k (holds (tells (asked s) a)) + times k (op_numbers (asks s)) ≡ times k (holds s) + times k (answer_numbers a)
bridge_keeps s a fits = keeps_by s.trash s.out s.to s.doing a fits

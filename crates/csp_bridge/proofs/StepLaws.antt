-- the laws of a step: no buffer is lost or made, and the queues carry what is sent
use Rattle.std.proofs.Common.{◌≡◌, ℕ, ◌+◌, Bool, true, false, Option, Some, None, [], ◌∷◌, refl, ap, arith}
use Rattle.std.specs.Prelude.{if◌then◌else◌, IsSomeAnd}
use Rattle.csp_bridge.specs.PlainBridge.{PlainBridge, holds, uses}
use Rattle.csp_bridge.specs.Room.{CanHear}
use Rattle.csp_bridge.specs.Turns.{asked, asks, beyond, turn_of}
use Rattle.csp_bridge.specs.declared.doing.Doing.{Doing}
use Rattle.csp_bridge.specs.declared.doing.Doing.TheVariants as doing
use Rattle.csp_buffer.specs.Content.{Content}
use Rattle.csp_deck.specs.Carried.{IsCarried}
use Rattle.csp_deck.specs.Keeping.{number_in}
use Rattle.csp_deck.specs.Step.{IsAnswerOf, answer_numbers, op_numbers, times}
use Rattle.csp_deck.proofs.Public.{times-append}
use Rattle.csp_log.specs.declared.places.Carries.TheVariants as lane
use Rattle.csp_log.specs.declared.places.Rule.TheVariants as rule
use Rattle.csp_log.specs.declared.places.TheConstants.{UNMARKED}
use Rattle.csp_log.specs.declared.shown.AnswerShown.{AnswerShown}
use Rattle.csp_log.specs.declared.shown.AnswerShown.TheVariants as answer
use Rattle.csp_log.specs.declared.shown.ItemShown.TheVariants as item

-- what it holds is in its two places
held_times : (k : ℕ) (trash out : Option Content) (to : ℕ) (doing : Doing) → times k (holds (record { trash = trash; out = out; to = to; doing = doing })) ≡ times k (number_in trash) + times k (number_in out)
held_times k None out to doing = omega arith
held_times k (Some b) out to doing = times-append k (b.number ∷ []) (number_in out)

pub holds_times : (k : ℕ) (s : PlainBridge) → times k (holds s) ≡ times k (number_in s.trash) + times k (number_in s.out)
holds_times k s = held_times k s.trash s.out s.to s.doing

-- what it hands over it holds no more
handed_by : (k : ℕ) (trash out : Option Content) (to : ℕ) (doing : Doing) → let s : PlainBridge = record { trash = trash; out = out; to = to; doing = doing } in
    times k (holds (asked s)) + times k (op_numbers (asks s)) ≡ times k (holds s)
handed_by k (Some b) out to doing = omega (arith, times-append k (b.number ∷ []) (number_in out))
handed_by k None (Some b) to doing = omega arith
handed_by k None None to doing = omega arith

pub handed_law : (k : ℕ) (s : PlainBridge) → times k (holds (asked s)) + times k (op_numbers (asks s)) ≡ times k (holds s)
handed_law k s = handed_by k s.trash s.out s.to s.doing

trash_law : (k : ℕ) (s : PlainBridge) (b : Content) → s.trash ≡ None → times k (holds (record s { trash = Some b })) ≡ times k (holds s) + times k (b.number ∷ [])
trash_law k s b none = omega (arith, holds_times k s, holds_times k (record s { trash = Some b }), ap (λ (o : Option Content). times k (number_in o)) none)

out_law : (k : ℕ) (s : PlainBridge) (b : Content) (to : ℕ) → s.out ≡ None → times k (holds (record s { out = Some b; to = to })) ≡ times k (holds s) + times k (b.number ∷ [])
out_law k s b to none = omega (arith, holds_times k s, holds_times k (record s { out = Some b; to = to }), ap (λ (o : Option Content). times k (number_in o)) none)

-- it holds besides what it was given
pub told_law : (k : ℕ) (s : PlainBridge) (d : Doing) (a : AnswerShown) → IsAnswerOf (uses s) (turn_of s d).awaits a → CanHear d s
    → times k (holds ((turn_of s d).told a)) ≡ times k (holds s) + times k (answer_numbers a)
told_law k s doing.Rest answer.Nothing f c = omega arith
told_law k s doing.Give answer.Given f c = omega arith
told_law k s doing.Give (answer.PoolFull b) f c = trash_law k s b c
told_law k s doing.Send answer.Pushed f c = omega arith
told_law k s doing.Send (answer.Full (item.Packet _ b)) f c = trash_law k s b c
told_law k s doing.Send (answer.Full (item.Frame _)) f c = omega arith
told_law k s doing.Send (answer.Full (item.Note _)) f c = omega arith
told_law k s doing.Hear (answer.Popped (item.Packet mark b)) f c = out_law k s b (beyond mark) c
told_law k s doing.Hear (answer.Popped (item.Frame _)) f c = omega arith
told_law k s doing.Hear (answer.Popped (item.Note _)) f c = omega arith
told_law k s doing.Hear answer.Empty f c = omega arith
told_law k s _ _ f c = absurd f

-- an `Out` carries a packet without a mark
pub out_carried : (b : Bool) (c : Content) → b ≡ true → IsSomeAnd (if b then Some (rule.Lane lane.Out) else None) (λ r. IsCarried r (item.Packet UNMARKED c))
out_carried true c e = λ ne. absurd (ne refl)
out_carried false c e = absurd cc

-- an interface that is idle looks into the queues of its two sides, and is then as it was
use Rattle.std.proofs.Common.{◌≡◌, ◌<◌, ℕ, zero, suc, false, arith, drop, length, Option, Some, None, List, [], ◌∷◌, refl, sym, subst, ◌∙◌}
use Rattle.std.proofs.Math.Dec.{leb-zero, leb-suc-zero, leb-suc-suc}
use Rattle.std.specs.Prelude.{nat_le}
use Rattle.csp_base.specs.declared.traces.Trace.{Trace}
use Rattle.csp_buffer.specs.Content.{Content}
use Rattle.csp_deck.specs.Circles.{LooksInto}
use Rattle.csp_deck.specs.Runs.{Steps}
use Rattle.csp_iface.specs.Asking.{asks, asked}
use Rattle.csp_iface.specs.Circling.{all_read, circle}
use Rattle.csp_iface.specs.PlainIface.{PlainIface, IfaceAt, with_iface}
use Rattle.csp_iface.specs.Telling.{tells, events}
use Rattle.csp_iface.specs.declared.packet.WholePacket.{WholePacket}
use Rattle.csp_iface.specs.declared.plan.IfacePlan.{IfacePlan}
use Rattle.csp_iface.specs.declared.plan.IfacePlan.TheVariants as plan
use Rattle.csp_iface.specs.declared.plan.Side.{Side}
use Rattle.csp_iface.specs.declared.plan.Side.TheVariants as side
use Rattle.csp_iface.specs.declared.receiver.Receiver.{Receiver}
use Rattle.csp_iface.specs.declared.receiver.Receiver.TheVariants as by
use Rattle.csp_kiss.specs.GoingOn.{read_on}
use Rattle.csp_kiss.specs.Reading.{Reading, answers}
use Rattle.csp_log.specs.declared.frame.Frame.{Frame}

-- no byte is left from a place on exactly where it is past them all
pub none_left : (at : ℕ) (bytes : List ℕ) → nat_le (length bytes) at ≡ all_read (drop at bytes)
none_left zero [] = leb-zero zero
none_left zero (_ ∷ bytes) = leb-suc-zero (length bytes)
none_left (suc at) [] = leb-zero (suc at)
none_left (suc at) (_ ∷ bytes) = leb-suc-suc (length bytes) at ∙ none_left at bytes

-- a byte is left from a place on that is before their end
pub some_left : (at : ℕ) (bytes : List ℕ) → at < length bytes → all_read (drop at bytes) ≡ false
some_left zero [] h = absurd (omega arith)
some_left zero (_ ∷ bytes) h = refl
some_left (suc at) [] h = absurd (omega arith)
some_left (suc at) (_ ∷ bytes) h = some_left at bytes (omega arith)

-- an interface's step
abbrev steps : Steps IfaceAt
steps = record {
  has_ended = λ _. false;
  asks = λ a now. asks a.iface now;
  asked = λ a now. with_iface a (asked a.iface now);
  tells = λ a now answer. with_iface a (tells a.iface now answer);
  events = λ a now answer. events a.iface now answer;
}

-- from this state on it looks into its circle, and is as it was
abbrev GoesRound : IfaceAt → ℕ → Type 0
GoesRound a now = LooksInto steps now a (circle a.iface) a

-- the interface at rest with this to do
abbrev at_rest : IfaceAt → Side → (back accepted : Option Content) → Option WholePacket → List Frame → Receiver → IfaceAt
at_rest a next back accepted whole frames receiver = with_iface a (record a.iface { side = next; back = back; accepted = accepted; whole = whole; frames = frames; receiver = receiver; doing = plan.Rest })

-- on a KISS link: in a frame that is read to its end there is nothing to read on
kiss_round : (a : IfaceAt) (now : ℕ) (next : Side) (reading : Reading) (rest : List ℕ) (trace : Trace) → GoesRound (at_rest a next None None None [] (by.Kiss (record { reading = reading; rest = rest; trace = trace }))) now
unfolding read_on answers
kiss_round a now side.Sending reading [] trace = (record { goes_on = refl; asks = refl; events = refl }, (record { goes_on = refl; asks = refl; events = refl }, refl))
kiss_round a now side.Receiving reading [] trace = (record { goes_on = refl; asks = refl; events = refl }, (record { goes_on = refl; asks = refl; events = refl }, refl))
kiss_round a now next reading (_ ∷ _) trace = refl

rest_round : (a : IfaceAt) (now : ℕ) (next : Side) (back accepted : Option Content) (whole : Option WholePacket) (frames : List Frame) (receiver : Receiver) → GoesRound (at_rest a next back accepted whole frames receiver) now
rest_round a now next (Some _) accepted whole frames receiver = refl
rest_round a now next None (Some _) whole frames receiver = refl
rest_round a now next None None (Some _) frames receiver = refl
rest_round a now next None None None (_ ∷ _) receiver = refl
rest_round a now next None None None [] (by.Kiss s) = kiss_round a now next s.reading s.rest s.trace
rest_round a now side.Sending None None None [] (by.Can _) = (record { goes_on = refl; asks = refl; events = refl }, (record { goes_on = refl; asks = refl; events = refl }, refl))
rest_round a now side.Receiving None None None [] (by.Can _) = (record { goes_on = refl; asks = refl; events = refl }, (record { goes_on = refl; asks = refl; events = refl }, refl))

-- at rest it goes round
pub goes_round : (a : IfaceAt) (now : ℕ) → a.iface.doing ≡ plan.Rest → GoesRound a now
goes_round a now rests =
    let s : PlainIface = a.iface in
    subst (λ (d : IfacePlan). GoesRound (with_iface a (record s { doing = d })) now) (sym rests) (rest_round a now s.side s.back s.accepted s.whole s.frames s.receiver)

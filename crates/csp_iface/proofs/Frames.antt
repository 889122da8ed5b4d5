-- the frames that an interface sends are ones that its link carries, and those that come to it have identifiers of 29 bits
use Rattle.std.proofs.Common.{ℕ, ◌<◌, ◌^◌, Option, Some, None, unwrap_or, List, [], ◌∷◌, map, sym, subst, arith}
use Rattle.std.specs.Prelude.{IsSomeAnd}
use Rattle.std.specs.List.{AllByRecursion}
use Rattle.csp_base.specs.declared.traces.Trace.{Trace}
use Rattle.csp_can.specs.Frames.{IsOnBus}
use Rattle.csp_can.specs.declared.frames.CanFrame.{CanFrame}
use Rattle.csp_iface.specs.Links.{IsFrameOn}
use Rattle.csp_iface.specs.Sending.{can_frame}
use Rattle.csp_log.specs.declared.frame.Frame.{Frame}
use Rattle.csp_log.specs.declared.places.LinkKind.{LinkKind}
use Rattle.csp_log.specs.declared.places.LinkKind.TheVariants as link

pub on_bus : (trace : Trace) (fs : List CanFrame) → AllByRecursion IsOnBus fs → AllByRecursion (IsFrameOn link.Can) (map (can_frame trace) fs)
on_bus trace [] h = tt
on_bus trace (f ∷ fs) h = ((h.0.0, h.0.1), on_bus trace fs h.1)

pub identified : (kind : LinkKind) (f : Frame) → IsFrameOn kind f → unwrap_or f.can 0 < 2 ^ 29
identified link.Kiss f none = subst (λ (id : Option ℕ). unwrap_or id 0 < 2 ^ 29) (sym none) (omega arith)
identified link.KissHeader f none = subst (λ (id : Option ℕ). unwrap_or id 0 < 2 ^ 29) (sym none) (omega arith)
identified link.Can f on_bus = in_bits f.can on_bus.0
  where
    in_bits : (id : Option ℕ) → IsSomeAnd id (λ n. n < 2 ^ 29) → unwrap_or id 0 < 2 ^ 29
    in_bits None h = absurd h
    in_bits (Some n) h = h

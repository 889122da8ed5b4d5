use Rattle.std.proofs.Common.{◌≡◌, List, [], ◌∷◌, ◌++◌, Option, Some, None, ap, refl, subst, sym}
use Rattle.csp_ports.specs.Held.{held}
use Rattle.std.specs.Option.{option_map}
use Rattle.csp_stack.specs.Comes.{leaving_of}
use Rattle.csp_stack.specs.Router.{Leaving, StateAt, buffers, out_buffers}
use Rattle.csp_stack.proofs.state.State.end.Goals as goal

nil_left : {A : Type 0} (xs ys : List A) → xs ++ ys ≡ [] → xs ≡ []
nil_left [] ys none = refl
nil_left (x ∷ xs) ys none = absurd cc

nil_right : {A : Type 0} (xs ys : List A) → xs ++ ys ≡ [] → ys ≡ []
nil_right [] ys none = none
nil_right (x ∷ xs) ys none = absurd cc

pub end-requires : goal.end-requires
end-requires c =
    let i = c.self.inside in
    let none = subst (λ (s : StateAt). buffers s.state ≡ []) (sym c.self.view_is) c.requires in
    nil_right (i.trash.contents ++ out_buffers (option_map leaving_of i.out)) (held i.ports.ports) none

-- where a packet is to go out its buffer is held
held_out : (o : Option Leaving) (x : Leaving) → out_buffers o ≡ [] → o ≡ Some x → ⊥
held_out None x none some = cc
held_out (Some y) x none some = cc

pub unreachable-requires : goal.unreachable-requires
unreachable-requires c =
    let i = c.self.inside in
    let none = subst (λ (s : StateAt). buffers s.state ≡ []) (sym c.self.view_is) c.requires in
    held_out (option_map leaving_of i.out) (leaving_of c.in-Some._packet)
    (nil_right i.trash.contents (out_buffers (option_map leaving_of i.out)) (nil_left (i.trash.contents ++ out_buffers (option_map leaving_of i.out)) (held i.ports.ports) none))
    (ap (option_map leaving_of) c.in-Some.is)

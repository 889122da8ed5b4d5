use Rattle.std.proofs.Common.{◌≡◌, ℕ, ◌+◌, ◌-◌, ◌≤◌, List, ◌∷◌, ◌++◌, length, arith, take, drop, refl, ap}
use Rattle.std.proofs.lemmas.List.{length-drop}
use Rattle.std.proofs.Math.Seq.{drop-append_seam, take-append_seam}
use Rattle.std.specs.List.{insert}
use Rattle.csp_hub.specs.PlainHub.{PlainEnd}
use Rattle.csp_link.specs.Copies.{held_until}
use Rattle.csp_link.specs.declared.held.Held.{Held}
use Rattle.csp_hub.proofs.end.HubEnd.keep.Goals as goal

-- turned back by one place more than it was turned, with an element put in front, a list has that element at the place
turned_back : (xs : List Held) (place len : ℕ) (x : Held) → place ≤ length xs → len ≡ length xs + 1
    → drop (len - place) (x ∷ drop place xs ++ take place xs) ++ take (len - place) (x ∷ drop place xs ++ take place xs) ≡ insert xs place x
turned_back xs place len x within is =
    let long : len - place ≡ length (x ∷ drop place xs) = let rest = length-drop place xs in omega (arith, rest, within, is) in
    rw (long, drop-append_seam (x ∷ drop place xs) (take place xs), take-append_seam (x ∷ drop place xs) (take place xs)) refl

pub returns : goal.returns
returns c =
    let held : List Held = c.self.inside.held.items in
    let before : PlainEnd = record { fates = c.self.inside.fates; popped = c.self.inside.popped; held = held } in
    let back : c.rotate_right.new.self.items ≡ insert held c.args.place (held_until c.args.due c.args.frame) =
    rw (c.rotate_right.ensures.items, c.push_front_reserved.ensures.items, c.rotate_left.ensures.items)
    (turned_back held c.args.place _ (held_until c.args.due c.args.frame) (rw (← c.self.view_is) at c.requires.place)
    (let one = c.push_front_reserved.ensures.len in let same = c.rotate_left.ensures.len in omega (arith, one, same))) in
    rw (← c.self.view_is) (ap (λ (hs : List Held). record before { held = hs }) back)

use Rattle.std.proofs.Common.{◌≡◌, ℕ, ◌+◌, ◌-◌, ◌≤◌, List, ◌∷◌, ◌++◌, length, arith, take, drop, refl}
use Rattle.std.proofs.lemmas.List.{length-drop}
use Rattle.std.proofs.Math.Seq.{drop-append_seam, take-append_seam}
use Rattle.std.specs.List.{insert}
use Rattle.csp_link.specs.declared.held.Held.{Held}
use Rattle.csp_link.proofs.held.HeldFrames.put_back.Goals as goal

-- turned back by one place more than it was turned, with an element put in front, a list has that element at the place
turned_back : (xs : List Held) (place len : ℕ) (x : Held) → place ≤ length xs → len ≡ length xs + 1
    → drop (len - place) (x ∷ drop place xs ++ take place xs) ++ take (len - place) (x ∷ drop place xs ++ take place xs) ≡ insert xs place x
turned_back xs place len x within is =
    let long : len - place ≡ length (x ∷ drop place xs) = let rest = length-drop place xs in omega (arith, rest, within, is) in
    rw (long, drop-append_seam (x ∷ drop place xs) (take place xs), take-append_seam (x ∷ drop place xs) (take place xs)) refl

pub returns : goal.returns
returns c =
    let frames = c.self.inside.frames.items in
    rw (c.rotate_right.ensures.items, c.push_front_reserved.ensures.items, c.rotate_left.ensures.items, ← c.self.view_is)
    (turned_back frames c.args.place _ c.args.held (rw (← c.self.view_is) at c.requires.place) (let one = c.push_front_reserved.ensures.len in let same = c.rotate_left.ensures.len in omega (arith, one, same)))

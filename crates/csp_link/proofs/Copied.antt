-- copies that are held one by one
use Rattle.std.proofs.Common.{◌≡◌, ℕ, zero, suc, ◌+◌, false, List, [], ◌∷◌, ◌++◌, map, refl, sym, ap, ◌∙◌}
use Rattle.std.specs.Prelude.{replicate, if◌then◌else◌}
use Rattle.std.proofs.lemmas.List.{append_assoc, replicate-append-replicate}
use Rattle.csp_link.specs.Copies.{damaged, held_copies, held_until}
use Rattle.csp_link.specs.declared.fates.Fate.{Fate}
use Rattle.csp_link.specs.declared.held.Held.{Held}
use Rattle.csp_log.specs.declared.frame.Frame.{Frame}

-- one more at the end
pub one_more : (held : List Held) (n : ℕ) (h : Held) → (held ++ replicate n h) ++ h ∷ [] ≡ held ++ replicate (n + 1) h
one_more held n h = append_assoc held (replicate n h) (h ∷ []) ∙ ap (λ hs. held ++ hs) (replicate-append-replicate n 1 h)

held_alike : (due n : ℕ) (f : Frame) → replicate n (held_until due f) ≡ map (held_until due) (replicate n f)
held_alike due zero f = refl
held_alike due (suc n) f = ap (λ hs. held_until due f ∷ hs) (held_alike due n f)

-- copies that were held one by one, and the frame itself, are what its fate makes of it
pub all_held : (held hs new : List Held) (fate : Fate) (now n rounds : ℕ) (f g : Frame) → fate.lost ≡ false → n ≡ fate.repeats → rounds ≡ fate.delay → g ≡ damaged fate.flip f
    → hs ≡ held ++ replicate n (held_until (now + rounds) g) → new ≡ hs ++ held_until (now + rounds) g ∷ [] → new ≡ held ++ held_copies fate now f
all_held held hs new fate now n rounds f g kept many late made before after =
    after ∙ ap (λ xs. xs ++ held_until (now + rounds) g ∷ []) before
    ∙ (λ i. (held ++ replicate (many i) (held_until (now + late i) (made i))) ++ held_until (now + late i) (made i) ∷ [])
    ∙ one_more held fate.repeats (held_until (now + fate.delay) (damaged fate.flip f))
    ∙ ap (λ hs. held ++ hs) (held_alike (now + fate.delay) (fate.repeats + 1) (damaged fate.flip f) ∙ sym (ap (λ b. map (held_until (now + fate.delay)) (if b then [] else replicate (fate.repeats + 1) (damaged fate.flip f))) kept))

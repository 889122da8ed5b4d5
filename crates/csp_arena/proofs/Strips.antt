-- Strips of bytes are cut, joined, and never in one place. Assumes `Logic`.
use Rattle.csp_arena.proofs.Steps.{ℕ, ◌+◌, ◌<◌, ◌≤◌, List, [], ◌∷◌, ◌++◌, length, take, drop, refl, sym, arith, full_share, IsPlaced, SProp, ent, sep, guard, never, never_e, fsep, feq, run_owns, ‵, ◌⊛◌, ◌$◌, ◌∵◌, !, qed, done, move, keep, by, let_go, use1, use2, split, fsplit, rewrite, check, w8, vint, Logic, sem, Ptr, block_ptr, null_ptr, ◌+ₚ◌}
use seplogic.Ra.Ura.{Ura}
use mir.Syntax.{ty_int}
use base.Fml.{fat, froom}
use prog.Model.{Model}
use denote.Plain.{uint_out}
use denote.RawPtr.Bytes.{bytes, bytes_apart, bytes_cut, bytes_glue}
use Rattle.std.proofs.lemmas.List.{take-append-drop, length-take-le}
use Rattle.bytes.proofs.Loans.{run_in}

module _ {M : Type 1} {𝓤 : Ura M} (𝓛 : Logic 𝓤) where
  abbrev Run : Ptr → List ℕ → SProp 𝓤
  Run p xs = sem 𝓛 (run_owns p xs)

  -- a strip is cut after its first n bytes
  pub strip_cut : (n : ℕ) (p : Ptr) (xs : List ℕ) → n ≤ length xs → ent 𝓤 (Run p xs) (sep 𝓤 (Run p (take n xs)) (Run (p +ₚ n) (drop n xs)))
  strip_cut n null_ptr xs h = never_e 𝓤 _
  strip_cut n (block_ptr b o) xs h =
      qed 𝓛 (‵ (run_owns (block_ptr b o) xs) ∷ []) ∵
      use1 𝓛 (‵ (fsep (feq ℕ (length xs) (length xs)) (bytes full_share xs b o))) (bytes_apart 𝓛 full_share (length xs) xs b o) $
      fsplit ! $ let_go ! $ rewrite ! 0 (λ ys. ‵ (bytes full_share ys b o)) (sym (take-append-drop n xs)) refl $
      use1 𝓛 (‵ (bytes full_share (take n xs) b o) ⊛ ‵ (bytes full_share (drop n xs) b (o + length (take n xs)))) (bytes_cut 𝓛 full_share (take n xs) (drop n xs) b o) $ split ! $
      use1 𝓛 (‵ (run_owns (block_ptr b o) (take n xs))) (run_in 𝓛 (block_ptr b o) (take n xs) refl) $ move ! (1 ∷ []) $
      rewrite ! 0 (λ k. ‵ (bytes full_share (drop n xs) b (o + k))) (length-take-le n xs h) refl $
      use1 𝓛 (‵ (run_owns (block_ptr b (o + n)) (drop n xs))) (run_in 𝓛 (block_ptr b (o + n)) (drop n xs) refl) $ move ! (1 ∷ 0 ∷ []) $ done !

  -- two strips of which the second follows the first are one
  pub strip_join : (p : Ptr) (xs ys : List ℕ) → ent 𝓤 (sep 𝓤 (Run p xs) (Run (p +ₚ length xs) ys)) (Run p (xs ++ ys))
  strip_join null_ptr xs ys = qed 𝓛 (‵ (run_owns null_ptr xs) ∷ ‵ (run_owns null_ptr ys) ∷ []) ∵ keep ! (0 ∷ []) $ by ! (never_e 𝓤 _)
  strip_join (block_ptr b o) xs ys =
      qed 𝓛 (‵ (run_owns (block_ptr b o) xs) ∷ ‵ (run_owns (block_ptr b (o + length xs)) ys) ∷ []) ∵
      use1 𝓛 (‵ (fsep (feq ℕ (length xs) (length xs)) (bytes full_share xs b o))) (bytes_apart 𝓛 full_share (length xs) xs b o) $ fsplit ! $ let_go ! $ move ! (1 ∷ []) $
      use1 𝓛 (‵ (fsep (feq ℕ (length ys) (length ys)) (bytes full_share ys b (o + length xs)))) (bytes_apart 𝓛 full_share (length ys) ys b (o + length xs)) $ fsplit ! $ let_go ! $ move ! (1 ∷ 0 ∷ []) $
      use2 𝓛 (‵ (bytes full_share (xs ++ ys) b o)) (bytes_glue 𝓛 full_share xs ys b o) $
      use1 𝓛 (‵ (run_owns (block_ptr b o) (xs ++ ys))) (run_in 𝓛 (block_ptr b o) (xs ++ ys) refl) $ done !

  -- a strip lies in a block of memory
  pub strip_placed : (p : Ptr) (xs : List ℕ) → ent 𝓤 (Run p xs) (guard 𝓤 (IsPlaced p) (Run p xs))
  strip_placed null_ptr xs = never_e 𝓤 _
  strip_placed (block_ptr b o) xs = qed 𝓛 (‵ (run_owns (block_ptr b o) xs) ∷ []) ∵ check ! refl $ done !

  -- two strips with a byte at one place are not
  pub strips_clash : Model 𝓤 𝓛.H → (p : Ptr) (xs ys : List ℕ) → 0 < length xs → 0 < length ys → ent 𝓤 (sep 𝓤 (Run p xs) (Run p ys)) (never 𝓤)
  strips_clash 𝓜 p [] ys h k = absurd (omega arith)
  strips_clash 𝓜 p (x ∷ xs) [] h k = absurd (omega arith)
  strips_clash 𝓜 null_ptr (x ∷ xs) (y ∷ ys) h k = qed 𝓛 (‵ (run_owns null_ptr (x ∷ xs)) ∷ ‵ (run_owns null_ptr (y ∷ ys)) ∷ []) ∵ keep ! (0 ∷ []) $ by ! (never_e 𝓤 _)
  strips_clash 𝓜 (block_ptr b o) (x ∷ xs) (y ∷ ys) h k =
      qed 𝓛 (‵ (run_owns (block_ptr b o) (x ∷ xs)) ∷ ‵ (run_owns (block_ptr b o) (y ∷ ys)) ∷ []) ∵
      use1 𝓛 (‵ (fsep (feq ℕ (length (x ∷ xs)) (length (x ∷ xs))) (bytes full_share (x ∷ xs) b o))) (bytes_apart 𝓛 full_share (length (x ∷ xs)) (x ∷ xs) b o) $ fsplit ! $ let_go ! $ fsplit ! $
      use1 𝓛 (‵ (fat full_share (ty_int w8) b o (vint w8 x))) (uint_out 𝓛 full_share w8 x b o) $
      use1 𝓛 (‵ (froom (ty_int w8) b o)) (𝓛.laws.at_room (ty_int w8) b o (vint w8 x)) $ move ! (2 ∷ []) $
      use1 𝓛 (‵ (fsep (feq ℕ (length (y ∷ ys)) (length (y ∷ ys))) (bytes full_share (y ∷ ys) b o))) (bytes_apart 𝓛 full_share (length (y ∷ ys)) (y ∷ ys) b o) $ fsplit ! $ let_go ! $ fsplit ! $
      use1 𝓛 (‵ (fat full_share (ty_int w8) b o (vint w8 y))) (uint_out 𝓛 full_share w8 y b o) $ keep ! (2 ∷ 0 ∷ []) $
      by ! (𝓜.room_at (ty_int w8) (ty_int w8) b o o o full_share (vint w8 y) (omega arith, omega arith) (omega arith, omega arith))

-- Two `Vec`s that lie in blocks of others, neither of them empty, lie at two places. Assumes `Logic`.
use Rattle.csp_arena.proofs.Steps.{◌≡◌, ℕ, ◌<◌, List, [], ◌∷◌, refl, sym, ap, ◌∙◌, subst, arith, Vec, full_share, ent, sep, guard, never, never_e, id⊢, run_owns, ‵, raw, ◌⊛◌, ◌$◌, ◌∵◌, !, qed, done, move, keep, by, check, use1, use2, fsplit, rewrite, Logic, sem, Val, u8, Ptr, block_ptr, null_ptr, in_block, in_a_block}
use Rattle.csp_arena.proofs.Shells.{live}
use Rattle.csp_arena.proofs.Strips.{strips_clash}
use Rattle.std.proofs.Common.{◌⊎◌, inl, inr}
use Rattle.std.proofs.lemmas.Bool.{cases_eq}
use Rattle.std.specs.Allocator.{block_with_items}
use Rattle.std_alloc.specs.Vec.Ownership.{owns_if, has_block}
use Rattle.std_alloc.specs.declared.vec.lodged.Lodged.{Lodged}
use Rattle.bytes.proofs.Lodging.{Housed}
use seplogic.Ra.Ura.{Ura}
use prog.Model.{Model}
use denote.Array.{Array}
use denote.RawPtr.{lies_at, InBlock, block_of, count_of}

-- two places are one, or they are not
same_place : (p q : Ptr) → (p ≡ q) ⊎ (p ≡ q → ⊥)
same_place null_ptr null_ptr = inl refl
same_place null_ptr (block_ptr c r) = inr (λ e. subst InBlock (sym e) tt)
same_place (block_ptr b o) null_ptr = inr (λ e. subst InBlock e tt)
same_place (block_ptr b o) (block_ptr c r) =
    elim (cases_eq b c) [
      | inl e ↦ elim (cases_eq o r) [ inl f ↦ inl (ap (λ k. block_ptr k o) e ∙ ap (block_ptr c) f) | inr n ↦ inr (λ g. n (ap count_of g)) ]
      | inr n ↦ inr (λ g. n (ap block_of g))
    ]

module _ {M : Type 1} {𝓤 : Ura M} (𝓛 : Logic 𝓤) where
  -- such a `Vec` has its bytes
  lodged_strip : (d : Vec ℕ Lodged) (us : List Val) → 0 < d.len → ent 𝓤 (sem 𝓛 (Housed.own_val d us)) (sem 𝓛 (run_owns d.ptr d.items))
  lodged_strip d us some =
      let Blk = λ (p : Ptr). block_with_items (λ _ _. Rattle.csp_arena.proofs.Steps.ftrue) u8 p d.len d.cap d.items in
      qed 𝓛 (‵ (Housed.own_val d us) ∷ []) ∵ fsplit ! $ move ! (1 ∷ []) $ fsplit ! $ move ! (1 ∷ []) $
      in_a_block ! d.ptr (λ p. in_block p (owns_if (has_block d.cap) (Blk p))) (id⊢ 𝓤 (never 𝓤)) (λ b o at.
      rewrite ! 0 (λ y. ‵ (owns_if y (Blk (block_ptr b o)))) (live d.cap (omega (arith, d.ok.1))) refl $ rewrite ! 0 (λ p. ‵ (Blk p)) (sym at) refl $ fsplit ! $ keep ! (0 ∷ []) $
      rewrite ! 0 (λ k. ‵ (lies_at (Array u8 k) full_share d.ptr d.items)) d.ok.0 refl $ done !)

  module _ (𝓜 : Model 𝓤 𝓛.H) (v w : Vec ℕ Lodged) (us ws : List Val) (h : 0 < v.len) (k : 0 < w.len) where
    by_place : (v.ptr ≡ w.ptr) ⊎ (v.ptr ≡ w.ptr → ⊥)
        → ent 𝓤 (sep 𝓤 (sem 𝓛 (Housed.own_val v us)) (sem 𝓛 (Housed.own_val w ws))) (guard 𝓤 (v.ptr ≡ w.ptr → ⊥) (sep 𝓤 (sem 𝓛 (Housed.own_val v us)) (sem 𝓛 (Housed.own_val w ws))))
    by_place (inl e) =
        qed 𝓛 (‵ (Housed.own_val v us) ∷ ‵ (Housed.own_val w ws) ∷ []) ∵ use1 𝓛 (‵ (run_owns v.ptr v.items)) (lodged_strip v us h) $ move ! (1 ∷ []) $
        use1 𝓛 (‵ (run_owns w.ptr w.items)) (lodged_strip w ws k) $ rewrite ! 0 (λ p. ‵ (run_owns p w.items)) (sym e) refl $ move ! (1 ∷ 0 ∷ []) $
        use2 𝓛 (raw (never 𝓤)) (strips_clash 𝓛 𝓜 v.ptr v.items w.items (omega (arith, v.ok.0)) (omega (arith, w.ok.0))) $ by ! (never_e 𝓤 _)
    by_place (inr n) = qed 𝓛 (‵ (Housed.own_val v us) ∷ ‵ (Housed.own_val w ws) ∷ []) ∵ check ! n $ done !

    pub lodged_differ : ent 𝓤 (sep 𝓤 (sem 𝓛 (Housed.own_val v us)) (sem 𝓛 (Housed.own_val w ws))) (guard 𝓤 (v.ptr ≡ w.ptr → ⊥) (sep 𝓤 (sem 𝓛 (Housed.own_val v us)) (sem 𝓛 (Housed.own_val w ws))))
    lodged_differ = by_place (same_place v.ptr w.ptr)

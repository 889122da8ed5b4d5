-- A `Vec` of bytes is a strip and its shell. Assumes `Logic`.
use Rattle.csp_arena.proofs.Steps.{◌≡◌, ℕ, ◌<◌, List, [], ◌∷◌, length, refl, sym, arith, Vec, full_share, ent, sep, never, id⊢, fsep, feq, fall, fwand, run_owns, ‵, ◌$◌, ◌∵◌, !, qed, done, move, frame, each, assume, show, fsplit, fjoin, feq_l, feq_i, rewrite, Logic, sem, Val, u8, Ptr, in_block, in_a_block, plainly, one, one_made}
use Rattle.std.proofs.Common.{true}
use Rattle.std.proofs.lemmas.Bool.{ne_eqb, not_from_false}
use Rattle.std.proofs.lemmas.List.{with_items_is}
use seplogic.Ra.Ura.{Ura}
use base.Logic.{wand}
use denote.RattleType.{RattleType}
use denote.Array.{Array}
use denote.RawPtr.{lies_at}
use denote.Param.Laws.{Laws, of_field}
use denote.Struct.Laws.{u8-laws, u8-copy}
use denote.Struct.Field.{u8-field}
use denote.Param.Shared.{copy_shared}
use Rattle.std.specs.Allocator.{block_with_items}
use Rattle.std.specs.Vec.{with_items}
use Rattle.std.specs.declared.alloc.Global.{Global}
use Rattle.std.specs.contracts.alloc.Global as G
use Rattle.std.specs.contracts.impls.GlobalAllocator.TheImpl.{ghosts}
use Rattle.std.proofs.alloc.Global.TheLaws as heap_laws
use Rattle.std_alloc.specs.Vec.Ownership.{owns_if, has_block}
use Rattle.std_alloc.specs.contracts.vec.Vec as V
use Rattle.std_alloc.proofs.vec.Vec.TheLaws as vec_laws
use Rattle.csp_arena.specs.contracts.strip.Shell as S

-- a `Vec<u8>`
abbrev pub Whole : RattleType
Whole = V.the_row u8 G.the_row ghosts

abbrev pub whole_laws : Laws Whole
whole_laws = vec_laws.the_row_laws u8 G.the_row ghosts (of_field u8-field u8-laws refl (copy_shared u8-field u8-copy)) heap_laws.the_row_laws

-- it has a block where it is not empty
pub live : (c : ℕ) → 0 < c → has_block c ≡ true
live c h = not_from_false _ (ne_eqb c 0 (λ e. omega arith))

module _ {M : Type 1} {𝓤 : Ura M} (𝓛 : Logic 𝓤) (v : Vec ℕ Global) (u : Val) where
  pub carve : 0 < v.len → ent 𝓤 (sem 𝓛 (Whole.own_val v (u ∷ []))) (sep 𝓤 (sem 𝓛 (run_owns v.ptr v.items)) (sem 𝓛 (S.the_own (record { ptr = v.ptr; len = v.len }) (one u ∷ []))))
  carve some =
      let has : has_block v.cap ≡ true = live v.cap (omega (arith, v.ok.1)) in
      let t = ghosts.dealloc_token v.alloc in
      let Blk = λ (p : Ptr) (xs : List ℕ). block_with_items t u8 p v.len v.cap xs in
      let Given = λ (ys : List ℕ). fsep (feq ℕ (length ys) v.len) (run_owns v.ptr ys) in
      let Back = λ (ys : List ℕ). (plainly (Whole ∷ [])).own_val (with_items v ys, tt) (one u ∷ []) in
      qed 𝓛 (‵ (Whole.own_val v (u ∷ [])) ∷ []) ∵ fsplit ! $ move ! (1 ∷ []) $ fsplit ! $ move ! (1 ∷ []) $
      in_a_block ! v.ptr (λ p. in_block p (owns_if (has_block v.cap) (Blk p v.items))) (id⊢ 𝓤 (never 𝓤)) (λ b o at.
      rewrite ! 0 (λ y. ‵ (owns_if y (Blk (denote.RawPtr.block_ptr b o) v.items))) has refl $ rewrite ! 0 (λ p. ‵ (Blk p v.items)) (sym at) refl $ fsplit ! $
      rewrite ! 0 (λ n. ‵ (lies_at (Array u8 n) full_share v.ptr v.items)) v.ok.0 refl $ frame ! $
      -- [the spare room and the right to free; the bound; the fields]
      show ! (λ i. sem 𝓛 (fsep (feq ℕ i.vec.len v.len) (fall (List ℕ) (λ ys. fwand (Given ys) ((plainly (Whole ∷ [])).own_val (with_items i.vec ys, tt) (one u ∷ [])))))) (record { vec = v }) $
      feq_i ! ℕ v.len v.len refl $ frame ! $ each ! (λ ys. wand 𝓤 (sem 𝓛 (Given ys)) (sem 𝓛 (Back ys))) (λ ys. assume ! (‵ (Given ys)) $ fsplit ! $ feq_l ! (λ long.
      rewrite ! 0 (λ n. ‵ (lies_at (Array u8 n) full_share v.ptr ys)) long refl $ fjoin ! $
      rewrite ! 0 (λ xs. ‵ (Blk v.ptr xs)) (sym (with_items_is v ys long)) refl $
      let zs = (with_items v ys).items in
      rewrite ! 0 (λ p. ‵ (Blk p zs)) at refl $ rewrite ! 0 (λ y. ‵ (owns_if y (Blk (denote.RawPtr.block_ptr b o) zs))) (sym has) refl $
      rewrite ! 0 (λ p. ‵ (in_block p (owns_if (has_block v.cap) (Blk p zs)))) (sym at) refl $
      move ! (1 ∷ 0 ∷ []) $ fjoin ! $ move ! (1 ∷ 0 ∷ []) $ fjoin ! $ one_made ! Whole (with_items v ys) u $ done !)))

-- The machine value of the tokens, the ghost side of each step, and the names that the walks cite. Assumes `Logic`.
pub use Rattle.std.proofs.Common.{ℕ, zero, suc, ◌≡◌, ◌+◌, ◌-◌, ◌<◌, ◌≤◌, List, [], ◌∷◌, ◌++◌, refl, sym, ap, ◌∙◌, subst, arith}
pub use Rattle.std.proofs.raw_atomic.Walks.{proved, leaves}
pub use mir.Syntax.{named}
pub use mir.Val.{Val, vunit, vptr, vstruct, vcons, vnil, of_list}
pub use base.Logic.{SProp, ent, sep, ex, guard, guard_i, guard_e, ex_e, upd, upd_mono, emp, id⊢, via}
pub use base.Fml.{GName, Fml, ftrue, flft}
pub use contract.Monad.{fact, fact_i}
pub use contract.Running.{tables}
pub use types.Logic.{Logic, sem}
pub use types.Owned.{basic}
pub use types.Kit.{‵, raw, ◌⊛◌, some, given, later, ◌$◌, ◌∵◌, !, qed, by, move, keep, drop, split, join, fsplit, fsplit3, fjoin, fjoin3, fpick, fpack, feq_i, pick, learn, show, rewrite, check, use0, use1, use2, updating, await, now, done}
pub use types.Run.{enter, of_opd, unit_lit, no_more, and_then, returns}
pub use types.ByLocal.{alloc_all, pass_all, free_all, look_at, get, sets}
pub use types.Part.{agg}
pub use denote.RattleType.{RattleType, owns}
pub use denote.Signature.{types_at, plain}
pub use denote.Builtin.{unit}
pub use denote.Ref.{mut_vals, mut_Tells}
pub use denote.Steps.{nothing, opens, closes}
pub use denote.Triple.Walked.{Stays, stay_dropped, stay_ref, walk_of, Goes-dropped, Goes-ref}
pub use Rattle.csp_tally.specs.Counts.{Entry, raises, unused, was_used, rights_from, tally_owns, ticket_owns, witness_owns}
use mathlib.Core.Path.{Path}
use mathlib.Core.Option.{none, some as just}
use mathlib.Mathlib.Data.Part.{◌∈◌}
use native.Mathlib.Nat.{le_refl}
use native.Mathlib.Decide.{ℕ_discrete, dec_lt}
use seplogic.Ra.Pcs.{OpDef}
use seplogic.Ra.Ura.{Ura}
use seplogic.Ra.Constructions.Opt
use base.Fraction.{full_share}
use base.FractionLaws.{not-OpDef-full_share}
use base.Graph.{sum_in}
use base.Growing.{numbers, Sum, grows}
use base.Share
use base.Shift.{Keyless}
use types.Keyed.{entries_new, entries_take, entries_beside, entry_cut, entry_glue, entry_set, entry_keyless, entries_keyless}
use denote.Laws.{Is}
use denote.Shadow.{makes_shadow}
use denote.Struct.Struct.{Struct}
use Rattle.std.specs.contracts.marker.PhantomData as marker

abbrev pub token : Val
token = vstruct (vcons (vstruct vnil) vnil)

abbrev pub Token : RattleType
Token = Struct record { name = []; args = []; types = []; fields = marker.the_row unit ∷ [] }

pub token_told : (vs : List Val) → Is Token (record {}, tt) vs → vs ≡ token ∷ []
token_told vs is = is.1.0 ∙ ap (λ (ws : List Val). vstruct (of_list (ws ++ [])) ∷ []) is.1.1.0.1.0

-- ---- one entry
abbrev used_up : Entry
used_up = (just full_share, 1)

beside_used : (n : ℕ) → n ≤ 1 → Sum numbers used_up (none, n) used_up
beside_used n h = (Opt.mem-op-none Share.op (just full_share), ((le_refl 1, h, λ e x _. x), ((λ _. le_refl 1), λ x. absurd x)))

raised : (o : Entry) → OpDef raises.op unused o → OpDef raises.op used_up o
raised (none, n) d = let below : n ≤ d.0.1 = d.1.1.0.1 in let low : d.0.1 ≤ 0 = d.1.1.1.0 tt in (used_up, beside_used n (omega arith))
raised (just q, n) d = absurd (not-OpDef-full_share q d.1.0.0)

shown : ◌∈◌ {α = Entry} used_up (raises.op used_up was_used)
shown = sum_in (grows numbers) used_up was_used used_up (beside_used 1 (le_refl 1))

copied : ◌∈◌ {α = Entry} was_used (raises.op was_used was_used)
copied = sum_in (grows numbers) was_used was_used was_used (Opt.mem-none-op Share.op none, ((le_refl 1, le_refl 1, λ e _ x. x), ((λ x. absurd x), λ x. absurd x)))

-- whoever may raise an entry knows that it was not raised
clash : OpDef raises.op was_used unused → ⊥
clash d = let above : 1 ≤ d.0.1 = d.1.1.0.0 in let low : d.0.1 ≤ 0 = d.1.1.1.1 tt in omega arith

module _ {M : Type 1} {𝓤 : Ura M} (𝓛 : Logic 𝓤) where
  open 𝓛 use {H}

  abbrev Pr : Type 2
  Pr = SProp 𝓤

  abbrev ◌⊢◌ : Pr → Pr → Type 1
  P ⊢ Q = ent 𝓤 P Q

  abbrev ◌∗◌ : Pr → Pr → Pr
  P ∗ Q = sep 𝓤 P Q

  abbrev ⟦◌⟧ : Fml → Pr
  ⟦ P ⟧ = sem 𝓛 P

  infix 26 ◌⊢◌
  infixr 35 ◌∗◌
  pub token_made : emp 𝓤 ⊢ ⟦ Token.own_val (record {}, tt) (token ∷ []) ⟧
  token_made = makes_shadow 𝓛 (Token.own_val (record {}, tt) (token ∷ [])) (λ vss. (tt, ((λ uss. (tt, tt)), tt))) ((vstruct vnil ∷ [], tt), (refl, ((tt, (refl, tt)), tt)))

  -- ---- handing out and taking back
  pub tally_new : emp 𝓤 ⊢ H.⇛ (ex 𝓤 (λ (γ : GName). ⟦ tally_owns γ 0 ⟧))
  unfolding tally_owns
  tally_new = qed 𝓛 [] ∵ updating ! $ use0 𝓛 (later (some (λ (γ : GName). ‵ (rights_from γ 0 0)))) (via 𝓤 _ (entries_new raises 𝓛 0 (λ _. unused)) (basic 𝓛 _)) $ await ! tt $
      pick ! (λ γ. now ! $ show ! (λ (δ : GName). ⟦ tally_owns δ 0 ⟧) γ $ fpack ! ℕ (rights_from γ 0) 0 $ done !)

  handed : (γ n back : ℕ) → ⟦ rights_from γ n back ⟧ ⊢ ⟦ tally_owns γ (suc n) ⟧ ∗ ⟦ ticket_owns γ n ⟧
  unfolding tally_owns ticket_owns
  handed γ n zero = qed 𝓛 (‵ (rights_from γ n 0) ∷ []) ∵ use1 𝓛 (‵ (ticket_owns γ n) ⊛ ‵ (rights_from γ (suc n) 0)) (entries_take raises 𝓛 γ n (λ _. unused)) $ split ! $ move ! (1 ∷ []) $
      fpack ! ℕ (rights_from γ (suc n)) 0 $ done !
  handed γ n (suc back) = qed 𝓛 (‵ (ticket_owns γ n) ∷ ‵ (rights_from γ (suc n) back) ∷ []) ∵ move ! (1 ∷ []) $ fpack ! ℕ (rights_from γ (suc n)) back $ done !

  pub tally_hands : (γ n : ℕ) → ⟦ tally_owns γ n ⟧ ⊢ ⟦ tally_owns γ (n + 1) ⟧ ∗ ⟦ ticket_owns γ n ⟧
  unfolding tally_owns
  tally_hands γ n = let on : suc n ≡ n + 1 = omega arith in qed 𝓛 (‵ (tally_owns γ n) ∷ []) ∵ fpick ! (λ back.
      use1 𝓛 (‵ (tally_owns γ (suc n)) ⊛ ‵ (ticket_owns γ n)) (handed γ n back) $ split ! $ rewrite ! 0 (λ (m : ℕ). ‵ (tally_owns γ m)) on refl $ done !)

  pub tally_takes : (γ n δ m : ℕ) → δ ≡ γ → m + 1 ≡ n → ⟦ tally_owns γ n ⟧ ∗ ⟦ ticket_owns δ m ⟧ ⊢ ⟦ tally_owns γ m ⟧
  unfolding tally_owns
  tally_takes γ n δ m same last = let next : n ≡ suc m = omega arith in qed 𝓛 (‵ (tally_owns γ n) ∷ ‵ (ticket_owns δ m) ∷ []) ∵ fpick ! (λ back.
      rewrite ! 1 (λ (z : ℕ). ‵ (ticket_owns z m)) same refl $ rewrite ! 0 (λ (z : ℕ). ‵ (rights_from γ z back)) next refl $ move ! (1 ∷ 0 ∷ []) $ fjoin ! $ fpack ! ℕ (rights_from γ m) (suc back) $ done !)

  -- ---- using
  pub ticket_used : (γ n : ℕ) → ⟦ ticket_owns γ n ⟧ ⊢ H.⇛ ⟦ witness_owns γ n ⟧
  unfolding ticket_owns witness_owns
  ticket_used γ n = let B : Entry → Type 0 = λ x. Path Entry x used_up in let at : Entry → Fml = types.Keyed.entry raises γ n in let Z : Pr = ⟦ at used_up ⟧ ∗ ⟦ witness_owns γ n ⟧ in
      let spent : ⟦ at unused ⟧ ⊢ upd 𝓤 Z = via 𝓤 (upd 𝓤 (ex 𝓤 (λ (x : Entry). guard 𝓤 (B x) ⟦ at x ⟧))) (entry_set raises 𝓛 γ n unused B ∣ (used_up, refl) ∣₁ (λ o d. ∣ (used_up, refl, raised o d) ∣₁))
      (upd_mono 𝓤 {Q = Z} (ex_e 𝓤 (λ (x : Entry). guard 𝓤 (B x) ⟦ at x ⟧) (λ x. guard_e 𝓤 (B x) ⟦ at x ⟧ (λ e. subst (λ (y : Entry). ⟦ at y ⟧ ⊢ Z) (sym e) (entry_cut raises 𝓛 γ n used_up was_used used_up shown))))) in
      qed 𝓛 (‵ (at unused) ∷ []) ∵ updating ! $ use1 𝓛 (later (‵ (at used_up) ⊛ ‵ (witness_owns γ n))) (via 𝓤 _ spent (basic 𝓛 _)) $ await ! tt $ split ! $ drop ! $ now ! $ done !

  pub witness_twice : (γ n : ℕ) → ⟦ witness_owns γ n ⟧ ⊢ ⟦ witness_owns γ n ⟧ ∗ ⟦ witness_owns γ n ⟧
  unfolding witness_owns
  witness_twice γ n = entry_cut raises 𝓛 γ n was_used was_used was_used copied

  unused_here : (γ n : ℕ) (Z : Pr) → ⟦ witness_owns γ n ⟧ ∗ ⟦ ticket_owns γ n ⟧ ⊢ Z
  unfolding ticket_owns witness_owns
  unused_here γ n Z = let F : Entry → Pr = λ x. guard 𝓤 (x ∈ raises.op was_used unused) ⟦ types.Keyed.entry raises γ n x ⟧ in
      via 𝓤 (ex 𝓤 F) (entry_glue raises 𝓛 γ n was_used unused) (ex_e 𝓤 F (λ x. guard_e 𝓤 (x ∈ raises.op was_used unused) ⟦ types.Keyed.entry raises γ n x ⟧ (λ m. absurd (clash m.0))))

  -- no number whose right is in hand was used
  unused_from : (γ n back i m : ℕ) (Z : Pr) → m ≡ n + i → ⟦ rights_from γ n back ⟧ ∗ ⟦ witness_owns γ m ⟧ ⊢ Z
  unfolding witness_owns
  unused_from γ n zero i m Z e = qed 𝓛 (‵ (rights_from γ n 0) ∷ ‵ (witness_owns γ m) ∷ []) ∵ move ! (1 ∷ 0 ∷ []) $
      use2 𝓛 (given (OpDef raises.op was_used unused) (‵ (witness_owns γ m) ⊛ ‵ (rights_from γ n 0))) (entries_beside raises 𝓛 γ n m (λ _. unused) was_used (omega arith)) $ learn ! (λ x. absurd (clash x))
  unused_from γ n (suc back) zero m Z e = let is : m ≡ n = omega arith in qed 𝓛 ((‵ (ticket_owns γ n) ⊛ ‵ (rights_from γ (suc n) back)) ∷ ‵ (witness_owns γ m) ∷ []) ∵ split ! $
      rewrite ! 2 (λ (z : ℕ). ‵ (witness_owns γ z)) is refl $ keep ! (2 ∷ 0 ∷ []) $ by ! (unused_here γ n Z)
  unused_from γ n (suc back) (suc i) m Z e = qed 𝓛 ((‵ (ticket_owns γ n) ⊛ ‵ (rights_from γ (suc n) back)) ∷ ‵ (witness_owns γ m) ∷ []) ∵ split ! $ drop ! $ by ! (unused_from γ (suc n) back i m Z (omega arith))

  abbrev Both : ℕ → ℕ → ℕ → ℕ → Pr
  Both γ n δ m = ⟦ tally_owns γ n ⟧ ∗ ⟦ witness_owns δ m ⟧

  knows_same : (γ n m : ℕ) → Dec (m < n) → Both γ n γ m ⊢ guard 𝓤 (m < n) (Both γ n γ m)
  unfolding tally_owns
  knows_same γ n m (yes h) = guard_i 𝓤 (m < n) (Both γ n γ m) h
  knows_same γ n m (no h) = qed 𝓛 (‵ (tally_owns γ n) ∷ ‵ (witness_owns γ m) ∷ []) ∵ fpick ! (λ back. by ! (unused_from γ n back (m - n) m (guard 𝓤 (m < n) (Both γ n γ m)) (omega arith)))

  knows_named : (γ n δ m : ℕ) → Dec (δ ≡ γ) → Both γ n δ m ⊢ guard 𝓤 (δ ≡ γ → m < n) (Both γ n δ m)
  knows_named γ n δ m (yes e) = qed 𝓛 (‵ (tally_owns γ n) ∷ ‵ (witness_owns δ m) ∷ []) ∵ rewrite ! 1 (λ (z : ℕ). ‵ (witness_owns z m)) e refl $
      use2 𝓛 (given (m < n) (‵ (tally_owns γ n) ⊛ ‵ (witness_owns γ m))) (knows_same γ n m (dec_lt m n)) $ learn ! (λ low. split ! $ rewrite ! 1 (λ (z : ℕ). ‵ (witness_owns z m)) (sym e) refl $ check ! (λ _. low) $ done !)
  knows_named γ n δ m (no f) = guard_i 𝓤 (δ ≡ γ → m < n) (Both γ n δ m) (λ e. absurd (f e))

  pub tally_knows : (γ n δ m : ℕ) → Both γ n δ m ⊢ guard 𝓤 (δ ≡ γ → m < n) (Both γ n δ m)
  tally_knows γ n δ m = knows_named γ n δ m (ℕ_discrete δ γ)

-- ---- none of them is a token of one thread
pub ticket_keyless : (γ n : ℕ) → Keyless (ticket_owns γ n)
unfolding ticket_owns
ticket_keyless γ n = entry_keyless raises γ n unused

pub witness_keyless : (γ n : ℕ) → Keyless (witness_owns γ n)
unfolding witness_owns
witness_keyless γ n = entry_keyless raises γ n was_used

rights_keyless : (γ n back : ℕ) → Keyless (rights_from γ n back)
rights_keyless γ n zero = entries_keyless raises γ n (λ _. unused)
rights_keyless γ n (suc back) = (ticket_keyless γ n, rights_keyless γ (suc n) back)

pub tally_keyless : (γ n : ℕ) → Keyless (tally_owns γ n)
unfolding tally_owns
tally_keyless γ n = rights_keyless γ n

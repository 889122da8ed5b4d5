-- `differ` looks at what both references own. Assumes `Logic`.
use Rattle.csp_arena.proofs.Steps.{◌≡◌, ◌<◌, [], ◌∷◌, refl, proved, ftrue, flft, named, vunit, fact, ‵, raw, ◌⊛◌, given, ◌$◌, ◌∵◌, !, qed, done, move, keep, use2, split, join, fsplit3, feq_i, learn, suffices, frame, group, enter, of_opd, unit_lit, returns, alloc_all, pass_all, free_all, look_at, sets, MutRef, mut_vals, mut_Tells, plain, nothing, opens, closes, heard, says, Stays, stay_ref, Goes-ref, ends_at}
use types.Kit.{split3}
use Rattle.csp_arena.proofs.Lodged.{lodged_differ}
use Rattle.bytes.proofs.Lodging.{Housed}
use Rattle.csp_arena.specs.contracts.strip.differ as f
use Rattle.csp_arena.proofs.strip.differ.Statement.{statement}
use Rattle.csp_arena.proofs.strip.differ.Code as code

abbrev stayed : Stays f.ended.signature.params f.ended.kept
stayed = (stay_ref (0 ∷ []) tt (plain (λ _. Housed)), (stay_ref (1 ∷ []) tt (plain (λ _. Housed)), tt))

pub differ_spec : {M : Type 1} → statement M
differ_spec 𝓤 𝓛 𝓜 𝓡 wired =
    let c = f.clauses 𝓛 𝓜.mem 𝓡.returns in
    proved 𝓛 f.ended stayed c 𝓜 𝓡 (Goes-ref 𝓛 2 0 tt (plain (λ _. Housed)), (Goes-ref 𝓛 2 1 tt (plain (λ _. Housed)), tt))
    f.Key.name code.function (code.unfolded 𝓤 𝓛.H 𝓜 𝓡 wired)
    (λ κs. (mut_vals, (mut_vals, tt))) (λ κs. (mut_Tells (named 0) κs.0 Housed, (mut_Tells (named 1) κs.1.0 Housed, tt))) (λ κs qs bounds a _ are.
    let r = a.0 in let s = a.1.0 in let v = r.now in let w = s.now in
    let b = r.ref_ptr.0 in let o = r.ref_ptr.1 in let b' = s.ref_ptr.0 in let o' = s.ref_ptr.1 in
    let Asked = (0 < v.len) × (0 < w.len) in
    qed 𝓛 (((‵ (flft κs.0 qs.0) ⊛ ‵ (flft κs.1.0 qs.1.0) ⊛ ‵ ftrue) ⊛ ‵ ((MutRef (named 0) κs.0 Housed).own_val r (mut_vals r)) ⊛ ‵ ((MutRef (named 1) κs.1.0 Housed).own_val s (mut_vals s)) ⊛ ‵ ftrue) ∷ raw (fact 𝓤 Asked) ∷ []) ∵
    move ! (1 ∷ []) $ heard ! Asked (λ asked. split ! $ split3 ! $ move ! (3 ∷ []) $ split3 ! $ keep ! (0 ∷ 1 ∷ 3 ∷ 4 ∷ []) $
    enter ! _ _ _ _ _ $ alloc_all ! (λ l. pass_all ! refl ((tt, tt), ((tt, tt), tt)) $
    -- [the first; the second; the tokens of both]
    fsplit3 ! $ move ! (1 ∷ 2 ∷ 4 ∷ []) $ opens ! tt Housed {h = v} b o (λ us.
    move ! (6 ∷ []) $ fsplit3 ! $ move ! (1 ∷ 2 ∷ 9 ∷ []) $ opens ! tt Housed {h = w} b' o' (λ ws.
    move ! (7 ∷ 1 ∷ []) $
    use2 𝓛 (given (v.ptr ≡ w.ptr → ⊥) (‵ (Housed.own_val v us) ⊛ ‵ (Housed.own_val w ws))) (lodged_differ 𝓛 𝓜 v w us ws asked.0 asked.1) $ learn ! (λ differ. split ! $
    move ! (2 ∷ 1 ∷ 3 ∷ 4 ∷ 5 ∷ []) $ closes ! tt Housed w ws b' o' $ move ! (5 ∷ 3 ∷ 6 ∷ 7 ∷ 8 ∷ []) $ closes ! tt Housed v us b o $
    sets ! (of_opd ! (unit_lit !)) refl (tt, tt) $ returns ! (look_at ! 0 refl) $ free_all ! refl $
    -- [two parts of the first; its token; two parts of the second; its token; the second's third; the first's third]
    move ! (6 ∷ 3 ∷ 4 ∷ []) $
    suffices ! _ (ends_at 𝓛 f.ended stayed c ((κs, qs, bounds, a, (mut_vals r, (mut_vals s, tt))), tt) vunit tt (v, (w, tt)) (tt, (tt, tt))) $ says ! (refl, refl, differ) $
    group ! 3 $ nothing ! $ move ! (1 ∷ 0 ∷ []) $ join ! $ move ! (5 ∷ 1 ∷ 2 ∷ []) $ group ! 3 $ join ! $
    nothing ! $ move ! (3 ∷ 0 ∷ []) $ join ! $ move ! (2 ∷ 0 ∷ []) $ join ! $ frame ! $ frame ! $
    feq_i ! _ (vunit ∷ []) _ refl $ done !))))))

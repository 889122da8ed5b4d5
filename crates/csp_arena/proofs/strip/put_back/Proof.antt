-- `put_back` hands the bytes to what waits for them. Assumes `Logic`.
use Rattle.csp_arena.proofs.Steps.{◌≡◌, ℕ, List, [], ◌∷◌, ◌++◌, length, refl, sym, ◌∙◌, subst, proved_at, Goes-blank, plainly, none, one, one_had, none_had, run_owns, WpFn, Val, fact, tables, Goal, ‵, raw, ◌⊛◌, prop, ◌$◌, ◌∵◌, !, qed, done, move, let_go, use1, use2, split, fsplit, fjoin, fpick, feq_l, feq_i, regoal, rewrite, suffices, enter, of_opd, fld, stop, returns, sub, whole, alloc_all, pass_all, free_all, look_at, get, get_in, sets, yes, owns, layout, fsep, feq, fwand, Typed, sem, plain, types_at, nothing, heard, alive, says, Stays, stay_dropped, walk_of, ends_at}
use base.Logic.{all_e, apply∗}
use Rattle.std.specs.Vec.{with_items}
use Rattle.std.proofs.lemmas.List.{with_items_is}
use Rattle.csp_arena.proofs.Shells.{Whole, whole_laws}
use Rattle.csp_arena.specs.contracts.strip.Strip.{the_row as S}
use Rattle.csp_arena.specs.contracts.strip.Shell as Shell
use Rattle.csp_arena.specs.contracts.strip.put_back as f
use Rattle.csp_arena.proofs.strip.put_back.Statement.{statement}
use Rattle.csp_arena.proofs.strip.put_back.Code as code

abbrev stayed : Stays f.ended.signature.params f.ended.kept
stayed = (stay_dropped (plain (λ _. S)) yes, (stay_dropped (plain (λ _. Shell.the_row)) yes, tt))

pub put_back_spec : {M : Type 1} → statement M
put_back_spec 𝓤 𝓛 𝓜 𝓡 wired =
    let c = f.clauses 𝓛 𝓜.mem 𝓡.returns in let W = walk_of 𝓛 f.ended stayed c in let 𝓣 = tables 𝓤 𝓛.H 𝓜 𝓡 𝓡.env in
    proved_at 𝓛 f.ended stayed c 𝓜 𝓡 (Goes-blank 𝓛 0 (plain (λ _. S)) yes (λ κs x f. tt), (Goes-blank 𝓛 0 (plain (λ _. Shell.the_row)) yes (λ κs x f. tt), tt))
    f.Key.name code.function (code.unfolded 𝓤 𝓛.H 𝓜 𝓡 wired) (λ z are.
    let a = z.0.3 in let vss = z.0.4 in let xs = a.0.items in let e = a.1.0 in
    let Asked = (a.0.ptr ≡ e.ptr) × (length xs ≡ e.len) in
    let Runs : List Val → Goal 𝓤 𝓛.H = λ us. prop (WpFn 𝓤 𝓛.H 𝓣.C 𝓣.Λ code.function us (W.post z)) in
    qed 𝓛 ((raw (alive 𝓛 f.signature z.0.0 z.0.1) ⊛ ‵ (owns (types_at f.signature.params z.0.0) a vss)) ∷ raw (fact 𝓤 Asked) ∷ []) ∵
    move ! (1 ∷ []) $ heard ! Asked (λ asked. split ! $ move ! (1 ∷ []) $
    fsplit ! $ fsplit ! $ none_had ! vss.0 (λ is₀. move ! (1 ∷ []) $ fsplit ! $ fsplit ! $ fpick ! (λ typed. let_go ! $ fpick ! (λ v. fsplit ! $ feq_l ! (λ len.
    let Given = λ (ys : List ℕ). fsep (feq ℕ (length ys) e.len) (run_owns e.ptr ys) in
    let Back = λ (ys : List ℕ). (plainly (Whole ∷ [])).own_val (with_items v.vec ys, tt) vss.1.0 in
    -- [the way back; nothing; the bytes; the tokens]
    use1 𝓛 (‵ (fwand (Given xs) (Back xs))) (all_e 𝓤 (λ ys. sem 𝓛 (fwand (Given ys) (Back ys))) xs) $ move ! (2 ∷ []) $
    rewrite ! 0 (λ p. ‵ (run_owns p xs)) asked.0 refl $ feq_i ! ℕ (length xs) e.len asked.1 $ fjoin ! $
    use2 𝓛 (‵ (Back xs)) (apply∗ 𝓤 (sem 𝓛 (Given xs)) (sem 𝓛 (Back xs))) $ one_had ! Whole whole_laws (with_items v.vec xs) vss.1.0 (λ u is₁ good.
    move ! (1 ∷ []) $ let_go ! $
    regoal ! (λ us. Runs (us ++ (vss.1.0 ++ []))) is₀ refl $ regoal ! (λ us. Runs ((none ∷ []) ++ (us ++ []))) is₁ refl $
    enter ! 𝓣.C 𝓣.Λ code.function (none ∷ one u ∷ []) (W.post z) $ alloc_all ! (λ l. pass_all ! refl ((tt, tt), ((subst (Typed Shell.the_row.mir) is₁ typed).0, tt)) $
    sets ! (of_opd ! (get_in ! (fld ! {τ = layout Whole} {d = 0} refl (stop !)) (sub ! 0 {τ = layout Whole} refl (whole !)))) refl good $
    sets ! (of_opd ! (get ! refl)) refl good $
    returns ! (look_at ! 0 refl) $ free_all ! refl $
    suffices ! _ (ends_at 𝓛 f.ended stayed c z u (with_items v.vec xs) (tt, (tt, tt)) (tt, (tt, tt))) $ says ! (with_items_is v.vec xs (asked.1 ∙ sym len)) $
    nothing ! $ nothing ! $ fjoin ! $ nothing ! $ fjoin ! $ move ! (2 ∷ 0 ∷ 1 ∷ []) $ done !))))))))

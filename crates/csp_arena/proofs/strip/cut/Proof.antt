-- `cut` parts the bytes. Assumes `Logic`.
use Rattle.csp_arena.proofs.Steps.{◌≤◌, List, [], ◌∷◌, ◌++◌, length, take, drop, refl, proved_at, Goes-blank, none, two, none_had, none_made, two_made, run_owns, WpFn, Val, vint, w64, fact, tables, Goal, ‵, raw, ◌⊛◌, prop, ◌$◌, ◌∵◌, !, qed, done, move, let_go, use1, split, fsplit, fjoin, feq_l, flt_l, regoal, suffices, enter, no_more, and_then, returns, agg, alloc_all, pass_all, free_all, look_at, get, sets, yes, owns, usize, ◌+ₚ◌, plain, types_at, nothing, heard, alive, says, Stays, stay_dropped, walk_of, ends_at}
use Rattle.csp_arena.proofs.Strips.{strip_cut}
use Rattle.csp_arena.specs.contracts.strip.Strip.{the_row as S}
use Rattle.csp_arena.specs.contracts.strip.cut as f
use Rattle.csp_arena.proofs.strip.cut.Statement.{statement}
use Rattle.csp_arena.proofs.strip.cut.Code as code

abbrev stayed : Stays f.ended.signature.params f.ended.kept
stayed = (stay_dropped (plain (λ _. S)) yes, (stay_dropped (plain (λ _. usize)) yes, tt))

pub cut_spec : {M : Type 1} → statement M
cut_spec 𝓤 𝓛 𝓜 𝓡 wired =
    let c = f.clauses 𝓛 𝓜.mem 𝓡.returns in let W = walk_of 𝓛 f.ended stayed c in let 𝓣 = tables 𝓤 𝓛.H 𝓜 𝓡 𝓡.env in
    proved_at 𝓛 f.ended stayed c 𝓜 𝓡 (Goes-blank 𝓛 0 (plain (λ _. S)) yes (λ κs x f. tt), (Goes-blank 𝓛 0 (plain (λ _. usize)) yes (λ κs x f. tt), tt))
    f.Key.name code.function (code.unfolded 𝓤 𝓛.H 𝓜 𝓡 wired) (λ z are.
    let a = z.0.3 in let vss = z.0.4 in let s = a.0 in let n = a.1.0 in
    let front : S.Denot = record { ptr = s.ptr; items = take n s.items } in
    let back : S.Denot = record { ptr = s.ptr +ₚ n; items = drop n s.items } in
    let Runs : List Val → Goal 𝓤 𝓛.H = λ us. prop (WpFn 𝓤 𝓛.H 𝓣.C 𝓣.Λ code.function us (W.post z)) in
    qed 𝓛 ((raw (alive 𝓛 f.signature z.0.0 z.0.1) ⊛ ‵ (owns (types_at f.signature.params z.0.0) a vss)) ∷ raw (fact 𝓤 (n ≤ length s.items)) ∷ []) ∵
    move ! (1 ∷ []) $ heard ! (n ≤ length s.items) (λ asked. split ! $ move ! (1 ∷ []) $
    fsplit ! $ fsplit ! $ none_had ! vss.0 (λ is₀. move ! (1 ∷ []) $ fsplit ! $ fsplit ! $ feq_l ! (λ is₁. flt_l ! (λ fits. let_go ! $
    -- [the bytes; the tokens]
    use1 𝓛 (‵ (run_owns s.ptr (take n s.items)) ⊛ ‵ (run_owns (s.ptr +ₚ n) (drop n s.items))) (strip_cut 𝓛 n s.ptr s.items asked) $ split ! $
    none_made ! $ fjoin ! $ move ! (1 ∷ []) $ none_made ! $ fjoin ! $ move ! (1 ∷ 0 ∷ []) $ two_made ! S S front back none none $
    regoal ! (λ us. Runs (us ++ (vss.1.0 ++ []))) is₀ refl $ regoal ! (λ us. Runs ((none ∷ []) ++ (us ++ []))) is₁ refl $
    enter ! 𝓣.C 𝓣.Λ code.function (none ∷ vint w64 n ∷ []) (W.post z) $ alloc_all ! (λ l. pass_all ! refl ((tt, tt), ((tt, record { fits = fits }), tt)) $
    sets ! (agg ! (no_more !)) refl (tt, tt) $
    sets ! (agg ! (no_more !)) refl (tt, tt) $
    sets ! (agg ! (and_then ! (get ! refl) (and_then ! (get ! refl) (no_more !)))) refl (tt, (tt, (tt, tt))) $
    returns ! (look_at ! 0 refl) $ free_all ! refl $
    suffices ! _ (ends_at 𝓛 f.ended stayed c z (two none none) (front, back) (tt, (tt, tt)) (tt, (tt, tt))) $ says ! (refl, refl, refl, refl) $
    nothing ! $ nothing ! $ fjoin ! $ nothing ! $ fjoin ! $ move ! (2 ∷ 0 ∷ 1 ∷ []) $ done !))))))

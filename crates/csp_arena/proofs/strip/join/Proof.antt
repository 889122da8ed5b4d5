-- `join` puts the bytes together. Assumes `Logic`.
use Rattle.csp_arena.proofs.Steps.{◌≡◌, List, [], ◌∷◌, ◌++◌, length, refl, proved_at, Goes-blank, none, none_had, none_made, run_owns, WpFn, Val, fact, tables, Goal, ‵, raw, ◌⊛◌, prop, ◌$◌, ◌∵◌, !, qed, done, move, let_go, use2, split, fsplit, fjoin, rewrite, regoal, suffices, enter, no_more, returns, agg, alloc_all, pass_all, free_all, look_at, sets, yes, owns, ◌+ₚ◌, plain, types_at, nothing, heard, alive, says, Stays, stay_dropped, walk_of, ends_at}
use Rattle.csp_arena.proofs.Strips.{strip_join}
use Rattle.csp_arena.specs.contracts.strip.Strip.{the_row as S}
use Rattle.csp_arena.specs.contracts.strip.join as f
use Rattle.csp_arena.proofs.strip.join.Statement.{statement}
use Rattle.csp_arena.proofs.strip.join.Code as code

abbrev stayed : Stays f.ended.signature.params f.ended.kept
stayed = (stay_dropped (plain (λ _. S)) yes, (stay_dropped (plain (λ _. S)) yes, tt))

pub join_spec : {M : Type 1} → statement M
join_spec 𝓤 𝓛 𝓜 𝓡 wired =
    let c = f.clauses 𝓛 𝓜.mem 𝓡.returns in let W = walk_of 𝓛 f.ended stayed c in let 𝓣 = tables 𝓤 𝓛.H 𝓜 𝓡 𝓡.env in
    let goes = Goes-blank 𝓛 0 (plain (λ _. S)) yes (λ κs x f. tt) in
    proved_at 𝓛 f.ended stayed c 𝓜 𝓡 (goes, (goes, tt)) f.Key.name code.function (code.unfolded 𝓤 𝓛.H 𝓜 𝓡 wired) (λ z are.
    let a = z.0.3 in let vss = z.0.4 in let p = a.0.ptr in let xs = a.0.items in let ys = a.1.0.items in
    let both : S.Denot = record { ptr = p; items = xs ++ ys } in
    let Runs : List Val → Goal 𝓤 𝓛.H = λ us. prop (WpFn 𝓤 𝓛.H 𝓣.C 𝓣.Λ code.function us (W.post z)) in
    qed 𝓛 ((raw (alive 𝓛 f.signature z.0.0 z.0.1) ⊛ ‵ (owns (types_at f.signature.params z.0.0) a vss)) ∷ raw (fact 𝓤 (a.1.0.ptr ≡ p +ₚ length xs)) ∷ []) ∵
    move ! (1 ∷ []) $ heard ! (a.1.0.ptr ≡ p +ₚ length xs) (λ follows. split ! $ move ! (1 ∷ []) $
    fsplit ! $ fsplit ! $ none_had ! vss.0 (λ is₀. move ! (1 ∷ []) $ fsplit ! $ fsplit ! $ none_had ! vss.1.0 (λ is₁. move ! (1 ∷ []) $ let_go ! $
    -- [the bytes of the second; those of the first; the tokens]
    rewrite ! 0 (λ q. ‵ (run_owns q ys)) follows refl $ move ! (1 ∷ 0 ∷ []) $ use2 𝓛 (‵ (run_owns p (xs ++ ys))) (strip_join 𝓛 p xs ys) $
    none_made ! $ fjoin ! $
    regoal ! (λ us. Runs (us ++ (vss.1.0 ++ []))) is₀ refl $ regoal ! (λ us. Runs ((none ∷ []) ++ (us ++ []))) is₁ refl $
    enter ! 𝓣.C 𝓣.Λ code.function (none ∷ none ∷ []) (W.post z) $ alloc_all ! (λ l. pass_all ! refl ((tt, tt), ((tt, tt), tt)) $
    sets ! (agg ! (no_more !)) refl (tt, tt) $
    returns ! (look_at ! 0 refl) $ free_all ! refl $
    suffices ! _ (ends_at 𝓛 f.ended stayed c z none both (tt, (tt, tt)) (tt, (tt, tt))) $ says ! (refl, refl) $
    nothing ! $ nothing ! $ fjoin ! $ nothing ! $ fjoin ! $ move ! (2 ∷ 0 ∷ 1 ∷ []) $ done !)))))

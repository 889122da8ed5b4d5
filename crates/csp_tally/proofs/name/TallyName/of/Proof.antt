-- The name of the tally that a `&` leads to.
use Rattle.csp_tally.proofs.Names.{ℕ, ◌≡◌, [], ◌∷◌, refl, proved, leaves, named, Val, vptr, SProp, emp, ftrue, flft, fact, fact_i, tables, ‵, raw, ◌⊛◌, ◌$◌, ◌∵◌, !, qed, by, move, keep, split, fjoin, use0, enter, no_more, returns, alloc_all, pass_all, free_all, look_at, sets, agg, yes, RattleType, owns, types_at, plain, RefOf, shr_vals, shr_Tells, nothing, Stays, stay_dropped, walk_of, Goes-dropped, bare, Bare, bare_made}
use Rattle.csp_tally.specs.contracts.tally.Tally as Tally
use Rattle.csp_tally.specs.contracts.name.TallyName as Name
use Rattle.csp_tally.specs.contracts.name.TallyName.of.{ended, clauses}
use Rattle.csp_tally.specs.contracts.name.TallyName.of.Key.{name as #self}
use Rattle.csp_tally.proofs.name.TallyName.of.Statement.{statement}
use Rattle.csp_tally.proofs.name.TallyName.of.Code as code

pub of_spec : {M : Type 1} → statement M
of_spec 𝓤 𝓛 𝓜 𝓡 wired =
    let H = 𝓛.H in let 𝓣 = tables 𝓤 H 𝓜 𝓡 𝓡.env in let fn = code.function in let c = clauses 𝓛 𝓜.mem 𝓡.returns in let T : RattleType = Tally.the_row in
    let hs : Stays ended.signature.params ended.kept = (stay_dropped (RefOf (0 ∷ []) tt (plain (λ _. T)) (λ _. tt)) yes, tt) in
    proved 𝓛 ended hs c 𝓜 𝓡 (Goes-dropped 𝓛 1 (RefOf (0 ∷ []) tt (plain (λ _. T)) (λ _. tt)) yes (λ κs x f. refl), tt) #self fn (code.unfolded 𝓤 H 𝓜 𝓡 wired)
    (λ κs. (shr_vals, tt)) (λ κs. (shr_Tells (named 0) κs.0 T, tt)) (λ κs qs bounds a gh are.
    let b : ℕ = a.0.ref_ptr.0 in let o : ℕ = a.0.ref_ptr.1 in let r : Name.the_row.Denot = record { name = a.0.now.name } in let A : Type 0 = r.name ≡ a.0.now.name in
    let y : (walk_of 𝓛 ended hs c).Ghost = ((κs, qs, bounds, a, (vptr b o ∷ [], tt)), gh) in let Post : Val → SProp 𝓤 = (walk_of 𝓛 ended hs c).post y in
    qed 𝓛 (((‵ (flft κs.0 qs.0) ⊛ ‵ ftrue) ⊛ ‵ (owns (types_at ended.signature.params κs) a y.0.4)) ∷ raw ((c κs a).requires gh) ∷ []) ∵ keep ! (0 ∷ []) $ split ! $ keep ! (0 ∷ []) $
    enter ! 𝓣.C 𝓣.Λ fn (vptr b o ∷ []) Post $ alloc_all ! (λ l. pass_all ! refl ((tt, tt), tt) $
    use0 𝓛 (‵ (Bare.own_val tt (bare ∷ []))) (bare_made 𝓛) $ sets ! (agg ! (no_more !)) refl (tt, tt) $ nothing ! $ move ! (1 ∷ 0 ∷ []) $ fjoin ! $
    use0 𝓛 (raw (fact 𝓤 A)) (fact_i 𝓤 A (emp 𝓤) refl) $ nothing ! $ nothing ! $ fjoin ! $
    returns ! (look_at ! 0 refl) $ free_all ! refl $ keep ! (3 ∷ 0 ∷ 2 ∷ 1 ∷ []) $ by ! (leaves 𝓛 ended hs c y bare r (tt, tt) (tt, tt))))

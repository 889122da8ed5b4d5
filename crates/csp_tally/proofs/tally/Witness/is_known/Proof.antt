-- A number that was used is below the first one whose right the tally has.
use Rattle.csp_tally.proofs.Steps.{◌≡◌, ℕ, ◌<◌, List, [], ◌∷◌, refl, proved, leaves, named, Val, vunit, vptr, SProp, emp, ftrue, flft, fact, fact_i, tables, ‵, raw, ◌⊛◌, given, ◌$◌, ◌∵◌, !, qed, by, move, keep, drop, split, join, fsplit, fsplit3, fjoin, fjoin3, feq_i, learn, use0, use2, enter, of_opd, unit_lit, returns, alloc_all, pass_all, free_all, look_at, sets, RattleType, owns, types_at, plain, mut_vals, mut_Tells, nothing, opens, closes, Stays, stay_dropped, stay_ref, walk_of, Goes-dropped, Goes-ref, token, token_told, tally_owns, witness_owns, tally_knows}
use denote.Exit.{yes}
use Rattle.csp_tally.specs.contracts.tally.Tally as Tally
use Rattle.csp_tally.specs.contracts.tally.Witness as Witness
use Rattle.csp_tally.specs.contracts.tally.Witness.is_known.{ended, clauses}
use Rattle.csp_tally.specs.contracts.tally.Witness.is_known.Key.{name as #self}
use Rattle.csp_tally.proofs.tally.Witness.is_known.Statement.{statement}
use Rattle.csp_tally.proofs.tally.Witness.is_known.Code as code

pub is_known_spec : {M : Type 1} → statement M
is_known_spec 𝓤 𝓛 𝓜 𝓡 wired =
    let H = 𝓛.H in let 𝓣 = tables 𝓤 H 𝓜 𝓡 𝓡.env in let fn = code.function in let c = clauses 𝓛 𝓜.mem 𝓡.returns in let T : RattleType = Tally.the_row in
    let hs : Stays ended.signature.params ended.kept = (stay_dropped (plain (λ _. Witness.the_row)) yes, (stay_ref (0 ∷ []) tt (plain (λ _. T)), tt)) in
    proved 𝓛 ended hs c 𝓜 𝓡 (Goes-dropped 𝓛 1 (plain (λ _. Witness.the_row)) yes (λ κs x f. refl), (Goes-ref 𝓛 1 0 tt (plain (λ _. T)), tt)) #self fn (code.unfolded 𝓤 H 𝓜 𝓡 wired)
    (λ κs. ((λ x. token ∷ []), (mut_vals, tt))) (λ κs. ((λ x vs is. token_told vs is.0), (mut_Tells (named 0) κs.0 T, tt))) (λ κs qs bounds a gh are.
    let s : Witness.the_row.Denot = a.0 in let b : ℕ = a.1.0.ref_ptr.0 in let o : ℕ = a.1.0.ref_ptr.1 in let h : T.Denot = a.1.0.now in
    let A₁ : Type 0 = h ≡ h in let A₂ : Type 0 = s.name ≡ h.name → s.number < h.count in
    let y : (walk_of 𝓛 ended hs c).Ghost = ((κs, qs, bounds, a, (token ∷ [], (vptr b o ∷ [], tt))), gh) in let Post : Val → SProp 𝓤 = (walk_of 𝓛 ended hs c).post y in
    qed 𝓛 (((‵ (flft κs.0 qs.0) ⊛ ‵ ftrue) ⊛ ‵ (owns (types_at ended.signature.params κs) a y.0.4)) ∷ raw ((c κs a).requires gh) ∷ []) ∵ keep ! (0 ∷ []) $ split ! $ split ! $ move ! (2 ∷ []) $
    fsplit ! $ fsplit ! $ move ! (2 ∷ []) $ fsplit ! $ fsplit3 ! $ keep ! (1 ∷ 2 ∷ 6 ∷ 5 ∷ []) $
    enter ! 𝓣.C 𝓣.Λ fn (token ∷ vptr b o ∷ []) Post $ alloc_all ! (λ l. pass_all ! refl ((tt, (tt, tt)), ((tt, tt), tt)) $ opens ! tt T b o (λ ts. move ! (1 ∷ []) $ fsplit ! $ move ! (1 ∷ 6 ∷ []) $
    use2 𝓛 (given A₂ (‵ (tally_owns h.name h.count) ⊛ ‵ (witness_owns s.name s.number))) (tally_knows 𝓛 h.name h.count s.name s.number) $ learn ! (λ low. split ! $ move ! (2 ∷ 0 ∷ []) $ fjoin ! $ move ! (2 ∷ 0 ∷ 3 ∷ 4 ∷ 5 ∷ []) $
    closes ! tt T h ts b o $ feq_i ! (List Val) (vptr b o ∷ []) (vptr b o ∷ []) refl $ fjoin3 ! $ nothing ! $ move ! (1 ∷ 0 ∷ []) $ fjoin ! $ nothing ! $ fjoin ! $ nothing ! $ move ! (2 ∷ 0 ∷ []) $ join ! $ move ! (2 ∷ []) $ drop ! $
    feq_i ! (List Val) (vunit ∷ []) (vunit ∷ []) refl $ sets ! (of_opd ! (unit_lit !)) refl (tt, tt) $
    use0 𝓛 (raw (fact 𝓤 A₂)) (fact_i 𝓤 A₂ (emp 𝓤) low) $ use0 𝓛 (raw (fact 𝓤 A₁)) (fact_i 𝓤 A₁ (emp 𝓤) refl) $ join ! $
    returns ! (look_at ! 0 refl) $ free_all ! refl $ keep ! (2 ∷ 3 ∷ 1 ∷ 0 ∷ []) $ by ! (leaves 𝓛 ended hs c y vunit tt (tt, (h, tt)) (tt, (tt, tt)))))))

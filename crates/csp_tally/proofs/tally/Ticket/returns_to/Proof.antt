-- The right to the number joins those that the tally has.
use Rattle.csp_tally.proofs.Steps.{◌≡◌, ℕ, ◌+◌, List, [], ◌∷◌, refl, proved, leaves, named, Val, vunit, vptr, SProp, emp, ftrue, flft, fact, fact_i, tables, ‵, raw, ◌⊛◌, given, ◌$◌, ◌∵◌, !, qed, by, move, keep, drop, split, join, fsplit, fsplit3, fjoin, fjoin3, feq_i, learn, use0, use2, enter, of_opd, unit_lit, returns, alloc_all, pass_all, free_all, look_at, sets, RattleType, owns, types_at, plain, mut_vals, mut_Tells, nothing, opens, closes, Stays, stay_dropped, stay_ref, walk_of, Goes-dropped, Goes-ref, token, token_told, tally_owns, tally_takes}
use denote.Exit.{yes}
use Rattle.csp_tally.specs.contracts.tally.Tally as Tally
use Rattle.csp_tally.specs.contracts.tally.Ticket as Ticket
use Rattle.csp_tally.specs.contracts.tally.Ticket.returns_to.{ended, clauses}
use Rattle.csp_tally.specs.contracts.tally.Ticket.returns_to.Key.{name as #self}
use Rattle.csp_tally.proofs.tally.Ticket.returns_to.Statement.{statement}
use Rattle.csp_tally.proofs.tally.Ticket.returns_to.Code as code

pub returns_to_spec : {M : Type 1} → statement M
returns_to_spec 𝓤 𝓛 𝓜 𝓡 wired =
    let H = 𝓛.H in let 𝓣 = tables 𝓤 H 𝓜 𝓡 𝓡.env in let fn = code.function in let c = clauses 𝓛 𝓜.mem 𝓡.returns in let T : RattleType = Tally.the_row in
    let hs : Stays ended.signature.params ended.kept = (stay_dropped (plain (λ _. Ticket.the_row)) yes, (stay_ref (0 ∷ []) tt (plain (λ _. T)), tt)) in
    proved 𝓛 ended hs c 𝓜 𝓡 (Goes-dropped 𝓛 1 (plain (λ _. Ticket.the_row)) yes (λ κs x f. refl), (Goes-ref 𝓛 1 0 tt (plain (λ _. T)), tt)) #self fn (code.unfolded 𝓤 H 𝓜 𝓡 wired)
    (λ κs. ((λ x. token ∷ []), (mut_vals, tt))) (λ κs. ((λ x vs is. token_told vs is.0), (mut_Tells (named 0) κs.0 T, tt))) (λ κs qs bounds a gh are.
    let s : Ticket.the_row.Denot = a.0 in let b : ℕ = a.1.0.ref_ptr.0 in let o : ℕ = a.1.0.ref_ptr.1 in let h : T.Denot = a.1.0.now in
    let h' : T.Denot = record { marker = h.marker; name = h.name; count = s.number } in let A : Type 0 = (h.name ≡ h.name) × (s.number ≡ s.number) in
    let y : (walk_of 𝓛 ended hs c).Ghost = ((κs, qs, bounds, a, (token ∷ [], (vptr b o ∷ [], tt))), gh) in let Post : Val → SProp 𝓤 = (walk_of 𝓛 ended hs c).post y in
    qed 𝓛 (((‵ (flft κs.0 qs.0) ⊛ ‵ ftrue) ⊛ ‵ (owns (types_at ended.signature.params κs) a y.0.4)) ∷ given ((s.name ≡ h.name) × (s.number + 1 ≡ h.count)) (‵ ftrue) ∷ []) ∵ move ! (1 ∷ []) $ learn ! (λ asked. drop ! $ split ! $ split ! $ move ! (2 ∷ []) $
    fsplit ! $ fsplit ! $ move ! (2 ∷ []) $ fsplit ! $ fsplit3 ! $ keep ! (1 ∷ 2 ∷ 6 ∷ 5 ∷ []) $
    enter ! 𝓣.C 𝓣.Λ fn (token ∷ vptr b o ∷ []) Post $ alloc_all ! (λ l. pass_all ! refl ((tt, (tt, tt)), ((tt, tt), tt)) $ opens ! tt T b o (λ ts. move ! (1 ∷ []) $ fsplit ! $ move ! (1 ∷ 6 ∷ []) $
    use2 𝓛 (‵ (tally_owns h.name s.number)) (tally_takes 𝓛 h.name h.count s.name s.number asked.0 asked.1) $ move ! (1 ∷ 0 ∷ []) $ fjoin ! $ move ! (1 ∷ 0 ∷ 2 ∷ 3 ∷ 4 ∷ []) $
    closes ! tt T h' ts b o $ feq_i ! (List Val) (vptr b o ∷ []) (vptr b o ∷ []) refl $ fjoin3 ! $ nothing ! $ move ! (1 ∷ 0 ∷ []) $ fjoin ! $ nothing ! $ fjoin ! $ nothing ! $ move ! (2 ∷ 0 ∷ []) $ join ! $
    feq_i ! (List Val) (vunit ∷ []) (vunit ∷ []) refl $ sets ! (of_opd ! (unit_lit !)) refl (tt, tt) $
    use0 𝓛 (raw (fact 𝓤 A)) (fact_i 𝓤 A (emp 𝓤) (refl, refl)) $
    returns ! (look_at ! 0 refl) $ free_all ! refl $ keep ! (2 ∷ 3 ∷ 1 ∷ 0 ∷ []) $ by ! (leaves 𝓛 ended hs c y vunit tt (tt, (h', tt)) (tt, (tt, tt)))))))

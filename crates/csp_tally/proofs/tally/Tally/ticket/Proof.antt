-- The right to the first number leaves the row.
use Rattle.csp_tally.proofs.Steps.{◌≡◌, ℕ, List, [], ◌∷◌, ◌+◌, refl, proved, leaves, named, Val, vptr, SProp, emp, ftrue, flft, fact, fact_i, tables, ‵, raw, ◌⊛◌, ◌$◌, ◌∵◌, !, qed, by, move, keep, split, join, fsplit, fsplit3, fjoin, fjoin3, feq_i, use0, use1, enter, no_more, and_then, returns, alloc_all, pass_all, free_all, look_at, get, sets, agg, RattleType, owns, types_at, plain, mut_vals, mut_Tells, nothing, opens, closes, Stays, stay_ref, walk_of, Goes-ref, token, Token, token_made, tally_owns, ticket_owns, tally_hands}
use Rattle.csp_tally.specs.contracts.tally.Tally as Tally
use Rattle.csp_tally.specs.contracts.tally.Ticket as Ticket
use Rattle.csp_tally.specs.contracts.tally.Tally.ticket.{ended, clauses}
use Rattle.csp_tally.specs.contracts.tally.Tally.ticket.Key.{name as #self}
use Rattle.csp_tally.proofs.tally.Tally.ticket.Statement.{statement}
use Rattle.csp_tally.proofs.tally.Tally.ticket.Code as code

pub ticket_spec : {M : Type 1} → statement M
ticket_spec 𝓤 𝓛 𝓜 𝓡 wired =
    let H = 𝓛.H in let 𝓣 = tables 𝓤 H 𝓜 𝓡 𝓡.env in let fn = code.function in let c = clauses 𝓛 𝓜.mem 𝓡.returns in let T : RattleType = Tally.the_row in
    let hs : Stays ended.signature.params ended.kept = (stay_ref (0 ∷ []) tt (plain (λ _. T)), tt) in
    proved 𝓛 ended hs c 𝓜 𝓡 (Goes-ref 𝓛 1 0 tt (plain (λ _. T)), tt) #self fn (code.unfolded 𝓤 H 𝓜 𝓡 wired)
    (λ κs. (mut_vals, tt)) (λ κs. (mut_Tells (named 0) κs.0 T, tt)) (λ κs qs bounds a gh are.
    let b : ℕ = a.0.ref_ptr.0 in let o : ℕ = a.0.ref_ptr.1 in let h : T.Denot = a.0.now in let h' : T.Denot = record { marker = h.marker; name = h.name; count = h.count + 1 } in
    let r : Ticket.the_row.Denot = record { marker = record {}; name = h.name; number = h.count } in let A₁ : Type 0 = (h.name ≡ h.name) × (h'.count ≡ h'.count) in let A₂ : Type 0 = (h.name ≡ h.name) × (r.number ≡ r.number) in
    let y : (walk_of 𝓛 ended hs c).Ghost = ((κs, qs, bounds, a, (vptr b o ∷ [], tt)), gh) in let Post : Val → SProp 𝓤 = (walk_of 𝓛 ended hs c).post y in
    qed 𝓛 (((‵ (flft κs.0 qs.0) ⊛ ‵ ftrue) ⊛ ‵ (owns (types_at ended.signature.params κs) a y.0.4)) ∷ raw ((c κs a).requires gh) ∷ []) ∵ keep ! (0 ∷ []) $ split ! $ split ! $ move ! (2 ∷ []) $ fsplit ! $ fsplit3 ! $ keep ! (1 ∷ 2 ∷ 4 ∷ []) $
    enter ! 𝓣.C 𝓣.Λ fn (vptr b o ∷ []) Post $ alloc_all ! (λ l. pass_all ! refl ((tt, tt), tt) $ opens ! tt T b o (λ ts. move ! (1 ∷ []) $ fsplit ! $ move ! (1 ∷ []) $
    use1 𝓛 (‵ (tally_owns h.name h'.count) ⊛ ‵ (ticket_owns h.name r.number)) (tally_hands 𝓛 h.name h.count) $ split ! $ move ! (2 ∷ 0 ∷ []) $ fjoin ! $ move ! (2 ∷ 0 ∷ 3 ∷ 4 ∷ 5 ∷ []) $
    closes ! tt T h' ts b o $ feq_i ! (List Val) (vptr b o ∷ []) (vptr b o ∷ []) refl $ fjoin3 ! $ nothing ! $ move ! (1 ∷ 0 ∷ []) $ fjoin ! $ nothing ! $ move ! (2 ∷ 0 ∷ []) $ join ! $ move ! (2 ∷ []) $
    use0 𝓛 (‵ (Token.own_val (record {}, tt) (token ∷ []))) (token_made 𝓛) $ fjoin ! $ sets ! (agg ! (no_more !)) refl (tt, tt) $ sets ! (agg ! (and_then ! (get ! refl) (no_more !))) refl (tt, (tt, tt)) $
    use0 𝓛 (raw (fact 𝓤 A₂)) (fact_i 𝓤 A₂ (emp 𝓤) (refl, refl)) $ use0 𝓛 (raw (fact 𝓤 A₁)) (fact_i 𝓤 A₁ (emp 𝓤) (refl, refl)) $ join ! $
    returns ! (look_at ! 0 refl) $ free_all ! refl $ keep ! (2 ∷ 3 ∷ 1 ∷ 0 ∷ []) $ by ! (leaves 𝓛 ended hs c y token r (h', tt) (tt, tt)))))

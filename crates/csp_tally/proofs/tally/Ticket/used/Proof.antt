-- The right is used up, and what is left is that it was.
use Rattle.csp_tally.proofs.Steps.{◌≡◌, [], ◌∷◌, refl, proved, leaves, Val, SProp, emp, ftrue, fact, fact_i, tables, ‵, raw, ◌⊛◌, later, ◌$◌, ◌∵◌, !, qed, by, move, keep, split, fsplit, fjoin, use0, use1, await, enter, no_more, and_then, returns, alloc_all, pass_all, free_all, look_at, get, sets, agg, owns, types_at, plain, nothing, Stays, stay_dropped, walk_of, Goes-dropped, token, Token, token_told, token_made, witness_owns, ticket_used}
use denote.Exit.{yes}
use Rattle.csp_tally.specs.contracts.tally.Ticket as Ticket
use Rattle.csp_tally.specs.contracts.tally.Witness as Witness
use Rattle.csp_tally.specs.contracts.tally.Ticket.used.{ended, clauses}
use Rattle.csp_tally.specs.contracts.tally.Ticket.used.Key.{name as #self}
use Rattle.csp_tally.proofs.tally.Ticket.used.Statement.{statement}
use Rattle.csp_tally.proofs.tally.Ticket.used.Code as code

pub used_spec : {M : Type 1} → statement M
used_spec 𝓤 𝓛 𝓜 𝓡 wired =
    let H = 𝓛.H in let 𝓣 = tables 𝓤 H 𝓜 𝓡 𝓡.env in let fn = code.function in let c = clauses 𝓛 𝓜.mem 𝓡.returns in
    let hs : Stays ended.signature.params ended.kept = (stay_dropped (plain (λ _. Ticket.the_row)) yes, tt) in
    proved 𝓛 ended hs c 𝓜 𝓡 (Goes-dropped 𝓛 0 (plain (λ _. Ticket.the_row)) yes (λ κs x f. refl), tt) #self fn (code.unfolded 𝓤 H 𝓜 𝓡 wired)
    (λ κs. ((λ x. token ∷ []), tt)) (λ κs. ((λ x vs is. token_told vs is.0), tt)) (λ κs qs bounds a gh are.
    let s : Ticket.the_row.Denot = a.0 in let r : Witness.the_row.Denot = record { marker = record {}; name = s.name; number = s.number } in let A : Type 0 = (s.name ≡ s.name) × (s.number ≡ s.number) in
    let y : (walk_of 𝓛 ended hs c).Ghost = ((κs, qs, bounds, a, (token ∷ [], tt)), gh) in let Post : Val → SProp 𝓤 = (walk_of 𝓛 ended hs c).post y in
    qed 𝓛 ((‵ ftrue ⊛ ‵ (owns (types_at ended.signature.params κs) a y.0.4)) ∷ raw ((c κs a).requires gh) ∷ []) ∵ keep ! (0 ∷ []) $ split ! $ move ! (1 ∷ []) $ fsplit ! $ fsplit ! $ keep ! (1 ∷ 3 ∷ []) $
    enter ! 𝓣.C 𝓣.Λ fn (token ∷ []) Post $ alloc_all ! (λ l. pass_all ! refl ((tt, (tt, tt)), tt) $
    use1 𝓛 (later (‵ (witness_owns s.name s.number))) (ticket_used 𝓛 s.name s.number) $ await ! tt $
    use0 𝓛 (‵ (Token.own_val (record {}, tt) (token ∷ []))) (token_made 𝓛) $ fjoin ! $ sets ! (agg ! (no_more !)) refl (tt, tt) $ sets ! (agg ! (and_then ! (get ! refl) (no_more !))) refl (tt, (tt, tt)) $
    nothing ! $ nothing ! $ fjoin ! $ use0 𝓛 (raw (fact 𝓤 A)) (fact_i 𝓤 A (emp 𝓤) (refl, refl)) $
    returns ! (look_at ! 0 refl) $ free_all ! refl $ keep ! (3 ∷ 1 ∷ 2 ∷ 0 ∷ []) $ by ! (leaves 𝓛 ended hs c y token r (tt, tt) (tt, tt))))

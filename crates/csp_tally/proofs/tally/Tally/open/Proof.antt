-- `open` makes an entry for each number, and keeps the rights to all.
use Rattle.csp_tally.proofs.Steps.{◌≡◌, ℕ, [], ◌∷◌, refl, proved, leaves, Val, SProp, emp, ftrue, fact, fact_i, tables, ‵, raw, ◌⊛◌, some, later, ◌$◌, ◌∵◌, !, qed, by, keep, split, fjoin, pick, use0, await, enter, no_more, and_then, returns, alloc_all, pass_all, free_all, look_at, get, sets, agg, owns, types_at, nothing, Stays, walk_of, token, Token, token_made, tally_owns, tally_new}
use Rattle.csp_tally.specs.contracts.tally.Tally as Tally
use Rattle.csp_tally.specs.contracts.tally.Tally.«open».{ended, clauses}
use Rattle.csp_tally.specs.contracts.tally.Tally.«open».Key.{name as #self}
use Rattle.csp_tally.proofs.tally.Tally.«open».Statement.{statement}
use Rattle.csp_tally.proofs.tally.Tally.«open».Code as code

pub open_spec : {M : Type 1} → statement M
open_spec 𝓤 𝓛 𝓜 𝓡 wired =
    let H = 𝓛.H in let 𝓣 = tables 𝓤 H 𝓜 𝓡 𝓡.env in let fn = code.function in let c = clauses 𝓛 𝓜.mem 𝓡.returns in
    let hs : Stays ended.signature.params ended.kept = tt in
    proved 𝓛 ended hs c 𝓜 𝓡 tt #self fn (code.unfolded 𝓤 H 𝓜 𝓡 wired) (λ κs. tt) (λ κs. tt) (λ κs qs bounds a gh are.
    let y : (walk_of 𝓛 ended hs c).Ghost = ((κs, qs, bounds, a, tt), gh) in let Post : Val → SProp 𝓤 = (walk_of 𝓛 ended hs c).post y in
    qed 𝓛 ((‵ ftrue ⊛ ‵ (owns (types_at ended.signature.params κs) a y.0.4)) ∷ raw ((c κs a).requires gh) ∷ []) ∵ keep ! (0 ∷ []) $ split ! $ keep ! (0 ∷ []) $
    enter ! 𝓣.C 𝓣.Λ fn [] Post $ alloc_all ! (λ l. pass_all ! refl tt $
    use0 𝓛 (later (some (λ (γ : ℕ). ‵ (tally_owns γ 0)))) (tally_new 𝓛) $ await ! tt $ pick ! (λ γ. let r : Tally.the_row.Denot = record { marker = record {}; name = γ; count = 0 } in
    use0 𝓛 (‵ (Token.own_val (record {}, tt) (token ∷ []))) (token_made 𝓛) $ fjoin ! $ sets ! (agg ! (no_more !)) refl (tt, tt) $ sets ! (agg ! (and_then ! (get ! refl) (no_more !))) refl (tt, (tt, tt)) $
    nothing ! $ use0 𝓛 (raw (fact 𝓤 (r.count ≡ r.count))) (fact_i 𝓤 (r.count ≡ r.count) (emp 𝓤) refl) $
    returns ! (look_at ! 0 refl) $ free_all ! refl $ keep ! (3 ∷ 1 ∷ 2 ∷ 0 ∷ []) $ by ! (leaves 𝓛 ended hs c y token r tt tt))))

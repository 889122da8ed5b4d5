-- `take_out` takes the bytes, and leaves the way back. Assumes `Logic`.
use Rattle.csp_arena.proofs.Steps.{◌<◌, List, [], ◌∷◌, ◌++◌, refl, proved_at, Goes-blank, none, one, two, tells, none_made, two_made, IsPlaced, run_owns, WpFn, Val, fact, tables, Goal, ‵, raw, ◌⊛◌, given, prop, ◌$◌, ◌∵◌, !, qed, done, move, let_go, use1, split, fsplit, fjoin, fpack, learn, regoal, suffices, enter, of_opd, no_more, and_then, returns, agg, alloc_all, pass_all, free_all, look_at, get, sets, yes, owns, ftrue, Typed, as_fields, layout, plain, types_at, nothing, heard, alive, says, Stays, stay_dropped, walk_of, ends_at}
use Rattle.csp_arena.proofs.Strips.{strip_placed}
use Rattle.csp_arena.proofs.Shells.{Whole, whole_laws, carve}
use Rattle.csp_arena.specs.contracts.strip.Strip.{the_row as S}
use Rattle.csp_arena.specs.contracts.strip.Shell as Shell
use Rattle.csp_arena.specs.contracts.strip.take_out as f
use Rattle.csp_arena.proofs.strip.take_out.Statement.{statement}
use Rattle.csp_arena.proofs.strip.take_out.Code as code

abbrev stayed : Stays f.ended.signature.params f.ended.kept
stayed = (stay_dropped (plain (λ _. Whole)) yes, tt)

pub take_out_spec : {M : Type 1} → statement M
take_out_spec 𝓤 𝓛 𝓜 𝓡 wired =
    let c = f.clauses 𝓛 𝓜.mem 𝓡.returns in let W = walk_of 𝓛 f.ended stayed c in let 𝓣 = tables 𝓤 𝓛.H 𝓜 𝓡 𝓡.env in
    proved_at 𝓛 f.ended stayed c 𝓜 𝓡 (Goes-blank 𝓛 0 (plain (λ _. Whole)) yes (λ κs x f. tt), tt)
    f.Key.name code.function (code.unfolded 𝓤 𝓛.H 𝓜 𝓡 wired) (λ z are.
    let a = z.0.3 in let vss = z.0.4 in let v = a.0 in
    let strip : S.Denot = record { ptr = v.ptr; items = v.items } in
    let shell : Shell.the_row.Denot = record { ptr = v.ptr; len = v.len } in
    let Runs : List Val → Goal 𝓤 𝓛.H = λ us. prop (WpFn 𝓤 𝓛.H 𝓣.C 𝓣.Λ code.function us (W.post z)) in
    qed 𝓛 ((raw (alive 𝓛 f.signature z.0.0 z.0.1) ⊛ ‵ (owns (types_at f.signature.params z.0.0) a vss)) ∷ raw (fact 𝓤 (0 < v.len)) ∷ []) ∵
    move ! (1 ∷ []) $ heard ! (0 < v.len) (λ asked. split ! $ move ! (1 ∷ []) $
    fsplit ! $ tells ! Whole whole_laws v vss.0 (λ u is good. move ! (1 ∷ []) $ let_go ! $
    let inner = as_fields ((layout Whole) ∷ []) (u ∷ []) (good, tt) in
    use1 𝓛 (‵ (run_owns v.ptr v.items) ⊛ ‵ (Shell.the_own shell (one u ∷ []))) (carve 𝓛 v u asked) $ split ! $
    use1 𝓛 (given (IsPlaced v.ptr) (‵ (run_owns v.ptr v.items))) (strip_placed 𝓛 v.ptr v.items) $ learn ! (λ placed.
    none_made ! $ fjoin ! $ move ! (1 ∷ []) $ nothing ! $ fpack ! (Typed Shell.the_row.mir (one u ∷ [])) (λ _. ftrue) (inner, tt) $ fjoin ! $ move ! (1 ∷ 0 ∷ []) $
    two_made ! S Shell.the_row strip shell none (one u) $
    regoal ! (λ us. Runs (us ++ [])) is refl $
    enter ! 𝓣.C 𝓣.Λ code.function (u ∷ []) (W.post z) $ alloc_all ! (λ l. pass_all ! refl (good, tt) $
    sets ! (agg ! (no_more !)) refl (tt, tt) $
    sets ! (of_opd ! (get ! refl)) refl good $
    sets ! (agg ! (and_then ! (get ! refl) (no_more !))) refl inner $
    sets ! (agg ! (and_then ! (get ! refl) (and_then ! (get ! refl) (no_more !)))) refl (as_fields (layout S ∷ layout Shell.the_row ∷ []) (none ∷ one u ∷ []) ((tt, tt), (inner, tt))) $
    returns ! (look_at ! 0 refl) $ free_all ! refl $
    suffices ! _ (ends_at 𝓛 f.ended stayed c z (two none (one u)) (strip, shell) (tt, tt) (tt, tt)) $ says ! (refl, refl, placed, refl, refl) $
    nothing ! $ nothing ! $ fjoin ! $ move ! (2 ∷ 0 ∷ 1 ∷ []) $ done !)))))

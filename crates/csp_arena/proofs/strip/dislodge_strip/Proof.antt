-- `dislodge_strip` takes the bytes from `dislodge`. Assumes `Logic`.
use Rattle.csp_arena.proofs.Steps.{◌≡◌, ◌^◌, ◌<◌, List, [], ◌∷◌, ◌++◌, refl, proved_at, Goes-blank, none, tells, none_made, run_owns, WpFn, Val, vint, w64, fact, tables, Goal, ‵, raw, ◌⊛◌, later, given, prop, ◌$◌, ◌∵◌, !, qed, done, move, let_go, use1, split, fsplit, fjoin, learn, await, regoal, suffices, enter, of_opd, and_then, no_more, returns, agg, alloc_all, pass_all, free_all, look_at, get, sets, lands_as, yes, owns, u8, plain, types_at, nothing, heard, calls_at, framed, alive, says, Stays, stay_dropped, walk_of, ends_at}
use Rattle.std_alloc.proofs.vec.lodged.Vec+T+Lodged.dislodge.Met as callee
use Rattle.bytes.proofs.Lodging.{byte_laws, Housed, housed-laws, Dislodges, at_dislodge, dislodge_goes, dislodge_gives}
use Rattle.csp_arena.specs.contracts.strip.Strip.{the_row as S}
use Rattle.csp_arena.specs.contracts.strip.dislodge_strip as f
use Rattle.csp_arena.proofs.strip.dislodge_strip.Statement.{statement}
use Rattle.csp_arena.proofs.strip.dislodge_strip.Code as code

abbrev stayed : Stays f.ended.signature.params f.ended.kept
stayed = (stay_dropped (plain (λ _. Housed)) yes, tt)

pub dislodge_strip_spec : {M : Type 1} → statement M
dislodge_strip_spec 𝓤 𝓛 𝓜 𝓡 wired =
    let c = f.clauses 𝓛 𝓜.mem 𝓡.returns in let W = walk_of 𝓛 f.ended stayed c in let 𝓣 = tables 𝓤 𝓛.H 𝓜 𝓡 𝓡.env in
    proved_at 𝓛 f.ended stayed c 𝓜 𝓡 (Goes-blank 𝓛 0 (plain (λ _. Housed)) yes (λ κs x f. tt), tt)
    f.Key.name code.function (code.unfolded 𝓤 𝓛.H 𝓜 𝓡 wired) (λ z are.
    let a = z.0.3 in let vss = z.0.4 in let v = a.0 in
    let strip : S.Denot = record { ptr = v.ptr; items = v.items } in
    let G = Dislodges 𝓛 𝓜.mem 𝓡.returns in
    let Runs : List Val → Goal 𝓤 𝓛.H = λ us. prop (WpFn 𝓤 𝓛.H 𝓣.C 𝓣.Λ code.function us (W.post z)) in
    qed 𝓛 ((raw (alive 𝓛 f.signature z.0.0 z.0.1) ⊛ ‵ (owns (types_at f.signature.params z.0.0) a vss)) ∷ raw (fact 𝓤 (0 < v.len)) ∷ []) ∵
    move ! (1 ∷ []) $ heard ! (0 < v.len) (λ asked. split ! $ move ! (1 ∷ []) $
    fsplit ! $ tells ! Housed housed-laws v vss.0 (λ u is good. move ! (1 ∷ []) $ let_go ! $
    let y = at_dislodge 𝓛 𝓜.mem 𝓡.returns v u in
    regoal ! (λ us. Runs (us ++ [])) is refl $
    enter ! 𝓣.C 𝓣.Λ code.function (u ∷ []) (W.post z) $ alloc_all ! (λ l. pass_all ! refl (good, tt) $
    sets ! (of_opd ! (get ! refl)) refl good $ use1 𝓛 (raw (G.pre y)) (dislodge_goes 𝓛 𝓜.mem 𝓡.returns v u) $
    calls_at ! (framed 𝓤 𝓛.H 𝓜 𝓣) G (callee.met 𝓤 𝓛 𝓜 𝓡 (code.calls-std_alloc::vec::lodged::Vec+T+Lodged::dislodge 𝓡.env wired) u8 byte_laws) y (and_then ! (get ! refl) (no_more !)) (λ w.
    use1 𝓛 (later (given ((w ≡ vint w64 v.len) × (v.len < 2 ^ 64)) (‵ (run_owns v.ptr v.items)))) (dislodge_gives 𝓛 𝓜.mem 𝓡.returns v u asked w) $ await ! tt $ learn ! (λ got.
    lands_as ! got.0 refl (tt, record { fits = got.1 }) $
    sets ! (agg ! (no_more !)) refl (tt, tt) $
    none_made ! $ fjoin ! $
    returns ! (look_at ! 0 refl) $ free_all ! refl $
    suffices ! _ (ends_at 𝓛 f.ended stayed c z none strip (tt, tt) (tt, tt)) $ says ! (refl, refl) $
    nothing ! $ nothing ! $ fjoin ! $ move ! (2 ∷ 0 ∷ 1 ∷ []) $ done !))))))

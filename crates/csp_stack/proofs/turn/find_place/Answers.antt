use Rattle.std.proofs.Common.{rules, tests, arith, ◌≡◌, ◌-◌, ℕ, Bool, true, false, cond, List, [], ◌∷◌, Option, Some, None, IfSome, find, refl, subst, sym, ap}
use Rattle.std.specs.Option.{option_map, unwrap_or}
use Rattle.std.proofs.lemmas.Iterator.Search.{find_from_yields_List}
use Rattle.std.proofs.lemmas.Iterator.Adapters.{option_map_id}
use Rattle.std.proofs.lemmas.Iterator.Consumers.{YieldsList-from_chain}
use Rattle.std.proofs.lemmas.Iterator.{YieldsList-from_range}
use Rattle.csp_stack.specs.Sources.{has_work, source_at, source_count, circle}
use Rattle.csp_stack.proofs.turn.find_place.Goals as goal

-- what a look found passes the look's test
found_by : (p : ℕ → Bool) (k : ℕ) (ks : List ℕ) (n : ℕ) (b : Bool) → p k ≡ b → ((m : ℕ) → find p ks ≡ Some m → p m ≡ true) → cond b (Some k) (find p ks) ≡ Some n → p n ≡ true
found_by p k ks n true q more e = subst (λ (m : ℕ). p m ≡ true) (ap (λ (o : Option ℕ). unwrap_or o n) e) q
found_by p k ks n false q more e = more n e

found_works : (p : ℕ → Bool) (ks : List ℕ) (n : ℕ) → find p ks ≡ Some n → p n ≡ true
found_works p [] n e = absurd cc
found_works p (k ∷ ks) n e = found_by p k ks n (p k) refl (found_works p ks) e

found_passes : (p : ℕ → Bool) (ks : List ℕ) (o : Option ℕ) → o ≡ find p ks → IfSome o (λ k. p k ≡ true)
found_passes p ks None e = tt
found_passes p ks (Some n) e = found_works p ks n (sym e)

pub returns-clause-place : goal.returns-clause-place
returns-clause-place c =
    let once_round = YieldsList-from_chain {s = c.chain.result}
    (YieldsList-from_range c.args.cursor (source_count c.args.facts.now) (source_count c.args.facts.now - c.args.cursor) (cc) refl)
    (YieldsList-from_range 0 c.args.cursor c.args.cursor (cc) (omega arith)) (cc) (cc) in
    let found : option_map (λ x. x) c.find.result ≡ find (λ k. has_work c.args.state.now.state c.args.now (source_at c.args.facts.now k)) (circle c.args.facts.now c.args.cursor)
    = find_from_yields_List {v = λ x. x} (λ k. has_work c.args.state.now.state c.args.now (source_at c.args.facts.now k)) _ _ c.find.result c.find.ensures.ran once_round (λ x b q k. search (rules, tests)) in
    rw (← option_map_id c.find.result) found

pub returns-clause-works : goal.returns-clause-works
returns-clause-works c =
    found_passes (λ k. has_work c.args.state.now.state c.args.now (source_at c.args.facts.now k)) (circle c.args.facts.now c.args.cursor) c.find.result (returns-clause-place c)

-- a router that goes round its queues, which are empty
use Rattle.std.proofs.Common.{◌≡◌, ℕ, ◌+◌, ◌<◌, Bool, true, false, cond, nat_lt, List, [], ◌∷◌, ◌++◌, Option, Some, None, IfSome, IsSome, refl, ap, subst, sym, ◌∙◌}
use Rattle.std.proofs.lemmas.Bool.{lt-ltb}
use Rattle.std.specs.Option.{option_and_then, option_map, unwrap_or}
use Rattle.csp_buffer.specs.Content.{Content}
use Rattle.csp_deck.specs.Circles.{IsLook, LooksInto, state_missed}
use Rattle.csp_deck.specs.Runs.{Steps}
use Rattle.csp_log.specs.declared.event.Event.{Event}
use Rattle.csp_log.specs.declared.places.QueueId.{QueueId}
use Rattle.csp_log.specs.declared.places.QueueId.TheVariants as queue
use Rattle.csp_log.specs.declared.places.Rule.{Rule}
use Rattle.csp_log.specs.declared.shown.AnswerShown.TheVariants as answer
use Rattle.csp_log.specs.declared.shown.OpShown.TheVariants as op
use Rattle.csp_stack.specs.Circles.{IsIdle, Passes, at_cursor, look_at, router_from, router_of, router_steps}
use Rattle.csp_stack.specs.Party.{rules_of}
use Rattle.csp_stack.specs.Router.{Facts, Leaving, State, StateAt}
use Rattle.csp_stack.specs.Sources.{place_past, place_with_work, source_at}
use Rattle.csp_stack.specs.Told.{Told, after_all, unchanged}
use Rattle.csp_stack.specs.Turn.{asked_at, until_answer, asks_at, first_rule, plan_of, told_at, turn_of, work_at, work_found}
use Rattle.csp_stack.specs.declared.plan.Plan.{Plan}
use Rattle.csp_stack.specs.declared.plan.Plan.TheVariants as plan
use Rattle.csp_stack.specs.declared.sources.Source.{Source}
use Rattle.csp_stack.specs.declared.sources.Source.TheVariants as source

-- one more look comes after these
pub looks_on : {S : Type 0} (p : Steps S) (time : ℕ) (s t u : S) (qs : List QueueId) (q : QueueId) → LooksInto p time s qs t → IsLook p time t q → state_missed p time t ≡ u → LooksInto p time s (qs ++ q ∷ []) u
looks_on p time s t u [] q e l m = (rw e l, ap (state_missed p time) e ∙ m)
looks_on p time s t u (r ∷ qs) q h l m = (h.0, looks_on p time (state_missed p time s) t u qs q h.1 l m)

-- wherever its cursor is, it has nothing else to do
pub idle_from : (s : State) (time cursor : ℕ) → IsIdle s time → IsIdle (at_cursor s cursor) time
idle_from s time cursor h = let clear = h.clear in record {
  rests = h.rests;
  clear = record { trash = clear.trash; out = clear.out; early = clear.early };
  still = ap (λ (x : State). at_cursor x cursor) h.still;
}

-- its turn is the work that was found
plan_clear : (trash : List Content) (out : Option Leaving) (work : Plan) → trash ≡ [] → out ≡ None → first_rule trash out work ≡ work
plan_clear trash out work t o = rw t (rw o refl)

plan_is : (f : Facts) (s : State) (time : ℕ) → IsIdle s time → plan_of f s time ≡ work_found f s time (place_with_work f s time)
plan_is f s time h = plan_clear s.trash s.out _ h.clear.trash h.clear.out

-- what it asks, what it is then, and what it is told, where its turn is a look into an empty queue
asks_is : (f : Facts) (s : State) (time : ℕ) (d : Plan) (q : QueueId) → IsIdle s time → plan_of f s time ≡ d → (turn_of f s time d).asks ≡ op.Pop q → asks_at f s time ≡ op.Pop q
asks_is f s time d q h e pops = ap (λ (x : State). (turn_of f x time (plan_of f x time)).asks) h.still ∙ ap (λ (p : Plan). (turn_of f s time p).asks) e ∙ pops

asked_is : (f : Facts) (s : State) (time : ℕ) (d : Plan) (past : ℕ) → IsIdle s time → plan_of f s time ≡ d → until_answer f s time d ≡ record s { cursor = past; doing = d } →
    asked_at f s time ≡ record s { cursor = past; doing = d }
asked_is f s time d past h e asked = ap (λ (x : State). until_answer f x time (plan_of f x time)) h.still ∙ ap (until_answer f s time) e ∙ asked

ends : (s : State) (time past : ℕ) → IsIdle s time → after_all s.early (unchanged (record s { cursor = past; early = []; doing = plan.Rest })) ≡ unchanged (at_cursor s past)
ends s time past h =
    let reported : after_all s.early (unchanged (record s { cursor = past; early = []; doing = plan.Rest })) ≡ unchanged (record s { cursor = past; early = []; doing = plan.Rest })
    = ap (λ (es : List Event). after_all es (unchanged (record s { cursor = past; early = []; doing = plan.Rest }))) h.clear.early in
    let early : unchanged (record s { cursor = past; early = []; doing = plan.Rest }) ≡ unchanged (record s { cursor = past; doing = plan.Rest })
    = ap (λ (es : List Event). unchanged (record s { cursor = past; early = es; doing = plan.Rest })) (sym h.clear.early) in
    let doing : unchanged (record s { cursor = past; doing = plan.Rest }) ≡ unchanged (at_cursor s past)
    = ap (λ (d : Plan). unchanged (record s { cursor = past; doing = d })) (sym h.rests) in
    reported ∙ early ∙ doing

told_is : (f : Facts) (s : State) (time : ℕ) (d : Plan) (past : ℕ) → IsIdle s time → plan_of f s time ≡ d → until_answer f s time d ≡ record s { cursor = past; doing = d } →
    ((t : State) → (turn_of f t time d).told answer.Empty ≡ unchanged t) → told_at f (asked_at f s time) time answer.Empty ≡ unchanged (at_cursor s past)
told_is f s time d past h e asked misses =
    let was : told_at f (asked_at f s time) time answer.Empty ≡ told_at f (record s { cursor = past; doing = d }) time answer.Empty
    = ap (λ (x : State). told_at f x time answer.Empty) (asked_is f s time d past h e asked) in
    let nothing : told_at f (record s { cursor = past; doing = d }) time answer.Empty ≡ after_all s.early (unchanged (record s { cursor = past; early = []; doing = plan.Rest }))
    = ap (after_all s.early) (misses (record s { cursor = past; early = []; doing = plan.Rest })) in
    was ∙ nothing ∙ ends s time past h

passes_by : (f : Facts) (s : StateAt) (time cursor : ℕ) (d : Plan) (q : QueueId) (past : ℕ) → IsIdle (at_cursor s.state cursor) time → plan_of f (at_cursor s.state cursor) time ≡ d →
    (turn_of f (at_cursor s.state cursor) time d).asks ≡ op.Pop q → until_answer f (at_cursor s.state cursor) time d ≡ record s.state { cursor = past; doing = d } →
    ((t : State) → (turn_of f t time d).told answer.Empty ≡ unchanged t) → IsSome (rules_of f q) → Passes f s time cursor (q, past)
passes_by f s time cursor d q past h e pops asked misses used =
    let told = told_is f (at_cursor s.state cursor) time d past h e asked misses in
    record {
      look = record { goes_on = refl; asks = asks_is f (at_cursor s.state cursor) time d q h e pops; events = ap (λ (t : Told). t.events) told };
      missed = ap (λ (t : Told). router_of f (record s { state = t.state })) told;
      used = used;
    }

-- it uses the queue of an application that is there
used_if : (there : Bool) (r : Rule) → there ≡ true → IsSome (cond there (Some r) None)
used_if true r e = refl
used_if false r e = absurd cc

passes_at : (f : Facts) (s : StateAt) (time cursor : ℕ) (x : Source) → IsIdle (at_cursor s.state cursor) time → plan_of f (at_cursor s.state cursor) time ≡ work_at (at_cursor s.state cursor) time x →
    ((k : ℕ) → x ≡ source.App k → k < f.apps) → IfSome (look_at f x) (Passes f s time cursor)
passes_at f s time cursor source.Inbox h e there = passes_by f s time cursor plan.Hear queue.Inbox (place_past f 0) h e refl refl (λ t. refl) refl
passes_at f s time cursor (source.App k) h e there =
    passes_by f s time cursor (plan.Serve k) (queue.Up k) (place_past f (k + 1)) h e refl refl (λ t. refl) (used_if (nat_lt k f.apps) _ (lt-ltb _ _ (there k refl)))
passes_at f s time cursor source.Jobs h e there = tt

-- a look at the source that was found
works_at : (f : Facts) (s : State) (time : ℕ) (o : Option ℕ) (x : Source) → Some x ≡ option_map (source_at f) o → work_found f s time o ≡ work_at s time x
works_at f s time None x e = absurd cc
works_at f s time (Some k) x e = ap (λ (o : Option Source). work_at s time (unwrap_or o x)) (sym e)

pub vain_look : (f : Facts) (s : StateAt) (time cursor : ℕ) (o : Option Source) → IsIdle s.state time → o ≡ option_map (source_at f) (place_with_work f (at_cursor s.state cursor) time) →
    ((k : ℕ) → o ≡ Some (source.App k) → k < f.apps) → IfSome (option_and_then (look_at f) o) (Passes f s time cursor)
vain_look f s time cursor None h e there = tt
vain_look f s time cursor (Some x) h e there =
    let idle = idle_from s.state time cursor h in
    passes_at f s time cursor x idle (plan_is f (at_cursor s.state cursor) time idle ∙ works_at f (at_cursor s.state cursor) time _ x e) (λ k is. there k (ap Some is))

-- the looks so far and one more
pub one_more : (f : Facts) (s : StateAt) (time cursor : ℕ) (qs more : List QueueId) (q : QueueId) (past : ℕ) → LooksInto router_steps time (router_of f s) qs (router_from f s cursor) →
    Passes f s time cursor (q, past) → more ≡ qs ++ q ∷ [] → LooksInto router_steps time (router_of f s) more (router_from f s past)
one_more f s time cursor qs more q past h p e = rw e (looks_on router_steps time (router_of f s) (router_from f s cursor) (router_from f s past) qs q h p.look p.missed)

-- where the cursor is again what it was, the router is as it was
pub come_round : (f : Facts) (s : StateAt) (time past : ℕ) (qs : List QueueId) → past ≡ s.state.cursor → LooksInto router_steps time (router_of f s) qs (router_from f s past) →
    LooksInto router_steps time (router_of f s) qs (router_of f s)
come_round f s time past qs e h = subst (λ (k : ℕ). LooksInto router_steps time (router_of f s) qs (router_from f s k)) e h

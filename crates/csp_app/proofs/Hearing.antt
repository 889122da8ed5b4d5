-- what an application finds when it hears an answer
use Rattle.std.proofs.Common.{◌≡◌, ℕ, ◌+◌, ◌^◌, ◌<◌, ◌≤◌, Bool, true, false, ◌&&◌, Option, Some, None, List, [], ◌∷◌, length, drop, refl, nat_le, arith, sym, ◌∙◌, ap, subst}
use Rattle.std.specs.List.{slice_get, All}
use Rattle.std.specs.Option.{is_none}
use Rattle.std.specs.Prelude.{IfSome, ◌==◌, if◌then◌else◌, IsSomeAnd, IsSome}
use Rattle.std.proofs.lemmas.Bool.{leb-true, leb-false, eq-eqb}
use Rattle.std.proofs.Math.Bool.{and-true}
use Rattle.std.proofs.lemmas.Option.{slice_get_within, get_or_from_slice_get}
use Rattle.csp_app.specs.PlainApp.{PlainApp, AppAt, has_ended, uses}
use Rattle.csp_app.specs.Asking.{handed, asked}
use Rattle.csp_app.specs.Collecting.{Collectors}
use Rattle.csp_app.specs.Room.{IsStep, CanHear, IsReady, lent, plain_app, app_at, take_steps}
use Rattle.csp_app.specs.Slots.{slot_at}
use Rattle.csp_app.specs.Steps.{first_rule, note_plan, recv_plan, step_plan, plan_of, turn_of}
use Rattle.csp_app.specs.Turn.{kind_of_turn, op_of}
use Rattle.csp_app.specs.declared.app.App.TheInside.{Inside}
use Rattle.csp_app.specs.declared.plan.AppPlan.{AppPlan}
use Rattle.csp_app.specs.declared.plan.AppPlan.TheVariants as plan
use Rattle.csp_app.specs.declared.slot.KnownSlot.{KnownSlot}
use Rattle.csp_app.specs.PlainStep.{PlainStep}
use Rattle.csp_app.specs.PlainStep as step
use Rattle.csp_app.proofs.Takes.{takes_take}
use Rattle.csp_buffer.specs.Content.{Content}
use Rattle.csp_deck.specs.Carried.{IsCarried, IsRequest, IsUpItem}
use Rattle.csp_deck.specs.Step.{kind_of, CanServe}
use Rattle.csp_log.specs.declared.note.Note.{Note}
use Rattle.csp_log.specs.declared.places.Carries.TheVariants as lane
use Rattle.csp_log.specs.declared.places.Rule.TheVariants as rule
use Rattle.csp_log.specs.declared.shown.ItemShown.{ItemShown}
use Rattle.csp_log.specs.declared.shown.ItemShown.TheVariants as item

carried_up : (b : Bool) (i : ItemShown) → b ≡ true → IsUpItem i → IsSomeAnd (if b then Some (rule.Lane lane.Up) else None) (λ r. IsCarried r i)
carried_up true i e h = h
carried_up false i e h = absurd cc

found_down : (b : Bool) → b ≡ true → IsSome (if b then Some (rule.Lane lane.Down) else None)
found_down true e = refl
found_down false e = absurd cc

-- its `Up` can be pushed to, and its `Down` popped
up_served : (number : ℕ) (i : ItemShown) → IsUpItem i → IsSomeAnd (if number == number then Some (rule.Lane lane.Up) else None) (λ r. IsCarried r i)
up_served number i h = carried_up (number == number) i (eq-eqb number number refl) h

down_served : (number : ℕ) → IsSome (if number == number then Some (rule.Lane lane.Down) else None)
down_served number = found_down (number == number) (eq-eqb number number refl)

-- the packet that was made is one that `Up` carries
abbrev pub IsFit : PlainApp → Type 0
IsFit s = IfSome s.made (λ b. IsUpItem (item.Packet s.mark b))

-- the turn of a state in which this step was found
abbrev pub own : PlainApp → Option PlainStep → AppPlan
own s found = first_rule s.taken s.refused (step_plan s found)

-- what an application finds at the answer, what comes back fits where it was, what it waits for is what it asked, and its queues serve that
pub record Heard (s : PlainApp) (now : ℕ) (p : AppPlan) : Type 0 where
  pub hears : CanHear (record (handed s now p) { doing = p }) p
  pub room : length (handed s now p).held + lent p ≤ length s.held
  pub kind : kind_of_turn (handed s now p).number (turn_of (record (handed s now p) { doing = p }) 0 p) ≡ kind_of (op_of s.number (turn_of s now p))
  pub served : CanServe (uses s) (op_of s.number (turn_of s now p))

note_hears : (s : PlainApp) (now : ℕ) (asked : Bool) (n : Note) → s.taken ≡ None → s.done < length s.steps → IsRequest n → Heard s now (note_plan asked n)
note_hears s now false n free more h = record { hears = free; room = omega arith; kind = refl; served = up_served s.number (item.Note n) h }
note_hears s now true n free more h = record { hears = (more, free); room = omega arith; kind = refl; served = down_served s.number }

recv_hears : (s : PlainApp) (now slot packets : ℕ) (rounds since : Option ℕ) (enough : Bool)
    → s.taken ≡ None → slot < 4 → s.done < length s.steps → nat_le packets (slot_at s.slots slot).unused ≡ enough
    → Heard s now (recv_plan slot packets rounds since enough)
recv_hears s now slot packets rounds None true free few more e = record { hears = (more, few, leb-true _ _ e); room = omega arith; kind = refl; served = tt }
recv_hears s now slot packets rounds None false free few more e = record { hears = (more, free, few); room = omega arith; kind = refl; served = down_served s.number }
recv_hears s now slot packets rounds (Some _) true free few more e = record { hears = (more, free, few); room = omega arith; kind = refl; served = down_served s.number }
recv_hears s now slot packets rounds (Some _) false free few more e = record { hears = (more, free, few); room = omega arith; kind = refl; served = down_served s.number }

own_hears : (number : ℕ) (steps : List PlainStep) (done : ℕ) (since : Option ℕ) (asked : Bool) (sent : ℕ) (refused : Bool) (taken made : Option Content) (mark : ℕ) (held : List Content) (slots : List KnownSlot) (collectors : Collectors) (doing : AppPlan) (now : ℕ) (found : Option PlainStep)
    → let s : PlainApp = record { number = number; steps = steps; done = done; since = since; asked = asked; sent = sent; refused = refused; taken = taken; made = made; mark = mark; held = held; slots = slots; collectors = collectors; doing = doing } in
    slice_get steps done ≡ found → IfSome found IsStep → IsFit s → (taken ≡ None → done < length steps) → Heard s now (own s found)
own_hears number steps done since asked sent refused (Some b) made mark held slots collectors doing now found e ok up more = record { hears = refl; room = omega arith; kind = refl; served = tt }
own_hears number steps done since asked sent true None made mark held slots collectors doing now found e ok up more = record { hears = refl; room = omega arith; kind = refl; served = down_served number }
own_hears number steps done since asked sent false None made mark held slots collectors doing now None e ok up more = record { hears = tt; room = omega arith; kind = refl; served = tt }
own_hears number steps done since asked sent false None made mark held slots collectors doing now (Some step.Take) e ok up more = record { hears = e; room = omega arith; kind = refl; served = tt }
own_hears number steps done since asked sent false None made mark [] slots collectors doing now (Some step.Give) e ok up more = record { hears = more refl; room = omega arith; kind = refl; served = tt }
own_hears number steps done since asked sent false None made mark (b ∷ bs) slots collectors doing now (Some step.Give) e ok up more = record { hears = more refl; room = omega arith; kind = refl; served = tt }
own_hears number steps done since asked sent false None made mark held slots collectors doing now (Some (step.Bind port need)) e ok up more = note_hears _ now asked _ refl (more refl) tt
own_hears number steps done since asked sent false None made mark held slots collectors doing now (Some (step.Connect slot dest port prio flags from)) e ok up more = note_hears _ now asked _ refl (more refl) ok
own_hears number steps done since asked sent false None made mark held slots collectors doing now (Some (step.Close slot)) e ok up more = note_hears _ now asked _ refl (more refl) ok
own_hears number steps done since asked sent false None None mark held slots collectors doing now (Some (step.Send _ _)) e ok up more = record { hears = (more refl, refl); room = omega arith; kind = refl; served = tt }
own_hears number steps done since asked sent false None (Some b) mark held slots collectors doing now (Some (step.Send _ _)) e ok up more = record { hears = (more refl, refl); room = omega arith; kind = refl; served = up_served number (item.Packet mark b) up }
own_hears number steps done since asked sent false None None mark held slots collectors doing now (Some (step.Burst _ _ _)) e ok up more = record { hears = (more refl, refl); room = omega arith; kind = refl; served = tt }
own_hears number steps done since asked sent false None (Some b) mark held slots collectors doing now (Some (step.Burst _ _ _)) e ok up more = record { hears = (more refl, refl); room = omega arith; kind = refl; served = up_served number (item.Packet mark b) up }
own_hears number steps done since asked sent false None None mark held slots collectors doing now (Some (step.Blob _ _ _)) e ok up more = record { hears = (more refl, refl); room = omega arith; kind = refl; served = tt }
own_hears number steps done since asked sent false None (Some b) mark held slots collectors doing now (Some (step.Blob _ _ _)) e ok up more = record { hears = (more refl, refl); room = omega arith; kind = refl; served = up_served number (item.Packet mark b) up }
own_hears number steps done since asked sent false None None mark held slots collectors doing now (Some (step.Raw _ _)) e ok up more = record { hears = (more refl, refl); room = omega arith; kind = refl; served = tt }
own_hears number steps done since asked sent false None (Some b) mark held slots collectors doing now (Some (step.Raw _ _)) e ok up more = record { hears = (more refl, refl); room = omega arith; kind = refl; served = up_served number (item.Packet mark b) up }
own_hears number steps done since asked sent false None made mark held slots collectors doing now (Some (step.Recv slot packets rounds)) e ok up more = recv_hears _ now slot packets rounds since _ refl ok (more refl) refl
own_hears number steps done since asked sent false None made mark held slots collectors doing now (Some (step.Collect slot blobs rounds)) e ok up more = recv_hears _ now slot blobs rounds since _ refl ok (more refl) refl
own_hears number steps done since asked sent false None made mark held slots collectors doing now (Some (step.Wait rounds)) e ok up more = record { hears = (more refl, refl); room = omega arith; kind = refl; served = down_served number }

found_step : (steps : List PlainStep) (n : ℕ) (found : Option PlainStep) → All IsStep steps → slice_get steps n ≡ found → IfSome found IsStep
found_step steps n None all e = tt
found_step steps n (Some x) all e = subst IsStep (get_or_from_slice_get steps n x x e) (all n x (slice_get_within steps n x e))

goes_on : (len done : ℕ) (t : Option Content) → (nat_le len done && is_none t) ≡ false → t ≡ None → done < len
goes_on len done None h e = leb-false len done (sym (and-true (nat_le len done)) ∙ h)
goes_on len done (Some _) h e = absurd cc

pub asked_hears : (s : PlainApp) (now : ℕ) → All IsStep s.steps → IsFit s → has_ended s ≡ false → Heard s now (plan_of s)
asked_hears s now all up goes = own_hears s.number s.steps s.done s.since s.asked s.sent s.refused s.taken s.made s.mark s.held s.slots s.collectors s.doing now _ refl (found_step s.steps s.done _ all refl) up (goes_on (length s.steps) s.done s.taken goes)

-- what stays while it asks
pub record Stays (s t : PlainApp) : Type 0 where
  pub number : t.number ≡ s.number
  pub steps : t.steps ≡ s.steps
  pub done : t.done ≡ s.done
  pub slots : t.slots ≡ s.slots

pub handed_stays : (s : PlainApp) (now : ℕ) (p : AppPlan) → Stays s (handed s now p)
handed_stays s now plan.Rest = record { number = refl; steps = refl; done = refl; slots = refl }
handed_stays s now _ = record { number = refl; steps = refl; done = refl; slots = refl }

handed_fit : (s : PlainApp) (now : ℕ) (p : AppPlan) → IsFit s → IsFit (handed s now p)
handed_fit s now plan.Push up = tt
handed_fit s now _ up = up

-- its places keep their regions
pub record OneRegion (a b : Inside) : Type 0 where
  pub taken : b.taken.region ≡ a.taken.region
  pub made : b.made.region ≡ a.made.region
  pub held : b.held.region ≡ a.held.region

-- an application that has asked is whole again
pub asked_ready : (a b : Inside) (w : AppAt) (now : ℕ) → IsReady a → app_at a ≡ w → has_ended w.app ≡ false → plain_app b ≡ asked w.app now → b.held.room ≡ a.held.room → OneRegion a b → IsReady b
asked_ready a b w now r view_at ends after kept regions =
    let v : PlainApp = w.app in
    let view : plain_app a ≡ v = ap (λ (x : AppAt). x.app) view_at in
    let goes : has_ended (plain_app a) ≡ false = ap has_ended view ∙ ends in
    let e : plain_app b ≡ asked (plain_app a) now = after ∙ sym (ap (λ (x : PlainApp). asked x now) view) in
    let s : PlainApp = plain_app a in
    let p : AppPlan = plan_of s in
    let st : Stays s (handed s now p) = handed_stays s now p in
    let h : Heard s now p = asked_hears s now r.steps r.made goes in
    let steps : b.script ≡ a.script = ap (λ (x : PlainApp). x.steps) e ∙ st.steps in
    let done : b.progress.done ≡ a.progress.done = ap (λ (x : PlainApp). x.done) e ∙ st.done in
    let held : b.held.contents ≡ (handed s now p).held = ap (λ (x : PlainApp). x.held) e in
    let doing : b.doing ≡ p = ap (λ (x : PlainApp). x.doing) e in
    record {
      few = subst (λ (xs : List PlainStep). length xs + 1 < 2 ^ 32) (sym steps) r.few;
      steps = subst (λ (xs : List PlainStep). All IsStep xs) (sym steps) r.steps;
      done = rw (steps, done) r.done;
      room = omega (arith, h.room, r.room, kept, ap (λ (xs : List Content). length xs) held, ap lent doing, ap (λ (xs : List PlainStep). take_steps (drop b.progress.done xs)) steps, ap (λ (n : ℕ). take_steps (drop n a.script)) done);
      hears = rw (e, doing) h.hears;
      made = subst IsFit (sym e) (handed_fit s now p r.made);
      made_of_it = rw (regions.made, regions.taken) r.made_of_it;
      held_of_it = rw (regions.held, regions.taken) r.held_of_it;
    }

-- an application whose `take` step is done is whole again
pub take_ready : (a b : Inside) → IsReady a → slice_get a.script a.progress.done ≡ Some step.Take → b.script ≡ a.script → b.progress.done ≡ a.progress.done + 1
    → b.doing ≡ plan.Rest → length b.held.contents ≤ length a.held.contents + 1 → b.held.room ≡ a.held.room → b.made.content ≡ a.made.content → b.mark ≡ a.mark → OneRegion a b → IsReady b
take_ready a b r e steps done doing held kept made mark regions =
    let t = takes_take a.script a.progress.done e in
    let left : take_steps (drop (a.progress.done + 1) b.script) ≡ take_steps (drop (a.progress.done + 1) a.script) = rw steps in
    record {
      few = rw steps r.few;
      steps = rw steps r.steps;
      done = rw (steps, done) (omega (arith, t.1));
      room = omega (arith, r.room, t.0, held, kept, ap lent doing, ap (λ (n : ℕ). take_steps (drop n b.script)) done, left);
      hears = rw doing tt;
      made = rw (made, mark) r.made;
      made_of_it = rw (regions.made, regions.taken) r.made_of_it;
      held_of_it = rw (regions.held, regions.taken) r.held_of_it;
    }

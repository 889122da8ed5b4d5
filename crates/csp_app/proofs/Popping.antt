-- what an application makes of a pop
use Rattle.std.proofs.Common.{◌≡◌, ℕ, Bool, true, false, Some, None, refl}
use Rattle.std.specs.Prelude.{if◌then◌else◌, ◌==◌}
use Rattle.std.proofs.lemmas.Bool.{eq-eqb}
use Rattle.csp_app.specs.PlainApp.{PlainApp, uses}
use Rattle.csp_app.specs.Making.{note_in}
use Rattle.csp_app.specs.Room.{CanHear, CanLook}
use Rattle.csp_app.specs.Slots.{took}
use Rattle.csp_app.specs.Steps.{turn_of}
use Rattle.csp_app.specs.Telling.{told_by, at_rest}
use Rattle.csp_app.specs.ToldApp.{after}
use Rattle.csp_app.specs.Turn.{kind_of_turn, looked, popped}
use Rattle.csp_app.specs.declared.plan.AppPlan.{AppPlan}
use Rattle.csp_app.specs.declared.plan.AppPlan.TheVariants as plan
use Rattle.csp_deck.specs.Carried.{IsDownItem, IsCarriedIn}
use Rattle.csp_deck.specs.Step.{IsAnswerOf}
use Rattle.csp_log.specs.declared.shown.ItemShown.{ItemShown}
use Rattle.csp_log.specs.declared.shown.AnswerShown.{AnswerShown}
use Rattle.csp_log.specs.declared.shown.AnswerShown.TheVariants as answer
use Rattle.csp_log.specs.declared.places.Carries.TheVariants as lane
use Rattle.csp_log.specs.declared.places.QueueId.TheVariants as queue
use Rattle.csp_log.specs.declared.places.Rule.TheVariants as rule

-- the answer is one that may come in the turn of this plan
abbrev pub Fitting : PlainApp → AppPlan → AnswerShown → Type 0
Fitting s p a = IsAnswerOf (uses s) (kind_of_turn s.number (turn_of s 0 p)) a

-- its own `Down` carries what a `Down` carries
carried_down : (n : ℕ) (b : Bool) (i : ItemShown) → b ≡ true → IsCarriedIn (if b then Some (rule.Lane lane.Down) else None) i → IsDownItem i
carried_down n true i e h = h
carried_down n false i e h = absurd cc

down_item : (s : PlainApp) (i : ItemShown) → IsCarriedIn (uses s (queue.Down s.number)) i → IsDownItem i
down_item s i h = carried_down s.number (s.number == s.number) i (eq-eqb s.number s.number refl) h

-- an item comes from `Down`, where no other packet is to be given back and the step can look
pub popped_hears : (s : PlainApp) (p : AppPlan) (i : ItemShown) → Fitting s p (answer.Popped i) → CanHear s p → IsDownItem i × (s.taken ≡ None) × CanLook (popped i (at_rest s)) p
popped_hears s plan.Look i h c = (down_item s i h, c, tt)
popped_hears s plan.Await i h c = (down_item s i h, c.1, c.0)
popped_hears s (plan.Receive _ _ _) i h c = (down_item s i h, c.1, (c.0, c.2))
popped_hears s (plan.Wait _) i h c = (down_item s i h, c.1, c.0)
popped_hears s _ i h c = absurd h

-- the item is noted, and then the step looks
pub popped_comes : (s : PlainApp) (now : ℕ) (p : AppPlan) (i : ItemShown) → Fitting s p (answer.Popped i)
    → told_by (at_rest s) now p (answer.Popped i) ≡ after (took i s.collectors s.slots) (looked (turn_of (popped i (at_rest s)) now p) (note_in i) (popped i (at_rest s)))
popped_comes s now plan.Look i h = refl
popped_comes s now plan.Await i h = refl
popped_comes s now (plan.Receive _ _ _) i h = refl
popped_comes s now (plan.Wait _) i h = refl
popped_comes s now _ i h = absurd h

-- where `Down` is empty the step looks
pub empty_hears : (s : PlainApp) (p : AppPlan) → Fitting s p answer.Empty → CanHear s p → CanLook (at_rest s) p
empty_hears s plan.Look h c = tt
empty_hears s plan.Await h c = c.0
empty_hears s (plan.Receive _ _ _) h c = (c.0, c.2)
empty_hears s (plan.Wait _) h c = c.0
empty_hears s _ h c = absurd h

pub empty_comes : (s : PlainApp) (now : ℕ) (p : AppPlan) → Fitting s p answer.Empty → told_by (at_rest s) now p answer.Empty ≡ looked (turn_of (at_rest s) now p) None (at_rest s)
empty_comes s now plan.Look h = refl
empty_comes s now plan.Await h = refl
empty_comes s now (plan.Receive _ _ _) h = refl
empty_comes s now (plan.Wait _) h = refl
empty_comes s now _ h = absurd h

-- an answer of what is awaited brings nothing else
use Rattle.std.proofs.lemmas.Bool.{ltb-true}
use Rattle.std.proofs.Common.{◌≡◌, ℕ, ◌+◌, Bool, true, false, cond, nat_lt, Some, None, refl, arith}
use Rattle.csp_deck.specs.Carried.{IsCarriedIn}
use Rattle.csp_deck.specs.Step.{IsAnswerOf}
use Rattle.csp_log.specs.declared.places.Carries.TheVariants as lane
use Rattle.csp_log.specs.declared.places.Rule.TheVariants as rule
use Rattle.csp_log.specs.Pictures.{shown_answer}
use Rattle.csp_log.specs.declared.operation.Answer.{Answer}
use Rattle.csp_log.specs.declared.operation.Answer.TheVariants as answers
use Rattle.csp_stack.specs.Readings.{is_pushed}
use Rattle.csp_log.specs.declared.shown.AnswerShown.{AnswerShown}
use Rattle.csp_log.specs.declared.shown.AnswerShown.TheVariants as answer
use Rattle.csp_log.specs.declared.shown.ItemShown.{ItemShown}
use Rattle.csp_ports.specs.Counts.{AreFar}
use Rattle.csp_ports.specs.PlainPorts.{PlainPorts}
use Rattle.csp_stack.specs.Party.{Awaits, IsFrom, awaits_of, kind_of_plan, rules_of}
use Rattle.csp_stack.specs.Router.{Facts, RouterAt}
use Rattle.csp_stack.specs.declared.plan.Plan.{Plan}
use Rattle.csp_stack.specs.declared.plan.Plan.TheVariants as plan

-- what an `Up` carries is of an application that is there
from_up : (f : Facts) (k : ℕ) (i : ItemShown) (there : Bool) → nat_lt k f.apps ≡ there → IsCarriedIn (cond there (Some (rule.Lane lane.Up)) None) i → IsFrom f k i
from_up f k i true e h = record { app = ltb-true k f.apps e; carried = h }
from_up f k i false e h = absurd h

answer_awaited : (f : Facts) (d : Plan) (a : AnswerShown) → IsAnswerOf (rules_of f) (kind_of_plan d) a → Awaits f d a
answer_awaited f plan.Rest answer.Nothing h = (refl, refl)
answer_awaited f plan.Give answer.Given h = refl
answer_awaited f plan.Give (answer.PoolFull b) h = refl
answer_awaited f (plan.Push q n) answer.Pushed h = refl
answer_awaited f (plan.Push q n) (answer.Full i) h = refl
answer_awaited f plan.Hear (answer.Popped i) h = refl
answer_awaited f plan.Hear answer.Empty h = refl
answer_awaited f (plan.Serve k) (answer.Popped i) h = (refl, from_up f k i _ refl h)
answer_awaited f (plan.Serve k) answer.Empty h = (refl, tt)
answer_awaited f (plan.Reply k) answer.Pushed h = refl
answer_awaited f (plan.Reply k) (answer.Full i) h = refl
answer_awaited f (plan.Tell seat) answer.Pushed h = refl
answer_awaited f (plan.Tell seat) (answer.Full i) h = refl
answer_awaited f (plan.Deliver seat) answer.Pushed h = refl
answer_awaited f (plan.Deliver seat) (answer.Full i) h = refl
answer_awaited f (plan.Make seat j) (answer.Taken b) h = (refl, h)
answer_awaited f (plan.Make seat j) answer.NoBuffer h = (refl, tt)
answer_awaited f d a h = absurd h

-- what is an answer of a router as it is seen is one of it as it is
pub seen_awaited : (inside seen : RouterAt) (a : AnswerShown) → inside ≡ seen → IsAnswerOf (rules_of seen.router.facts) (awaits_of seen.router) a → IsAnswerOf (rules_of inside.router.facts) (kind_of_plan inside.router.state.doing) a
seen_awaited inside seen a e h = rw e h

pub awaited : (inside seen : RouterAt) (a : AnswerShown) → inside ≡ seen → IsAnswerOf (rules_of seen.router.facts) (awaits_of seen.router) a → Awaits inside.router.facts inside.router.state.doing a
awaited inside seen a e h = answer_awaited inside.router.facts inside.router.state.doing a (rw e h)

-- who counted no further than n counted no further than n and nothing more
pub far_plus : (n : ℕ) (p : PlainPorts) → AreFar n p → AreFar (n + 0) p
far_plus n p x = let made = x.made in record {
  machines = λ k d lt. let r = x.machines k d lt in let a = r.admitted in let c = r.delivered in record { admitted = omega (arith, a); delivered = omega (arith, c) };
  made = omega (arith, made);
  ends = λ k d lt. let e = x.ends k d lt in omega (arith, e);
}

-- an answer that is no Pushed says that no push was done
pub unpushed : (a : Answer) → (a ≡ answers.Pushed → ⊥) → is_pushed (shown_answer a) ≡ false
unpushed answers.Nothing h = refl
unpushed (answers.Taken b) h = refl
unpushed answers.NoBuffer h = refl
unpushed answers.Given h = refl
unpushed (answers.PoolFull b) h = refl
unpushed answers.Pushed h = absurd (h refl)
unpushed (answers.Full i) h = refl
unpushed (answers.Popped i) h = refl
unpushed answers.Empty h = refl

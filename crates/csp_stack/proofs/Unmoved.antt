-- what is told of a state that had not changed
use Rattle.std.proofs.Common.{◌≡◌, ℕ, List}
use Rattle.csp_log.specs.declared.event.Event.{Event}
use Rattle.csp_stack.specs.Comes.{ComesTo, heard_at_port}
use Rattle.csp_stack.specs.Router.{Facts, State, StateAt}
use Rattle.csp_stack.specs.Rules.{◌>>=◌, Arrival, not_secured, without_checksum}
use Rattle.csp_stack.specs.Told.{Told}

pub unmoved : (first old new : StateAt) (earlier before after : List Event) (told : State → Told) → old ≡ first → before ≡ earlier → ComesTo old new before after (told old.state) → ComesTo first new earlier after (told first.state)
unmoved first old new earlier before after told e f h = rw (← e, ← f) h

-- the rules from the third on
abbrev pub by_rest : Facts → State → ℕ → Arrival → Told
by_rest f s time p = without_checksum s p >>= (λ q. heard_at_port f s time q)

-- the rules from the second on
abbrev pub heard_here : Facts → State → ℕ → Arrival → Told
heard_here f s time p = not_secured s p >>= (λ q. by_rest f s time q)

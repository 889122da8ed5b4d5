-- What a listener on a bus keeps, and what it answers.
use Rattle.std.specs.Prelude.{ℕ, List, []}
use Rattle.csp_can.specs.declared.answers.CanAnswer.{CanAnswer}
use Rattle.csp_can.specs.declared.partials.Partial.{Partial}
use Rattle.csp_can.specs.Rules.{Arrival}
use Rattle.csp_can.specs.Open.{answer, next, counters}

-- how many payload bytes a packet has at most, and the partial packets that stand
pub record Listening : Type 0 where
  pub mtu : ℕ
  pub partials : List Partial

-- before any frame came
abbrev pub silent : (mtu : ℕ) → Listening
silent mtu = record { mtu = mtu; partials = [] }

-- what it answers to a frame
abbrev pub answered : Listening → Arrival → CanAnswer
answered l a = answer counters l.mtu l.partials a

-- and what stands after it
abbrev pub listened : Listening → Arrival → Listening
listened l a = record { mtu = l.mtu; partials = next counters l.mtu l.partials a }

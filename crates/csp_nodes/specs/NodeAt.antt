-- What the pool of one node's lists answers.
use Rattle.std.specs.Prelude.{◌≡◌, ⊤, Option, Result, IfErr, MatchOption, MatchResult}
use Rattle.csp_buffer.specs.Content.{Content}
use Rattle.csp_lists.specs.PlainDeck.{PlainDeck, answer_of, IsEmptyAt, IsFullAt}
use Rattle.csp_log.specs.declared.places.Place.TheVariants as place
use Rattle.csp_log.specs.declared.shown.AnswerShown.TheVariants as answer
use Rattle.csp_log.specs.declared.shown.OpShown.TheVariants as op

-- a take that brought this
pub record TakesAt (d : PlainDeck) (r : Option Content) (e : PlainDeck) : Type 0 where
  pub answer : MatchOption r (answer_of d op.Take ≡ (answer.NoBuffer, e)) (λ b. answer_of d op.Take ≡ (answer.Taken b, e))
  pub empty : MatchOption r (IsEmptyAt d place.Pool) (λ _. ⊤)

-- a give that brought this back
pub record GivesAt (d : PlainDeck) (b : Content) (r : Result (Unit {0}) Content) (e : PlainDeck) : Type 0 where
  pub answer : MatchResult r (λ _. answer_of d (op.Give b) ≡ (answer.Given, e)) (λ c. answer_of d (op.Give b) ≡ (answer.PoolFull c, e))
  pub full : IfErr r (λ _. IsFullAt d place.Pool)

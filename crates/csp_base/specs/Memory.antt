-- What the source and the sink over memory are seen as.
use Rattle.std.specs.Prelude.{ℕ, List}

-- a source over memory: the bytes left, the calls that fail, the calls made and the faults counted
pub record PlainSource : Type 0 where
  pub left : List ℕ
  pub failing : List ℕ
  pub calls : ℕ
  pub faults : ℕ

-- a sink over memory: the bytes written, the room left, the most that one call takes, the calls that fail,
-- the calls made and the faults counted
pub record PlainSink : Type 0 where
  pub written : List ℕ
  pub room : ℕ
  pub piece : ℕ
  pub failing : List ℕ
  pub calls : ℕ
  pub faults : ℕ

-- The machine value of a tally's name, and the names that its walks cite. Assumes `Logic`.
pub use Rattle.std.proofs.Common.{ℕ, ◌≡◌, List, [], ◌∷◌, refl}
pub use Rattle.std.proofs.raw_atomic.Walks.{proved, leaves}
pub use mir.Syntax.{named}
pub use mir.Val.{Val, vptr, vstruct, vnil}
pub use base.Logic.{SProp, ent, emp}
pub use base.Fml.{ftrue, flft}
pub use contract.Monad.{fact, fact_i}
pub use contract.Running.{tables}
pub use types.Logic.{Logic, sem}
pub use types.Kit.{‵, raw, ◌⊛◌, ◌$◌, ◌∵◌, !, qed, by, move, keep, split, fjoin, use0}
pub use types.Run.{enter, no_more, returns}
pub use types.ByLocal.{alloc_all, pass_all, free_all, look_at, sets}
pub use types.Part.{agg}
pub use denote.Exit.{yes}
pub use denote.RattleType.{RattleType, owns}
pub use denote.Signature.{types_at, plain}
pub use denote.Builtin.{RefOf}
pub use denote.Ref.{shr_vals, shr_Tells}
pub use denote.Steps.{nothing}
pub use denote.Triple.Walked.{Stays, stay_dropped, walk_of, Goes-dropped}
use seplogic.Ra.Ura.{Ura}
use denote.Shadow.{makes_shadow}
use denote.Struct.Struct.{Struct}

abbrev pub bare : Val
bare = vstruct vnil

abbrev pub Bare : RattleType
Bare = Struct (record { name = []; args = []; types = []; fields = [] })

pub bare_made : {M : Type 1} {𝓤 : Ura M} (𝓛 : Logic 𝓤) → ent 𝓤 (emp 𝓤) (sem 𝓛 (Bare.own_val tt (bare ∷ [])))
bare_made 𝓛 = makes_shadow 𝓛 (Bare.own_val tt (bare ∷ [])) (λ vss. (tt, tt)) (tt, (refl, tt))

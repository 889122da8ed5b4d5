-- The names that the walks of `src/strip.rt` cite.
pub use Rattle.std.proofs.Common.{◌≡◌, ℕ, ◌+◌, ◌^◌, ◌<◌, ◌≤◌, List, [], ◌∷◌, ◌++◌, length, take, drop, refl, sym, ap, ◌∙◌, subst, Vec, arith}
pub use Rattle.std.proofs.raw_atomic.Walks.{proved, proved_at}
pub use Rattle.std.proofs.alloc.Calls.{Goes-blank}
pub use Rattle.bytes.proofs.Walks.{Good, plainly, none, one, two, tells, none_made, one_made, two_made, one_had, none_had}
pub use Rattle.bytes.specs.Ownership.{IsPlaced, run_owns}
pub use base.Fraction.{full_share}
pub use base.Logic.{SProp, ent, sep, guard, never, id⊢, never_e}
pub use base.Fml.{ftrue, fsep, feq, fex, fall, fwand, flft}
pub use mir.Syntax.{w8, w64, seq, assign, place, rv_opd, copy, return, named}
pub use mir.Val.{Val, vint, vptr, vunit}
pub use contract.Monad.{fact, fact_i}
pub use contract.Running.{tables}
pub use prog.Wp.{WpFn}
pub use types.Logic.{Logic, sem}
pub use types.Kit.{Goal, ‵, raw, ◌⊛◌, some, later, given, prop, at_ret, ◌$◌, ◌∵◌, !, qed, done, move, keep, drop as let_go, use0, use1, use2, split, join, fsplit, fsplit3, fjoin, fpick, fpack, feq_i, feq_l, flt_l, pick, learn, await, rewrite, regoal, suffices, frame, assume, each, show, check, group, by}
pub use types.Run.{enter, of_opd, unit_lit, fld, stop, no_more, and_then, first, blocks, exec, returns}
pub use types.Part.{agg, sub, whole}
pub use types.ByLocal.{alloc_all, pass_all, free_all, look_at, get, get_in, sets, lands_as, lands_last, env}
pub use denote.Exit.{yes, no}
pub use denote.RattleType.{owns}
pub use denote.Laws.{Typed}
pub use denote.Builtin.{u8, usize, unit}
pub use denote.RawPtr.{Ptr, RawPtr, block_ptr, null_ptr, ptr_val, block_of, count_of, in_a_block, in_block, ◌+ₚ◌}
pub use denote.Param.{layout}
pub use denote.Signature.{plain, types_at}
pub use denote.Steps.{nothing, heard, opens, closes, tied, ties}
pub use denote.Struct.Struct.{as_fields}
pub use denote.Triple.Call.{calls_at, calls_at_last}
pub use denote.Triple.Clauses.{closing}
pub use denote.Triple.Entry.{alive}
pub use denote.Triple.Walked.{says, Stays, stay_dropped, stay_ref, Goes-ref, walk_of, ends_at}
pub use denote.Triple.Table.{framed}
pub use denote.Ref.{MutRef, mut_vals, mut_Tells}

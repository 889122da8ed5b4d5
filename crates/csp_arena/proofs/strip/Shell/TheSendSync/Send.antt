use denote.Builtin.{u8}
use denote.Param.Send.{IsSend, struct_send}
use denote.Struct.Declared as declared
use Rattle.std.specs.Vec.{with_items}
use Rattle.std.specs.contracts.alloc.Global as G
use Rattle.std.specs.contracts.impls.GlobalAllocator.TheImpl.{ghosts}
use Rattle.std.proofs.Crossing.{frees}
use Rattle.std.proofs.alloc.Global.TheSendSync as handle
use Rattle.std_alloc.proofs.SendSync.{Vec-send}
use Rattle.bytes.proofs.Crosses.{u8-send, run_owns-keyless}
use Rattle.csp_arena.proofs.Shells.{Whole}
use Rattle.csp_arena.specs.contracts.strip.Shell as C
use Rattle.csp_arena.specs.contracts.strip.Shell.TheInside as Inside

vec : IsSend Whole
vec = Vec-send u8 G.the_row ghosts u8-send handle.the_send frees

pub send : IsSend C.the_row
send = record {
  owned = λ e vs. (
    (λ _. tt),
    λ v. (tt, λ xs. ((tt, run_owns-keyless e.ptr xs), (struct_send (declared.shape Inside.the_type) (vec, tt)).owned (with_items v.vec xs, tt) vs)),
  );
  leaving = λ k x w. tt;
}

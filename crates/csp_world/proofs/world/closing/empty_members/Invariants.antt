use Rattle.std.proofs.Common.{◌≡◌, ℕ, ◌+◌, ◌≤◌, ◌++◌, All, length, map, vec_len, vec_capacity}
use Rattle.std.specs.List.{flat_map}
use Rattle.std.specs.Prelude.{slice_get}
use Rattle.csp_nodes.specs.Emptied.{emptied_in}
use Rattle.csp_world.specs.Record.{member_held, member_log}
use Rattle.csp_world.specs.Seen.{plain_member}
use Rattle.csp_world.specs.Taking.{IsTakeable}
use Rattle.csp_world.proofs.ClosingMembers.{with_members}
use Rattle.csp_world.proofs.world.closing.empty_members.Given as goal

abbrev pub invariant-loop-member : goal.invariant-loop-member
invariant-loop-member l = record {
  emptied : (node : ℕ) → with_members (map plain_member l.members.items) node (slice_get (emptied_in l.emptied.items) node) ≡ with_members (map plain_member l.fn.members.items) node (slice_get (emptied_in l.fn.emptied.items) node);
  emptied_len : length l.emptied.items ≡ length l.fn.emptied.items;
  regions : map (λ e. e.region) l.emptied.items ≡ map (λ e. e.region) l.fn.emptied.items;
  parties : All (IsTakeable (map (λ e. e.region) l.fn.emptied.items)) l.members.items;
  logs : l.logs.items ++ map (λ m. member_log (plain_member m)) l.members.items ≡ l.fn.logs.items ++ map (λ m. member_log (plain_member m)) l.fn.members.items;
  held : l.held.items ++ flat_map (λ m. member_held (plain_member m)) l.members.items ≡ l.fn.held.items ++ flat_map (λ m. member_held (plain_member m)) l.fn.members.items;
  logs_room : vec_len l.logs + length l.members.items ≤ vec_capacity l.logs;
  held_len : vec_len l.held + length l.members.items ≤ vec_len l.fn.held + length l.fn.members.items;
  held_room : vec_len l.held + length l.members.items ≤ vec_capacity l.held;
  capacity : vec_capacity l.held ≡ vec_capacity l.fn.held;
}

abbrev pub decreases-loop-member : goal.decreases-loop-member
decreases-loop-member l = length l.members.items

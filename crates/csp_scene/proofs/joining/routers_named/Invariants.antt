use Rattle.std.proofs.Common.{◌≡◌, ◌<◌, length, map, take, Some}
use Rattle.std.specs.List.{All}
use Rattle.arrayvec.specs.ArrayVec.{array_vec_len}
use Rattle.csp_scene.specs.Naming.{router_named}
use Rattle.csp_scene.specs.Joining.{all_named}
use Rattle.csp_scene.proofs.joining.routers_named.Given as goal

abbrev pub invariant-loop-name : goal.invariant-loop-name
invariant-loop-name l = record {
  named : all_named (map (λ name. router_named name l.nodes) (map (λ name. name.now) (take l.name-index l.names))) ≡ Some l.places.items;
  count : array_vec_len l.places ≡ l.name-index;
  there : All (λ place. place < length l.nodes) l.places.items;
}

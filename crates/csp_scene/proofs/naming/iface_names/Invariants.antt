use Rattle.std.proofs.Common.{◌≡◌, ◌≤◌, take}
use Rattle.arrayvec.specs.ArrayVec.{array_vec_len}
use Rattle.csp_route.specs.Text.{names_of}
use Rattle.csp_scene.specs.Naming.{iface_names}
use Rattle.csp_scene.proofs.naming.iface_names.Given as goal

abbrev pub invariant-loop-link : goal.invariant-loop-link
invariant-loop-link l = record {
  names : names_of l.names.items ≡ iface_names l.place (take l.link-index l.links);
  few : array_vec_len l.names ≤ l.link-index;
}

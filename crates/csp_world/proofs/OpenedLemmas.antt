-- The parties of a scene's opening world are those of the scene, each with an empty log.
use Rattle.std.proofs.Common.{◌≡◌, map, refl, ap}
use Rattle.csp_scene.specs.Scene.{PlainScene}
use Rattle.csp_topology.specs.Parties.{parties_of}
use Rattle.csp_topology.specs.Topology.{PlainTopology, topology_of}
use Rattle.csp_world.proofs.LoggedLemmas.{AreLogged, logged_opened}
use Rattle.csp_world.specs.Opening.{new_member, opened_world, opening}

pub members_opened : (scene : PlainScene) → (opening scene).members ≡ map new_member (parties_of scene)
unfolding opening
members_opened scene = refl

pub time_opened : (scene : PlainScene) → (opening scene).time ≡ 0
unfolding opening
time_opened scene = refl

pub opening_logged : (scene : PlainScene) → AreLogged (opening scene).time (parties_of scene) (opening scene).members
opening_logged scene = rw (time_opened scene, members_opened scene) (logged_opened (parties_of scene))

-- the world of a scene's network is that of the scene
pub opens_as : (scene : PlainScene) (t : PlainTopology) → t ≡ topology_of scene → opened_world t ≡ opening scene
unfolding opening
opens_as scene t same = ap opened_world same

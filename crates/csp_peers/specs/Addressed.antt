-- No two nodes of a scene have one address.
use Rattle.std.specs.Prelude.{ℕ, ◌≡◌, List, slice_get, Some}
use Rattle.csp_scene.specs.Scene.{PlainNode}

-- no two nodes have the same address (a bridge has none)
abbrev pub AreAddressedApart : List PlainNode → Type 0
AreAddressedApart nodes = (i j : ℕ) (m n : PlainNode) (addr : ℕ) → slice_get nodes i ≡ Some m → slice_get nodes j ≡ Some n → m.addr ≡ Some addr → n.addr ≡ Some addr → i ≡ j

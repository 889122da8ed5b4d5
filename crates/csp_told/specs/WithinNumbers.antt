-- In the text of a report, each interface on a CAN link sent at most as many packets as it has numbers for.
use Rattle.std.specs.Prelude.{ℕ, ◌≡◌, ◌≤◌, ◌&&◌, Bool, true, false, List, ◌∷◌, codes, IsTrue}
use Rattle.std.specs.List.{AllByRecursion, list_any}
use Rattle.std.specs.Fmt.{decimal}
use Rattle.csp_iface.specs.declared.sender.TheConstants.{IDS}
use Rattle.csp_log.specs.declared.places.LinkKind.{LinkKind}
use Rattle.csp_log.specs.declared.places.LinkKind.TheVariants as link
use Rattle.csp_report.specs.Lines.{Line}
use Rattle.csp_report.specs.ReliablePrefix.{word_lines}
use Rattle.csp_scene.specs.Naming.{has_name, is_link_called}
use Rattle.csp_scene.specs.Scene.{PlainScene, PlainLink}

-- whether a link carries CAN frames
abbrev pub is_can : LinkKind → Bool
is_can link.Can = true
is_can link.Kiss = false
is_can link.KissHeader = false

-- whether a link is a CAN link of this name
abbrev pub is_can_called : List ℕ → PlainLink → Bool
is_can_called word l = is_can l.kind && is_link_called word l

-- a line `iface NODE LINK sent N ..` with this N, where NODE is the name of a node or a bridge of the scene and LINK that of a CAN link of it
pub record TellsSentOnCan (scene : PlainScene) (sent : List ℕ) (line : Line) : Type 0 where
  pub node : List ℕ
  pub link : List ℕ
  pub more : Line
  pub form : line ≡ codes "iface" ∷ node ∷ link ∷ codes "sent" ∷ sent ∷ more
  pub of_node : IsTrue (list_any (has_name node) scene.nodes)
  pub on_can : IsTrue (list_any (is_can_called link) scene.links)

-- a word writes in decimal digits a number that is at most this
pub record WritesAtMost (most : ℕ) (word : List ℕ) : Type 0 where
  pub number : ℕ
  pub form : word ≡ decimal number
  pub few : number ≤ most

-- where a line is of that form, its N is at most as many as there are numbers for an interface's transmissions
abbrev pub IsWithinNumbers : PlainScene → Line → Type 0
IsWithinNumbers scene line = (sent : List ℕ) → TellsSentOnCan scene sent line → WritesAtMost IDS sent

-- each line `iface NODE LINK sent N ..` of these bytes, of a node or bridge and a CAN link of the scene, has an N of at most as many as there are numbers for
-- an interface's transmissions
abbrev pub SendsWithinNumbers : PlainScene → List ℕ → Type 0
SendsWithinNumbers scene bytes = AllByRecursion (IsWithinNumbers scene) (word_lines bytes)

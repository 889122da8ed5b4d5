-- Which end of which link is named.
use Rattle.std.specs.Prelude.{ℕ, Bool, true, false, List, find, filter, slice_get, Option, None, if◌then◌else◌}
use Rattle.std.specs.Option.{option_and_then, option_map_or}
use Rattle.csp_log.specs.declared.places.End.{End}
use Rattle.csp_log.specs.declared.places.LinkKind.{LinkKind}
use Rattle.csp_log.specs.declared.places.LinkKind.TheVariants as link
use Rattle.csp_scene.specs.Naming.{has_name, is_link_called}
use Rattle.csp_scene.specs.Scene.{PlainLink, PlainNode, PlainScene}
use Rattle.csp_exports.specs.declared.ends.Form.{Form}
use Rattle.csp_exports.specs.declared.ends.Form.TheVariants as form

-- an end of a link by two names: that of the link, and that of the node where it ends
pub record PlainEndName : Type 0 where
  pub link : List ℕ
  pub node : List ℕ

-- what a link of this kind carries can be written in this form
abbrev pub is_written : Form → LinkKind → Bool
is_written form.Kiss link.Kiss = true
is_written form.Kiss link.KissHeader = true
is_written form.Kiss link.Can = false
is_written form.Candump link.Kiss = false
is_written form.Candump link.KissHeader = false
is_written form.Candump link.Can = true

-- an end is at the node of this name
abbrev pub is_end_at : List PlainNode → (name : List ℕ) → End → Bool
is_end_at nodes name end = option_map_or (has_name name) (slice_get nodes end.node) false

-- the end of a link at the node of this name, where its frames can be written in this form
abbrev pub end_on : List PlainNode → Form → (node : List ℕ) → PlainLink → Option End
end_on nodes which node l = if is_written which l.kind then find (is_end_at nodes node) l.ends else None

-- the end that is named: of the link of this name, at the node of this name; none where the scene lacks one of them, or the link ends elsewhere, or
-- carries what can't be written in this form
abbrev pub end_named : PlainScene → Form → PlainEndName → Option End
end_named scene which name = option_and_then (end_on scene.nodes which name.node) (find (is_link_called name.link) scene.links)

-- What holds of a scene in the making, and of words that fit a line form.
use Rattle.std.specs.Prelude.{ℕ, ◌+◌, ◌≡◌, ◌≤◌, ◌<◌, ◌^◌, ◌⊎◌, ⊤, Bool, true, false, ◌&&◌, ◌==◌, nat_lt, List, [], ◌∷◌, ◌++◌, length, slice_index_or, IsTrue, Result, Ok, Err, IfSome, if◌then◌else◌}
use Rattle.std.specs.List.{All, AllByRecursion, list_all}
use Rattle.std.specs.Option.{option_map_or}
use Rattle.std.specs.Str.{bytes_eq}
use Rattle.csp_route.specs.Routes.{IsWithin}
use Rattle.csp_text.specs.Names.{is_name}
use Rattle.csp_scene.specs.Scene.{PlainNode, PlainLink, PlainScene}
use Rattle.csp_scene.specs.Links.{links_at, node_at, fault_count}
use Rattle.csp_scene.specs.Ranges.{HasEnds, IsMtu, IsNode, IsPlanned, IsSchedule}
use Rattle.csp_scene.specs.Table.{keyword_text, fixed_of, optional_of, shapes_of}
use Rattle.csp_scene.specs.Checks.{all_pass, has_count}
use Rattle.csp_scene.specs.Arguments.{keyword_place}
use Rattle.csp_scene.specs.Rows.{PlainFormRow}
use Rattle.csp_scene.specs.Judge.{Refusal, is_in_app, scene_from}
use Rattle.csp_scene.specs.Sketch.{PlainSketch}
use Rattle.csp_scene.specs.declared.limits.TheConstants.{MAX_UNTIL, MAX_NODES, MAX_LINKS, MAX_HUB_NODES, DEFAULT_MTU, MAX_FAULTS}
use Rattle.csp_log.specs.declared.places.End.{End}
use Rattle.csp_log.specs.declared.places.LinkKind.{LinkKind}
use Rattle.csp_log.specs.declared.places.LinkKind.TheVariants as carried
use Rattle.csp_scene.specs.declared.table.Form.{Form}
use Rattle.csp_scene.specs.declared.table.Keyword.{Keyword}
use Rattle.csp_scene.specs.declared.table.Part.{Part}
use Rattle.csp_scene.specs.declared.table.Part.TheVariants as part
use Rattle.csp_scene.specs.declared.table.Group.{Group}
use Rattle.csp_scene.specs.declared.table.Group.TheVariants as group
use Rattle.csp_scene.specs.declared.checks.Check.TheVariants as check
use Rattle.csp_scene.specs.declared.refusal.SceneKind.{SceneKind}
use Rattle.csp_scene.specs.declared.refusal.SceneError.{SceneError}
use Rattle.csp_scene.specs.declared.refusal.SceneError.TheVariants as error
use Rattle.csp_scene.specs.declared.sketch.LineError.{LineError}
use Rattle.csp_scene.specs.declared.sketch.LineError.TheVariants.{Kind, NoMemory}

-- an end of a link stands at a node, on the interface after those of the earlier links
pub record IsEndAfter (nodes : ℕ) (earlier : List PlainLink) (end : End) : Type 0 where
  pub node : end.node < nodes
  pub iface : end.iface ≡ length (links_at end.node earlier)

-- a link of this kind and mtu, or a hub, may join the nodes in these places, if they are apart: two nodes, or on a hub two to eight
pub record MayJoin (nodes : ℕ) (kind : LinkKind) (hub : Bool) (mtu : ℕ) (places : List ℕ) : Type 0 where
  pub least : 2 ≤ length places
  pub most : length places ≤ MAX_HUB_NODES
  pub pair : hub ≡ false → length places ≡ 2
  pub bus : hub ≡ true → (kind ≡ carried.Can) × (mtu ≡ DEFAULT_MTU)
  pub there : All (λ place. place < nodes) places

-- a link has a name, an mtu in its range, its ends after those of the earlier links, and faults in their ranges
pub record IsLinkAfter (nodes : ℕ) (earlier : List PlainLink) (link : PlainLink) : Type 0 where
  pub name : IsTrue (is_name link.name)
  pub mtu : IsMtu link.mtu
  pub shape : HasEnds link
  pub ends : AllByRecursion (IsEndAfter nodes earlier) link.ends
  pub plan : All (IsPlanned (length link.ends)) link.plan

-- links that stand after earlier ones
abbrev pub AreLinksAfter : ℕ → List PlainLink → List PlainLink → Type 0
AreLinksAfter nodes earlier [] = ⊤
AreLinksAfter nodes earlier (link ∷ links) = IsLinkAfter nodes earlier link × AreLinksAfter nodes (earlier ++ link ∷ []) links

-- each row of each node leads to an interface that it has
pub record AreRouted (nodes : List PlainNode) (links : List PlainLink) : Type 0 where
  pub each : (place : ℕ) → IsWithin (length (links_at place links)) (node_at nodes place).routes

-- the node of the last `app` line has the application
pub record IsHost (nodes : List PlainNode) (place : ℕ) : Type 0 where
  pub node : place < length nodes
  pub app : 1 ≤ length (node_at nodes place).apps

-- the numbers of a scene in the making are in their ranges
pub record IsSketch (d : PlainSketch) : Type 0 where
  pub until : IfSome d.until (λ until. (1 ≤ until) × (until ≤ MAX_UNTIL))
  pub schedule : IfSome d.schedule (IsSchedule d.nodes d.links)
  pub nodes : AllByRecursion IsNode d.nodes
  pub few : length d.nodes ≤ MAX_NODES
  pub links : AreLinksAfter (length d.nodes) [] d.links
  pub few_links : length d.links ≤ MAX_LINKS
  pub faults : fault_count d.links ≤ MAX_FAULTS
  pub routes : AreRouted d.nodes d.links
  pub host : IfSome d.host (IsHost d.nodes)

-- the part in a place of what stands in each line of a form
abbrev pub part_at : Form → ℕ → Part
part_at form place = slice_index_or (fixed_of form) place part.Text

-- it is a name, or a number of 32 bits; a number in its range
abbrev pub IsNamePart : Part → Type 0
IsNamePart part.Name = ⊤
IsNamePart _ = ⊥

-- a place is a number's, of at most 32 bits
abbrev pub IsNumberPart : Part → Type 0
IsNumberPart (part.Number low high) = high < 2 ^ 32
IsNumberPart _ = ⊥

-- a number is in the range of its place
abbrev pub IsInPart : Part → ℕ → Type 0
IsInPart (part.Number low high) number = (low ≤ number) × (number ≤ high)
IsInPart _ number = ⊤

-- the range of the number that follows an optional word
abbrev pub range_in : Keyword → List Group → ℕ × ℕ
range_in keyword [] = (0, 0)
range_in keyword (group.Flag other ∷ groups) = range_in keyword groups
range_in keyword (group.Setting other low high ∷ groups) = if bytes_eq (keyword_text other) (keyword_text keyword) then (low, high) else range_in keyword groups

-- the range of the number after an optional word of a form
abbrev pub range_of : Form → Keyword → ℕ × ℕ
range_of form keyword = range_in keyword (optional_of form)

-- a number of 32 bits in this range
abbrev pub is_number_part : ℕ × ℕ → Part → Bool
is_number_part range (part.Number low high) = low == range.0 && high == range.1 && nat_lt high (2 ^ 32)
is_number_part range _ = false

-- where a shape has the optional word, that number stands after it
abbrev pub is_followed : Keyword → ℕ × ℕ → List Part → Bool
is_followed keyword range shape =
    option_map_or (λ place. nat_lt (place + 1) (length shape) && is_number_part range (slice_index_or shape (place + 1) part.Text)) (keyword_place keyword shape) true

-- in each shape of a form that has this optional word, its number stands after it
abbrev pub has_setting : Form → Keyword → Bool
has_setting form keyword = list_all (is_followed keyword (range_of form keyword)) (shapes_of form)

-- the words after the first fit what a form has there in each of its lines
pub record Fits (form : Form) (args : List (List ℕ)) : Type 0 where
  pub count : length (fixed_of form) ≤ length args
  pub names : IsTrue (all_pass check.Name (fixed_of form) args)
  pub numbers : IsTrue (all_pass check.Number (fixed_of form) args)

-- one of some shapes
abbrev pub IsOneOf : List (List Part) → List Part → Type 0
IsOneOf [] shape = ⊥
IsOneOf (first ∷ shapes) shape = (shape ≡ first) ⊎ IsOneOf shapes shape

-- a shape of a form's lines: what stands in each of them comes first
pub record IsShapeOf (form : Form) (shape : List Part) : Type 0 where
  pub fixed : (more : List Part) × (shape ≡ fixed_of form ++ more)
  pub among : IsOneOf (shapes_of form) shape

-- the words after the first are as many as lines of a shape of the form have, at least as many as it has places, and its numbers fit
pub record FitsShape (form : Form) (shape : List Part) (args : List (List ℕ)) : Type 0 where
  pub among : IsOneOf (shapes_of form) shape
  pub words : IsTrue (has_count shape (length args))
  pub count : length shape ≤ length args
  pub numbers : IsTrue (all_pass check.Number shape args)

-- a call answered what a definition says: the sketch that it left, or the kind; want of memory is free
abbrev pub Judged : {A : Type 0} → Result A LineError → PlainSketch → Result PlainSketch SceneKind → Type 0
Judged (Ok done) d told = told ≡ Ok d
Judged (Err (Kind kind)) d told = told ≡ Err kind
Judged (Err NoMemory) d told = Unit {0}

-- after some lines a sketch stands, the next line has this number, a step may stand there or not, and with the lines left the text gives what it is told to
pub record IsRead (rows : List PlainFormRow) (number : ℕ) (in_app : Bool) (d : PlainSketch) (left : List (List ℕ)) (told : Result PlainScene Refusal) : Type 0 where
  pub earlier : List (List ℕ)
  pub counted : number ≡ length earlier + 1
  pub stands : in_app ≡ is_in_app rows earlier
  pub gives : scene_from rows earlier d left ≡ told

-- the error of a text whose line of this number has this one
abbrev pub error_at : LineError → ℕ → SceneError
error_at (Kind kind) line = error.Refused line kind
error_at NoMemory line = error.NoMemory

-- Consistent, part 5: what a link or a hub pushed is among the copies that its plan makes of what it popped.
use Rattle.std.specs.Prelude.{◌≡◌, ◌<◌, ℕ, true, false, Some, List, [], ◌++◌, length, slice_get}
use Rattle.std.specs.List.Sorted.{IsPermutation}
use Rattle.csp_hub.specs.Applied as hub
use Rattle.csp_link.specs.Applied.{frames_popped, frames_pushed, made}
use Rattle.csp_link.specs.declared.fault.Fault.{Fault}
use Rattle.csp_link.specs.declared.way.Way.{Way}
use Rattle.csp_log.specs.declared.entry.Entry.{Entry}
use Rattle.csp_log.specs.declared.frame.Frame.{Frame}
use Rattle.csp_record.specs.Record.{PlainRecord}
use Rattle.csp_log.specs.declared.who.Who.TheVariants as who
use Rattle.csp_scene.specs.Scene.{PlainScene, PlainLink}
use Rattle.csp_consistent.specs.Reading.{entries_of}

-- in a direction the pushed frames are copies that the plan makes of the popped ones, each copy at most once: with some rest they are all
pub record IsPlanned (plan : List Fault) (es : List Entry) (way : Way) : Type 0 where
  pub rest : List Frame
  pub copies : IsPermutation (made plan way (frames_popped way es)) (frames_pushed way es ++ rest)

-- at an end of a hub the pushed frames are copies that the plan makes of those which it popped from the others, each copy at most once
pub record IsSpread (plan : List Fault) (es : List Entry) (end : ℕ) : Type 0 where
  pub rest : List Frame
  pub copies : IsPermutation (hub.made_after plan end [] es) (hub.frames_pushed end es ++ rest)

-- each direction of each link passed on only what its plan makes of its frames
abbrev pub ArePlanned : PlainScene → PlainRecord → Type 0
ArePlanned scene r = (number : ℕ) (l : PlainLink) (way : Way) → slice_get scene.links number ≡ Some l → l.hub ≡ false → IsPlanned l.plan (entries_of r (who.Link number)) way

-- each end of each hub was passed only what the plan makes of the frames from the others
abbrev pub AreSpread : PlainScene → PlainRecord → Type 0
AreSpread scene r = (number : ℕ) (l : PlainLink) (end : ℕ) → slice_get scene.links number ≡ Some l → l.hub ≡ true → end < length l.ends → IsSpread l.plan (entries_of r (who.Link number)) end

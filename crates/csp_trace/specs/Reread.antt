-- That the bytes which an end of a KISS link put there are read again as what it sent.
use Rattle.std.specs.Prelude.{ℕ, ◌≡◌, Bool, List, find, Some, ⊤}
use Rattle.csp_exports.specs.Ends.{PlainEndName}
use Rattle.csp_exports.specs.declared.ends.Form.TheVariants as form
use Rattle.csp_log.specs.declared.places.End.{End}
use Rattle.csp_record.specs.Record.{PlainRecord}
use Rattle.csp_reread.specs.Reread.{ReadsAs, covers, sent_by}
use Rattle.csp_scene.specs.Naming.{is_link_called}
use Rattle.csp_scene.specs.Scene.{PlainLink, PlainScene}
use Rattle.csp_trace.specs.declared.asked.Asked.{Asked}
use Rattle.csp_trace.specs.declared.asked.Asked.TheVariants as asked

-- by a fresh reader of the KISS link that is so named just the packets are read of these bytes that its end sent in the run, in order, and nothing else;
-- but perhaps the last, whose frame was not yet put on the link
pub record IsReadAsSent (name : PlainEndName) (end : End) (scene : PlainScene) (run : PlainRecord) (bytes : List ℕ) : Type 0 where
  pub link : PlainLink
  pub cover : Bool
  pub called : find (is_link_called name.link) scene.links ≡ Some link
  pub covered : covers link.kind ≡ Some cover
  pub read : ReadsAs cover bytes (sent_by run end)

-- so it is with these bytes, where they are those of a KISS link
unfoldable pub IsReadIfKiss : Asked → PlainScene → PlainRecord → List ℕ → Type 0
IsReadIfKiss (asked.Export form.Kiss name end) scene run bytes = IsReadAsSent name end scene run bytes
IsReadIfKiss (asked.Export form.Candump name end) scene run bytes = ⊤
IsReadIfKiss asked.Timeline scene run bytes = ⊤
IsReadIfKiss (asked.Picture window) scene run bytes = ⊤
IsReadIfKiss asked.Unused scene run bytes = ⊤

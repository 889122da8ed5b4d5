-- The packets that a router sent, by its log.
use Rattle.std.specs.Prelude.{◌≡◌, ℕ, Some, List, [], ◌∷◌, slice_get}
use Rattle.std.specs.List.{flat_map}
use Rattle.csp_buffer.specs.Content.{Content}
use Rattle.csp_log.specs.declared.entry.Entry.{Entry}
use Rattle.csp_log.specs.declared.places.QueueId.TheVariants as queue
use Rattle.csp_log.specs.declared.shown.AnswerShown.{AnswerShown}
use Rattle.csp_log.specs.declared.shown.AnswerShown.TheVariants as answer
use Rattle.csp_log.specs.declared.shown.ItemShown.TheVariants as item
use Rattle.csp_log.specs.declared.shown.OpShown.{OpShown}
use Rattle.csp_log.specs.declared.shown.OpShown.TheVariants as op

-- the packet that a turn put into an `Out` or into its own inbox, if it did
abbrev pub sent_by : OpShown → AnswerShown → List Content
sent_by (op.Push queue.Inbox (item.Packet mark b)) answer.Pushed = b ∷ []
sent_by (op.Push (queue.Out k) (item.Packet mark b)) answer.Pushed = b ∷ []
sent_by _ _ = []

-- all that entries sent, in order of time
abbrev pub packets_sent : List Entry → List Content
packets_sent es = flat_map (λ e. sent_by e.op e.answer) es

-- a packet is one of those
pub record IsSentIn (es : List Entry) (b : Content) : Type 0 where
  pub at : ℕ
  pub there : slice_get (packets_sent es) at ≡ Some b

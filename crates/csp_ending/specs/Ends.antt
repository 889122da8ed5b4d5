-- What the end of a lane, of an inbox and of a pool notes.
use Rattle.std.specs.Prelude.{◌≡◌, ℕ, ◌+◌, ◌≤◌, List, [], ◌∷◌, ◌++◌, length}
use Rattle.std.specs.List.{AllByRecursion}
use Rattle.csp_base.specs.declared.priority.Prio.{Prio}
use Rattle.csp_base.specs.declared.priority.Prio.TheVariants.{Critical, High, Normal, Low}
use Rattle.csp_deck.specs.Carried.{IsCarried}
use Rattle.csp_ending.specs.Notes.{PlainNotes, left_note, held_note, with_queue}
use Rattle.csp_ending.specs.Stores.{PlainStore, TakesBack}
use Rattle.csp_inbox.specs.Marks.{with_mark}
use Rattle.csp_inbox.specs.Passes as inbox
use Rattle.csp_inbox.specs.declared.hand.Mail.{Mail}
use Rattle.csp_lane.specs.Ends as lane
use Rattle.csp_lane.specs.Marks.{AreHeeded}
use Rattle.csp_lists.specs.PlainDeck.{numbers_of}
use Rattle.csp_log.specs.declared.places.Place.TheVariants as place
use Rattle.csp_log.specs.declared.places.QueueId.{QueueId}
use Rattle.csp_log.specs.declared.places.QueueId.TheVariants as queue
use Rattle.csp_log.specs.declared.places.Rule.TheVariants as rule
use Rattle.csp_log.specs.declared.shown.ItemShown.{ItemShown}
use Rattle.csp_pool.specs.Fairness.{Closes}
use Rattle.csp_pool.specs.declared.hand.Hand.{Hand}

-- what was put into a lane is what was got from it and then what was left, which the lane carries, no more than it has room for; and the marks of what
-- was got keep to their bounds
pub record IsLeftIn (l : lane.PlainLane) (p c : lane.PlainEnd) (left : List ItemShown) : Type 0 where
  pub order : p.items ≡ c.items ++ left
  pub carried : AllByRecursion (IsCarried (rule.Lane p.carries)) left
  pub few : length left ≤ l.room
  pub heeded : AreHeeded p.marks c.marks

-- the end of a lane of a node: what was left in it is noted, and its buffers are back
pub record LaneEnds (l : lane.PlainLane) (p c : lane.PlainEnd) (node : ℕ) (q : QueueId) (m n : PlainNotes) (s t : PlainStore) : Type 0 where
  pub left : List ItemShown
  pub whole : IsLeftIn l p c left
  pub rooms : m.queues ≡ n.queues + 1
  pub noted : n ≡ with_queue m node q 0 (place.Lane q) left n.queues
  pub back : TakesBack s (numbers_of left) t

-- of a priority of an inbox, what was put under each mark is what was got and then what was left under it; all that was left is of this priority; and
-- there were as many puts as any pass was told that there must be
pub record IsLeftAt (room : ℕ) (p : Prio) (v : Mail) (left : List ItemShown) : Type 0 where
  pub sorted : (m : ℕ) → with_mark m v.kept ≡ with_mark m (v.got ++ left)
  pub reached : v.puts_floor ≤ length v.kept
  pub carried : AllByRecursion (IsCarried (rule.Priority p)) left
  pub few : length left ≤ room

-- the notes with those of the four queues of an inbox
abbrev pub with_inbox : PlainNotes → ℕ → (Prio → List ItemShown) → ℕ → PlainNotes
with_inbox m node left queues = record {
  left = m.left ++ left_note node queue.Inbox 0 (left Critical) ∷ left_note node queue.Inbox 1 (left High) ∷ left_note node queue.Inbox 2 (left Normal) ∷ left_note node queue.Inbox 3 (left Low) ∷ [];
  held = m.held ++ held_note node (place.Inbox Critical) (numbers_of (left Critical)) ∷ held_note node (place.Inbox High) (numbers_of (left High))
      ∷ held_note node (place.Inbox Normal) (numbers_of (left Normal)) ∷ held_note node (place.Inbox Low) (numbers_of (left Low)) ∷ [];
  queues = queues;
  others = m.others;
}

-- the end of an inbox of a node: what was left of each priority is noted, and its buffers are back
pub record InboxEnds (x : inbox.PlainInbox) (p : inbox.PlainPass) (node : ℕ) (m n : PlainNotes) (s t : PlainStore) : Type 0 where
  pub left : Prio → List ItemShown
  pub whole : (prio : Prio) → IsLeftAt x.room prio (inbox.mail_at p prio) (left prio)
  pub rooms : m.queues ≡ n.queues + 4
  pub noted : n ≡ with_inbox m node left n.queues
  pub back : TakesBack s (numbers_of (left Critical ++ left High ++ left Normal ++ left Low)) t

-- the end of a pool of a node: all that was left in it is back, and stands from this place on before the other
pub record PoolEnds (v : Hand) (first last : ℕ) (s t : PlainStore) : Type 0 where
  pub left : List ℕ
  pub whole : Closes v left
  pub back : TakesBack s left t
  pub from : first ≡ length s.numbers
  pub to : last ≡ length t.numbers

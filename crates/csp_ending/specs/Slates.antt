-- Room for what is noted of one queue, or of the four of an inbox.
use Rattle.std.specs.Prelude.{◌≡◌, ◌≤◌, ℕ, ◌==◌, Bool, false, List, []}
use Rattle.std.specs.List.{filter}
use Rattle.csp_base.specs.Priority.{prio_number}
use Rattle.csp_base.specs.declared.priority.Prio.{Prio}
use Rattle.csp_base.specs.declared.priority.Prio.TheVariants.{Critical, High, Normal, Low}
use Rattle.csp_deck.specs.Carried.{priority_of}
use Rattle.csp_log.specs.declared.shown.ItemShown.{ItemShown}
use Rattle.csp_log.specs.declared.shown.ItemShown.TheVariants as item

-- the items that were noted so far, and for how many more there is room
pub record PlainSlate : Type 0 where
  pub items : List ItemShown
  pub spare : ℕ

-- one for each priority
pub record PlainSlates : Type 0 where
  pub critical : PlainSlate
  pub high : PlainSlate
  pub normal : PlainSlate
  pub low : PlainSlate

-- that of a priority
abbrev pub slate_of : PlainSlates → Prio → PlainSlate
slate_of s Critical = s.critical
slate_of s High = s.high
slate_of s Normal = s.normal
slate_of s Low = s.low

-- whether an item is a packet of this priority
abbrev pub is_of : Prio → ItemShown → Bool
is_of p (item.Packet mark b) = prio_number (priority_of b) == prio_number p
is_of p (item.Frame _) = false
is_of p (item.Note _) = false

-- the packets of a priority among these items
abbrev pub of_priority : Prio → List ItemShown → List ItemShown
of_priority p items = filter (is_of p) items

-- each slate has room for at least so many
pub record HaveRoom (n : ℕ) (s : PlainSlates) : Type 0 where
  pub critical : n ≤ s.critical.spare
  pub high : n ≤ s.high.spare
  pub normal : n ≤ s.normal.spare
  pub low : n ≤ s.low.spare

-- each slate has room for just so many
pub record HaveJust (n : ℕ) (s : PlainSlates) : Type 0 where
  pub critical : s.critical.spare ≡ n
  pub high : s.high.spare ≡ n
  pub normal : s.normal.spare ≡ n
  pub low : s.low.spare ≡ n

-- nothing was noted yet
pub record AreBlank (s : PlainSlates) : Type 0 where
  pub critical : s.critical.items ≡ []
  pub high : s.high.items ≡ []
  pub normal : s.normal.items ≡ []
  pub low : s.low.items ≡ []

-- the turns that moved neither a packet nor a note, and reported nothing
use Rattle.std.specs.Prelude.{◌≡◌, Bool, true, false, ◌&&◌, [], length, nat_eq}
use Rattle.csp_log.specs.Moving.{moved_by, moved_in}
use Rattle.csp_log.specs.Noting.{noted_by, noted_in}
use Rattle.csp_log.specs.declared.entry.Entry.{Entry}
use Rattle.csp_log.specs.declared.moved.Moved.{Moved}
use Rattle.csp_log.specs.declared.moved.Moved.TheVariants as moved
use Rattle.csp_log.specs.declared.noted.Noted.{Noted}
use Rattle.csp_log.specs.declared.noted.Noted.TheVariants as noted
use Rattle.csp_log.specs.declared.shown.AnswerShown.{AnswerShown}
use Rattle.csp_log.specs.declared.shown.OpShown.{OpShown}

-- a turn was idle for those who look for what was moved or told
pub record IsIdle (e : Entry) : Type 0 where
  pub moved : moved_in e ≡ moved.NoPacket
  pub noted : noted_in e ≡ noted.NoNote
  pub told : e.events.items ≡ []

-- the same as a test
abbrev pub is_no_packet : Moved → Bool
is_no_packet moved.NoPacket = true
is_no_packet (moved.Pushed _ _) = false
is_no_packet (moved.Popped _ _) = false

-- no note was moved
abbrev pub is_no_note : Noted → Bool
is_no_note noted.NoNote = true
is_no_note (noted.Pushed _ _) = false
is_no_note (noted.Popped _ _) = false

-- a turn moved neither a packet nor a note
abbrev pub is_still : OpShown → AnswerShown → Bool
is_still o a = is_no_packet (moved_by o a) && is_no_note (noted_by o a)

-- a turn moved nothing and reported nothing
abbrev pub is_idle : Entry → Bool
is_idle e = nat_eq (length e.events.items) 0 && is_still e.op e.answer

-- What a picture shows of what happened, and what is known when it comes to each thing.
use Rattle.std.specs.Prelude.{ℕ, ◌+◌, ◌/◌, ◌%◌, ◌^◌, ◌==◌, ◌&&◌, ◌||◌, Bool, true, false, nat_le, Option, Some, None, List, [], ◌∷◌, ◌++◌}
use Rattle.std.specs.BTreeMap.{insert_entry, is_at}
use Rattle.std.specs.Map.{lookup}
use Rattle.csp_base.specs.declared.traces.Origin.{Origin}
use Rattle.csp_happenings.specs.declared.kinds.Happening.{Happening}
use Rattle.csp_happenings.specs.declared.kinds.What.{What}
use Rattle.csp_happenings.specs.declared.kinds.What.TheVariants as what
use Rattle.csp_link.specs.declared.fates.Fate.{Fate}
use Rattle.csp_record.specs.Table.{key_cmp}
use Rattle.csp_log.specs.declared.who.Who.{Who}
use Rattle.csp_log.specs.declared.who.Who.TheVariants as who
use Rattle.csp_picture.specs.Colours.{colour_of, is_harmed}
use Rattle.csp_picture.specs.declared.seen.Sent.{Sent}
use Rattle.csp_picture.specs.declared.seen.Start.{Start}
use Rattle.csp_picture.specs.declared.seen.Window.{Window}

-- whether a frame opens a packet: on a KISS link each does, and on a CAN link one whose identifier has a 0 as its bit 18
abbrev pub opens : Option ℕ → Bool
opens None = true
opens (Some id) = id / 2 ^ 18 % 2 == 0

-- a frame closes its packet: on a KISS link each does, and on a CAN link one whose identifier says in its bits 10 to 17 that none is to come
abbrev pub closes : Option ℕ → Bool
closes None = true
closes (Some id) = id / 2 ^ 10 % 256 == 0

-- whether it may be shown: that a link took a frame which opens a packet, or to which its plan does something; and that it handed one on which closes a packet
abbrev pub is_drawn : What → Bool
is_drawn (what.Carried end number fate frame) = opens frame.can || is_harmed fate
is_drawn (what.HandedOn end frame) = closes frame.can
is_drawn _ = false

-- whether a round is in the window; without one each is
abbrev pub is_in : Option Window → ℕ → Bool
is_in None round = true
is_in (Some window) round = nat_le window.from round && nat_le round window.to

-- what is shown, each in a row of its own
abbrev pub is_shown : Option Window → Happening → Bool
is_shown window h = is_in window h.time && is_drawn h.what

-- transmissions by node, interface and serial
abbrev pub Key : Type 0
Key = ℕ × ℕ × ℕ

-- the key of the transmission that an origin names
abbrev pub key_of : Origin → Key
key_of origin = (origin.node, origin.iface, origin.serial)

-- what is known: how many rows there are, the round of the last one, what was transmitted, and in which rows links took it
pub record PlainSeen : Type 0 where
  pub rows : ℕ
  pub last : Option ℕ
  pub sent : List (Key × Sent)
  pub starts : List (Key × Start)

-- nothing yet
abbrev pub nothing_seen : PlainSeen
nothing_seen = record { rows = 0; last = None; sent = []; starts = [] }

-- what was transmitted, by the origin of a frame
abbrev pub sent_by : PlainSeen → Option Origin → Option Sent
sent_by seen None = None
sent_by seen (Some origin) = lookup (is_at (key_cmp (key_of origin))) seen.sent

-- the row in which a link took it, and the colour that it has from there
abbrev pub start_of : PlainSeen → Option Origin → Option Start
start_of seen None = None
start_of seen (Some origin) = lookup (is_at (key_cmp (key_of origin))) seen.starts

-- an interface began a transmission
abbrev pub with_sent : Who → ℕ → Sent → PlainSeen → PlainSeen
with_sent (who.Iface node iface) serial sent seen = record seen { sent = insert_entry key_cmp seen.sent (node, iface, serial) sent }
with_sent _ serial sent seen = seen

-- a link took a frame, which opens the packet or not, in the row that is next
abbrev pub with_start : (opening : Bool) → Option Origin → Fate → PlainSeen → PlainSeen
with_start true (Some origin) fate seen = record seen { starts = insert_entry key_cmp seen.starts (key_of origin) (record { row = seen.rows; colour = colour_of fate }) }
with_start _ _ fate seen = seen

-- what is noted of what happened: of what was transmitted always, of what a link took where it is shown
abbrev pub noted : (shown : Bool) → Happening → What → PlainSeen → PlainSeen
noted shown h (what.Transmitted serial again packet) seen = with_sent h.who serial (record { packet = packet; again = again }) seen
noted shown h (what.Carried end number fate frame) seen = with_start (shown && opens frame.can) frame.trace.origin fate seen
noted shown h _ seen = seen

-- a row more, where it is shown
abbrev pub one_row_more : (shown : Bool) → (round : ℕ) → PlainSeen → PlainSeen
one_row_more true round seen = record seen { rows = seen.rows + 1; last = Some round }
one_row_more false round seen = seen

-- what is known afterwards
abbrev pub after : Option Window → PlainSeen → Happening → PlainSeen
after window seen h = one_row_more (is_shown window h) h.time (noted (is_shown window h) h h.what seen)

-- and after these
unfoldable pub after_all : Option Window → PlainSeen → List Happening → PlainSeen
after_all window seen [] = seen
after_all window seen (h ∷ hs) = after_all window (after window seen h) hs

-- what is told of each of these, one after the other, by what is known when it comes
unfoldable pub along : (PlainSeen → Happening → List ℕ) → Option Window → PlainSeen → List Happening → List ℕ
along tells window seen [] = []
along tells window seen (h ∷ hs) = tells seen h ++ along tells window (after window seen h) hs

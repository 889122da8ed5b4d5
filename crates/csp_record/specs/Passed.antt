-- the packets that passed a link changed, or that nobody sent
use Rattle.std.specs.Prelude.{ℕ, ◌==◌, ◌&&◌, Bool, true, not, if◌then◌else◌, Option, None, Some, List, [], count_by}
use Rattle.std.specs.List.{flat_map, filter_map}
use Rattle.std.specs.Option.{option_and_then}
use Rattle.std.specs.Str.{bytes_eq}
use Rattle.csp_buffer.specs.Content.{Content}
use Rattle.csp_log.specs.Moving.{moved_in}
use Rattle.csp_log.specs.declared.moved.Moved.{Moved}
use Rattle.csp_log.specs.declared.moved.Moved.TheVariants as moved
use Rattle.csp_log.specs.declared.places.QueueId.TheVariants as queue
use Rattle.csp_record.specs.Record.{PlainPartyLog, PlainRecord}
use Rattle.csp_record.specs.Transmissions.{transmission}
use Rattle.csp_log.specs.Who.{is_any_iface}

-- the packet that was put into an inbox
abbrev pub put_in : Moved → Option Content
put_in (moved.Pushed queue.Inbox packet) = Some packet
put_in _ = None

-- the packets that a party put into an inbox, where it is an interface
abbrev pub accepted_by : PlainPartyLog → List Content
accepted_by party = (if is_any_iface party.who then filter_map (λ e. put_in (moved_in e)) party.entries else [])

-- whether a packet has another header or payload than what was sent, or nothing was
abbrev pub differs : Option Content → Content → Bool
differs None packet = true
differs (Some sent) packet = not (packet.header == sent.header && bytes_eq packet.payload sent.payload)

-- whether a packet differs from the transmission that its origin names, or has no origin
abbrev pub is_changed : PlainRecord → Content → Bool
is_changed r packet = differs (option_and_then (transmission r) packet.trace.origin) packet

-- how many packets that interfaces put into inboxes differ so
abbrev pub passed : PlainRecord → ℕ
passed r = count_by (is_changed r) (flat_map accepted_by r.parties)

-- how an interface keeps what it sends and receives
use Rattle.std.specs.Prelude.{ℕ, ◌<◌, List, [], ◌++◌, Option, Some, None, length, drop, map, unwrap_or, IfSome}
use Rattle.std.specs.Option.{option_to_list, is_some}
use Rattle.csp_iface.specs.Keeping.{PlainSender, PlainStream}
use Rattle.csp_iface.specs.Sending.{can_frame}
use Rattle.csp_iface.specs.declared.sender.Sender.TheInside as sender
use Rattle.csp_iface.specs.declared.stream.Stream.TheInside as stream
use Rattle.csp_log.specs.declared.frame.Frame.{Frame}

-- a sender's fields as contracts see them
abbrev pub plain_sender : sender.Inside → PlainSender
plain_sender a = record {
  region = a.packet.region;
  packet = a.packet.content;
  frames = option_to_list a.first ++ map (can_frame a.trace) (unwrap_or a.rest []);
  loaded = is_some a.first;
}

-- the bytes of a frame from this place on; none where there is no frame
abbrev pub bytes_from : ℕ → Option Frame → List ℕ
bytes_from at None = []
bytes_from at (Some f) = drop at f.bytes.items

-- a stream's fields as contracts see them
abbrev pub plain_stream : stream.Inside → PlainStream
plain_stream a = record { reading = a.reader; rest = bytes_from a.at a.frame; trace = a.trace }

-- a frame is in hand only while bytes of it are still to be read
abbrev pub IsStream : stream.Inside → Type 0
IsStream a = IfSome a.frame (λ f. a.at < length f.bytes.items)

-- the queues that an interface looks into again and again
use Rattle.std.specs.Prelude.{ℕ, Bool, true, false, Option, None, List, [], ◌∷◌}
use Rattle.csp_buffer.specs.Content.{Content}
use Rattle.csp_iface.specs.PlainIface.{PlainIface}
use Rattle.csp_iface.specs.declared.packet.WholePacket.{WholePacket}
use Rattle.csp_iface.specs.declared.plan.Side.{Side}
use Rattle.csp_iface.specs.declared.plan.Side.TheVariants as side
use Rattle.csp_iface.specs.declared.receiver.Receiver.{Receiver}
use Rattle.csp_iface.specs.declared.receiver.Receiver.TheVariants as by
use Rattle.csp_log.specs.declared.frame.Frame.{Frame}
use Rattle.csp_log.specs.declared.places.QueueId.{QueueId}
use Rattle.csp_log.specs.declared.places.QueueId.TheVariants as queue

-- no byte of the frame in hand is left
abbrev pub all_read : List ℕ → Bool
all_read [] = true
all_read (_ ∷ _) = false

-- the frame in hand, where there is one, is read to its end; of a CAN bus none is ever in hand
abbrev pub is_read : Receiver → Bool
is_read (by.Kiss s) = all_read s.rest
is_read (by.Can _) = true

-- no frame is left to push, and none to read
abbrev pub is_spent : List Frame → (read : Bool) → Bool
is_spent [] read = read
is_spent (_ ∷ _) read = false

-- nothing is to be given back, delivered or taken, and no frame is left: each side can but look
abbrev pub has_nothing : (back accepted : Option Content) → Option WholePacket → (spent : Bool) → Bool
has_nothing None None None spent = spent
has_nothing _ _ _ _ = false

-- an interface has nothing in hand, neither to send nor to read
abbrev pub is_idle : PlainIface → Bool
is_idle s = has_nothing s.back s.accepted s.whole (is_spent s.frames (is_read s.receiver))

-- the queues of the two sides, that whose turn comes next first
abbrev pub sides : ℕ → Side → List QueueId
sides number side.Sending = queue.Out number ∷ queue.Rx number ∷ []
sides number side.Receiving = queue.Rx number ∷ queue.Out number ∷ []

-- where it is idle it looks into those of its two sides
abbrev pub where_idle : (idle : Bool) → ℕ → Side → List QueueId
where_idle true number next = sides number next
where_idle false number next = []

-- the queues that an interface looks into until it is as it was
abbrev pub circle : PlainIface → List QueueId
circle s = where_idle (is_idle s) s.number s.side

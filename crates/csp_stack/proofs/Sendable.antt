-- what goes out by a row of the table can go
use Rattle.std.proofs.Common.{◌≡◌, ℕ, ◌<◌, Bool, true, false, cond, nat_lt, length, Some, None}
use Rattle.csp_buffer.specs.Content.{Content}
use Rattle.csp_deck.specs.Carried.{IsCarriedIn, IsReply}
use Rattle.csp_log.specs.declared.note.Note.{Note}
use Rattle.csp_log.specs.declared.places.Carries.TheVariants as lane
use Rattle.csp_log.specs.declared.places.QueueId.TheVariants as queue
use Rattle.csp_log.specs.declared.places.Rule.TheVariants as rule
use Rattle.csp_base.specs.declared.limits.TheConstants.{SLOTS}
use Rattle.csp_log.specs.declared.shown.ItemShown.TheVariants as item
use Rattle.csp_route.specs.declared.row.Row.{Row}
use Rattle.csp_stack.specs.Comes.{IsHop}
use Rattle.csp_stack.specs.Party.{IsSendable, rules_of}
use Rattle.csp_stack.specs.Readings.{mark_of}
use Rattle.csp_stack.specs.Router.{Facts}
use Rattle.csp_stack.specs.Rules.{by_row, to_slot}
use Rattle.std.proofs.lemmas.Bool.{lt-ltb}
use Rattle.csp_base.specs.declared.seat.Seat.{Seat}

carried_if : (there : Bool) (mark : ℕ) (b : Content) → there ≡ true → IsHop mark → IsCarriedIn (cond there (Some (rule.Lane lane.Out)) None) (item.Packet mark b)
carried_if true mark b e h = h
carried_if false mark b e h = absurd cc

pub by_row_sendable : (f : Facts) (row : Row) (b : Content) → row.iface < length f.ifaces → IsHop (mark_of row.via) → IsSendable f (Some (by_row row b))
by_row_sendable f row b way hop = carried_if (nat_lt row.iface (length f.ifaces)) (mark_of row.via) b (lt-ltb _ _ way) hop

slot_if : (there : Bool) (slot : ℕ) (b : Content) → there ≡ true → slot < SLOTS → IsCarriedIn (cond there (Some (rule.Lane lane.Down)) None) (item.Packet slot b)
slot_if true slot b e h = h
slot_if false slot b e h = absurd cc

-- what goes to a slot of an application can go
pub to_slot_sendable : (f : Facts) (seat : Seat) (b : Content) → seat.app < f.apps → seat.slot < SLOTS → IsSendable f (Some (to_slot seat b))
to_slot_sendable f seat b there h = slot_if (nat_lt seat.app f.apps) seat.slot b (lt-ltb _ _ there) h

reply_if : (there : Bool) (n : Note) → there ≡ true → IsReply n → IsCarriedIn (cond there (Some (rule.Lane lane.Down)) None) (item.Note n)
reply_if true n e h = h
reply_if false n e h = absurd cc

-- an answer to an application that is there can go
pub reply_served : (f : Facts) (app : ℕ) (n : Note) → app < f.apps → IsReply n → IsCarriedIn (rules_of f (queue.Down app)) (item.Note n)
reply_served f app n there h = reply_if (nat_lt app f.apps) n (lt-ltb _ _ there) h

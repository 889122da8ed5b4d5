-- the steps of a script: what a turn is, by the first rule that fits, and the table of the steps
use Rattle.std.specs.Prelude.{ℕ, ◌+◌, ◌-◌, Bool, true, false, Option, Some, None, List, [], ◌∷◌, ◌++◌, drop, nat_le, nat_lt, slice_get, unwrap_or}
use Rattle.std.specs.Option.{option_map}
use Rattle.csp_app.specs.Making.{Batch, batch_at, filled, packet_in, mark_in}
use Rattle.csp_app.specs.PlainApp.{PlainApp}
use Rattle.csp_app.specs.Slots.{slot_at, used_on}
use Rattle.csp_app.specs.ToldApp.{ToldApp, still, over, over_with, put_off, not_an_answer}
use Rattle.csp_app.specs.Turn.{Turn, rests, takes, gives, pushes, pops}
use Rattle.csp_app.specs.declared.plan.AppPlan.{AppPlan}
use Rattle.csp_app.specs.declared.plan.AppPlan.TheVariants as plan
use Rattle.csp_app.specs.PlainStep.{PlainStep}
use Rattle.csp_app.specs.PlainStep as step
use Rattle.csp_buffer.specs.Content.{Content}
use Rattle.csp_log.specs.declared.event.Event.TheVariants as event
use Rattle.csp_log.specs.declared.note.Note.{Note}
use Rattle.csp_log.specs.declared.note.Note.TheVariants as note
use Rattle.csp_log.specs.declared.shown.ItemShown.{ItemShown}
use Rattle.csp_log.specs.declared.shown.ItemShown.TheVariants as item

-- ---- which turn it is

-- (1) a packet that was popped is given back; (2) else, after a refused operation, `Down` is popped once; (3) else it is the step's
abbrev pub first_rule : (taken : Option Content) → (refused : Bool) → (own : AppPlan) → AppPlan
first_rule (Some _) refused own = plan.Return
first_rule None true own = plan.Look
first_rule None false own = own

-- `give` gives the buffer held longest; with none it does nothing
abbrev pub give_plan : (held : List Content) → AppPlan
give_plan [] = plan.Skip
give_plan (_ ∷ _) = plan.Give

-- a note is pushed, and then its answer is awaited
abbrev pub note_plan : (asked : Bool) → Note → AppPlan
note_plan false n = plan.Ask n
note_plan true n = plan.Await

-- a packet is made in a buffer, and then pushed
abbrev pub packet_plan : (made : Option Content) → AppPlan
packet_plan None = plan.Fill
packet_plan (Some _) = plan.Push

-- `recv` does nothing once where there are enough packets at its start; and so does `collect`, where there are enough blobs
abbrev pub recv_plan : (slot packets : ℕ) → (rounds since : Option ℕ) → (is_enough : Bool) → AppPlan
recv_plan slot packets rounds None true = plan.Use slot packets
recv_plan slot packets rounds None false = plan.Receive slot packets rounds
recv_plan slot packets rounds (Some _) _ = plan.Receive slot packets rounds

-- so many packets of a slot are there that no `recv` has used; or blobs that no `collect` has
abbrev pub is_enough : ℕ → ℕ → PlainApp → Bool
is_enough slot packets s = nat_le packets (slot_at s.slots slot).unused

-- where the present step stands
abbrev pub step_plan : PlainApp → Option PlainStep → AppPlan
step_plan s (Some step.Take) = plan.Take
step_plan s (Some step.Give) = give_plan s.held
step_plan s (Some (step.Bind port need)) = note_plan s.asked (note.Bind port need)
step_plan s (Some (step.Connect slot dest port prio flags from)) = note_plan s.asked (note.Connect slot dest port prio flags from)
step_plan s (Some (step.Send _ _)) = packet_plan s.made
step_plan s (Some (step.Burst _ _ _)) = packet_plan s.made
step_plan s (Some (step.Blob _ _ _)) = packet_plan s.made
step_plan s (Some (step.Raw _ _)) = packet_plan s.made
step_plan s (Some (step.Recv slot packets rounds)) = recv_plan slot packets rounds s.since (is_enough slot packets s)
step_plan s (Some (step.Collect slot blobs rounds)) = recv_plan slot blobs rounds s.since (is_enough slot blobs s)
step_plan s (Some (step.Close slot)) = note_plan s.asked (note.Close slot)
step_plan s (Some (step.Wait rounds)) = plan.Wait rounds
step_plan s None = plan.Rest

-- what the next turn is
abbrev pub plan_of : PlainApp → AppPlan
plan_of s = first_rule s.taken s.refused (step_plan s (slice_get s.steps s.done))

-- ---- the words of the table

-- the present step's packets
abbrev pub batch : PlainApp → Batch
batch s = batch_at (slice_get s.steps s.done)

-- the next of these packets is made in this buffer
abbrev pub making : Batch → Content → PlainApp → PlainApp
making p b s = record s { made = Some (filled p s.sent b); mark = p.mark }

-- the packet that was made, with its mark
abbrev pub packet_made : PlainApp → Option ItemShown
packet_made s = option_map (λ b. item.Packet s.mark b) s.made

-- one more packet of the step was pushed: with the last of them it is done
abbrev pub pushed_one : (is_more : Bool) → PlainApp → ToldApp
pushed_one true s = still (record s { sent = s.sent + 1 })
pushed_one false s = over s

-- a note that came while an answer is awaited: each but Down is the answer, and Refused is reported
abbrev pub note_awaited : PlainApp → Note → ToldApp
note_awaited s note.Bound = over s
note_awaited s (note.Connected _) = over s
note_awaited s (note.Closed _) = over s
note_awaited s (note.Refused why) = over_with (event.Refused (s.done + 1) why) s
note_awaited s (note.Down _) = still s
note_awaited s (note.Bind _ _) = not_an_answer s
note_awaited s (note.Connect _ _ _ _ _ _) = not_an_answer s
note_awaited s (note.Close _) = not_an_answer s

-- an answer is awaited, and this note came, if it is one
abbrev pub answered : Option Note → PlainApp → ToldApp
answered None s = still s
answered (Some n) s = note_awaited s n

-- this is a turn of the step's own: the first is noted
abbrev pub timed : ℕ → PlainApp → PlainApp
timed now s = record s { since = Some (unwrap_or s.since now) }

-- so many rounds have passed since the first turn of the step's own
abbrev pub has_passed : ℕ → ℕ → PlainApp → Bool
has_passed rounds now s = nat_le rounds (now - unwrap_or s.since now)

-- and for `recv` only where it is not to wait for ever
abbrev pub gives_up : Option ℕ → ℕ → PlainApp → Bool
gives_up (Some rounds) now s = has_passed rounds now s
gives_up None now s = false

-- `recv` is satisfied and uses its packets
abbrev pub satisfied : ℕ → ℕ → PlainApp → ToldApp
satisfied slot packets s = over (record s { slots = used_on slot packets s.slots })

-- after each pop of `recv`, in this order: there are enough packets; the rounds have passed; the slot is down
abbrev pub recv_end : ℕ → ℕ → (enough passed down : Bool) → PlainApp → ToldApp
recv_end slot packets true _ _ s = satisfied slot packets s
recv_end slot packets false true _ s = over_with (event.GaveUp (s.done + 1)) s
recv_end slot packets false false true s = over_with (event.SlotDown (s.done + 1)) s
recv_end slot packets false false false s = still s

-- a `recv` step after a pop, as the packets, rounds and slot now stand
abbrev pub received : ℕ → ℕ → Option ℕ → ℕ → PlainApp → ToldApp
received slot packets rounds now s = recv_end slot packets (is_enough slot packets s) (gives_up rounds now s) (slot_at s.slots slot).down s

-- after each pop of `wait`: the rounds have passed
abbrev pub wait_end : (passed : Bool) → PlainApp → ToldApp
wait_end true s = over s
wait_end false s = still s

-- a `wait` step after a pop
abbrev pub waited : ℕ → ℕ → PlainApp → ToldApp
waited rounds now s = wait_end (has_passed rounds now s) s

-- ---- the table: what each turn asks, and what each answer comes to

-- the table of the steps: each plan's turn, with what each answer comes to
abbrev pub turn_of : PlainApp → ℕ → AppPlan → Turn
turn_of s now plan.Rest = rests (still s)
-- (1) a packet that was popped is given back; from a full pool, which no run meets, it comes back, is still to be given, and `Down` is popped
-- once after it is
turn_of s now plan.Return = gives s.taken (record s { taken = None }) (still s) (λ b. put_off (record s { taken = Some b }))
-- (2) `Down` is popped once
turn_of s now plan.Look = pops (record s { refused = false }) (λ _ s. still s)
-- (3) take: the buffer is held; an empty pool is reported, and the script goes on
turn_of s now plan.Take = takes (λ b. over (record s { held = s.held ++ b ∷ [] })) (over_with (event.TookEmpty (s.done + 1)) s)
-- give: the buffer held longest; with none, nothing
turn_of s now plan.Give = gives (slice_get s.held 0) (record s { held = drop 1 s.held }) (over s) (λ b. put_off (record s { held = b ∷ s.held }))
turn_of s now plan.Skip = rests (over s)
-- bind, connect, close: the note is pushed, and is made anew at the next try; then `Down` is popped until its answer
-- (a note has no buffer; one that came back in its place would be given back)
turn_of s now (plan.Ask n) = pushes (Some (item.Note n)) s (still (record s { asked = true })) (λ i. put_off (record s { taken = packet_in i }))
turn_of s now plan.Await = pops s answered
-- send, burst, blob, raw: a buffer is taken and filled, and pushed; what comes back is kept for the next try
turn_of s now plan.Fill = takes (λ b. still (making (batch s) b s)) (put_off s)
turn_of s now plan.Push = pushes (packet_made s) (record s { made = None }) (pushed_one (nat_lt (s.sent + 1) (batch s).count) s) (λ i. put_off (record s { made = packet_in i; mark = mark_in i }))
-- recv, collect: satisfied at its start it does nothing once; else `Down` is popped until it has its packets, or blobs, or ends without them
turn_of s now (plan.Use slot packets) = rests (satisfied slot packets s)
turn_of s now (plan.Receive slot packets rounds) = pops (timed now s) (λ _ s. received slot packets rounds now s)
-- wait: `Down` is popped until the rounds have passed
turn_of s now (plan.Wait rounds) = pops (timed now s) (λ _ s. waited rounds now s)

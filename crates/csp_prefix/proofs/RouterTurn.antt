-- the turns of a router: what is to be known of its connections holds after each
use Rattle.std.proofs.Common.{◌≡◌, ◌≢◌, ◌⊎◌, ℕ, ◌-◌, ◌<◌, ◌≤◌, ◌==◌, Bool, true, false, cond, nat_le, Option, None, Some, List, [], ◌∷◌, ◌++◌, length, refl, sym, ap, ◌∙◌, subst, arith}
use Rattle.std.specs.Prelude.{is_some, ⊤}
use Rattle.std.specs.List.{AllByRecursion}
use Rattle.std.proofs.lemmas.Bool.{eqb-false, leb-true}
use Rattle.std.proofs.lemmas.List.{append-nil, append_assoc}
use Rattle.csp_base.specs.Seat.{seat}
use Rattle.csp_base.specs.declared.seat.Seat.{Seat}
use Rattle.csp_buffer.specs.Content.{Content}
use Rattle.csp_buffer.specs.PlainBuffer.{PlainBuffer}
use Rattle.csp_base.specs.declared.limits.TheConstants.{SLOTS}
use Rattle.csp_deck.specs.Carried.{IsReply}
use Rattle.csp_log.specs.Moving.{moved_by}
use Rattle.csp_log.specs.Noting.{noted_by}
use Rattle.csp_log.specs.Pictures.{Fits}
use Rattle.csp_log.specs.declared.noted.Noted.TheVariants as noted
use Rattle.csp_log.specs.declared.event.Discard.TheVariants as why
use Rattle.csp_log.specs.declared.event.Event.{Event}
use Rattle.csp_log.specs.declared.event.Event.TheVariants as event
use Rattle.csp_log.specs.declared.note.Note.{Note}
use Rattle.csp_log.specs.declared.note.Note.TheVariants as note
use Rattle.csp_log.specs.declared.places.QueueId.{QueueId}
use Rattle.csp_log.specs.declared.places.QueueId.TheVariants as queue
use Rattle.csp_log.specs.declared.shown.AnswerShown.{AnswerShown}
use Rattle.csp_log.specs.declared.shown.AnswerShown.TheVariants as answer
use Rattle.csp_log.specs.declared.shown.ItemShown.{ItemShown}
use Rattle.csp_log.specs.declared.shown.ItemShown.TheVariants as item
use Rattle.csp_log.specs.declared.shown.OpShown.{OpShown}
use Rattle.csp_log.specs.declared.shown.OpShown.TheVariants as op
use Rattle.csp_ports.specs.Asking.{answered}
use Rattle.csp_ports.specs.Came.{Came}
use Rattle.csp_ports.specs.Kept.{IsOwed}
use Rattle.csp_ports.specs.PlainPorts.{PlainPorts, machine_at, stalls_of, terms_at}
use Rattle.csp_ports.specs.Steps.{timed as ports_timed}
use Rattle.csp_ports.specs.Tasks.{delivered, kept_again, made_in, making, next_task, told_down, turned, without_packet}
use Rattle.csp_ports.specs.declared.owed.Owed.{Owed}
use Rattle.csp_ports.specs.declared.task.Task.{Task}
use Rattle.csp_ports.specs.declared.task.Task.TheVariants as task
use Rattle.csp_rdp.specs.Jobs.{delivery, job_of}
use Rattle.csp_rdp.specs.declared.jobs.Job.{Job}
use Rattle.csp_record.specs.Ordinals.{frees}
use Rattle.csp_record.specs.Payloads.{carried, told_on}
use Rattle.csp_record.specs.declared.payloads.Transfer.TheVariants as way
use Rattle.csp_stack.specs.Counting.{came_in, was_full}
use Rattle.csp_stack.specs.Readings.{buffer_in}
use Rattle.csp_stack.specs.Router.{Facts, Leaving, State, at_rest, router}
use Rattle.csp_stack.specs.Rules.{Arrival, addressed, arrival, heard, made_on, packet_in, sent}
use Rattle.csp_stack.specs.Sources.{circle, has_work, place_with_work, source_at}
use Rattle.csp_stack.specs.Told.{Told, kept}
use Rattle.csp_stack.specs.Turn.{asked_at, until_answer, asks_at, brought, delivering, giving, job_due, kept_back, no_room, first_rule, plan_for, plan_of, pushing, replying, timed, told_at, turn_of, work_at, work_found}
use Rattle.csp_stack.specs.declared.plan.Plan.{Plan}
use Rattle.csp_stack.specs.declared.plan.Plan.TheVariants as plan
use Rattle.csp_stack.specs.declared.sources.Source.TheVariants as source
use Rattle.csp_consistent.proofs.Public.{each_last}
use Rattle.csp_prefix.specs.Delivered.{delivered_by}
use Rattle.csp_prefix.specs.Ports.{AreGood, Answers, with_book, with_down}
use Rattle.csp_prefix.specs.Prefix.{IsBeginning}
use Rattle.csp_prefix.specs.Routers.{ComesSo}
use Rattle.csp_prefix.specs.Slots.{blank}
use Rattle.csp_prefix.proofs.RouterBooks.{Past, one_down, freed_on, no_openings, no_openings_of, ordinals_freed, past_after, past_same, tells_down, tells_freed, with_openings}
use Rattle.csp_prefix.proofs.RouterEntry.{IsQuiet, none_on, quiet_entry, split_entry}
use Rattle.csp_prefix.proofs.RouterHeard.{Quietly, stands_heard, stands_sent}
use Rattle.csp_prefix.proofs.RouterPlans.{IsTask, deliver_job, found_passes, make_job, serves_free, task_there}
use Rattle.csp_prefix.proofs.RouterServed.{stands_served}
use Rattle.csp_prefix.proofs.RouterStanding.{Aim, IsAim, IsOut, IsPart, Stands, good_plain, over_present, stands_came, stands_comes}
use Rattle.csp_prefix.proofs.RouterTells.{events_are, timed_unsent}

-- ---- what is heard, and what is pushed
abbrev pub HearsSo : Aim → OpShown → AnswerShown → Type 0
HearsSo g (op.Pop queue.Inbox) (answer.Popped (item.Packet mark b)) = g.hears b
HearsSo g (op.Pop (queue.Up k)) (answer.Popped i) = g.comes i
HearsSo g _ _ = ⊤

abbrev pub PushedSo : Aim → OpShown → AnswerShown → Type 0
PushedSo g (op.Push queue.Inbox (item.Packet mark b)) answer.Pushed = g.good b
PushedSo g (op.Push (queue.Out k) (item.Packet mark b)) answer.Pushed = g.good b ⊎ g.hears b
PushedSo g _ _ = ⊤

-- ---- parts
beginning_before : {X : Type 0} (xs ys zs : List X) → IsBeginning (xs ++ ys) zs → IsBeginning xs zs
beginning_before xs ys zs b = record { rest = ys ++ b.rest; whole = sym (append_assoc xs ys b.rest) ∙ b.whole }

pub part_before : (o : OpShown) (a : AnswerShown) (es : List Event) (h whole : Past) → IsPart (past_after o a es h) whole → IsPart h whole
part_before o a es h whole p = record { sent = λ seat ordinal. beginning_before (h.sent seat ordinal) _ _ (p.sent seat ordinal); opened = λ app. beginning_before (h.opened app) _ _ (p.opened app) }

-- ---- entries of turns that push or are given
quiet_giving : (trash : List Content) (a : AnswerShown) (es : List Event) → IsQuiet (giving trash) a es
quiet_giving [] a es = record { free = λ a. refl; sent = λ a. refl; down = λ a. refl }
quiet_giving (b ∷ bs) a es = record { free = λ a. refl; sent = λ a. refl; down = λ a. refl }

quiet_take : (a : AnswerShown) (es : List Event) → IsQuiet op.Take a es
quiet_take a es = record { free = λ a. refl; sent = λ a. refl; down = λ a. refl }

quiet_nothing : (a : AnswerShown) (es : List Event) → IsQuiet op.Nothing a es
quiet_nothing a es = record { free = λ a. refl; sent = λ a. refl; down = λ a. refl }

free_full : (q : QueueId) (i j : ItemShown) (seat : Seat) → frees way.Sent seat (noted_by (op.Push q i) (answer.Full j)) ≡ false
free_full q (item.Packet mark b) j seat = refl
free_full q (item.Frame frame) j seat = refl
free_full q (item.Note n) j seat = refl

sent_full : (q : QueueId) (i j : ItemShown) (seat : Seat) (es : List Event) → told_on way.Sent seat.slot es (carried way.Sent seat.app (moved_by (op.Push q i) (answer.Full j))) ≡ []
sent_full q (item.Packet mark b) j seat es = refl
sent_full q (item.Frame frame) j seat es = refl
sent_full q (item.Note n) j seat es = refl

down_full : (q : QueueId) (i j : ItemShown) (seat : Seat) → delivered_by seat (op.Push q i) (answer.Full j) ≡ []
down_full queue.Inbox i j seat = refl
down_full (queue.Up k) i j seat = refl
down_full (queue.Down k) (item.Packet mark b) j seat = refl
down_full (queue.Down k) (item.Frame frame) j seat = refl
down_full (queue.Down k) (item.Note n) j seat = refl
down_full (queue.Out k) i j seat = refl
down_full (queue.Tx k) i j seat = refl
down_full (queue.Rx k) i j seat = refl

quiet_full : (q : QueueId) (i j : ItemShown) (es : List Event) → IsQuiet (op.Push q i) (answer.Full j) es
quiet_full q i j es = record { free = free_full q i j; sent = λ a. sent_full q i j a es; down = down_full q i j }

-- the push of a packet
quiet_pushed : (q : QueueId) (mark : ℕ) (b : Content) (es : List Event) → ((seat : Seat) → delivered_by seat (op.Push q (item.Packet mark b)) answer.Pushed ≡ []) → IsQuiet (op.Push q (item.Packet mark b)) answer.Pushed es
quiet_pushed q mark b es none = record { free = λ a. refl; sent = λ a. refl; down = none }

down_entry : (seat : Seat) (b : Content) (es : List Event) (h : Past) → with_openings es (one_down seat b.payload h) ≡ past_after (op.Push (queue.Down seat.app) (item.Packet seat.slot b)) answer.Pushed es h
down_entry seat b es h =
    past_same (with_openings es (one_down seat b.payload h)) (past_after (op.Push (queue.Down seat.app) (item.Packet seat.slot b)) answer.Pushed es h)
    (λ a. refl) (λ a o. sym (append-nil _) ∙ ap (λ xs. h.sent a o ++ xs) (none_on (h.ends a == o) [] refl)) (λ a o. refl) (λ a. refl) refl

-- the push of an answer
quiet_answer : (app : ℕ) (n : Note) → ((a : Seat) → frees way.Sent a (noted.Pushed (queue.Down app) n) ≡ false) → IsQuiet (op.Push (queue.Down app) (item.Note n)) answer.Pushed []
quiet_answer app n none = record { free = none; sent = λ a. refl; down = λ a. refl }

freed_entry : (seat : Seat) (h : Past) → freed_on seat h ≡ past_after (op.Push (queue.Down seat.app) (item.Note (note.Closed seat.slot))) answer.Pushed [] h
freed_entry seat h =
    past_same (freed_on seat h) (past_after (op.Push (queue.Down seat.app) (item.Note (note.Closed seat.slot))) answer.Pushed [] h)
    (λ a. sym (append-nil _)) (λ a o. sym (append-nil _) ∙ ap (λ xs. h.sent a o ++ xs) (none_on (h.ends a == o) [] refl))
    (λ a o. sym (append-nil _) ∙ ap (λ xs. h.down a o ++ xs) (none_on (h.ends a == o) [] refl)) (λ a. refl) refl

module _ (g : Aim) (f : Facts) (whole : Past) (k : IsAim g f whole) where
  abbrev after_told : State → ℕ → Plan → AnswerShown → Told
  after_told s time p a = (turn_of f (at_rest (until_answer f s time p)) time p).told a

  abbrev Turns : Past → State → ℕ → Plan → AnswerShown → Type 0
  Turns h s time p a = Fits (turn_of f s time p).asks a → ComesSo (turn_of f s time p).asks a → HearsSo g (turn_of f s time p).asks a → IsPart (past_after (turn_of f s time p).asks a (after_told s time p a).events h) whole → AllByRecursion g.fresh (after_told s time p a).events
      → Stands g f (past_after (turn_of f s time p).asks a (after_told s time p a).events h) (after_told s time p a).state.ports (after_told s time p a).state.out × PushedSo g (turn_of f s time p).asks a

  unmoved : (o : OpShown) (a : AnswerShown) (h : Past) (p : PlainPorts) (leaves : Option Leaving) → IsQuiet o a [] → Stands g f h p leaves → Stands g f (past_after o a [] h) p leaves
  unmoved o a h p leaves q w = subst (λ x. Stands g f x p leaves) (no_openings h ∙ quiet_entry o a [] h q) w

  quietly : (o : OpShown) (a : AnswerShown) (h : Past) (t : Told) → IsQuiet o a t.events → Quietly g f whole k h t → AllByRecursion g.fresh t.events → Stands g f (past_after o a t.events h) t.state.ports t.state.out
  quietly o a h t q w fresh = subst (λ x. Stands g f x t.state.ports t.state.out) (quiet_entry o a t.events h q) (w fresh)

  -- ---- no work, and the trash
  turn_rest : (h : Past) (s : State) (time : ℕ) (a : AnswerShown) → Stands g f h s.ports s.out → Turns h s time plan.Rest a
  turn_rest h s time answer.Nothing w = λ fits comes hears part fresh. (unmoved op.Nothing answer.Nothing h s.ports s.out (quiet_nothing answer.Nothing []) w, tt)
  turn_rest h s time a w = λ fits comes hears part fresh. absurd fits

  pushed_giving : (trash : List Content) (a : AnswerShown) → PushedSo g (giving trash) a
  pushed_giving [] a = tt
  pushed_giving (b ∷ bs) a = tt

  told_giving_same : (o : Option Content) (s : State) (h : Past) (x : OpShown) (a : AnswerShown) → ((es : List Event) → IsQuiet x a es) → Stands g f h s.ports s.out
      → Stands g f (past_after x a (brought s (kept s) o).events h) (brought s (kept s) o).state.ports (brought s (kept s) o).state.out
  told_giving_same None s h x a q w = unmoved x a h s.ports s.out (q []) w
  told_giving_same (Some b) s h x a q w = unmoved x a h s.ports s.out (q []) w

  turn_give : (h : Past) (s : State) (time : ℕ) (a : AnswerShown) → Stands g f h s.ports s.out → Turns h s time plan.Give a
  turn_give h s time a w = λ fits comes hears part fresh. (told_giving_same (buffer_in a) (at_rest (until_answer f s time plan.Give)) h (giving s.trash) a (quiet_giving s.trash a) w, pushed_giving s.trash a)

  -- ---- a packet that is to go out
  no_out : (h : Past) (p : PlainPorts) (o : Option Leaving) → Stands g f h p o → Stands g f h p None
  no_out h p o w = record { numbering = w.numbering; books = w.books; good = w.good; tells = w.tells; apps = w.apps; out = tt }

  push_so : (q : QueueId) (mark : ℕ) (b : Content) (h : Past) (p : PlainPorts) (w : Stands g f h p (Some (record { queue = q; mark = mark; buffer = b })))
      → Stands g f (past_after (op.Push q (item.Packet mark b)) answer.Pushed [] h) p None × PushedSo g (op.Push q (item.Packet mark b)) answer.Pushed
  push_so queue.Inbox mark b h p w = (unmoved (op.Push queue.Inbox (item.Packet mark b)) answer.Pushed h p None (quiet_pushed queue.Inbox mark b [] (λ a. refl)) (no_out h p _ w), w.out)
  push_so (queue.Out x) mark b h p w = (unmoved (op.Push (queue.Out x) (item.Packet mark b)) answer.Pushed h p None (quiet_pushed (queue.Out x) mark b [] (λ a. refl)) (no_out h p _ w), w.out)
  push_so (queue.Up x) mark b h p w = (unmoved (op.Push (queue.Up x) (item.Packet mark b)) answer.Pushed h p None (quiet_pushed (queue.Up x) mark b [] (λ a. refl)) (no_out h p _ w), tt)
  push_so (queue.Tx x) mark b h p w = (unmoved (op.Push (queue.Tx x) (item.Packet mark b)) answer.Pushed h p None (quiet_pushed (queue.Tx x) mark b [] (λ a. refl)) (no_out h p _ w), tt)
  push_so (queue.Rx x) mark b h p w = (unmoved (op.Push (queue.Rx x) (item.Packet mark b)) answer.Pushed h p None (quiet_pushed (queue.Rx x) mark b [] (λ a. refl)) (no_out h p _ w), tt)
  push_so (queue.Down app) mark b h p w = (
    subst (λ x. Stands g f x p None) (no_openings (one_down (seat app mark) b.payload h) ∙ down_entry (seat app mark) b [] h) (record {
      numbering = w.numbering;
      books = with_down (seat app mark) b.payload w.books;
      good = good_plain g f whole k w.numbering h.ends w.books p (seat app mark) (record (w.books (seat app mark)) { down = (w.books (seat app mark)).down ++ b.payload ∷ [] }) w.out.2 refl w.good;
      tells = tells_down g.over f.apps w.numbering h w.books (seat app mark) b.payload w.tells;
      apps = w.apps;
      out = tt;
    }),
    tt,
  )

  pushed_full : (q : QueueId) (i j : ItemShown) → PushedSo g (op.Push q i) (answer.Full j)
  pushed_full queue.Inbox (item.Packet mark b) j = tt
  pushed_full (queue.Out x) (item.Packet mark b) j = tt
  pushed_full (queue.Up x) i j = tt
  pushed_full (queue.Down x) i j = tt
  pushed_full (queue.Tx x) i j = tt
  pushed_full (queue.Rx x) i j = tt
  pushed_full queue.Inbox (item.Frame frame) j = tt
  pushed_full (queue.Out x) (item.Frame frame) j = tt
  pushed_full queue.Inbox (item.Note n) j = tt
  pushed_full (queue.Out x) (item.Note n) j = tt

  -- what a full queue hands back changes nothing but the trash
  back_so : (q : QueueId) (i j : ItemShown) (o : Option Arrival) (h : Past) (s : State) → Stands g f h s.ports s.out
      → Stands g f (past_after (op.Push q i) (answer.Full j) (no_room s o).events h) (no_room s o).state.ports (no_room s o).state.out
  back_so q i j None h s w = unmoved (op.Push q i) (answer.Full j) h s.ports s.out (quiet_full q i j []) w
  back_so q i j (Some p) h s w =
      subst (λ x. Stands g f x s.ports s.out) (quiet_entry (op.Push q i) (answer.Full j) (event.Discarded why.Full ∷ []) h (quiet_full q i j (event.Discarded why.Full ∷ [])))
      (subst (λ x. Stands g f x s.ports s.out) (sym (no_openings_of h (event.Discarded why.Full) (λ app ends. refl))) w)

  sending_so : (o : Leaving) (h : Past) (s : State) (time : ℕ) (a : AnswerShown) → Stands g f h s.ports (Some o) → Fits (op.Push o.queue (item.Packet o.mark o.buffer)) a
      → Stands g f (past_after (op.Push o.queue (item.Packet o.mark o.buffer)) a (after_told s time (plan.Push o.queue (length o.buffer.payload)) a).events h) (after_told s time (plan.Push o.queue (length o.buffer.payload)) a).state.ports
      (after_told s time (plan.Push o.queue (length o.buffer.payload)) a).state.out × PushedSo g (op.Push o.queue (item.Packet o.mark o.buffer)) a
  sending_so o h s time answer.Pushed w fits = push_so o.queue o.mark o.buffer h s.ports w
  sending_so o h s time (answer.Full i) w fits =
      (back_so o.queue (item.Packet o.mark o.buffer) i (packet_in (Some i)) h (was_full (at_rest (until_answer f s time (plan.Push o.queue (length o.buffer.payload)))) o.queue) (no_out h s.ports _ w), pushed_full o.queue (item.Packet o.mark o.buffer) i)
  sending_so o h s time a w fits = absurd fits

  turn_push : (o : Leaving) (h : Past) (s : State) (time : ℕ) (a : AnswerShown) → s.out ≡ Some o → Stands g f h s.ports s.out → Turns h s time (plan.Push o.queue (length o.buffer.payload)) a
  turn_push o h s time a e w =
      let p : Plan = plan.Push o.queue (length o.buffer.payload) in
      subst (λ x. Fits (pushing x) a → ComesSo (pushing x) a → HearsSo g (pushing x) a → IsPart (past_after (pushing x) a (after_told s time p a).events h) whole → AllByRecursion g.fresh (after_told s time p a).events
      → Stands g f (past_after (pushing x) a (after_told s time p a).events h) (after_told s time p a).state.ports (after_told s time p a).state.out × PushedSo g (pushing x) a) (sym e)
      (λ fits comes hears part fresh. sending_so o h s time a (subst (Stands g f h s.ports) e w) fits)

  -- ---- a packet of the inbox
  turn_hear : (h : Past) (s : State) (time : ℕ) (a : AnswerShown) → Stands g f h s.ports s.out → Turns h s time plan.Hear a
  turn_hear h s time (answer.Popped (item.Packet mark b)) w = λ fits comes hears part fresh.
      let t = heard f (came_in (at_rest (until_answer f s time plan.Hear)) mark b) time (arrival mark b) in (
        quietly (op.Pop queue.Inbox) (answer.Popped (item.Packet mark b)) h t (record { free = λ a. refl; sent = λ a. refl; down = λ a. refl })
            (stands_heard g f whole k h (came_in (at_rest (until_answer f s time plan.Hear)) mark b) time mark b hears w) fresh,
        tt,
      )
  turn_hear h s time (answer.Popped (item.Frame frame)) w = λ fits comes hears part fresh.
      (unmoved (op.Pop queue.Inbox) (answer.Popped (item.Frame frame)) h s.ports s.out (record { free = λ a. refl; sent = λ a. refl; down = λ a. refl }) w, tt)
  turn_hear h s time (answer.Popped (item.Note n)) w = λ fits comes hears part fresh.
      (unmoved (op.Pop queue.Inbox) (answer.Popped (item.Note n)) h s.ports s.out (record { free = λ a. refl; sent = λ a. refl; down = λ a. refl }) w, tt)
  turn_hear h s time answer.Empty w = λ fits comes hears part fresh. (unmoved (op.Pop queue.Inbox) answer.Empty h s.ports s.out (record { free = λ a. refl; sent = λ a. refl; down = λ a. refl }) w, tt)
  turn_hear h s time a w = λ fits comes hears part fresh. absurd fits

  -- ---- an item of an application
  turn_serve : (app : ℕ) (h : Past) (s : State) (time : ℕ) (a : AnswerShown) → app < f.apps → stalls_of app s.ports.slots ≡ 0 → s.out ≡ None → Stands g f h s.ports s.out → Turns h s time (plan.Serve app) a
  turn_serve app h s time (answer.Popped i) few free empty w = λ fits comes hears part fresh.
      (stands_served g f whole k i h (at_rest (until_answer f s time (plan.Serve app))) app time (subst (λ n. app < n) (sym w.apps) few) comes.0 comes.1 hears free empty w fresh, tt)
  turn_serve app h s time answer.Empty few free empty w = λ fits comes hears part fresh.
      (unmoved (op.Pop (queue.Up app)) answer.Empty h s.ports s.out (record { free = λ a. refl; sent = λ a. refl; down = λ a. refl }) w, tt)
  turn_serve app h s time a few free empty w = λ fits comes hears part fresh. absurd fits

  -- ---- an answer that is owed
  plain_answer : (app : ℕ) (n : Note) (c : Came) (h : Past) (p : PlainPorts) (o : Option Leaving) (w : Stands g f h p o) → ((a : Seat) → frees way.Sent a (noted.Pushed (queue.Down app) n) ≡ false) → c.ports.conns.apps ≡ p.conns.apps
      → AreGood g.is w.numbering h.ends w.books c.ports → Stands g f (past_after (op.Push (queue.Down app) (item.Note n)) answer.Pushed [] h) c.ports o
  plain_answer app n c h p o w none same good =
      unmoved (op.Push (queue.Down app) (item.Note n)) answer.Pushed h c.ports o (quiet_answer app n none) (record { numbering = w.numbering; books = w.books; good = good; tells = w.tells; apps = same ∙ w.apps; out = w.out })

  answered_so : (n : Note) (app : ℕ) (c : Came) (h : Past) (p : PlainPorts) (w : Stands g f h p None) → app < p.conns.apps → IsReply n → Answers g.is w.numbering h.ends w.books p.conns.apps (record { app = app; note = n }) c
      → Stands g f (past_after (op.Push (queue.Down app) (item.Note n)) answer.Pushed [] h) c.ports None
  answered_so (note.Closed slot) app c h p w few reply a =
      let freed : Seat = seat app slot in
      subst (λ x. Stands g f x c.ports None) (freed_entry freed h) (record {
        numbering = w.numbering;
        books = with_book freed blank w.books;
        good = subst (λ o. AreGood g.is w.numbering o (with_book freed blank w.books) c.ports) (ordinals_freed freed h) a.good;
        tells = tells_freed g.over f.apps w.numbering h w.books freed (λ how e. over_present g f whole k h w.numbering w.books p freed how w.good few reply e) w.tells;
        apps = a.same ∙ w.apps;
        out = tt;
      })
  answered_so note.Bound app c h p w few reply a = plain_answer app note.Bound c h p None w (λ a. refl) a.same a.good
  answered_so (note.Connected slot) app c h p w few reply a = plain_answer app (note.Connected slot) c h p None w (λ a. refl) a.same a.good
  answered_so (note.Refused reason) app c h p w few reply a = plain_answer app (note.Refused reason) c h p None w (λ a. refl) a.same a.good
  answered_so (note.Down slot) app c h p w few reply a = plain_answer app (note.Down slot) c h p None w (λ a. refl) a.same a.good
  answered_so (note.Bind port need) app c h p w few reply a = absurd reply
  answered_so (note.Connect slot dest port prio flags from) app c h p w few reply a = absurd reply
  answered_so (note.Close slot) app c h p w few reply a = absurd reply

  pushed_down : (app : ℕ) (i : ItemShown) (a : AnswerShown) → PushedSo g (op.Push (queue.Down app) i) a
  pushed_down app i a = tt

  replying_so : (o : Owed) (rest : List Owed) (h : Past) (s : State) (time : ℕ) (a : AnswerShown) → s.ports.owed ≡ o ∷ rest → s.out ≡ None → Stands g f h s.ports s.out → Fits (op.Push (queue.Down o.app) (item.Note o.note)) a
      → Stands g f (past_after (op.Push (queue.Down o.app) (item.Note o.note)) a (after_told s time (plan.Reply o.app) a).events h) (after_told s time (plan.Reply o.app) a).state.ports (after_told s time (plan.Reply o.app) a).state.out
  replying_so o rest h s time answer.Pushed e empty w fits =
      let v = subst (Stands g f h s.ports) empty w in
      let c : Came = answered s.ports in
      let done = k.ports.answers v.numbering h.ends v.books s.ports o rest e v.good in
      let owed = (subst (AllByRecursion (IsOwed s.ports.conns.apps)) e v.good.owed).0 in
      subst (λ es. Stands g f (past_after (op.Push (queue.Down o.app) (item.Note o.note)) answer.Pushed es h) c.ports s.out) (sym done.quiet)
      (subst (λ x. Stands g f (past_after (op.Push (queue.Down o.app) (item.Note o.note)) answer.Pushed [] h) c.ports x) (sym empty)
      (answered_so o.note o.app c h s.ports v owed.app owed.reply done))
  replying_so o rest h s time (answer.Full i) e empty w fits = back_so (queue.Down o.app) (item.Note o.note) i (packet_in (Some i)) h (at_rest (until_answer f s time (plan.Reply o.app))) w
  replying_so o rest h s time a e empty w fits = absurd fits

  pushed_replying : (owed : List Owed) (a : AnswerShown) → PushedSo g (replying owed) a
  pushed_replying [] a = tt
  pushed_replying (o ∷ os) a = tt

  turn_reply : (o : Owed) (rest : List Owed) (h : Past) (s : State) (time : ℕ) (a : AnswerShown) → s.ports.owed ≡ o ∷ rest → s.out ≡ None → Stands g f h s.ports s.out → Turns h s time (plan.Reply o.app) a
  turn_reply o rest h s time a e empty w =
      let p : Plan = plan.Reply o.app in
      λ fits comes hears part fresh. (
        subst (λ x. Fits (replying x) a → Stands g f (past_after (replying x) a (after_told s time p a).events h) (after_told s time p a).state.ports (after_told s time p a).state.out) (sym e)
            (replying_so o rest h s time a e empty w) fits,
        pushed_replying s.ports.owed a,
      )

  -- ---- a Down note
  turned_stands : (seat : Seat) (h : Past) (p : PlainPorts) (o : Option Leaving) → Stands g f h p o → Stands g f h (turned seat p) o
  turned_stands seat h p o w = record { numbering = w.numbering; books = w.books; good = k.ports.turns w.numbering h.ends w.books p seat w.good; tells = w.tells; apps = w.apps; out = w.out }

  turn_tell : (seat : Seat) (h : Past) (s : State) (time : ℕ) (a : AnswerShown) → Stands g f h s.ports s.out → Turns h s time (plan.Tell seat) a
  turn_tell seat h s time answer.Pushed w = λ fits comes hears part fresh.
      let v = turned_stands seat h s.ports s.out w in (
        unmoved (op.Push (queue.Down seat.app) (item.Note (note.Down seat.slot))) answer.Pushed h (told_down seat (turned seat s.ports)) s.out (quiet_answer seat.app (note.Down seat.slot) (λ a. refl))
            (record { numbering = v.numbering; books = v.books; good = k.ports.tells v.numbering h.ends v.books (turned seat s.ports) seat v.good; tells = v.tells; apps = v.apps; out = v.out }),
        tt,
      )
  turn_tell seat h s time (answer.Full i) w = λ fits comes hears part fresh.
      (back_so (queue.Down seat.app) (item.Note (note.Down seat.slot)) i (packet_in (Some i)) h (at_rest (until_answer f s time (plan.Tell seat))) (turned_stands seat h s.ports s.out w), tt)
  turn_tell seat h s time a w = λ fits comes hears part fresh. absurd fits

  -- ---- a packet that is delivered
  delivering_so : (seat : Seat) (b : PlainBuffer) (h : Past) (s : State) (time : ℕ) (a : AnswerShown) → seat.app < s.ports.conns.apps → seat.slot < SLOTS → delivery (machine_at s.ports seat) ≡ Some b → s.out ≡ None → Stands g f h s.ports s.out
      → Fits (op.Push (queue.Down seat.app) (item.Packet seat.slot b.picture)) a
      → Stands g f (past_after (op.Push (queue.Down seat.app) (item.Packet seat.slot b.picture)) a (after_told s time (plan.Deliver seat) a).events h) (after_told s time (plan.Deliver seat) a).state.ports (after_told s time (plan.Deliver seat) a).state.out
  delivering_so seat b h s time answer.Pushed few low e empty w fits =
      let v = turned_stands seat h s.ports s.out w in
      let q : PlainPorts = turned seat s.ports in
      let c : Came = delivered time seat (without_packet seat q) in
      let came = k.ports.delivers v.numbering h.ends v.books q seat time b few low e v.good in
      subst (λ x. Stands g f x c.ports s.out) (down_entry seat b.picture c.events h)
      (stands_came g f (one_down seat b.picture.payload h) s.ports.conns.apps s.out v.numbering (with_down seat b.picture.payload v.books) c w.apps (tells_down g.over f.apps v.numbering h v.books seat b.picture.payload v.tells)
      (subst (IsOut g f.apps (with_down seat b.picture.payload v.books)) (sym empty) tt) came)
  delivering_so seat b h s time (answer.Full i) few low e empty w fits =
      let v = turned_stands seat h s.ports s.out w in
      let q : PlainPorts = turned seat s.ports in
      let t : State = at_rest (until_answer f s time (plan.Deliver seat)) in
      subst (λ j. Stands g f (past_after (op.Push (queue.Down seat.app) (item.Packet seat.slot b.picture)) (answer.Full j) (kept_back t seat (packet_in (Some j))).events h) (kept_back t seat (packet_in (Some j))).state.ports (kept_back t seat (packet_in (Some j))).state.out) (sym fits)
      (unmoved (op.Push (queue.Down seat.app) (item.Packet seat.slot b.picture)) (answer.Full (item.Packet seat.slot b.picture)) h (kept_again seat b.picture (without_packet seat q)) s.out (quiet_full (queue.Down seat.app) (item.Packet seat.slot b.picture) (item.Packet seat.slot b.picture) [])
      (record { numbering = v.numbering; books = v.books; good = k.ports.keeps v.numbering h.ends v.books q seat b few low e v.good; tells = v.tells; apps = v.apps; out = v.out }))
  delivering_so seat b h s time a few low e empty w fits = absurd fits

  turn_deliver : (o : Option PlainBuffer) (seat : Seat) (h : Past) (s : State) (time : ℕ) (a : AnswerShown) → seat.app < s.ports.conns.apps → seat.slot < SLOTS → delivery (machine_at s.ports seat) ≡ o → is_some o ≡ true → s.out ≡ None → Stands g f h s.ports s.out
      → Turns h s time (plan.Deliver seat) a
  turn_deliver None seat h s time a few low e some empty w = absurd cc
  turn_deliver (Some b) seat h s time a few low e some empty w =
      let p : Plan = plan.Deliver seat in
      λ fits comes hears part fresh. (
        subst (λ x. Fits (delivering x seat) a → Stands g f (past_after (delivering x seat) a (after_told s time p a).events h) (after_told s time p a).state.ports (after_told s time p a).state.out) (sym e)
            (delivering_so seat b h s time a few low e empty w) fits,
        subst (λ x. PushedSo g (delivering x seat) a) (sym e) tt,
      )

  -- ---- a packet that is made

  -- each machine of the node's slots that owes something is as it is to be
  abbrev pub FoundSo : ℕ → PlainPorts → Type 0
  FoundSo time p = (seat : Seat) (j : Job) → seat.app < f.apps → seat.slot < SLOTS → job_of time (machine_at p seat) ≡ Some j → g.at (machine_at p seat)

  turn_make : (seat : Seat) (j : Job) (h : Past) (s : State) (time : ℕ) (a : AnswerShown) → g.at (machine_at s.ports seat) → seat.app < s.ports.conns.apps → seat.slot < SLOTS → job_of time (machine_at s.ports seat) ≡ Some j → s.out ≡ None → Stands g f h s.ports s.out
      → Turns h s time (plan.Make seat j) a
  turn_make seat j h s time (answer.Taken b) so few low e empty w = λ fits comes hears part fresh.
      let v = turned_stands seat h s.ports s.out w in
      let q : PlainPorts = turned seat s.ports in
      let t : State = at_rest (until_answer f s time (plan.Make seat j)) in
      let known = k.ports.owes v.numbering h.ends v.books q seat time j few low e v.good in
      let x : Content = addressed f known.0.connection (terms_at q seat) (made_in j time seat b q) in
      let good : g.good x = k.makes h v.numbering v.books q seat time j b known.0.connection (part_before op.Take (answer.Taken b) (after_told s time (plan.Make seat j) (answer.Taken b)).events h whole part) v.tells (v.good.counted seat few low) known.0.there known.1 so e in
      let u : Stands g f h (making j time seat q) s.out = record { numbering = v.numbering; books = v.books; good = k.ports.makes v.numbering h.ends v.books q seat time j few low e v.good; tells = v.tells; apps = v.apps; out = v.out } in
      let done = stands_sent g f whole k h (record t { ports = making j time seat q }) x u good in (
        subst (λ o. AllByRecursion g.fresh (made_on o (seat, j) (router f t) time b).events → Stands g f (past_after op.Take (answer.Taken b) (made_on o (seat, j) (router f t) time b).events h) (made_on o (seat, j) (router f t) time b).state.ports (made_on o (seat, j) (router f t) time b).state.out)
            (sym known.0.there) (quietly op.Take (answer.Taken b) h (sent f (record t { ports = making j time seat q }) x) (quiet_take (answer.Taken b) (sent f (record t { ports = making j time seat q }) x).events) done) fresh,
        tt,
      )
  turn_make seat j h s time answer.NoBuffer so few low e empty w = λ fits comes hears part fresh.
      (unmoved op.Take answer.NoBuffer h (turned seat s.ports) s.out (quiet_take answer.NoBuffer []) (turned_stands seat h s.ports s.out w), tt)
  turn_make seat j h s time a so few low e empty w = λ fits comes hears part fresh. absurd fits

  -- ---- the jobs, by which is owed
  turn_task : (x : Task) (seat : Seat) (h : Past) (s : State) (time : ℕ) (a : AnswerShown) → FoundSo time s.ports → IsTask time s.ports (seat, x) → s.out ≡ None → Stands g f h s.ports s.out → Turns h s time (plan_for seat x) a
  turn_task task.Tell seat h s time a so is empty w = turn_tell seat h s time a w
  turn_task task.Deliver seat h s time a so is empty w = turn_deliver (delivery (machine_at s.ports seat)) seat h s time a is.app_there is.slot_there refl (deliver_job time s.ports seat is.is_task) empty w
  turn_task (task.Make j) seat h s time a so is empty w = turn_make seat j h s time a (so seat j (subst (λ n. seat.app < n) w.apps is.app_there) is.slot_there (make_job time s.ports seat j is.is_task)) is.app_there is.slot_there (make_job time s.ports seat j is.is_task) empty w

  turn_jobs : (owed : List Owed) (o : Option (Seat × Task)) (h : Past) (s : State) (time : ℕ) (a : AnswerShown) → FoundSo time s.ports → s.ports.owed ≡ owed → next_task time s.ports ≡ o → s.out ≡ None → Stands g f h s.ports s.out → Turns h s time (job_due owed o) a
  turn_jobs (o ∷ os) t h s time a so e q empty w = turn_reply o os h s time a e empty w
  turn_jobs [] (Some t) h s time a so e q empty w = turn_task t.1 t.0 h s time a so (task_there time s.ports t q) empty w
  turn_jobs [] None h s time a so e q empty w = turn_rest h s time a w

  -- ---- the work that was found
  turn_source : (first few : Bool) (place : ℕ) (h : Past) (s : State) (time : ℕ) (a : AnswerShown) → FoundSo time s.ports → (place == 0) ≡ first → nat_le place f.apps ≡ few → has_work s time (cond first source.Inbox (cond few (source.App (place - 1)) source.Jobs)) ≡ true
      → s.out ≡ None → Stands g f h s.ports s.out → Turns h s time (work_at s time (cond first source.Inbox (cond few (source.App (place - 1)) source.Jobs))) a
  turn_source true few place h s time a so e q works empty w = turn_hear h s time a w
  turn_source false true place h s time a so e q works empty w =
      let low : place ≤ f.apps = leb-true place f.apps q in
      let more : place ≢ 0 = eqb-false place 0 e in
      turn_serve (place - 1) h s time a (omega (arith, low, more)) (serves_free s time (place - 1) works) empty w
  turn_source false false place h s time a so e q works empty w = turn_jobs s.ports.owed (next_task time s.ports) h s time a so refl refl empty w

  turn_place : (o : Option ℕ) (h : Past) (s : State) (time : ℕ) (a : AnswerShown) → FoundSo time s.ports → place_with_work f s time ≡ o → s.out ≡ None → Stands g f h s.ports s.out → Turns h s time (work_found f s time o) a
  turn_place None h s time a so e empty w = turn_rest h s time a w
  turn_place (Some place) h s time a so e empty w =
      turn_source (place == 0) (nat_le place f.apps) place h s time a so refl refl (found_passes (λ x. has_work s time (source_at f x)) (circle f s.cursor) place e) empty w

  pub turn_plan : (trash : List Content) (o : Option Leaving) (h : Past) (s : State) (time : ℕ) (a : AnswerShown) → FoundSo time s.ports → s.out ≡ o → Stands g f h s.ports s.out → Turns h s time (first_rule trash o (work_found f s time (place_with_work f s time))) a
  turn_plan (b ∷ bs) o h s time a so e w = turn_give h s time a w
  turn_plan [] (Some o) h s time a so e w = turn_push o h s time a e w
  turn_plan [] None h s time a so e w = turn_place (place_with_work f s time) h s time a so refl e w

  -- ---- a whole turn
  -- the router once its timers were tried
  pub stands_timed : (h : Past) (s : State) (time : ℕ) → Stands g f h s.ports s.out → Stands g f (with_openings (ports_timed time s.ports).events h) (timed s time).ports (timed s time).out
  stands_timed h s time w =
      stands_comes g f h s.ports s.out w w.numbering (ports_timed time s.ports) (record { more = omega arith; same = λ n lt. refl }) k.grows (k.ports.times w.numbering h.ends w.books s.ports time w.good)

  -- what the timers told comes first in what the turn adds to the log
  timed_first : (h : Past) (s : State) (time : ℕ) (a : AnswerShown) → Stands g f h s.ports s.out
      → past_after (asks_at f s time) a (after_told (timed s time) time (plan_of f (timed s time) time) a).events (with_openings (ports_timed time s.ports).events h) ≡ past_after (asks_at f s time) a (told_at f (asked_at f s time) time a).events h
  timed_first h s time a w =
      let c : Came = ports_timed time s.ports in
      let t : State = timed s time in
      let p : Plan = plan_of f t time in
      split_entry (turn_of f t time p).asks a c.events (after_told t time p a).events h (timed_unsent time s.ports) ∙ ap (λ es. past_after (turn_of f t time p).asks a es h) (sym (events_are f s time a p refl))

  -- so what stands then is a part of the whole
  pub timed_part : (h : Past) (s : State) (time : ℕ) (a : AnswerShown) → Stands g f h s.ports s.out → IsPart (past_after (asks_at f s time) a (told_at f (asked_at f s time) time a).events h) whole
      → IsPart (with_openings (ports_timed time s.ports).events h) whole
  timed_part h s time a w part =
      part_before (asks_at f s time) a (after_told (timed s time) time (plan_of f (timed s time) time) a).events (with_openings (ports_timed time s.ports).events h) whole (subst (λ x. IsPart x whole) (sym (timed_first h s time a w)) part)

  pub turn_stands : (h : Past) (s : State) (time : ℕ) (a : AnswerShown) → FoundSo time (timed s time).ports → Stands g f h s.ports s.out → Fits (asks_at f s time) a → ComesSo (asks_at f s time) a → HearsSo g (asks_at f s time) a
      → IsPart (past_after (asks_at f s time) a (told_at f (asked_at f s time) time a).events h) whole → AllByRecursion g.fresh (told_at f (asked_at f s time) time a).events
      → Stands g f (past_after (asks_at f s time) a (told_at f (asked_at f s time) time a).events h) (told_at f (asked_at f s time) time a).state.ports (told_at f (asked_at f s time) time a).state.out × PushedSo g (asks_at f s time) a
  turn_stands h s time a so w fits comes hears part fresh =
      let c : Came = ports_timed time s.ports in
      let t : State = timed s time in
      let told : Told = after_told t time (plan_of f t time) a in
      let same = timed_first h s time a w in
      let done = turn_plan t.trash t.out (with_openings c.events h) t time a so refl (stands_timed h s time w) fits comes hears (subst (λ x. IsPart x whole) (sym same) part) (each_last g.fresh c.events told.events (subst (AllByRecursion g.fresh) (events_are f s time a (plan_of f t time) refl) fresh)) in
      (subst (λ x. Stands g f x told.state.ports told.state.out) same done.0, done.1)

-- what holds of an application's fields at every time
use Rattle.std.specs.Prelude.{◌≡◌, ℕ, ◌+◌, ◌^◌, ◌<◌, ◌≤◌, Bool, true, false, Some, None, List, length, drop, count_by, All, IfSome, ⊤, slice_get}
use Rattle.csp_app.specs.PlainApp.{PlainApp, AppAt}
use Rattle.csp_app.specs.Slots.{slot_at}
use Rattle.csp_app.specs.declared.app.App.TheInside.{Inside}
use Rattle.csp_app.specs.declared.plan.AppPlan.{AppPlan}
use Rattle.csp_app.specs.declared.plan.AppPlan.TheVariants as plan
use Rattle.csp_app.specs.PlainStep.{PlainStep}
use Rattle.csp_app.specs.PlainStep as step
use Rattle.csp_base.specs.declared.limits.TheConstants.{MAX_PAYLOAD, SLOTS}
use Rattle.csp_log.specs.declared.places.TheConstants.{MAX_DATA}
use Rattle.csp_log.specs.declared.shown.ItemShown.TheVariants as item
use Rattle.csp_deck.specs.Carried.{IsUpItem}
use Rattle.csp_sfp.specs.declared.pieces.TheConstants.{MAX_SIZE}
use Rattle.csp_sfp.specs.declared.trailer.TheConstants.{MAX_BLOB}

-- an application's fields as contracts see them
abbrev pub plain_app : Inside → PlainApp
plain_app a = record {
  number = a.number;
  steps = a.script;
  done = a.progress.done;
  since = a.progress.since;
  asked = a.progress.asked;
  sent = a.progress.sent;
  refused = a.refused;
  taken = a.taken.content;
  made = a.made.content;
  mark = a.mark;
  held = a.held.contents;
  slots = a.slots;
  collectors = a.collectors;
  doing = a.doing;
}

-- with the region of its buffers
abbrev pub app_at : Inside → AppAt
app_at a = record { region = a.taken.region; app = plain_app a }

-- a step on slots that there are, whose packets for a slot have bytes, and no packet more than there may be
abbrev pub IsStep : PlainStep → Type 0
IsStep step.Take = ⊤
IsStep step.Give = ⊤
IsStep (step.Bind _ _) = ⊤
IsStep (step.Connect slot _ _ _ _ _) = slot < SLOTS
IsStep (step.Send slot bytes) = (slot < SLOTS) × (1 ≤ length bytes) × (length bytes ≤ MAX_DATA)
IsStep (step.Burst slot count len) = (slot < SLOTS) × (1 ≤ count) × (1 ≤ len) × (len ≤ MAX_DATA)
IsStep (step.Blob slot len size) = (slot < SLOTS) × (1 ≤ len) × (len ≤ MAX_BLOB) × (1 ≤ size) × (size ≤ MAX_SIZE)
IsStep (step.Raw _ bytes) = length bytes ≤ MAX_PAYLOAD
IsStep (step.Recv slot _ _) = slot < SLOTS
IsStep (step.Collect slot _ _) = slot < SLOTS
IsStep (step.Close slot) = slot < SLOTS
IsStep (step.Wait _) = ⊤

-- it takes a buffer to hold
abbrev pub is_take : PlainStep → Bool
is_take step.Take = true
is_take step.Give = false
is_take (step.Bind _ _) = false
is_take (step.Connect _ _ _ _ _ _) = false
is_take (step.Send _ _) = false
is_take (step.Burst _ _ _) = false
is_take (step.Blob _ _ _) = false
is_take (step.Raw _ _) = false
is_take (step.Recv _ _ _) = false
is_take (step.Collect _ _ _) = false
is_take (step.Close _) = false
is_take (step.Wait _) = false

-- how many such steps a script has
abbrev pub take_steps : List PlainStep → ℕ
take_steps steps = count_by is_take steps

-- a held buffer that was handed over, and may come back
abbrev pub lent : AppPlan → ℕ
lent plan.Rest = 0
lent plan.Return = 0
lent plan.Look = 0
lent plan.Take = 0
lent plan.Give = 1
lent plan.Skip = 0
lent (plan.Ask _) = 0
lent plan.Await = 0
lent plan.Fill = 0
lent plan.Push = 0
lent (plan.Use _ _) = 0
lent (plan.Receive _ _ _) = 0
lent (plan.Wait _) = 0

-- there is a present step
abbrev pub GoesOn : PlainApp → Type 0
GoesOn s = s.done < length s.steps

-- what each answer that may come finds: an empty place for its buffer, and a step that it ends
abbrev pub CanHear : PlainApp → AppPlan → Type 0
CanHear s plan.Rest = ⊤
CanHear s plan.Return = s.taken ≡ None
CanHear s plan.Look = s.taken ≡ None
CanHear s plan.Take = slice_get s.steps s.done ≡ Some step.Take
CanHear s plan.Give = GoesOn s
CanHear s plan.Skip = GoesOn s
CanHear s (plan.Ask _) = s.taken ≡ None
CanHear s plan.Await = GoesOn s × (s.taken ≡ None)
CanHear s plan.Fill = GoesOn s × (s.made ≡ None)
CanHear s plan.Push = GoesOn s × (s.made ≡ None)
CanHear s (plan.Use slot packets) = GoesOn s × (slot < SLOTS) × (packets ≤ (slot_at s.slots slot).unused)
CanHear s (plan.Receive slot _ _) = GoesOn s × (s.taken ≡ None) × (slot < SLOTS)
CanHear s (plan.Wait _) = GoesOn s × (s.taken ≡ None)

-- what a look after a pop finds: a step that it ends
abbrev pub CanLook : PlainApp → AppPlan → Type 0
CanLook s plan.Rest = ⊥
CanLook s plan.Return = ⊥
CanLook s plan.Look = ⊤
CanLook s plan.Take = ⊥
CanLook s plan.Give = ⊥
CanLook s plan.Skip = ⊥
CanLook s (plan.Ask _) = ⊥
CanLook s plan.Await = GoesOn s
CanLook s plan.Fill = ⊥
CanLook s plan.Push = ⊥
CanLook s (plan.Use _ _) = ⊥
CanLook s (plan.Receive slot _ _) = GoesOn s × (slot < SLOTS)
CanLook s (plan.Wait _) = GoesOn s

-- what an application's fields keep at every time
pub record IsReady (a : Inside) : Type 0 where
  -- steps are numbered in 32 bits, and name slots that there are
  pub few : length a.script + 1 < 2 ^ 32
  pub steps : All IsStep a.script
  pub done : a.progress.done ≤ length a.script
  -- there is room for each buffer that comes back or that a `take` to come brings
  pub room : length a.held.contents + lent a.doing + take_steps (drop a.progress.done a.script) ≤ a.held.room
  pub hears : CanHear (plain_app a) a.doing
  -- the packet that was made is one that `Up` carries
  pub made : IfSome a.made.content (λ b. IsUpItem (item.Packet a.mark b))
  -- all its buffers are of one region
  pub made_of_it : a.made.region ≡ a.taken.region
  pub held_of_it : a.held.region ≡ a.taken.region

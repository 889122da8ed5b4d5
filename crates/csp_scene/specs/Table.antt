-- The line forms of the scenario language, a row each.
use Rattle.std.specs.Prelude.{ℕ, Bool, true, false, not, List, [], ◌∷◌, ◌++◌, codes}
use Rattle.csp_base.specs.declared.ports.TheConstants.{FIRST_OWN_PORT}
use Rattle.csp_scene.specs.declared.limits.TheConstants.{MAX_UNTIL, MAX_SHUFFLE, MAX_ADDR, MIN_BUFFERS, MAX_SEED, MIN_INBOX, MAX_INBOX, LAST_FRAME, MAX_COPIES, MAX_DELAY, MAX_FLIP, MAX_SLOT, MAX_PORT, MAX_DEST, MAX_PRIO, MAX_COUNT, MAX_ROUNDS, MAX_SEND, MAX_RAW, MAX_OPTION, MIN_MTU, MAX_MTU}
use Rattle.csp_base.specs.declared.limits.TheConstants.{MAX_BUFFERS}
use Rattle.csp_rdp_header.specs.declared.options.TheConstants.{MAX_WINDOW}
use Rattle.csp_sfp.specs.declared.pieces.TheConstants.{MAX_SIZE}
use Rattle.csp_sfp.specs.declared.trailer.TheConstants.{MAX_BLOB}
use Rattle.csp_scene.specs.declared.table.Form.{Form}
use Rattle.csp_scene.specs.declared.table.Form.TheVariants as form
use Rattle.csp_scene.specs.declared.table.Keyword.{Keyword}
use Rattle.csp_scene.specs.declared.table.Keyword.TheVariants as keyword
use Rattle.csp_scene.specs.declared.table.Part.{Part}
use Rattle.csp_scene.specs.declared.table.Part.TheVariants.{Fixed, Either, Name, Number, Word, Bytes, Moves, Text, Nodes}
use Rattle.csp_scene.specs.declared.table.Group.{Group}
use Rattle.csp_scene.specs.declared.table.Group.TheVariants.{Flag, Setting}

-- the fixed words that stand after the first
abbrev pub keyword_text : Keyword → List ℕ
keyword_text keyword.Buffers = codes "buffers"
keyword_text keyword.Seed = codes "seed"
keyword_text keyword.Inbox = codes "inbox"
keyword_text keyword.For = codes "for"
keyword_text keyword.Rounds = codes "rounds"
keyword_text keyword.Shuffle = codes "shuffle"
keyword_text keyword.Steps = codes "steps"
keyword_text keyword.Kiss = codes "kiss"
keyword_text keyword.Can = codes "can"
keyword_text keyword.Header = codes "header"
keyword_text keyword.Mtu = codes "mtu"
keyword_text keyword.Ab = codes "ab"
keyword_text keyword.Ba = codes "ba"
keyword_text keyword.Lose = codes "lose"
keyword_text keyword.Repeat = codes "repeat"
keyword_text keyword.Delay = codes "delay"
keyword_text keyword.Flip = codes "flip"
keyword_text keyword.Prio = codes "prio"
keyword_text keyword.Crc = codes "crc"
keyword_text keyword.Rdp = codes "rdp"
keyword_text keyword.Frag = codes "frag"
keyword_text keyword.From = codes "from"

-- the first word of a form's lines
abbrev pub first_word : Form → List ℕ
first_word form.Until = codes "until"
first_word form.Rounds = codes "schedule"
first_word form.Shuffle = codes "schedule"
first_word form.Moves = codes "schedule"
first_word form.Node = codes "node"
first_word form.Bridge = codes "bridge"
first_word form.Rdp = codes "rdp"
first_word form.KissLink = codes "link"
first_word form.CanLink = codes "link"
first_word form.Hub = codes "hub"
first_word form.Route = codes "route"
first_word form.Lose = codes "fault"
first_word form.Repeat = codes "fault"
first_word form.Delay = codes "fault"
first_word form.Flip = codes "fault"
first_word form.HubLose = codes "fault"
first_word form.HubRepeat = codes "fault"
first_word form.HubDelay = codes "fault"
first_word form.HubFlip = codes "fault"
first_word form.App = codes "app"
first_word form.Take = codes "take"
first_word form.Give = codes "give"
first_word form.Bind = codes "bind"
first_word form.Connect = codes "connect"
first_word form.Send = codes "send"
first_word form.Burst = codes "burst"
first_word form.Blob = codes "blob"
first_word form.Raw = codes "raw"
first_word form.Recv = codes "recv"
first_word form.Collect = codes "collect"
first_word form.Close = codes "close"
first_word form.Wait = codes "wait"

-- a fault's line: a link, a direction, the number of a frame, and what happens to it
abbrev pub fault_of : Keyword → List Part → List Part
fault_of what more = Name ∷ Either keyword.Ab keyword.Ba ∷ Number 1 LAST_FRAME ∷ Fixed what ∷ more

-- that of a hub: the hub, the node from whose end the frame comes, the number of the frame, and what happens to it
abbrev pub hub_fault_of : Keyword → List Part → List Part
hub_fault_of what more = Name ∷ Name ∷ Number 1 LAST_FRAME ∷ Fixed what ∷ more

-- what stands after the first word in each of the form's lines
abbrev pub fixed_of : Form → List Part
fixed_of form.Until = Number 1 MAX_UNTIL ∷ []
fixed_of form.Rounds = Fixed keyword.Rounds ∷ []
fixed_of form.Shuffle = Fixed keyword.Shuffle ∷ Number 0 MAX_SHUFFLE ∷ []
fixed_of form.Moves = Fixed keyword.Steps ∷ Moves ∷ []
fixed_of form.Node = Name ∷ Number 0 MAX_ADDR ∷ Fixed keyword.Buffers ∷ Number MIN_BUFFERS MAX_BUFFERS ∷ []
fixed_of form.Bridge = Name ∷ Fixed keyword.Buffers ∷ Number MIN_BUFFERS MAX_BUFFERS ∷ []
fixed_of form.Rdp =
    Name ∷ Number 1 MAX_WINDOW ∷ Number 1 MAX_OPTION ∷ Number 1 MAX_OPTION ∷ Number 0 MAX_OPTION ∷ Number 0 MAX_OPTION ∷ Number 0 MAX_OPTION ∷ []
fixed_of form.KissLink = Name ∷ Fixed keyword.Kiss ∷ Name ∷ Name ∷ []
fixed_of form.CanLink = Name ∷ Fixed keyword.Can ∷ Name ∷ Name ∷ []
fixed_of form.Hub = Name ∷ Name ∷ Nodes ∷ []
fixed_of form.Route = Name ∷ Text ∷ []
fixed_of form.Lose = fault_of keyword.Lose []
fixed_of form.Repeat = fault_of keyword.Repeat (Number 1 MAX_COPIES ∷ [])
fixed_of form.Delay = fault_of keyword.Delay (Number 1 MAX_DELAY ∷ [])
fixed_of form.Flip = fault_of keyword.Flip (Number 0 MAX_FLIP ∷ [])
fixed_of form.HubLose = hub_fault_of keyword.Lose []
fixed_of form.HubRepeat = hub_fault_of keyword.Repeat (Number 1 MAX_COPIES ∷ [])
fixed_of form.HubDelay = hub_fault_of keyword.Delay (Number 1 MAX_DELAY ∷ [])
fixed_of form.HubFlip = hub_fault_of keyword.Flip (Number 0 MAX_FLIP ∷ [])
fixed_of form.App = Name ∷ Name ∷ []
fixed_of form.Take = []
fixed_of form.Give = []
fixed_of form.Bind = Number 0 MAX_PORT ∷ []
fixed_of form.Connect = Number 0 MAX_SLOT ∷ Number 0 MAX_DEST ∷ Number 0 MAX_PORT ∷ []
fixed_of form.Send = Number 0 MAX_SLOT ∷ Bytes 1 MAX_SEND ∷ []
fixed_of form.Burst = Number 0 MAX_SLOT ∷ Number 1 MAX_COUNT ∷ Number 1 MAX_SEND ∷ []
fixed_of form.Blob = Number 0 MAX_SLOT ∷ Number 1 MAX_BLOB ∷ Number 1 MAX_SIZE ∷ []
fixed_of form.Raw = Word ∷ Bytes 0 MAX_RAW ∷ []
fixed_of form.Recv = Number 0 MAX_SLOT ∷ Number 1 MAX_COUNT ∷ []
fixed_of form.Collect = Number 0 MAX_SLOT ∷ Number 1 MAX_COUNT ∷ []
fixed_of form.Close = Number 0 MAX_SLOT ∷ []
fixed_of form.Wait = Number 1 MAX_ROUNDS ∷ []

-- what may follow, in this order, each there or not
abbrev pub optional_of : Form → List Group
optional_of form.Until = []
optional_of form.Rounds = []
optional_of form.Shuffle = []
optional_of form.Moves = []
optional_of form.Node = Setting keyword.Seed 0 MAX_SEED ∷ Setting keyword.Inbox MIN_INBOX MAX_INBOX ∷ []
optional_of form.Bridge = Setting keyword.Inbox MIN_INBOX MAX_INBOX ∷ []
optional_of form.Rdp = []
optional_of form.KissLink = Flag keyword.Header ∷ Setting keyword.Mtu MIN_MTU MAX_MTU ∷ []
optional_of form.CanLink = Setting keyword.Mtu MIN_MTU MAX_MTU ∷ []
optional_of form.Hub = []
optional_of form.Route = []
optional_of form.Lose = []
optional_of form.Repeat = []
optional_of form.Delay = []
optional_of form.Flip = []
optional_of form.HubLose = []
optional_of form.HubRepeat = []
optional_of form.HubDelay = []
optional_of form.HubFlip = []
optional_of form.App = []
optional_of form.Take = []
optional_of form.Give = []
optional_of form.Bind = Flag keyword.Crc ∷ Flag keyword.Rdp ∷ []
optional_of form.Connect = Setting keyword.Prio 0 MAX_PRIO ∷ Flag keyword.Crc ∷ Flag keyword.Rdp ∷ Flag keyword.Frag ∷ Setting keyword.From FIRST_OWN_PORT MAX_PORT ∷ []
optional_of form.Send = []
optional_of form.Burst = []
optional_of form.Blob = []
optional_of form.Raw = []
optional_of form.Recv = Setting keyword.For 1 MAX_ROUNDS ∷ []
optional_of form.Collect = Setting keyword.For 1 MAX_ROUNDS ∷ []
optional_of form.Close = []
optional_of form.Wait = []

-- whether the form's lines are steps of the application that stands before them
abbrev pub is_step : Form → Bool
is_step form.Until = false
is_step form.Rounds = false
is_step form.Shuffle = false
is_step form.Moves = false
is_step form.Node = false
is_step form.Bridge = false
is_step form.Rdp = false
is_step form.KissLink = false
is_step form.CanLink = false
is_step form.Hub = false
is_step form.Route = false
is_step form.Lose = false
is_step form.Repeat = false
is_step form.Delay = false
is_step form.Flip = false
is_step form.HubLose = false
is_step form.HubRepeat = false
is_step form.HubDelay = false
is_step form.HubFlip = false
is_step form.App = false
is_step form.Take = true
is_step form.Give = true
is_step form.Bind = true
is_step form.Connect = true
is_step form.Send = true
is_step form.Burst = true
is_step form.Blob = true
is_step form.Raw = true
is_step form.Recv = true
is_step form.Collect = true
is_step form.Close = true
is_step form.Wait = true

-- whether the form's lines state a fault of a link of two ends
abbrev pub is_fault : Form → Bool
is_fault form.Lose = true
is_fault form.Repeat = true
is_fault form.Delay = true
is_fault form.Flip = true
is_fault _ = false

-- whether they state one of a hub
abbrev pub is_hub_fault : Form → Bool
is_hub_fault form.HubLose = true
is_hub_fault form.HubRepeat = true
is_hub_fault form.HubDelay = true
is_hub_fault form.HubFlip = true
is_hub_fault _ = false

-- a form may state what a line says whose first argument is the name of a hub, or is not
abbrev pub suits : (on_hub : Bool) → Form → Bool
suits true form = not (is_fault form)
suits false form = not (is_hub_fault form)

-- all forms
abbrev pub all_forms : List Form
all_forms =
    form.Until ∷ form.Rounds ∷ form.Shuffle ∷ form.Moves ∷ form.Node ∷ form.Bridge ∷ form.Rdp ∷ form.KissLink ∷ form.CanLink ∷ form.Hub ∷ form.Route
    ∷ form.Lose ∷ form.Repeat ∷ form.Delay ∷ form.Flip ∷ form.HubLose ∷ form.HubRepeat ∷ form.HubDelay ∷ form.HubFlip ∷ form.App ∷ form.Take ∷ form.Give
    ∷ form.Bind ∷ form.Connect ∷ form.Send ∷ form.Burst ∷ form.Blob ∷ form.Raw ∷ form.Recv ∷ form.Collect ∷ form.Close ∷ form.Wait ∷ []

-- the words of an optional group
abbrev pub group_of : Group → List Part
group_of (Flag keyword) = Fixed keyword ∷ []
group_of (Setting keyword low high) = Fixed keyword ∷ Number low high ∷ []

-- a shape with each choice of the optional groups after it
abbrev pub with_options : List Part → List Group → List (List Part)
with_options shape [] = shape ∷ []
with_options shape (group ∷ groups) = with_options shape groups ++ with_options (shape ++ group_of group) groups

-- all shapes of a form's lines
abbrev pub shapes_of : Form → List (List Part)
shapes_of form = with_options (fixed_of form) (optional_of form)

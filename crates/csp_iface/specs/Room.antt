-- what holds of an interface's fields at every time
use Rattle.std.specs.Prelude.{◌≡◌, ◌<◌, Bool, false, Option, None, List, []}
use Rattle.std.specs.List.{AllByRecursion}
use Rattle.csp_buffer.specs.Content.{Content}
use Rattle.csp_iface.specs.Links.{heard_in, IsFrameOn}
use Rattle.csp_iface.specs.PlainIface.{PlainIface, IfaceAt}
use Rattle.csp_iface.specs.declared.iface.Iface.TheInside.{Inside}
use Rattle.csp_iface.specs.declared.plan.IfacePlan.{IfacePlan}
use Rattle.csp_iface.specs.declared.plan.IfacePlan.TheVariants as plan
use Rattle.csp_log.specs.Kinds.{carried_on}
use Rattle.csp_log.specs.declared.frame.Frame.{Frame}
use Rattle.csp_log.specs.declared.places.TheConstants.{IFACES}

-- an interface's fields as contracts see them
abbrev pub plain_iface : Inside → PlainIface
plain_iface a = record {
  node = a.node;
  number = a.number;
  kind = a.kind;
  mtu = a.mtu;
  heeds = a.heeds;
  side = a.side;
  back = a.back.content;
  sending = a.sender.packet;
  frames = a.sender.frames;
  serial = a.serial;
  receiver = a.receiver;
  whole = a.whole;
  accepted = a.accepted.content;
  doing = a.doing;
}

-- with the region of its buffers
abbrev pub iface_at : Inside → IfaceAt
iface_at a = record { region = a.back.region; iface = plain_iface a }

-- where frames are left the next one is made and here, and where none are no packet is sent
pub record IsSettled (packet : Option Content) (frames : List Frame) (loaded : Bool) : Type 0 where
  pub made : loaded ≡ false → frames ≡ []
  pub done : frames ≡ [] → packet ≡ None

-- what each answer that may come finds: an empty place for its buffer or frame
abbrev pub CanHear : Inside → IfacePlan → Type 0
CanHear a plan.Rest = IsSettled a.sender.packet a.sender.frames a.sender.loaded
CanHear a plan.Return = IsSettled a.sender.packet a.sender.frames a.sender.loaded × (a.back.content ≡ None)
CanHear a plan.Deliver = IsSettled a.sender.packet a.sender.frames a.sender.loaded × (a.back.content ≡ None) × (a.accepted.content ≡ None)
CanHear a plan.Take = IsSettled a.sender.packet a.sender.frames a.sender.loaded × (a.accepted.content ≡ None)
CanHear a plan.Transmit = (a.sender.loaded ≡ false) × (a.back.content ≡ None)
CanHear a plan.Fetch = IsSettled a.sender.packet a.sender.frames a.sender.loaded × (a.sender.frames ≡ []) × (a.back.content ≡ None)
CanHear a plan.Receive = IsSettled a.sender.packet a.sender.frames a.sender.loaded × (a.whole ≡ None)

-- what an interface's fields keep at every time
pub record IsIface (a : Inside) : Type 0 where
  pub number : a.number < IFACES
  -- what it receives is that of its link, and the link carries its frames
  pub kind : heard_in a.receiver ≡ carried_on a.kind
  pub frames : AllByRecursion (IsFrameOn a.kind) a.sender.frames
  pub hears : CanHear a a.doing
  -- all its buffers are of one region
  pub sender_of_it : a.sender.region ≡ a.back.region
  pub accepted_of_it : a.accepted.region ≡ a.back.region

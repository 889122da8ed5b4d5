-- the laws of a step: no buffer is lost or made, and what an interface uses stays
use Rattle.std.proofs.Common.{◌≡◌, ℕ, ◌+◌, Option, Some, None, List, [], ◌∷◌, refl, ap, ◌∙◌, arith}
use Rattle.std.specs.Option.{option_to_list}
use Rattle.std.specs.List.{slice_get}
use Rattle.std.specs.Prelude.{◌==◌, if◌then◌else◌, ⊤, Bool, true, false}
use Rattle.std.proofs.lemmas.Bool.{eq-eqb}
use Rattle.csp_deck.specs.Carried.{IsCarried, IsCarriedIn}
use Rattle.csp_buffer.specs.Content.{Content}
use Rattle.csp_deck.specs.Step.{IsAnswerOf, times, op_numbers, item_numbers, answer_numbers}
use Rattle.csp_iface.proofs.Counting.{among, holds_times}
use Rattle.csp_iface.specs.Asking.{given, delivered, transmitted, handed, op_of, kind_of_plan, awaits}
use Rattle.csp_iface.specs.PlainIface.{PlainIface, uses, holds}
use Rattle.csp_iface.specs.Room.{CanHear, plain_iface}
use Rattle.csp_iface.specs.Telling.{after_answer, packet_in, filled, pushed, kept, begun, is_too_big, taken_up, fetched, caught, resting, answered, tells}
use Rattle.csp_iface.specs.declared.iface.Iface.TheInside.{Inside}
use Rattle.csp_iface.specs.declared.packet.WholePacket.{WholePacket}
use Rattle.csp_iface.specs.declared.plan.IfacePlan.{IfacePlan}
use Rattle.csp_iface.specs.declared.plan.IfacePlan.TheVariants as plan
use Rattle.csp_log.specs.Kinds.{carried_on}
use Rattle.csp_log.specs.declared.frame.Frame.{Frame}
use Rattle.csp_log.specs.declared.places.Carries.TheVariants as lane
use Rattle.csp_log.specs.declared.places.LinkKind.{LinkKind}
use Rattle.csp_log.specs.declared.places.LinkKind.TheVariants as link
use Rattle.csp_log.specs.declared.places.QueueId.{QueueId}
use Rattle.csp_log.specs.declared.places.QueueId.TheVariants as queue
use Rattle.csp_log.specs.declared.places.Rule.{Rule}
use Rattle.csp_log.specs.declared.places.Rule.TheVariants as rule
use Rattle.csp_log.specs.declared.shown.AnswerShown.{AnswerShown}
use Rattle.csp_log.specs.declared.shown.AnswerShown.TheVariants as answer
use Rattle.csp_log.specs.declared.shown.ItemShown.{ItemShown}
use Rattle.csp_log.specs.declared.shown.ItemShown.TheVariants as item

-- ---- what it uses

-- what it uses goes by its number and its link
pub same_uses : (s t : PlainIface) → t.number ≡ s.number → t.kind ≡ s.kind → (q : QueueId) → uses t q ≡ uses s q
same_uses s t e d queue.Inbox = refl
same_uses s t e d (queue.Out k) = ap (λ (n : ℕ). if k == n then Some (rule.Lane lane.Out) else None) e
same_uses s t e d (queue.Tx k) = ap (λ (n : ℕ). if k == n then Some (rule.Lane (carried_on t.kind)) else None) e ∙ ap (λ (kind : LinkKind). if k == s.number then Some (rule.Lane (carried_on kind)) else None) d
same_uses s t e d (queue.Rx k) = ap (λ (n : ℕ). if k == n then Some (rule.Lane (carried_on t.kind)) else None) e ∙ ap (λ (kind : LinkKind). if k == s.number then Some (rule.Lane (carried_on kind)) else None) d
same_uses s t e d (queue.Up _) = refl
same_uses s t e d (queue.Down _) = refl

-- they stay, and so does what the turn is
pub record Stays (s t : PlainIface) : Type 0 where
  pub number : t.number ≡ s.number
  pub kind : t.kind ≡ s.kind
  pub doing : t.doing ≡ s.doing

pub handed_stays : (s : PlainIface) (p : IfacePlan) → Stays s (handed s p)
handed_stays s plan.Rest = record { number = refl; kind = refl; doing = refl }
handed_stays s _ = record { number = refl; kind = refl; doing = refl }

taken_up_stays : (too_big : Bool) (s : PlainIface) (mark : ℕ) (b : Content) → Stays s (taken_up too_big mark b s).iface
taken_up_stays true s mark b = record { number = refl; kind = refl; doing = refl }
taken_up_stays false s mark b = record { number = refl; kind = refl; doing = refl }

fetched_stays : (s : PlainIface) (i : ItemShown) → Stays s (fetched i s).iface
fetched_stays s (item.Packet mark b) = taken_up_stays (is_too_big s b) s mark b
fetched_stays s _ = record { number = refl; kind = refl; doing = refl }

caught_stays : (s : PlainIface) (now : ℕ) (i : ItemShown) → Stays s (caught now i s).iface
caught_stays s now (item.Frame _) = record { number = refl; kind = refl; doing = refl }
caught_stays s now _ = record { number = refl; kind = refl; doing = refl }

pushed_stays : (s : PlainIface) (fs : List Frame) → Stays s (pushed fs s)
pushed_stays s [] = record { number = refl; kind = refl; doing = refl }
pushed_stays s (_ ∷ _) = record { number = refl; kind = refl; doing = refl }

kept_stays : (s : PlainIface) (i : ItemShown) → Stays s (kept i s)
kept_stays s (item.Frame _) = record { number = refl; kind = refl; doing = refl }
kept_stays s _ = record { number = refl; kind = refl; doing = refl }

pub told_stays : (s : PlainIface) (now : ℕ) (p : IfacePlan) (a : AnswerShown) → Stays s (after_answer s now p a).iface
told_stays s now plan.Transmit answer.Pushed = pushed_stays s s.frames
told_stays s now plan.Transmit (answer.Full i) = kept_stays s i
told_stays s now plan.Fetch (answer.Popped i) = fetched_stays s i
told_stays s now plan.Receive (answer.Popped i) = caught_stays s now i
told_stays s now plan.Return answer.Given = record { number = refl; kind = refl; doing = refl }
told_stays s now plan.Deliver answer.Pushed = record { number = refl; kind = refl; doing = refl }
told_stays s now plan.Take answer.NoBuffer = record { number = refl; kind = refl; doing = refl }
told_stays s now plan.Fetch answer.Empty = record { number = refl; kind = refl; doing = refl }
told_stays s now plan.Receive answer.Empty = record { number = refl; kind = refl; doing = refl }
told_stays s now _ _ = record { number = refl; kind = refl; doing = refl }

-- ---- what it holds

given_numbers : (k : ℕ) (t : Option Content) → times k (op_numbers (given t)) ≡ among k (option_to_list t)
given_numbers k None = refl
given_numbers k (Some b) = refl

delivered_numbers : (k number : ℕ) (t : Option Content) → times k (op_numbers (delivered number t)) ≡ among k (option_to_list t)
delivered_numbers k number None = refl
delivered_numbers k number (Some b) = refl

transmitted_numbers : (k number : ℕ) (f : Option Frame) → times k (op_numbers (transmitted number f)) ≡ 0
transmitted_numbers k number None = refl
transmitted_numbers k number (Some f) = refl

-- what it hands over it holds no more
pub handed_law : (s : PlainIface) (p : IfacePlan) (k : ℕ) → times k (holds (handed s p)) + times k (op_numbers (op_of s p)) ≡ times k (holds s)
handed_law s plan.Return k = omega (arith, holds_times k s, holds_times k (record s { back = None }), given_numbers k s.back)
handed_law s plan.Deliver k = omega (arith, holds_times k s, holds_times k (record s { accepted = None }), delivered_numbers k s.number s.accepted)
handed_law s plan.Transmit k = omega (arith, transmitted_numbers k s.number (slice_get s.frames 0))
handed_law s _ k = omega arith

item_law : (k : ℕ) (i : ItemShown) → times k (item_numbers i) ≡ among k (option_to_list (packet_in i))
item_law k (item.Packet _ _) = refl
item_law k (item.Frame _) = refl
item_law k (item.Note _) = refl

filled_number : (k : ℕ) (p : Option WholePacket) (b : Content) → among k (filled p b ∷ []) ≡ among k (b ∷ [])
filled_number k None b = refl
filled_number k (Some _) b = refl

-- the place for what comes with an answer is empty
abbrev pub IsFree : PlainIface → IfacePlan → Type 0
IsFree s plan.Rest = ⊤
IsFree s plan.Return = s.back ≡ None
IsFree s plan.Deliver = s.back ≡ None
IsFree s plan.Take = s.accepted ≡ None
IsFree s plan.Transmit = s.back ≡ None
IsFree s plan.Fetch = (s.sending ≡ None) × (s.back ≡ None)
IsFree s plan.Receive = ⊤

pub hears_free : (a : Inside) (p : IfacePlan) → CanHear a p → IsFree (plain_iface a) p
hears_free a plan.Rest h = tt
hears_free a plan.Return h = h.1
hears_free a plan.Deliver h = h.1
hears_free a plan.Take h = h.1
hears_free a plan.Transmit h = h.1
hears_free a plan.Fetch h = (h.0.done h.1, h.2)
hears_free a plan.Receive h = tt

none_among : (k : ℕ) (t : Option Content) → t ≡ None → among k (option_to_list t) ≡ 0
none_among k t e = ap (λ (o : Option Content). among k (option_to_list o)) e

pushed_law : (k : ℕ) (fs : List Frame) (s : PlainIface) → s.back ≡ None → times k (holds (pushed fs s)) ≡ times k (holds s)
pushed_law k [] s e = omega (arith, holds_times k s, holds_times k (record s { back = s.sending; sending = None }), none_among k s.back e)
pushed_law k (_ ∷ _) s e = refl

kept_law : (k : ℕ) (i : ItemShown) (s : PlainIface) → times k (holds (kept i s)) ≡ times k (holds s)
kept_law k (item.Frame f) s = refl
kept_law k (item.Packet _ _) s = refl
kept_law k (item.Note _) s = refl

taken_up_law : (k : ℕ) (too_big : Bool) (mark : ℕ) (b : Content) (s : PlainIface) → IsFree s plan.Fetch → times k (holds (taken_up too_big mark b s).iface) ≡ times k (holds s) + among k (b ∷ [])
taken_up_law k true mark b s e = omega (arith, holds_times k s, holds_times k (record s { back = Some b }), none_among k s.back e.1)
taken_up_law k false mark b s e = omega (arith, holds_times k s, holds_times k (begun mark b s), none_among k s.sending e.0)

fetched_law : (k : ℕ) (i : ItemShown) (s : PlainIface) → IsFree s plan.Fetch → times k (holds (fetched i s).iface) ≡ times k (holds s) + times k (item_numbers i)
fetched_law k (item.Packet mark b) s e = taken_up_law k (is_too_big s b) mark b s e
fetched_law k (item.Frame _) s e = omega arith
fetched_law k (item.Note _) s e = omega arith

-- a link carries no buffer
link_item : (k : ℕ) (kind : LinkKind) (i : ItemShown) → IsCarried (rule.Lane (carried_on kind)) i → times k (item_numbers i) ≡ 0
link_item k kind (item.Frame _) h = refl
link_item k kind (item.Note _) h = refl
link_item k link.Kiss (item.Packet _ _) h = absurd h
link_item k link.KissHeader (item.Packet _ _) h = absurd h
link_item k link.Can (item.Packet _ _) h = absurd h

carried_by : (b : Bool) (r : Rule) (i : ItemShown) → b ≡ true → IsCarriedIn (if b then Some r else None) i → IsCarried r i
carried_by true r i e h = h
carried_by false r i e h = absurd cc

-- what came by the queue of its number
own_item : (s : PlainIface) (r : Rule) (i : ItemShown) → IsCarriedIn (if s.number == s.number then Some r else None) i → IsCarried r i
own_item s r i h = carried_by (s.number == s.number) r i (eq-eqb s.number s.number refl) h

caught_law : (k now : ℕ) (i : ItemShown) (s : PlainIface) → times k (item_numbers i) ≡ 0 → times k (holds (caught now i s).iface) ≡ times k (holds s) + times k (item_numbers i)
caught_law k now (item.Frame f) s e = omega arith
caught_law k now (item.Packet _ _) s e = omega (arith, e)
caught_law k now (item.Note _) s e = omega arith

resting_fits : (s : PlainIface) (a : AnswerShown) → IsAnswerOf (uses s) (awaits s) a → IsAnswerOf (uses (resting s)) (kind_of_plan (resting s).number s.doing) a
resting_fits s a h = h

resting_free : (s : PlainIface) (p : IfacePlan) → IsFree s p → IsFree (resting s) p
resting_free s plan.Rest e = e
resting_free s plan.Return e = e
resting_free s plan.Deliver e = e
resting_free s plan.Take e = e
resting_free s plan.Transmit e = e
resting_free s plan.Fetch e = e
resting_free s plan.Receive e = e

-- it holds besides what it was given
told_law : (s : PlainIface) (now : ℕ) (p : IfacePlan) (a : AnswerShown) → IsAnswerOf (uses s) (kind_of_plan s.number p) a → IsFree s p
    → (k : ℕ) → times k (holds (after_answer s now p a).iface) ≡ times k (holds s) + times k (answer_numbers a)
told_law s now plan.Rest answer.Nothing h e k = omega arith
told_law s now plan.Return answer.Given h e k = omega arith
told_law s now plan.Return (answer.PoolFull b) h e k = omega (arith, holds_times k s, holds_times k (record s { back = Some b }), none_among k s.back e)
told_law s now plan.Deliver answer.Pushed h e k = omega arith
told_law s now plan.Deliver (answer.Full i) h e k = omega (arith, holds_times k s, holds_times k (record s { back = packet_in i }), none_among k s.back e, item_law k i)
told_law s now plan.Take (answer.Taken b) h e k = omega (arith, holds_times k s, holds_times k (record s { accepted = Some (filled s.whole b); whole = None }), none_among k s.accepted e, filled_number k s.whole b)
told_law s now plan.Take answer.NoBuffer h e k = omega arith
told_law s now plan.Transmit answer.Pushed h e k = omega (arith, pushed_law k s.frames s e)
told_law s now plan.Transmit (answer.Full i) h e k = omega (arith, kept_law k i s, link_item k s.kind i (own_item s (rule.Lane (carried_on s.kind)) i h))
told_law s now plan.Fetch (answer.Popped i) h e k = fetched_law k i s e
told_law s now plan.Fetch answer.Empty h e k = omega arith
told_law s now plan.Receive (answer.Popped i) h e k = caught_law k now i s (link_item k s.kind i (own_item s (rule.Lane (carried_on s.kind)) i h))
told_law s now plan.Receive answer.Empty h e k = omega arith
told_law s now _ _ h e k = absurd h

-- what it reads on holds nothing, and the turn's end neither
pub tells_law : (s : PlainIface) (now : ℕ) (a : AnswerShown) → IsAnswerOf (uses s) (awaits s) a → IsFree s s.doing
    → (k : ℕ) → times k (holds (tells s now a)) ≡ times k (holds s) + times k (answer_numbers a)
tells_law s now a h e k = told_law (resting s) now s.doing a (resting_fits s a h) (resting_free s s.doing e) k

pub tells_uses : (s : PlainIface) (now : ℕ) (a : AnswerShown) (q : QueueId) → uses (tells s now a) q ≡ uses s q
tells_uses s now a =
    let h : Stays (resting s) (answered s now a).iface = told_stays (resting s) now s.doing a in
    same_uses s (tells s now a) h.number h.kind

-- its turn is over
pub rests : (s : PlainIface) (now : ℕ) (a : AnswerShown) → (answered s now a).iface.doing ≡ plan.Rest
rests s now a = (told_stays (resting s) now s.doing a).doing

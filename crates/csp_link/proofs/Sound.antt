-- a link stays whole: what it holds is carried by its lanes, and each answer finds what it needs
use Rattle.std.proofs.Common.{◌≡◌, ℕ, suc, ◌+◌, ◌/◌, ◌%◌, ◌^◌, take, drop, Bool, true, false, cond, Option, Some, None, List, [], ◌∷◌, ◌++◌, map, length, refl, ap, subst, arith}
use Rattle.std.specs.List.{find, enumerate_from}
use Rattle.std.specs.Int.Bits.{bit_xor}
use Rattle.std.specs.Prelude.{replicate, slice_index, nat_le, IfSome, if◌then◌else◌}
use Rattle.std.specs.Option.{unwrap_or}
use Rattle.std.proofs.lemmas.List.{length-set}
use Rattle.std.proofs.lemmas.List.Elements.{All-nil, All-head, All-tail, All-append, All-take, All-drop, All-map, All-replicate}
use Rattle.csp_deck.specs.Carried.{IsCarried}
use Rattle.csp_deck.specs.Step.{IsAnswerOf, CanServe}
use Rattle.csp_link.specs.Copies.{damaged, flipped, held_copies, held_until}
use Rattle.csp_link.specs.Fates.{fate_at}
use Rattle.csp_link.specs.Holding.{first_due}
use Rattle.csp_link.specs.PlainLink.{PlainDirection, PlainLink, direction, in_turn, uses}
use Rattle.csp_link.specs.Room.{AreCarried, CanHear, IsLink, plain_link}
use Rattle.csp_link.specs.Turns.{first_rule, frame_in, taken, turn_in, turn_of}
use Rattle.csp_link.specs.declared.doing.Doing.{Doing}
use Rattle.csp_link.specs.declared.doing.Doing.TheVariants as doing
use Rattle.csp_link.specs.declared.fates.Fate.{Fate}
use Rattle.csp_link.specs.declared.held.Held.{Held}
use Rattle.csp_link.specs.declared.held.TheConstants.{MOST_HELD}
use Rattle.csp_link.specs.declared.link.Link.TheInside.{Inside}
use Rattle.csp_link.specs.declared.way.Way.{Way}
use Rattle.csp_link.specs.declared.way.Way.TheVariants.{Forth, Back}
use Rattle.csp_log.specs.Kinds.{carried_on}
use Rattle.csp_log.specs.declared.frame.Frame.{Frame}
use Rattle.csp_log.specs.declared.places.LinkKind.{LinkKind}
use Rattle.csp_log.specs.declared.places.LinkKind.TheVariants as kind
use Rattle.csp_log.specs.declared.places.Rule.TheVariants as rule
use Rattle.csp_log.specs.declared.shown.ItemShown.{ItemShown}
use Rattle.csp_log.specs.declared.shown.ItemShown.TheVariants as item
use Rattle.csp_log.specs.declared.shown.AnswerShown.TheVariants as answer

-- the lanes of this kind carry this frame
abbrev pub IsFrameOf : LinkKind → Frame → Type 0
IsFrameOf k f = IsCarried (rule.Lane (carried_on k)) (item.Frame f)

carried_flipped : (k : LinkKind) (bit : ℕ) (f : Frame) → IsFrameOf k f → IsFrameOf k (flipped bit f)
carried_flipped kind.Kiss bit f c = c
carried_flipped kind.KissHeader bit f c = c
carried_flipped kind.Can bit f c = (c.0, omega (arith, c.1, length-set f.bytes.items (bit / 8) (bit_xor (slice_index f.bytes.items (bit / 8)) (128 / 2 ^ (bit % 8)))))

carried_damaged : (k : LinkKind) (bit : Option ℕ) (f : Frame) → IsFrameOf k f → IsFrameOf k (damaged bit f)
carried_damaged k None f c = c
carried_damaged k (Some bit) f c = carried_flipped k bit f c

carried_copies : (k : LinkKind) (lost : Bool) (n due : ℕ) (f : Frame) → IsFrameOf k f → AreCarried k (map (held_until due) (if lost then [] else replicate n f))
carried_copies k true n due f c = All-nil (λ (h : Held). IsFrameOf k h.frame)
carried_copies k false n due f c = All-map (λ (h : Held). IsFrameOf k h.frame) (held_until due) (replicate n f) (All-replicate (IsFrameOf k) n f c)

-- what a direction holds is carried when a frame of it has gone, and when what is made of another one is held besides
until_by : (k : LinkKind) (way : Way) (now : ℕ) (due : Option (ℕ × Held)) (few : Bool) (d : PlainDirection) → AreCarried k d.held → AreCarried k (turn_of way now due d (first_rule due few)).until.held
until_by k way now (Some p) few d all = let P : Held → Type 0 = λ h. IsFrameOf k h.frame in All-append P (take p.0 d.held) (drop (suc p.0) d.held) (All-take P p.0 d.held all) (All-drop P (suc p.0) d.held all)
until_by k way now None true d all = all
until_by k way now None false d all = all

until_carried : (k : LinkKind) (way : Way) (now : ℕ) (d : PlainDirection) → AreCarried k d.held → AreCarried k (turn_in way now d).until.held
until_carried k way now d all = until_by k way now (first_due now d.held) (nat_le (length d.held) MOST_HELD) d all

pub taken_carried : (k : LinkKind) (fate : Fate) (now : ℕ) (f : Frame) (held : List Held) → AreCarried k held → IsFrameOf k f → AreCarried k (held ++ held_copies fate now f)
taken_carried k fate now f held all c = All-append (λ (h : Held). IsFrameOf k h.frame) held _ all (carried_copies k fate.lost (fate.repeats + 1) (now + fate.delay) (damaged fate.flip f) (carried_damaged k fate.flip f c))

carried_item : (k : LinkKind) (i : ItemShown) (f : Frame) → IsCarried (rule.Lane (carried_on k)) i → frame_in i ≡ Some f → IsFrameOf k f
carried_item k (item.Frame g) f c e = subst (IsFrameOf k) (ap (λ (o : Option Frame). unwrap_or o g) e) c
carried_item k (item.Packet _ _) f c e = absurd cc
carried_item k (item.Note _) f c e = absurd cc

-- a frame that was popped is carried
pub popped_carried : (s : PlainLink) (way : Way) (d : Doing) (i : ItemShown) (f : Frame) → IsAnswerOf (uses s) (turn_of way 0 None (in_turn s) d).awaits (answer.Popped i) → frame_in i ≡ Some f → IsFrameOf s.kind f
popped_carried s Forth doing.Pop i f c e = carried_item s.kind i f c e
popped_carried s Back doing.Pop i f c e = carried_item s.kind i f c e
popped_carried s _ _ i f c e = absurd c

-- a link that has asked, by the direction whose turn it is
pub asked_forth : (a b : Inside) (t : Doing) (d : PlainDirection) (now : ℕ) → IsLink (plain_link a) → a.way ≡ Forth → b ≡ record { kind = a.kind; forth = d; back = a.back; way = a.way; doing = a.doing }
    → d ≡ (turn_in Forth now a.forth).until → CanHear t d.held → IsLink (plain_link (record { kind = b.kind; forth = b.forth; back = b.back; way = b.way; doing = t }))
asked_forth a b t d now l way is state hears = rw (is, way) (record { forth = rw state (until_carried a.kind Forth now a.forth l.forth); back = l.back; hears = hears })

pub asked_back : (a b : Inside) (t : Doing) (d : PlainDirection) (now : ℕ) → IsLink (plain_link a) → a.way ≡ Back → b ≡ record { kind = a.kind; forth = a.forth; back = d; way = a.way; doing = a.doing }
    → d ≡ (turn_in Back now a.back).until → CanHear t d.held → IsLink (plain_link (record { kind = b.kind; forth = b.forth; back = b.back; way = b.way; doing = t }))
asked_back a b t d now l way is state hears = rw (is, way) (record { forth = l.forth; back = rw state (until_carried a.kind Back now a.back l.back); hears = hears })

-- a link that has popped a frame
pub popped_forth : (a b : Inside) (w : Way) (d : PlainDirection) (now : ℕ) (f : Frame) → IsLink (plain_link a) → b ≡ record { kind = a.kind; forth = d; back = a.back; way = a.way; doing = a.doing }
    → d ≡ taken now (Some f) a.forth → IsFrameOf a.kind f → IsLink (plain_link (record { kind = b.kind; forth = b.forth; back = b.back; way = w; doing = doing.Rest }))
popped_forth a b w d now f l is state c = rw is (record { forth = rw state (taken_carried a.kind (fate_at a.forth.fates (a.forth.popped + 1)) now f a.forth.held l.forth c); back = l.back; hears = tt })

pub popped_back : (a b : Inside) (w : Way) (d : PlainDirection) (now : ℕ) (f : Frame) → IsLink (plain_link a) → b ≡ record { kind = a.kind; forth = a.forth; back = d; way = a.way; doing = a.doing }
    → d ≡ taken now (Some f) a.back → IsFrameOf a.kind f → IsLink (plain_link (record { kind = b.kind; forth = b.forth; back = b.back; way = w; doing = doing.Rest }))
popped_back a b w d now f l is state c = rw is (record { forth = l.forth; back = rw state (taken_carried a.kind (fate_at a.back.fates (a.back.popped + 1)) now f a.back.held l.back c); hears = tt })

-- what holds of every held frame holds of the first that is due
due_carried : (k : LinkKind) (now n : ℕ) (held : List Held) → AreCarried k held → IfSome (find (λ p. nat_le p.1.due now) (enumerate_from n held)) (λ p. IsFrameOf k p.1.frame)
due_carried k now n [] all = tt
due_carried k now n (h ∷ hs) all =
    let P : Held → Type 0 = λ h. IsFrameOf k h.frame in
    let rest = find (λ p. nat_le p.1.due now) (enumerate_from (n + 1) hs) in
    elim (nat_le h.due now) as (λ b. IfSome (cond b (Some (n, h)) rest) (λ p. IsFrameOf k p.1.frame)) [
      | true ↦ All-head P h hs all
      | false ↦ due_carried k now (n + 1) hs (All-tail P h hs all)
    ]

rule_served : (s : PlainLink) (way : Way) (now : ℕ) (due : Option (ℕ × Held)) (few : Bool) (d : PlainDirection) → IfSome due (λ p. IsFrameOf s.kind p.1.frame) → CanServe (uses s) (turn_of way now due d (first_rule due few)).asks
rule_served s Forth now (Some p) few d c = c
rule_served s Back now (Some p) few d c = c
rule_served s Forth now None true d c = refl
rule_served s Back now None true d c = refl
rule_served s _ now None false d c = tt

-- a link asks what its lanes can serve
pub way_served : (s : PlainLink) (way : Way) (now : ℕ) → IsLink s → CanServe (uses s) (turn_in way now (direction s way)).asks
way_served s Forth now l = rule_served s Forth now (first_due now s.forth.held) (nat_le (length s.forth.held) MOST_HELD) s.forth (due_carried s.kind now 0 s.forth.held l.forth)
way_served s Back now l = rule_served s Back now (first_due now s.back.held) (nat_le (length s.back.held) MOST_HELD) s.back (due_carried s.kind now 0 s.back.held l.back)

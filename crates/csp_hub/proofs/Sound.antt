-- a hub stays whole: its lanes carry what it holds, and each answer finds what it needs
use Rattle.std.proofs.Common.{◌≡◌, ℕ, zero, suc, ◌+◌, ◌<◌, ◌≤◌, take, drop, Bool, true, false, Option, Some, None, List, [], ◌∷◌, map, length, get_or, refl, sym, ap, ◌∙◌, subst, arith}
use Rattle.std.specs.List.{list_all, range_with_len}
use Rattle.std.specs.Prelude.{nat_lt, slice_set, IfSome, IsSome, All, if◌then◌else◌}
use Rattle.std.specs.Option.{unwrap_or}
use Rattle.std.proofs.lemmas.Bool.{lt-ltb, ltb-true}
use Rattle.std.proofs.lemmas.List.{get_or-set_same, length-map, length-set}
use Rattle.std.proofs.lemmas.List.Elements.{All-cons, All-head, All-tail, All-append, All-take, All-drop, All-get_or, All-map, All-nil, All-set}
use Rattle.std.proofs.lemmas.List.FromFn.{length-map-range_with_len}
use Rattle.csp_deck.specs.Carried.{IsCarriedIn}
use Rattle.csp_deck.specs.Step.{IsAnswerOf, CanServe}
use Rattle.csp_hub.specs.Asking.{kind_of_doing, op_of, without}
use Rattle.csp_hub.specs.PlainHub.{PlainEnd, PlainHub, end_at, lane_of, no_end, next_end, opening, opening_end, others, served, uses}
use Rattle.csp_hub.specs.Planning.{first_rule, has_room, plan_of}
use Rattle.csp_hub.specs.Room.{IsHub}
use Rattle.csp_hub.specs.Telling.{copies_held, held_for_others, kept}
use Rattle.csp_hub.specs.declared.doing.Doing.{Doing}
use Rattle.csp_hub.specs.declared.doing.Doing.TheVariants as doing
use Rattle.csp_hub.specs.declared.hub.TheConstants.{MIN_ENDS, MAX_ENDS}
use Rattle.csp_link.specs.Copies.{held_copies, held_until}
use Rattle.csp_link.specs.Holding.{first_due}
use Rattle.csp_link.specs.Room.{AreCarried}
use Rattle.csp_link.specs.Turns.{frame_in}
use Rattle.csp_link.specs.declared.fates.Fate.{Fate}
use Rattle.csp_link.specs.declared.fault.Fault.{Fault}
use Rattle.csp_link.specs.declared.held.Held.{Held}
use Rattle.csp_link.specs.declared.held.TheConstants.{LINK_HOLDS}
use Rattle.csp_link.proofs.Public.{IsFrameOf, taken_carried}
use Rattle.csp_log.specs.declared.frame.Frame.{Frame}
use Rattle.csp_log.specs.declared.places.Carries.TheVariants as carries
use Rattle.csp_log.specs.declared.places.LinkKind.TheVariants as kind
use Rattle.csp_log.specs.declared.places.Rule.TheVariants as rule
use Rattle.csp_log.specs.declared.shown.ItemShown.{ItemShown}
use Rattle.csp_log.specs.declared.shown.ItemShown.TheVariants as item
use Rattle.csp_log.specs.declared.shown.AnswerShown.TheVariants as answer
use Rattle.csp_hub.proofs.Due.{due_carried}
use Rattle.csp_hub.proofs.Ends.{like_others}

-- a CAN bus carries what is held for an end
abbrev pub IsSoundEnd : PlainEnd → Type 0
IsSoundEnd e = AreCarried kind.Can e.held

abbrev IsSoundHeld : Held → Type 0
IsSoundHeld h = IsFrameOf kind.Can h.frame

-- it does after a frame has gone, when it comes back, and when others are held besides
pub without_sound : (found : Option (ℕ × Held)) (e : PlainEnd) → IsSoundEnd e → IsSoundEnd (without found e)
without_sound (Some p) e all = All-append IsSoundHeld (take p.0 e.held) (drop (suc p.0) e.held) (All-take IsSoundHeld p.0 e.held all) (All-drop IsSoundHeld (suc p.0) e.held all)
without_sound None e all = all

pub kept_sound : (place due : ℕ) (frame : Frame) (e : PlainEnd) → IsSoundEnd e → IsFrameOf kind.Can frame → IsSoundEnd (kept place due (Some frame) e)
kept_sound place due frame e all carried =
    All-append IsSoundHeld (take place e.held) (held_until due frame ∷ drop place e.held) (All-take IsSoundHeld place e.held all)
    (All-cons IsSoundHeld (held_until due frame) (drop place e.held) carried (All-drop IsSoundHeld place e.held all))

heard_sound : (copies : List Held) (e : PlainEnd) → AreCarried kind.Can copies → IsSoundEnd e → IsSoundEnd (copies_held copies e)
heard_sound copies e new all = All-append IsSoundHeld e.held copies all new

all_heard_sound : (copies : List Held) (es : List PlainEnd) → AreCarried kind.Can copies → All IsSoundEnd es → All IsSoundEnd (map (copies_held copies) es)
all_heard_sound copies [] new all = all
all_heard_sound copies (e ∷ es) new all =
    All-cons IsSoundEnd (copies_held copies e) (map (copies_held copies) es) (heard_sound copies e new (All-head IsSoundEnd e es all)) (all_heard_sound copies es new (All-tail IsSoundEnd e es all))

others_sound : (k : ℕ) (copies : List Held) (es : List PlainEnd) → AreCarried kind.Can copies → All IsSoundEnd es → All IsSoundEnd (held_for_others k copies es)
others_sound k copies [] new all = all
others_sound zero copies (e ∷ es) new all = All-cons IsSoundEnd e (map (copies_held copies) es) (All-head IsSoundEnd e es all) (all_heard_sound copies es new (All-tail IsSoundEnd e es all))
others_sound (suc k) copies (e ∷ es) new all =
    All-cons IsSoundEnd (copies_held copies e) (held_for_others k copies es) (heard_sound copies e new (All-head IsSoundEnd e es all)) (others_sound k copies es new (All-tail IsSoundEnd e es all))

pub served_sound : (h : PlainHub) → IsHub h → IsSoundEnd (served h)
served_sound h hub = All-get_or IsSoundEnd h.ends h.serving no_end hub.serving hub.carried

-- a frame that was popped is carried
popped_in : (there : Bool) (i : ItemShown) (f : Frame) → IsCarriedIn (if there then Some (rule.Lane carries.Can) else None) i → frame_in i ≡ Some f → IsFrameOf kind.Can f
popped_in true (item.Frame g) f c e = subst (IsFrameOf kind.Can) (ap (λ (o : Option Frame). unwrap_or o g) e) c
popped_in true (item.Packet _ _) f c e = absurd cc
popped_in true (item.Note _) f c e = absurd cc
popped_in false i f c e = absurd c

pub popped_carried : (h : PlainHub) (t : Doing) (i : ItemShown) (f : Frame) → IsAnswerOf (uses h) (kind_of_doing h.serving t) (answer.Popped i) → frame_in i ≡ Some f → IsFrameOf kind.Can f
popped_carried h doing.Pop i f c e = popped_in (nat_lt h.serving (length h.ends)) i f c e
popped_carried h _ i f c e = absurd c

-- and so is one that comes back
pub full_carried : (h : PlainHub) (t : Doing) (i : ItemShown) (f : Frame) → IsAnswerOf (uses h) (kind_of_doing h.serving t) (answer.Full i) → frame_in i ≡ Some f → IsFrameOf kind.Can f
full_carried h (doing.Push _ _) i f c e = popped_in (nat_lt h.serving (length h.ends)) i f c e
full_carried h _ i f c e = absurd c

-- the end that is served has a lane, and so has the next
pub lane_there : (ends k : ℕ) → k < ends → lane_of ends k ≡ Some (rule.Lane carries.Can)
lane_there ends k within = ap (λ b. if b then Some (rule.Lane carries.Can) else None) (lt-ltb k ends within)

pub next_there : (ends k : ℕ) → 0 < ends → next_end ends k < ends
next_there ends k some = by (nat_lt (k + 1) ends) refl
  where
    by : (b : Bool) → nat_lt (k + 1) ends ≡ b → (if b then k + 1 else 0) < ends
    by true e = ltb-true (k + 1) ends e
    by false e = omega arith

rule_served : (h : PlainHub) (found : Option (ℕ × Held)) (few : Bool) → lane_of (length h.ends) h.serving ≡ Some (rule.Lane carries.Can) → IfSome found (λ p. IsFrameOf kind.Can p.1.frame)
    → CanServe (uses h) (op_of h.serving (first_rule found few))
rule_served h (Some p) few lane c = subst (λ r. IsCarriedIn r (item.Frame p.1.frame)) (sym lane) c
rule_served h None true lane c = subst (λ r. IsSome r) (sym lane) refl
rule_served h None false lane c = tt

-- a hub asks what its lanes can serve
pub asks_served : (h : PlainHub) (now : ℕ) → IsHub h → CanServe (uses h) (op_of h.serving (plan_of h now))
asks_served h now hub =
    rule_served h (first_due now (served h).held) (list_all has_room (others h)) (lane_there (length h.ends) h.serving hub.serving) (due_carried now (served h).held (served_sound h hub))

-- ---- the hub after its question, and after an answer

-- an end at a place is as sound as all are
pub sound_at : (h : PlainHub) (k : ℕ) (e : PlainEnd) → IsHub h → k ≡ h.serving → e ≡ get_or h.ends k e → IsSoundEnd e
sound_at h k e hub same is = subst IsSoundEnd (sym is) (All-get_or IsSoundEnd h.ends k e (omega (arith, same, hub.serving)) hub.carried)

pub asked_hub : (h : PlainHub) (k place due : ℕ) (e : PlainEnd) → IsHub h → k ≡ h.serving → IsSoundEnd e → place ≤ length e.held → length e.held < LINK_HOLDS
    → IsHub (record { ends = slice_set h.ends k e; serving = h.serving; doing = doing.Push place due })
asked_hub h k place due e hub same sound there room =
    let long = length-set h.ends k e in
    let here : end_at h.serving (slice_set h.ends k e) ≡ e = ap (λ n. end_at n (slice_set h.ends k e)) (sym same) ∙ get_or-set_same h.ends k e no_end (omega (arith, same, hub.serving)) in
    let fits : (place ≤ length e.held) × (length e.held < LINK_HOLDS) = (there, room) in
    record {
      few = omega (arith, long, hub.few);
      most = omega (arith, long, hub.most);
      serving = omega (arith, long, hub.serving);
      carried = All-set IsSoundEnd h.ends k e sound hub.carried;
      hears = subst (λ (x : PlainEnd). (place ≤ length x.held) × (length x.held < LINK_HOLDS)) (sym here) fits;
    }

pub back_hub : (h : PlainHub) (k s n j : ℕ) (e : PlainEnd) → IsHub h → IsSoundEnd e → s ≡ next_end n j → n ≡ length h.ends
    → IsHub (record { ends = slice_set h.ends k e; serving = s; doing = doing.Rest })
back_hub h k s n j e hub sound next many =
    let long = length-set h.ends k e in
    let there = next_there n j (omega (arith, many, hub.serving)) in
    record {
      few = omega (arith, long, hub.few);
      most = omega (arith, long, hub.most);
      serving = omega (arith, long, many, next, there);
      carried = All-set IsSoundEnd h.ends k e sound hub.carried;
      hears = tt;
    }

pub long_others : (k : ℕ) (copies : List Held) (es : List PlainEnd) → length (held_for_others k copies es) ≡ length es
long_others k copies es =
    sym (length-map (held_for_others k copies es) (λ (e : PlainEnd). e.popped)) ∙ ap length (like_others (λ e. e.popped) k copies (λ e. refl) es) ∙ length-map es (λ (e : PlainEnd). e.popped)

pub taken_hub : (h : PlainHub) (k s n j now : ℕ) (fate : Fate) (frame : Frame) (e : PlainEnd) (ends : List PlainEnd) → IsHub h → IsSoundEnd e → IsFrameOf kind.Can frame
    → ends ≡ held_for_others k (held_copies fate now frame) (slice_set h.ends k e) → s ≡ next_end n j → n ≡ length h.ends → IsHub (record { ends = ends; serving = s; doing = doing.Rest })
taken_hub h k s n j now fate frame e ends hub sound carried is next many =
    let copies : List Held = held_copies fate now frame in
    let long : length ends ≡ length h.ends = ap length is ∙ long_others k copies (slice_set h.ends k e) ∙ length-set h.ends k e in
    let new = taken_carried kind.Can fate now frame [] (All-nil IsSoundHeld) carried in
    let there = next_there n j (omega (arith, many, hub.serving)) in
    record {
      few = omega (arith, long, hub.few);
      most = omega (arith, long, hub.most);
      serving = omega (arith, long, many, next, there);
      carried = subst (All IsSoundEnd) (sym is) (others_sound k copies (slice_set h.ends k e) new (All-set IsSoundEnd h.ends k e sound hub.carried));
      hears = tt;
    }

pub opening_hub : (ends : ℕ) (plan : List Fault) → MIN_ENDS ≤ ends → ends ≤ MAX_ENDS → IsHub (opening ends plan)
opening_hub ends plan few most =
    let long = length-map-range_with_len (opening_end plan) 0 ends in
    record {
      few = omega (arith, long, few);
      most = omega (arith, long, most);
      serving = omega (arith, long, few);
      carried = All-map IsSoundEnd (opening_end plan) (range_with_len 0 ends) (λ i d inside. All-nil IsSoundHeld);
      hears = tt;
    }

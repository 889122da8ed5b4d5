-- a turn of a link makes of what it pops what the plan says, and loses nothing of what it holds
use Rattle.std.proofs.Common.{◌≡◌, ℕ, suc, ◌+◌, Bool, true, false, Option, Some, None, List, [], ◌∷◌, ◌++◌, map, take, drop, length, refl, sym, ap, ◌∙◌, subst, arith}
use Rattle.std.specs.List.{remove}
use Rattle.std.specs.List.Sorted.{IsPermutation}
use Rattle.std.specs.Prelude.{nat_le}
use Rattle.std.proofs.lemmas.List.{append_assoc, append-nil, length-append, map-append}
use Rattle.std.proofs.lemmas.List.Sorted.{IsPermutation-refl, IsPermutation-trans, IsPermutation-append_left, IsPermutation-append_right, IsPermutation-middle}
use Rattle.csp_deck.specs.Runs.{IsRun, IsStep, Runs, state_after, step_after}
use Rattle.csp_link.specs.Applied.{AppliesPlan, link_steps, popped_by, pushed_by, frames_popped, frames_pushed, frames_in, made, made_from}
use Rattle.csp_link.specs.Copies.{copies_of, held_copies, held_until}
use Rattle.csp_link.specs.Fates.{Fates, fate_at, fates_of}
use Rattle.csp_link.specs.Holding.{first_due}
use Rattle.csp_link.specs.PlainLink.{PlainDirection, PlainLink, direction, opening}
use Rattle.csp_link.specs.Turns.{first_rule, frame_in, kept, taken, turn_of}
use Rattle.csp_link.specs.Ways.{number, other}
use Rattle.csp_link.specs.declared.doing.Doing.{Doing}
use Rattle.csp_link.specs.declared.fates.Fate.{Fate}
use Rattle.csp_link.specs.declared.fault.Fault.{Fault}
use Rattle.csp_link.specs.declared.held.Held.{Held}
use Rattle.csp_link.specs.declared.held.TheConstants.{MOST_HELD}
use Rattle.csp_link.specs.declared.way.Way.{Way}
use Rattle.csp_link.specs.declared.way.Way.TheVariants.{Forth, Back}
use Rattle.csp_log.specs.Pictures.{Fits}
use Rattle.csp_log.specs.declared.entry.Entry.{Entry}
use Rattle.csp_log.specs.declared.frame.Frame.{Frame}
use Rattle.csp_log.specs.declared.places.LinkKind.{LinkKind}
use Rattle.csp_log.specs.declared.shown.ItemShown.{ItemShown}
use Rattle.csp_log.specs.declared.shown.ItemShown.TheVariants as item
use Rattle.csp_log.specs.declared.shown.AnswerShown.{AnswerShown}
use Rattle.csp_log.specs.declared.shown.AnswerShown.TheVariants as answer
use Rattle.csp_link.proofs.Kept.{Stands, stands}
use Rattle.csp_link.proofs.Named.{fates_are}

-- one direction led to the other: it popped the first frames, and pushed the others
pub record Applied (a b : PlainDirection) (popped pushed : List Frame) : Type 0 where
  pub fates : b.fates ≡ a.fates
  pub count : b.popped ≡ a.popped + length popped
  pub same : IsPermutation (frames_in a.held ++ made_from (fate_at a.fates) (a.popped + 1) popped) (pushed ++ frames_in b.held)

pub applied_none : (d : PlainDirection) → Applied d d [] []
applied_none d = record {
  fates = refl;
  count = omega arith;
  same = subst (λ fs. IsPermutation fs (frames_in d.held)) (sym (append-nil (frames_in d.held))) (IsPermutation-refl (frames_in d.held));
}

made_append : (fate : ℕ → Fate) (n m : ℕ) (xs ys : List Frame) → m ≡ n + length xs → made_from fate n (xs ++ ys) ≡ made_from fate n xs ++ made_from fate m ys
made_append fate n m [] ys e = let same : n ≡ m = omega (arith, e) in ap (λ k. made_from fate k ys) same
made_append fate n m (x ∷ xs) ys e =
    ap (λ fs. copies_of (fate n) x ++ fs) (made_append fate (n + 1) m xs ys (omega (arith, e)))
    ∙ sym (append_assoc (copies_of (fate n) x) (made_from fate (n + 1) xs) (made_from fate m ys))

-- one after the other
pub applied_both : (a b d : PlainDirection) (xs ys us vs : List Frame) → Applied a b xs us → Applied b d ys vs → Applied a d (xs ++ ys) (us ++ vs)
applied_both a b d xs ys us vs f g =
    let first : List Frame = made_from (fate_at a.fates) (a.popped + 1) xs in
    let rest : List Frame = made_from (fate_at b.fates) (b.popped + 1) ys in
    let cut : frames_in a.held ++ made_from (fate_at a.fates) (a.popped + 1) (xs ++ ys) ≡ (frames_in a.held ++ first) ++ rest =
    ap (λ fs. frames_in a.held ++ fs) (made_append (fate_at a.fates) (a.popped + 1) (b.popped + 1) xs ys (omega (arith, f.count)) ∙ ap (λ (t : Fates). first ++ made_from (fate_at t) (b.popped + 1) ys) (sym f.fates))
    ∙ sym (append_assoc (frames_in a.held) first rest) in
    record {
      fates = g.fates ∙ f.fates;
      count = omega (arith, f.count, g.count, length-append xs ys);
      same = subst (λ fs. IsPermutation fs ((us ++ vs) ++ frames_in d.held)) (sym cut)
          (IsPermutation-trans ((frames_in a.held ++ first) ++ rest) ((us ++ frames_in b.held) ++ rest) ((us ++ vs) ++ frames_in d.held)
          (IsPermutation-append_left rest (frames_in a.held ++ first) (us ++ frames_in b.held) f.same)
          (subst (λ fs. IsPermutation fs ((us ++ vs) ++ frames_in d.held)) (sym (append_assoc us (frames_in b.held) rest))
          (subst (λ fs. IsPermutation (us ++ (frames_in b.held ++ rest)) fs) (sym (append_assoc us vs (frames_in d.held)))
          (IsPermutation-append_right us (frames_in b.held ++ rest) (vs ++ frames_in d.held) g.same))));
    }

-- a held frame is pushed
applied_pushed : (d : PlainDirection) (place : ℕ) (h : Held) → Stands d.held place h → Applied d (record d { held = remove d.held place }) [] (h.frame ∷ [])
applied_pushed d place h stood =
    let front : List Held = take place d.held in
    let back : List Held = drop (suc place) d.held in
    let cut : frames_in d.held ++ [] ≡ frames_in front ++ h.frame ∷ frames_in back =
    append-nil (frames_in d.held) ∙ ap frames_in (sym stood.parts) ∙ map-append (λ (x : Held). x.frame) front (h ∷ back) in
    record {
      fates = refl;
      count = omega arith;
      same = subst (λ fs. IsPermutation fs (h.frame ∷ frames_in (remove d.held place))) (sym cut)
          (subst (λ fs. IsPermutation (frames_in front ++ h.frame ∷ frames_in back) (h.frame ∷ fs)) (sym (map-append (λ (x : Held). x.frame) front back))
          (IsPermutation-middle (frames_in front) h.frame (frames_in back)));
    }

frames_held : (due : ℕ) (frames : List Frame) → frames_in (map (held_until due) frames) ≡ frames
frames_held due [] = refl
frames_held due (f ∷ fs) = ap (λ gs. f ∷ gs) (frames_held due fs)

-- a frame is popped
applied_popped : (d : PlainDirection) (now : ℕ) (f : Frame) → Applied d (taken now (Some f) d) (f ∷ []) []
applied_popped d now f =
    let fate : Fate = fate_at d.fates (d.popped + 1) in
    let all : frames_in d.held ++ (copies_of fate f ++ []) ≡ frames_in (d.held ++ held_copies fate now f) =
    ap (λ fs. frames_in d.held ++ fs) (append-nil (copies_of fate f) ∙ sym (frames_held (now + fate.delay) (copies_of fate f)))
    ∙ sym (map-append (λ (x : Held). x.frame) d.held (held_copies fate now f)) in
    record {
      fates = refl;
      count = omega arith;
      same = subst (λ fs. IsPermutation fs (frames_in (d.held ++ held_copies fate now f))) (sym all) (IsPermutation-refl (frames_in (d.held ++ held_copies fate now f)));
    }

-- a frame comes back into its place
applied_kept : (d : PlainDirection) (place : ℕ) (h : Held) (i : ItemShown) → Stands d.held place h → i ≡ item.Frame h.frame → Applied d (kept place h.due (frame_in i) (record d { held = remove d.held place })) [] []
applied_kept d place h i stood e =
    subst (λ x. Applied d (kept place h.due (frame_in x) (record d { held = remove d.held place })) [] []) (sym e)
    (subst (λ hs. Applied d (record d { held = hs }) [] []) (sym stood.back) (applied_none d))

-- the direction whose turn it is
moved : (d : PlainDirection) (now : ℕ) (way : Way) (due : Option (ℕ × Held)) (few : Bool) (a : AnswerShown) → first_due now d.held ≡ due → let t = turn_of way now due d (first_rule due few) in
    Fits t.asks a → Applied d ((turn_of way now None t.until (first_rule due few)).told a) (popped_by way t.asks a) (pushed_by way t.asks a)
moved d now Forth (Some p) few answer.Pushed e f = applied_pushed d p.0 p.1 (stands (λ h. nat_le h.due now) d.held p.0 p.1 e)
moved d now Back (Some p) few answer.Pushed e f = applied_pushed d p.0 p.1 (stands (λ h. nat_le h.due now) d.held p.0 p.1 e)
moved d now way (Some p) few (answer.Full i) e f = applied_kept d p.0 p.1 i (stands (λ h. nat_le h.due now) d.held p.0 p.1 e) f
moved d now Forth None true (answer.Popped (item.Frame g)) e f = applied_popped d now g
moved d now Back None true (answer.Popped (item.Frame g)) e f = applied_popped d now g
moved d now way None true (answer.Popped (item.Packet _ _)) e f = applied_none d
moved d now way None true (answer.Popped (item.Note _)) e f = applied_none d
moved d now way None true answer.Empty e f = applied_none d
moved d now way None false answer.Nothing e f = applied_none d
moved d now way _ _ _ e f = absurd f

-- the other one
idle : (d e : PlainDirection) (now : ℕ) (way : Way) (due : Option (ℕ × Held)) (few : Bool) (a : AnswerShown) → let t = turn_of (other way) now due e (first_rule due few) in Applied d d (popped_by way t.asks a) (pushed_by way t.asks a)
idle d e now Forth (Some _) few answer.Pushed = applied_none d
idle d e now Back (Some _) few answer.Pushed = applied_none d
idle d e now Forth None true (answer.Popped (item.Frame _)) = applied_none d
idle d e now Back None true (answer.Popped (item.Frame _)) = applied_none d
idle d e now _ _ _ _ = applied_none d

turn_applied : (kind : LinkKind) (forth back : PlainDirection) (w : Way) (doing : Doing) (now : ℕ) (a : AnswerShown) (way : Way)
    → let s : PlainLink = record { kind = kind; forth = forth; back = back; way = w; doing = doing } in
    Fits (link_steps.asks s now) a → Applied (direction s way) (direction (link_steps.tells (link_steps.asked s now) now a) way) (popped_by way (link_steps.asks s now) a) (pushed_by way (link_steps.asks s now) a)
turn_applied kind forth back Forth doing now a Forth f = moved forth now Forth (first_due now forth.held) (nat_le (length forth.held) MOST_HELD) a refl f
turn_applied kind forth back Forth doing now a Back f = idle back forth now Back (first_due now forth.held) (nat_le (length forth.held) MOST_HELD) a
turn_applied kind forth back Back doing now a Forth f = idle forth back now Forth (first_due now back.held) (nat_le (length back.held) MOST_HELD) a
turn_applied kind forth back Back doing now a Back f = moved back now Back (first_due now back.held) (nat_le (length back.held) MOST_HELD) a refl f

step_applied : (s : PlainLink) (e : Entry) (way : Way) → IsStep link_steps s e → Applied (direction s way) (direction (step_after link_steps s e) way) (popped_by way e.op e.answer) (pushed_by way e.op e.answer)
step_applied s e way step =
    subst (λ o. Applied (direction s way) (direction (step_after link_steps s e) way) (popped_by way o e.answer) (pushed_by way o e.answer)) (sym step.op)
    (turn_applied s.kind s.forth s.back s.way s.doing e.time e.answer way step.fits)

run_applied : (es : List Entry) (time : ℕ) (s z : PlainLink) → IsRun link_steps time s es → state_after link_steps s es ≡ z → (way : Way) → Applied (direction s way) (direction z way) (frames_popped way es) (frames_pushed way es)
run_applied [] time s z run e way = subst (λ x. Applied (direction s way) (direction x way) [] []) e (applied_none (direction s way))
run_applied (x ∷ es) time s z run e way =
    let next : PlainLink = step_after link_steps s x in
    applied_both (direction s way) (direction next way) (direction z way) (popped_by way x.op x.answer) (frames_popped way es) (pushed_by way x.op x.answer) (frames_pushed way es)
    (step_applied s x way run.1) (run_applied es x.time next z run.2 e way)

-- by the plan itself
by_plan : (plan : List Fault) (es : List Entry) (s : PlainLink) (way : Way) → IsPermutation (made_from (fate_at (fates_of (number way) plan)) 1 (frames_popped way es)) (frames_pushed way es ++ frames_in (direction s way).held)
    → IsPermutation (made plan way (frames_popped way es)) (frames_pushed way es ++ frames_in (direction s way).held)
by_plan plan es s way = subst (λ (fate : ℕ → Fate). IsPermutation (made_from fate 1 (frames_popped way es)) (frames_pushed way es ++ frames_in (direction s way).held)) (λ i n. fates_are (number way) n plan i)

-- from the opening on
pub applies : (kind : LinkKind) (plan : List Fault) (es : List Entry) (s : PlainLink) → Runs link_steps (opening kind plan) es s → AppliesPlan plan es s
applies kind plan es s runs way = by_plan plan es s way (same way)
  where
    same : (way : Way) → IsPermutation (made_from (fate_at (fates_of (number way) plan)) 1 (frames_popped way es)) (frames_pushed way es ++ frames_in (direction s way).held)
    same Forth = (run_applied es 0 (opening kind plan) s runs.run runs.reached Forth).same
    same Back = (run_applied es 0 (opening kind plan) s runs.run runs.reached Back).same

-- what one entry adds to what the log of a router tells
use Rattle.std.proofs.Common.{◌≡◌, ℕ, ◌+◌, ◌==◌, Bool, true, false, Option, None, Some, List, [], ◌∷◌, ◌++◌, refl, sym, ap, ◌∙◌}
use Rattle.std.specs.Prelude.{if◌then◌else◌}
use Rattle.std.specs.List.{flat_map}
use Rattle.std.proofs.lemmas.Grind.{flat_map-append}
use Rattle.std.proofs.lemmas.List.{append-nil, append_assoc}
use Rattle.csp_base.specs.declared.seat.Seat.{Seat}
use Rattle.csp_log.specs.Moving.{moved_by}
use Rattle.csp_log.specs.Noting.{noted_by}
use Rattle.csp_log.specs.declared.event.Event.{Event}
use Rattle.csp_log.specs.declared.shown.AnswerShown.{AnswerShown}
use Rattle.csp_log.specs.declared.shown.OpShown.{OpShown}
use Rattle.csp_record.specs.Connections.{opened_by}
use Rattle.csp_record.specs.Ordinals.{frees}
use Rattle.csp_record.specs.Payloads.{carried, is_on, told_on}
use Rattle.csp_record.specs.declared.payloads.Transfer.TheVariants as way
use Rattle.csp_prefix.specs.Delivered.{delivered_by}
use Rattle.csp_prefix.proofs.RouterBooks.{Past, ends_of, past_after, past_same, with_openings}

-- a turn that moves no payload of a connection and frees no slot
pub record IsQuiet (o : OpShown) (a : AnswerShown) (events : List Event) : Type 0 where
  pub free : (seat : Seat) → frees way.Sent seat (noted_by o a) ≡ false
  pub sent : (seat : Seat) → told_on way.Sent seat.slot events (carried way.Sent seat.app (moved_by o a)) ≡ []
  pub down : (seat : Seat) → delivered_by seat o a ≡ []

-- and then none of any ordinal
pub none_on : {X : Type 0} (b : Bool) (xs : List X) → xs ≡ [] → [] ≡ (if b then xs else [])
none_on true xs none = sym none
none_on false xs none = refl

pub quiet_entry : (o : OpShown) (a : AnswerShown) (events : List Event) (h : Past) → IsQuiet o a events → with_openings events h ≡ past_after o a events h
quiet_entry o a events h q =
    past_same (with_openings events h) (past_after o a events h) (λ app. refl)
    (λ seat ordinal. sym (append-nil _) ∙ ap (λ xs. h.sent seat ordinal ++ xs) (none_on (h.ends seat == ordinal) _ (q.sent seat)))
    (λ seat ordinal. sym (append-nil _) ∙ ap (λ xs. h.down seat ordinal ++ xs) (none_on (h.ends seat == ordinal) _ (q.down seat)))
    (λ seat. ap (λ b. if b then h.ends seat + 1 else h.ends seat) (sym (q.free seat))) refl

-- none of these events tells that something was sent
abbrev pub AreUnsent : List Event → Type 0
AreUnsent es = (slot : ℕ) (payload : Option (List ℕ)) → told_on way.Sent slot es payload ≡ []

-- events that come first, of which none tells that
pub split_entry : (o : OpShown) (a : AnswerShown) (es fs : List Event) (h : Past) → AreUnsent es → past_after o a fs (with_openings es h) ≡ past_after o a (es ++ fs) h
split_entry o a es fs h unsent =
    past_same (past_after o a fs (with_openings es h)) (past_after o a (es ++ fs) h)
    (λ app. append_assoc (h.opened app) _ _ ∙ ap (λ xs. h.opened app ++ xs) (sym (flat_map-append (opened_by app (ends_of app h)) es fs)))
    (λ seat ordinal. ap (λ xs. h.sent seat ordinal ++ (if h.ends seat == ordinal then xs else [])) (sym (both seat.slot (carried way.Sent seat.app (moved_by o a)))))
    (λ seat ordinal. refl) (λ seat. refl) refl
  where
    both : (slot : ℕ) (payload : Option (List ℕ)) → told_on way.Sent slot (es ++ fs) payload ≡ told_on way.Sent slot fs payload
    both slot None = refl
    both slot (Some payload) =
        flat_map-append (λ e. if is_on way.Sent slot e then payload ∷ [] else []) es fs
        ∙ ap (λ xs. xs ++ flat_map (λ e. if is_on way.Sent slot e then payload ∷ [] else []) fs) (unsent slot (Some payload))

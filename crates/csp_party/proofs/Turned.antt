-- A party over its plain state: what a turn makes of it, and what it reports.
use Rattle.std.proofs.Common.{◌≡◌, ℕ, zero, suc, ◌+◌, ◌*◌, ◌-◌, ◌<◌, ◌≤◌, refl, arith}
use Rattle.csp_log.specs.declared.shown.AnswerShown.{AnswerShown}
use Rattle.csp_party.specs.Any.{plain, with_plain, asked, tells, events}
use Rattle.csp_party.specs.declared.any.AnyParty.{AnyParty}
use Rattle.csp_party.specs.declared.any.AnyParty.TheVariants as party

-- what a party's turn makes of its state, and what it reports
pub plain_told : (p : AnyParty) (time : ℕ) (a : AnswerShown) → plain (with_plain (with_plain p (asked (plain p) time)) (tells (plain (with_plain p (asked (plain p) time))) time a)) ≡ tells (asked (plain p) time) time a
plain_told (party.Router r) time a = refl
plain_told (party.Bridge b) time a = refl
plain_told (party.Iface i) time a = refl
plain_told (party.App p) time a = refl
plain_told (party.Link l) time a = refl
plain_told (party.Hub h) time a = refl

pub events_told : (p : AnyParty) (time : ℕ) (a : AnswerShown) → events (plain (with_plain p (asked (plain p) time))) time a ≡ events (asked (plain p) time) time a
events_told (party.Router r) time a = refl
events_told (party.Bridge b) time a = refl
events_told (party.Iface i) time a = refl
events_told (party.App p) time a = refl
events_told (party.Link l) time a = refl
events_told (party.Hub h) time a = refl

-- the boxes of one turn less serve one turn less
pub stock_left : (needs spare stock left : ℕ) → 0 < spare → needs * spare ≤ stock → stock ≤ left + needs → needs * (spare - 1) ≤ left
stock_left needs zero stock left h e f = absurd (omega arith)
stock_left needs (suc spare) stock left h e f =
    let less : suc spare - 1 ≡ spare = omega arith in
    let more : needs * suc spare ≡ needs * spare + needs = grind (arith) in
    rw less (omega (arith, e, f, more))

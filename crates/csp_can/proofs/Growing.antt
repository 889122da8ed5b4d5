-- A frame that goes on with the last partial packet leaves the others as they stand, and no other one is a part.
use Rattle.std.proofs.Common.{◌≡◌, ℕ, suc, ◌+◌, ◌-◌, ◌<◌, ◌==◌, Bool, true, Some, false, List, [], ◌∷◌, ◌++◌, length, get_or, set, refl, sym, ap, ◌∙◌, arith}
use Rattle.std.specs.Prelude.{Option, nat_lt, position, remove, if◌then◌else◌}
use Rattle.std.specs.Option.{option_map, option_to_list}
use Rattle.std.proofs.lemmas.Bool.Decides.{nat_tests}
use Rattle.csp_base.specs.declared.traces.Trace.{Trace}
use Rattle.csp_can.specs.declared.answers.CanEvent.TheVariants.{Part, Whole, BadRemain, TooMuch}
use Rattle.csp_can.specs.declared.identifiers.Key.{Key}
use Rattle.csp_can.specs.declared.partials.Partial.{Partial}
use Rattle.csp_can.specs.Identifiers.{key_of, same_key}
use Rattle.csp_can.specs.Open.{counters, standing, without}
use Rattle.csp_can.specs.Rules.{Arrival, Ruling, grown_partial, more_ruling, refused, ends, goes_on}
use Rattle.csp_can.specs.Steps.{more_said, after, IsPartWith, StandsLast}
use Rattle.csp_can.proofs.Places.{present, position_inside, last_replaced}

-- the ruling where a packet goes on
abbrev going : Ruling
going = record { restarted = false; event = Part; deed = goes_on }

goes : (p : Partial) (a : Arrival) → a.frame.head.remain + 1 ≡ p.remain → length (p.payload.items ++ a.frame.bytes) < p.length → more_ruling (Some p) a ≡ going
goes p a next short = grind (arith, nat_tests)

-- the ruling by what is the case
abbrev ruled : (next more same : Bool) (header : ℕ) (payload : List ℕ) (trace : Trace) → Ruling
ruled next more same header payload trace =
    if next then (if more then refused TooMuch ends else (if same then refused (Whole header (record { items = payload }) trace) ends else going)) else refused BadRemain ends

picked : (next more same : Bool) (header : ℕ) (payload : List ℕ) (trace : Trace) → (ruled next more same header payload trace).event ≡ Part → (next ≡ true) × (more ≡ false) × (same ≡ false)
picked false more same header payload trace e = cc
picked true true same header payload trace e = cc
picked true false true header payload trace e = cc
picked true false false header payload trace e = (refl, refl, refl)

only_part : (p : Partial) (a : Arrival) → (more_ruling (Some p) a).event ≡ Part → IsPartWith p a.frame
only_part p a e =
    let f = a.frame in
    let tests = picked (f.head.remain + 1 == p.remain) (nat_lt p.length (length (p.payload.items ++ f.bytes))) (length (p.payload.items ++ f.bytes) == p.length) p.header (p.payload.items ++ f.bytes) p.trace e in
    let next = tests.0 in
    let more = tests.1 in
    let same = tests.2 in
    (grind (arith, nat_tests), grind (arith, nat_tests))

-- where the partial packet of a frame's key stands, a part is a part of it
pub part_there : (ps : List Partial) (a : Arrival) (i : ℕ) (d p : Partial) → position (λ (q : Partial). same_key q.key (key_of a.frame.head)) ps ≡ Some i → p ≡ get_or ps i d → (more_said ps a).event ≡ Part → IsPartWith p a.frame
part_there ps a i d p first is e =
    let got = present (λ (q : Partial). same_key q.key (key_of a.frame.head)) ps i d first in
    only_part p a (ap (λ (o : Option Partial). (more_ruling o a).event) (sym (got.0 ∙ ap (λ (q : Partial). Some q) (sym is))) ∙ e)

-- a partial packet that stands last is at the last place
pub at_end : (ps : List Partial) (key : Key) (i : ℕ) → position (λ (q : Partial). same_key q.key key) ps ≡ Some i → StandsLast key ps → suc i ≡ length ps
at_end ps key i first last =
    let inside : i < length ps = position_inside (λ (q : Partial). same_key q.key key) ps i first in
    let same : i ≡ length ps - 1 = cc in
    omega arith

module _ (ps : List Partial) (a : Arrival) (i : ℕ) (d p : Partial) (first : position (λ (q : Partial). same_key q.key (key_of a.frame.head)) ps ≡ Some i) (is : p ≡ get_or ps i d) (next : a.frame.head.remain + 1 ≡ p.remain) (short : length (p.payload.items ++ a.frame.bytes) < p.length) where
  there : (standing counters (key_of a.frame.head) ps ≡ Some p) × (without counters (key_of a.frame.head) ps ≡ remove ps i)
  there = let got = present (λ (q : Partial). same_key q.key (key_of a.frame.head)) ps i d first in (got.0 ∙ ap (λ (q : Partial). Some q) (sym is), got.1)

  pub said_going : more_said ps a ≡ going
  said_going = ap (λ (o : Option Partial). more_ruling o a) there.0 ∙ goes p a next short

  pub last_grown : suc i ≡ length ps → set ps i (grown_partial p a) ≡ after (more_said ps a) ps a
  last_grown last =
      last_replaced ps i (grown_partial p a) last
      ∙ ap (λ (qs : List Partial). qs ++ grown_partial p a ∷ []) (sym there.1)
      ∙ ap (λ (o : Option Partial). without counters (key_of a.frame.head) ps ++ option_to_list (option_map (λ (q : Partial). grown_partial q a) o)) (sym there.0)
      ∙ ap (λ (r : Ruling). after r ps a) (sym said_going)

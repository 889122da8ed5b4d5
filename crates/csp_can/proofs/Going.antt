-- A frame by which the partial packet that stands last goes on: what a listener answers to it, and what stands after it.
use Rattle.std.proofs.Common.{◌≡◌, ◌+◌, true, false, cond, None, Some, List, length, refl, ap, ◌∙◌, sym}
use Rattle.std.specs.Prelude.{◌==◌, nat_le, nat_lt, Option}
use Rattle.std.specs.Option.{option_map}
use Rattle.csp_can.specs.Identifiers.{key_of}
use Rattle.csp_can.specs.Listening.{Listening, answered, listened}
use Rattle.csp_can.specs.Open.{answer_of, counters, done, fresh, gone_on, ruling, standing}
use Rattle.csp_can.specs.Rules.{Arrival, Ruling, ends, goes_on, grown_partial, measured, more_ruling, refused, ruling_of}
use Rattle.csp_can.specs.Steps.{GoesOnLast, after, more_said}
use Rattle.csp_can.specs.declared.answers.CanEvent.TheVariants.{BadRemain, Part, TooMuch, Whole}
use Rattle.csp_can.specs.declared.identifiers.Kind.{Kind}
use Rattle.csp_can.specs.declared.identifiers.Kind.TheVariants.{More}
use Rattle.csp_can.specs.declared.partials.Partial.{Partial}
use Rattle.csp_can.specs.declared.partials.TheConstants.{MAX_PARTIALS}
use Rattle.csp_can.proofs.Counted.{option_map_same}

-- what measures a packet that goes on restarts none
measured_restarts : (p : Partial) → (measured false p goes_on).restarted ≡ false
measured_restarts p =
    elim (nat_lt p.length (length p.payload.items)) as (λ t. (cond {A = Ruling} t (record { restarted = false; event = TooMuch; deed = ends }) (cond {A = Ruling} (length p.payload.items == p.length) (record { restarted = false; event = Whole p.header p.payload p.trace; deed = ends }) (record { restarted = false; event = Part; deed = goes_on }))).restarted ≡ false) [
      | true ↦ refl
      | false ↦
          elim (length p.payload.items == p.length) as (λ t. (cond {A = Ruling} t (record { restarted = false; event = Whole p.header p.payload p.trace; deed = ends }) (record { restarted = false; event = Part; deed = goes_on })).restarted ≡ false) [
            | true ↦ refl
            | false ↦ refl
          ]
    ]

-- a MORE frame ends no partial packet by a new one
more_restarts : (o : Option Partial) (a : Arrival) → (more_ruling o a).restarted ≡ false
more_restarts None a = refl
more_restarts (Some p) a =
    elim (a.frame.head.remain + 1 == p.remain) as (λ t. (cond {A = Ruling} t (measured false (grown_partial p a) goes_on) (refused BadRemain ends)).restarted ≡ false) [
      | true ↦ measured_restarts (grown_partial p a)
      | false ↦ refl
    ]

module _ (l : Listening) (a : Arrival) (more : a.frame.head.kind ≡ More) (goes : GoesOnLast l.partials a) where
  said : ruling counters l.mtu (fresh counters a.time l.partials) a ≡ more_said l.partials a
  said =
      ap (λ (ps : List Partial). ruling counters l.mtu ps a) goes.fresh
      ∙ ap (λ (k : Kind). ruling_of l.mtu k (option_map (λ p. p) (standing counters (key_of a.frame.head) l.partials)) (nat_le MAX_PARTIALS (length l.partials)) a) more
      ∙ ap (λ (o : Option Partial). more_ruling o a) (option_map_same (standing counters (key_of a.frame.head) l.partials))

  -- the packet goes on
  pub goes_answer : answered l a ≡ record { restarted = false; event = Part }
  goes_answer =
      ap answer_of said
      ∙ (λ i. record { restarted = more_restarts (standing counters (key_of a.frame.head) l.partials) a i; event = goes.event i })

  -- and stands with the frame
  pub goes_state : record { mtu = l.mtu; partials = after (more_said l.partials a) l.partials a } ≡ listened l a
  goes_state = sym (λ i. record { mtu = l.mtu; partials = done counters (said i).deed (key_of a.frame.head) (counters.opened a) (gone_on counters (goes.fresh i) a) (goes.fresh i) })

use Rattle.std.specs.Prelude.{◌≡◌, ℕ, ◌-◌, ◌<◌, false, List, [], ◌∷◌, ◌++◌, length, map, replicate}
use Rattle.csp_base.specs.declared.traces.Trace.{Trace}
use Rattle.csp_can.specs.declared.answers.CanAnswer.{CanAnswer}
use Rattle.csp_can.specs.declared.answers.CanEvent.TheVariants.{Part, Whole}
use Rattle.csp_can.specs.declared.partials.TheConstants.{GIVE_UP}
use Rattle.csp_can.specs.Frames.{Frame}
use Rattle.csp_can.specs.Rules.{Arrival}
use Rattle.csp_can.specs.Open.{Kept, answer, next, whole_frames}

-- the answers to frames that come one after another where these partial packets stand
abbrev pub answers : (mtu : ℕ) → List Kept → List Arrival → List CanAnswer
answers mtu ks [] = []
answers mtu ks (a ∷ later) = answer whole_frames mtu ks a ∷ answers mtu (next whole_frames mtu ks a) later

-- each comes less than 1,000 rounds after the one before
abbrev pub Prompt : ℕ → List Arrival → Type 0
Prompt time [] = Unit {0}
Prompt time (a ∷ later) = (a.time - time < GIVE_UP) × Prompt a.time later

-- the answer Part
abbrev pub part : CanAnswer
part = record { restarted = false; event = Part }

-- the answer Whole with this packet
abbrev pub whole : ℕ → List ℕ → Trace → CanAnswer
whole header payload trace = record { restarted = false; event = Whole header (record { items = payload }) trace }

-- where nothing else stands or comes, and none is late, the answers to these frames are Part at all but the last, and at the last Whole with this packet and the first frame's trace
abbrev pub ReadsAs : (mtu : ℕ) → List Frame → ℕ → List ℕ → Type 0
ReadsAs mtu frames header payload =
    (a : Arrival) (later : List Arrival) → map (λ b. b.frame) (a ∷ later) ≡ frames → Prompt a.time later
    → answers mtu [] (a ∷ later) ≡ replicate (length later) part ++ whole header payload a.trace ∷ []

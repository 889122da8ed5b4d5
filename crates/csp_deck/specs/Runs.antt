-- that a log is a run of a party's steps from an opening, whatever the party is
use Rattle.std.specs.Prelude.{◌≡◌, ℕ, ◌+◌, ◌≤◌, Bool, false, List, [], ◌∷◌, ⊤}
use Rattle.std.specs.List.{flat_map}
use Rattle.csp_log.specs.Pictures.{Fits}
use Rattle.csp_deck.specs.Step.{op_numbers, answer_numbers, times}
use Rattle.csp_log.specs.declared.entry.Entry.{Entry}
use Rattle.csp_log.specs.declared.event.Event.{Event}
use Rattle.csp_log.specs.declared.shown.OpShown.{OpShown}
use Rattle.csp_log.specs.declared.shown.AnswerShown.{AnswerShown}

-- a party's step: whether it has ended, what it asks, what it is then, and what it becomes and reports when told
pub record Steps (S : Type 0) : Type 0 where
  pub has_ended : S → Bool
  pub asks : S → ℕ → OpShown
  pub asked : S → ℕ → S
  pub tells : S → ℕ → AnswerShown → S
  pub events : S → ℕ → AnswerShown → List Event

-- the state after the turn of which this is the entry
abbrev pub step_after : {S : Type 0} → Steps S → S → Entry → S
step_after p s e = p.tells (p.asked s e.time) e.time e.answer

-- the entry is that of a turn of a party in this state: it goes on, asks this, is answered what fits, and reports this
pub record IsStep {S : Type 0} (p : Steps S) (s : S) (e : Entry) : Type 0 where
  pub goes_on : p.has_ended s ≡ false
  pub op : e.op ≡ p.asks s e.time
  pub fits : Fits (p.asks s e.time) e.answer
  pub events : e.events.items ≡ p.events (p.asked s e.time) e.time e.answer

-- the entries are those of turns from this state on, none before this time, and time never falls
abbrev pub IsRun : {S : Type 0} → Steps S → ℕ → S → List Entry → Type 0
IsRun p time s [] = ⊤
IsRun p time s (e ∷ es) = (time ≤ e.time) × IsStep p s e × IsRun p e.time (step_after p s e) es

-- the state after these turns
abbrev pub state_after : {S : Type 0} → Steps S → S → List Entry → S
state_after p s [] = s
state_after p s (e ∷ es) = state_after p (step_after p s e) es

-- the time of the last entry, or this time where there is none
abbrev pub last_time : ℕ → List Entry → ℕ
last_time time [] = time
last_time time (e ∷ es) = last_time e.time es

-- the numbers of the buffers that were handed over, and of those that came
abbrev pub handed_over : List Entry → List ℕ
handed_over es = flat_map (λ e. op_numbers e.op) es

-- the numbers of the buffers that the answers of entries brought
abbrev pub received : List Entry → List ℕ
received es = flat_map (λ e. answer_numbers e.answer) es

-- the entries are a run of the party's steps from the opening to this state
pub record Runs {S : Type 0} (p : Steps S) (opening : S) (es : List Entry) (s : S) : Type 0 where
  pub run : IsRun p 0 opening es
  pub reached : state_after p opening es ≡ s

-- they are, and of each number the party holds what it held at the opening and received since, less what it handed over
pub record IsKept {S : Type 0} (p : Steps S) (holds : S → List ℕ) (opening : S) (es : List Entry) (s : S) : Type 0 where
  pub runs : Runs p opening es s
  pub held : (k : ℕ) → times k (holds s) + times k (handed_over es) ≡ times k (holds opening) + times k (received es)

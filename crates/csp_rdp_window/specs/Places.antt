-- the places of a window, and what they hold: what a window is seen as, which no clause of its calls names
use Rattle.std.specs.Prelude.{◌≡◌, ℕ, ◌+◌, ◌*◌, ◌^◌, ◌<◌, ◌≤◌, true, List, [], ◌∷◌, Option, Some, None}
use Rattle.csp_buffer.specs.PlainBuffer.{PlainBuffer}
use Rattle.csp_base.specs.declared.sequence.Seq.{Seq}
use Rattle.csp_rdp_window.specs.Receiving.{Kept, PlainRecv}
use Rattle.csp_rdp_window.specs.Sending.{PlainSend}
use Rattle.csp_rdp_window.specs.declared.pending.Pending.{Pending}

-- what places hold, in their order
abbrev pub held_in : {T : Type 0} → List (Option T) → List T
held_in [] = []
held_in (None ∷ places) = held_in places
held_in (Some x ∷ places) = x ∷ held_in places

-- the first that places hold
abbrev pub first_held : {T : Type 0} → List (Option T) → Option T
first_held [] = None
first_held (None ∷ places) = first_held places
first_held (Some x ∷ places) = Some x

-- the places without it
abbrev pub without_held : {T : Type 0} → List (Option T) → List (Option T)
without_held [] = []
without_held (None ∷ places) = None ∷ without_held places
without_held (Some x ∷ places) = None ∷ places

-- what places hold, the first that of this index, the next that of the next
abbrev pub kept_in : ℕ → List (Option PlainBuffer) → List Kept
kept_in t [] = []
kept_in t (None ∷ places) = kept_in (t + 1) places
kept_in t (Some b ∷ places) = record { index = t; buffer = b } ∷ kept_in (t + 1) places

-- the packets in places are in their order, 20 before the first place's number and on, and those that are needed are at least una
abbrev pub ArePlaced : ℕ → ℕ → List (Option Pending) → Type 0
ArePlaced una t [] = Unit {0}
ArePlaced una t (None ∷ places) = ArePlaced una (t + 1) places
ArePlaced una t (Some p ∷ places) = (p.index + 20 ≡ t) × (p.needed ≡ true → una ≤ p.index) × ArePlaced una (t + 1) places

-- what a send window is seen as
abbrev pub send_view : Seq → ℕ → ℕ → ℕ → List (Option Pending) → PlainSend
send_view start window una nxt places = record { start = start.0; window = window; una = una; nxt = nxt; packets = held_in places }

-- what the fields of a send window keep
pub record IsSendSound (window una nxt : ℕ) (places : List (Option Pending)) : Type 0 where
  pub low : 1 ≤ una
  pub ordered : una ≤ nxt
  pub range : nxt ≤ 2 ^ 32
  pub narrow : window ≤ 20
  pub placed : ArePlaced una nxt places

-- what a receive window is seen as
abbrev pub recv_view : Seq → ℕ → ℕ → List (Option PlainBuffer) → PlainRecv
recv_view start window cur places = record { start = start.0; window = window; cur = cur; kept = kept_in (cur + 1) places }

-- what the fields of a receive window keep
pub record IsRecvSound (window cur : ℕ) : Type 0 where
  pub range : cur < 2 ^ 32
  pub narrow : 2 * window ≤ 40

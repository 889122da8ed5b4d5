use Rattle.std.specs.Prelude.{◌≡◌, ℕ, ◌+◌, ◌<◌, ◌≤◌, ◌||◌, Bool, nat_lt, is_some, unwrap_or, Option, Some, None, List, [], ◌∷◌, ◌++◌, length, map, take, IsTrue, All, Contains}
use Rattle.std.specs.Option.{option_map}
use Rattle.csp_base.specs.declared.traces.Trace.{Trace}
use Rattle.csp_can.specs.declared.identifiers.Kind.{Kind}
use Rattle.csp_can.specs.declared.identifiers.Kind.TheVariants.{Begin, More}
use Rattle.csp_can.specs.declared.partials.TheConstants.{MAX_PARTIALS}
use Rattle.csp_can.specs.Begins.{begin_header, begin_length}
use Rattle.csp_can.specs.Identifiers.{key_of}
use Rattle.csp_can.specs.Frames.{Frame}
use Rattle.csp_can.specs.Rules.{Arrival}
use Rattle.csp_can.specs.Open.{Kept, joined, standing, fresh, whole_frames}

-- these are MORE frames, and each remain is one less than the one before, from this remain on
abbrev pub CountsDown : ℕ → List Frame → Type 0
CountsDown remain [] = Unit {0}
CountsDown remain (f ∷ fs) = (f.head.kind ≡ More) × (f.head.remain + 1 ≡ remain) × CountsDown f.head.remain fs

-- a BEGIN frame with this header and the payload's length, then MORE frames whose remain counts down; their payload bytes joined are the payload, and no shorter front of them reaches its length
pub record IsChain (begin : Frame) (more : List Frame) (header : ℕ) (payload : List ℕ) : Type 0 where
  pub kind : begin.head.kind ≡ Begin
  pub enough : 6 ≤ length begin.bytes
  pub header_is : begin_header begin.bytes ≡ header
  pub length_is : begin_length begin.bytes ≡ length payload
  pub counts_down : CountsDown begin.head.remain more
  pub payload_is : joined begin more ≡ payload
  pub no_shorter : (n : ℕ) → n < length more → length (joined begin (take n more)) < length payload

-- these frames are one whole packet, of this header and payload
abbrev pub Chain : List Frame → ℕ → List ℕ → Type 0
Chain [] header payload = ⊥
Chain (begin ∷ more) header payload = IsChain begin more header payload

-- whichever of these frames come, and however often and in whatever order, no packet but this one can be made of them
abbrev pub MakesOnly : List Frame → ℕ → List ℕ → Type 0
MakesOnly frames header payload =
    (fs : List Frame) (h : ℕ) (p : List ℕ) → All (Contains frames) fs → Chain fs h p → (h ≡ header) × (p ≡ payload)

-- the frames kept of a partial packet, and none where there is no such packet
abbrev pub frames_of : Option Kept → List Frame
frames_of None = []
frames_of (Some k) = k.begin.frame ∷ map (λ a. a.frame) k.more

-- the list that a frame makes its key's: a BEGIN frame begins it anew, a MORE frame goes on with it
abbrev pub chain_with : Kind → Option Kept → Frame → List Frame
chain_with Begin kept f = f ∷ []
chain_with More kept f = frames_of kept ++ f ∷ []

-- the trace of the BEGIN frame of that list
abbrev pub chain_trace : Kind → Option Kept → Trace → Trace
chain_trace Begin kept trace = trace
chain_trace More kept trace = unwrap_or (option_map (λ k. k.begin.trace) kept) trace

-- a partial packet of its key stands, or one more may
abbrev pub has_room : Option Kept → List Kept → Bool
has_room kept ks = is_some kept || nat_lt (length ks) MAX_PARTIALS

-- where these partial packets stood, the frame makes its key's list a chain of this header and payload, begun with this trace, there is room for it, and the payload is no longer than a packet's may be
abbrev pub Completes : (mtu : ℕ) → List Kept → Arrival → ℕ → List ℕ → Trace → Type 0
Completes mtu before a header payload trace =
    let ks = fresh whole_frames a.time before in
    let kept = standing whole_frames (key_of a.frame.head) ks in
    IsTrue (has_room kept ks)
    × Chain (chain_with a.frame.head.kind kept a.frame) header payload
    × (trace ≡ chain_trace a.frame.head.kind kept a.trace)
    × (length payload ≤ mtu)

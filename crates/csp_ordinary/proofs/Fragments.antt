-- The frames of a packet on a CAN bus, as they are read there: each tells its place in the packet, and where the packet's source, next node and number stand.
use Rattle.std.proofs.Common.{◌≡◌, ℕ, zero, suc, ◌+◌, ◌-◌, ◌*◌, ◌<◌, ◌≤◌, Some, List, length, map, take, drop, option_map, slice_get, unwrap_or, refl, sym, ap, ◌∙◌, subst, arith}
use Rattle.std.proofs.lemmas.List.{drop-drop}
use Rattle.std.proofs.lemmas.Option.{slice_get-map}
use Rattle.csp_base.specs.declared.limits.TheConstants.{MAX_PAYLOAD}
use Rattle.csp_can.specs.Fragments.{begin_bytes, first_head, fragments_of, frames_after, more_frame, more_frames}
use Rattle.csp_can.specs.Frames.{Frame, read_frame, written}
use Rattle.csp_can.specs.declared.frames.CanFrame.{CanFrame}
use Rattle.csp_can.specs.declared.identifiers.Identifier.{Identifier}
use Rattle.csp_can.specs.declared.identifiers.Kind.{Kind}
use Rattle.csp_can.specs.declared.identifiers.Kind.TheVariants.{Begin, More}
use Rattle.csp_can.proofs.Public.{fragments_read}
use Rattle.csp_header.specs.Word.{header_at}

-- a frame with this data is one of a packet of this header and payload, by its kind: the BEGIN frame, or the MORE frame that comes where it says
abbrev pub IsPieceBy : Kind → (remain : ℕ) → (bytes : List ℕ) → ℕ → List ℕ → Type 0
IsPieceBy Begin remain bytes header payload = (remain ≡ frames_after (length payload)) × (bytes ≡ begin_bytes header payload)
IsPieceBy More remain bytes header payload = (remain < frames_after (length payload)) × (bytes ≡ take 8 (drop (8 * (frames_after (length payload) - 1 - remain)) (drop 2 payload)))

-- and it names the packet's source, where that goes next, and its number
pub record IsPiece (dest id header : ℕ) (payload : List ℕ) (f : Frame) : Type 0 where
  pub source_is : f.head.source ≡ (header_at header).src
  pub dest_is : f.head.dest ≡ dest
  pub id_is : f.head.id ≡ id
  pub piece : IsPieceBy f.head.kind f.head.remain f.bytes header payload

-- ---- each frame

more_at : (head : Identifier) (n : ℕ) (rest : List ℕ) (k : ℕ) (f : Frame) → slice_get (more_frames head n rest) k ≡ Some f
    → (f.head ≡ record head { kind = More; remain = f.head.remain }) × (f.head.remain < n) × (f.bytes ≡ take 8 (drop (8 * (n - 1 - f.head.remain)) rest))
more_at head zero rest k f e = absurd cc
more_at head (suc m) rest zero f e =
    let same : more_frame head m rest ≡ f = ap (λ o. unwrap_or o (more_frame head m rest)) e in
    let remain : m ≡ f.head.remain = ap (λ (g : Frame). g.head.remain) same in
    let start : 0 ≡ 8 * (suc m - 1 - f.head.remain) = omega (arith, remain) in (
      sym (ap (λ (g : Frame). g.head) same) ∙ (λ i. record head { kind = More; remain = remain i }),
      omega (arith, remain),
      sym (ap (λ (g : Frame). g.bytes) same) ∙ ap (λ (j : ℕ). take 8 (drop j rest)) start,
    )
more_at head (suc m) rest (suc k) f e =
    let got = more_at head m (drop 8 rest) k f e in
    let less : f.head.remain < m = got.1 in
    let start : 8 + 8 * (m - 1 - f.head.remain) ≡ 8 * (suc m - 1 - f.head.remain) = omega (arith, less) in
    (got.0, omega (arith, less), got.2 ∙ ap (take 8) (drop-drop (8 * (m - 1 - f.head.remain)) 8 rest) ∙ ap (λ (j : ℕ). take 8 (drop j rest)) start)

piece_at : (header : ℕ) (payload : List ℕ) (dest id k : ℕ) (f : Frame) → slice_get (fragments_of header payload dest id) k ≡ Some f → IsPiece dest id header payload f
piece_at header payload dest id zero f e =
    let first : Frame = record { head = first_head header payload dest id; bytes = begin_bytes header payload } in
    let same : first ≡ f = ap (λ o. unwrap_or o first) e in
    let one : IsPiece dest id header payload first = record { source_is = refl; dest_is = refl; id_is = refl; piece = (refl, refl) } in
    subst (IsPiece dest id header payload) same one
piece_at header payload dest id (suc k) f e =
    let got = more_at (first_head header payload dest id) (frames_after (length payload)) (drop 2 payload) k f e in
    record {
      source_is = ap (λ (i : Identifier). i.source) got.0;
      dest_is = ap (λ (i : Identifier). i.dest) got.0;
      id_is = ap (λ (i : Identifier). i.id) got.0;
      piece = subst (λ kind. IsPieceBy kind f.head.remain f.bytes header payload) (sym (ap (λ (i : Identifier). i.kind) got.0)) (got.1, got.2);
    }

-- ---- as it is read off the bus

pub piece_read : (header : ℕ) (payload : List ℕ) (dest id k : ℕ) (c : CanFrame) → dest < 32 → id < 1024 → length payload ≤ MAX_PAYLOAD → slice_get (map written (fragments_of header payload dest id)) k ≡ Some c
    → IsPiece dest id header payload (read_frame c)
piece_read header payload dest id k c low small short e =
    piece_at header payload dest id k (read_frame c)
    (ap (λ fs. slice_get fs k) (sym (fragments_read header payload dest id low small short)) ∙ slice_get-map read_frame (map written (fragments_of header payload dest id)) k ∙ ap (option_map read_frame) e)

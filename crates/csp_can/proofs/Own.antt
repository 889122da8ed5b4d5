-- A chain of a packet's own frames is that packet.
use Rattle.std.proofs.Common.{◌≡◌, ℕ, zero, suc, ◌+◌, ◌-◌, ◌*◌, ◌<◌, ◌≤◌, ◌^◌, List, [], ◌∷◌, ◌++◌, length, get_or, map, take, drop, refl, sym, subst, ap, ◌∙◌, ◌⊎◌, inl, inr, take_all, arith}
use Rattle.std.specs.Prelude.{All, Contains}
use Rattle.std.specs.List.{flat_map}
use Rattle.std.proofs.Math.Seq.{take-add}
use Rattle.std.proofs.lemmas.List.{length-take, drop-drop}
use Rattle.std.proofs.lemmas.List.Elements.{All-head, All-tail}
use Rattle.csp_base.specs.declared.limits.TheConstants.{MAX_PAYLOAD}
use Rattle.csp_can.specs.declared.frames.CanFrame.{CanFrame}
use Rattle.csp_can.specs.declared.identifiers.Identifier.{Identifier}
use Rattle.csp_can.specs.declared.identifiers.Kind.TheVariants.{Begin, More}
use Rattle.csp_can.specs.Frames.{Frame, read_frame, written}
use Rattle.csp_can.specs.Fragments.{begin_bytes, more_frame, more_frames, frames_after, first_head, fragments_of}
use Rattle.csp_can.specs.Chains.{CountsDown, IsChain, MakesOnly}
use Rattle.csp_can.proofs.Sound.{Each}
use Rattle.csp_can.proofs.Whole.{fragments_chain, fragments_read}

cons_at : (x : Frame) (xs : List Frame) (y : Frame) (k : ℕ) → k < length (x ∷ xs) → get_or (x ∷ xs) k y ≡ y → (x ≡ y) ⊎ Contains xs y
cons_at x xs y zero h e = inl e
cons_at x xs y (suc k) h e = inr (k, omega arith, e)

contains_cons : (x : Frame) (xs : List Frame) (y : Frame) → Contains (x ∷ xs) y → (x ≡ y) ⊎ Contains xs y
contains_cons x xs y c = cons_at x xs y c.0 c.1 c.2

-- a MORE frame of a packet carries the piece that its remain tells
more_among : (head : Identifier) (n : ℕ) (rest : List ℕ) (f : Frame) → Contains (more_frames head n rest) f
    → (f.head.kind ≡ More) × (f.head.remain < n) × (f.bytes ≡ take 8 (drop (8 * (n - 1 - f.head.remain)) rest))
more_among head zero rest f c = let none = c.1 in absurd (omega arith)
more_among head (suc m) rest f c =
    elim (contains_cons (more_frame head m rest) (more_frames head m (drop 8 rest)) f c) [
      | inl e ↦
          let remain : m ≡ f.head.remain = ap (λ (g : Frame). g.head.remain) e in
          let start : 0 ≡ 8 * (suc m - 1 - f.head.remain) = omega arith in
          (sym (ap (λ (g : Frame). g.head.kind) e), omega arith, sym (ap (λ (g : Frame). g.bytes) e) ∙ ap (λ (j : ℕ). take 8 (drop j rest)) start)
      | inr later ↦
          let got = more_among head m (drop 8 rest) f later in
          let less = got.1 in
          let start : 8 + 8 * (m - 1 - f.head.remain) ≡ 8 * (suc m - 1 - f.head.remain) = omega arith in
          (got.0, omega arith, got.2 ∙ ap (take 8) (drop-drop (8 * (m - 1 - f.head.remain)) 8 rest) ∙ ap (λ (j : ℕ). take 8 (drop j rest)) start)
    ]

-- MORE frames of a packet whose remain counts down carry its payload from there on
counted_bytes : (head : Identifier) (n : ℕ) (rest : List ℕ) (m : ℕ) (more : List Frame) → m ≤ n → CountsDown m more → Each (λ f. Contains (more_frames head n rest) f) more
    → flat_map (λ f. f.bytes) more ≡ take (8 * length more) (drop (8 * (n - m)) rest)
counted_bytes head n rest m [] le down all = refl
counted_bytes head n rest m (f ∷ fs) le down all =
    let got = more_among head n rest f all.0 in
    let next = down.1 in
    let here : 8 * (n - 1 - f.head.remain) ≡ 8 * (n - m) = omega arith in
    let piece : f.bytes ≡ take 8 (drop (8 * (n - m)) rest) = got.2 ∙ ap (λ (j : ℕ). take 8 (drop j rest)) here in
    let later : flat_map (λ g. g.bytes) fs ≡ take (8 * length fs) (drop (8 * (n - f.head.remain)) rest) = counted_bytes head n rest f.head.remain fs (omega arith) down.2 all.1 in
    let there : 8 * (n - f.head.remain) ≡ 8 * (n - m) + 8 = omega arith in
    let moved : drop (8 * (n - f.head.remain)) rest ≡ drop 8 (drop (8 * (n - m)) rest) = ap (λ (j : ℕ). drop j rest) there ∙ sym (drop-drop 8 (8 * (n - m)) rest) in
    let total : 8 + 8 * length fs ≡ 8 * suc (length fs) = omega arith in
    (λ i. piece i ++ (later ∙ ap (take (8 * length fs)) moved) i)
    ∙ sym (take-add 8 (8 * length fs) (drop (8 * (n - m)) rest))
    ∙ ap (λ (j : ℕ). take j (drop (8 * (n - m)) rest)) total

-- MORE frames among a packet's frames are not its first
each_more : (first : Frame) (later : List Frame) (m : ℕ) (fs : List Frame) → first.head.kind ≡ Begin → CountsDown m fs → All (Contains (first ∷ later)) fs → Each (λ f. Contains later f) fs
each_more first later m [] begin down all = tt
each_more first later m (f ∷ fs) begin down all =
    let rest = each_more first later f.head.remain fs begin down.2 (All-tail (Contains (first ∷ later)) f fs all) in
    elim (contains_cons first later f (All-head (Contains (first ∷ later)) f fs all)) [
      | inl e ↦ let kind : first.head.kind ≡ f.head.kind = ap (λ (g : Frame). g.head.kind) e in let more = down.0 in cc
      | inr there ↦ (there, rest)
    ]

-- a front that is as long as the list is the list
whole_front : (n : ℕ) (xs : List ℕ) → length (take n xs) ≡ length xs → take n xs ≡ xs
whole_front n xs e = take_all n xs (omega (arith, length-take n xs))

-- the first frame of a chain of these is their first
first_among : (first : Frame) (head : Identifier) (n : ℕ) (rest : List ℕ) (begin : Frame) → Contains (first ∷ more_frames head n rest) begin → begin.head.kind ≡ Begin → first ≡ begin
first_among first head n rest begin c kind =
    elim (contains_cons first (more_frames head n rest) begin c) [
      | inl e ↦ e
      | inr later ↦ let more = (more_among head n rest begin later).0 in cc
    ]

pub makes_only : (header : ℕ) (payload : List ℕ) (dest id : ℕ) → header < 2 ^ 32 → length payload ≤ MAX_PAYLOAD → MakesOnly (fragments_of header payload dest id) header payload
makes_only header payload dest id word fits [] h p among chain = absurd chain
makes_only header payload dest id word fits (begin ∷ more) h p among chain =
    let head = first_head header payload dest id in
    let n = frames_after (length payload) in
    let rest = drop 2 payload in
    let first : Frame = record { head = head; bytes = begin_bytes header payload } in
    let whole : IsChain first (more_frames head n rest) header payload = fragments_chain header payload dest id word fits in
    let all = among in
    let is : first ≡ begin = first_among first head n rest begin (All-head (Contains (fragments_of header payload dest id)) begin more among) chain.kind in
    let own : IsChain first more h p = subst (λ (f : Frame). IsChain f more h p) (sym is) chain in
    let later = each_more first (more_frames head n rest) n more refl own.counts_down (All-tail (Contains (fragments_of header payload dest id)) begin more among) in
    let bytes : flat_map (λ f. f.bytes) more ≡ take (8 * length more) (drop (8 * (n - n)) rest) = counted_bytes head n rest n more (omega arith) own.counts_down later in
    let none : 8 * (n - n) ≡ 0 = omega arith in
    let front : p ≡ take (2 + 8 * length more) payload =
    sym own.payload_is
    ∙ ap (λ (bs : List ℕ). take 2 payload ++ bs) (bytes ∙ ap (λ (j : ℕ). take (8 * length more) (drop j rest)) none)
    ∙ sym (take-add 2 (8 * length more) payload) in
    let same : length p ≡ length payload = sym own.length_is ∙ whole.length_is in
    (sym own.header_is ∙ whole.header_is, front ∙ whole_front (2 + 8 * length more) payload (ap length (sym front) ∙ same))

-- the same of the frames as they stand on the bus
pub makes_only_read : (header : ℕ) (payload : List ℕ) (dest id : ℕ) (frames : List CanFrame) → header < 2 ^ 32 → dest < 32 → id < 1024 → length payload ≤ MAX_PAYLOAD
    → frames ≡ map written (fragments_of header payload dest id) → MakesOnly (map read_frame frames) header payload
makes_only_read header payload dest id frames word d i fits are =
    let read : map read_frame frames ≡ fragments_of header payload dest id = ap (map read_frame) are ∙ fragments_read header payload dest id d i fits in
    subst (λ (fs : List Frame). MakesOnly fs header payload) (sym read) (makes_only header payload dest id word fits)

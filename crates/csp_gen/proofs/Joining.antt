-- Texts appended one after the other.
use Rattle.std.proofs.Common.{◌≡◌, ℕ, ◌+◌, map, List, [], ◌∷◌, ◌++◌, refl, sym, ap, ◌∙◌, append_assoc, append-nil}
use Rattle.std.specs.Prelude.{codes}
use Rattle.std.specs.Fmt.{decimal}
use Rattle.std.specs.List.{flat_map, range_with_len}
use Rattle.std.proofs.lemmas.List.{flat_map_more}
use Rattle.std.proofs.lemmas.List.FromFn.{map-range_with_len_more}
use Rattle.std.proofs.lemmas.List.Concat.{flat_map-append}
use Rattle.csp_gen.specs.Lines.{ended_line, text_of}
use Rattle.csp_gen.specs.GenText.{harm_of, frame_at, fault_line, network_lines, fault_lines, sender_lines, taker_lines, scenario_lines, gen_text}

-- the text of two lines
abbrev pub two_lines : List ℕ → List ℕ → List ℕ
two_lines x y = x ++ 10 ∷ (y ++ 10 ∷ [])

-- a line with nothing after its number
pub no_end : (a b line : List ℕ) → b ≡ a ++ ended_line (line ++ []) → b ≡ a ++ ended_line line
no_end a b line e = simp append-nil at e

-- lines whose text is known, and a line after them
pub last_line : (s a b fixed line : List ℕ) → a ≡ s ++ fixed → b ≡ a ++ ended_line line → b ≡ s ++ (fixed ++ (ended_line line ++ []))
last_line s a b fixed line e f = rw (f, e) (simp (append_assoc, append-nil))

four : (f : List ℕ → List ℕ) (s : List ℕ) (n d t k : List (List ℕ)) → (((s ++ flat_map f n) ++ flat_map f d) ++ flat_map f t) ++ flat_map f k ≡ s ++ flat_map f (n ++ d ++ t ++ k)
four f s n d t k = simp (flat_map-append, append_assoc)

-- the four parts are all lines
pub four_parts : (packets : ℕ) (s a b c d : List ℕ) → a ≡ s ++ text_of network_lines → b ≡ a ++ text_of (fault_lines packets) → c ≡ b ++ text_of (sender_lines packets) → d ≡ c ++ text_of (taker_lines packets)
    → d ≡ s ++ text_of (scenario_lines packets)
unfolding scenario_lines
four_parts packets s a b c d e1 e2 e3 e4 =
    e4 ∙ ap (λ (x : List ℕ). x ++ text_of (taker_lines packets)) (e3 ∙ ap (λ (x : List ℕ). x ++ text_of (sender_lines packets)) (e2 ∙ ap (λ (x : List ℕ). x ++ text_of (fault_lines packets)) e1))
    ∙ four ended_line s network_lines (fault_lines packets) (sender_lines packets) (taker_lines packets)

pub gen_text_is : (packets : ℕ) → text_of (scenario_lines packets) ≡ gen_text packets
unfolding gen_text
gen_text_is packets = refl

-- one more line
pub line_more : (s a b : List ℕ) (f : ℕ → List ℕ) (k j : ℕ) → 1 + k ≡ j → a ≡ s ++ text_of (map f (range_with_len 1 k)) → b ≡ a ++ ended_line (f j) → b ≡ s ++ text_of (map f (range_with_len 1 (k + 1)))
line_more s a b f k j at e h =
    h ∙ ap (λ (x : List ℕ). x ++ ended_line (f j)) e ∙ flat_map_more ended_line s (map f (range_with_len 1 k)) (f j) ∙ ap (λ (lines : List (List ℕ)). s ++ text_of lines) (sym (map-range_with_len_more f 1 k j at))

-- the line of a fault, written with the number of its frame
pub with_frame : (packets j frame : ℕ) (a b harm : List ℕ) → frame ≡ frame_at packets j → harm ≡ codes " " ++ harm_of j → b ≡ a ++ ended_line (codes "fault radio ab " ++ decimal frame ++ harm) → b ≡ a ++ ended_line (fault_line packets j)
with_frame packets j frame a b harm e w h =
    h ∙ ap (λ n. a ++ ended_line (codes "fault radio ab " ++ decimal n ++ harm)) e ∙ ap (λ (t : List ℕ). a ++ ended_line (codes "fault radio ab " ++ decimal (frame_at packets j) ++ t)) w ∙ simp append_assoc

-- a collector that is fed the pieces of a blob
use Rattle.std.proofs.Common.{◌≡◌, ◌⊎◌, inl, inr, ℕ, zero, suc, ◌+◌, ◌-◌, ◌*◌, ◌<◌, ◌≤◌, ◌==◌, Bool, true, false, Option, None, Some, Result, Ok, List, [], ◌∷◌, ◌++◌, length, take, drop, refl, sym, ap, ◌∙◌, arith}
use Rattle.std.specs.Prelude.{replicate}
use Rattle.std.proofs.Math.Seq.{take-length}
use Rattle.std.proofs.Math.Nat.{suc-mul, zero-add, zero-mul}
use Rattle.std.proofs.lemmas.Bool.{eq-eqb, ne_eqb, le-leb, lt-ltb}
use Rattle.std.proofs.lemmas.List.{drop-take, length-take, length-take-le, length-drop, take-append-drop, take-take}
use Rattle.csp_sfp.specs.Gathering.{Gathering, begun, after, taken_up, answer, judged_answer, answers, fed, gathered, grown, judged, of_one_blob, whole_or_part, with_bytes}
use Rattle.csp_sfp.specs.Pieces.{CanBeCut, piece_at, piece_count, pieces_from, pieces_of}
use Rattle.csp_sfp.specs.Trailer.{data_of, offset_of, total_of}
use Rattle.csp_sfp.specs.declared.collector.SfpAnswer.{SfpAnswer}
use Rattle.csp_sfp.specs.declared.collector.SfpAnswer.TheVariants.{Part, Whole}
use Rattle.csp_sfp.specs.declared.errors.SfpError.{SfpError}
use Rattle.csp_sfp.proofs.Cutting.{begins_inside, has_pieces, reach_the_end}
use Rattle.csp_sfp.proofs.Trailers.{data_back, long_piece, offset_back, total_back}

-- the first so many bytes of a blob were gathered, and if it is under way its length is known
record Has (blob : List ℕ) (bytes : ℕ) (g : Gathering) : Type 0 where
  there : gathered g ≡ take bytes blob
  total : (g.total ≡ None) ⊎ (g.total ≡ Some (length blob))

-- the part of the piece at an offset
abbrev data_at : List ℕ → ℕ → ℕ → List ℕ
data_at blob size offset = take size (drop offset blob)

-- the piece that comes next is no piece of another blob
one_blob : (o : Option ℕ) (total : ℕ) → (o ≡ None) ⊎ (o ≡ Some total) → of_one_blob o total ≡ Ok tt
one_blob None total h = refl
one_blob (Some kept) total (inl h) = cc
one_blob (Some kept) total (inr h) = by (kept == total) (eq-eqb kept total cc)
  where
    by : (t : Bool) → t ≡ true → of_one_blob (Some kept) total ≡ Ok tt
    by t e = rw (eq-eqb kept total cc) refl

-- the next piece is judged to be its part
next_judged : (blob : List ℕ) (size offset : ℕ) (g : Gathering) → CanBeCut blob size → offset < length blob → Has blob offset g
    → judged g (piece_at blob size offset) ≡ Ok (data_at blob size offset)
next_judged blob size offset g cut inside has =
    let part = data_at blob size offset in
    let p = piece_at blob size offset in
    let some : 0 < length part = omega (arith, length-take size (drop offset blob), length-drop offset blob, cut.wide) in
    let short : offset + length part ≤ length blob = omega (arith, length-take size (drop offset blob), length-drop offset blob, inside) in
    let long : length p ≡ length part + 8 = long_piece part offset (length blob) in
    let is_data : data_of p ≡ part = data_back part offset (length blob) in
    let is_offset : offset_of p ≡ offset = offset_back part offset (length blob) (omega (arith, inside, cut.fits)) in
    let is_total : total_of p ≡ length blob = total_back part offset (length blob) (omega (arith, cut.fits)) in
    let so_many : length (gathered g) ≡ offset = ap length has.there ∙ length-take-le offset blob (omega (arith, inside)) in
    rw (
      le-leb 8 (length p) (omega (arith, long)),
      lt-ltb 8 (length p) (omega (arith, long, some)),
      is_total,
      is_offset,
      is_data,
      so_many,
      lt-ltb 0 (length blob) cut.some,
      le-leb (length blob) 65536 cut.fits,
      one_blob g.total (length blob) has.total,
      eq-eqb offset offset refl,
      le-leb (offset + length part) (length blob) short,
    )
    refl

-- two parts of a list that follow each other
joined : (n m : ℕ) (xs : List ℕ) → take n xs ++ take m (drop n xs) ≡ take (n + m) xs
joined n m xs =
    let front : take n (take (n + m) xs) ≡ take n xs = take-take n (n + m) xs (omega arith) in
    let back : drop n (take (n + m) xs) ≡ take m (drop n xs) = drop-take n m xs in
    let whole : take n (take (n + m) xs) ++ drop n (take (n + m) xs) ≡ take (n + m) xs = take-append-drop n (take (n + m) xs) in
    sym (ap (λ ys. ys ++ take m (drop n xs)) front) ∙ sym (ap (λ ys. take n (take (n + m) xs) ++ ys) back) ∙ whole

-- what was gathered, with the next piece
with_next : (blob : List ℕ) (size offset : ℕ) (g : Gathering) → Has blob offset g → gathered g ++ data_at blob size offset ≡ take (offset + size) blob
with_next blob size offset g has = ap (λ bytes. bytes ++ data_at blob size offset) has.there ∙ joined offset size blob

total_is : (blob : List ℕ) (size offset : ℕ) → CanBeCut blob size → total_of (piece_at blob size offset) ≡ length blob
total_is blob size offset cut = total_back (data_at blob size offset) offset (length blob) (let fits = cut.fits in omega (arith, fits))

after_next : (blob : List ℕ) (size offset : ℕ) (g : Gathering) → CanBeCut blob size → offset < length blob → Has blob offset g
    → after g (piece_at blob size offset) ≡ grown (length blob) (take (offset + size) blob)
after_next blob size offset g cut inside has =
    ap (λ r. taken_up r g (total_of (piece_at blob size offset))) (next_judged blob size offset g cut inside has)
    ∙ ap (λ total. grown total (gathered g ++ data_at blob size offset)) (total_is blob size offset cut)
    ∙ ap (grown (length blob)) (with_next blob size offset g has)

answer_next : (blob : List ℕ) (size offset : ℕ) (g : Gathering) → CanBeCut blob size → offset < length blob → Has blob offset g
    → answer g (piece_at blob size offset) ≡ Ok (whole_or_part (length (take (offset + size) blob) == length blob))
answer_next blob size offset g cut inside has =
    ap (λ r. judged_answer r g (total_of (piece_at blob size offset))) (next_judged blob size offset g cut inside has)
    ∙ ap (λ total. answer_of (gathered g ++ data_at blob size offset) total) (total_is blob size offset cut)
    ∙ ap (λ bytes. answer_of bytes (length blob)) (with_next blob size offset g has)
  where
    answer_of : List ℕ → ℕ → Result SfpAnswer SfpError
    answer_of bytes total = Ok (whole_or_part (length bytes == total))

-- the last piece: all is there
at_end : (blob : List ℕ) (most : ℕ) → length blob ≤ most → take most blob ≡ blob
at_end blob most all =
    let short : length (take most blob) ≡ length blob = length-take most blob ∙ omega (arith, all) in
    let cut : take (length blob) (take most blob) ≡ take (length blob) blob = take-take (length blob) most blob all in
    sym (take-length (take most blob)) ∙ by (take most blob) short cut
  where
    by : (xs : List ℕ) → length xs ≡ length blob → take (length blob) xs ≡ take (length blob) blob → take (length xs) xs ≡ blob
    by xs same cut = ap (λ n. take n xs) same ∙ cut ∙ take-length blob

grown_whole : (blob : List ℕ) → grown (length blob) blob ≡ record { total = None; bytes = blob }
grown_whole blob = ap (λ t. with_bytes t (length blob) blob) (eq-eqb (length blob) (length blob) refl)

-- before the last: more is to come
grown_part : (blob : List ℕ) (bytes : ℕ) → bytes < length blob → grown (length blob) (take bytes blob) ≡ record { total = Some (length blob); bytes = take bytes blob }
grown_part blob bytes fewer =
    let so_many : length (take bytes blob) ≡ bytes = length-take-le bytes blob (omega (arith, fewer)) in
    ap (λ t. with_bytes t (length blob) (take bytes blob)) (ne_eqb (length (take bytes blob)) (length blob) (λ e. omega (arith, so_many, fewer, e)))

-- a record with these parts has these parts
has_part : (blob : List ℕ) (bytes : ℕ) (g : Gathering) → g ≡ record { total = Some (length blob); bytes = take bytes blob } → Has blob bytes g
has_part blob bytes g e = record { there = ap gathered e; total = inr (ap (λ h. h.total) e) }

-- where the next piece stands
next_at : (j size : ℕ) → (j + 1) * size ≡ j * size + size
next_at j size = let one : j + 1 ≡ suc j = omega arith in ap (λ k. k * size) one ∙ suc-mul j size

-- a collector that has what stands before the j-th piece, and is fed it and those after it
fed_all : (blob : List ℕ) (size : ℕ) → CanBeCut blob size → (more j : ℕ) (g : Gathering) → j + suc more ≡ piece_count (length blob) size → Has blob (j * size) g
    → fed g (pieces_from blob size j (suc more)) ≡ record { total = None; bytes = blob }
fed_all blob size cut zero j g all has =
    let inside : j * size < length blob = begins_inside (length blob) size j cut.some (omega (arith, all)) in
    let reach : length blob ≤ piece_count (length blob) size * size = reach_the_end (length blob) size cut.wide in
    let last : piece_count (length blob) size * size ≡ (j + 1) * size = ap (λ n. n * size) (sym all) in
    let here = next_at j size in
    after_next blob size (j * size) g cut inside has ∙ ap (grown (length blob)) (at_end blob (j * size + size) (omega (arith, reach, last, here))) ∙ grown_whole blob
fed_all blob size cut (suc more) j g all has =
    let inside : j * size < length blob = begins_inside (length blob) size j cut.some (omega (arith, all)) in
    let next : (j + 1) * size < length blob = begins_inside (length blob) size (j + 1) cut.some (omega (arith, all)) in
    let here = next_at j size in
    let part = after_next blob size (j * size) g cut inside has ∙ grown_part blob (j * size + size) (omega (arith, next, here)) in
    let there : Has blob (j * size + size) (after g (piece_at blob size (j * size))) = has_part blob (j * size + size) _ part in
    fed_all blob size cut more (j + 1) (after g (piece_at blob size (j * size))) (omega (arith, all)) (rw here there)

answered_all : (blob : List ℕ) (size : ℕ) → CanBeCut blob size → (more j : ℕ) (g : Gathering) → j + suc more ≡ piece_count (length blob) size → Has blob (j * size) g
    → answers g (pieces_from blob size j (suc more)) ≡ replicate more (Ok Part) ++ Ok Whole ∷ []
answered_all blob size cut zero j g all has =
    let inside : j * size < length blob = begins_inside (length blob) size j cut.some (omega (arith, all)) in
    let reach : length blob ≤ piece_count (length blob) size * size = reach_the_end (length blob) size cut.wide in
    let last : piece_count (length blob) size * size ≡ (j + 1) * size = ap (λ n. n * size) (sym all) in
    let here = next_at j size in
    let end : take (j * size + size) blob ≡ blob = at_end blob (j * size + size) (omega (arith, reach, last, here)) in
    let whole : (length (take (j * size + size) blob) == length blob) ≡ true = eq-eqb (length (take (j * size + size) blob)) (length blob) (ap length end) in
    ap (λ a. a ∷ []) (answer_next blob size (j * size) g cut inside has ∙ ap (λ t. Ok (whole_or_part t)) whole)
answered_all blob size cut (suc more) j g all has =
    let inside : j * size < length blob = begins_inside (length blob) size j cut.some (omega (arith, all)) in
    let next : (j + 1) * size < length blob = begins_inside (length blob) size (j + 1) cut.some (omega (arith, all)) in
    let here = next_at j size in
    let fewer : j * size + size < length blob = omega (arith, next, here) in
    let part = after_next blob size (j * size) g cut inside has ∙ grown_part blob (j * size + size) fewer in
    let there : Has blob (j * size + size) (after g (piece_at blob size (j * size))) = has_part blob (j * size + size) _ part in
    let so_many : length (take (j * size + size) blob) ≡ j * size + size = length-take-le (j * size + size) blob (omega (arith, fewer)) in
    let not_whole : (length (take (j * size + size) blob) == length blob) ≡ false = ne_eqb (length (take (j * size + size) blob)) (length blob) (λ e. omega (arith, so_many, fewer, e)) in
    let one : answer g (piece_at blob size (j * size)) ≡ Ok Part = answer_next blob size (j * size) g cut inside has ∙ ap (λ t. Ok (whole_or_part t)) not_whole in
    let rest = answered_all blob size cut more (j + 1) (after g (piece_at blob size (j * size))) (omega (arith, all)) (rw here there) in
    ap (λ a. a ∷ answers (after g (piece_at blob size (j * size))) (pieces_from blob size (j + 1) (suc more))) one ∙ ap (λ others. Ok Part ∷ others) rest

-- at the start nothing is there
has_nothing : (blob : List ℕ) (size : ℕ) (g : Gathering) → g.total ≡ None → Has blob (0 * size) g
has_nothing blob size g none = rw (zero-mul size) (by g.total none)
  where
    by : (o : Option ℕ) → o ≡ None → Has blob 0 g
    by o e = record { there = ap (λ o. begun o g.bytes) none; total = inl none }

-- a count that is not 0
one_less : (n : ℕ) → 0 < n → suc (n - 1) ≡ n
one_less n some = omega (arith, some)

pub gathers : (g : Gathering) (blob : List ℕ) (size : ℕ) → g.total ≡ None → CanBeCut blob size → fed g (pieces_of blob size) ≡ record { total = None; bytes = blob }
gathers g blob size none cut =
    let some = one_less (piece_count (length blob) size) (has_pieces (length blob) size cut.some cut.wide) in
    ap (λ n. fed g (pieces_from blob size 0 n)) (sym some) ∙ fed_all blob size cut (piece_count (length blob) size - 1) 0 g (zero-add (suc (piece_count (length blob) size - 1)) ∙ some) (has_nothing blob size g none)

pub answers_so : (g : Gathering) (blob : List ℕ) (size : ℕ) → g.total ≡ None → CanBeCut blob size → answers g (pieces_of blob size) ≡ replicate (piece_count (length blob) size - 1) (Ok Part) ++ Ok Whole ∷ []
answers_so g blob size none cut =
    let some = one_less (piece_count (length blob) size) (has_pieces (length blob) size cut.some cut.wide) in
    ap (λ n. answers g (pieces_from blob size 0 n)) (sym some) ∙ answered_all blob size cut (piece_count (length blob) size - 1) 0 g (zero-add (suc (piece_count (length blob) size - 1)) ∙ some) (has_nothing blob size g none)

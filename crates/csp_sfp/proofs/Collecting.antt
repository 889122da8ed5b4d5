-- a collector that is fed the pieces of blobs, one blob after the other
use Rattle.std.proofs.Common.{◌≡◌, ℕ, zero, suc, ◌-◌, None, Result, Ok, List, [], ◌∷◌, ◌++◌, length, refl, sym, ap, ◌∙◌}
use Rattle.std.specs.Prelude.{replicate}
use Rattle.std.specs.List.{filter_map}
use Rattle.std.specs.Result.{result_err}
use Rattle.std.proofs.lemmas.List.{append-nil, append_assoc}
use Rattle.std.proofs.lemmas.List.Elements.{All-head, All-tail, filter_map-append}
use Rattle.csp_sfp.specs.Collecting.{CanAllBeCut, CollectsBeginning, Cut, all_pieces, blobs_of, collected, refusals, blob_in}
use Rattle.csp_sfp.specs.Gathering.{Gathering, after, answer, answers, fed}
use Rattle.csp_sfp.specs.Pieces.{CanBeCut, piece_count, pieces_of}
use Rattle.csp_sfp.specs.declared.collector.SfpAnswer.{SfpAnswer}
use Rattle.csp_sfp.specs.declared.collector.SfpAnswer.TheVariants.{Part, Whole}
use Rattle.csp_sfp.specs.declared.errors.SfpError.{SfpError}
use Rattle.csp_sfp.proofs.Feeding.{answers_so, gathers}

-- what is answered to payloads of which only the last makes a blob whole
abbrev pub until_whole : ℕ → List (Result SfpAnswer SfpError)
until_whole parts = replicate parts (Ok Part) ++ Ok Whole ∷ []

-- ---- payloads that follow others

collected-append : (g : Gathering) (xs ys : List (List ℕ)) → collected g (xs ++ ys) ≡ collected g xs ++ collected (fed g xs) ys
collected-append g [] ys = refl
collected-append g (x ∷ xs) ys =
    ap (λ more. blob_in (answer g x) (after g x) ++ more) (collected-append (after g x) xs ys)
    ∙ sym (append_assoc (blob_in (answer g x) (after g x)) (collected (after g x) xs) (collected (fed (after g x) xs) ys))

answers-append : (g : Gathering) (xs ys : List (List ℕ)) → answers g (xs ++ ys) ≡ answers g xs ++ answers (fed g xs) ys
answers-append g [] ys = refl
answers-append g (x ∷ xs) ys = ap (λ more. answer g x ∷ more) (answers-append (after g x) xs ys)

refusals-append : (g : Gathering) (xs ys : List (List ℕ)) → refusals g (xs ++ ys) ≡ refusals g xs ++ refusals (fed g xs) ys
refusals-append g xs ys = ap (filter_map result_err) (answers-append g xs ys) ∙ filter_map-append result_err (answers g xs) (answers (fed g xs) ys)

-- ---- the pieces of one blob

-- where only the last makes a blob whole, that blob is collected
one_is_collected : (parts : ℕ) (g : Gathering) (payloads : List (List ℕ)) → answers g payloads ≡ until_whole parts → collected g payloads ≡ (fed g payloads).bytes ∷ []
one_is_collected zero g [] e = absurd cc
one_is_collected zero g (x ∷ []) e = let one : answer g x ≡ Ok Whole = cc in ap (λ a. blob_in a (after g x) ++ []) one
one_is_collected zero g (x ∷ y ∷ payloads) e = absurd cc
one_is_collected (suc parts) g [] e = absurd cc
one_is_collected (suc parts) g (x ∷ payloads) e =
    let one : answer g x ≡ Ok Part = cc in
    let others : answers (after g x) payloads ≡ until_whole parts = cc in
    ap (λ a. blob_in a (after g x) ++ collected (after g x) payloads) one ∙ one_is_collected parts (after g x) payloads others

-- and of those before it nothing
none_is_collected : (parts : ℕ) (g : Gathering) (payloads : List (List ℕ)) (next : List ℕ) (rest : List (List ℕ))
    → answers g (payloads ++ next ∷ rest) ≡ until_whole parts → collected g payloads ≡ []
none_is_collected parts g [] next rest e = refl
none_is_collected zero g (x ∷ []) next rest e = absurd cc
none_is_collected zero g (x ∷ y ∷ payloads) next rest e = absurd cc
none_is_collected (suc parts) g (x ∷ payloads) next rest e =
    let one : answer g x ≡ Ok Part = cc in
    let others : answers (after g x) (payloads ++ next ∷ rest) ≡ until_whole parts = cc in
    ap (λ a. blob_in a (after g x) ++ collected (after g x) payloads) one ∙ none_is_collected parts (after g x) payloads next rest others

-- none of them is refused
none_refused : (parts : ℕ) → filter_map result_err (until_whole parts) ≡ []
none_refused zero = refl
none_refused (suc parts) = none_refused parts

-- ---- the pieces of all blobs

pub collects_all : (g : Gathering) (cuts : List Cut) → g.total ≡ None → CanAllBeCut cuts → collected g (all_pieces cuts) ≡ blobs_of cuts
collects_all g [] none can = refl
collects_all g (cut ∷ cuts) none can =
    let this = All-head (λ c. CanBeCut c.blob c.size) cut cuts can in
    let others = All-tail (λ c. CanBeCut c.blob c.size) cut cuts can in
    let pieces = pieces_of cut.blob cut.size in
    let whole : fed g pieces ≡ record { total = None; bytes = cut.blob } = gathers g cut.blob cut.size none this in
    let first : collected g pieces ≡ cut.blob ∷ [] = one_is_collected _ g pieces (answers_so g cut.blob cut.size none this) ∙ ap (λ h. h.bytes ∷ []) whole in
    let more : collected (fed g pieces) (all_pieces cuts) ≡ blobs_of cuts = collects_all (fed g pieces) cuts (ap (λ h. h.total) whole) others in
    collected-append g pieces (all_pieces cuts) ∙ ap (λ bs. bs ++ collected (fed g pieces) (all_pieces cuts)) first ∙ ap (λ bs. cut.blob ∷ bs) more

refuses_none : (g : Gathering) (cuts : List Cut) → g.total ≡ None → CanAllBeCut cuts → refusals g (all_pieces cuts) ≡ []
refuses_none g [] none can = refl
refuses_none g (cut ∷ cuts) none can =
    let this = All-head (λ c. CanBeCut c.blob c.size) cut cuts can in
    let others = All-tail (λ c. CanBeCut c.blob c.size) cut cuts can in
    let pieces = pieces_of cut.blob cut.size in
    let whole : fed g pieces ≡ record { total = None; bytes = cut.blob } = gathers g cut.blob cut.size none this in
    let first : refusals g pieces ≡ [] = ap (filter_map result_err) (answers_so g cut.blob cut.size none this) ∙ none_refused (piece_count (length cut.blob) cut.size - 1) in
    let more : refusals (fed g pieces) (all_pieces cuts) ≡ [] = refuses_none (fed g pieces) cuts (ap (λ h. h.total) whole) others in
    refusals-append g pieces (all_pieces cuts) ∙ ap (λ es. es ++ refusals (fed g pieces) (all_pieces cuts)) first ∙ more

-- ---- the first of these pieces

-- a list of which a list is the beginning, and which is empty
front_is_empty : {X : Type 0} (xs ys : List X) → xs ++ ys ≡ [] → xs ≡ []
front_is_empty [] ys e = refl
front_is_empty (x ∷ xs) ys e = absurd cc

pub collects_beginning : (g : Gathering) (cuts : List Cut) (payloads rest : List (List ℕ)) → g.total ≡ None → CanAllBeCut cuts → payloads ++ rest ≡ all_pieces cuts
    → CollectsBeginning g payloads (blobs_of cuts)
collects_beginning g cuts payloads rest none can are =
    let taken : refusals g payloads ++ refusals (fed g payloads) rest ≡ [] = sym (refusals-append g payloads rest) ∙ ap (refusals g) are ∙ refuses_none g cuts none can in
    record {
      rest = collected (fed g payloads) rest;
      whole = sym (collected-append g payloads rest) ∙ ap (collected g) are ∙ collects_all g cuts none can;
      taken = front_is_empty (refusals g payloads) (refusals (fed g payloads) rest) taken;
    }

-- after whole blobs no blob is under way
none_under_way : (g : Gathering) (cuts : List Cut) → g.total ≡ None → CanAllBeCut cuts → (fed g (all_pieces cuts)).total ≡ None
none_under_way g [] none can = none
none_under_way g (cut ∷ cuts) none can =
    let this = All-head (λ c. CanBeCut c.blob c.size) cut cuts can in
    let others = All-tail (λ c. CanBeCut c.blob c.size) cut cuts can in
    let pieces = pieces_of cut.blob cut.size in
    let whole : fed g pieces ≡ record { total = None; bytes = cut.blob } = gathers g cut.blob cut.size none this in
    ap (λ h. h.total) (fed-append g pieces (all_pieces cuts)) ∙ none_under_way (fed g pieces) cuts (ap (λ h. h.total) whole) others
  where
    fed-append : (g : Gathering) (xs ys : List (List ℕ)) → fed g (xs ++ ys) ≡ fed (fed g xs) ys
    fed-append g [] ys = refl
    fed-append g (x ∷ xs) ys = fed-append (after g x) xs ys

pub collects_no_part : (g : Gathering) (cuts : List Cut) (last : Cut) (payloads : List (List ℕ)) (next : List ℕ) (rest : List (List ℕ)) → g.total ≡ None → CanAllBeCut cuts → CanBeCut last.blob last.size
    → payloads ++ next ∷ rest ≡ pieces_of last.blob last.size → collected g (all_pieces cuts ++ payloads) ≡ blobs_of cuts
collects_no_part g cuts last payloads next rest none can this are =
    let before = fed g (all_pieces cuts) in
    let answered : answers before (payloads ++ next ∷ rest) ≡ until_whole (piece_count (length last.blob) last.size - 1) =
    ap (answers before) are ∙ answers_so before last.blob last.size (none_under_way g cuts none can) this in
    let nothing_more : collected before payloads ≡ [] = none_is_collected (piece_count (length last.blob) last.size - 1) before payloads next rest answered in
    collected-append g (all_pieces cuts) payloads ∙ ap (λ bs. collected g (all_pieces cuts) ++ bs) nothing_more ∙ append-nil (collected g (all_pieces cuts)) ∙ collects_all g cuts none can

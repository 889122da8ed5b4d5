-- a blob is the data of its pieces joined
use Rattle.std.proofs.Common.{◌≡◌, ℕ, zero, suc, ◌+◌, ◌==◌, Bool, true, false, None, Result, Ok, Err, List, [], ◌∷◌, ◌++◌, length, refl, sym, ap, ◌∙◌}
use Rattle.std.specs.Prelude.{nat_le, nat_lt, ◌&&◌}
use Rattle.std.specs.List.{flat_map}
use Rattle.std.proofs.lemmas.List.{append-nil, append_assoc}
use Rattle.csp_sfp.specs.Gathering.{Gathering, ◌>>=◌, after, taken_up, answer, judged_answer, answers, begun, demand, fed, gathered, judged, of_one_blob, whole_or_part, with_bytes}
use Rattle.csp_sfp.specs.Trailer.{data_of, offset_of, total_of}
use Rattle.csp_sfp.specs.declared.collector.SfpAnswer.{SfpAnswer}
use Rattle.csp_sfp.specs.declared.collector.SfpAnswer.TheVariants.{Part, Whole}
use Rattle.csp_sfp.specs.declared.errors.SfpError.{SfpError}
use Rattle.csp_sfp.specs.declared.errors.SfpError.TheVariants.{Short, NoData, BadTotal, WrongOffset, TooMuch}
use Rattle.csp_sfp.specs.declared.trailer.TheConstants.{MAX_BLOB, TRAILER_LEN}
use Rattle.csp_sfp.proofs.Collecting.{until_whole}

-- what all demands let through is this
let_through : (a b c d e f : Result (Unit {0}) SfpError) (own part : List ℕ)
    → (a >>= (λ _. b >>= (λ _. c >>= (λ _. d >>= (λ _. e >>= (λ _. f >>= (λ _. Ok own))))))) ≡ Ok part → part ≡ own
let_through (Err x) b c d e f own part h = absurd cc
let_through (Ok _) (Err x) c d e f own part h = absurd cc
let_through (Ok _) (Ok _) (Err x) d e f own part h = absurd cc
let_through (Ok _) (Ok _) (Ok _) (Err x) e f own part h = absurd cc
let_through (Ok _) (Ok _) (Ok _) (Ok _) (Err x) f own part h = absurd cc
let_through (Ok _) (Ok _) (Ok _) (Ok _) (Ok _) (Err x) own part h = absurd cc
let_through (Ok _) (Ok _) (Ok _) (Ok _) (Ok _) (Ok _) own part h = cc

-- a payload that is judged the next piece adds its data
adds_its_data : (g : Gathering) (payload part : List ℕ) → judged g payload ≡ Ok part → part ≡ data_of payload
adds_its_data g payload part h = let_through
    (demand (nat_le TRAILER_LEN (length payload)) Short)
    (demand (nat_lt TRAILER_LEN (length payload)) NoData)
    (demand (nat_lt 0 (total_of payload) && nat_le (total_of payload) MAX_BLOB) (BadTotal (total_of payload)))
    (of_one_blob g.total (total_of payload))
    (demand (offset_of payload == length (gathered g)) (WrongOffset (length (gathered g)) (offset_of payload)))
    (demand (nat_le (offset_of payload + length (data_of payload)) (total_of payload)) (TooMuch (total_of payload)))
    (data_of payload) part h

-- the answer to a piece that is gathered
abbrev answered : (is_whole : Bool) → Result SfpAnswer SfpError
answered is_whole = Ok (whole_or_part is_whole)

-- more is to come: what was gathered is under way
under_way : (is_whole : Bool) (total : ℕ) (bytes : List ℕ) → answered is_whole ≡ Ok Part → gathered (with_bytes is_whole total bytes) ≡ bytes
under_way true total bytes h = absurd cc
under_way false total bytes h = refl

-- whole or not, these are the bytes
has_bytes : (is_whole : Bool) (total : ℕ) (bytes : List ℕ) → (with_bytes is_whole total bytes).bytes ≡ bytes
has_bytes true total bytes = refl
has_bytes false total bytes = refl

-- what a piece that is answered Part comes to
with_part : (r : Result (List ℕ) SfpError) (g : Gathering) (total : ℕ) (own : List ℕ) → ((part : List ℕ) → r ≡ Ok part → part ≡ own) → judged_answer r g total ≡ Ok Part
    → gathered (taken_up r g total) ≡ gathered g ++ own
with_part (Err x) g total own is h = absurd cc
with_part (Ok part) g total own is h =
    under_way (length (gathered g ++ part) == total) total (gathered g ++ part) h ∙ ap (λ bytes. gathered g ++ bytes) (is part refl)

-- and one that is answered Whole
with_last : (r : Result (List ℕ) SfpError) (g : Gathering) (total : ℕ) (own : List ℕ) → ((part : List ℕ) → r ≡ Ok part → part ≡ own) → judged_answer r g total ≡ Ok Whole
    → (taken_up r g total).bytes ≡ gathered g ++ own
with_last (Err x) g total own is h = absurd cc
with_last (Ok part) g total own is h =
    has_bytes (length (gathered g ++ part) == total) total (gathered g ++ part) ∙ ap (λ bytes. gathered g ++ bytes) (is part refl)

joined_on : (parts : ℕ) (g : Gathering) (payloads : List (List ℕ)) → answers g payloads ≡ until_whole parts → (fed g payloads).bytes ≡ gathered g ++ flat_map data_of payloads
joined_on zero g [] h = absurd cc
joined_on zero g (x ∷ []) h =
    let one : answer g x ≡ Ok Whole = cc in
    with_last (judged g x) g (total_of x) (data_of x) (adds_its_data g x) one ∙ ap (λ bytes. gathered g ++ bytes) (sym (append-nil (data_of x)))
joined_on zero g (x ∷ y ∷ payloads) h = absurd cc
joined_on (suc parts) g [] h = absurd cc
joined_on (suc parts) g (x ∷ payloads) h =
    let one : answer g x ≡ Ok Part = cc in
    let others : answers (after g x) payloads ≡ until_whole parts = cc in
    joined_on parts (after g x) payloads others
    ∙ ap (λ bytes. bytes ++ flat_map data_of payloads) (with_part (judged g x) g (total_of x) (data_of x) (adds_its_data g x) one)
    ∙ append_assoc (gathered g) (data_of x) (flat_map data_of payloads)

pub joined : (g : Gathering) (payloads : List (List ℕ)) (parts : ℕ) → g.total ≡ None → answers g payloads ≡ until_whole parts → (fed g payloads).bytes ≡ flat_map data_of payloads
joined g payloads parts none h = joined_on parts g payloads h ∙ ap (λ o. begun o g.bytes ++ flat_map data_of payloads) none

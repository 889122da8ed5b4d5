-- The lines of blobs, by those events alone that tell of blobs.
use Rattle.std.proofs.Common.{◌≡◌, ℕ, Bool, true, false, cond, Option, None, List, [], ◌∷◌, ◌++◌, map, filter, filter_map, refl, sym, ap, ◌∙◌}
use Rattle.std.specs.List.{cons_option}
use Rattle.csp_log.specs.declared.event.Event.{Event}
use Rattle.csp_log.specs.declared.event.Event.TheVariants as event
use Rattle.csp_sfp.specs.declared.errors.SfpError.{SfpError}
use Rattle.csp_report.specs.Blobs.{is_of_blobs, blob_told, refusal_told, refusals_on, blob_lines, badblob_line, collected_lines}
use Rattle.csp_report.specs.declared.blobs.Blob.{Blob}

-- what gives nothing where a test fails gives of those that pass what it gives of all
given_by_those : {X Y : Type 0} (p : X → Bool) (f : X → Option Y) → ((x : X) → p x ≡ false → f x ≡ None) → (xs : List X) → filter_map f (filter p xs) ≡ filter_map f xs
given_by_those p f none [] = refl
given_by_those {X} {Y} p f none (x ∷ xs) = by (p x) refl (given_by_those p f none xs)
  where
    by : (t : Bool) → p x ≡ t → filter_map f (filter p xs) ≡ filter_map f xs → filter_map f (cond t (x ∷ filter p xs) (filter p xs)) ≡ cons_option (f x) (filter_map f xs)
    by true e later = ap (cons_option (f x)) later
    by false e later = later ∙ ap (λ (y : Option Y). cons_option y (filter_map f xs)) (sym (none x e))

-- an event that doesn't tell of blobs tells neither of one nor of a refusal
abbrev TellsNothing : ℕ → ℕ → Event → Type 0
TellsNothing slot ordinal e = (blob_told slot ordinal e ≡ None) × (refusal_told slot ordinal e ≡ None)

no_blobs : (slot ordinal : ℕ) (e : Event) → is_of_blobs e ≡ false → TellsNothing slot ordinal e
no_blobs slot ordinal (event.BlobTook s o len crc) h = cc
no_blobs slot ordinal (event.BlobRefused s o reason) h = cc
no_blobs slot ordinal (event.TookEmpty step) h = (refl, refl)
no_blobs slot ordinal (event.Sent s o) h = (refl, refl)
no_blobs slot ordinal (event.Took s o) h = (refl, refl)
no_blobs slot ordinal (event.Refused step reason) h = (refl, refl)
no_blobs slot ordinal (event.GaveUp step) h = (refl, refl)
no_blobs slot ordinal (event.SlotDown step) h = (refl, refl)
no_blobs slot ordinal (event.Discarded reason) h = (refl, refl)
no_blobs slot ordinal (event.Handed nth peer tag cur una) h = (refl, refl)
no_blobs slot ordinal (event.Opened number s nth peer) h = (refl, refl)
no_blobs slot ordinal (event.Transmitted serial) h = (refl, refl)
no_blobs slot ordinal (event.Bad count) h = (refl, refl)
no_blobs slot ordinal event.Starved h = (refl, refl)
no_blobs slot ordinal event.InboxFull h = (refl, refl)
no_blobs slot ordinal event.TooBig h = (refl, refl)
no_blobs slot ordinal event.Reboot h = (refl, refl)
no_blobs slot ordinal event.Shutdown h = (refl, refl)

pub collected_kept : (node app : List ℕ) (slot ordinal : ℕ) (events : List Event) → collected_lines node app slot ordinal (filter is_of_blobs events) ≡ collected_lines node app slot ordinal events
collected_kept node app slot ordinal events =
    let kept : List Event = filter is_of_blobs events in
    ap (λ (blobs : List Blob). blob_lines node app slot ordinal blobs ++ map (badblob_line node app slot ordinal) (refusals_on slot ordinal kept))
    (given_by_those is_of_blobs (blob_told slot ordinal) (λ e h. (no_blobs slot ordinal e h).0) events)
    ∙ ap (λ (reasons : List SfpError). blob_lines node app slot ordinal (filter_map (blob_told slot ordinal) events) ++ map (badblob_line node app slot ordinal) reasons)
    (given_by_those is_of_blobs (refusal_told slot ordinal) (λ e h. (no_blobs slot ordinal e h).1) events)

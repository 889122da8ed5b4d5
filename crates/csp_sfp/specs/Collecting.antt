-- Blobs one after the other, each cut into pieces; and the blobs that a collector makes of payloads.
use Rattle.std.specs.Prelude.{◌≡◌, ℕ, List, [], ◌∷◌, ◌++◌, Result, Ok, Err, map, All}
use Rattle.std.specs.List.{filter_map, flat_map}
use Rattle.std.specs.Result.{result_err}
use Rattle.csp_sfp.specs.Gathering.{Gathering, after, answer, answers}
use Rattle.csp_sfp.specs.Pieces.{CanBeCut, pieces_of}
use Rattle.csp_sfp.specs.declared.collector.SfpAnswer.{SfpAnswer}
use Rattle.csp_sfp.specs.declared.collector.SfpAnswer.TheVariants.{Part, Whole}
use Rattle.csp_sfp.specs.declared.errors.SfpError.{SfpError}

-- a blob, and the size of the pieces that it is cut into
pub record Cut : Type 0 where
  pub blob : List ℕ
  pub size : ℕ

-- each blob can be sent in pieces of its size
abbrev pub CanAllBeCut : List Cut → Type 0
CanAllBeCut cuts = All (λ cut. CanBeCut cut.blob cut.size) cuts

-- the blobs that are cut
abbrev pub blobs_of : List Cut → List (List ℕ)
blobs_of cuts = map (λ cut. cut.blob) cuts

-- all pieces of all blobs, in order
abbrev pub all_pieces : List Cut → List (List ℕ)
all_pieces cuts = flat_map (λ cut. pieces_of cut.blob cut.size) cuts

-- the blob that is whole by this answer, if one is
abbrev pub blob_in : Result SfpAnswer SfpError → Gathering → List (List ℕ)
blob_in (Ok Whole) g = g.bytes ∷ []
blob_in (Ok Part) g = []
blob_in (Err error) g = []

-- the blobs collected of these payloads, fed one after the other: each as it becomes whole
abbrev pub collected : Gathering → List (List ℕ) → List (List ℕ)
collected g [] = []
collected g (payload ∷ payloads) = blob_in (answer g payload) (after g payload) ++ collected (after g payload) payloads

-- why payloads are refused, in order
abbrev pub refusals : Gathering → List (List ℕ) → List SfpError
refusals g payloads = filter_map result_err (answers g payloads)

-- what is collected of these payloads is a beginning of the blobs, each once and whole, and none of the payloads is refused
pub record CollectsBeginning (g : Gathering) (payloads blobs : List (List ℕ)) : Type 0 where
  pub rest : List (List ℕ)
  pub whole : collected g payloads ++ rest ≡ blobs
  pub taken : refusals g payloads ≡ []

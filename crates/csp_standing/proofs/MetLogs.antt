-- A meeting leaves the logs as they were.
use Rattle.std.proofs.Common.{◌≡◌, ◌&&◌, List, [], ◌∷◌, refl, ap, ◌∙◌}
use Rattle.std.specs.List.{AllZip}
use Rattle.csp_party.specs.Any.{is_done}
use Rattle.csp_posts.specs.Between.{HasHeard}
use Rattle.csp_posts.specs.Posts.{PlainPost}
use Rattle.csp_standing.specs.Played.{are_done, logs_of}

pub logs_met : (posts after : List PlainPost) → AllZip HasHeard posts after → logs_of after ≡ logs_of posts
logs_met [] [] zip = refl
logs_met [] (t ∷ after) zip = absurd zip
logs_met (s ∷ posts) [] zip = absurd zip
logs_met (s ∷ posts) (t ∷ after) zip = ap (λ es. es ∷ logs_of after) zip.0.entries ∙ ap (λ ess. s.entries ∷ ess) (logs_met posts after zip.1)

pub done_met : (posts after : List PlainPost) → AllZip HasHeard posts after → are_done after ≡ are_done posts
done_met [] [] zip = refl
done_met [] (t ∷ after) zip = absurd zip
done_met (s ∷ posts) [] zip = absurd zip
done_met (s ∷ posts) (t ∷ after) zip = ap (λ p. is_done p && are_done after) zip.0.party ∙ ap (λ b. is_done s.party && b) (done_met posts after zip.1)

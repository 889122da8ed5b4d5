-- what an offer hands back
use Rattle.std.specs.Prelude.{ℕ, List, [], ◌∷◌}
use Rattle.csp_rdp_window.specs.declared.receive.Offer.{Offer}
use Rattle.csp_rdp_window.specs.declared.receive.Offer.TheVariants as offer

-- the number of the buffer that is handed back, if it is
abbrev pub handed_back : Offer → List ℕ
handed_back offer.Kept = []
handed_back (offer.Duplicate b) = b.picture.number ∷ []
handed_back (offer.Outside b) = b.picture.number ∷ []

-- A light world.
use Rattle.std.specs.Prelude.{All}
use Rattle.csp_sizes.specs.Light.{IsLightDeck, IsLightParty}
use Rattle.csp_world.specs.World.{PlainWorld}

-- all lists and all parties of a world are light
pub record IsLightWorld (w : PlainWorld) : Type 0 where
  pub decks : All IsLightDeck w.decks
  pub members : All (λ m. IsLightParty m.party) w.members

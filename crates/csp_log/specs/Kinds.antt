-- what links of each kind carry
use Rattle.csp_log.specs.declared.places.Carries.{Carries}
use Rattle.csp_log.specs.declared.places.Carries.TheVariants as carries
use Rattle.csp_log.specs.declared.places.LinkKind.{LinkKind}
use Rattle.csp_log.specs.declared.places.LinkKind.TheVariants as kind

-- the lanes of a link carry the frames of its kind: KISS frames, whatever their CRC covers
abbrev pub carried_on : LinkKind → Carries
carried_on kind.Kiss = carries.Kiss
carried_on kind.KissHeader = carries.Kiss
carried_on kind.Can = carries.Can

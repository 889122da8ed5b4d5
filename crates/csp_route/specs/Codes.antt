-- How a proof tells routing tables apart.
use Rattle.std.specs.Coded.{Coded}
use Rattle.std.specs.FinMap as finite
use Rattle.csp_route.specs.Routes.{Routes, prefix_code, hop_code}

-- how a proof tells routing tables apart
abbrev pub routes_code : Coded Routes
routes_code = finite.code prefix_code hop_code

use Rattle.std.proofs.Common.{◌∙◌, ℕ, List, ap}
use Rattle.std.specs.List.{position}
use Rattle.std.specs.Str.{bytes_eq}
use Rattle.csp_route.specs.Text.{names_of}
use Rattle.csp_service.proofs.Naming.{named}
use Rattle.csp_service.proofs.requests.iface_of.Goals as goal

pub returns-clause-value : goal.returns-clause-value
returns-clause-value c =
    c.name_place.ensures.value
    ∙ named c.args.ifaces.now c.name_in.result.now
    ∙ ap (λ (word : List ℕ). position (λ name. bytes_eq name word) (names_of c.args.ifaces.now)) c.name_in.ensures

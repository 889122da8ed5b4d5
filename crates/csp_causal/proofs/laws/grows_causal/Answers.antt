use Rattle.csp_causal.proofs.Growing.{first_grows, none_causal, second_grows}
use Rattle.csp_causal.proofs.laws.grows_causal.Goals as goal

pub returns : goal.returns
returns c = record { none = none_causal; first = first_grows; second = second_grows }

use Rattle.csp_top.proofs.CausalWorlds.{reached_causal}
use Rattle.csp_top.proofs.laws.stays_causal.Goals as goal

pub returns : goal.returns
returns c scene w ranges ends reached =
    reached_causal c.grows_causal.ensures.first c.grows_causal.ensures.second scene (λ v there. c.is_consistent.ensures scene v ranges ends there) w reached

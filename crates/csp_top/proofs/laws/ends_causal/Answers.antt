use Rattle.csp_top.proofs.CausalWorlds.{ended_causal}
use Rattle.csp_top.proofs.laws.ends_causal.Goals as goal

pub returns : goal.returns
returns c scene r ranges ends ran =
    ended_causal scene r (λ w reached. c.stays_causal.ensures scene w ranges ends reached) (λ w at. c.reaches.ensures.run scene w at) ran

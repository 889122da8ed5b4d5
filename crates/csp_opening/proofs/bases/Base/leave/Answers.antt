use Rattle.std.proofs.Common.{refl, ap}
use Rattle.csp_opening.proofs.Stores.{all_back}
use Rattle.csp_pool.specs.declared.hand.Hand.{Hand}
use Rattle.csp_opening.proofs.bases.Base.leave.Goals as goal

pub leave-requires : goal.leave-requires
leave-requires g c =
    let is = c.requires in
    all_back c.args.self.pass.hand _ _ c.args.self.store c.end_pool-places.new.self c.args.self.store.count is.none (ap (λ (v : Hand). v.put) is.hand) (ap (λ (v : Hand). v.taken) is.hand) refl c.end_pool-places.ensures

use Rattle.std.proofs.Common.{◌≡◌, ℕ, ◌<◌, false, sym, ◌∙◌, subst, arith}
use Rattle.std.specs.List.{AllZip}
use Rattle.csp_consistent.specs.Rounds.{HaveMadeRounds}
use Rattle.csp_node.proofs.Entries.{all_late, all_short, all_turned, early_after}
use Rattle.csp_node.proofs.Hearing.{all_heard}
use Rattle.csp_node.proofs.Staying.{fabric_stays, round_stays}
use Rattle.csp_node.specs.Rounds.{plains, weight_early}
use Rattle.csp_posts.specs.Between.{AreInRounds, HasHeard}
use Rattle.csp_posts.specs.Posts.{AreTurns}
use Rattle.csp_standing.specs.Fabrics.{network_of}
use Rattle.csp_standing.specs.Network.{IsNetworkOf, opened_in}
use Rattle.csp_standing.specs.Played.{are_done}
use Rattle.csp_topology.specs.Parties.{parties_of}
use Rattle.csp_node.proofs.laws.makes_rounds.Goals as goal

pub returns : goal.returns
returns c = λ scene f limit now posts met after h undone few early heard books known turned.
    let n = network_of f in
    let told : AllZip HasHeard (plains posts) (plains met) = all_heard posts met heard in
    let turns : AllZip (AreTurns n.nodes now 8) (plains met) (plains after) = all_turned f.queues now met after turned in
    let mid : IsNetworkOf scene n (plains met) = c.meetings_keep_network.ensures scene n posts met heard h.fabric.network in
    let between : AreInRounds n.nodes now (plains met) = c.keeps_when_met.ensures n.nodes now (plains posts) (plains met) h.between told in
    let net : IsNetworkOf scene n (plains after) = c.turns_keep_network.ensures scene n now 8 (plains met) (plains after) turns (all_late now (plains met) between.times) early mid in
    let made : HaveMadeRounds now (parties_of scene) _ = subst (HaveMadeRounds now (parties_of scene)) (sym (c.keeps_logs.ensures.logs (plains posts) (plains met) told)) h.made in
    let undone_yet : are_done (plains met) ≡ false = c.keeps_logs.ensures.done (plains posts) (plains met) told ∙ undone in
    record {
      fabric = fabric_stays scene f posts after (round_stays n.nodes now posts met after heard turned) net h.fabric;
      books = c.turns_keep_books.ensures n.nodes now 8 (plains met) (plains after) turns books;
      between = c.goes_on.ensures n.nodes (opened_in scene) now 8 (plains met) (plains after) (c.traces_posts.ensures scene n (plains met) mid) between known turns;
      made = c.makes_a_round.ensures n.nodes now (parties_of scene) (plains met) (plains after) made (c.runs_parties.ensures scene n (plains met) mid) (c.runs_parties.ensures scene n (plains after) net) undone_yet turns;
      short = all_short n.nodes now (plains posts) (plains met) (plains after) told turns h.short;
      before = λ _. subst (λ (k : ℕ). weight_early k (plains after) < limit) (omega arith)
          (subst (λ (k : ℕ). k < limit) (sym (early_after n.nodes now (plains posts) (plains met) (plains after) told turns h.between.times)) few);
    }

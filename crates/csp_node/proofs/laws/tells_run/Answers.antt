use Rattle.csp_consistent.specs.Consistent.{IsConsistent}
use Rattle.csp_node.proofs.Closing.{finished, made, stopped}
use Rattle.csp_node.specs.Rounds.{plains}
use Rattle.csp_standing.specs.Fabrics.{network_of}
use Rattle.csp_standing.specs.Network.{opened_in}
use Rattle.csp_node.proofs.laws.tells_run.Goals as goal
use Rattle.csp_standing.specs.Shown.{AreLoggedBy}

pub returns-clause-threaded : goal.returns-clause-threaded
returns-clause-threaded c = λ scene f limit posts r ranges links run closed.
    let n = network_of f in
    let net = run.between.fabric.network in
    let consistent : IsConsistent scene r = c.closes_consistent.ensures scene n (plains posts) r ranges links net closed in
    let logged : AreLoggedBy (plains posts) r.parties = c.closes_reached.ensures.logs scene (plains posts) r closed in
    record {
      consistent = consistent;
      rounds = c.shows_rounds.ensures scene r (plains posts) (made scene f limit posts r run closed) (c.runs_parties.ensures scene n (plains posts) net) (finished scene f limit posts r run closed) logged;
      prompt = c.shows.ensures scene r n.nodes (opened_in scene) run.rounds (plains posts) consistent.runs logged (c.stands_in_scene.ensures scene n (plains posts) ranges links net)
          (c.traces_posts.ensures scene n (plains posts) net) run.between.between (c.closes_reached.ensures.reached scene n (plains posts) r net closed);
    }

pub returns-clause-whole : goal.returns-clause-whole
returns-clause-whole c = λ scene f limit posts r ranges links run closed. c.closes_whole.ensures scene (network_of f) (plains posts) r ranges links run.between.fabric.network closed

pub returns-clause-causal : goal.returns-clause-causal
returns-clause-causal c = λ scene f limit posts r ranges links run closed. c.closes_causal.ensures scene (network_of f) (plains posts) r ranges links run.between.fabric.network closed

pub returns-clause-stopped : goal.returns-clause-stopped
returns-clause-stopped c = stopped

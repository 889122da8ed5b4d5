-- What the record of a network that has been run says of its logs.
use Rattle.std.proofs.Common.{◌≡◌, inl, inr, ℕ, ◌-◌, ◌<◌, ◌≤◌, List, sum_by, sym, ap, ◌∙◌, subst}
use Rattle.csp_consistent.specs.Rounds.{HaveMadeRounds, early}
use Rattle.csp_log.specs.Weights.{weight_of_all}
use Rattle.csp_node.proofs.Entries.{sum_mapped}
use Rattle.csp_node.proofs.Rounds.{rounds_made}
use Rattle.csp_node.specs.Rounds.{HasRun, plains, weight, weight_early}
use Rattle.csp_node.specs.Runs.{HasStopped, weight_before, weight_in}
use Rattle.csp_posts.specs.Seen.{SeenPost}
use Rattle.csp_record.specs.Record.{PlainPartyLog, PlainRecord}
use Rattle.csp_scene.specs.Scene.{PlainScene}
use Rattle.csp_standing.specs.Played.{are_done, logs_of}
use Rattle.csp_standing.specs.declared.fabric.Fabric.{Fabric}
use Rattle.csp_telling.specs.Closed.{IsClosed, log_of}
use Rattle.csp_topology.specs.Parties.{parties_of}

module _ (scene : PlainScene) (f : Fabric) (limit : ℕ) (posts : List SeenPost) (r : PlainRecord) (run : HasRun scene f limit posts) (closed : IsClosed scene (plains posts) r) where
  same_rounds : r.rounds ≡ run.rounds
  same_rounds = closed.told.rounds ∙ rounds_made (parties_of scene) (plains posts) run.rounds run.between.made run.between.between.times

  pub made : HaveMadeRounds r.rounds (parties_of scene) (logs_of (plains posts))
  made = subst (λ (n : ℕ). HaveMadeRounds n (parties_of scene) (logs_of (plains posts))) (sym same_rounds) run.between.made

  pub finished : r.finished ≡ are_done (plains posts)
  finished = closed.told.finished

  weight_same : weight_in r ≡ weight (plains posts)
  weight_same = ap (sum_by (λ (log : PlainPartyLog). weight_of_all log.entries)) closed.told.parties ∙ sum_mapped (λ (log : PlainPartyLog). weight_of_all log.entries) log_of (plains posts)

  before_same : (round : ℕ) → weight_before round r ≡ weight_early round (plains posts)
  before_same round =
      ap (sum_by (λ (log : PlainPartyLog). weight_of_all (early round log.entries))) closed.told.parties ∙ sum_mapped (λ (log : PlainPartyLog). weight_of_all (early round log.entries)) log_of (plains posts)

  pub stopped : HasStopped scene.until limit r
  stopped = record {
    most = subst (λ (n : ℕ). n ≤ scene.until) (sym same_rounds) run.most;
    before = λ some.
        subst (λ (n : ℕ). n < limit) (sym (before_same (r.rounds - 1)))
        (subst (λ (n : ℕ). 0 < n → weight_early (n - 1) (plains posts) < limit) (sym same_rounds) run.between.before some);
    unfinished = λ e. elim (run.unfinished (sym finished ∙ e)) [
      | inl all ↦ inl (same_rounds ∙ all)
      | inr full ↦ inr (subst (λ (n : ℕ). limit ≤ n) (sym weight_same) full)
    ];
  }

use Rattle.csp_world.specs.Record.{record_of}
use Rattle.csp_top.specs.Main.{StaysReliable}
use Rattle.csp_top.proofs.laws.stays_reliable_throughout.Goals as goal

pub returns : goal.returns
unfolding StaysReliable
returns c = λ scene ranges ends w reached. record {
  consistent = c.is_consistent.ensures scene w ranges ends reached;
  causal = c.stays_causal.ensures scene w ranges ends reached;
  prefix = c.stays_reliable.ensures scene w ranges ends reached;
  window = c.stays_within_window.ensures scene w ranges ends reached;
  blobs = c.tells_of_blobs.ensures scene (record_of w) ranges (c.is_consistent.ensures scene w ranges ends reached);
}

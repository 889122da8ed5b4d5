use Rattle.csp_blobs.proofs.asking.tells_of_blobs.Goals as goal

pub returns : goal.returns
returns c = λ scene r ranges con fresh same. record {
  prefix = c.collects_a_prefix_of_blobs.ensures scene r ranges con fresh same;
  whole = λ causal. c.blobs_come_whole.ensures scene r ranges con causal fresh same;
}

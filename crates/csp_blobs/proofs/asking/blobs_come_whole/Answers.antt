use Rattle.csp_blobs.proofs.AskedBlobs.{blobs_whole}
use Rattle.csp_blobs.proofs.asking.blobs_come_whole.Goals as goal

pub returns : goal.returns
returns c = λ scene r ranges con causal fresh same.
    blobs_whole scene r ranges con causal c.answers_no_more.ensures c.waits_for_answers.ensures c.sends_what_comes.ensures c.sends_pieces.ensures
    (λ node app x opened. (c.opens_on_slots.ensures scene r ranges con node app x opened).1) (c.collects_a_prefix_of_blobs.ensures scene r ranges con fresh same)

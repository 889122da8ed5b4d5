use Rattle.csp_blobs.proofs.BlobPrefix.{blob_prefix}
use Rattle.csp_blobs.proofs.laws.collects_a_prefix_of_blobs.Goals as goal

pub returns : goal.returns
returns c = λ scene r ranges con fresh same.
    blob_prefix scene r con.runs c.applications_collect.ensures c.collects_a_prefix.ensures.prefix (λ node app x opened. (c.opens_on_slots.ensures scene r ranges con node app x opened).1)
    (c.takes_a_prefix.ensures scene r ranges con fresh same)

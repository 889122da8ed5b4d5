use Rattle.csp_delivery.proofs.Delivered.{is_delivery}
use Rattle.csp_delivery.proofs.laws.delivers_on_hubs.Goals as goal

pub returns : goal.returns
returns c scene r ranges con words hops number l at end node addr there is_hub on at_node has =
    is_delivery scene r ranges con words hops (c.copies_first_frames.ensures.few scene r ranges con) number l at end there is_hub on node addr at_node has (c.arrives_as_sent.ensures scene r ranges con words hops number l at end there on)

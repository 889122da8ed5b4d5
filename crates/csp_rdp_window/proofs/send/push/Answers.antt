use Rattle.std.proofs.Common.{◌∙◌, None, ap, get_or}
use Rattle.csp_rdp_window.proofs.SendLemmas.{last-first, last-put}
use Rattle.csp_rdp_window.proofs.send.push.Goals as goal

pub put-requires : goal.put-requires
put-requires c =
    ap (λ l. get_or l 19 c.index-places.result) c.rotate_left.ensures.after
    ∙ last-first c.args.places.now c.index-places.result None c.requires.all ∙ c.requires.first

pub returns : goal.returns
returns c = rw (c.rotate_left.ensures.after, c.put.ensures) (last-put c.args.places.now _ c.requires.all)

use Rattle.std.proofs.Common.{◌∙◌, refl, ap}
use Rattle.std.specs.List.{position_or_len}
use Rattle.csp_log.specs.Who.{is_who}
use Rattle.csp_world.specs.Schedule.{names, place_named}
use Rattle.csp_world.specs.Seen.{plain_member}
use Rattle.csp_world.specs.World.{PlainMember}
use Rattle.csp_world.specs.declared.member.Member.{Member}
use Rattle.csp_world.proofs.MoveLemmas.{place_seen}
use Rattle.csp_world.proofs.world.World.place_named.Goals as goal

pub returns : goal.returns
returns c =
    let found = place_seen c.args.who (λ (m : Member). m.who) (λ (p : PlainMember). p.who) plain_member c.self.inside.members.items (λ m. refl) in
    c.place_among.ensures ∙ ap (position_or_len (λ (m : Member). is_who c.args.who m.who)) c.as_slice.ensures.value ∙ found ∙ ap (λ w. place_named (names w.plain) c.args.who) c.self.view_is

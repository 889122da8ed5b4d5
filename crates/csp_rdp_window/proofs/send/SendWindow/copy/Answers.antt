use Rattle.std.proofs.Common.{◌≡◌, ◌++◌, ◌∙◌, [], Some, ap, sym}
use Rattle.std.specs.Option.{option_map_or}
use Rattle.csp_rdp_window.specs.Numbers.{with_payload}
use Rattle.csp_rdp_window.specs.Sending.{packet_at}
use Rattle.csp_rdp_window.proofs.send.SendWindow.copy.Goals as goal

pub returns-clause-payload : goal.returns-clause-payload
returns-clause-payload c =
    let pushed = rw c.unwrap.ensures at c.push_tail.ensures.ok in
    let found : packet_at c.args.self.now c.args.index ≡ Some c.packet_of-packet.result.now =
    sym (ap (λ w. packet_at w c.args.index) c.self.view_is) ∙ c.packet_of-packet.ensures in
    pushed
    ∙ ap (λ bytes. with_payload (bytes ++ c.payload.result.now) c.args.into.now) c.requires.cleared
    ∙ ap (λ bytes. with_payload bytes c.args.into.now) (c.payload.ensures.value ∙ sym (ap (λ o. option_map_or (λ p. p.buffer.picture.payload) o []) found))

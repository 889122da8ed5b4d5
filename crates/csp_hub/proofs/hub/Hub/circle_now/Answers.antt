use Rattle.std.proofs.Common.{◌≡◌, length, length-append, subst, sym, ap, arith, rules}
use Rattle.std.specs.Prelude.{All, IsSome}
use Rattle.std.proofs.lemmas.Grind.{common_steps}
use Rattle.std.proofs.lemmas.List.{length-map}
use Rattle.std.proofs.lemmas.List.FromFn.{length-range_with_len}
use Rattle.csp_deck.specs.Circles.{LooksInto}
use Rattle.csp_hub.specs.Applied.{hub_steps}
use Rattle.csp_hub.specs.Circling.{circle}
use Rattle.csp_hub.specs.PlainHub.{PlainHub, uses}
use Rattle.csp_hub.specs.Room.{plain_hub}
use Rattle.csp_hub.proofs.Rounds.{circle_looks, circle_used}
use Rattle.csp_hub.proofs.hub.Hub.circle_now.Goals as goal

pub push_sources-requires-then-all_idle-clause-room : goal.push_sources-requires-then-all_idle-clause-room
push_sources-requires-then-all_idle-clause-room c =
    let long = simp (length-append, length-map, length-range_with_len) at (ap length c.push_sources.ensures) in
    omega (arith, long, ap length c.new-circle.ensures, c.len.ensures, c.self.inside.ends.ok.0, c.self.invariant.most, c.self.invariant.serving)

pub returns-then-all_idle-clause-looks : goal.returns-then-all_idle-clause-looks
returns-then-all_idle-clause-looks c =
    let is : c.push_sources-then-all_idle.new.circle.items ≡ circle c.args.self.now c.args.now = first_of (search rules, grind (arith, common_steps)) in
    subst (λ qs. LooksInto hub_steps c.args.now c.args.self.now qs c.args.self.now) (sym is)
    (subst (λ (h : PlainHub). LooksInto hub_steps c.args.now h (circle h c.args.now) h) c.self.view_is (circle_looks (plain_hub c.self.inside) c.args.now c.self.invariant))

pub returns-then-all_idle-clause-served : goal.returns-then-all_idle-clause-served
returns-then-all_idle-clause-served c =
    let is : c.push_sources-then-all_idle.new.circle.items ≡ circle c.args.self.now c.args.now = first_of (search rules, grind (arith, common_steps)) in
    subst (λ qs. All (λ q. IsSome (uses c.args.self.now q)) qs) (sym is)
    (subst (λ (h : PlainHub). All (λ q. IsSome (uses h q)) (circle h c.args.now)) c.self.view_is (circle_used (plain_hub c.self.inside) c.args.now c.self.invariant))

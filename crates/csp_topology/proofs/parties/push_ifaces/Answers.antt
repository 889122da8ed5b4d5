use Rattle.std.proofs.Common.{◌≡◌, ℕ, ◌+◌, ◌<◌, ◌≤◌, ◌++◌, cond, Option, List, [], ◌∷◌, length, map, take, ap, sym, ◌∙◌, arith, subst, length-append}
use Rattle.std.specs.Prelude.{IfSome}
use Rattle.std.specs.List.{AllByRecursion}
use Rattle.std.proofs.lemmas.List.{append-nil, length-take-le, map-append}
use Rattle.std.proofs.lemmas.List.Elements.{filter_more}
use Rattle.csp_base.specs.declared.limits.TheConstants.{MAX_PAYLOAD}
use Rattle.csp_log.specs.declared.places.LinkKind.{LinkKind}
use Rattle.csp_log.specs.declared.places.LinkKind.TheVariants as link
use Rattle.csp_log.specs.declared.places.TheConstants.{IFACES}
use Rattle.csp_scene.proofs.Public.{AllByRecursion-append, AllByRecursion-at}
use Rattle.csp_scene.specs.Links.{links_at, touches}
use Rattle.csp_scene.specs.Ranges.{HasEnds}
use Rattle.csp_scene.specs.Scene.{PlainLink}
use Rattle.csp_scene.specs.declared.limits.TheConstants.{DEFAULT_MTU}
use Rattle.csp_topology.proofs.PartyLemmas.{heeds_can, ifaces-push}
use Rattle.csp_topology.proofs.PlanLemmas.{links_few}
use Rattle.csp_topology.proofs.parties.push_ifaces.Goals as goal
use Rattle.csp_topology.proofs.parties.push_ifaces.Goals.{then-touches+in_ok-push, else-touches}
use Rattle.csp_topology.specs.Opening.{CanOpen, FitsBuffers, opening_of}
use Rattle.csp_topology.specs.Parties.{PlainOpening, heeded, iface_on, ifaces_from}
use Rattle.csp_topology.specs.declared.opening.Opening.{Opening}
use Rattle.csp_topology.specs.declared.opening.Opening.TheVariants as opening

-- and so does one that is told of the link's numbers
heeds_on : (addr : Option ℕ) (l : PlainLink) → HasEnds l → (k : LinkKind) (m : ℕ) → k ≡ l.kind → m ≡ l.mtu → (h : Option ℕ) → h ≡ heeded addr l → IfSome h (λ (a : ℕ). (k ≡ link.Can) × (m ≡ DEFAULT_MTU))
heeds_on addr l is k m kinds limits h same =
    subst (λ (o : Option ℕ). IfSome o (λ (a : ℕ). (k ≡ link.Can) × (m ≡ DEFAULT_MTU))) (sym same)
    (subst (λ (j : LinkKind). IfSome (heeded addr l) (λ (a : ℕ). (j ≡ link.Can) × (m ≡ DEFAULT_MTU))) (sym kinds)
    (subst (λ (n : ℕ). IfSome (heeded addr l) (λ (a : ℕ). (l.kind ≡ link.Can) × (n ≡ DEFAULT_MTU))) (sym limits) (heeds_can addr l is)))

pub overflow_add-number : goal.overflow_add-number
overflow_add-number c =
    let so_far = take c.loop-link.link-index c.args.links.now in
    let low : c.loop-link.link-index < length c.args.links.now = c.loop-link-test.true in
    omega (arith, c.loop-link.invariant.number, links_few c.args.place so_far, length-take-le c.loop-link.link-index c.args.links.now (omega (arith, low)), low, c.requires.few_links)

pub loop-link-preserved : goal.loop-link-preserved
loop-link-preserved c =
    let x : PlainLink = c.link-item.result in
    let old = c.loop-link.invariant in
    let place = c.args.place in
    let before = links_at place (take c.loop-link.link-index c.args.links.now) in
    let low : c.loop-link.link-index < length c.args.links.now = c.loop-link-test.true in
    let more : links_at place (take (c.loop-link.link-index + 1) c.args.links.now) ≡ before ++ cond (touches place x) (x ∷ []) [] =
    filter_more (touches place) c.args.links.now c.loop-link.link-index x low ∙ ap (λ (y : PlainLink). before ++ cond (touches place y) (y ∷ []) []) (sym c.link-item.is) in
    let so_far = take c.loop-link.link-index c.args.links.now in
    let within : c.loop-link.number < IFACES = omega (arith, old.number, links_few place so_far, length-take-le c.loop-link.link-index c.args.links.now (omega (arith, low)), low, c.requires.few_links) in
    let most : x.mtu ≤ MAX_PAYLOAD = subst FitsBuffers (sym c.link-item.is) (AllByRecursion-at FitsBuffers c.args.links.now c.loop-link.link-index x c.requires.fit low) in
    let fits : c.link.inside.mtu ≤ MAX_PAYLOAD = omega (arith, most, ap (λ (l : PlainLink). l.mtu) c.link.view_is) in
    let kinds : c.link.inside.kind ≡ x.kind = ap (λ (l : PlainLink). l.kind) c.link.view_is in
    let limits : c.link.inside.mtu ≡ x.mtu = ap (λ (l : PlainLink). l.mtu) c.link.view_is in
    let shape : HasEnds x = subst HasEnds (sym c.link-item.is) (AllByRecursion-at HasEnds c.args.links.now c.loop-link.link-index x c.requires.shaped low) in
    let heeds = heeds_on c.args.node.now.addr x shape c.link.inside.kind c.link.inside.mtu kinds limits in
    let tested : c.touches.result ≡ touches place x = c.touches.ensures ∙ ap (λ (p : ℕ). touches p x) c.from.ensures in
    elim c.if-touches.branch [
      | then-touches+in_ok-push w ↦
          (let with_it : links_at place (take (c.loop-link.link-index + 1) c.args.links.now) ≡ before ++ x ∷ [] = more ∙ ap (λ b. before ++ cond b (x ∷ []) []) (sym tested ∙ w.if-touches.true) in
          record {
            number = w.number-is ∙ omega (arith, old.number, ap (λ (ls : List PlainLink). length ls) with_it, length-append before (x ∷ []));
            parties = ap (λ (os : List Opening). map opening_of os) (ap (λ v. v.items) w.openings-is ∙ w.in_ok-push.ensures.items)
                ∙ map-append opening_of c.loop-link.openings.items _
                ∙ ap (λ (os : List PlainOpening). os ++ iface_on place c.loop-link.number c.link.inside.kind c.link.inside.mtu w.heeded.result ∷ []) old.parties
                ∙ ifaces-push (map opening_of c.args.openings.now.items) place c.args.node.now.addr c.loop-link.number c.link.inside.kind c.link.inside.mtu w.heeded.result before x old.number kinds limits w.heeded.ensures
                ∙ ap (λ (ls : List PlainLink). map opening_of c.args.openings.now.items ++ ifaces_from place c.args.node.now.addr 0 ls) (sym with_it);
            ready = subst (λ (os : List Opening). AllByRecursion CanOpen os) (sym (ap (λ v. v.items) w.openings-is ∙ w.in_ok-push.ensures.items))
                (AllByRecursion-append CanOpen c.loop-link.openings.items (opening.Iface place c.loop-link.number c.link.inside.kind c.link.inside.mtu w.heeded.result ∷ []) old.ready ((within, fits, heeds w.heeded.result w.heeded.ensures), tt));
          })
      | else-touches w ↦
          (let without : links_at place (take (c.loop-link.link-index + 1) c.args.links.now) ≡ before = more ∙ ap (λ b. before ++ cond b (x ∷ []) []) (sym tested ∙ w.if-touches.false) ∙ append-nil before in
          record {
            number = w.number-is ∙ old.number ∙ ap (λ (ls : List PlainLink). length ls) (sym without);
            parties = ap (λ v. map opening_of v.items) w.openings-is ∙ old.parties ∙ ap (λ (ls : List PlainLink). map opening_of c.args.openings.now.items ++ ifaces_from place c.args.node.now.addr 0 ls) (sym without);
            ready = rw w.openings-is old.ready;
          })
    ]

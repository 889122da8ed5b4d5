use Rattle.std.proofs.Common.{◌≡◌, ◌++◌, map, sym, subst, ap, ◌∙◌, arith}
use Rattle.std.specs.Global.{Vec}
use Rattle.csp_opening.proofs.Leaving.{ends_are}
use Rattle.csp_opening.specs.Opened.{ends_in, lead_in, queues_in}
use Rattle.csp_opening.specs.Whole.{CanShare, posts_among}
use Rattle.csp_opening.specs.declared.lanes.Pair.{Pair}
use Rattle.csp_opening.specs.declared.nodes.Node.{Node}
use Rattle.csp_opening.proofs.opening.assemble.Goals as goal

pub post-requires-clause-can : goal.post-requires-clause-can
post-requires-clause-can c =
    let nodes = c.args.nodes.items in
    let unposted = c.args.unposted.items in
    let sides = c.args.blanks.sides.items in
    let added = c.add_all.ensures in
    let ends : map (λ (pairs : Vec Pair). pairs.items) c.add_all.new.self.ends.items ≡ map ends_in nodes =
    ap (map (λ (pairs : Vec Pair). pairs.items)) (added.ends ∙ ap (λ xs. xs ++ map (λ (x : Node). x.lanes.ends) nodes) c.requires.blanks.ends) ∙ ends_are nodes in
    let queues : c.add_all.new.self.queues.items ≡ map queues_in nodes = added.queues ∙ ap (λ xs. xs ++ map queues_in nodes) c.requires.lists.queues in
    let leads : c.add_all.new.self.leads.items ≡ map lead_in nodes = added.leads ∙ ap (λ xs. xs ++ map lead_in nodes) c.requires.blanks.leads in
    record {
      share = subst (λ es. CanShare sides es c.add_all.new.self.queues.items c.add_all.new.self.leads.items unposted) (sym ends)
          (subst (λ qs. CanShare sides (map ends_in nodes) qs c.add_all.new.self.leads.items unposted) (sym queues)
          (subst (λ ls. CanShare sides (map ends_in nodes) (map queues_in nodes) ls unposted) (sym leads) c.requires.can));
      homes = c.requires.blanks.homes;
      homes_room = (let room = c.requires.blanks.homes_room in omega (arith, room));
    }

pub returns-clause-posts : goal.returns-clause-posts
returns-clause-posts c =
    let nodes = c.args.nodes.items in
    let unposted = c.args.unposted.items in
    let added = c.add_all.ensures in
    let ends : map (λ (pairs : Vec Pair). pairs.items) c.add_all.new.self.ends.items ≡ map ends_in nodes =
    ap (map (λ (pairs : Vec Pair). pairs.items)) (added.ends ∙ ap (λ xs. xs ++ map (λ (x : Node). x.lanes.ends) nodes) c.requires.blanks.ends) ∙ ends_are nodes in
    let leads : c.add_all.new.self.leads.items ≡ map lead_in nodes = added.leads ∙ ap (λ xs. xs ++ map lead_in nodes) c.requires.blanks.leads in
    c.post.ensures ∙ (λ i. c.requires.lists.posts i ++ posts_among (ends i) (leads i) unposted)

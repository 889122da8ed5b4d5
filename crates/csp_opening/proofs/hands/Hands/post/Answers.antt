use Rattle.std.proofs.Common.{◌≡◌, ◌<◌, ◌+◌, ◌++◌, ℕ, List, length, map, sym, subst, ap, ◌∙◌, arith}
use Rattle.std.specs.Global.{Vec}
use Rattle.std.specs.List.{AllByRecursion}
use Rattle.csp_opening.proofs.Leaving.{all_unmapped, can_all, same_posts}
use Rattle.csp_opening.specs.Handed.{IsAmong, handed_from, list_at}
use Rattle.csp_opening.specs.Parted.{part_homes, parts_left}
use Rattle.csp_opening.specs.Posted.{CanPostAll, posts_with}
use Rattle.csp_opening.specs.Whole.{whos}
use Rattle.csp_opening.specs.declared.lanes.Pair.{Pair}
use Rattle.csp_opening.specs.declared.unposted.Unposted.{Unposted}
use Rattle.csp_opening.proofs.hands.Hands.post.Goals.{After-part_passes}
use Rattle.csp_opening.proofs.hands.Hands.post.Goals as goal

pub hand_out-requires-clause-few : goal.hand_out-requires-clause-few
hand_out-requires-clause-few c = all_unmapped (λ (ps : List Pair). length ps < 256) (λ (pairs : Vec Pair). pairs.items) c.args.self.ends.items c.requires.can.share.few

pub hand_out-requires-clause-among : goal.hand_out-requires-clause-among
hand_out-requires-clause-among c =
    all_unmapped (λ (ps : List Pair). AllByRecursion (IsAmong (length c.args.self.sides.items)) ps) (λ (pairs : Vec Pair). pairs.items) c.args.self.ends.items c.requires.can.share.among

-- all was handed out
module _ (c : After-part_passes) where
  abbrev ends : List (List Pair)
  ends = map (λ (pairs : Vec Pair). pairs.items) c.args.self.ends.items

  leads : c.part_passes.new.leads.items ≡ parts_left c.args.self.leads.items (whos c.args.unposted.items)
  leads = c.part_passes.ensures.leads ∙ ap (λ (ss : List Unposted). parts_left c.args.self.leads.items (whos ss)) c.deref.ensures.value

  homes : c.part_passes.new.homes.items ≡ part_homes c.args.self.leads.items (whos c.args.unposted.items)
  homes = c.part_passes.ensures.homes ∙ (λ i. c.requires.can.homes i ++ part_homes c.args.self.leads.items (whos (c.deref.ensures.value i)))

  long : length c.hand_out.new.sides.items ≡ length c.args.unposted.items
  long = c.hand_out.ensures.count ∙ c.requires.can.share.count

  sides : (k j : ℕ) → k < length c.hand_out.new.sides.items → j ≡ 0 + k → list_at c.hand_out.new.sides.items k ≡ handed_from j 0 ends
  sides k j low same =
      let count = c.hand_out.ensures.count in
      let to : k ≡ j = omega (arith, same) in
      c.hand_out.ensures.lists k (omega (arith, low, count)) ∙ ap (λ l. l ++ handed_from k 0 ends) (c.requires.can.share.blank k) ∙ ap (λ m. handed_from m 0 ends) to

pub post_all-requires-clause-can : goal.post_all-requires-clause-can
post_all-requires-clause-can c =
    let was = (goal.at.post_all-requires-clause-can c).After-part_passes in
    let first = c.args.self.leads.items in
    let unposted = c.args.unposted.items in
    subst (λ ls. CanPostAll ls unposted c.part_passes.new.homes.items c.hand_out.new.sides.items) (sym (leads was))
    (subst (λ hs. CanPostAll (parts_left first (whos unposted)) unposted hs c.hand_out.new.sides.items) (sym (homes was))
    (can_all 0 (ends was) (parts_left first (whos unposted)) unposted (part_homes first (whos unposted)) c.hand_out.new.sides.items c.requires.can.share.post (long was) (sides was)))

pub returns : goal.returns
returns c =
    let was = (goal.at.returns c).After-part_passes in
    let unposted = c.args.unposted.items in
    let posts = c.args.posts.now.items in
    c.post_all.ensures
    ∙ (λ i. posts ++ posts_with (leads was i) unposted (homes was i) c.hand_out.new.sides.items)
    ∙ ap (λ ps. posts ++ ps) (same_posts 0 (ends was) _ unposted _ c.hand_out.new.sides.items (long was) (sides was))

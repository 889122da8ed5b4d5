use Rattle.std.proofs.Common.{◌++◌, ◌∷◌, [], List, Option, length, sym, subst, ap, ◌∙◌, arith}
use Rattle.std.proofs.lemmas.List.{append_assoc}
use Rattle.std.specs.List.{AllByRecursion}
use Rattle.csp_ends.specs.Ends.{PlainHome}
use Rattle.csp_opening.proofs.Given.{opening_past}
use Rattle.csp_opening.specs.Parted.{IsOpening}
use Rattle.csp_opening.specs.Posted.{CanPostAll, ends_with, post_with, posts_with}
use Rattle.csp_opening.specs.declared.unposted.Unposted.{Unposted}
use Rattle.csp_opening.proofs.posts.post_all.Goals as goal

pub loop-one-preserved : goal.loop-one-preserved
loop-one-preserved c =
    let before = c.loop-one.invariant in
    let unposted = c.in-Some.ensures.items in
    let homes = c.next.ensures in
    let sides = c.next-sides.ensures in
    let can : CanPostAll c.loop-one.leads.items (c.in-Some.one ∷ c.pop_front.new.self.items) (c.next.result ∷ c.next.new.list.items) (c.next-sides.result ∷ c.next-sides.new.list.items) =
    subst (λ vs. CanPostAll c.loop-one.leads.items (c.in-Some.one ∷ c.pop_front.new.self.items) (c.next.result ∷ c.next.new.list.items) vs) sides
    (subst (λ hs. CanPostAll c.loop-one.leads.items (c.in-Some.one ∷ c.pop_front.new.self.items) hs c.loop-one.sides.items) homes
    (subst (λ ss. CanPostAll c.loop-one.leads.items ss c.loop-one.homes.items c.loop-one.sides.items) unposted before.can)) in
    let long = ap (λ (xs : List Unposted). length xs) unposted in
    let room = before.room in
    let len = c.push_reserved.ensures.len in
    let cap = c.push_reserved.ensures.capacity in
    record {
      opening = subst (AllByRecursion IsOpening) (sym c.home_of-home.ensures.leads) (opening_past c.loop-one.leads.items c.in-Some.one.who before.opening);
      can = subst (λ ls. CanPostAll ls c.pop_front.new.self.items c.next.new.list.items c.next-sides.new.list.items) (sym c.home_of-home.ensures.leads) can.1;
      room = omega (arith, long, room, len, cap);
      posts = ap (λ ps. ps ++ posts_with c.home_of-home.new.leads.items c.pop_front.new.self.items c.next.new.list.items c.next-sides.new.list.items) c.push_reserved.ensures.items
          ∙ append_assoc c.loop-one.posts.items (c.post.result ∷ []) (posts_with c.home_of-home.new.leads.items c.pop_front.new.self.items c.next.new.list.items c.next-sides.new.list.items)
          ∙ (λ i. c.loop-one.posts.items ++ (c.post.ensures ∙ ap (λ (h : Option PlainHome). post_with c.in-Some.one (ends_with h c.next-sides.result.items)) c.home_of-home.ensures.home) i
          ∷ posts_with (c.home_of-home.ensures.leads i) c.pop_front.new.self.items c.next.new.list.items c.next-sides.new.list.items)
          ∙ (λ i. c.loop-one.posts.items ++ posts_with c.loop-one.leads.items (sym unposted i) (sym homes i) (sym sides i))
          ∙ before.posts;
    }

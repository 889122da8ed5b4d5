use Rattle.std.proofs.Common.{◌≡◌, ◌∷◌, ◌++◌, [], All, map, arith, sym, ap, ◌∙◌, subst}
use Rattle.std.proofs.lemmas.List.{map-append}
use Rattle.std.proofs.lemmas.List.Elements.{All-push}
use Rattle.csp_closing.proofs.Parting.{moved}
use Rattle.csp_closing.specs.Retired.{IsFresh, PlainRetired, retired_of, to_retire}
use Rattle.csp_ends.specs.Ends as hands
use Rattle.csp_posts.specs.declared.retired.Retired.{Retired}
use Rattle.csp_closing.proofs.retiring.retire.Goals as goal

pub loop-post-preserved : goal.loop-post-preserved
loop-post-preserved c =
    let r : Retired = c.retire.result in
    let first = c.in-Some.ensures.items in
    let before = c.loop-post.invariant in
    let made = c.retire.ensures in
    let put = c.push_reserved.ensures in
    let same : retired_of r ≡ to_retire c.in-Some.post = λ i. record { post = record { who = made.who i; party = made.party i; entries = made.log i; ends = made.ends i }; room = made.numbers.1 i } in
    let room = rw first at before.room in
    record {
      posts = moved (map retired_of c.loop-post.retired.items) (to_retire c.in-Some.post ∷ []) (map retired_of c.push_reserved.new.self.items) (map to_retire c.pop_front.new.self.items) (map to_retire c.args.posts.items)
          (ap (map retired_of) put.items ∙ map-append retired_of c.loop-post.retired.items (r ∷ []) ∙ ap (λ (x : PlainRetired). map retired_of c.loop-post.retired.items ++ x ∷ []) same)
          (rw first at before.posts);
      fresh = subst (All IsFresh) (sym put.items) (All-push IsFresh c.loop-post.retired.items r before.fresh (record { unnoted = made.numbers.0; region = made.region ∙ ap hands.region_of (sym made.ends) }));
      room = omega (arith, room, put.len, put.capacity);
    }

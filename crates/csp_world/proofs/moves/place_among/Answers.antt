use Rattle.std.proofs.Common.{◌≡◌, ℕ, ◌≤◌, None, Some, cond, ltb, length, unwrap_or, arith, rules}
use Rattle.std.specs.List.{position_or_len}
use Rattle.std.proofs.lemmas.Bool.Decides.{nat_tests}
use Rattle.std.proofs.lemmas.Iterator.{YieldsList-from_slice}
use Rattle.std.proofs.lemmas.Iterator.Search.{position_from_yields_List}
use Rattle.std.proofs.lemmas.List.Sums.{prefix_len-le-length}
use borrow.Author.Tests.{tests}
use Rattle.csp_log.specs.Who.{is_who}
use Rattle.csp_world.specs.declared.member.Member.{Member}
use Rattle.csp_world.proofs.moves.place_among.Goals as goal

-- a place, or the length where it is not within
place_or : (place end : ℕ) → place ≤ end → unwrap_or (cond (ltb place end) (Some place) None) end ≡ place
place_or place end h = grind (arith, nat_tests)

pub returns : goal.returns
returns c =
    let test = λ (m : Member). is_who c.args.who m.who in
    let all = c.args.members.now in
    let found = position_from_yields_List test c.position.new.self _ c.position.result c.position.ensures.ran (YieldsList-from_slice all cc) (λ x b q k. search (rules, tests)) in
    rw (c.unwrap_or.ensures, found) (place_or (position_or_len test all) (length all) (prefix_len-le-length _ all))

use Rattle.std.proofs.Common.{◌≡◌, [], arith}
use Rattle.std.specs.Prelude.{IfSome}
use Rattle.std.specs.List.{AllByRecursion}
use Rattle.csp_node.proofs.Entries.{each_plain, none_long}
use Rattle.csp_node.specs.Rounds.{plains}
use Rattle.csp_posts.specs.Books.{IsFresh}
use Rattle.csp_posts.specs.Posts.{PlainPost}
use Rattle.csp_standing.specs.Fabrics.{network_of}
use Rattle.csp_topology.specs.Parties.{parties_of}
use Rattle.csp_node.proofs.laws.starts_rounds.Goals as goal

pub returns : goal.returns
returns c = λ scene f limit posts fabric new fresh.
    let n = network_of f in
    let unused : AllByRecursion (λ (s : PlainPost). s.entries ≡ []) (plains posts) = each_plain (λ s. s.entries ≡ []) posts new in
    let fresh_all : AllByRecursion (λ (s : PlainPost). IfSome s.ends.home IsFresh) (plains posts) = each_plain (λ s. IfSome s.ends.home IsFresh) posts fresh in
    record {
      fabric = fabric;
      books = c.opens_books.ensures (plains posts) (c.leads_nodes.ensures scene n (plains posts) fabric.network) fresh_all;
      between = c.starts.ensures f.queues (plains posts) unused;
      made = c.makes_no_round.ensures (parties_of scene) (plains posts) (c.runs_parties.ensures scene n (plains posts) fabric.network) unused;
      short = none_long (plains posts) unused;
      before = λ some. absurd (omega (arith, some));
    }

-- The books of the pools before the first turn.
use Rattle.std.proofs.Common.{◌≡◌, ◌+◌, ℕ, List, [], ◌∷◌, ◌==◌, Option, None, Some, refl, sym, ap, ◌∙◌}
use Rattle.std.specs.Prelude.{IfSome, if◌then◌else◌}
use Rattle.std.specs.List.{AllByRecursion}
use Rattle.csp_base.specs.declared.priority.Prio.{Prio}
use Rattle.std.proofs.lemmas.List.Sums.{sum_by-cons}
use Rattle.csp_ends.specs.Ends.{PlainHome}
use Rattle.csp_inbox.specs.Marks.{with_mark}
use Rattle.csp_inbox.specs.Passes.{PlainPass, mail_at}
use Rattle.csp_posts.specs.Between.{is_home, over_home, pool_puts, pool_takes}
use Rattle.csp_posts.specs.Books.{AreInBooks, HasBooks, IsFresh, IsMarked}
use Rattle.csp_posts.specs.Meetings.{puts_for, takes_for}
use Rattle.csp_posts.specs.Posts.{PlainPost}
use Rattle.csp_standing.specs.Standing.{HaveLeaders}

same_parts : (node : ℕ) (f did : Option PlainHome → ℕ) (posts : List PlainPost) → ((h : PlainHome) → IsFresh h → f (Some h) ≡ did (Some h)) → AllByRecursion (λ (s : PlainPost). IfSome s.ends.home IsFresh) posts
    → over_home node (λ (s : PlainPost). f s.ends.home) posts ≡ over_home node (λ (s : PlainPost). did s.ends.home) posts
same_parts node f did [] same h = refl
same_parts node f did (s ∷ posts) same h =
    sum_by-cons (λ (t : PlainPost). if is_home node t.ends.home then f t.ends.home else 0) s posts
    ∙ (λ i. one s.ends.home h.0 i + same_parts node f did posts same h.1 i)
    ∙ sym (sum_by-cons (λ (t : PlainPost). if is_home node t.ends.home then did t.ends.home else 0) s posts) where
      one : (home : Option PlainHome) → IfSome home IsFresh → (if is_home node home then f home else 0) ≡ (if is_home node home then did home else 0)
      one None k = refl
      one (Some g) k = ap (λ n. if g.node == node then n else 0) (same g k)

books_fresh : (posts : List PlainPost) → AllByRecursion (λ (s : PlainPost). IfSome s.ends.home IsFresh) posts → AllByRecursion (λ (s : PlainPost). IfSome s.ends.home HasBooks) posts
books_fresh [] h = tt
books_fresh (s ∷ posts) h = (one s.ends.home h.0, books_fresh posts h.1) where
  one : (home : Option PlainHome) → IfSome home IsFresh → IfSome home HasBooks
  one None k = k
  one (Some g) k = record { itself = k.itself; marked = marks g.inbox k.empty } where
    marks : (x : Option PlainPass) → IfSome x (λ p. (prio : Prio) → (mail_at p prio).kept ≡ []) → IfSome x IsMarked
    marks None e = e
    marks (Some p) e = λ prio. ap (with_mark p.role.mark) (e prio) ∙ sym (e prio)

pub fresh_books : (posts : List PlainPost) → HaveLeaders posts → AllByRecursion (λ (s : PlainPost). IfSome s.ends.home IsFresh) posts → AreInBooks posts
fresh_books posts leaders h = record {
  puts = λ node. same_parts node puts_for pool_puts posts (λ g k. k.puts) h;
  takes = λ node. same_parts node takes_for pool_takes posts (λ g k. k.takes) h;
  each = books_fresh posts h;
  led = leaders.led;
  first = leaders.first;
}

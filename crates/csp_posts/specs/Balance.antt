-- That no buffer is lost or made in a party's hands.
use Rattle.std.specs.Prelude.{◌≡◌, ◌+◌, ℕ, Option, None, Some, List, if◌then◌else◌}
use Rattle.std.specs.List.{sum_by}
use Rattle.csp_deck.specs.Step.{times}
use Rattle.csp_ends.specs.Ends.{PlainSide, PlainHome, PlainEnds}
use Rattle.csp_inbox.specs.Passes as inbox
use Rattle.csp_lists.specs.PlainDeck.{numbers_of}
use Rattle.csp_party.specs.Any.{holds}
use Rattle.csp_posts.specs.Posts.{PlainPost}

-- how often a number is among the packets that were put through this end, and of those that were got
abbrev pub times_put : ℕ → PlainSide → ℕ
times_put k s = (if s.puts then times k (numbers_of s.end.items) else 0)

-- how often among those that were got through it
abbrev pub times_got : ℕ → PlainSide → ℕ
times_got k s = (if s.puts then 0 else times k (numbers_of s.end.items))

-- how often among those that a pass put into an inbox
abbrev pub times_kept : ℕ → Option inbox.PlainPass → ℕ
times_kept k None = 0
times_kept k (Some x) = times k (numbers_of x.critical.kept) + times k (numbers_of x.high.kept) + times k (numbers_of x.normal.kept) + times k (numbers_of x.low.kept)

-- how often among those that it got there
abbrev pub times_taken_out : ℕ → Option inbox.PlainPass → ℕ
times_taken_out k None = 0
times_taken_out k (Some x) = times k (numbers_of x.critical.got) + times k (numbers_of x.high.got) + times k (numbers_of x.normal.got) + times k (numbers_of x.low.got)

-- how often among what a party put into the pool and the inbox of its node
abbrev pub times_into : ℕ → Option PlainHome → ℕ
times_into k None = 0
times_into k (Some h) = times k h.pool.hand.put + times_kept k h.inbox

-- how often among what it took from them
abbrev pub times_from : ℕ → Option PlainHome → ℕ
times_from k None = 0
times_from k (Some h) = times k h.pool.hand.taken + times_taken_out k h.inbox

-- all that a party handed over, with the number k
abbrev pub times_out : ℕ → PlainEnds → ℕ
times_out k e = sum_by (times_put k) e.sides + times_into k e.home

-- all that came to it
abbrev pub times_in : ℕ → PlainEnds → ℕ
times_in k e = sum_by (times_got k) e.sides + times_from k e.home

-- each number that a party holds or handed over came to it, or was among these at the opening of the pool
abbrev pub IsBalanced : List ℕ → PlainPost → Type 0
IsBalanced opened s = (k : ℕ) → times k (holds s.party) + times_out k s.ends ≡ times_in k s.ends + times k opened

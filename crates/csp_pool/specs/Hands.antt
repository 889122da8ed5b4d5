-- What each step of a pool does to the hands of the passes that make it.
use Rattle.std.specs.Prelude.{◌≡◌, ◌<◌, ◌≤◌, ℕ, ◌+◌, ◌-◌, List, [], ◌∷◌, ◌++◌, length}
use Rattle.csp_arena.specs.Cells.{RegionName}
use Rattle.csp_pool.specs.declared.hand.Hand.{Hand}
use Rattle.csp_pool.specs.Tallies.{Tally, blank, known_total, one_more, must_reach, told, report, news, together}

-- a pass, and no note
abbrev pub IsLive : Hand → Type 0
IsLive v = 0 < v.opens + v.part

-- the opening pass, into which all others were joined
abbrev pub IsAlone : Hand → Type 0
IsAlone v = (v.opens ≡ 1) × (v.out ≡ 0)

-- no region has this name
abbrev pub nowhere : RegionName
nowhere = record { block = 0; start = 0; size = 0 }

-- the hand of a note, which has these tallies and no lists
abbrev pub note : RegionName → Tally → Tally → Hand
note region puts takes = record { region = region; opens = 0; part = 0; out = 0; put = []; taken = []; puts = puts; takes = takes }

-- what is left of a pass, or of a note, that was joined
abbrev pub spent_hand : Hand
spent_hand = note nowhere blank blank

-- the opening pass before the first buffer was put
abbrev pub first_hand : Hand
first_hand = record spent_hand { opens = 1 }

-- a hand whose buffers are of this region
abbrev pub with_region : Hand → RegionName → Hand
with_region v region = record v { region = region }

-- the opening pass once it has put buffers of these numbers and this region, and done nothing else
abbrev pub opening_hand : RegionName → List ℕ → Hand
opening_hand region ns = record first_hand { region = region; put = ns; puts = record blank { untold = length ns } }

-- the buffer of the number n was taken
abbrev pub took : Hand → ℕ → Hand
took v n = record v { taken = v.taken ++ n ∷ []; takes = one_more v.takes }

-- the buffers of these numbers were taken
abbrev pub took_all : Hand → List ℕ → Hand
took_all v ns = record v { taken = v.taken ++ ns; takes = record v.takes { untold = v.takes.untold + length ns } }

-- the buffer of the number n was given
abbrev pub gave : Hand → ℕ → Hand
gave v n = record v { put = v.put ++ n ∷ []; puts = one_more v.puts }

-- the pool was found empty: all that was put was taken, so all takes come to the puts that are known
abbrev pub found_empty : Hand → Hand
found_empty v = record v { takes = must_reach (known_total v.puts) v.takes }

-- the pool, with room for n, was found full: n more were put than taken, so all puts come to n and the takes that are known
abbrev pub found_full : ℕ → Hand → Hand
found_full n v = record v { puts = must_reach (n + known_total v.takes) v.puts }

-- a pass was split off
abbrev pub split_left : Hand → Hand
split_left v = record v { out = v.out + 1 }

-- and that is it: it has done nothing, and knows the same
abbrev pub split_right : Hand → Hand
split_right v = record (note v.region (news v.puts) (news v.takes)) { part = 1 }

-- the pass has told what it did
abbrev pub told_hand : Hand → Hand
told_hand v = record v { puts = told v.puts; takes = told v.takes }

-- the note that tells it
abbrev pub report_of : Hand → Hand
report_of v = note v.region (report v.puts) (report v.takes)

-- the note that tells what the pass knows
abbrev pub news_of : Hand → Hand
news_of v = note v.region (news v.puts) (news v.takes)

-- the pass v has become w, and what it put and took, its part in the pool and its region are as they were
abbrev pub DidNothing : Hand → Hand → Type 0
DidNothing v w = (w.put ≡ v.put) × (w.taken ≡ v.taken) × (w.opens ≡ v.opens) × (w.part ≡ v.part) × (w.out ≡ v.out) × (w.region ≡ v.region)

-- v knows of at least as many puts and takes as w does
abbrev pub KnowsAll : Hand → Hand → Type 0
KnowsAll v w = (known_total w.puts ≤ known_total v.puts) × (known_total w.takes ≤ known_total v.takes)

-- the pass v has taken in the pass or the note w
abbrev pub both : Hand → Hand → Hand
both v w = record v { out = v.out - w.part; put = v.put ++ w.put; taken = v.taken ++ w.taken; puts = together v.puts w.puts; takes = together v.takes w.takes }

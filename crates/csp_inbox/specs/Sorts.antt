-- the rule of one queue of an inbox, over what it holds and over what each pass knows
use Rattle.std.specs.Prelude.{◌≡◌, ◌≢◌, ℕ, true, false, ◌<◌, ◌≤◌, List, [], ◌∷◌, ◌++◌, length, map, All}
use mathlib.Core.Option.{some}
use lib.ListN.{get_elem?}
use Rattle.csp_arena.specs.Cells.{RegionName}
use Rattle.csp_base.specs.declared.priority.Prio.{Prio}
use Rattle.csp_base.specs.declared.priority.Prio.TheVariants.{Critical}
use Rattle.csp_inbox.specs.Marks.{with_mark, is_in}
use Rattle.csp_inbox.specs.Passes.{IsFor, mail, no_mail, known_puts, known_gets, HasGotAll, with_got, found_full, hears_gets, joined_mail, role, opening_role, split_role, parted_role, rejoined_role}
use Rattle.csp_inbox.specs.declared.hand.Hand.{Hand}
use Rattle.csp_inbox.specs.declared.hand.Mail.{Mail}
use Rattle.csp_inbox.specs.declared.hand.Role.{Role}
use Rattle.csp_inbox.specs.declared.hand.ToldPuts.{ToldPuts}
use Rattle.csp_log.specs.Pictures.{shown_item}
use Rattle.csp_log.specs.declared.item.Item.{Item}
use Rattle.csp_log.specs.declared.shown.ItemShown.{ItemShown}

-- what a pass is on the queue of one priority
abbrev pub hand : Role → Prio → Mail → Hand
hand r prio v = record { role = r; prio = prio; mail = v }

-- what a queue is opened for: the region of its buffers, its room and its priority
pub record Terms : Type 0 where
  pub region : RegionName
  pub room : ℕ
  pub prio : Prio

-- the terms of a queue: the region of its buffers, its room, its priority
abbrev pub terms : RegionName → ℕ → Prio → Terms
terms region room prio = record { region = region; room = room; prio = prio }

-- the terms of no queue
abbrev pub no_terms : Terms
no_terms = terms (record { block = 0; start = 0; size = 0 }) 0 Critical

-- the opening pass's; first of all one without terms
abbrev pub opening_hand : Terms → Hand
opening_hand t = hand (opening_role t.region t.room) t.prio no_mail

-- the opening pass on the queue of a priority, before its first step
abbrev pub opening_at : RegionName → ℕ → Prio → Hand
opening_at region room prio = opening_hand (terms region room prio)

-- a pass without terms, which is yet to be given its own
abbrev pub newcomer : Hand
newcomer = opening_hand no_terms

-- a view that may do nothing: a note, or a pass that was joined
abbrev pub idle_role : Role
idle_role = role (record { block = 0; start = 0; size = 0 }) 0 0 false false []

-- a note: a pass without lists that carries counts alone
abbrev pub note : List ToldPuts → (gets : ℕ) → Hand
note known gets = hand idle_role Critical (mail [] [] known gets 0)

-- a pass that was joined and has nothing left
abbrev pub spent : Hand
spent = note [] 0

-- a note of what was put under the pass's own mark, and one of what was got
abbrev pub put_note : Hand → Hand
put_note v = note (record { mark = v.role.mark; puts = length (with_mark v.role.mark v.mail.kept) } ∷ []) 0

-- a note of how many packets a pass got
abbrev pub get_note : Hand → Hand
get_note v = note [] (length v.mail.got)

-- the opening pass once a mark went out, and the pass that has it
abbrev pub parted_hand : Hand → ℕ → Hand
parted_hand v mark = hand (parted_role v.role mark) v.prio v.mail

-- a pass with this mark that was split off, on the queue of one priority
abbrev pub split_hand : Hand → ℕ → Hand
split_hand v mark = hand (split_role v.role mark) v.prio no_mail

-- what the opening pass reads in a note, and another pass
abbrev pub reads_puts : Hand → Hand → Hand
reads_puts v w = hand v.role v.prio (mail v.mail.kept v.mail.got (w.mail.known ++ v.mail.known) v.mail.known_got v.mail.puts_floor)

-- a pass that heard from a note how many packets were got
abbrev pub reads_gets : Hand → Hand → Hand
reads_gets v w = hand v.role v.prio (hears_gets w.mail.known_got v.mail)

-- a pass with another taken in
abbrev pub both_hands : Hand → Hand → Hand
both_hands v w = hand (rejoined_role v.role w.role.mark) v.prio (joined_mail v.mail w.mail)

-- Each mark has one owner, which kept all that was put under it: a pass that writes owns its own mark, and the one that reads owns
-- each mark that is not out, has got all that was got, and has kept nothing under a mark that is out. What any of them knows is so.
pub record FitsIn (region : RegionName) (prio : Prio) (owner : ℕ → ℕ) (reader : ℕ) (all got : List ItemShown) (port : ℕ) (v : Hand) : Type 0 where
  pub owns : (m : ℕ) → owner m ≡ port → with_mark m v.mail.kept ≡ with_mark m all
  pub writes : v.role.writes ≡ true → (owner v.role.mark ≡ port) × (v.role.token.name ≡ region) × (v.prio ≡ prio)
  pub idle : v.role.writes ≡ false → v.mail.kept ≡ []
  pub pure : v.role.reads ≡ false → (m : ℕ) → m ≢ v.role.mark → with_mark m v.mail.kept ≡ []
  pub reads : v.role.reads ≡ true → (port ≡ reader) × (v.mail.got ≡ got) × (v.role.writes ≡ true)
  pub home : v.role.reads ≡ true → (m : ℕ) → is_in v.role.out m ≡ false → owner m ≡ port
  pub away : v.role.reads ≡ true → (m : ℕ) → is_in v.role.out m ≡ true → (m ≢ v.role.mark) × (with_mark m v.mail.kept ≡ [])
  pub puts_known : (m : ℕ) → known_puts v.mail m ≤ length (with_mark m all)
  pub gets_known : known_gets v.mail ≤ length got
  pub reached : v.mail.puts_floor ≤ length all

-- what was put is what was got and then what the queue holds; it holds nothing but what the inbox carries at this priority
pub record Sorts (items : List Item) (views : List Hand) : Type 0 where
  pub region : RegionName
  pub prio : Prio
  pub owner : ℕ → ℕ
  pub reader : ℕ
  pub all : List ItemShown
  pub got : List ItemShown
  pub whole : all ≡ got ++ map shown_item items
  pub carried : All (IsFor region prio) items
  pub owned : (m : ℕ) → owner m < length views
  pub fits : (port : ℕ) (v : Hand) → get_elem? views port ≡ some v → FitsIn region prio owner reader all got port v

-- what a look at a full queue does, where it holds that many
abbrev pub Overflows : Hand → List Item → Hand → Type 0
Overflows v items w = w ≡ hand v.role v.prio (found_full (length items) v.mail)

-- what a look at an empty one tells the opening pass
pub record Misses (v w : Hand) : Type 0 where
  pub same : w ≡ v
  pub got_all : HasGotAll v.mail

-- what a pop gives
pub record Gets (v : Hand) (i : Item) (w : Hand) : Type 0 where
  pub got : w ≡ hand v.role v.prio (with_got v.mail (shown_item i))
  pub carried : IsFor v.role.token.name v.prio i

-- what the opening pass knows of the queue, with all marks at home
pub record Accounts (v : Hand) (items : List Item) : Type 0 where
  pub sorted : (m : ℕ) → with_mark m v.mail.kept ≡ with_mark m (v.mail.got ++ map shown_item items)
  pub reached : v.mail.puts_floor ≤ length v.mail.kept

-- by the opening pass, these items were got and appended to a list
pub record Takes (v w : Hand) (before after : List Item) : Type 0 where
  pub taken : List Item
  pub got : w ≡ hand v.role v.prio (mail v.mail.kept (v.mail.got ++ map shown_item taken) v.mail.known v.mail.known_got v.mail.puts_floor)
  pub appended : after ≡ before ++ taken
  pub carried : All (IsFor v.role.token.name v.prio) taken

-- the mark may be given away: it is at home, not the pass's own, and nothing was put under it
pub record HasNothingOf (v : Hand) (m : ℕ) : Type 0 where
  pub other : m ≢ v.role.mark
  pub home : is_in v.role.out m ≡ false
  pub none : with_mark m v.mail.kept ≡ []

-- the opening pass with all marks at home
pub record IsAllIn (v : Hand) : Type 0 where
  pub reads : v.role.reads ≡ true
  pub home : v.role.out ≡ []

-- all that was left was taken out, no more than there is room for
pub record Drains (room : ℕ) (v w : Hand) (before after : List Item) : Type 0 where
  pub takes : Takes v w before after
  pub all : Accounts w []
  pub few : length takes.taken ≤ room

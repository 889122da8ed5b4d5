-- an inbox and its passes, as contracts see them
use Rattle.std.specs.Prelude.{◌≡◌, ◌≢◌, ℕ, Bool, true, false, ◌+◌, ◌≤◌, ◌==◌, List, [], ◌∷◌, ◌++◌, length, map, max, cond, All, ⊤}
use Rattle.atomic_table.specs.Seated.{TableId}
use Rattle.csp_arena.specs.Cells.{RegionName}
use Rattle.csp_base.specs.declared.priority.Prio.{Prio}
use Rattle.csp_base.specs.declared.priority.Prio.TheVariants.{Critical, High, Normal, Low}
use Rattle.csp_deck.specs.Carried.{IsCarried}
use Rattle.csp_deck.specs.Regions.{IsItemOf}
use Rattle.csp_inbox.specs.Marks.{with_mark, is_in, without}
use Rattle.csp_inbox.specs.declared.hand.Mail.{Mail}
use Rattle.csp_inbox.specs.declared.hand.Role.{Role}
use Rattle.csp_inbox.specs.declared.hand.ToldPuts.{ToldPuts}
use Rattle.csp_log.specs.Pictures.{shown_item}
use Rattle.csp_log.specs.declared.item.Item.{Item}
use Rattle.csp_log.specs.declared.places.Rule.TheVariants as rule
use Rattle.csp_log.specs.declared.places.TheConstants.{UNMARKED}
use Rattle.csp_log.specs.declared.shown.ItemShown.{ItemShown}

-- which inbox it is: its four queues
pub record InboxName : Type 0 where
  pub critical : TableId
  pub high : TableId
  pub normal : TableId
  pub low : TableId

-- an inbox: which one it is, and the room of each of its queues
pub record PlainInbox : Type 0 where
  pub name : InboxName
  pub room : ℕ

-- a pass: which inbox it is of, what it may do, and what it did and knows of each priority
pub record PlainPass : Type 0 where
  pub inbox : InboxName
  pub role : Role
  pub critical : Mail
  pub high : Mail
  pub normal : Mail
  pub low : Mail

-- the pass is of this inbox
pub record IsPassOf (x : PlainInbox) (p : PlainPass) : Type 0 where
  pub inbox : p.inbox ≡ x.name
  pub room : p.role.room ≡ x.room

-- an inbox carries this item in its queue of that priority, and its buffer is of this region
pub record IsFor (region : RegionName) (prio : Prio) (i : Item) : Type 0 where
  pub carried : IsCarried (rule.Priority prio) (shown_item i)
  pub of_it : IsItemOf region i

-- what a pass did and knows of one priority
abbrev pub mail_at : PlainPass → Prio → Mail
mail_at p Critical = p.critical
mail_at p High = p.high
mail_at p Normal = p.normal
mail_at p Low = p.low

-- the pass with this mail of one priority
abbrev pub with_mail : PlainPass → Prio → Mail → PlainPass
with_mail p Critical m = record { inbox = p.inbox; role = p.role; critical = m; high = p.high; normal = p.normal; low = p.low }
with_mail p High m = record { inbox = p.inbox; role = p.role; critical = p.critical; high = m; normal = p.normal; low = p.low }
with_mail p Normal m = record { inbox = p.inbox; role = p.role; critical = p.critical; high = p.high; normal = m; low = p.low }
with_mail p Low m = record { inbox = p.inbox; role = p.role; critical = p.critical; high = p.high; normal = p.normal; low = m }

-- the mail of one priority with these parts
abbrev pub mail : (kept got : List ItemShown) → List ToldPuts → (known_got puts_floor : ℕ) → Mail
mail kept got known known_got puts_floor = record { kept = kept; got = got; known = known; known_got = known_got; puts_floor = puts_floor }

-- nothing was done yet and nothing is known
abbrev pub no_mail : Mail
no_mail = mail [] [] [] 0 0

-- what it knows to have been put under a mark, by what it was told
abbrev pub known_of : List ToldPuts → ℕ → ℕ
known_of [] m = 0
known_of (t ∷ ts) m = cond (t.mark == m) (max t.puts (known_of ts m)) (known_of ts m)

-- and in all: its own puts it knows itself; of a pass that was joined it keeps the puts
abbrev pub known_puts : Mail → ℕ → ℕ
known_puts v m = max (known_of v.known m) (length (with_mark m v.kept))

-- how many gets of a priority a pass knows of: those that it heard of, and its own
abbrev pub known_gets : Mail → ℕ
known_gets v = max v.known_got (length v.got)

-- the gets of each mark are at least the puts that it knew: with fewer, there was an item at each moment
abbrev pub HasGotAll : Mail → Type 0
HasGotAll v = (m : ℕ) → known_puts v m ≤ length (with_mark m v.got)

-- once it put this; found no room, where there is room for n; got this
abbrev pub with_kept : Mail → ItemShown → Mail
with_kept v i = mail (v.kept ++ i ∷ []) v.got v.known v.known_got v.puts_floor

-- all puts are then at least the room and the gets that it knew
abbrev pub found_full : ℕ → Mail → Mail
found_full n v = mail v.kept v.got v.known v.known_got (max v.puts_floor (n + known_gets v))

-- with one packet more that was got
abbrev pub with_got : Mail → ItemShown → Mail
with_got v i = mail v.kept (v.got ++ i ∷ []) v.known v.known_got v.puts_floor

-- once it knows that so many were put under a mark, or got
abbrev pub hears_puts : ℕ → ℕ → Mail → Mail
hears_puts mark puts v = mail v.kept v.got (record { mark = mark; puts = puts } ∷ v.known) v.known_got v.puts_floor

-- having heard of so many gets
abbrev pub hears_gets : ℕ → Mail → Mail
hears_gets gets v = mail v.kept v.got v.known (max v.known_got gets) v.puts_floor

-- with what another pass did and knows: the puts of the other stand under its mark, and of the floors the greater holds
abbrev pub joined_mail : Mail → Mail → Mail
joined_mail v w = mail (v.kept ++ w.kept) v.got (w.known ++ v.known) (max v.known_got w.known_got) (max v.puts_floor w.puts_floor)

-- which role it has
abbrev pub role : RegionName → ℕ → (mark : ℕ) → (writes reads : Bool) → (out : List ℕ) → Role
role region room mark writes reads out = record { token = record { name = region }; room = room; mark = mark; writes = writes; reads = reads; out = out }

-- the opening pass's, and that of a pass with a mark
abbrev pub opening_role : RegionName → ℕ → Role
opening_role region room = role region room UNMARKED true true []

-- the role of a pass with this mark that was split off
abbrev pub split_role : Role → ℕ → Role
split_role r mark = role r.token.name r.room mark true false []

-- the opening pass's role once a mark went out, and once it came back
abbrev pub parted_role : Role → ℕ → Role
parted_role r mark = role r.token.name r.room r.mark r.writes r.reads (mark ∷ r.out)

-- the role of the opening pass once the pass of this mark is joined again
abbrev pub rejoined_role : Role → ℕ → Role
rejoined_role r mark = role r.token.name r.room r.mark r.writes r.reads (without mark r.out)

-- the opening pass of an inbox
abbrev pub opening_pass : PlainInbox → RegionName → PlainPass
opening_pass x region = record { inbox = x.name; role = opening_role region x.room; critical = no_mail; high = no_mail; normal = no_mail; low = no_mail }

-- a pass that was split off with a mark, and the opening pass once this was done
abbrev pub split_pass : PlainPass → ℕ → PlainPass
split_pass p mark = record { inbox = p.inbox; role = split_role p.role mark; critical = no_mail; high = no_mail; normal = no_mail; low = no_mail }

-- the opening pass once a pass of this mark was split off
abbrev pub parted_pass : PlainPass → ℕ → PlainPass
parted_pass p mark = record { inbox = p.inbox; role = parted_role p.role mark; critical = p.critical; high = p.high; normal = p.normal; low = p.low }

-- this mark may be given to a pass: none has it, and nothing was put under it
pub record IsFree (p : PlainPass) (mark : ℕ) : Type 0 where
  pub other : mark ≢ p.role.mark
  pub home : is_in p.role.out mark ≡ false
  pub critical : with_mark mark p.critical.kept ≡ []
  pub high : with_mark mark p.high.kept ≡ []
  pub normal : with_mark mark p.normal.kept ≡ []
  pub low : with_mark mark p.low.kept ≡ []

-- the opening pass once another was joined into it
abbrev pub joined_pass : PlainPass → PlainPass → PlainPass
joined_pass p o = record {
  inbox = p.inbox;
  role = rejoined_role p.role o.role.mark;
  critical = joined_mail p.critical o.critical;
  high = joined_mail p.high o.high;
  normal = joined_mail p.normal o.normal;
  low = joined_mail p.low o.low;
}

-- the opening pass once it knows what another put, and the other once it knows what was got
abbrev pub heard_from : Mail → Mail → ℕ → Mail
heard_from v w mark = hears_puts mark (length (with_mark mark w.kept)) v

-- the opening pass once it met another
abbrev pub hearing : PlainPass → PlainPass → PlainPass
hearing p o = record {
  inbox = p.inbox;
  role = p.role;
  critical = heard_from p.critical o.critical o.role.mark;
  high = heard_from p.high o.high o.role.mark;
  normal = heard_from p.normal o.normal o.role.mark;
  low = heard_from p.low o.low o.role.mark;
}

-- the other once it met the opening pass
abbrev pub heard_by : PlainPass → PlainPass → PlainPass
heard_by o p = record {
  inbox = o.inbox;
  role = o.role;
  critical = hears_gets (length p.critical.got) o.critical;
  high = hears_gets (length p.high.got) o.high;
  normal = hears_gets (length p.normal.got) o.normal;
  low = hears_gets (length p.low.got) o.low;
}

-- a pop that served this priority passed over each higher one, and only one of which it had got all that it knew
abbrev pub PassesOver : Prio → PlainPass → Type 0
PassesOver Critical p = ⊤
PassesOver High p = HasGotAll p.critical
PassesOver Normal p = HasGotAll p.critical × HasGotAll p.high
PassesOver Low p = HasGotAll p.critical × HasGotAll p.high × HasGotAll p.normal

-- and one that found nothing passed over each of the four
abbrev pub FoundNothing : PlainPass → Type 0
FoundNothing p = HasGotAll p.critical × HasGotAll p.high × HasGotAll p.normal × HasGotAll p.low

-- what a pop gives: the item, got next of its priority
pub record GivesFrom (p : PlainPass) (i : Item) (q : PlainPass) : Type 0 where
  pub prio : Prio
  pub before : PassesOver prio p
  pub got : q ≡ with_mail p prio (with_got (mail_at p prio) (shown_item i))
  pub carried : IsFor p.role.token.name prio i

-- the opening pass with all marks at home
pub record AllIn (p : PlainPass) : Type 0 where
  pub reads : p.role.reads ≡ true
  pub home : p.role.out ≡ []

-- of one priority: what was got and then what is left has, for each mark, just what was put under it, in order; all puts have reached each floor
pub record ClosesOne (region : RegionName) (room : ℕ) (prio : Prio) (v : Mail) (left : List Item) : Type 0 where
  pub sorted : (m : ℕ) → with_mark m v.kept ≡ with_mark m (v.got ++ map shown_item left)
  pub counted : length v.kept ≡ length v.got + length left
  pub reached : v.puts_floor ≤ length v.kept
  pub carried : All (IsFor region prio) left
  pub few : length left ≤ room

-- of all four
pub record Closes (p : PlainPass) (before after : List Item) : Type 0 where
  pub left : Prio → List Item
  pub appended : after ≡ before ++ left Critical ++ left High ++ left Normal ++ left Low
  pub each : (prio : Prio) → ClosesOne p.role.token.name p.role.room prio (mail_at p prio) (left prio)

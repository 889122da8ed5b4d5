-- the rule of a lane, over what its queue holds and over what each pass knows
use Rattle.std.specs.Prelude.{◌≡◌, ⊤, ℕ, Bool, true, false, ◌+◌, ◌≤◌, Option, None, Some, List, [], ◌∷◌, ◌++◌, length, map, All, IfSome}
use mathlib.Core.Option.{some}
use lib.ListN.{get_elem?}
use Rattle.csp_arena.specs.Cells.{RegionName}
use Rattle.csp_lane.specs.Ends.{IsFor}
use Rattle.csp_lane.specs.Marks.{AreHeeded, marks_in, reached}
use Rattle.csp_lane.specs.declared.cargo.Cargo.{Cargo}
use Rattle.csp_lane.specs.declared.hand.Course.{Course}
use Rattle.csp_lane.specs.declared.hand.Hand.{Hand}
use Rattle.csp_log.specs.Pictures.{shown_item}
use Rattle.csp_log.specs.declared.item.Item.{Item}
use Rattle.csp_log.specs.declared.places.Carries.{Carries}
use Rattle.csp_log.specs.declared.places.Carries.TheVariants.{Up}
use Rattle.csp_log.specs.declared.shown.ItemShown.{ItemShown}

-- the terms on which a lane is opened: the region of its buffers, what it carries, its room, its tally, and the tally that its marks tell of
pub record Terms : Type 0 where
  pub region : RegionName
  pub carries : Carries
  pub room : ℕ
  pub tally : ℕ
  pub about : Option ℕ

-- what went one way: these items with these marks
abbrev pub course : List ItemShown → List ℕ → Course
course items marks = record { items = items; marks = marks }

-- nothing
abbrev pub no_course : Course
no_course = course [] []

-- one item more, with its mark where the lane has marks
abbrev pub longer : Option ℕ → Course → ItemShown → ℕ → Course
longer about c i n = course (c.items ++ i ∷ []) (c.marks ++ marks_in about n)

-- who may do what: put, get, or neither
abbrev pub hand : (writes reads : Bool) → Terms → (put got : Course) → (bounds : List ℕ) → (known_puts known_gets : ℕ) → Hand
hand writes reads t put got bounds known_puts known_gets = record {
  writes = writes;
  reads = reads;
  token = record { name = t.region };
  carries = t.carries;
  room = t.room;
  tally = t.tally;
  about = t.about;
  put = put;
  got = got;
  bounds = bounds;
  known_puts = known_puts;
  known_gets = known_gets;
}

-- the terms of an end
abbrev pub terms_of : Hand → Terms
terms_of v = record { region = v.token.name; carries = v.carries; room = v.room; tally = v.tally; about = v.about }

-- no terms yet
abbrev pub no_terms : Terms
no_terms = record { region = record { block = 0; start = 0; size = 0 }; carries = Up; room = 0; tally = 0; about = None }

-- the first pass, which may do both, before the lane has terms
abbrev pub newcomer : Hand
newcomer = hand true true no_terms no_course no_course [] 0 0

-- the end that puts, having put these and knowing of so many gets
abbrev pub writer : Terms → Course → ℕ → Hand
writer t put known_gets = hand true false t put no_course [] 0 known_gets

-- the end that gets, having got these under these bounds and knowing of so many puts
abbrev pub reader : Terms → Course → List ℕ → ℕ → Hand
reader t got bounds known_puts = hand false true t no_course got bounds known_puts 0

-- a note: an end without lists that carries counts alone
abbrev pub note : (known_puts known_gets : ℕ) → Hand
note known_puts known_gets = hand false false no_terms no_course no_course [] known_puts known_gets

-- a pass once it put this, whose sender had got so many
abbrev pub with_put : Hand → ItemShown → ℕ → Hand
with_put v i n = hand v.writes v.reads (terms_of v) (longer v.about v.put i n) v.got v.bounds v.known_puts v.known_gets

-- or got it
abbrev pub with_got : Hand → ItemShown → ℕ → Hand
with_got v i n = hand v.writes v.reads (terms_of v) v.put (longer v.about v.got i n) v.bounds v.known_puts v.known_gets

-- with a bound more
abbrev pub bounded : Hand → ℕ → Hand
bounded v n = hand v.writes v.reads (terms_of v) v.put v.got (v.bounds ++ n ∷ []) v.known_puts v.known_gets

-- a pass once it knows these counts
abbrev pub told : Hand → (known_puts known_gets : ℕ) → Hand
told v known_puts known_gets = hand v.writes v.reads (terms_of v) v.put v.got v.bounds known_puts known_gets

-- the producer's pass with the consumer's taken in
abbrev pub both_hands : Hand → Hand → Hand
both_hands v w = hand true true (terms_of v) v.put w.got w.bounds 0 0

-- a lane on these terms carries the item, and what its sender tells is of the lane that the marks tell of
pub record IsCargo (t : Terms) (x : Cargo) : Type 0 where
  pub fits : IsFor t.region t.carries x.item
  pub noted : IfSome x.note (λ w. t.about ≡ Some w.name)

-- its number is this one of the tally
pub record IsNumber (tally n : ℕ) (x : Cargo) : Type 0 where
  pub name : x.ticket.name ≡ tally
  pub number : x.ticket.number ≡ n

-- the numbers are those of the tally from this one on
abbrev pub AreNumbered : (tally n : ℕ) → List Cargo → Type 0
AreNumbered tally n [] = ⊤
AreNumbered tally n (x ∷ items) = IsNumber tally n x × AreNumbered tally (n + 1) items

-- the item that is seen
abbrev pub seen_in : Cargo → ItemShown
seen_in x = shown_item x.item

-- the marks of what a queue holds
abbrev pub marks_of : Option ℕ → List Cargo → List ℕ
marks_of about [] = []
marks_of about (x ∷ items) = marks_in about (reached x.note) ++ marks_of about items

-- the one that writes has put all that was put; the one that reads has got all that was got; what any of them knows is so, and its bounds hold
pub record FitsIn (t : Terms) (writer reader : ℕ) (put got : Course) (port : ℕ) (v : Hand) : Type 0 where
  pub writes : v.writes ≡ true → (port ≡ writer) × (v.put ≡ put) × (terms_of v ≡ t)
  pub reads : v.reads ≡ true → (port ≡ reader) × (v.got ≡ got) × (terms_of v ≡ t)
  pub heeded : AreHeeded v.got.marks v.bounds
  pub puts_known : v.known_puts ≤ length put.items
  pub gets_known : v.known_gets ≤ length got.items

-- what was put is what was got and then what the queue holds; it holds nothing but what the lane carries
pub record Relays (items : List Cargo) (views : List Hand) : Type 0 where
  pub terms : Terms
  pub writer : ℕ
  pub reader : ℕ
  pub put : Course
  pub got : Course
  pub whole : put.items ≡ got.items ++ map seen_in items
  pub marked : put.marks ≡ got.marks ++ marks_of terms.about items
  pub carried : All (IsCargo terms) items
  pub numbered : AreNumbered terms.tally (length got.items) items
  pub fits : (port : ℕ) (v : Hand) → get_elem? views port ≡ some v → FitsIn terms writer reader put got port v

-- what a full queue tells the producer, an empty one the consumer, and any the pass that has both
abbrev pub Crammed : Hand → List Cargo → Type 0
Crammed v items = v.known_gets + length items ≤ length v.put.items

-- what the rule says at a close of how many items are there
abbrev pub Drained : Hand → List Cargo → Type 0
Drained v items = v.known_puts ≤ length v.got.items + length items

-- what was put is what was got, followed by what is there; so are the marks, and the bounds hold
pub record Accounts (v : Hand) (there : List Cargo) : Type 0 where
  pub items : v.put.items ≡ v.got.items ++ map seen_in there
  pub marks : v.put.marks ≡ v.got.marks ++ marks_of v.about there
  pub heeded : AreHeeded v.got.marks v.bounds

-- what a pop gives: an item that the lane carries, got next, with its number
pub record Gets (v : Hand) (x : Cargo) (w : Hand) : Type 0 where
  pub got : w ≡ with_got v (seen_in x) (reached x.note)
  pub carried : IsCargo (terms_of v) x
  pub number : IsNumber v.tally (length v.got.items) x

-- a pass that may do both
pub record HasBoth (v : Hand) : Type 0 where
  pub writes : v.writes ≡ true
  pub reads : v.reads ≡ true

-- the last mark has no bound yet, and is at most this
pub record IsLast (n : ℕ) (v : Hand) : Type 0 where
  pub done : List ℕ
  pub mark : ℕ
  pub marks : v.got.marks ≡ done ++ mark ∷ []
  pub level : length done ≡ length v.bounds
  pub low : mark ≤ n

-- by a pass that may do both, these were got and their items appended to a list
pub record Takes (v w : Hand) (before after : List Item) : Type 0 where
  pub taken : List Cargo
  pub got : w ≡ hand v.writes v.reads (terms_of v) v.put (course (v.got.items ++ map seen_in taken) (v.got.marks ++ marks_of v.about taken)) v.bounds v.known_puts v.known_gets
  pub appended : after ≡ before ++ map (λ (x : Cargo). x.item) taken
  pub carried : All (IsCargo (terms_of v)) taken

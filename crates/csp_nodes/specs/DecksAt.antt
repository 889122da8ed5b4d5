-- What the lists of all nodes are seen as.
use Rattle.std.specs.Prelude.{ℕ, ◌≡◌, ⊤, List, length, nat_lt, Option, None, Some, Result, slice_get, if◌then◌else◌, IfSome, IfErr, MatchOption, MatchResult}
use Rattle.std.specs.List.{AllByRecursion}
use Rattle.csp_arena.specs.Cells.{RegionName}
use Rattle.csp_deck.specs.Regions.{nowhere}
use Rattle.csp_buffer.specs.Content.{Content}
use Rattle.csp_deck.specs.Carried.{IsCarriedIn, place_for, places_of, passed_over}
use Rattle.csp_lists.specs.PlainDeck.{PlainDeck}
use Rattle.csp_log.specs.declared.places.End.{End}
use Rattle.csp_log.specs.declared.places.Place.{Place}
use Rattle.csp_log.specs.declared.places.Place.TheVariants as place
use Rattle.csp_log.specs.declared.places.QueueId.{QueueId}
use Rattle.csp_log.specs.declared.places.Rule.{Rule}
use Rattle.csp_log.specs.declared.shown.AnswerShown.{AnswerShown}
use Rattle.csp_log.specs.declared.shown.AnswerShown.TheVariants as answer
use Rattle.csp_log.specs.declared.shown.ItemShown.{ItemShown}
use Rattle.csp_log.specs.declared.shown.OpShown.{OpShown}
use Rattle.csp_log.specs.declared.shown.OpShown.TheVariants as op
use Rattle.csp_log.specs.Who.{node_of}
use Rattle.csp_log.specs.declared.who.Who.{Who}
use Rattle.csp_nodes.specs.Serving.{answer_in, rule_in, IsEmptyIn, IsFullIn}

-- the lists of each node, the region of each node's buffers, the ends of each link, and the party whose turn it is
pub record DecksAt : Type 0 where
  pub decks : List PlainDeck
  pub regions : List RegionName
  pub links : List (List End)
  pub whose : Who

-- the region of the buffers that a party may hold: its node's, and a link's is none
abbrev pub region_or : Option RegionName → RegionName
region_or None = nowhere
region_or (Some r) = r

-- the region of a node's buffers, and none where there is no node
abbrev pub region_there : List RegionName → Option ℕ → RegionName
region_there regions None = nowhere
region_there regions (Some node) = region_or (slice_get regions node)

-- the region of a party's buffers
abbrev pub region_in : List RegionName → Who → RegionName
region_in regions w = region_there regions (node_of w)

-- an operation of the party whose turn it is can be answered so, and changes no more than the lists
pub record Answers (d : DecksAt) (o : OpShown) (a : AnswerShown) (e : DecksAt) : Type 0 where
  pub answer : answer_in d.decks d.links d.whose o ≡ (a, e.decks)
  pub regions : e.regions ≡ d.regions
  pub links : e.links ≡ d.links
  pub whose : e.whose ≡ d.whose

-- the node of a party, where it is one of these
abbrev pub home_among : List PlainDeck → Option ℕ → Option ℕ
home_among decks None = None
home_among decks (Some node) = (if nat_lt node (length decks) then Some node else None)

-- what a queue of the party whose turn it is carries, as it sees it
abbrev pub rule_at : DecksAt → QueueId → Option Rule
rule_at d q = rule_in d.decks d.links d.whose q

-- the region of the party whose turn it is
abbrev pub region_at : DecksAt → RegionName
region_at d = region_in d.regions d.whose

-- a place is empty, for the party whose turn it is
abbrev pub IsEmpty : DecksAt → Place → Type 0
IsEmpty d p = IsEmptyIn d.decks d.links d.whose p

-- a place is full, for the party whose turn it is
abbrev pub IsFull : DecksAt → Place → Type 0
IsFull d p = IsFullIn d.decks d.links d.whose p

-- a take that brought this
pub record TakesSo (d : DecksAt) (r : Option Content) (e : DecksAt) : Type 0 where
  pub answer : MatchOption r (Answers d op.Take answer.NoBuffer e) (λ b. Answers d op.Take (answer.Taken b) e)
  pub empty : MatchOption r (IsEmpty d place.Pool) (λ _. ⊤)
  pub rules : (q : QueueId) → rule_at e q ≡ rule_at d q
  pub region : region_at e ≡ region_at d

-- a give that brought this back
pub record GivesSo (d : DecksAt) (b : Content) (r : Result (Unit {0}) Content) (e : DecksAt) : Type 0 where
  pub answer : MatchResult r (λ _. Answers d (op.Give b) answer.Given e) (λ c. Answers d (op.Give b) (answer.PoolFull c) e)
  pub full : IfErr r (λ _. IsFull d place.Pool)
  pub rules : (q : QueueId) → rule_at e q ≡ rule_at d q
  pub region : region_at e ≡ region_at d

-- a push that brought this back
pub record PushesSo (d : DecksAt) (q : QueueId) (i : ItemShown) (r : Result (Unit {0}) ItemShown) (e : DecksAt) : Type 0 where
  pub answer : MatchResult r (λ _. Answers d (op.Push q i) answer.Pushed e) (λ j. Answers d (op.Push q i) (answer.Full j) e)
  pub full : IfErr r (λ _. IsFull d (place_for q i))
  pub rules : (x : QueueId) → rule_at e x ≡ rule_at d x
  pub region : region_at e ≡ region_at d

-- a pop that brought this
pub record PopsSo (d : DecksAt) (q : QueueId) (r : Option ItemShown) (e : DecksAt) : Type 0 where
  pub answer : MatchOption r (Answers d (op.Pop q) answer.Empty e) (λ i. Answers d (op.Pop q) (answer.Popped i) e)
  pub empty : MatchOption r (AllByRecursion (IsEmpty d) (places_of q)) (λ i. AllByRecursion (IsEmpty d) (passed_over q i))
  pub carried : IfSome r (λ i. IsCarriedIn (rule_at d q) i)
  pub rules : (x : QueueId) → rule_at e x ≡ rule_at d x
  pub region : region_at e ≡ region_at d

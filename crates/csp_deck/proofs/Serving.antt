-- what a party asks can be served by a deck that has the queues it uses, and the answer can be told to it
use Rattle.std.proofs.Common.{◌≡◌, refl, Option, Some, None, IsSome, rules}
use Rattle.csp_deck.specs.Carried.{IsCarriedIn}
use Rattle.csp_deck.specs.Step.{kind_of, CanServe, IsAnswerOf}
use Rattle.csp_log.specs.declared.shown.ItemShown.{ItemShown}
use Rattle.csp_log.specs.declared.shown.OpShown.{OpShown}
use Rattle.csp_log.specs.declared.shown.OpShown.TheVariants as op
use Rattle.csp_log.specs.declared.shown.AnswerShown.{AnswerShown}
use Rattle.csp_log.specs.declared.shown.AnswerShown.TheVariants as answer
use Rattle.csp_log.specs.declared.places.QueueId.{QueueId}
use Rattle.csp_log.specs.declared.places.Rule.{Rule}

-- what the queue of a user carries, the deck's queue carries
carried_there : (a b : Option Rule) (i : ItemShown) → ((r : Rule) → a ≡ Some r → b ≡ Some r) → IsCarriedIn a i → IsCarriedIn b i
carried_there None b i same c = absurd c
carried_there (Some r) b i same c = rw (same r refl) c

some_there : (a b : Option Rule) → ((r : Rule) → a ≡ Some r → b ≡ Some r) → IsSome a → IsSome b
some_there None b same s = cc
some_there (Some r) b same s = rw (same r refl) refl

-- and the other way round, where the user has that queue
carried_back : (a b : Option Rule) (i : ItemShown) → ((r : Rule) → a ≡ Some r → b ≡ Some r) → IsSome a → IsCarriedIn b i → IsCarriedIn a i
carried_back None b i same s c = cc
carried_back (Some r) b i same s c = rw (same r refl) at c

some_carried : (a : Option Rule) (i : ItemShown) → IsCarriedIn a i → IsSome a
some_carried None i c = absurd c
some_carried (Some r) i c = refl

-- what a party asks, a deck with its queues can serve
pub CanServe-there : (uses rules : QueueId → Option Rule) (o : OpShown) → ((q : QueueId) (r : Rule) → uses q ≡ Some r → rules q ≡ Some r) → CanServe uses o → CanServe rules o
CanServe-there uses rules op.Nothing same c = tt
CanServe-there uses rules op.Take same c = tt
CanServe-there uses rules (op.Give b) same c = tt
CanServe-there uses rules (op.Push q i) same c = carried_there (uses q) (rules q) i (same q) c
CanServe-there uses rules (op.Pop q) same c = some_there (uses q) (rules q) (same q) c

-- and its answer can be told to the party
pub IsAnswerOf-back : (uses rules : QueueId → Option Rule) (o : OpShown) (a : AnswerShown) → ((q : QueueId) (r : Rule) → uses q ≡ Some r → rules q ≡ Some r) → CanServe uses o → IsAnswerOf rules (kind_of o) a → IsAnswerOf uses (kind_of o) a
IsAnswerOf-back uses rules op.Nothing answer.Nothing same c f = tt
IsAnswerOf-back uses rules op.Take (answer.Taken b) same c f = f
IsAnswerOf-back uses rules op.Take answer.NoBuffer same c f = tt
IsAnswerOf-back uses rules (op.Give b) answer.Given same c f = tt
IsAnswerOf-back uses rules (op.Give b) (answer.PoolFull x) same c f = tt
IsAnswerOf-back uses rules (op.Push q i) answer.Pushed same c f = tt
IsAnswerOf-back uses rules (op.Push q i) (answer.Full j) same c f = carried_back (uses q) (rules q) j (same q) (some_carried (uses q) i c) f
IsAnswerOf-back uses rules (op.Pop q) (answer.Popped j) same c f = carried_back (uses q) (rules q) j (same q) c f
IsAnswerOf-back uses rules (op.Pop q) answer.Empty same c f = tt
IsAnswerOf-back uses rules op.Nothing a same c f = f
IsAnswerOf-back uses rules op.Take a same c f = f
IsAnswerOf-back uses rules (op.Give b) a same c f = f
IsAnswerOf-back uses rules (op.Push q i) a same c f = f
IsAnswerOf-back uses rules (op.Pop q) a same c f = f

-- a party that uses the same queues takes the same answers
pub IsAnswerOf-same : (uses others : QueueId → Option Rule) (o : OpShown) (a : AnswerShown) → ((q : QueueId) → others q ≡ uses q) → IsAnswerOf uses (kind_of o) a → IsAnswerOf others (kind_of o) a
IsAnswerOf-same uses others (op.Push q i) (answer.Full j) same f = rw (same q) f
IsAnswerOf-same uses others (op.Pop q) (answer.Popped j) same f = rw (same q) f
IsAnswerOf-same uses others op.Nothing a same f = f
IsAnswerOf-same uses others op.Take a same f = f
IsAnswerOf-same uses others (op.Give b) a same f = f
IsAnswerOf-same uses others (op.Push q i) a same f = f
IsAnswerOf-same uses others (op.Pop q) a same f = f

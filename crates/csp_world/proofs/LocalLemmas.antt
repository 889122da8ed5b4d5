-- An operation changes the lists of one node alone: of the node that serves it.
use Rattle.std.proofs.Common.{◌≡◌, ℕ, zero, suc, ◌==◌, Bool, true, false, Option, None, Some, List, [], ◌∷◌, set, refl, sym, subst, ap, ◌∙◌}
use Rattle.std.specs.Prelude.{slice_get}
use Rattle.std.specs.List.{AllByRecursion}
use Rattle.std.proofs.lemmas.Bool.{eqb-false, eqb-true}
use Rattle.std.proofs.lemmas.Option.{same_Some}
use Rattle.csp_lists.specs.PlainDeck.{PlainDeck, answer_of}
use Rattle.csp_log.specs.declared.places.End.{End}
use Rattle.csp_log.specs.declared.shown.AnswerShown.{AnswerShown}
use Rattle.csp_log.specs.declared.shown.OpShown.{OpShown}
use Rattle.csp_nodes.specs.Serving.{answer_at, answer_in, answer_there, served}
use Rattle.csp_log.specs.declared.who.Who.{Who}
use Rattle.csp_nodes.proofs.Public.{set_here, set_there}

-- what an operation that is served there, with this answer and these lists after it, made of the lists of a node
pub record IsLocal (there : Option (ℕ × OpShown)) (r : AnswerShown × List PlainDeck) (node : ℕ) (d : PlainDeck) : Type 0 where
  pub after : PlainDeck
  pub got : slice_get r.1 node ≡ Some after
  pub here : (t : ℕ × OpShown) → there ≡ Some t → t.0 ≡ node → (r.0 ≡ (answer_of d t.1).0) × (after ≡ (answer_of d t.1).1)
  pub away : ((t : ℕ × OpShown) → there ≡ Some t → t.0 ≡ node → ⊥) → after ≡ d

local_at : (decks : List PlainDeck) (o : OpShown) (s : ℕ × OpShown) (node : ℕ) (d : PlainDeck) (found : Option PlainDeck) → slice_get decks s.0 ≡ found → slice_get decks node ≡ Some d
    → IsLocal (Some s) (answer_at decks o s found) node d
local_at decks o s node d None f at = record {
  after = d;
  got = at;
  here = λ t e n.
      let same : s ≡ t = same_Some s t e in
      let none : slice_get decks node ≡ None = ap (slice_get decks) (sym n ∙ ap (λ (x : ℕ × OpShown). x.0) (sym same)) ∙ f in
      absurd (no_both (slice_get decks node) none at);
  away = λ no. refl;
} where
  no_both : (x : Option PlainDeck) → x ≡ None → x ≡ Some d → ⊥
  no_both None e g = cc
  no_both (Some y) e g = cc
local_at decks o s node d (Some x) f at = by (s.0 == node) refl where
  by : (same : Bool) → (s.0 == node) ≡ same → IsLocal (Some s) (answer_at decks o s (Some x)) node d
  by true e =
      let n : s.0 ≡ node = eqb-true s.0 node e in
      let it : x ≡ d = same_Some x d (sym f ∙ ap (slice_get decks) n ∙ at) in
      record {
        after = (answer_of x s.1).1;
        got = subst (λ k. slice_get (set decks s.0 (answer_of x s.1).1) k ≡ Some (answer_of x s.1).1) n (set_here decks s.0 x (answer_of x s.1).1 f);
        here = λ t g m. (
          ap (λ (y : PlainDeck). (answer_of y s.1).0) it ∙ ap (λ (u : ℕ × OpShown). (answer_of d u.1).0) (same_Some s t g),
          ap (λ (y : PlainDeck). (answer_of y s.1).1) it ∙ ap (λ (u : ℕ × OpShown). (answer_of d u.1).1) (same_Some s t g),
        );
        away = λ no. absurd (no s refl n);
      }
  by false e = record {
    after = d;
    got = set_there decks s.0 node (answer_of x s.1).1 e ∙ at;
    here = λ t g m. absurd (eqb-false s.0 node e (ap (λ (u : ℕ × OpShown). u.0) (same_Some s t g) ∙ m));
    away = λ no. refl;
  }

local_there : (decks : List PlainDeck) (o : OpShown) (there : Option (ℕ × OpShown)) (node : ℕ) (d : PlainDeck) → slice_get decks node ≡ Some d → IsLocal there (answer_there decks o there) node d
local_there decks o None node d at = record { after = d; got = at; here = λ t e n. absurd cc; away = λ no. refl }
local_there decks o (Some s) node d at = local_at decks o s node d (slice_get decks s.0) refl at

pub local : (decks : List PlainDeck) (links : List (List End)) (w : Who) (o : OpShown) (node : ℕ) (d : PlainDeck) → slice_get decks node ≡ Some d
    → IsLocal (served links w o) (answer_in decks links w o) node d
local decks links w o node d at = local_there decks o (served links w o) node d at

-- what each node's lists keep when they answer, all nodes' lists keep
all-set : (P : PlainDeck → Type 0) (decks : List PlainDeck) (k : ℕ) (x y : PlainDeck) → slice_get decks k ≡ Some x → (P x → P y) → AllByRecursion P decks → AllByRecursion P (set decks k y)
all-set P [] k x y at f all = absurd cc
all-set P (d ∷ decks) zero x y at f all = (f (subst P (same_Some d x at) all.0), all.1)
all-set P (d ∷ decks) (suc k) x y at f all = (all.0, all-set P decks k x y at f all.1)

abbrev pub Keeps : (PlainDeck → Type 0) → Type 0
Keeps P = (d : PlainDeck) (o : OpShown) → P d → P (answer_of d o).1

all_at : (P : PlainDeck → Type 0) → Keeps P → (decks : List PlainDeck) (o : OpShown) (s : ℕ × OpShown) (found : Option PlainDeck) → slice_get decks s.0 ≡ found → AllByRecursion P decks → AllByRecursion P (answer_at decks o s found).1
all_at P keeps decks o s None f all = all
all_at P keeps decks o s (Some x) f all = all-set P decks s.0 x (answer_of x s.1).1 f (keeps x s.1) all

all_there : (P : PlainDeck → Type 0) → Keeps P → (decks : List PlainDeck) (o : OpShown) (there : Option (ℕ × OpShown)) → AllByRecursion P decks → AllByRecursion P (answer_there decks o there).1
all_there P keeps decks o None all = all
all_there P keeps decks o (Some s) all = all_at P keeps decks o s (slice_get decks s.0) refl all

pub all_kept : (P : PlainDeck → Type 0) → Keeps P → (decks : List PlainDeck) (links : List (List End)) (w : Who) (o : OpShown) → AllByRecursion P decks → AllByRecursion P (answer_in decks links w o).1
all_kept P keeps decks links w o all = all_there P keeps decks o (served links w o) all

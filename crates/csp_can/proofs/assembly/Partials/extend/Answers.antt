use Rattle.std.proofs.Common.{◌≡◌, ◌≤◌, ℕ, suc, None, Some, List, length, ap, subst, sym, ◌∙◌, arith, get_or, set, length-set}
use Rattle.std.specs.Prelude.{All, position}
use Rattle.std.proofs.lemmas.List.Elements.{All-same, All-set}
use Rattle.arrayvec.proofs.ArrayVecLemmas.{items-with_items}
use Rattle.arrayvec.specs.ArrayVec.{with_items}
use Rattle.csp_base.specs.declared.limits.TheConstants.{MAX_PAYLOAD}
use Rattle.csp_can.proofs.Growing.{said_going, part_there, at_end, last_grown}
use Rattle.csp_can.specs.declared.identifiers.Key.{Key}
use Rattle.csp_can.specs.declared.partials.Partial.{Partial}
use Rattle.csp_can.specs.Identifiers.{key_of, same_key}
use Rattle.csp_can.specs.Rules.{arrival, Ruling}
use Rattle.csp_can.proofs.assembly.Partials.extend.Goals as goal

found : (c : goal.After-self-1) → position (λ (q : Partial). same_key q.key (key_of c.args.head.now)) c.args.self.now ≡ Some c.in-Some.index
found c = subst (λ (k : Key). position (λ (q : Partial). same_key q.key k) c.args.self.now ≡ Some c.in-Some.index) c.key.ensures (sym c.place.ensures.first ∙ c.in-Some.is)

lent : (c : goal.After-self-1) → c.deref_mut.result.now ≡ c.args.self.now
lent c = c.deref_mut.ensures.value ∙ c.self.view_is

lies : (c : goal.After-self-1) → get_or c.deref_mut.result.now c.in-Some.index c.index-deref_mut-index.result ≡ get_or c.args.self.now c.in-Some.index c.index-deref_mut-index.result
lies c = ap (λ (ps : List Partial). get_or ps c.in-Some.index c.index-deref_mut-index.result) (lent c)

written : (c : goal.After-self-1) → (with_items c.self.inside.partials (set c.deref_mut.result.now c.in-Some.index c.go_on.new.self)).items ≡ set c.args.self.now c.in-Some.index c.go_on.new.self
written c =
    items-with_items c.self.inside.partials _ (length-set c.deref_mut.result.now c.in-Some.index c.go_on.new.self ∙ ap length c.deref_mut.ensures.value)
    ∙ ap (λ (ps : List Partial). set ps c.in-Some.index c.go_on.new.self) (lent c)

last : (c : goal.After-self-1) → suc c.in-Some.index ≡ length c.args.self.now
last c = let seen = ap length c.self.view_is in omega (arith, c.if-index-len.true, c.len.ensures.value)

pub invariant_of-self : goal.invariant_of-self
invariant_of-self c =
    let P : Partial → Type 0 = λ p. p.length ≤ MAX_PAYLOAD in
    let all : All P c.args.self.now = All-same P _ _ (sym c.self.view_is) c.self.invariant in
    let there = all c.in-Some.index c.index-deref_mut-index.result (omega (arith, last c)) in
    All-same P _ _ (written c) (All-set P _ c.in-Some.index c.go_on.new.self (rw (c.go_on.ensures.length, lies c) there) all)

pub returns-in-Some-clause-when : goal.returns-in-Some-clause-when
returns-in-Some-clause-when c trace =
    let a = arrival c.args.head.now c.args.bytes.now trace c.args.now in (
      λ grew.
          let fits = c.go_on.ensures.when.0 grew in (
            ap (λ (r : Ruling). r.event) (said_going c.args.self.now a c.in-Some.index c.index-deref_mut-index.result _ (found c) (lies c) fits.0 fits.1),
            found c ∙ ap (λ (n : ℕ). Some n) (let l = last c in omega arith),
          ),
      λ part. c.go_on.ensures.when.1 (part_there c.args.self.now a c.in-Some.index c.index-deref_mut-index.result _ (found c) (lies c) part.0),
    )

pub returns-in-Some-clause-state : goal.returns-in-Some-clause-state
returns-in-Some-clause-state c grew trace =
    let fits = c.go_on.ensures.when.0 grew in
    written c
    ∙ ap (set c.args.self.now c.in-Some.index) (c.go_on.ensures.grown grew trace)
    ∙ last_grown c.args.self.now (arrival c.args.head.now c.args.bytes.now trace c.args.now) c.in-Some.index c.index-deref_mut-index.result _ (found c) (lies c) fits.0 fits.1 (last c)

pub returns-in_default-clause-when : goal.returns-in_default-clause-when
returns-in_default-clause-when c trace = (
  λ e. cc,
  λ part.
      let stands : position (λ (q : Partial). same_key q.key (key_of c.args.head.now)) c.args.self.now ≡ Some c.in-Some.index = subst (λ (k : Key). position (λ (q : Partial). same_key q.key k) c.args.self.now ≡ Some c.in-Some.index) c.key.ensures (sym c.place.ensures.first ∙ c.in-Some.is) in
      let end = at_end c.args.self.now (key_of c.args.head.now) c.in-Some.index stands part.1 in
      let seen = ap length c.self.view_is in
      absurd (omega (arith, c.if-index-len.false, c.len.ensures.value)),
)

pub returns-in_default-2-clause-when : goal.returns-in_default-2-clause-when
returns-in_default-2-clause-when c trace = (
  λ e. cc,
  λ part.
      let gone : position (λ (q : Partial). same_key q.key (key_of c.args.head.now)) c.args.self.now ≡ None = subst (λ (k : Key). position (λ (q : Partial). same_key q.key k) c.args.self.now ≡ None) c.key.ensures (sym c.place.ensures.first ∙ c.in_default.is) in
      absurd cc,
)

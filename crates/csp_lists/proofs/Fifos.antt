-- what is true of each element of a bounded list stays true
use Rattle.std.proofs.Common.{◌≡◌, ◌<◌, ◌≤◌, [], ◌∷◌, ◌++◌, length, Option, Some, None, Result, Ok, Err, MatchOption, MatchResult, ap, arith}
use Rattle.std.specs.Prelude.{All, IfSome}
use Rattle.std.proofs.lemmas.Grind.{common_steps}
use Rattle.std.proofs.lemmas.List.Elements.{All-rest, All-head, All-push}
use Rattle.csp_lists.specs.PlainFifo.{PlainFifo, with_items}

module _ {T : Type 0} where
  -- what `Fifo::pop` says
  abbrev pub Pops : PlainFifo T → PlainFifo T → Option T → Type 0
  Pops old new o = MatchOption o ((old.items ≡ []) × (new ≡ old)) (λ e. (old.items ≡ e ∷ new.items) × (new ≡ with_items old new.items))

  pub pops_all : (P : T → Type 0) (old new : PlainFifo T) (o : Option T) → Pops old new o → All P old.items → All P new.items
  pops_all P old new None pops all = rw pops.1 all
  pops_all P old new (Some x) pops all = All-rest P x new.items old.items pops.0 all

  pub pops_one : (P : T → Type 0) (old new : PlainFifo T) (o : Option T) → Pops old new o → All P old.items → IfSome o P
  pops_one P old new None pops all = tt
  pops_one P old new (Some x) pops all = All-head P x new.items (rw pops.0 at all)

  pub pops_room : (old new : PlainFifo T) (o : Option T) → Pops old new o → new.room ≡ old.room
  pops_room old new None pops = ap (λ f. f.room) pops.1
  pops_room old new (Some x) pops = ap (λ f. f.room) pops.1

  pub pops_fits : (old new : PlainFifo T) (o : Option T) → Pops old new o → length old.items ≤ old.room → length new.items ≤ new.room
  pops_fits old new None pops fits = rw pops.1 fits
  pops_fits old new (Some x) pops fits =
      let long = ap length pops.0 in
      let room = ap (λ (f : PlainFifo T). f.room) pops.1 in
      omega (arith, long, room, fits)

  -- what `Fifo::push` says
  abbrev pub Pushes : PlainFifo T → PlainFifo T → T → Result (Unit {0}) T → Type 0
  Pushes old new x r = MatchResult r (λ _. (length old.items < old.room) × (new ≡ with_items old (old.items ++ x ∷ []))) (λ e. (old.room ≤ length old.items) × (new ≡ old) × (e ≡ x))

  pub pushes_all : (P : T → Type 0) (old new : PlainFifo T) (x : T) (r : Result (Unit {0}) T) → Pushes old new x r → P x → All P old.items → All P new.items
  pushes_all P old new x (Ok u) pushes here all = rw pushes.1 (All-push P old.items x all here)
  pushes_all P old new x (Err e) pushes here all = rw pushes.1 all

  pub pushes_room : (old new : PlainFifo T) (x : T) (r : Result (Unit {0}) T) → Pushes old new x r → new.room ≡ old.room
  pushes_room old new x (Ok u) pushes = ap (λ f. f.room) pushes.1
  pushes_room old new x (Err e) pushes = ap (λ f. f.room) pushes.1

  pub pushes_fits : (old new : PlainFifo T) (x : T) (r : Result (Unit {0}) T) → Pushes old new x r → length old.items ≤ old.room → length new.items ≤ new.room
  pushes_fits old new x (Ok u) pushes fits = rw pushes.1 (grind (arith, common_steps, pushes.0))
  pushes_fits old new x (Err e) pushes fits = rw pushes.1 fits

-- ports that are bound, and those that are refused
use Rattle.std.specs.Prelude.{is_some}
use Rattle.std.proofs.Common.{◌≡◌, ℕ, ◌≤◌, Bool, true, false, cond, nat_lt, Option, None, Some, Result, Err, ◌↔◌, refl, arith, sym, ◌∙◌}
use Rattle.std.proofs.lemmas.Bool.{ltb-true, ltb-false}
use Rattle.csp_log.specs.declared.note.Note.TheVariants as note
use Rattle.csp_log.specs.declared.note.Why.{Why}
use Rattle.csp_log.specs.declared.note.Why.TheVariants as why
use Rattle.csp_ports.specs.Asking.{bind}
use Rattle.csp_ports.specs.PlainPorts.{PlainPorts, owing}
use Rattle.csp_socket.specs.Bound.{owner_of, with_owner}
use Rattle.csp_socket.specs.declared.sockets.BindError.{BindError}
use Rattle.csp_socket.specs.declared.sockets.BindError.TheVariants as bind_error
use Rattle.csp_socket.specs.declared.sockets.TheConstants.{BINDABLE_PORTS}

some_none : (x : ℕ × ℕ) → ◌≡◌ {A = Option (ℕ × ℕ)} (Some x) None → ⊥
some_none x e = cc

-- what is asked for a port, by whether it can be bound, and who bound it
abbrev bind_as : PlainPorts → (app port need : ℕ) → Bool → Option (ℕ × ℕ) → PlainPorts
bind_as p app port need lt o = cond lt (cond (is_some o) (owing p app (note.Refused why.InUse)) (owing (record p { bound = with_owner p.bound port app need }) app note.Bound)) (owing p app (note.Refused why.NotBindable))

-- a port that cannot be bound, and one that is bound
unbindable : (p : PlainPorts) (app port need : ℕ) (lt : Bool) (o : Option (ℕ × ℕ)) → nat_lt port BINDABLE_PORTS ≡ lt → BINDABLE_PORTS ≤ port → owing p app (note.Refused why.NotBindable) ≡ bind_as p app port need lt o
unbindable p app port need false o e h = refl
unbindable p app port need true o e h = absurd (omega (arith, ltb-true port BINDABLE_PORTS e, h))

in_use : (p : PlainPorts) (app port need owner flags : ℕ) (lt : Bool) (o : Option (ℕ × ℕ)) → nat_lt port BINDABLE_PORTS ≡ lt → owner_of p.bound port ≡ o → (BINDABLE_PORTS ≤ port → ⊥) → owner_of p.bound port ≡ Some (owner, flags)
    → owing p app (note.Refused why.InUse) ≡ bind_as p app port need lt o
in_use p app port need owner flags true (Some _) e f h there = refl
in_use p app port need owner flags true None e f h there = absurd (some_none (owner, flags) (sym there ∙ f))
in_use p app port need owner flags false o e f h there = absurd (h (ltb-false port BINDABLE_PORTS e))

differ : {A : Type 0} (owner : ℕ) → ◌≡◌ {A = Result A BindError} (Err (bind_error.InUse owner)) (Err bind_error.NotBindable) → ⊥
differ owner e = cc

pub refused : {A : Type 0} (p : PlainPorts) (app port need : ℕ) (error : BindError) (reason : Why)
    → (error ≡ bind_error.NotBindable → reason ≡ why.NotBindable) → ((owner : ℕ) → error ≡ bind_error.InUse owner → reason ≡ why.InUse)
    → ((◌≡◌ {A = Result A BindError} (Err error) (Err bind_error.NotBindable)) ↔ (BINDABLE_PORTS ≤ port)) → ((owner : ℕ) → (◌≡◌ {A = Result A BindError} (Err error) (Err (bind_error.InUse owner))) ↔ ((flags : ℕ) × (owner_of p.bound port ≡ Some (owner, flags))))
    → owing p app (note.Refused reason) ≡ bind p app port need
refused p app port need bind_error.NotBindable reason a b c d = rw (a refl) (unbindable p app port need _ _ refl (c.0 refl))
refused p app port need (bind_error.InUse owner) reason a b c d =
    let found = (d owner).0 refl in
    rw (b owner refl) (in_use p app port need owner found.0 _ _ refl refl (λ h. differ owner (c.1 h)) found.1)

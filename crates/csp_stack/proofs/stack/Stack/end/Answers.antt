use Rattle.std.proofs.Common.{◌≡◌, List, [], ◌∷◌, refl, subst, sym}
use Rattle.csp_buffer.specs.Content.{Content}
use Rattle.csp_deck.specs.Keeping.{numbers_of}
use Rattle.csp_stack.specs.Router.{RouterAt, buffers}
use Rattle.csp_stack.proofs.stack.Stack.end.Goals as goal

-- without a number there is no buffer
none_held : (bs : List Content) → numbers_of bs ≡ [] → bs ≡ []
none_held [] e = refl
none_held (b ∷ bs) e = absurd cc

pub end-requires : goal.end-requires
end-requires c = none_held (buffers c.self.inside.state.state) (subst (λ (r : RouterAt). numbers_of (buffers r.router.state) ≡ []) (sym c.self.view_is) c.requires)

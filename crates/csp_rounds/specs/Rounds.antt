-- a round of a list of workers
use Rattle.std.specs.Prelude.{ℕ, List}
use Rattle.std.specs.List.{All, AllZip}

-- each post can make a round over what they share, at this time
abbrev pub AreReady : {W S : Type 0} → (W → S → ℕ → Type 0) → S → ℕ → List W → Type 0
AreReady is_ready shared now posts = All (λ p. is_ready p shared now) posts

-- each post, place by place, is what one round over what they share leaves of it, at this time
abbrev pub HaveDone : {W S : Type 0} → (W → S → ℕ → W → Type 0) → S → ℕ → List W → List W → Type 0
HaveDone does shared now before after = AllZip (λ p q. does p shared now q) before after

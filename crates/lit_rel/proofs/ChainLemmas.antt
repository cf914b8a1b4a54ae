-- The transitive closure, one middle event after another.
use Rattle.std.proofs.Common.{◌↔◌, ◌⊎◌, ℕ, ◌+◌, ◌<◌, List, [], ◌∷◌, ◌++◌, arith, inl, inr}
use Rattle.lit_rel.specs.HappensBefore.{Chain}
use Rattle.lit_rel.specs.Rows.{IsTransitive}

-- there is a chain of at least one step
abbrev pub HasChain : (ℕ → ℕ → Type 0) → ℕ → ℕ → Type 0
HasChain step e d = (middles : List ℕ) × Chain step e middles d

-- chains joined at m
pub Chain-append : (step : ℕ → ℕ → Type 0) (e : ℕ) (ms : List ℕ) (m : ℕ) (ns : List ℕ) (d : ℕ) → Chain step e ms m → Chain step m ns d → Chain step e (ms ++ m ∷ ns) d
Chain-append step e [] m ns d p q = (p, q)
Chain-append step e (k ∷ ms) m ns d p q = (p.0, Chain-append step k ms m ns d p.1 q)

pub HasChain-joined : (step : ℕ → ℕ → Type 0) (e m d : ℕ) → HasChain step e m → HasChain step m d → HasChain step e d
HasChain-joined step e m d first second = (first.0 ++ m ∷ second.0, Chain-append step e first.0 m second.0 d first.1 second.1)

-- a transitive relation that has the steps has their chains
pub Chain-within : (step holds : ℕ → ℕ → Type 0) → ((e d : ℕ) → step e d → holds e d) → IsTransitive holds → (e : ℕ) (middles : List ℕ) (d : ℕ)
    → Chain step e middles d → holds e d
Chain-within step holds one through e [] d p = one e d p
Chain-within step holds one through e (m ∷ middles) d p = through e m d (one e m p.0) (Chain-within step holds one through m middles d p.1)

-- What holds has a chain, each step holds, and what leads to a middle below k leads to all that the middle leads to.
pub record IsClosedBelow (step holds : ℕ → ℕ → Type 0) (k : ℕ) : Type 0 where
  pub sound : (e d : ℕ) → holds e d → HasChain step e d
  pub steps : (e d : ℕ) → step e d → holds e d
  pub through : (e m d : ℕ) → m < k → holds e m → holds m d → holds e d

module _ (step holds more : ℕ → ℕ → Type 0) (k : ℕ) (leads : (e d : ℕ) → more e d ↔ (holds e d ⊎ (holds e k × holds k d))) where
  -- one middle more
  pub IsClosedBelow-more : IsClosedBelow step holds k → IsClosedBelow step more (k + 1)
  IsClosedBelow-more c = record {
    sound = λ e d h. elim ((leads e d).0 h) [
      | inl old ↦ c.sound e d old
      | inr both ↦ HasChain-joined step e k d (c.sound e k both.0) (c.sound k d both.1)
    ];
    steps = λ e d h. (leads e d).1 (inl (c.steps e d h));
    through = λ e m d l p q. grind (arith, leads, c.through);
  }

-- with all middles below n, and nothing from n on, chains are what holds
pub HasChain-from_closed : (step holds : ℕ → ℕ → Type 0) (n : ℕ) → ((e d : ℕ) → holds e d → e < n) → IsClosedBelow step holds n → (e d : ℕ) → holds e d ↔ HasChain step e d
HasChain-from_closed step holds n known c e d = (
  c.sound e d,
  (λ chain. Chain-within step holds c.steps (λ x m y p q. c.through x m y (known m y q) p q) e chain.0 d chain.1),
)

-- chains of equal steps
pub Chain-same : (step other : ℕ → ℕ → Type 0) → ((e d : ℕ) → step e d → other e d) → (e : ℕ) (middles : List ℕ) (d : ℕ) → Chain step e middles d → Chain other e middles d
Chain-same step other to e [] d p = to e d p
Chain-same step other to e (m ∷ middles) d p = (to e m p.0, Chain-same step other to m middles d p.1)

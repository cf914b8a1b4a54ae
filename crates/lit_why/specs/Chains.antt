-- Shortest chains of happens-before (ECMA-262, 2024, 29.6.6; the kinds of steps are this project's own).
use Rattle.std.specs.Prelude.{◌≡◌, ◌⊎◌, ℕ, ◌+◌, ◌<◌, ◌≤◌, List, [], ◌∷◌, length}
use Rattle.lit_paths.specs.declared.event.Event.{Event}
use Rattle.lit_rel.specs.AgentOrder.{IsAgentOrdered}
use Rattle.lit_rel.specs.HappensBefore.{Chain, IsMadeBefore}
use Rattle.lit_why.specs.declared.chains.links.Link.{Link}
use Rattle.lit_why.specs.declared.chains.links.StepKind.{StepKind}
use Rattle.lit_why.specs.declared.chains.links.StepKind.TheVariants.{AgentOrder, MadeBefore, SynchronizesWith}

-- Of what kind a step from e to d is, by a relation that stands for synchronizes-with: agent-order, else synchronizes-with, else
-- that e makes a byte of d.
abbrev pub IsOfKind : List Event → (ℕ → ℕ → Type 0) → StepKind → ℕ → ℕ → Type 0
IsOfKind events synchronizes AgentOrder e d = IsAgentOrdered events e d
IsOfKind events synchronizes SynchronizesWith e d = synchronizes e d × ¬ IsAgentOrdered events e d
IsOfKind events synchronizes MadeBefore e d = IsMadeBefore events e d × ¬ IsAgentOrdered events e d × ¬ synchronizes e d

-- links of such steps lead from e to d, each from the event that the one before it leads to
abbrev pub AreLinked : List Event → (ℕ → ℕ → Type 0) → ℕ → List Link → ℕ → Type 0
AreLinked events synchronizes e [] d = e ≡ d
AreLinked events synchronizes e (link ∷ links) d =
    IsOfKind events synchronizes link.kind e link.to × AreLinked events synchronizes link.to links d

-- no chain of steps leads from e to d
abbrev pub HasNoChain : List Event → (ℕ → ℕ → Type 0) → ℕ → ℕ → Type 0
HasNoChain events synchronizes e d =
    (middles : List ℕ) → ¬ Chain (λ a b. IsAgentOrdered events a b ⊎ synchronizes a b ⊎ IsMadeBefore events a b) e middles d

-- at least one link, and no chain of steps from e to d has fewer: one with so many events in the middle has one step more
pub record IsShortestChain (events : List Event) (synchronizes : ℕ → ℕ → Type 0) (e d : ℕ) (links : List Link) : Type 0 where
  pub some : 0 < length links
  pub linked : AreLinked events synchronizes e links d
  pub shortest : (middles : List ℕ) → Chain (λ a b. IsAgentOrdered events a b ⊎ synchronizes a b ⊎ IsMadeBefore events a b) e middles d
      → length links ≤ length middles + 1

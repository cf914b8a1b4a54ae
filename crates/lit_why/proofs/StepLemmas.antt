-- Steps from one event put into rows one by one, and the steps of happens-before as rows.
use Rattle.std.proofs.Common.{◌≡◌, ◌⊎◌, ◌↔◌, ℕ, ◌+◌, ◌<◌, List, [], ◌∷◌, length, refl, arith, inl, inr}
use Rattle.std.proofs.lemmas.Bool.{cases_lt}
use Rattle.lit_rel.specs.declared.event_set.EventSet.{EventSet}
use Rattle.lit_rel.specs.HappensBefore.{Chain}
use Rattle.lit_rel.proofs.ChainLemmas.{Chain-same}
use Rattle.lit_why.specs.declared.chains.links.Link.{Link}
use Rattle.lit_paths.specs.declared.event.Event.{Event}
use Rattle.lit_why.specs.Chains.{AreLinked, HasNoChain, IsShortestChain}
use Rattle.lit_why.specs.Internal.Reaching.{AreLevelsBelow, IsStep, IsUnreached}

module _ (init cur : ℕ → ℕ → Type 0) (first second : ℕ) (step : ℕ → Type 0) (so_far : (e d : ℕ) → cur e d ↔ (init e d ⊎ ((e ≡ first) × (d < second) × step d))) where
  pub step_more : (new : ℕ → ℕ → Type 0) → step second → ((e d : ℕ) → new e d ↔ (cur e d ⊎ ((e ≡ first) × (d ≡ second))))
      → (e d : ℕ) → new e d ↔ (init e d ⊎ ((e ≡ first) × (d < second + 1) × step d))
  step_more new here put e d = grind (arith, so_far, put)

  pub step_skip : ¬ step second → (e d : ℕ) → cur e d ↔ (init e d ⊎ ((e ≡ first) × (d < second + 1) × step d))
  step_skip not_here e d = grind (arith, so_far)

chain_known : (step : ℕ → ℕ → Type 0) (n : ℕ) → ((e d : ℕ) → step e d → (e < n) × (d < n)) → (e : ℕ) (middles : List ℕ) (d : ℕ) → Chain step e middles d → (e < n) × (d < n)
chain_known step n known e [] d chain = known e d chain
chain_known step n known e (m ∷ middles) d chain = ((known e m chain.0).0, (chain_known step n known m middles d chain.1).1)

-- the steps by a relation that stands for synchronizes-with, as rows that have them
module _ (events : List Event) (synchronizes rows : ℕ → ℕ → Type 0) (steps : (e d : ℕ) → rows e d ↔ IsStep events synchronizes e d) where
  in_rows : (e : ℕ) (middles : List ℕ) (d : ℕ) → Chain (IsStep events synchronizes) e middles d → Chain rows e middles d
  in_rows = Chain-same (IsStep events synchronizes) rows (λ a b h. (steps a b).1 h)

  pub not_led : (e d : ℕ) → IsUnreached rows e d → HasNoChain events synchronizes e d
  not_led e d none middles chain = none middles (in_rows e middles d chain)

  pub both_known : (n : ℕ) → ((e d : ℕ) → rows e d → (e < n) × (d < n)) → (e : ℕ) (middles : List ℕ) (d : ℕ)
      → Chain (IsStep events synchronizes) e middles d → (e < n) × (d < n)
  both_known n known e middles d chain = chain_known rows n known e middles d (in_rows e middles d chain)

  pub is_shortest : (e d : ℕ) (levels : List EventSet) (links : List Link) → AreLevelsBelow rows e d levels
      → AreLinked events synchronizes e links d → length links ≡ length levels + 1 → IsShortestChain events synchronizes e d links
  is_shortest e d levels links below linked count = record {
    some = omega arith;
    linked = linked;
    shortest = λ middles chain. elim (cases_lt (length middles) (length levels)) [
      | inl less ↦ absurd (below.below (length middles) less (record { middles = middles; count = refl; chain = in_rows e middles d chain }))
      | inr other ↦ omega arith
    ];
  }

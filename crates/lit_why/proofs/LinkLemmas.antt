-- Links, one more at the end.
use Rattle.std.proofs.Common.{◌≡◌, ℕ, List, [], ◌∷◌, ◌++◌}
use Rattle.lit_paths.specs.declared.event.Event.{Event}
use Rattle.lit_why.specs.declared.chains.links.Link.{Link}
use Rattle.lit_why.specs.Chains.{AreLinked, IsOfKind}

module _ (events : List Event) (synchronizes : ℕ → ℕ → Type 0) where
  pub AreLinked-more : (e : ℕ) (links : List Link) (d : ℕ) (link : Link) (f : ℕ) → link.to ≡ f → AreLinked events synchronizes e links d
      → IsOfKind events synchronizes link.kind d f → AreLinked events synchronizes e (links ++ link ∷ []) f
  AreLinked-more e [] d link f to same kind = (rw (same, to) kind, to)
  AreLinked-more e (first ∷ links) d link f to linked kind = (linked.0, AreLinked-more first.to links d link f to linked.1 kind)

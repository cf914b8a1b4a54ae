-- Every order respects what is forced.
use Rattle.std.proofs.Common.{◌≢◌, ℕ, ◌<◌, List, inl, inr}
use Rattle.lit_order.specs.Forcing.{IsForced, Given, Through, AfterRead, BeforeSource}
use Rattle.lit_order.specs.MemoryOrder.{StandsBefore, IsOrderOf}
use Rattle.lit_order.proofs.StandingLemmas.{StandsBefore-through, either_before}

-- triples speak of events below n
pub record AreTriplesBelow (n : ℕ) (forbidden : ℕ → ℕ → ℕ → Type 0) : Type 0 where
  pub source : (w r v : ℕ) → forbidden w r v → w < n
  pub read : (w r v : ℕ) → forbidden w r v → r < n
  pub other : (w r v : ℕ) → forbidden w r v → v < n

module _ (n : ℕ) (before : ℕ → ℕ → Type 0) (forbidden : ℕ → ℕ → ℕ → Type 0) (triples : AreTriplesBelow n forbidden) (order : List ℕ) (o : IsOrderOf n before forbidden order) where
  -- where v stands after w, it stands after r
  pub stands_after_read : (w r v : ℕ) → forbidden w r v → v ≢ r → StandsBefore order w v → StandsBefore order r v
  stands_after_read w r v f ne p =
      elim (either_before n order o.complete v r (triples.other w r v f) (triples.read w r v f) ne) [
        | inl between ↦ absurd (o.avoids w r v f p between)
        | inr after ↦ after
      ]

  -- where v stands before r, it stands before w
  pub stands_before_source : (w r v : ℕ) → forbidden w r v → v ≢ w → StandsBefore order v r → StandsBefore order v w
  stands_before_source w r v f ne p =
      elim (either_before n order o.complete v w (triples.other w r v f) (triples.source w r v f) ne) [
        | inl before_source ↦ before_source
        | inr between ↦ absurd (o.avoids w r v f between p)
      ]

  pub respects_forced : (a d : ℕ) → IsForced before forbidden a d → StandsBefore order a d
  respects_forced a d (Given h) = o.keeps a d h
  respects_forced a d (Through m p q) = StandsBefore-through order o.complete.once a m d (respects_forced a m p) (respects_forced m d q)
  respects_forced r v (AfterRead w f ne_w ne_r p) = stands_after_read w r v f ne_r (respects_forced w v p)
  respects_forced v w (BeforeSource r f ne_w ne_r p) = stands_before_source w r v f ne_w (respects_forced v r p)

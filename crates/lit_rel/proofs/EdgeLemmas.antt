-- One byte more: happens-before with the pair of its source and its read, and which bytes break.
use Rattle.std.proofs.Common.{◌≡◌, ◌↔◌, ◌⊎◌, ℕ, List, [], ◌∷◌, ◌++◌, inl, inr, refl, arith}
use Rattle.lit_paths.specs.declared.event.Event.{Event}
use Rattle.lit_paths.specs.Event.{event_at}
use Rattle.lit_rel.specs.HappensBefore.{HappensBeforeBy, StepBy}
use Rattle.lit_rel.specs.Rows.{IsTransitive, WithPair}
use Rattle.lit_rel.specs.SynchronizesWith.{CanSynchronize}
use Rattle.lit_rel.proofs.ChainLemmas.{Chain-append, Chain-same, Chain-within}
use Rattle.lit_rel.proofs.GivenLemmas.{synchronizes_more}
use Rattle.lit_rel.proofs.GrowthLemmas.{Grows-from}
use Rattle.lit_rel.proofs.RowLemmas.{WithPair-transitive, WithPair-within}

pub HappensBeforeBy-transitive : (events : List Event) (given : ℕ → ℕ → ℕ → Type 0) → IsTransitive (HappensBeforeBy events given)
HappensBeforeBy-transitive events given x y z p q =
    record { middles = p.middles ++ y ∷ q.middles; chain = Chain-append (StepBy events given) x p.middles y q.middles z p.chain q.chain }

-- a pair more, of relations that hold of the same
pub WithPair-same : (before other : ℕ → ℕ → Type 0) (w r : ℕ) → ((e d : ℕ) → before e d ↔ other e d) → (e d : ℕ) → WithPair before w r e d ↔ WithPair other w r e d
WithPair-same before other w r same e d = grind (arith, same)

-- what is given, and what is given with byte b of read r from source w
module _ (events : List Event) (given more : ℕ → ℕ → ℕ → Type 0) (r b w : ℕ) (adds : (r' b' w' : ℕ) → more r' b' w' ↔ (given r' b' w' ⊎ ((r' ≡ r) × (b' ≡ b) × (w' ≡ w)))) where
  step_less : (e d : ℕ) → StepBy events more e d → StepBy events given e d ⊎ ((d ≡ r) × (e ≡ w) × CanSynchronize (event_at events w) (event_at events r))
  step_less e d (inl ordered) = inl (inl ordered)
  step_less e d (inr (inl s)) = elim ((synchronizes_more given more r b w adds events e d).0 s) [ inl old ↦ inl (inr (inl old)) | inr new ↦ inr new ]
  step_less e d (inr (inr made)) = inl (inr (inr made))

  old_before : (e d : ℕ) → HappensBeforeBy events given e d → HappensBeforeBy events more e d
  old_before = (Grows-from events given more (λ r' b' w' h. (adds r' b' w').1 (inl h))).happens_before

  -- where they do not synchronize
  pub happens_before-same : (CanSynchronize (event_at events w) (event_at events r) → ⊥) → (e d : ℕ) → HappensBeforeBy events given e d ↔ HappensBeforeBy events more e d
  happens_before-same cannot e d = (old_before e d, λ h. record { middles = h.middles; chain = Chain-same (StepBy events more) (StepBy events given) back e h.middles d h.chain })
    where
      back : (e d : ℕ) → StepBy events more e d → StepBy events given e d
      back e d s = elim (step_less e d s) [ inl old ↦ old | inr new ↦ absurd (cannot new.2) ]

  -- where they do
  pub happens_before-with : CanSynchronize (event_at events w) (event_at events r) → (e d : ℕ)
      → WithPair (HappensBeforeBy events given) w r e d ↔ HappensBeforeBy events more e d
  happens_before-with can e d = (
    WithPair-within (HappensBeforeBy events given) (HappensBeforeBy events more) w r (HappensBeforeBy-transitive events more) old_before new_pair e d,
    (λ h. Chain-within (StepBy events more) (WithPair (HappensBeforeBy events given) w r) one
        (WithPair-transitive (HappensBeforeBy events given) w r (HappensBeforeBy-transitive events given)) e h.middles d h.chain),
  )
    where
      new_pair : HappensBeforeBy events more w r
      new_pair = record { middles = []; chain = inr (inl record { reads = (b, (adds r b w).1 (inr (refl, refl, refl))); can = can }) }

      one : (e d : ℕ) → StepBy events more e d → WithPair (HappensBeforeBy events given) w r e d
      one e d s = elim (step_less e d s) [ inl old ↦ inl record { middles = []; chain = old } | inr new ↦ inr (inr new.1, inr new.0) ]

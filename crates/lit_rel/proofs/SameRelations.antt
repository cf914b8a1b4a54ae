-- What is asked of reads, and what is forbidden, by two relations that hold of the same events.
use Rattle.std.proofs.Common.{◌↔◌, ◌⊎◌, ℕ, List, inl, inr, arith}
use Rattle.lit_paths.specs.declared.event.Event.{Event}
use Rattle.lit_rel.specs.Coherent.{IsCoherentRead}
use Rattle.lit_rel.specs.Forbidden.{IsForbiddenBetween, IsForbiddenTriple}

pub between_by : (events : List Event) (before other : ℕ → ℕ → Type 0) → ((e d : ℕ) → before e d → other e d) → (w r v : ℕ) → IsForbiddenBetween events before w r v → IsForbiddenBetween events other w r v
between_by events before other to w r v b = record {
  not_source = b.not_source;
  not_read = b.not_read;
  writes = b.writes;
  ordered = b.ordered;
  pattern = elim b.pattern [
    | inl one ↦ inl one
    | inr rest ↦ inr (elim rest [
      | inl two ↦ inl record { source_before = to w r two.source_before; other_before = to v r two.other_before; source = two.source; same_range = two.same_range }
      | inr three ↦ inr record { source_before = to w r three.source_before; other_after = to w v three.other_after; reader = three.reader; same_range = three.same_range }
    ])
  ];
}

pub coherent_read_by : (events : List Event) (before other : ℕ → ℕ → Type 0) → ((e d : ℕ) → other e d → before e d) → (r b w : ℕ) → IsCoherentRead events before r b w → IsCoherentRead events other r b w
coherent_read_by events before other to r b w read = record {
  not_later = λ later. read.not_later (to r w later);
  not_hidden = λ v hides. read.not_hidden v record { writes = hides.writes; in_range = hides.in_range; after_source = to w v hides.after_source; before_read = to v r hides.before_read };
}

pub IsForbiddenTriple-same : (events : List Event) (given : ℕ → ℕ → ℕ → Type 0) (before other : ℕ → ℕ → Type 0)
    → ((e d : ℕ) → before e d ↔ other e d) → (w r v : ℕ) → IsForbiddenTriple events given before w r v ↔ IsForbiddenTriple events given other w r v
IsForbiddenTriple-same events given before other same w r v = (
  (λ f. record { reads = f.reads; between = between_by events before other (λ e d. (same e d).0) w r v f.between }),
  (λ f. record { reads = f.reads; between = between_by events other before (λ e d. (same e d).1) w r v f.between }),
)

-- the patterns, set by set, and the first alone
pub joined : {Whole Some Set After Before W A B C : Type 0} → Whole ↔ (Some ⊎ Before) → Some ↔ (Set ⊎ After) → Set ↔ (W × A) → After ↔ (W × B) → Before ↔ (W × C)
    → Whole ↔ (W × (A ⊎ B ⊎ C))
joined whole some set after before = grind arith

pub alone : {Set W A B C : Type 0} → Set ↔ (W × A) → ¬ B → ¬ C → Set ↔ (W × (A ⊎ B ⊎ C))
alone set no_after no_before = grind arith

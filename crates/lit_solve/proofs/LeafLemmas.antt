-- Leaves: when a frame at its fixpoint in which no open byte read can force anything has a completion.
use Rattle.lit_solve.proofs.Words.{◌<◌, Any, AreCoherentSources, AreSourcesIn, Box, box_events, CanFill, coherent_read_by, Execution}
use Rattle.lit_solve.proofs.Words.{Frame, Given, HappensBeforeIn, HasFalseGuardOn, HasNoCompletion, HasOrder, HasSolution}
use Rattle.lit_solve.proofs.Words.{Holds, IfNone, IfSome, IsBox, IsCompletion, IsFilled, IsForbiddenIn, IsIndependent, IsLeaf, IsLeastOrderOf, IsOrderOf}
use Rattle.lit_solve.proofs.Words.{IsFixpoint, length, List, None, Option, refl, Some, ℕ, ◌↔◌, ◌≡◌}
use Rattle.lit_solve.proofs.FillLemmas.{sources_lie}

-- what sources have to be so that they are a completion's
abbrev pub AreFilling : Box → List ℕ → Type 0
AreFilling box sources =
    ((r : ℕ) → r < length (box_events box) → IsFilled box r sources)
    × (¬ HasFalseGuardOn box.test box.combination None 0)
    × HasOrder (length (box_events box)) (HappensBeforeIn box) (IsForbiddenIn box)

-- so it is, as the law says
abbrev pub IsFilledReadByRead : Box → Type 0
IsFilledReadByRead box =
    (sources : List ℕ) → IsBox box → IsLeaf box → AreCoherentSources box → ((e : ℕ) → ¬ HappensBeforeIn box e e) → AreSourcesIn box sources
    → ((x : Execution) × IsCompletion box x × (x.sources ≡ sources)) ↔ AreFilling box sources

module _ (box : Box) (frame : Frame) (fixpoint : IsFixpoint box frame) where
  -- its sources are coherent by what the box gives, and no event happens before itself by that
  pub coherent_sources : AreCoherentSources box
  coherent_sources k r b w at there =
      coherent_read_by (box_events box) (Holds frame.happens_before.rows) (HappensBeforeIn box) fixpoint.exact.before r b w (fixpoint.coherent k r b w at there)

  pub no_cycle : (e : ℕ) → ¬ HappensBeforeIn box e e
  no_cycle e h = fixpoint.acyclic e (Given h)

  module _ (leaf : IsLeaf box) (law : IsFilledReadByRead box) where
    by_law : (sources : List ℕ) → AreSourcesIn box sources → ((x : Execution) × IsCompletion box x × (x.sources ≡ sources)) ↔ AreFilling box sources
    by_law sources lie = law sources fixpoint.exact.contained.is_box leaf coherent_sources no_cycle lie

    -- what follows from a completion
    module _ (h : HasSolution box Any) where
      parts : AreFilling box h.0.sources
      parts = (by_law h.0.sources (sources_lie box h.0 h.1.completes)).0 (h.0, h.1.completes, refl)

      pub no_false_unwritten : ¬ HasFalseGuardOn box.test box.combination None 0
      no_false_unwritten = parts.1

      pub fills_each : (r : ℕ) → r < length (box_events box) → CanFill box r
      fills_each r known = (h.0.sources, sources_lie box h.0 h.1.completes, parts.0 r known)

      pub has_order : HasOrder (length (box_events box)) (HappensBeforeIn box) (IsForbiddenIn box)
      has_order = parts.2

    -- with an order of what it gives it has independent reads, and without one no completion
    pub independent_if : {A : Type 0} (found : Option A) (order : A → List ℕ) → IfSome found (λ a. IsLeastOrderOf (length (box_events box)) (HappensBeforeIn box) (IsForbiddenIn box) (order a))
        → ¬ HasFalseGuardOn box.test box.combination None 0
        → ((sources : List ℕ) × AreSourcesIn box sources × ((r : ℕ) → r < length (box_events box) → IsFilled box r sources))
        → IfSome found (λ _. IsIndependent box)
    independent_if None order least unwritten filled = least
    independent_if (Some a) order least unwritten filled = record {
      is_box = fixpoint.exact.contained.is_box;
      some = fixpoint.exact.contained.some;
      leaf = leaf;
      coherent = coherent_sources;
      acyclic = no_cycle;
      unwritten = unwritten;
      ordered = (order a, least.is_order);
      filled = record { sources = filled.0; lie = filled.1; each = filled.2 };
    }

    pub none_if : {A : Type 0} (found : Option A)
        → IfNone found ((order : List ℕ) → ¬ IsOrderOf (length (box_events box)) (HappensBeforeIn box) (IsForbiddenIn box) order)
        → IfNone found (HasNoCompletion box)
    none_if None none = λ x is. let order = has_order (x, record { completes = is; meets = tt }) in none order.0 order.1
    none_if (Some a) none = none

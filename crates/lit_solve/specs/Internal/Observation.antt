-- Observed values: what the domains of a box say of the outcomes of its completions.
use Rattle.std.specs.Prelude.{◌≡◌, ℕ, ◌<◌, ◌≤◌, List, Option, None, Some, length, take}
use Rattle.lit_paths.specs.ByteReads.{byte_read_at, byte_reads}
use Rattle.lit_paths.specs.Execution.{Execution, execution_outcome}
use Rattle.lit_paths.specs.Outcome.{names_of}
use Rattle.lit_rel.specs.Part.{PartModel}
use Rattle.lit_valid.specs.PartOutcome.{observed_read, observed_value}
use Rattle.lit_solve.specs.declared.decided.Decided.{Decided}
use Rattle.lit_solve.specs.Box.{Box, box_events}
use Rattle.lit_solve.specs.Completion.{IsCompletion}
use Rattle.lit_solve.specs.Prospect.{IsDecidedOn, IsUndecidedAt}

-- the box's combination with these sources
abbrev pub part_with : Box → List ℕ → PartModel
part_with box sources = record { test = box.test; combination = box.combination; sources = sources }

-- the k-th byte read is observed: some register has the value of its read at the end
abbrev pub IsObservedAt : Box → ℕ → Type 0
IsObservedAt box k = (name : ℕ × ℕ) × (observed_read box.test box.combination name ≡ Some (byte_read_at (box_events box) k).0)

-- what the domains say of the value that a register has at the end
abbrev pub IsValueObserved : Box → ℕ × ℕ → Decided ℕ → Type 0
IsValueObserved box name decided =
    let read : Option ℕ = observed_read box.test box.combination name in
    IsDecidedOn box (λ sources. observed_value (part_with box sources) read) (IsObservedAt box) decided

-- the outcome of each completion begins with these values
pub record AreFirstValues (box : Box) (values : List ℕ) : Type 0 where
  pub few : length values ≤ length (names_of box.test)
  pub first : (x : Execution) → IsCompletion box x → values ≡ take (length values) (execution_outcome box.test x)

-- each completion has this outcome; or the sources of an observed byte read store several bytes
abbrev pub IsObservation : Box → List ℕ → Option ℕ → Type 0
IsObservation box values None = (x : Execution) → IsCompletion box x → execution_outcome box.test x ≡ values
IsObservation box values (Some k) = (k < length (byte_reads (box_events box))) × IsUndecidedAt box k × IsObservedAt box k

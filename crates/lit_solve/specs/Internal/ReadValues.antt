-- The values that a read can have, by the completions of a box with independent reads.
use Rattle.std.specs.Prelude.{◌≡◌, ℕ, List, ◌++◌, Some, length, slice_get}
use Rattle.lit_paths.specs.ByteReads.{byte_reads}
use Rattle.lit_paths.specs.Execution.{Execution}
use Rattle.lit_rel.specs.ReadsFrom.{value_of}
use Rattle.lit_solve.specs.declared.read_values.Filling.{Filling}
use Rattle.lit_solve.specs.Box.{Box, box_events}
use Rattle.lit_solve.specs.Completion.{IsCompletion}
use Rattle.lit_solve.specs.Internal.Independent.{IsLeastFilling}
use Rattle.lit_solve.specs.Internal.Numbering.{share_below}

-- a value of the read, with what its least sources for it add to the number of a choice
pub record IsFilling (box : Box) (r : ℕ) (filling : Filling) : Type 0 where
  pub sources : List ℕ
  pub least : IsLeastFilling box r filling.value sources
  pub share : filling.share ≡ share_below (box_events box) r sources (length (byte_reads (box_events box)))

-- each is a value of the read
abbrev pub AreFillings : Box → ℕ → List Filling → Type 0
AreFillings box r fillings = (i : ℕ) (filling : Filling) → slice_get fillings i ≡ Some filling → IsFilling box r filling

-- a list goes on by values of the read
pub record AddsFillings (box : Box) (r : ℕ) (old new : List Filling) : Type 0 where
  pub added : List Filling
  pub goes_on : new ≡ old ++ added
  pub each : AreFillings box r added

-- one of them has this value
pub record HasValue (fillings : List Filling) (value : ℕ) : Type 0 where
  pub place : ℕ
  pub filling : Filling
  pub is : slice_get fillings place ≡ Some filling
  pub same : filling.value ≡ value

-- each completion's value of the read is there
abbrev pub HaveEachValue : Box → ℕ → List Filling → Type 0
HaveEachValue box r fillings = (x : Execution) → IsCompletion box x → HasValue fillings (value_of (box_events box) x.sources r)

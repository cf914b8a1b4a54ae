-- The outcomes of a box's completions, each with its least example (this project's own).
use Rattle.std.specs.Prelude.{◌≡◌, ◌≢◌, ◌+◌, ◌<◌, ◌≤◌, List, [], ◌∷◌, ◌++◌, ⊤}
use Rattle.std.specs.Cmp.Lexicographic.{slice_cmp}
use Rattle.std.specs.Ordering.{nat_cmp}
use Rattle.std.specs.declared.cmp.Ordering.TheVariants.{Less}
use Rattle.lit_paths.specs.Execution.{Execution, execution_outcome}
use Rattle.lit_paths.specs.Plan.{HasSources, choices_before}
use Rattle.lit_order.specs.MemoryOrder.{IsLeastMemoryOrder}
use Rattle.lit_valid.specs.Entry.{Entry, HasOutcome}
use Rattle.lit_solve.specs.Box.{Box, box_events}
use Rattle.lit_solve.specs.Completion.{IsCompletion}

-- Some completion has the outcome and the choice of the entry. No other completion with this outcome has lesser sources as a
-- list, and the order is the least memory-order with them.
pub record IsLeastEntry (box : Box) (entry : Entry) : Type 0 where
  pub execution : Execution
  pub completes : IsCompletion box execution
  pub outcome : execution_outcome box.test execution ≡ entry.outcome
  pub from : choices_before box.test box.combination ≤ entry.choice
  pub to : entry.choice < choices_before box.test (box.combination + 1)
  pub chosen : HasSources box.test entry.choice execution.sources
  pub least : (x : Execution) → IsCompletion box x → execution_outcome box.test x ≡ entry.outcome
      → slice_cmp nat_cmp x.sources execution.sources ≢ Less
  pub ordered : IsLeastMemoryOrder (box_events box) execution.sources entry.order

-- each of the entries is a least entry, and its outcome has no entry before it, neither in `old` nor in the new list
abbrev pub AreNewEntries : Box → List Entry → List Entry → Type 0
AreNewEntries box old [] = ⊤
AreNewEntries box old (entry ∷ entries) =
    IsLeastEntry box entry × (¬ HasOutcome old entry.outcome) × AreNewEntries box (old ++ (entry ∷ [])) entries

-- a list goes on by outcomes of the box's completions that it lacked
pub record AddsEntries (box : Box) (old new : List Entry) : Type 0 where
  pub added : List Entry
  pub goes_on : new ≡ old ++ added
  pub each : AreNewEntries box old added

-- each completion's outcome has an entry
abbrev pub HasEachOutcome : Box → List Entry → Type 0
HasEachOutcome box entries = (x : Execution) → IsCompletion box x → HasOutcome entries (execution_outcome box.test x)

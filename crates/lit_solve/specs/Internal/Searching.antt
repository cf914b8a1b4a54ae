-- The steps of a backtracking search: on which domain it branches, and what it says of a frame without branching.
use Rattle.std.specs.Prelude.{◌≡◌, ℕ, ◌<◌, MatchBool, length}
use Rattle.lit_paths.specs.ByteReads.{byte_reads}
use Rattle.lit_paths.specs.Execution.{Execution}
use Rattle.lit_solve.specs.declared.goal.Goal.{Goal}
use Rattle.lit_solve.specs.declared.stepping.Branch.{Branch}
use Rattle.lit_solve.specs.declared.stepping.Step.{Step}
use Rattle.lit_solve.specs.declared.stepping.Step.TheVariants.{Leaf, Branched, Refuted}
use Rattle.lit_solve.specs.Box.{Box, box_events}
use Rattle.lit_solve.specs.Completion.{IsCompletion, IsSolution}
use Rattle.lit_solve.specs.Fill.{IsLeaf}
use Rattle.lit_solve.specs.Given.{HasAlone}
use Rattle.lit_solve.specs.Goal.{MeetsGoal}
use Rattle.lit_solve.specs.Prospect.{IsUndecidedAt}
use Rattle.lit_solve.specs.Internal.ConditionValues.{MeetsByOutcome, stored_for}

-- the search can branch on the domain of a byte read: by the bytes that its sources store, or source by source
pub record IsBranch (box : Box) (branch : Branch) : Type 0 where
  pub known : branch.place < length (byte_reads (box_events box))
  pub several : MatchBool branch.by_value (IsUndecidedAt box branch.place) ((w : ℕ) → ¬ HasAlone box branch.place w)

-- w is in the part of a source: it stores the same byte, or is that source
abbrev pub GoesWith : Box → Branch → ℕ → ℕ → Type 0
GoesWith box branch source w = MatchBool branch.by_value (stored_for box branch.place w ≡ stored_for box branch.place source) (w ≡ source)

-- the box has a solution that is a completion of another box too
abbrev pub HasSolutionIn : Box → Goal → Box → Type 0
HasSolutionIn box goal other = (x : Execution) × IsSolution box goal x × IsCompletion other x

-- no completion meets the goal; or the frame is a leaf, and each completion meets the goal as far as its outcome goes; or the search
-- branches on a domain
abbrev pub IsStep : Box → Goal → Step → Type 0
IsStep box goal Refuted = (x : Execution) → IsCompletion box x → ¬ MeetsGoal box.test goal x
IsStep box goal Leaf = IsLeaf box × ((x : Execution) → IsCompletion box x → MeetsByOutcome box.test goal x)
IsStep box goal (Branched branch) = IsBranch box branch

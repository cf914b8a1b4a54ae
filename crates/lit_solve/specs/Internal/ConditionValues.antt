-- The values of conditions in three-valued logic, by the domains of a box: true, false, or undecided because of a byte read.
use Rattle.std.specs.Prelude.{◌≡◌, ℕ, ◌==◌, Bool, false, true, not, ⊤}
use Rattle.std.specs.List.{zip}
use Rattle.lit_syntax.specs.Syntax.{Condition, Litmus}
use Rattle.lit_paths.specs.ByteReads.{byte_read_at}
use Rattle.lit_paths.specs.Event.{event_at, payload_at}
use Rattle.lit_paths.specs.Execution.{Execution}
use Rattle.lit_paths.specs.Outcome.{holds, names_of}
use Rattle.lit_rel.specs.ReadsFrom.{value_of}
use Rattle.lit_solve.specs.declared.goal.Goal.{Goal}
use Rattle.lit_solve.specs.declared.goal.Goal.TheVariants.{Any, OfClass, Race}
use Rattle.lit_solve.specs.declared.decided.Decided.{Decided}
use Rattle.lit_solve.specs.declared.decided.Decided.TheVariants.{Known, Open}
use Rattle.lit_solve.specs.Box.{Box, HasSource, box_events}
use Rattle.lit_solve.specs.Completion.{IsCompletion}
use Rattle.lit_solve.specs.Goal.{MeetsGoal}
use Rattle.lit_solve.specs.Prospect.{IsAskedAt, IsDecidedOn, IsOfRead, IsUndecidedAt, outcome_by}

-- the byte that event w stores for the k-th byte read
abbrev pub stored_for : Box → (k w : ℕ) → ℕ
stored_for box k w = payload_at (event_at (box_events box) w) (byte_read_at (box_events box) k).1

-- each source in the domain of the k-th byte read stores this byte for it, or none does; or two sources store different bytes
abbrev pub IsByteDecided : Box → (k byte : ℕ) → Decided Bool → Type 0
IsByteDecided box k byte (Known value) = (w : ℕ) → HasSource box k w → (stored_for box k w == byte) ≡ value
IsByteDecided box k byte (Open at) = (at ≡ k) × IsUndecidedAt box k

-- what the domains say of whether read r has this number
abbrev pub IsReadDecided : Box → (r number : ℕ) → Decided Bool → Type 0
IsReadDecided box r number decided = IsDecidedOn box (λ sources. value_of (box_events box) sources r == number) (IsOfRead box r) decided

-- what the domains say of the value of the condition
abbrev pub IsDecided : Box → Condition → Decided Bool → Type 0
IsDecided box condition decided =
    IsDecidedOn box (λ sources. holds (zip (names_of box.test) (outcome_by box sources)) condition) (IsAskedAt box condition) decided

-- the execution meets the goal as far as its outcome goes; this says nothing of data races
abbrev pub MeetsByOutcome : Litmus → Goal → Execution → Type 0
MeetsByOutcome t Any x = MeetsGoal t Any x
MeetsByOutcome t (OfClass class) x = MeetsGoal t (OfClass class) x
MeetsByOutcome t Race x = ⊤

-- the value of the negation
abbrev pub opposite_of : Decided Bool → Decided Bool
opposite_of (Known value) = Known (not value)
opposite_of (Open k) = Open k

-- what a box says of whether completions meet the goal: none does; each does as far as its outcome goes; or that depends on a byte read
-- whose sources store several bytes
abbrev pub IsProspect : Box → Goal → Decided Bool → Type 0
IsProspect box goal (Known false) = (x : Execution) → IsCompletion box x → ¬ MeetsGoal box.test goal x
IsProspect box goal (Known true) = (x : Execution) → IsCompletion box x → MeetsByOutcome box.test goal x
IsProspect box goal (Open k) = IsUndecidedAt box k

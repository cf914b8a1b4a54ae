-- What the domains of a box say of values and outcomes before the search branches, by all sources in them, whether an execution with
-- these is valid or not (this project's own).
use Rattle.std.specs.Prelude.{◌≡◌, ◌≢◌, ℕ, Bool, IsTrue, List, Some, slice_get}
use Rattle.lit_syntax.specs.Syntax.{Condition}
use Rattle.lit_paths.specs.ByteReads.{byte_read_at, byte_reads}
use Rattle.lit_paths.specs.Event.{event_at, payload_at}
use Rattle.lit_paths.specs.Outcome.{asks as looks_at}
use Rattle.lit_rel.specs.ReadsFrom.{value_of}
use Rattle.lit_valid.specs.declared.class.Class.{Class}
use Rattle.lit_valid.specs.Class.{is_of_class}
use Rattle.lit_valid.specs.PartOutcome.{observed_read, part_outcome}
use Rattle.lit_solve.specs.declared.decided.Decided.{Decided}
use Rattle.lit_solve.specs.declared.decided.Decided.TheVariants.{Known, Open}
use Rattle.lit_solve.specs.Box.{Box, HasSource, box_events}
use Rattle.lit_solve.specs.Fill.{AreSourcesIn}

-- two sources in the domain of the k-th byte read store different bytes there
pub record IsUndecidedAt (box : Box) (k : ℕ) : Type 0 where
  pub read : ℕ
  pub byte : ℕ
  pub is_read : slice_get (byte_reads (box_events box)) k ≡ Some (read, byte)
  pub some : ℕ
  pub other : ℕ
  pub some_there : HasSource box k some
  pub other_there : HasSource box k other
  pub apart : payload_at (event_at (box_events box) some) byte ≢ payload_at (event_at (box_events box) other) byte

-- the condition looks at a register that observes the read of the k-th byte read
pub record IsAskedAt (box : Box) (condition : Condition) (k : ℕ) : Type 0 where
  pub agent : ℕ
  pub register : ℕ
  pub looks : IsTrue (looks_at condition agent register)
  pub observes : observed_read box.test box.combination (agent, register) ≡ Some (byte_read_at (box_events box) k).0

-- By any sources that lie in the box it is this; or it depends on a byte read, one of these, whose sources store several bytes.
abbrev pub IsDecidedOn : {T : Type 0} → Box → (value_by : List ℕ → T) → (IsOne : ℕ → Type 0) → Decided T → Type 0
IsDecidedOn box value_by IsOne (Known value) = (sources : List ℕ) → AreSourcesIn box sources → value_by sources ≡ value
IsDecidedOn box value_by IsOne (Open k) = IsUndecidedAt box k × IsOne k

-- the k-th byte read is of read r
abbrev pub IsOfRead : Box → (r k : ℕ) → Type 0
IsOfRead box r k = (byte_read_at (box_events box) k).0 ≡ r

-- what the domains say of the value of read r
abbrev pub IsValueOf : Box → ℕ → Decided ℕ → Type 0
IsValueOf box r decided = IsDecidedOn box (λ sources. value_of (box_events box) sources r) (IsOfRead box r) decided

-- the outcome by these sources
abbrev pub outcome_by : Box → List ℕ → List ℕ
outcome_by box sources = part_outcome (record { test = box.test; combination = box.combination; sources = sources })

-- what the domains say of whether the outcome is in the class
abbrev pub IsOutcomeProspect : Box → Class → Decided Bool → Type 0
IsOutcomeProspect box class decided =
    IsDecidedOn box (λ sources. is_of_class box.test class (outcome_by box sources)) (IsAskedAt box box.test.check) decided

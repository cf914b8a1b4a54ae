-- Outcomes as a product: each observed read has one of its values, whatever the others have.
use Rattle.std.specs.Prelude.{◌≡◌, ◌≢◌, ◌↔◌, ◌⊎◌, ℕ, ◌+◌, ◌<◌, List, [], ◌∷◌, Some, length, slice_get, slice_index_or}
use Rattle.lit_syntax.specs.Syntax.{Litmus}
use Rattle.lit_paths.specs.declared.event.Event.{Event}
use Rattle.lit_paths.specs.ByteReads.{byte_reads}
use Rattle.lit_paths.specs.Execution.{Execution, execution_outcome}
use Rattle.lit_paths.specs.Outcome.{names_of}
use Rattle.lit_paths.specs.Plan.{choices_before}
use Rattle.lit_valid.specs.Entry.{Entry, HasOutcome}
use Rattle.lit_valid.specs.PartOutcome.{observed_read}
use Rattle.lit_solve.specs.declared.product.OpenRead.{OpenRead}
use Rattle.lit_solve.specs.Box.{Box, box_events, events_on}
use Rattle.lit_solve.specs.Completion.{IsCompletion}
use Rattle.lit_solve.specs.Internal.Independent.{IsNotGreaterOn}
use Rattle.lit_solve.specs.Internal.Numbering.{digits_below, share_below}
use Rattle.lit_solve.specs.Internal.ReadValues.{AreFillings, HaveEachValue}

-- the j-th register of an outcome observes read r
pub record Observes (c : Litmus × ℕ) (r j : ℕ) : Type 0 where
  pub inside : j < length (names_of c.0)
  pub reads : observed_read c.0 c.1 (slice_index_or (names_of c.0) j (0, 0)) ≡ Some r

-- an observed read of the box, the registers that observe it, and its values
pub record IsOpenRead (box : Box) (it : OpenRead) : Type 0 where
  pub known : it.read < length (box_events box)
  pub registers : (j : ℕ) → ((i : ℕ) × (slice_get it.registers.items i ≡ Some j)) ↔ Observes (box.test, box.combination) it.read j
  pub observer : ℕ
  pub observes : Observes (box.test, box.combination) it.read observer
  pub fillings : AreFillings box it.read it.fillings.items
  pub whole : HaveEachValue box it.read it.fillings.items

-- read r is one of them
pub record IsListed (reads : List OpenRead) (r : ℕ) : Type 0 where
  pub place : ℕ
  pub it : OpenRead
  pub is : slice_get reads place ≡ Some it
  pub same : it.read ≡ r

-- no two are the same read
abbrev pub AreDistinct : List OpenRead → Type 0
AreDistinct reads =
    (i j : ℕ) (first second : OpenRead) → i < j → slice_get reads i ≡ Some first → slice_get reads j ≡ Some second
    → first.read ≢ second.read

-- each is an observed read of the box, and no two are the same read
pub record AreOpenReads (box : Box) (reads : List OpenRead) : Type 0 where
  pub each : (i : ℕ) (it : OpenRead) → slice_get reads i ≡ Some it → IsOpenRead box it
  pub apart : AreDistinct reads

-- the j-th register observes one of the reads, or each completion has this value for it
abbrev pub IsValueBeside : Box → List OpenRead → (j value : ℕ) → Type 0
IsValueBeside box reads j value =
    ((r : ℕ) × Observes (box.test, box.combination) r j × IsListed reads r)
    ⊎ ((x : Execution) → IsCompletion box x → slice_index_or (execution_outcome box.test x) j 0 ≡ value)

-- what each completion's outcome has beside the values of these reads
pub record AreValuesBeside (box : Box) (reads : List OpenRead) (values : List ℕ) : Type 0 where
  pub long : length values ≡ length (names_of box.test)
  pub each : (j : ℕ) → j < length values → IsValueBeside box reads j (slice_index_or values j 0)

-- values change only for registers that observe one of the reads
pub record ChangesListed (c : Litmus × ℕ) (reads : List OpenRead) (old new : List ℕ) : Type 0 where
  pub long : length new ≡ length old
  pub each : (j : ℕ) → j < length old → ((r : ℕ) × Observes c r j × IsListed reads r) ⊎ (slice_index_or new j 0 ≡ slice_index_or old j 0)

-- ---- sources chosen for the reads that are not listed
-- these take the same sources
abbrev pub AgreeBeside : List Event → List OpenRead → (sources others : List ℕ) → Type 0
AgreeBeside events reads sources others =
    (k r b : ℕ) → slice_get (byte_reads events) k ≡ Some (r, b) → ¬ IsListed reads r
    → slice_index_or others k 0 ≡ slice_index_or sources k 0

-- the digits of the listed reads, added up over the first k byte reads
abbrev pub shares_below : List Event → List OpenRead → List ℕ → (k : ℕ) → ℕ
shares_below events [] sources k = 0
shares_below events (it ∷ reads) sources k = share_below events it.read sources k + shares_below events reads sources k

-- With the digits of the listed reads it is the number of the choice, whatever sources these take.
abbrev pub IsNumberWithout : Litmus × ℕ → List OpenRead → List ℕ → ℕ → Type 0
IsNumberWithout c reads sources number =
    (others : List ℕ) → AgreeBeside (events_on c) reads sources others
    → choices_before c.0 c.1 + digits_below (events_on c) others (length (byte_reads (events_on c)))
    ≡ number + shares_below (events_on c) reads others (length (byte_reads (events_on c)))

-- Some completion has these values beside the listed reads, and the number beside them. No completion with the same values of a read that
-- is not listed has lesser sources for it.
pub record IsChosen (box : Box) (reads : List OpenRead) (values : List ℕ) (number : ℕ) : Type 0 where
  pub execution : Execution
  pub completes : IsCompletion box execution
  pub beside : ChangesListed (box.test, box.combination) reads values (execution_outcome box.test execution)
  pub numbered : IsNumberWithout (box.test, box.combination) reads execution.sources number
  pub least : (r : ℕ) → ¬ IsListed reads r → (x : Execution) → IsCompletion box x
      → ((j : ℕ) → Observes (box.test, box.combination) r j
      → slice_index_or (execution_outcome box.test x) j 0 ≡ slice_index_or (execution_outcome box.test execution) j 0)
      → IsNotGreaterOn (box_events box) r execution.sources x.sources

-- the outcome of each completion that has these values beside the listed reads has an entry
abbrev pub HasEachBeside : Box → List OpenRead → List ℕ → List Entry → Type 0
HasEachBeside box reads values entries =
    (x : Execution) → IsCompletion box x → ChangesListed (box.test, box.combination) reads values (execution_outcome box.test x)
    → HasOutcome entries (execution_outcome box.test x)

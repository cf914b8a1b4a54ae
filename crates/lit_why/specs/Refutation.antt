-- Refutations of boxes: why no valid execution has its sources in the domains, by what is given alone, which are the bytes whose domain
-- has one source; and covers by refuted boxes (this project's own; the clauses are those of ECMA-262, 2024, 29.7).
use Rattle.std.specs.Prelude.{◌≡◌, ◌≢◌, ◌↔◌, ℕ, Bool, IsTrue, Option, Some, None, List, length, slice_get}
use Rattle.lit_syntax.specs.Syntax.{Litmus}
use Rattle.lit_paths.specs.ByteReads.{byte_reads}
use Rattle.lit_paths.specs.Members.{IsCandidate}
use Rattle.lit_rel.specs.Coherent.{Hides}
use Rattle.lit_rel.specs.TearFree.{ReadsWholeBy}
use Rattle.lit_rel.specs.declared.event_set.EventSet.{EventSet}
use Rattle.lit_order.specs.MemoryOrder.{HasOrder}
use Rattle.lit_solve.specs.Box.{Box, HasSource, IsBox, IsWithin, LiesIn, box_events, box_with, events_on}
use Rattle.lit_solve.specs.Fill.{AreSourcesIn}
use Rattle.lit_solve.specs.Given.{GivenIn, HappensBeforeIn, IsForbiddenIn}
use Rattle.lit_why.specs.Asked.{is_asked}
use Rattle.lit_why.specs.Attempts.{IsOn, agree}
use Rattle.lit_why.specs.declared.refusals.causes.Refusal.{Refusal}
use Rattle.lit_why.specs.declared.refusals.causes.Refusal.TheVariants.{BeforeItself, FalseGuard, Incoherent, NoOrder, Torn}
use Rattle.lit_why.specs.declared.cases.covering.Case.{Case}
use Rattle.lit_why.specs.declared.refusals.causes.Incoherence.{Incoherence}
use Rattle.lit_why.specs.declared.refusals.causes.Incoherence.TheVariants.{HiddenBy, ReadFirst}

-- the read happens before the source; or this event hides the source
abbrev pub IsCauseIn : Box → (r b w : ℕ) → Incoherence → Type 0
IsCauseIn box r b w ReadFirst = HappensBeforeIn box r w
IsCauseIn box r b w (HiddenBy v) = Hides (box_events box) (HappensBeforeIn box) r b w v

-- What is given breaks this clause, with this witness. No guard is looked at.
abbrev pub IsRefutation : Box → Refusal → Type 0
IsRefutation box (FalseGuard agent place) = ⊥
IsRefutation box (BeforeItself event) = HappensBeforeIn box event event
IsRefutation box (Incoherent r b w cause) = GivenIn box r b w × IsCauseIn box r b w cause
IsRefutation box (Torn r w v) =
    ReadsWholeBy (box_events box) (GivenIn box) r w × ReadsWholeBy (box_events box) (GivenIn box) r v × (w ≢ v)
IsRefutation box NoOrder = ¬ HasOrder (length (box_events box)) (HappensBeforeIn box) (IsForbiddenIn box)

-- what is given breaks no clause
abbrev pub IsUnrefuted : Box → Type 0
IsUnrefuted box = (refusal : Refusal) → ¬ IsRefutation box refusal

-- the box of a case on the combination of another box
abbrev pub case_box : Box → Case → Box
case_box box case = record { test = box.test; combination = box.combination; domains = case.domains }

-- a case of a box: a box within it, with what refutes it
pub record IsCaseOf (box : Box) (case : Case) : Type 0 where
  pub is_box : IsBox (case_box box case)
  pub within : IsWithin (case_box box case) box
  pub refuted : IsRefutation (case_box box case) case.refusal

-- some case has these sources
pub record HasCase (box : Box) (cases : List Case) (sources : List ℕ) : Type 0 where
  pub place : ℕ
  pub case : Case
  pub at_place : slice_get cases place ≡ Some case
  pub lies : LiesIn (case_box box case) sources

-- each is a case of the box
abbrev pub AreCases : Box → List Case → Type 0
AreCases box cases = (i : ℕ) (case : Case) → slice_get cases i ≡ Some case → IsCaseOf box case

-- any sources that lie in the box lie in one of the cases
abbrev pub AreWhole : Box → List Case → Type 0
AreWhole box cases = (sources : List ℕ) → AreSourcesIn box sources → HasCase box cases sources

-- cases of a box, each refuted, that have all sources which lie in it
pub record IsCover (box : Box) (cases : List Case) : Type 0 where
  pub each : AreCases box cases
  pub whole : AreWhole box cases

-- The box of the attempt that a choice with these sources is of: each byte read that is asked about has the candidates that store the
-- same byte as its source, and each other has all.
abbrev pub IsAttemptBox : Litmus × ℕ → List ℕ → List EventSet → Type 0
IsAttemptBox c sources domains =
    (k r b v w : ℕ) → slice_get (byte_reads (events_on c)) k ≡ Some (r, b) → slice_get sources k ≡ Some v
    → HasSource (box_with c domains) k w ↔ (IsCandidate (events_on c) r b w × IsTrue (agree (is_asked c.0 c.1 r) (events_on c) b v w))

-- cases of the attempt that choice n is of, each refuted, which cover it where they are said to be all
pub record AreCasesOfAttempt (t : Litmus) (n : ℕ) (cases : List Case) (all : Bool) : Type 0 where
  pub combination : ℕ
  pub sources : List ℕ
  pub on : IsOn t n combination sources
  pub domains : List EventSet
  pub is_attempt : IsAttemptBox (t, combination) sources domains
  pub each : AreCases (box_with (t, combination) domains) cases
  pub whole : IsTrue all → AreWhole (box_with (t, combination) domains) cases

-- the cases cover the box of the attempt that choice n is of
pub record IsRefutedAttempt (t : Litmus) (n : ℕ) (cases : List Case) : Type 0 where
  pub combination : ℕ
  pub sources : List ℕ
  pub on : IsOn t n combination sources
  pub domains : List EventSet
  pub is_attempt : IsAttemptBox (t, combination) sources domains
  pub cover : IsCover (box_with (t, combination) domains) cases

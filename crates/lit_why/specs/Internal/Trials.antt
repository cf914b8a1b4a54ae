-- What the domains of a box say of attempts by sources that lie in it.
use Rattle.std.specs.Prelude.{Some, ℕ, ◌+◌, ◌<◌, ◌≤◌, Bool, IsTrue, true, false, List, length}
use Rattle.lit_syntax.specs.Syntax.{Litmus}
use Rattle.lit_paths.specs.ByteReads.{byte_reads}
use Rattle.lit_paths.specs.Members.{IsCandidate}
use Rattle.lit_paths.specs.Plan.{choices_before}
use Rattle.lit_rel.specs.Broken.{HasFalseGuard, HasFalseGuardOn}
use Rattle.lit_rel.specs.ReadsFrom.{value_of}
use Rattle.lit_valid.specs.declared.class.Class.{Class}
use Rattle.lit_solve.specs.Box.{Box, HasEmptyDomain, IsBox, LiesIn, box_events, events_on}
use Rattle.lit_solve.specs.Fill.{AreSourcesIn}
use Rattle.lit_solve.specs.Given.{HasAlone}
use Rattle.lit_solve.specs.Prunable.{IsRefusedOn}
use Rattle.lit_solve.specs.Prospect.{IsUndecidedAt}
use Rattle.lit_why.specs.Asked.{is_asked}
use Rattle.lit_why.specs.Attempts.{IsLeastTry, IsOn, IsTry, agree, part_with}

-- some lesser event could be the source of a byte read, which would make no difference
pub record IsStoredBefore (c : Litmus × ℕ) (read : ℕ × ℕ) (w : ℕ) : Type 0 where
  pub other : ℕ
  pub candidate : IsCandidate (events_on c) read.0 read.1 other
  pub lesser : other < w
  pub same : IsTrue (agree (is_asked c.0 c.1 read.0) (events_on c) read.1 other w)

-- w is the least of the candidates of a byte read between which there is no difference, and no guard refuses it
pub record IsRepresentative (c : Litmus × ℕ) (read : ℕ × ℕ) (w : ℕ) : Type 0 where
  pub candidate : IsCandidate (events_on c) read.0 read.1 w
  pub allowed : ¬ IsRefusedOn c read.0 read.1 w
  pub least : ¬ IsStoredBefore c read w

-- some byte of the box is undecided
abbrev pub IsUndecided : Box → Type 0
IsUndecided box = (k : ℕ) × IsUndecidedAt box k

-- a guard on a read is false of its value by any sources that lie in the box; or it is false by none of them, unless a byte is undecided
abbrev pub IsReadRefused : Box → ℕ → Bool → Type 0
IsReadRefused box r true =
    (sources : List ℕ) → AreSourcesIn box sources
    → HasFalseGuardOn box.test box.combination (Some r) (value_of (box_events box) sources r)
IsReadRefused box r false =
    (sources : List ℕ) → AreSourcesIn box sources
    → HasFalseGuardOn box.test box.combination (Some r) (value_of (box_events box) sources r) → IsUndecided box

-- the same of all guards
abbrev pub AreRefused : Box → Bool → Type 0
AreRefused box true = (sources : List ℕ) → AreSourcesIn box sources → HasFalseGuard (part_with box.test box.combination sources)
AreRefused box false =
    (sources : List ℕ) → AreSourcesIn box sources → HasFalseGuard (part_with box.test box.combination sources) → IsUndecided box

-- any sources that lie in the box try the class, where no byte is undecided; or none do
abbrev pub MayTry : Box → Class → Bool → Type 0
MayTry box class true = (sources : List ℕ) → AreSourcesIn box sources → ¬ IsUndecided box → IsTry box.test class box.combination sources
MayTry box class false = (sources : List ℕ) → AreSourcesIn box sources → ¬ IsTry box.test class box.combination sources

-- choice n tries the class by sources that lie in the box
pub record TriesIn (box : Box) (class : Class) (n : ℕ) : Type 0 where
  pub sources : List ℕ
  pub on : IsOn box.test n box.combination sources
  pub lies : LiesIn box sources
  pub is_try : IsTry box.test class box.combination sources

-- choice n is the first of an attempt at the class on a combination
pub record IsLeastTryOn (t : Litmus) (class : Class) (c n : ℕ) : Type 0 where
  pub is : IsLeastTry t class n
  pub low : choices_before t c ≤ n
  pub high : n < choices_before t (c + 1)

-- a box with a source for each byte read, and with one alone for each before a place
pub record IsNode (box : Box) (place : ℕ) : Type 0 where
  pub is_box : IsBox box
  pub some : ¬ HasEmptyDomain box
  pub within : place ≤ length (byte_reads (box_events box))
  pub alone : (k : ℕ) → k < place → (w : ℕ) × HasAlone box k w

-- The used lines of a derivation, and their new places.
use Rattle.std.specs.Prelude.{◌≡◌, ◌⊎◌, ℕ, ◌+◌, ◌<◌, Bool, true, List, length, Some, slice_get, slice_index}
use Rattle.lit_why.specs.declared.derivations.lines.DerivationLine.{DerivationLine}
use Rattle.lit_why.specs.declared.derivations.lines.Reason.{Reason}
use Rattle.lit_why.specs.declared.derivations.lines.Reason.TheVariants as reasons
use Rattle.lit_why.specs.Derivation.{Cites}

-- the place is marked
abbrev pub IsMarked : List Bool → ℕ → Type 0
IsMarked marks place = slice_get marks place ≡ Some true

-- a later line that is marked cites the one at a place
pub record IsCitedByMarked (lines : List DerivationLine) (marks : List Bool) (place : ℕ) : Type 0 where
  pub later : ℕ
  pub line : DerivationLine
  pub at_later : slice_get lines later ≡ Some line
  pub after : place < later
  pub marked : IsMarked marks later
  pub cites : Cites line.reason place

-- each line cites earlier ones only
abbrev pub CiteEarlier : List DerivationLine → Type 0
CiteEarlier lines = (later : ℕ) (line : DerivationLine) → slice_get lines later ≡ Some line → (k : ℕ) → Cites line.reason k → k < later

-- each line that a marked line from a place on cites is marked
abbrev pub AreCitedMarked : List DerivationLine → List Bool → ℕ → Type 0
AreCitedMarked lines marks from =
    (later : ℕ) (line : DerivationLine) → (later < from → ⊥) → IsMarked marks later → slice_get lines later ≡ Some line → (k : ℕ)
    → Cites line.reason k → IsMarked marks k

-- the marks are those of the last line and of the lines that it cites, directly or through others
pub record AreMarks (lines : List DerivationLine) (marks : List Bool) : Type 0 where
  pub len : length marks ≡ length lines
  pub last : (k : ℕ) → k + 1 ≡ length lines → IsMarked marks k
  pub only : (k : ℕ) → IsMarked marks k → (k + 1 ≡ length lines) ⊎ IsCitedByMarked lines marks k
  pub all : AreCitedMarked lines marks 0

-- the reason, with each place that it cites read in a list of new places
abbrev pub moved_reason : List ℕ → Reason → Reason
moved_reason places reasons.HappensBefore = reasons.HappensBefore
moved_reason places (reasons.Joined first second) = reasons.Joined (slice_index places first) (slice_index places second)
moved_reason places (reasons.BeforeSource r earlier) = reasons.BeforeSource r (slice_index places earlier)
moved_reason places (reasons.AfterRead w earlier) = reasons.AfterRead w (slice_index places earlier)

abbrev pub moved_line : List ℕ → DerivationLine → DerivationLine
moved_line places line = record { before = line.before; after = line.after; reason = moved_reason places line.reason }

-- of the first i lines those that are marked, in order, each at its new place and with its citations moved
pub record AreMoved (lines : List DerivationLine) (marks : List Bool) (i : ℕ) (places : List ℕ) (used : List DerivationLine) : Type 0 where
  pub len : length places ≡ i
  pub each : (j : ℕ) (line : DerivationLine) → j < i → IsMarked marks j → slice_get lines j ≡ Some line
      → slice_get used (slice_index places j) ≡ Some (moved_line places line)
  pub only : (p : ℕ) → p < length used → (j : ℕ) × (j < i) × IsMarked marks j × (slice_index places j ≡ p)
  pub rising : (j l : ℕ) → j < l → l < i → IsMarked marks j → slice_index places j < slice_index places l
  pub within : (j : ℕ) → j < i → IsMarked marks j → slice_index places j < length used

-- the used lines are those that are marked
pub record AreUsedLines (lines used : List DerivationLine) : Type 0 where
  pub marks : List Bool
  pub are_marks : AreMarks lines marks
  pub places : List ℕ
  pub moved : AreMoved lines marks (length lines) places used

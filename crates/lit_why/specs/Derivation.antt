-- Derivations that there is no memory-order: precedences, each of which follows from earlier ones, up to an event before itself (this
-- project's own; the triples are those of ECMA-262, 2024, 29.7.4).
use Rattle.std.specs.Prelude.{◌≡◌, ◌⊎◌, ℕ, ◌+◌, ◌<◌, List, length, Some, slice_get}
use Rattle.lit_paths.specs.declared.event.Event.{Event}
use Rattle.lit_rel.specs.Forbidden.{IsForbidden}
use Rattle.lit_rel.specs.HappensBefore.{HappensBefore}
use Rattle.lit_why.specs.declared.derivations.lines.DerivationLine.{DerivationLine}
use Rattle.lit_why.specs.declared.derivations.lines.Reason.{Reason}
use Rattle.lit_why.specs.declared.derivations.lines.Reason.TheVariants as reasons

-- the line at a place has e before d
pub record IsLineOf (lines : List DerivationLine) (place e d : ℕ) : Type 0 where
  pub line : DerivationLine
  pub at_place : slice_get lines place ≡ Some line
  pub first : line.before ≡ e
  pub second : line.after ≡ d

-- That e comes before d follows for a reason from the lines before a place, by a relation that stands for happens-before, and
-- triples (w, r, v) of which v may not stand after w and before r: e is before d; or before an event that is; or d is a source, e may
-- not stand between it and the read r, and e is before r; or e is a read, d may not stand between its source w and it, and d is after w.
abbrev pub Follows : (ℕ → ℕ → Type 0) → (ℕ → ℕ → ℕ → Type 0) → List DerivationLine → (place e d : ℕ) → Reason → Type 0
Follows before forbidden lines place e d reasons.HappensBefore = before e d
Follows before forbidden lines place e d (reasons.Joined first second) =
    (m : ℕ) × (first < place) × (second < place) × IsLineOf lines first e m × IsLineOf lines second m d
Follows before forbidden lines place e d (reasons.BeforeSource r earlier) = forbidden d r e × (earlier < place) × IsLineOf lines earlier e r
Follows before forbidden lines place e d (reasons.AfterRead w earlier) = forbidden w e d × (earlier < place) × IsLineOf lines earlier w d

-- each line follows for its reason from the lines before it
abbrev pub EachFollows : (ℕ → ℕ → Type 0) → (ℕ → ℕ → ℕ → Type 0) → List DerivationLine → Type 0
EachFollows before forbidden lines =
    (k : ℕ) (line : DerivationLine) → slice_get lines k ≡ Some line → Follows before forbidden lines k line.before line.after line.reason

-- the last line has an event before itself
pub record EndsInCycle (lines : List DerivationLine) : Type 0 where
  pub end : ℕ
  pub last : length lines ≡ end + 1
  pub event : ℕ
  pub is_cycle : IsLineOf lines end event event

-- a reason cites the line at a place
abbrev pub Cites : Reason → ℕ → Type 0
Cites reasons.HappensBefore place = ⊥
Cites (reasons.Joined first second) place = (first ≡ place) ⊎ (second ≡ place)
Cites (reasons.BeforeSource r earlier) place = earlier ≡ place
Cites (reasons.AfterRead w earlier) place = earlier ≡ place

-- a later line cites the one at a place
pub record IsCitedLater (lines : List DerivationLine) (place : ℕ) : Type 0 where
  pub later : ℕ
  pub line : DerivationLine
  pub at_later : slice_get lines later ≡ Some line
  pub after : place < later
  pub cites : Cites line.reason place

-- no two lines have the same pair
abbrev pub AreOnce : List DerivationLine → Type 0
AreOnce lines =
    (j k : ℕ) (a b : DerivationLine) → j < k → slice_get lines j ≡ Some a → slice_get lines k ≡ Some b → a.before ≡ b.before
    → a.after ≡ b.after → ⊥

-- each line follows, the last one is a cycle, each of the others is cited by a later one, and no pair has two lines
pub record IsDerivationBy (before : ℕ → ℕ → Type 0) (forbidden : ℕ → ℕ → ℕ → Type 0) (lines : List DerivationLine) : Type 0 where
  pub follows : EachFollows before forbidden lines
  pub ends : EndsInCycle lines
  pub cited : (k : ℕ) → k + 1 < length lines → IsCitedLater lines k
  pub once : AreOnce lines

-- the same, by the happens-before and the forbidden triples of these sources
abbrev pub IsDerivation : List Event → List ℕ → List DerivationLine → Type 0
IsDerivation events sources = IsDerivationBy (HappensBefore events sources) (IsForbidden events sources)

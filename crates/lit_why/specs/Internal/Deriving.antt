-- Pairs that follow from the lines of a derivation, and whether all of them are known.
use Rattle.std.specs.Prelude.{◌≡◌, ℕ, ◌<◌, List, length, Some, slice_get}
use Rattle.lit_rel.specs.declared.between.Pair.{Pair}
use Rattle.lit_rel.specs.EventSet.{HasEvent}
use Rattle.lit_why.specs.declared.derivations.lines.DerivationLine.{DerivationLine}
use Rattle.lit_why.specs.declared.derivations.lines.Reason.TheVariants as reasons
use Rattle.lit_why.specs.Derivation.{Follows, IsLineOf}

-- some line has e before d
abbrev pub HasLine : List DerivationLine → ℕ → ℕ → Type 0
HasLine lines e d = (place : ℕ) × IsLineOf lines place e d

-- each pair of a relation has a line
abbrev pub HasLines : List DerivationLine → (ℕ → ℕ → Type 0) → Type 0
HasLines lines old = (e d : ℕ) → old e d → HasLine lines e d

-- no pair, and no triple
abbrev pub NoPair : ℕ → ℕ → Type 0
NoPair e d = ⊥

abbrev pub NoTriple : ℕ → ℕ → ℕ → Type 0
NoTriple w r v = ⊥

-- the line is of events below n, follows from the lines before it, and its pair is not known
pub record IsNewLine (n : ℕ) (forbidden : ℕ → ℕ → ℕ → Type 0) (known : ℕ → ℕ → Type 0) (lines : List DerivationLine)
    (line : DerivationLine) : Type 0 where
  pub first : line.before < n
  pub second : line.after < n
  pub follows : Follows NoPair forbidden lines (length lines) line.before line.after line.reason
  pub new : ¬ known line.before line.after

-- each pair composed of two old pairs is known
abbrev pub HasJoined : (old known : ℕ → ℕ → Type 0) → Type 0
HasJoined old known = (e m d : ℕ) → old e m → old m d → known e d

-- each pair that a triple forces by an old pair is known
pub record HasForced (forbidden : ℕ → ℕ → ℕ → Type 0) (old known : ℕ → ℕ → Type 0) : Type 0 where
  pub after : (w r v : ℕ) → forbidden w r v → old w v → known r v
  pub earlier : (w r v : ℕ) → forbidden w r v → old v r → known v w

-- the triples of a pair, of events below n
pub record IsOfPair (n : ℕ) (pair : Pair) (w r v : ℕ) : Type 0 where
  pub source : w ≡ pair.source
  pub read : r ≡ pair.read
  pub known : v < n
  pub marked : HasEvent pair.others v

-- the line has a pair of a relation, by happens-before
pub record IsGiven (before : ℕ → ℕ → Type 0) (line : DerivationLine) : Type 0 where
  pub reason : line.reason ≡ reasons.HappensBefore
  pub has : before line.before line.after

abbrev pub AreGiven : (ℕ → ℕ → Type 0) → List DerivationLine → Type 0
AreGiven before lines = (k : ℕ) (line : DerivationLine) → slice_get lines k ≡ Some line → IsGiven before line

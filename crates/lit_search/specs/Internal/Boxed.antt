-- The choices of a range on one combination, by the boxes of the range.
use Rattle.std.specs.Prelude.{◌≡◌, ℕ, ◌+◌, ◌<◌, ◌≤◌, IsTrue, List, length}
use Rattle.lit_syntax.specs.Syntax.{Litmus}
use Rattle.lit_paths.specs.Choice.{combinations_of}
use Rattle.lit_paths.specs.Plan.{HasSources, choices_before}
use Rattle.lit_valid.specs.declared.class.Class.{Class}
use Rattle.lit_valid.specs.Class.{GivesClass}
use Rattle.lit_solve.specs.Boxes.{BoxesModel, CutsRange, LiesInBox}
use Rattle.lit_search.specs.Report.{in_range}

-- the boxes of a range of choices, all of one combination, which is a test and a number
pub record AreOfRange (p : Litmus × ℕ) (from to : ℕ) (boxes : BoxesModel) : Type 0 where
  pub same : (boxes.test, boxes.combination) ≡ p
  pub cuts : CutsRange boxes from to
  pub known : p.1 < length (combinations_of p.0)
  pub begins : choices_before p.0 p.1 ≤ from
  pub ends : to ≤ choices_before p.0 (p.1 + 1)

-- the choice with this number is in the range, and its sources lie in the i-th box
pub record IsOfBox (t : Litmus) (boxes : BoxesModel) (from to i n : ℕ) : Type 0 where
  pub among : IsTrue (in_range from to n)
  pub sources : List ℕ
  pub has : HasSources t n sources
  pub lies : LiesInBox boxes i sources

-- its sources lie in one of the first `count` boxes
pub record IsOfFirst (t : Litmus) (boxes : BoxesModel) (from to count n : ℕ) : Type 0 where
  pub place : ℕ
  pub before : place < count
  pub is : IsOfBox t boxes from to place n

-- no choice of the first `count` boxes has an outcome in the class
abbrev pub HasNoneBefore : Litmus → BoxesModel → Class → (from to count : ℕ) → Type 0
HasNoneBefore t boxes class from to count = (n : ℕ) → IsOfFirst t boxes from to count n → ¬ GivesClass t class n

use Rattle.std.proofs.Common.{◌≡◌, ◌⊎◌, ℕ, ◌+◌, ◌≤◌, length}
use Rattle.lit_why.specs.Internal.UsedLines.{AreCitedMarked, IsCitedByMarked, IsMarked}
use Rattle.lit_why.proofs.derivations.used_lines.marks_of.Given as goal

abbrev pub decreases-loop-left : goal.decreases-loop-left
decreases-loop-left l = l.left

abbrev pub invariant-loop-left : goal.invariant-loop-left
invariant-loop-left l = record {
  most : l.left ≤ length l.lines;
  len : length l.marks.items ≡ length l.lines;
  last : (k : ℕ) → k + 1 ≡ length l.lines → IsMarked l.marks.items k;
  only : (k : ℕ) → IsMarked l.marks.items k → (k + 1 ≡ length l.lines) ⊎ IsCitedByMarked l.lines l.marks.items k;
  all : AreCitedMarked l.lines l.marks.items l.left;
}

use Rattle.lit_why.specs.Internal.UsedLines.{AreMoved}
use Rattle.lit_why.proofs.derivations.used_lines.moved_lines.Given as goal

abbrev pub invariant-loop-place : goal.invariant-loop-place
invariant-loop-place l = AreMoved l.lines l.marks l.place l.places.items l.used.items

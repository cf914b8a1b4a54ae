use Rattle.lit_solve.proofs.Words.{AreFirstValues, box_with, length, ◌≡◌}
use Rattle.lit_solve.proofs.problem.Problem.observe.Given as goal

abbrev pub invariant-loop-i : goal.invariant-loop-i
invariant-loop-i l = record {
  count : length l.values.items ≡ l.i;
  first : AreFirstValues (box_with l.self l.domains) l.values.items;
}

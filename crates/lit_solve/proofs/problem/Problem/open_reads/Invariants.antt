use Rattle.lit_solve.proofs.Words.{◌<◌, AreOpenReads, box_with, get_or, IsValueBeside, length, ℕ, ◌≡◌}
use Rattle.lit_solve.proofs.problem.Problem.open_reads.Given as goal

abbrev pub invariant-loop-i : goal.invariant-loop-i
invariant-loop-i l = record {
  reads : AreOpenReads (box_with l.self l.domains) l.reads.items;
  count : length l.values.items ≡ l.i;
  each : (j : ℕ) → j < l.i → IsValueBeside (box_with l.self l.domains) l.reads.items j (get_or l.values.items j 0);
}

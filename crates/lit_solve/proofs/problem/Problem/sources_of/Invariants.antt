use Rattle.lit_solve.proofs.Words.{box_with, length, LiesIn, ◌≡◌}
use Rattle.lit_solve.proofs.problem.Problem.sources_of.Given as goal

abbrev pub invariant-loop-place : goal.invariant-loop-place
invariant-loop-place l = record {
  count : length l.sources.items ≡ l.place;
  within : LiesIn (box_with l.self l.domains) l.sources.items;
}

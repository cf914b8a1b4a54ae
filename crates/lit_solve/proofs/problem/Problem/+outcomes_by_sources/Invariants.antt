use Rattle.lit_solve.proofs.Words.{AddsEntries, box_of, HasEvent, HasSource, size_of, ℕ}
use Rattle.lit_solve.proofs.ObservedLemmas.{IsSeen}
use Rattle.lit_solve.proofs.problem.Problem.+outcomes_by_sources.Given as goal

abbrev pub decreases-outcomes_by_sources : goal.decreases-outcomes_by_sources
decreases-outcomes_by_sources g l = size_of l.frame.now.domains

abbrev pub invariant-loop-source : goal.invariant-loop-source
invariant-loop-source g l = record {
  within : (w : ℕ) → HasEvent l.left w → HasSource (box_of l.self l.frame) l.branch.place w;
  added : AddsEntries (box_of l.self l.root) (g.T.OutcomeTable.entries l.fn.table) (g.T.OutcomeTable.entries l.table);
  seen : IsSeen (box_of l.self l.frame) l.branch.place (g.T.OutcomeTable.entries l.table) l.left;
}

abbrev pub decreases-loop-source : goal.decreases-loop-source
decreases-loop-source g l = l.left.bits

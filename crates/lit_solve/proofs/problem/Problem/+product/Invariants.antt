use Rattle.lit_solve.proofs.Words.{AddsEntries, box_with, ChangesListed, events_on, Execution, execution_outcome, HasOutcome, IsCompletion}
use Rattle.lit_solve.proofs.Words.{length, value_of, ◌∷◌, ◌⊎◌}
use Rattle.lit_solve.proofs.OpenReadLemmas.{IsValueFrom}
use Rattle.lit_solve.proofs.problem.Problem.+product.Given as goal

abbrev pub decreases-product : goal.decreases-product
decreases-product g l = length l.reads.now

abbrev pub invariant-loop-i : goal.invariant-loop-i
invariant-loop-i g l = record {
  values : ChangesListed l.self l.reads l.fn.values.items l.values.items;
  added : AddsEntries (box_with l.self l.domains) (g.T.OutcomeTable.entries l.fn.table) (g.T.OutcomeTable.entries l.table);
  seen : (x : Execution) → IsCompletion (box_with l.self l.domains) x
      → ChangesListed l.self (l.first ∷ l.rest) l.fn.values.items (execution_outcome l.self.0 x)
      → HasOutcome (g.T.OutcomeTable.entries l.table) (execution_outcome l.self.0 x)
      ⊎ IsValueFrom l.first.fillings.items l.i (value_of (events_on l.self) x.sources l.first.read);
}

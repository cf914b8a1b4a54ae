use Rattle.lit_solve.proofs.Words.{AddsFillings, box_with, events_on, HasEvent, HasSource, HasValue, size_of, value_of, ℕ}
use Rattle.lit_solve.proofs.ObservedLemmas.{IsSeenBy}
use Rattle.lit_solve.proofs.problem.Problem.+add_fillings.Given as goal

abbrev pub decreases-add_fillings : goal.decreases-add_fillings
decreases-add_fillings l = size_of l.domains.now

abbrev pub invariant-loop-source : goal.invariant-loop-source
invariant-loop-source l = record {
  within : (w : ℕ) → HasEvent l.left w → HasSource (box_with l.self l.domains) l.place w;
  added : AddsFillings (box_with l.self l.domains) l.read l.fn.fillings.items l.fillings.items;
  seen : IsSeenBy (λ x. HasValue l.fillings.items (value_of (events_on l.self) x.sources l.read)) (box_with l.self l.domains) l.place l.left;
}

abbrev pub decreases-loop-source : goal.decreases-loop-source
decreases-loop-source l = l.left.bits

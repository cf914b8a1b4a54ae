use Rattle.std.proofs.Common.{◌≤◌, ℕ, length}
use Rattle.lit_rel.specs.EventSet.{HasEvent}
use Rattle.lit_solve.specs.Box.{HasSource, box_with}
use Rattle.lit_why.proofs.CaseLemmas.{CoversPast}
use Rattle.lit_why.proofs.cases.covering.+add_cases.Given as goal

abbrev pub decreases-add_cases : goal.decreases-add_cases
decreases-add_cases l = l.cuts

abbrev pub invariant-loop-source : goal.invariant-loop-source
invariant-loop-source l = record {
  within : (w : ℕ) → HasEvent l.left w → HasSource (box_with l.problem l.domains) l.place w;
  covers : CoversPast (box_with l.problem l.domains) l.place l.left l.fn.cases.items l.cases.items;
  few : length l.cases.items ≤ l.most;
}

abbrev pub decreases-loop-source : goal.decreases-loop-source
decreases-loop-source l = l.left.bits

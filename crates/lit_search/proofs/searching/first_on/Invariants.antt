use Rattle.lit_search.specs.Internal.Boxed.{HasNoneBefore}
use Rattle.lit_search.proofs.searching.first_on.Given as goal

abbrev pub invariant-loop-i : goal.invariant-loop-i
invariant-loop-i l = HasNoneBefore l.problem.0 l.boxes l.class l.from l.to l.i

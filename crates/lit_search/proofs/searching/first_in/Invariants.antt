use Rattle.lit_search.proofs.Words.{◌-◌, HasNoneOf, in_range, ◌≤◌}
use Rattle.lit_search.proofs.searching.first_in.Given as goal

abbrev pub invariant-loop-next : goal.invariant-loop-next
invariant-loop-next l = record {
  after : l.from ≤ l.next;
  inside : l.next ≤ l.to;
  none : HasNoneOf l.plan l.class (in_range l.from l.next);
}

abbrev pub decreases-loop-next : goal.decreases-loop-next
decreases-loop-next l = l.to - l.next

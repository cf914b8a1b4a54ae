use Rattle.lit_search.proofs.Words.{◌-◌, Gains, in_range, IsTrue, ◌≤◌}
use Rattle.lit_search.proofs.searching.record.Given as goal

abbrev pub invariant-loop-next : goal.invariant-loop-next
invariant-loop-next g l = record {
  after : l.from ≤ l.next;
  inside : l.next ≤ l.to;
  gains : Gains l.plan (λ n. IsTrue (in_range l.from l.next n)) l.fn.table l.table l.raced l.race;
}

abbrev pub decreases-loop-next : goal.decreases-loop-next
decreases-loop-next g l = l.to - l.next

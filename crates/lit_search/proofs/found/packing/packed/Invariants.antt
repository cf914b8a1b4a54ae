use Rattle.lit_search.proofs.Words.{◌+◌, ◌-◌, ◌^◌, drop, packed, ◌≡◌, ◌≤◌}
use Rattle.lit_search.proofs.found.packing.packed.Given as goal

abbrev pub invariant-loop-place : goal.invariant-loop-place
invariant-loop-place l = record {
  few : l.place ≤ l.count;
  number : l.number ≡ packed l.top (l.count - l.place) (drop l.place l.values);
  weight : l.weight ≡ (l.top + 1) ^ (l.count - l.place);
}

abbrev pub decreases-loop-place : goal.decreases-loop-place
decreases-loop-place l = l.place

use Rattle.std.proofs.Common.{◌≡◌, length}
use Rattle.lit_solve.specs.Box.{LiesIn, box_with}
use Rattle.lit_why.proofs.enumeration.least_sources.Given as goal

abbrev pub invariant-loop-place : goal.invariant-loop-place
invariant-loop-place l = record {
  count : length l.sources.items ≡ l.place;
  within : LiesIn (box_with l.problem l.domains) l.sources.items;
}

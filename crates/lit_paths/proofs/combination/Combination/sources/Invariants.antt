use Rattle.std.proofs.Common.{◌≡◌, take}
use Rattle.lit_paths.proofs.WaySteps.{IsLeft, lists_of, member_at}
use Rattle.lit_paths.proofs.combination.Combination.sources.Given as goal

abbrev pub invariant-loop-i : goal.invariant-loop-i
invariant-loop-i l = record {
  digits : IsLeft (lists_of l.candidates) l.initial.left l.i l.left;
  taken : l.sources.items ≡ take l.i (member_at (lists_of l.candidates) l.initial.left);
}

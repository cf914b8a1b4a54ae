use Rattle.std.proofs.Common.{◌≡◌, take}
use Rattle.lit_rel_tests.proofs.rel.part_of.Given as goal

abbrev pub invariant-loop-source : goal.invariant-loop-source
invariant-loop-source l = l.part ≡ record { test = l.plan; combination = l.combination; sources = take l.source-index l.source-items }

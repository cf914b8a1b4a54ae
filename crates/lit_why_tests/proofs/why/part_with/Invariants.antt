use Rattle.std.proofs.Common.{◌≡◌, take}
use Rattle.lit_why_tests.proofs.why.part_with.Given as goal

abbrev pub invariant-loop-source : goal.invariant-loop-source
invariant-loop-source g l = l.part ≡ record { test = l.plan; combination = l.combination; sources = take l.source-index l.sources }

use Rattle.std.proofs.Common.{◌≡◌, take}
use Rattle.lit_why.proofs.parts.part_of.Given as goal

abbrev pub invariant-loop-source : goal.invariant-loop-source
invariant-loop-source l = l.part ≡ record { test = l.plan; combination = l.number; sources = take l.source-index l.source-items }

use Rattle.std.specs.Prelude.{⊤}
use Rattle.lit_why.proofs.unmixing.is_unmixed.Given as goal

abbrev pub invariant-loop-event : goal.invariant-loop-event
invariant-loop-event l = ⊤

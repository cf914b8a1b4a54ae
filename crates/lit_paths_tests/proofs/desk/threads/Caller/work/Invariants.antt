use Rattle.lit_desk.specs.Desk.{IsPlaceOf}
use Rattle.lit_paths_tests.proofs.desk.threads.Caller.work.Given as goal

abbrev pub invariant-loop : goal.invariant-loop
invariant-loop l = IsPlaceOf l.desk l.self.place

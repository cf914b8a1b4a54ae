use Rattle.std.proofs.Common.{◌≡◌, false}
use Rattle.lit_paths.specs.declared.path.Tested.{Tested}
use Rattle.lit_paths.specs.Run.{compares}
use Rattle.lit_rel.specs.Broken.{number_on}
use Rattle.lit_rel.proofs.EachLemmas.{EachBelow}
use Rattle.lit_rel.proofs.part.false_guards.has_false.Given as goal

abbrev pub invariant-loop-test : goal.invariant-loop-test
invariant-loop-test l = EachBelow {X = Tested} (λ test. number_on l.first test.on ≡ l.asked → compares test.equal l.value test.value ≡ false → ⊥) l.tests l.test-index

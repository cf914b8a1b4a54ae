use Rattle.std.proofs.Common.{◌≡◌, Some}
use Rattle.lit_paths.specs.declared.path.Tested.{Tested}
use Rattle.lit_rel.specs.Broken.{number_on}
use Rattle.lit_rel.specs.GuardedBytes.{IsFalseOfByte}
use Rattle.lit_rel.proofs.EachLemmas.{EachBelow}
use Rattle.lit_rel.proofs.part.guarded_bytes.has_false_byte.Given as goal

abbrev pub invariant-loop-test : goal.invariant-loop-test
invariant-loop-test l = EachBelow {X = Tested} (λ test. number_on l.first test.on ≡ Some l.at.read → IsFalseOfByte l.event l.at.byte l.value test → ⊥) l.tests l.test-index

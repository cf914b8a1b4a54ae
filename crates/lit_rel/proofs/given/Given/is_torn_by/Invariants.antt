use Rattle.lit_rel.specs.declared.given.SourcedByte.{SourcedByte}
use Rattle.lit_rel.specs.Internal.Given.{Tears}
use Rattle.lit_rel.proofs.EachLemmas.{EachBelow}
use Rattle.lit_rel.proofs.given.Given.is_torn_by.Given as goal

abbrev pub invariant-loop-other : goal.invariant-loop-other
invariant-loop-other l = EachBelow {X = SourcedByte} (λ q. Tears l.self.events.now l.byte q → ⊥) l.other-items l.other-index

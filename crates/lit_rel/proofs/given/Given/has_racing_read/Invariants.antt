use Rattle.lit_rel.specs.declared.given.SourcedByte.{SourcedByte}
use Rattle.lit_rel.specs.Internal.Given.{IsRacing}
use Rattle.lit_rel.specs.Rows.{Holds}
use Rattle.lit_rel.proofs.EachLemmas.{EachBelow}
use Rattle.lit_rel.proofs.given.Given.has_racing_read.Given as goal

abbrev pub invariant-loop-byte : goal.invariant-loop-byte
invariant-loop-byte l = EachBelow {X = SourcedByte} (λ p. IsRacing l.self.events.now (Holds l.before) p → ⊥) l.byte-items l.byte-index

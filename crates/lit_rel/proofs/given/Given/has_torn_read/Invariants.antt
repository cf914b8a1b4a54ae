use Rattle.lit_rel.specs.declared.given.SourcedByte.{SourcedByte}
use Rattle.lit_rel.specs.Internal.Given.{HasByteSo, Tears}
use Rattle.lit_rel.proofs.EachLemmas.{EachBelow}
use Rattle.lit_rel.proofs.given.Given.has_torn_read.Given as goal

abbrev pub invariant-loop-byte : goal.invariant-loop-byte
invariant-loop-byte l = EachBelow {X = SourcedByte} (λ p. HasByteSo l.self.bytes.now (Tears l.self.events.now p) → ⊥) l.byte-items l.byte-index

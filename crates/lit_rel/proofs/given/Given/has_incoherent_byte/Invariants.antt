use Rattle.lit_rel.specs.declared.given.SourcedByte.{SourcedByte}
use Rattle.lit_rel.specs.Internal.Given.{IsIncoherent}
use Rattle.lit_rel.specs.Rows.{Holds}
use Rattle.lit_rel.proofs.EachLemmas.{EachBelow}
use Rattle.lit_rel.proofs.given.Given.has_incoherent_byte.Given as goal

abbrev pub invariant-loop-byte : goal.invariant-loop-byte
invariant-loop-byte l = EachBelow {X = SourcedByte} (λ p. IsIncoherent l.self.events.now (Holds l.before.rows) p → ⊥) l.byte-items l.byte-index

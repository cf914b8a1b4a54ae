use Rattle.std.proofs.Common.{ℕ}
use Rattle.lit_rel.specs.declared.between.Pair.{Pair}
use Rattle.lit_rel.specs.EventSet.{HasEvent}
use Rattle.lit_rel.proofs.EachLemmas.{EachBelow}
use Rattle.lit_order.proofs.constraints.Constraints.new.Given as goal

abbrev pub invariant-loop-pair : goal.invariant-loop-pair
invariant-loop-pair l = EachBelow {X = Pair} (λ p. (v : ℕ) → HasEvent p.others v → HasEvent l.kept v) l.pair-items l.pair-index

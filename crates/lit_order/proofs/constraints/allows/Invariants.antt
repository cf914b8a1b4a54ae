use Rattle.std.proofs.Common.{◌≡◌, ◌⊎◌}
use Rattle.lit_rel.specs.declared.between.Pair.{Pair}
use Rattle.lit_rel.specs.EventSet.{HasEvent}
use Rattle.lit_rel.proofs.EachLemmas.{EachBelow}
use Rattle.lit_order.proofs.constraints.allows.Given as goal

abbrev pub invariant-loop-pair : goal.invariant-loop-pair
invariant-loop-pair l =
    EachBelow {X = Pair} (λ p. HasEvent p.others l.event → HasEvent l.placed p.source → (p.read ≡ l.event) ⊎ HasEvent l.placed p.read) l.pair-items l.pair-index

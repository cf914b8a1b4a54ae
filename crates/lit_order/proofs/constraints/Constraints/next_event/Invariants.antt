use Rattle.std.proofs.Common.{◌<◌, ℕ}
use Rattle.lit_rel.specs.EventSet.{HasEvent}
use Rattle.lit_order.specs.Internal.Beginning.{CanStandNext}
use Rattle.lit_order.specs.Internal.Constrained.{ComesBefore, MayNotStand, constrained_len}
use Rattle.lit_order.proofs.constraints.Constraints.next_event.Given as goal

abbrev pub decreases-next : goal.decreases-next
decreases-next l = l.left.bits

abbrev pub invariant-next : goal.invariant-next
invariant-next l = record {
  known : (e : ℕ) → HasEvent l.left e → e < constrained_len l.self;
  new : (e : ℕ) → HasEvent l.left e → ¬ HasEvent l.placed e;
  none : (e : ℕ) → e < constrained_len l.self → ¬ HasEvent l.left e → ¬ CanStandNext (ComesBefore l.self) (MayNotStand l.self) (HasEvent l.placed) e;
}

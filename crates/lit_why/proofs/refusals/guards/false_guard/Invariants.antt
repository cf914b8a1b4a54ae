use Rattle.std.proofs.Common.{ℕ, ◌<◌}
use Rattle.lit_why.specs.Refusal.{IsFalseAt}
use Rattle.lit_why.proofs.refusals.guards.false_guard.Given as goal

abbrev pub invariant-loop-agent : goal.invariant-loop-agent
invariant-loop-agent l = (a : ℕ) → a < l.agent → (p : ℕ) → IsFalseAt l.part a p → ⊥

use Rattle.std.proofs.Common.{◌≡◌, ◌+◌, ◌*◌, ◌++◌, drop, string_bytes, codes}
use Rattle.lit_syntax.specs.Litmus.{condition_of, conditions_view}
use Rattle.lit_read.proofs.ShownConditions.{left, tight, loose, weight, weights}
use Rattle.lit_read.proofs.showing.conditions.+conditions.Given as goal

abbrev pub invariant-put_all-loop-place : goal.invariant-put_all-loop-place
invariant-put_all-loop-place l = string_bytes l.out ++ left (tight l.test.agents) (codes " && ") l.place (conditions_view (drop l.place l.members)) ≡ string_bytes l.fn.out ++ left (tight l.test.agents) (codes " && ") 0 (conditions_view l.members)

abbrev pub invariant-put_any-loop-place : goal.invariant-put_any-loop-place
invariant-put_any-loop-place l = string_bytes l.out ++ left (loose l.test.agents) (codes " || ") l.place (conditions_view (drop l.place l.members)) ≡ string_bytes l.fn.out ++ left (loose l.test.agents) (codes " || ") 0 (conditions_view l.members)

abbrev pub decreases-put_operand : goal.decreases-put_operand
decreases-put_operand l = 2 * weight (condition_of l.cond.now)

abbrev pub decreases-put_conjunction : goal.decreases-put_conjunction
decreases-put_conjunction l = 2 * weight (condition_of l.cond.now) + 1

abbrev pub decreases-put_all : goal.decreases-put_all
decreases-put_all l = 2 * weights (conditions_view l.members.now)

abbrev pub decreases-put_any : goal.decreases-put_any
decreases-put_any l = 2 * weights (conditions_view l.members.now)

use Rattle.std.proofs.Common.{refl}
use Rattle.std.proofs.lemmas.Bool.{true≢false, false≢true}
use Rattle.lit_rel.specs.Between.{Forbids}
use Rattle.lit_rel.specs.Rows.{Holds}
use Rattle.lit_order.proofs.ForcingLemmas.{forced_from_closed, forced_of, forced_to_closed, IsTransitive-closed}
use Rattle.lit_order.proofs.forcing.forced_precedence.Goals as goal

pub force-requires-clause-transitive : goal.force-requires-clause-transitive
force-requires-clause-transitive c = IsTransitive-closed (Holds c.args.before.now) (Holds c.closed-forced.result.rows) c.closed-forced.ensures.pairs

pub returns-then-force-clause-cycle : goal.returns-then-force-clause-cycle
returns-then-force-clause-cycle c =
    let to = forced_to_closed (Holds c.args.before.now) (Holds c.closed-forced.result.rows) (Forbids c.args.between.now) c.closed-forced.ensures.pairs in (
      (λ h. absurd (true≢false h)),
      (λ cycle. absurd (c.if-force.ensures.cycle.1 (cycle.0, to cycle.0 cycle.0 cycle.1) refl)),
    )

pub returns-then-force-clause-pairs : goal.returns-then-force-clause-pairs
returns-then-force-clause-pairs c =
    forced_of (Holds c.args.before.now) (Holds c.closed-forced.result.rows) (Holds c.force.new.forced.rows) (Forbids c.args.between.now) c.closed-forced.ensures.pairs
    (c.if-force.ensures.pairs refl)

pub returns-else-force-clause-cycle : goal.returns-else-force-clause-cycle
returns-else-force-clause-cycle c =
    let from = forced_from_closed (Holds c.args.before.now) (Holds c.closed-forced.result.rows) (Forbids c.args.between.now) c.closed-forced.ensures.pairs in
    let cycle = c.if-force.ensures.cycle.0 false≢true in
    ((λ _. (cycle.0, from cycle.0 cycle.0 cycle.1)), (λ _. refl))

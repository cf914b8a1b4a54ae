use Rattle.std.proofs.Common.{refl}
use Rattle.lit_report.proofs.entry_cache.enter_for.Goals as goal

pub returns-clause-plan : goal.returns-clause-plan
returns-clause-plan c = rw c.reenter.ensures refl

pub returns-clause-low : goal.returns-clause-low
returns-clause-low c = rw c.reenter.ensures c.combination.ensures.low

pub returns-clause-high : goal.returns-clause-high
returns-clause-high c = rw c.reenter.ensures c.combination.ensures.high

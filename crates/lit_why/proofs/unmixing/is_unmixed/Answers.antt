use Rattle.std.proofs.Common.{None}
use Rattle.lit_why.proofs.UnmixingLemmas.{filled_is_unmixed}
use Rattle.lit_why.proofs.unmixing.is_unmixed.Goals as goal

pub returns-then-is_filled : goal.returns-then-is_filled
returns-then-is_filled c true =
    filled_is_unmixed c.args.combination.now (rw c.events-events.ensures.value at c.events-events.ensures.sound) c.args.sources.now c.requires c.args.read None
    (c.is_filled.ensures c.if-is_filled.true)

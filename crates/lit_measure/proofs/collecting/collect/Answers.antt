use Rattle.std.proofs.Common.{length, ap, arith, ◌∙◌}
use Rattle.lit_syntax.specs.Syntax.{Litmus}
use Rattle.lit_paths.specs.Choice.{choices_of}
use Rattle.lit_measure.proofs.collecting.collect.Goals as goal

pub take-requires-clause-known : goal.take-requires-clause-known
take-requires-clause-known c = omega (arith, c.min-end.ensures, c.total-total.ensures.value, ap (λ (t : Litmus). length (choices_of t)) c.loop-from.invariant.test)

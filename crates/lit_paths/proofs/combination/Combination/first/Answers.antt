use Rattle.std.proofs.Common.{ap, arith, length}
use Rattle.lit_paths.specs.Choice.{choices_of}
use Rattle.lit_paths.proofs.Totals.{entered_first}
use Rattle.lit_paths.proofs.combination.Combination.first.Goals as goal

pub returns-clause-known : goal.returns-clause-known
returns-clause-known c = omega (arith, entered_first _ c.self.invariant, ap (λ p. length (choices_of p.0)) c.self.view_is)

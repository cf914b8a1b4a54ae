use Rattle.std.proofs.Common.{subst}
use Rattle.lit_syntax.specs.Syntax.{Litmus, IsLitmus}
use Rattle.lit_paths.proofs.planning.Plan.test.Goals as goal

pub returns-clause-litmus : goal.returns-clause-litmus
returns-clause-litmus c = subst (λ (t : Litmus). IsLitmus t) c.self.view_is c.self.invariant.limits.litmus

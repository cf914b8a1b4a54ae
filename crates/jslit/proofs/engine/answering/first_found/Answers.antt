use Rattle.std.proofs.Common.{Option, ℕ, subst}
use Rattle.jslit.specs.Internal.Searching.{IsFirstChoice}
use Rattle.jslit.proofs.TestAnswers.{found_is}
use Rattle.jslit.proofs.engine.answering.first_found.Goals as goal

pub returns-clause-found : goal.returns-clause-found
returns-clause-found c =
    let first = subst (λ (o : Option ℕ). IsFirstChoice c.args.plan.now c.args._class o) c.in-Some.is c.requires.first in
    found_is c.choices_have_one_outcome.ensures c.args.plan.now c.args._class c.in-Some.choice c.in_ok-found.found c.test-test.ensures.litmus first c.in_ok-found.ensures

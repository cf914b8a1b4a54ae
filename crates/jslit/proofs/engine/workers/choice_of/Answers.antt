use Rattle.std.proofs.Common.{Option, subst}
use Rattle.lit_search.specs.declared.found.Example.{Example}
use Rattle.lit_share.specs.Quick.{IsQuickAnswer}
use Rattle.jslit.proofs.engine.workers.choice_of.Goals as goal

pub returns-in-Some : goal.returns-in-Some
returns-in-Some c = (subst (λ (o : Option Example). IsQuickAnswer c.args._plan.now c.args._class o) c.in-Some.is c.requires).0

pub returns-in-None : goal.returns-in-None
returns-in-None c = subst (λ (o : Option Example). IsQuickAnswer c.args._plan.now c.args._class o) c.in-None.is c.requires

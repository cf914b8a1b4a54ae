use Rattle.lit_why.proofs.VerdictLemmas.{gives_tries}
use Rattle.lit_why.proofs.laws.executions_try_their_class.Goals as goal

pub returns : goal.returns
returns c = gives_tries c.laws_below.ensures

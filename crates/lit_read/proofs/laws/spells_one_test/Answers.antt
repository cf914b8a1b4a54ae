use Rattle.lit_read.proofs.LawLemmas.{one_test}
use Rattle.lit_read.proofs.laws.spells_one_test.Goals as goal

pub returns : goal.returns
returns c = one_test

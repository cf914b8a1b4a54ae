use Rattle.lit_read.proofs.LawLemmas.{one_first}
use Rattle.lit_read.proofs.laws.has_one_first_fault.Goals as goal

pub returns : goal.returns
returns c = one_first

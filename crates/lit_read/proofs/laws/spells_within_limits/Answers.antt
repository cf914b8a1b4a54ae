use Rattle.lit_read.proofs.LawLemmas.{spelled_litmus}
use Rattle.lit_read.proofs.laws.spells_within_limits.Goals as goal

pub returns : goal.returns
returns c = spelled_litmus

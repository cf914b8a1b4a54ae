use Rattle.lit_read.proofs.CanonicalRun.{canonical_spells}
use Rattle.lit_read.proofs.laws.spells_its_test.Goals as goal

pub returns : goal.returns
returns c = canonical_spells

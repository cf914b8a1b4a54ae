use Rattle.lit_read.proofs.Cuttings.{cut_once}
use Rattle.lit_read.proofs.laws.cuts_one_way.Goals as goal

pub returns : goal.returns
returns c = λ line tokens others. cut_once tokens others line

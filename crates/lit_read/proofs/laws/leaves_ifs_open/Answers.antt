use Rattle.lit_read.proofs.OpenIfs.{left_open, open_told}
use Rattle.lit_read.proofs.laws.leaves_ifs_open.Goals as goal

pub returns-clause-left : goal.returns-clause-left
returns-clause-left c = left_open

pub returns-clause-told : goal.returns-clause-told
returns-clause-told c = open_told

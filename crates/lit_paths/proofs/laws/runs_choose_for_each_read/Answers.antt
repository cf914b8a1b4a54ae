use Rattle.lit_paths.proofs.Telling.{one_value_each}
use Rattle.lit_paths.proofs.laws.runs_choose_for_each_read.Goals as goal

pub returns : goal.returns
returns c = one_value_each

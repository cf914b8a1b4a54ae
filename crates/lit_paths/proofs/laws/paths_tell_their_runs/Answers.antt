use Rattle.lit_paths.proofs.Telling.{tells_runs}
use Rattle.lit_paths.proofs.laws.paths_tell_their_runs.Goals as goal

pub returns : goal.returns
returns c = tells_runs

use Rattle.lit_paths.proofs.RunPaths.{execution-is_choice}
use Rattle.lit_paths.proofs.laws.candidate_executions_have_choices.Goals as goal

pub returns : goal.returns
returns c = execution-is_choice

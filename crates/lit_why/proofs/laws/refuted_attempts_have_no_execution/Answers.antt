use Rattle.lit_why.proofs.VerdictLemmas.{refuted_choice}
use Rattle.lit_why.proofs.laws.refuted_attempts_have_no_execution.Goals as goal

pub returns : goal.returns
returns c t m n cases x refuted one valid chosen = refuted_choice c.laws_below.ensures t m n cases refuted one x valid chosen

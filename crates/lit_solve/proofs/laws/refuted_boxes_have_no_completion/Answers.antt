use Rattle.lit_solve.proofs.CompletionLemmas.{not_refuted}
use Rattle.lit_solve.proofs.laws.refuted_boxes_have_no_completion.Goals as goal

pub returns : goal.returns
returns c box x is_box refuted is = not_refuted box x is c.laws_below.ensures is_box refuted

use Rattle.lit_solve.proofs.CompletionLemmas.{not_prunable}
use Rattle.lit_solve.proofs.laws.completions_have_no_prunable_source.Goals as goal

pub returns : goal.returns
returns c box x k r b w is_box sound is is_read source prunable =
    not_prunable box x is c.laws_below.ensures is_box c.refused_bytes_make_guards_false.ensures sound k r b w is_read source prunable

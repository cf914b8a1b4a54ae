use Rattle.lit_valid.proofs.CompletionLemmas.{not_broken}
use Rattle.lit_valid.proofs.laws.broken_parts_have_no_completion.Goals as goal

pub returns : goal.returns
returns c part x entered broken is = not_broken part x is c.laws_below.ensures c.laws_below.ensures.grow c.laws_below.ensures.stay entered broken

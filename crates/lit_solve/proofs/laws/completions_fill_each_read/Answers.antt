use Rattle.lit_solve.proofs.FillLemmas.{filled_by, sources_lie}
use Rattle.lit_solve.proofs.laws.completions_fill_each_read.Goals as goal

pub returns : goal.returns
returns c box x r is_box is _ = (x.sources, sources_lie box x is, filled_by box x is c.laws_below.ensures is_box r)

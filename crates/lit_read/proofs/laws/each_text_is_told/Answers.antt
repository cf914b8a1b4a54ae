use Rattle.lit_read.proofs.LawLemmas.{text_told}
use Rattle.lit_read.proofs.laws.each_text_is_told.Goals as goal

pub returns : goal.returns
returns c = text_told

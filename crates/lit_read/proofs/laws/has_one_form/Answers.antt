use Rattle.lit_read.proofs.ReadLemmas.{form_once}
use Rattle.lit_read.proofs.laws.has_one_form.Goals as goal

pub returns : goal.returns
returns c = form_once

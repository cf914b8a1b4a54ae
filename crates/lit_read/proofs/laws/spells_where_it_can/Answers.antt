use Rattle.lit_read.proofs.CanonicalRun.{forms_spell}
use Rattle.lit_read.proofs.laws.spells_where_it_can.Goals as goal

pub returns : goal.returns
returns c = forms_spell

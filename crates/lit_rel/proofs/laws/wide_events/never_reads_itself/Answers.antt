use Rattle.lit_rel.proofs.WideLemmas.{candidate}
use Rattle.lit_rel.proofs.laws.wide_events.never_reads_itself.Goals as goal

pub returns : goal.returns
returns c events sources are r w (b, h) = (candidate events sources are r b w h).other

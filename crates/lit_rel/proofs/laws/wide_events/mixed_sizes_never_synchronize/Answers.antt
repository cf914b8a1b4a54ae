use Rattle.lit_rel.proofs.WideLemmas.{mixed_sizes_never_synchronize}
use Rattle.lit_rel.proofs.laws.wide_events.mixed_sizes_never_synchronize.Goals as goal

pub returns : goal.returns
returns c = mixed_sizes_never_synchronize

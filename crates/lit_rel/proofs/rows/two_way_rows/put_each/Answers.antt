use Rattle.lit_rel.proofs.SetLemmas.{split_less}
use Rattle.lit_rel.proofs.rows.two_way_rows.put_each.Goals as goal

pub loop-first-smaller : goal.loop-first-smaller
loop-first-smaller c = split_less c.loop-first.left c.in-Some.first c.in-Some.others c.in-Some.ensures

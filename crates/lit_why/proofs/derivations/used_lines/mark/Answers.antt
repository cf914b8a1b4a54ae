use Rattle.lit_why.proofs.UsedLineLemmas.{marked_set}
use Rattle.lit_why.proofs.derivations.used_lines.mark.Goals as goal

pub returns-clause-marked : goal.returns-clause-marked
returns-clause-marked c k = marked_set c.args.marks.now.items c.args.place k c.requires

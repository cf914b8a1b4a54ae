use Rattle.lit_read.proofs.LineLemmas.{lines_joined, lines_ended}
use Rattle.lit_read.proofs.laws.lines_are_joined.Goals as goal

pub returns-clause-some : goal.returns-clause-some
returns-clause-some c = λ text. (lines_joined text).0

pub returns-clause-whole : goal.returns-clause-whole
returns-clause-whole c = λ text. (lines_joined text).1

pub returns-clause-joined : goal.returns-clause-joined
returns-clause-joined c = λ text. (lines_joined text).2

pub returns-clause-ended : goal.returns-clause-ended
returns-clause-ended c = lines_ended

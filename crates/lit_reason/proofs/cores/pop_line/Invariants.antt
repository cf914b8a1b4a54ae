use Rattle.std.proofs.Common.{length}
use Rattle.lit_reason.proofs.LineLemmas.{IsCutOff}
use Rattle.lit_reason.proofs.cores.pop_line.Given as goal

abbrev pub invariant-bytes : goal.invariant-bytes
invariant-bytes l = IsCutOff l.fn.text.items l.text.items

abbrev pub decreases-bytes : goal.decreases-bytes
decreases-bytes l = length l.text.items

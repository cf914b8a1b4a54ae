use Rattle.std.proofs.Common.{◌-◌, ◌^◌}
use Rattle.lit_syntax.proofs.CountLemmas.{IsCounted}
use Rattle.lit_syntax.proofs.counts.+counting.Given as goal

abbrev pub invariant-statement_count-loop-stmt : goal.invariant-statement_count-loop-stmt
invariant-statement_count-loop-stmt l = IsCounted (2 ^ 64 - 1) l.body l.stmt-index l.count

use Rattle.std.proofs.Common.{not}
use Rattle.lit_report.specs.Internal.Judging.{AllAnswer}
use Rattle.lit_report.proofs.verdict.has_answer.Given as goal

abbrev pub invariant-loop-place : goal.invariant-loop-place
invariant-loop-place l = AllAnswer l.plan l.found l.place (not l.wanted)

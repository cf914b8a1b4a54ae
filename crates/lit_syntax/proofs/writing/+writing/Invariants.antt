use Rattle.std.proofs.Common.{◌≡◌, drop}
use Rattle.lit_syntax.specs.Syntax.{writes}
use Rattle.lit_syntax.specs.Litmus.{statements_of}
use Rattle.lit_syntax.proofs.writing.+writing.Given as goal

abbrev pub invariant-writes-loop-stmt : goal.invariant-writes-loop-stmt
invariant-writes-loop-stmt l = writes (statements_of (drop l.stmt-index l.body)) l.reg ≡ writes (statements_of l.body) l.reg

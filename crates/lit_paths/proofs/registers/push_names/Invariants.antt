use Rattle.std.proofs.Common.{◌≡◌, ◌+◌, ◌≤◌, ◌++◌, map, filter}
use Rattle.std.specs.List.{range_with_len}
use Rattle.arrayvec.specs.ArrayVec.{array_vec_len}
use Rattle.lit_syntax.specs.Syntax.{writes}
use Rattle.lit_syntax.specs.Litmus.{statements_of}
use Rattle.lit_paths.proofs.registers.push_names.Given as goal

abbrev pub invariant-loop-register : goal.invariant-loop-register
invariant-loop-register l = record {
  names : l.names.items ≡ l.initial.names.items ++ map (λ reg. (l.agent, reg)) (filter (writes (statements_of l.body)) (range_with_len 0 l.register));
  few : array_vec_len l.names ≤ array_vec_len l.initial.names + l.register;
}

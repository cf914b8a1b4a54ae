use Rattle.std.proofs.Common.{◌≡◌, ◌*◌, ◌≤◌, ◌++◌, drop}
use Rattle.arrayvec.specs.ArrayVec.{array_vec_len}
use Rattle.lit_syntax.specs.declared.limits.TheConstants.{REGISTERS}
use Rattle.lit_paths.specs.Outcome.{names_from, names_of}
use Rattle.lit_paths.proofs.registers.written_names.Given as goal

abbrev pub invariant-loop-agent : goal.invariant-loop-agent
invariant-loop-agent l = record {
  names : l.names.items ++ names_from l.agent (drop l.agent l.test.agents) ≡ names_of l.test;
  few : array_vec_len l.names ≤ l.agent * REGISTERS;
}

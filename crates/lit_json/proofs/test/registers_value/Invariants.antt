use Rattle.std.proofs.Common.{◌≡◌, map, filter}
use Rattle.std.specs.List.{range_with_len}
use Rattle.serde_json.specs.View.{view}
use Rattle.lit_syntax.specs.Syntax.{writes, agent_of}
use Rattle.lit_json.specs.StatementData.{count}
use Rattle.lit_json.proofs.test.registers_value.Given as goal

abbrev pub invariant-loop-reg : goal.invariant-loop-reg
invariant-loop-reg l = map view l.list.items ≡ map count (filter (writes (agent_of l.test l.agent).body) (range_with_len 0 l.reg))

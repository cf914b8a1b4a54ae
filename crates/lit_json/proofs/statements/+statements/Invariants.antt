use Rattle.std.proofs.Common.{◌≡◌, ◌++◌, drop, map}
use Rattle.serde_json.specs.View.{view}
use Rattle.lit_syntax.specs.Litmus.{statements_of}
use Rattle.lit_syntax.specs.StatementOrder.{statement_count}
use Rattle.lit_json.proofs.StatementLemmas.{told}
use Rattle.lit_json.proofs.statements.+statements.Given as goal

abbrev pub invariant-statements_value-loop-stmt : goal.invariant-statements_value-loop-stmt
invariant-statements_value-loop-stmt l = record {
  items : map view l.list.items ++ told l.lines.left.now (drop l.stmt-index l.body) ≡ told l.initial.lines.left.now l.body;
  left : drop (statement_count (statements_of (drop l.stmt-index l.body))) l.lines.left.now
      ≡ drop (statement_count (statements_of l.body)) l.initial.lines.left.now;
}

use Rattle.std.proofs.Common.{rules, arith, append-nil, ◌≡◌, ◌++◌, List, map, drop, ap, sym, ◌∙◌}
use Rattle.std.proofs.lemmas.List.{drop_all}
use Rattle.serde_json.specs.Data.{array, Items}
use Rattle.serde_json.specs.View.{view, items_of, items_view}
use Rattle.serde_json.specs.declared.value.Value as value
use Rattle.serde_json.specs.declared.value.Value.{the_lemmas}
use Rattle.lit_syntax.specs.declared.syntax.Stmt.{Stmt}
use Rattle.lit_syntax.specs.Syntax.{If}
use Rattle.lit_syntax.specs.Litmus.{statement_of, statements_of}
use Rattle.lit_syntax.specs.StatementOrder.{statement_count}
use Rattle.lit_syntax.proofs.TreeViews.{if_views}
use Rattle.lit_json.specs.StatementData.{statements_data}
use Rattle.lit_json.proofs.StatementLemmas.{told, told_all, parts_left, when_ok}
use Rattle.lit_json.proofs.statements.+statements.Goals as goal

pub statement_value-returns-in_ok-other-in-If-clause-value : goal.statement_value-returns-in_ok-other-in-If-clause-value
statement_value-returns-in_ok-other-in-If-clause-value t c =
    let is : statement_of c.args.stmt.now ≡ If c.in-If.reg c.in-If.equal c.in-If.value (statements_of c.in-If.body.items) (statements_of c.in-If.other.items) =
    ap statement_of c.in-If.is ∙ if_views c.in-If.reg c.in-If.equal c.in-If.value c.in-If.body c.in-If.other in
    rw is (search (rules, the_lemmas))

pub statement_value-returns-in_ok-other-in-If-clause-left : goal.statement_value-returns-in_ok-other-in-If-clause-left
statement_value-returns-in_ok-other-in-If-clause-left t c =
    let is : statement_of c.args.stmt.now ≡ If c.in-If.reg c.in-If.equal c.in-If.value (statements_of c.in-If.body.items) (statements_of c.in-If.other.items) =
    ap statement_of c.in-If.is ∙ if_views c.in-If.reg c.in-If.equal c.in-If.value c.in-If.body c.in-If.other in
    let body = statement_count (statements_of c.in-If.body.items) in
    let other = statement_count (statements_of c.in-If.other.items) in
    let lines = c.args.lines.now.left.now in
    let left : c.statements_value-in-If.new.lines.left.now ≡ drop other (drop body (drop 1 lines)) = search rules in
    rw is (when_ok c.if_value.result _ (left ∙ parts_left body other lines))

pub statements_value-returns-clause-value : goal.statements_value-returns-clause-value
statements_value-returns-clause-value t c =
    let body = c.args.body.now in
    let lines = c.args.lines.now.left.now in
    let items = c.loop-stmt.list.items in
    let end = drop_all c.loop-stmt.stmt-index body (omega (arith, c.loop-stmt-test.false)) in
    let all : items_view items ≡ statements_data lines (statements_of body) =
    ap items_of (sym (append-nil (map view items)) ∙ ap (λ (ss : List Stmt). map view items ++ told c.loop-stmt.lines.left.now ss) (sym end)
    ∙ c.loop-stmt.invariant.items) ∙ told_all lines body in
    let list : view (value.Array c.loop-stmt.list) ≡ array (items_view items) = search (rules, the_lemmas) in
    list ∙ ap (λ (ds : Items). array ds) all

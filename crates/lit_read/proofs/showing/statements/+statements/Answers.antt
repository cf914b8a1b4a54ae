use Rattle.std.proofs.Common.{◌≡◌, ◌++◌, List, [], ◌∷◌, ℕ, string_bytes, codes, sym, ap, ◌∙◌, append_assoc}
use Rattle.std.proofs.lemmas.Result.{on_ok_weaker}
use Rattle.lit_syntax.specs.declared.syntax.Stmt.{Stmt}
use Rattle.lit_syntax.specs.Forms.{IfLine}
use Rattle.lit_syntax.specs.Litmus.{statement_of, statements_of}
use Rattle.lit_read.specs.Canonical.{statement_forms, statements_forms, else_forms}
use Rattle.lit_read.specs.CanonicalText.{forms_text}
use Rattle.lit_read.proofs.ShownForms.{statement_put, else_shown, if_shown, last_pushed, four_written}
use Rattle.lit_read.proofs.showing.statements.+statements.Goals as goal

pub put_else-returns : goal.put_else-returns
put_else-returns t c =
    let out = string_bytes c.args.out.now in
    let text = forms_text (statements_forms (statements_of c.args.other.now)) in
    rw (else_shown c.args.other.now (sym c.is_empty.ensures ∙ c.if-is_empty.false))
    (on_ok_weaker c.put_statements.result (λ (e : string_bytes c.put_statements.new.out ≡ string_bytes c.push_str.new.self ++ text). e ∙ ap (λ (bs : List ℕ). bs ++ text) c.in_ok-push_str.ensures.bytes ∙ append_assoc out (codes "} else {\n") text) c.put_statements.ensures)

pub put_statements-loop-stmt-preserved : goal.put_statements-loop-stmt-preserved
put_statements-loop-stmt-preserved t c =
    statement_put c.args.body.now c.loop-stmt.stmt-index c.stmt-item.result (string_bytes c.loop-stmt.out) (string_bytes c.put_statement.new.out) _ c.loop-stmt-test.true c.stmt-item.is c.in_ok-put_statement.ensures c.loop-stmt.invariant

pub put_statement-returns-in_ok-put_else-in-If : goal.put_statement-returns-in_ok-put_else-in-If
put_statement-returns-in_ok-put_else-in-If t c =
    let line = forms_text (IfLine c.in-If.reg c.in-If.equal c.in-If.value ∷ []) in
    let body : string_bytes c.put_statements.new.out ≡ string_bytes c.put_if.new.out ++ forms_text (statements_forms (statements_of c.in-If.body.items)) =
    c.in_ok-put_statements-in-If.ensures ∙ ap (λ (l : List Stmt). string_bytes c.put_if.new.out ++ forms_text (statements_forms (statements_of l))) c.deref.ensures.value in
    let other : string_bytes c.put_else.new.out ≡ string_bytes c.put_statements.new.out ++ forms_text (else_forms (statements_of c.in-If.other.items)) =
    c.in_ok-put_else-in-If.ensures ∙ ap (λ (l : List Stmt). string_bytes c.put_statements.new.out ++ forms_text (else_forms (statements_of l))) c.deref-in-If.ensures.value in
    last_pushed c.push_str.result (string_bytes c.push_str.new.self) (string_bytes c.put_else.new.out ++ codes "}\n") (string_bytes c.put_else.new.out) _ c.push_str.ensures.bytes
    (four_written (string_bytes c.args.out.now) _ _ _ line _ _ (codes "}\n") c.in_ok-put_if-in-If.ensures body other
    ∙ sym (ap (λ (s : Stmt). string_bytes c.args.out.now ++ forms_text (statement_forms (statement_of s))) c.in-If.is ∙ ap (λ (bs : List ℕ). string_bytes c.args.out.now ++ bs) (if_shown c.in-If.reg c.in-If.equal c.in-If.value c.in-If.body c.in-If.other)))

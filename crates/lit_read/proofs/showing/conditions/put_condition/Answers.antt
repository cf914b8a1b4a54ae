use Rattle.std.proofs.Common.{◌≡◌, ◌++◌, ℕ, List, string_bytes, sym, ap, ◌∙◌}
use Rattle.std.proofs.lemmas.Result.{on_ok_weaker}
use Rattle.lit_syntax.specs.declared.syntax.Cond.{Cond}
use Rattle.lit_syntax.specs.Syntax.{Condition}
use Rattle.lit_syntax.specs.Litmus.{condition_of, conditions_view}
use Rattle.lit_syntax.specs.Parentheses.{any_written, written_of}
use Rattle.lit_read.specs.CanonicalText.{written_text}
use Rattle.lit_syntax.proofs.TreeViews.{any_views}
use Rattle.lit_read.proofs.ShownConditions.{any_on}
use Rattle.lit_read.proofs.showing.conditions.put_condition.Goals as goal

pub put_any-requires-clause-some : goal.put_any-requires-clause-some
put_any-requires-clause-some c = rw c.deref.ensures.value ((any_on c.args.test.now c.in-Any.members c.args.cond.now c.in-Any.is c.requires).0)

pub put_any-requires-clause-on : goal.put_any-requires-clause-on
put_any-requires-clause-on c = rw c.deref.ensures.value ((any_on c.args.test.now c.in-Any.members c.args.cond.now c.in-Any.is c.requires).1)

pub returns-in-Any : goal.returns-in-Any
returns-in-Any c =
    let text : Condition → List ℕ = λ x. written_text (written_of c.args.test.now.agents x) in
    let is : text (condition_of c.args.cond.now) ≡ written_text (any_written c.args.test.now.agents (conditions_view c.deref.result.now)) =
    ap text (ap condition_of c.in-Any.is ∙ any_views c.in-Any.members) ∙ ap (λ (l : List Cond). written_text (any_written c.args.test.now.agents (conditions_view l))) (sym c.deref.ensures.value) in
    on_ok_weaker c.put_any.result (λ (e : string_bytes c.put_any.new.out ≡ string_bytes c.args.out.now ++ written_text (any_written c.args.test.now.agents (conditions_view c.deref.result.now))). e ∙ ap (λ (bs : List ℕ). string_bytes c.args.out.now ++ bs) (sym is)) c.put_any.ensures

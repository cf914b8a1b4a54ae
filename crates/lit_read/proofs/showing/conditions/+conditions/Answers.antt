use Rattle.std.proofs.Common.{arith, ◌≡◌, ◌++◌, ℕ, List, string_bytes, codes, sym, ap, ◌∙◌}
use Rattle.std.proofs.lemmas.Result.{on_ok_weaker}
use Rattle.lit_syntax.specs.declared.syntax.Cond.{Cond}
use Rattle.lit_syntax.specs.Syntax.{Condition}
use Rattle.lit_syntax.specs.Litmus.{condition_of, conditions_view}
use Rattle.lit_syntax.specs.Parentheses.{operand_of, conjunction_of, all_written, any_written}
use Rattle.lit_read.specs.CanonicalText.{operand_text, conjunction_text, written_text}
use Rattle.lit_syntax.proofs.TreeViews.{all_views, any_views}
use Rattle.lit_read.proofs.ShownForms.{last_pushed, three_written}
use Rattle.lit_read.proofs.ShownConditions.{member_put, members_put, tight, loose, all_shown, any_shown, member_on, all_on, any_on, member_lighter, all_lighter, any_lighter}
use Rattle.lit_read.proofs.showing.conditions.+conditions.Goals as goal

pub put_all-loop-place-preserved : goal.put_all-loop-place-preserved
put_all-loop-place-preserved t c =
    member_put (tight c.args.test.now.agents) (codes " && ") c.args.members.now c.loop-place.place c.index-members-place.result (string_bytes c.loop-place.out) _ (string_bytes c.put_operand.new.out) _ c.loop-place-test.true c.index-members-place.is
    c.in_ok-put_between.ensures c.in_ok-put_operand.ensures c.loop-place.invariant

pub put_all-returns : goal.put_all-returns
put_all-returns t c =
    members_put (tight c.args.test.now.agents) (codes " && ") c.args.members.now c.loop-place.place (string_bytes c.loop-place.out) _ c.loop-place-test.false c.loop-place.invariant
    ∙ ap (λ (bs : List ℕ). string_bytes c.args.out.now ++ bs) (all_shown c.args.test.now.agents c.args.members.now c.requires.some)

pub put_any-loop-place-preserved : goal.put_any-loop-place-preserved
put_any-loop-place-preserved t c =
    member_put (loose c.args.test.now.agents) (codes " || ") c.args.members.now c.loop-place.place c.index-members-place.result (string_bytes c.loop-place.out) _ (string_bytes c.put_conjunction.new.out) _ c.loop-place-test.true c.index-members-place.is
    c.in_ok-put_between.ensures c.in_ok-put_conjunction.ensures c.loop-place.invariant

pub put_any-returns : goal.put_any-returns
put_any-returns t c =
    members_put (loose c.args.test.now.agents) (codes " || ") c.args.members.now c.loop-place.place (string_bytes c.loop-place.out) _ c.loop-place-test.false c.loop-place.invariant
    ∙ ap (λ (bs : List ℕ). string_bytes c.args.out.now ++ bs) (any_shown c.args.test.now.agents c.args.members.now c.requires.some)

pub put_operand-returns-in_ok-put_all-in-All : goal.put_operand-returns-in_ok-put_all-in-All
put_operand-returns-in_ok-put_all-in-All t c =
    let text : Condition → List ℕ = λ x. operand_text (operand_of c.args.test.now.agents x) in
    let members = λ (l : List Cond). conjunction_text (all_written c.args.test.now.agents (conditions_view l)) in
    last_pushed c.push_str-in-All-2.result (string_bytes c.push_str-in-All-2.new.self) (string_bytes c.put_all.new.out ++ codes ")") (string_bytes c.put_all.new.out) _ c.push_str-in-All-2.ensures.bytes
    (three_written (string_bytes c.args.out.now) _ _ (codes "(") (members c.deref-in-All.result.now) (codes ")") c.in_ok-push_str-in-All.ensures.bytes c.in_ok-put_all-in-All.ensures
    ∙ ap (λ (l : List Cond). string_bytes c.args.out.now ++ (codes "(" ++ (members l ++ codes ")"))) c.deref-in-All.ensures.value
    ∙ sym (ap (λ (x : Cond). string_bytes c.args.out.now ++ text (condition_of x)) c.in-All.is ∙ ap (λ (x : Condition). string_bytes c.args.out.now ++ text x) (all_views c.in-All.members)))

pub put_operand-returns-in_ok-put_any-in-Any : goal.put_operand-returns-in_ok-put_any-in-Any
put_operand-returns-in_ok-put_any-in-Any t c =
    let text : Condition → List ℕ = λ x. operand_text (operand_of c.args.test.now.agents x) in
    let members = λ (l : List Cond). written_text (any_written c.args.test.now.agents (conditions_view l)) in
    last_pushed c.push_str-in-Any-2.result (string_bytes c.push_str-in-Any-2.new.self) (string_bytes c.put_any.new.out ++ codes ")") (string_bytes c.put_any.new.out) _ c.push_str-in-Any-2.ensures.bytes
    (three_written (string_bytes c.args.out.now) _ _ (codes "(") (members c.deref-in-Any.result.now) (codes ")") c.in_ok-push_str-in-Any.ensures.bytes c.in_ok-put_any-in-Any.ensures
    ∙ ap (λ (l : List Cond). string_bytes c.args.out.now ++ (codes "(" ++ (members l ++ codes ")"))) c.deref-in-Any.ensures.value
    ∙ sym (ap (λ (x : Cond). string_bytes c.args.out.now ++ text (condition_of x)) c.in-Any.is ∙ ap (λ (x : Condition). string_bytes c.args.out.now ++ text x) (any_views c.in-Any.members)))

pub put_all-put_operand-requires : goal.put_all-put_operand-requires
put_all-put_operand-requires t c =
    let on = member_on c.args.test.now c.args.members.now c.loop-place.place c.index-members-place.result c.loop-place-test.true c.index-members-place.is c.requires.on in
    let lighter = member_lighter c.args.members.now c.loop-place.place c.index-members-place.result c.loop-place-test.true c.index-members-place.is in
    (omega arith, on)

pub put_any-put_conjunction-requires : goal.put_any-put_conjunction-requires
put_any-put_conjunction-requires t c =
    let on = member_on c.args.test.now c.args.members.now c.loop-place.place c.index-members-place.result c.loop-place-test.true c.index-members-place.is c.requires.on in
    let lighter = member_lighter c.args.members.now c.loop-place.place c.index-members-place.result c.loop-place-test.true c.index-members-place.is in
    (omega arith, on)

pub put_conjunction-put_all-requires : goal.put_conjunction-put_all-requires
put_conjunction-put_all-requires t c =
    let members = all_on c.args.test.now c.in-All.members c.args.cond.now c.in-All.is c.requires in
    let lighter = all_lighter c.in-All.members c.args.cond.now c.in-All.is in
    (rw c.deref.ensures.value (omega arith), (rw c.deref.ensures.value members.0, rw c.deref.ensures.value members.1))

pub put_operand-put_all-requires : goal.put_operand-put_all-requires
put_operand-put_all-requires t c =
    let members = all_on c.args.test.now c.in-All.members c.args.cond.now c.in-All.is c.requires in
    let lighter = all_lighter c.in-All.members c.args.cond.now c.in-All.is in
    (rw c.deref-in-All.ensures.value (omega arith), (rw c.deref-in-All.ensures.value members.0, rw c.deref-in-All.ensures.value members.1))

pub put_operand-put_any-requires : goal.put_operand-put_any-requires
put_operand-put_any-requires t c =
    let members = any_on c.args.test.now c.in-Any.members c.args.cond.now c.in-Any.is c.requires in
    let lighter = any_lighter c.in-Any.members c.args.cond.now c.in-Any.is in
    (rw c.deref-in-Any.ensures.value (omega arith), (rw c.deref-in-Any.ensures.value members.0, rw c.deref-in-Any.ensures.value members.1))

pub put_conjunction-returns-in-All : goal.put_conjunction-returns-in-All
put_conjunction-returns-in-All t c =
    let text : Condition → List ℕ = λ x. conjunction_text (conjunction_of c.args.test.now.agents x) in
    let is : text (condition_of c.args.cond.now) ≡ conjunction_text (all_written c.args.test.now.agents (conditions_view c.deref.result.now)) =
    ap text (ap condition_of c.in-All.is ∙ all_views c.in-All.members) ∙ ap (λ (l : List Cond). conjunction_text (all_written c.args.test.now.agents (conditions_view l))) (sym c.deref.ensures.value) in
    on_ok_weaker c.put_all.result (λ (e : string_bytes c.put_all.new.out ≡ string_bytes c.args.out.now ++ conjunction_text (all_written c.args.test.now.agents (conditions_view c.deref.result.now))). e ∙ ap (λ (bs : List ℕ). string_bytes c.args.out.now ++ bs) (sym is)) c.put_all.ensures

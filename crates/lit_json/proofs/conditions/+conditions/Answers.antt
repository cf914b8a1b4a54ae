use Rattle.std.proofs.Common.{rules, arith, ◌≡◌, List, map, ap, ◌∙◌}
use Rattle.std.proofs.lemmas.List.{take_all}
use Rattle.serde_json.specs.Data.{array, Items}
use Rattle.serde_json.specs.View.{view, items_of, items_view}
use Rattle.serde_json.specs.declared.value.Value as value
use Rattle.serde_json.specs.declared.value.Value.{the_lemmas}
use Rattle.lit_syntax.specs.Syntax.{Any, All}
use Rattle.lit_syntax.specs.Litmus.{condition_of, conditions_view}
use Rattle.lit_syntax.proofs.TreeViews.{any_views, all_views}
use Rattle.lit_syntax.specs.declared.syntax.Cond.{Cond}
use Rattle.lit_json.specs.Told.{conditions_data}
use Rattle.lit_json.proofs.ConditionLemmas.{member_data, members_told}
use Rattle.lit_json.proofs.conditions.+conditions.Goals as goal

pub condition_value-returns-in-Ok-json-2 : goal.condition_value-returns-in-Ok-json-2
condition_value-returns-in-Ok-json-2 t c =
    let is : condition_of c.args.cond.now ≡ Any (conditions_view c.in-Any.members.items) = ap condition_of c.in-Any.is ∙ any_views c.in-Any.members in
    rw is (search (rules, the_lemmas))

pub condition_value-returns-in-Ok-json-4 : goal.condition_value-returns-in-Ok-json-4
condition_value-returns-in-Ok-json-4 t c =
    let is : condition_of c.args.cond.now ≡ All (conditions_view c.in-All.members.items) = ap condition_of c.in-All.is ∙ all_views c.in-All.members in
    rw is (search (rules, the_lemmas))

pub members_value-returns : goal.members_value-returns
members_value-returns t c =
    let members = c.args.members.now in
    let all = take_all c.loop-member.member-index members (omega (arith, c.loop-member-test.false)) in
    let told : items_view c.loop-member.list.items ≡ conditions_data c.args.test.now (conditions_view members) =
    ap items_of (c.loop-member.invariant ∙ ap (λ (cs : List Cond). map (member_data c.args.test.now) cs) all)
    ∙ members_told c.args.test.now members in
    let list : view (value.Array c.loop-member.list) ≡ array (items_view c.loop-member.list.items) = search (rules, the_lemmas) in
    list ∙ ap (λ (items : Items). array items) told

use Rattle.std.proofs.Common.{◌∙◌, ap, Ok, sym}
use Rattle.std.proofs.lemmas.Result.{err_from_is_err_and}
use Rattle.lit_syntax.specs.Syntax.{Condition}
use Rattle.lit_syntax.specs.Litmus.{agents_view}
use Rattle.lit_read.specs.Internal.Built.{begun, build}
use Rattle.lit_read.specs.Internal.Views.{groups_view, mark_views}
use Rattle.lit_read.proofs.GroupLemmas.{build_fails, build_goes_on, build_ends}
use Rattle.lit_read.proofs.draft.conditions.condition.Goals as goal

pub returns-in_err-groups : goal.returns-in_err-groups
returns-in_err-groups c =
    let p = err_from_is_err_and c.from_residual.result c.from_residual.ensures.1 in
    rw (p.1, p.2)
    (build_fails (agents_view c.args.agents.now.entries) (groups_view c.loop-mark.groups) c.args.marks.now c.loop-mark.mark-index _ (build (agents_view c.args.agents.now.entries) begun (mark_views c.args.marks.now)) c.loop-mark-test.true
    c.loop-mark.invariant c.in_err-groups.field-0.0 c.in_err-groups.ensures)

pub loop-mark-preserved : goal.loop-mark-preserved
loop-mark-preserved c =
    build_goes_on (agents_view c.args.agents.now.entries) (groups_view c.loop-mark.groups) c.args.marks.now c.loop-mark.mark-index _ (build (agents_view c.args.agents.now.entries) begun (mark_views c.args.marks.now)) c.loop-mark-test.true
    c.loop-mark.invariant (groups_view c.in_ok-groups.groups) c.in_ok-groups.ensures

pub returns : goal.returns
returns c =
    build_ends (agents_view c.args.agents.now.entries) (groups_view c.loop-mark.groups) c.args.marks.now c.loop-mark.mark-index (build (agents_view c.args.agents.now.entries) begun (mark_views c.args.marks.now)) c.loop-mark-test.false c.loop-mark.invariant
    ∙ ap (λ (x : Condition). Ok x) (sym c.in_ok-asked.ensures)

use Rattle.std.proofs.Common.{arith}
use Rattle.lit_read.specs.Internal.Views.{mark_view}
use Rattle.lit_read.proofs.MarkLemmas.{behind_left, value_behind}
use Rattle.lit_read.proofs.forms.marks.mark_at.Goals as goal

pub overflow_sub-result : goal.overflow_sub-result
overflow_sub-result c =
    (behind_left c.args.tokens.now c.split_at.result.1.now c.args.at (mark_view c.in_ok-mark.mark) c.in_ok-mark.rest.now c.split_at.ensures.back c.requires c.in_ok-mark.ensures).within

pub returns-clause-value : goal.returns-clause-value
returns-clause-value c =
    value_behind c.args.tokens.now c.split_at.result.1.now c.args.at (mark_view c.in_ok-mark.mark) c.in_ok-mark.rest.now c.split_at.ensures.back c.requires c.in_ok-mark.ensures

pub returns-clause-later : goal.returns-clause-later
returns-clause-later c =
    let place = behind_left c.args.tokens.now c.split_at.result.1.now c.args.at (mark_view c.in_ok-mark.mark) c.in_ok-mark.rest.now c.split_at.ensures.back c.requires c.in_ok-mark.ensures in
    (place.later, omega arith)

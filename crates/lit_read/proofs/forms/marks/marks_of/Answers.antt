use Rattle.std.proofs.Common.{◌∷◌, [], drop, sym, arith}
use Rattle.std.proofs.lemmas.List.{map-append}
use Rattle.lit_read.specs.Internal.Views.{token_views, mark_view, mark_views}
use Rattle.lit_read.proofs.MarkLemmas.{marking_stuck, marking_goes_on, marking_ends, marking_fails, nothing_left, all_left, follow_few}
use Rattle.lit_read.proofs.forms.marks.marks_of.Goals as goal
use Rattle.lit_read.proofs.forms.marks.marks_of.Goals.{else-at-tokens-via-then-at-tokens+then-behind+else-opened-eq0, else-at-tokens-via-then-at-tokens+else-behind, else-at-tokens-via-else-at-tokens}

pub returns-in_default-follow-clause-absent : goal.returns-in_default-follow-clause-absent
returns-in_default-follow-clause-absent c =
    marking_stuck (token_views c.args.tokens.now) (token_views (drop c.loop-mark.at c.args.tokens.now)) (token_views (drop c.in-Some.next c.args.tokens.now)) (mark_views c.loop-mark.marks.items) c.loop-mark.behind c.loop-mark.opened
    (mark_view c.in-Some.mark) (sym c.in-Some.ensures.value) (sym c.in_default-follow.ensures) c.loop-mark.invariant.so_far

pub loop-mark-preserved : goal.loop-mark-preserved
loop-mark-preserved c = record {
  within = c.in-Some.ensures.later.1;
  few = omega (arith, c.in-Some.ensures.later.0, follow_few c.loop-mark.behind c.loop-mark.opened (mark_view c.in-Some.mark) c.in-Some-follow.is_behind c.in-Some-follow.are_opened c.in-Some-follow.ensures);
  so_far = rw (c.in_ok-push.ensures.items, map-append mark_view c.loop-mark.marks.items (c.in-Some.mark ∷ []))
      (marking_goes_on (token_views c.args.tokens.now) (token_views (drop c.loop-mark.at c.args.tokens.now)) (token_views (drop c.in-Some.next c.args.tokens.now)) (mark_views c.loop-mark.marks.items) c.loop-mark.behind c.loop-mark.opened
      (mark_view c.in-Some.mark) c.in-Some-follow.is_behind c.in-Some-follow.are_opened (sym c.in-Some.ensures.value) (sym c.in-Some-follow.ensures) c.loop-mark.invariant.so_far);
}

pub returns-then-opened-eq0-clause-found : goal.returns-then-opened-eq0-clause-found
returns-then-opened-eq0-clause-found c =
    marking_ends (token_views c.args.tokens.now) (token_views (drop c.loop-mark.at c.args.tokens.now)) (mark_views c.loop-mark.marks.items) c.loop-mark.behind c.loop-mark.opened (nothing_left c.args.tokens.now c.loop-mark.at c.if-at-tokens.true)
    c.if-behind.true c.if-opened-eq0.true c.loop-mark.invariant.so_far

pub returns-clause-absent : goal.returns-clause-absent
returns-clause-absent c =
    marking_fails (token_views c.args.tokens.now) (token_views (drop c.loop-mark.at c.args.tokens.now)) (mark_views c.loop-mark.marks.items) c.loop-mark.behind c.loop-mark.opened (sym c.in_default.ensures.value)
    (λ over is_behind is_closed. elim c.else-at-tokens.branch [
      | else-at-tokens-via-then-at-tokens+then-behind+else-opened-eq0 w ↦ w.if-opened-eq0.false is_closed
      | else-at-tokens-via-then-at-tokens+else-behind w ↦ absurd cc
      | else-at-tokens-via-else-at-tokens w ↦ w.if-at-tokens.false (all_left c.args.tokens.now c.loop-mark.at c.loop-mark.invariant.within over)
    ]) c.loop-mark.invariant.so_far

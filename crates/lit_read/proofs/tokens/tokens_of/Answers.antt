use Rattle.std.proofs.Common.{◌≡◌, true, false, sym, ◌∙◌, Some, ◌∷◌, []}
use Rattle.std.proofs.lemmas.List.{map-append}
use Rattle.lit_read.specs.Internal.FirstToken.{token_front, is_comment, after_blanks}
use Rattle.lit_read.specs.Internal.Views.{token_views, token_view}
use Rattle.lit_read.proofs.Cuttings.{cutting_ends, cutting_fails, cutting_goes_on, cut_shorter}
use Rattle.lit_read.proofs.tokens.tokens_of.Goals as goal

pub returns-then-is_over-clause-found : goal.returns-then-is_over-clause-found
returns-then-is_over-clause-found c =
    let over : is_comment (after_blanks c.line.rest.now) ≡ true = rw (← c.after_blanks-bytes.ensures) (sym c.is_over.ensures ∙ c.if-is_over.true) in
    cutting_ends c.args.line.now c.line.rest.now (token_views c.line.tokens.items) over c.line.invariant

pub returns-in_default-clause-absent : goal.returns-in_default-clause-absent
returns-in_default-clause-absent c =
    let left : is_comment (after_blanks c.line.rest.now) ≡ false = rw (← c.after_blanks-bytes.ensures) (sym c.is_over.ensures ∙ c.if-is_over.false) in
    cutting_fails c.args.line.now c.line.rest.now (token_views c.line.tokens.items) left (rw (← c.after_blanks-bytes.ensures) (sym (c.in_default.ensures))) c.line.invariant

pub line-smaller : goal.line-smaller
line-smaller c = cut_shorter c.line.rest.now (token_view c.in-Some.token) c.in-Some.after.now (rw (← c.after_blanks-bytes.ensures) (sym (c.in-Some.ensures)))

pub line-preserved : goal.line-preserved
line-preserved c =
    let front : token_front (after_blanks c.line.rest.now) ≡ Some (token_view c.in-Some.token, c.in-Some.after.now) = rw (← c.after_blanks-bytes.ensures) (sym (c.in-Some.ensures)) in
    let step = cutting_goes_on c.args.line.now c.line.rest.now c.in-Some.after.now (token_views c.line.tokens.items) (token_view c.in-Some.token) front c.line.invariant in
    rw (c.in_ok-push.ensures.items, map-append token_view c.line.tokens.items (c.in-Some.token ∷ [])) step

use Rattle.std.proofs.Common.{sym, subst, List}
use Rattle.lit_read.specs.declared.tokens.Token as code
use Rattle.lit_syntax.specs.Tokens.{CutsInto}
use Rattle.lit_read.specs.Internal.Marks.{SpellsForm}
use Rattle.lit_read.specs.Internal.Views.{token_views, Shows}
use Rattle.lit_read.proofs.ReadLemmas.{no_form}
use Rattle.lit_read.proofs.StatementForms.{begins_as, begins_nothing}
use Rattle.lit_read.proofs.line_numbers.begins_statement.Goals as goal

pub returns-in-Some-found : goal.returns-in-Some-found
returns-in-Some-found c =
    let cut : CutsInto c.args.line.now (token_views c.in-Some.tokens.items) = (rw c.in-Some.is at c.in_ok-tokens.ensures.found) in
    let same = subst (λ (ts : List code.Token). CutsInto c.args.line.now (token_views ts)) (sym c.deref.ensures.value) cut in
    let spelled : SpellsForm (token_views c.deref.result.now) (Shows c.in-Some-found.said) = (rw c.in-Some-found.is at c.in_ok-found.ensures.found) in
    begins_as c.args.line.now (token_views c.deref.result.now) spelled.0 c.is_first_line.result same spelled.2 (c.is_first_line.ensures spelled.0 spelled.1)

pub returns : goal.returns
returns c =
    let cut : CutsInto c.args.line.now (token_views c.in-Some.tokens.items) = (rw c.in-Some.is at c.in_ok-tokens.ensures.found) in
    let same = subst (λ (ts : List code.Token). CutsInto c.args.line.now (token_views ts)) (sym c.deref.ensures.value) cut in
    begins_nothing c.args.line.now (no_form c.args.line.now (token_views c.deref.result.now) same (rw c.in-None.is at c.in_ok-found.ensures.absent))

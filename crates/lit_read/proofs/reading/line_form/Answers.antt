use Rattle.std.proofs.Common.{inr, refl, sym, subst, ◌∙◌, List}
use Rattle.lit_read.specs.declared.tokens.Token as code
use Rattle.lit_syntax.specs.Tokens.{CutsInto}
use Rattle.lit_read.specs.Internal.Views.{token_views}
use Rattle.lit_read.proofs.ReadLemmas.{no_form}
use Rattle.lit_read.proofs.reading.line_form.Goals as goal

pub returns-clause-err : goal.returns-clause-err
returns-clause-err c =
    let cut : CutsInto c.args.line.now (token_views c.in-Some.tokens.items) = (rw c.in-Some.is at c.in_ok-tokens.ensures.found) in
    let same = subst (λ (ts : List code.Token). CutsInto c.args.line.now (token_views ts)) (sym c.deref.ensures.value) cut in
    inr (inr (refl, sym c.are_allowed.ensures ∙ c.if-not-are_allowed.false, no_form c.args.line.now (token_views c.deref.result.now) same (rw c.in-None.is at c.in_ok-found.ensures.absent)))

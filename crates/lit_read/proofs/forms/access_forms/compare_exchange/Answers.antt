use Rattle.std.proofs.Common.{rules}
use Rattle.lit_read.specs.Internal.FormOfTokens.{compare_exchange}
use Rattle.lit_read.specs.Internal.Views.{token_views}
use Rattle.lit_read.proofs.RowLemmas.{ended_view}
use Rattle.lit_read.proofs.forms.access_forms.compare_exchange.Goals as goal

pub returns-in_err-view : goal.returns-in_err-view
unfolding compare_exchange
returns-in_err-view c = rw (← c.in_ok-reg.ensures, ← c.in_err-view.ensures) (search rules)

pub returns-in_err-expected : goal.returns-in_err-expected
unfolding compare_exchange
returns-in_err-expected c = rw (← c.in_ok-reg.ensures, ← c.in_ok-view.ensures, ← c.in_err-expected.ensures) (search rules)

pub returns-in_err-value : goal.returns-in_err-value
unfolding compare_exchange
returns-in_err-value c = rw (← c.in_ok-reg.ensures, ← c.in_ok-view.ensures, ← c.in_ok-expected.ensures, ← c.in_err-value.ensures) (search rules)

pub returns-in_err-rest : goal.returns-in_err-rest
unfolding compare_exchange
returns-in_err-rest c = rw (← c.in_ok-reg.ensures, ← c.in_ok-view.ensures, ← c.in_ok-expected.ensures, ← c.in_ok-value.ensures, ← c.in_err-rest.ensures) (search rules)

pub returns : goal.returns
unfolding compare_exchange
returns c = rw (c.ended.ensures, ← c.in_ok-reg.ensures, ← c.in_ok-view.ensures, ← c.in_ok-expected.ensures, ← c.in_ok-value.ensures, ← c.in_ok-rest.ensures) (ended_view (token_views c.in_ok-rest.rest.now) _)

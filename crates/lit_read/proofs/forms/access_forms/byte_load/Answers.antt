use Rattle.std.proofs.Common.{rules}
use Rattle.lit_read.specs.Internal.FormOfTokens.{byte_load}
use Rattle.lit_read.specs.Internal.Views.{token_views}
use Rattle.lit_read.proofs.RowLemmas.{ended_view}
use Rattle.lit_read.proofs.forms.access_forms.byte_load.Goals as goal

pub returns-in_err-rest : goal.returns-in_err-rest
unfolding byte_load
returns-in_err-rest c = rw (← c.in_ok-reg.ensures, ← c.in_ok-index.ensures, ← c.in_err-rest.ensures) (search rules)

pub returns : goal.returns
unfolding byte_load
returns c = rw (c.ended.ensures, ← c.in_ok-reg.ensures, ← c.in_ok-index.ensures, ← c.in_ok-rest.ensures) (ended_view (token_views c.in_ok-rest.rest.now) _)

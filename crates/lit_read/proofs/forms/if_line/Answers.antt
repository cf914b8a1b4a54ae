use Rattle.lit_read.specs.Internal.FormOfTokens.{if_line, front}
use Rattle.lit_read.specs.Internal.Views.{token_views}
use Rattle.lit_read.proofs.RowLemmas.{ended_view}
use Rattle.lit_read.proofs.forms.if_line.Goals as goal

pub returns : goal.returns
unfolding if_line front
returns c = rw (c.ended.ensures, ← c.in_ok-rest.ensures, ← c.in_ok-reg.ensures, ← c.in_ok-equal.ensures, ← c.in_ok-value.ensures, ← c.in_ok-rest-2.ensures) (ended_view (token_views c.in_ok-rest-2.rest.now) _)

use Rattle.std.proofs.Common.{length}
use Rattle.lit_read.specs.Internal.Views.{token_views}
use Rattle.lit_read.proofs.Cuttings.{Cutting}
use Rattle.lit_read.proofs.tokens.tokens_of.Given as goal

abbrev pub invariant-line : goal.invariant-line
invariant-line l = Cutting l.line l.rest (token_views l.tokens.items)

abbrev pub decreases-line : goal.decreases-line
decreases-line l = length l.rest

use Rattle.std.proofs.Common.{◌≡◌, ◌<◌, ◌^◌, take}
use Rattle.lit_syntax.specs.Tokens.{digits_value}
use Rattle.lit_read.proofs.tokens.number_of.Given as goal

abbrev pub invariant-loop-digit : goal.invariant-loop-digit
invariant-loop-digit l = record { value : l.number ≡ digits_value (take l.digit-index l.digits); bound : l.number < 10 ^ l.digit-index }

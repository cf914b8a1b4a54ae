use Rattle.std.specs.Char.{is_ascii_digit}
use Rattle.lit_read.proofs.TokenLemmas.{run_passes}
use Rattle.lit_read.proofs.tokens.number_at.Goals as goal

pub number_of-requires-clause-each : goal.number_of-requires-clause-each
number_of-requires-clause-each c = rw (c.split_at.ensures.front, c.digits_len-len.ensures.value) (run_passes is_ascii_digit c.args.bytes.now)

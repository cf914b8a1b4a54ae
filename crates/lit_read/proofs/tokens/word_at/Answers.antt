use Rattle.lit_read.proofs.TokenLemmas.{word_utf8}
use Rattle.lit_read.proofs.tokens.word_at.Goals as goal

pub unreachable-requires : goal.unreachable-requires
unreachable-requires c = c.in-Err.ensures.cases.0 (rw (c.split_at.ensures.front, c.word_len-len.ensures.value) (word_utf8 c.args.bytes.now))

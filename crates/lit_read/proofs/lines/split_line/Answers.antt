use Rattle.std.proofs.Common.{◌≤◌, length, drop}
use Rattle.lit_read.proofs.LineLemmas.{lines_split_long}
use Rattle.lit_read.proofs.lines.split_line.Goals as goal

pub returns-in-len1-up-clause-value : goal.returns-in-len1-up-clause-value
returns-in-len1-up-clause-value c =
    let long : 2 ≤ length (drop c.line_len.result c.args.text.now) = rw (← c.split_at.ensures.back) c.in-len1-up.len_at_least in
    rw (c.split_at.ensures.front, c.split_at.ensures.back) (lines_split_long c.args.text.now c.line_len.result c.line_len.ensures.value long)

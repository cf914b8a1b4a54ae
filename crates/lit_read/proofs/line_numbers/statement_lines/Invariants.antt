use Rattle.std.proofs.Common.{length, ◌+◌, unwrap_or}
use Rattle.std.specs.Option.{option_map}
use Rattle.lit_read.proofs.ListedLines.{IsListing}
use Rattle.lit_read.proofs.line_numbers.statement_lines.Given as goal

abbrev pub invariant-loop-rest : goal.invariant-loop-rest
invariant-loop-rest l = IsListing l.text l.number l.lines.items (option_map (λ x. x.now) l.rest)

abbrev pub decreases-loop-rest : goal.decreases-loop-rest
decreases-loop-rest l = unwrap_or (option_map (λ x. length x.now + 1) l.rest) 0

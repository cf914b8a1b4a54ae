use Rattle.std.proofs.Common.{◌∙◌, codes, ap, arith}
use Rattle.lit_read.specs.FaultNames.{kind_text}
use Rattle.lit_json.proofs.FaultLemmas.{below_ten, teen}
use Rattle.lit_json.proofs.faults.read_parts.Goals as goal

pub returns-in-TooLong-clause-named : goal.returns-in-TooLong-clause-named
returns-in-TooLong-clause-named c = ap kind_text c.in-TooLong.is ∙ below_ten 1 (omega arith) (codes "too_long")

pub returns-in-NotAscii-clause-named : goal.returns-in-NotAscii-clause-named
returns-in-NotAscii-clause-named c = ap kind_text c.in-NotAscii.is ∙ below_ten 2 (omega arith) (codes "not_ascii")

pub returns-in-Syntax-clause-named : goal.returns-in-Syntax-clause-named
returns-in-Syntax-clause-named c = ap kind_text c.in-Syntax.is ∙ below_ten 3 (omega arith) (codes "syntax")

pub returns-in-Misplaced-clause-named : goal.returns-in-Misplaced-clause-named
returns-in-Misplaced-clause-named c = ap kind_text c.in-Misplaced.is ∙ below_ten 4 (omega arith) (codes "misplaced")

pub returns-in-BlockSize-clause-named : goal.returns-in-BlockSize-clause-named
returns-in-BlockSize-clause-named c = ap kind_text c.in-BlockSize.is ∙ below_ten 5 (omega arith) (codes "block_size")

pub returns-in-TooManyAgents-clause-named : goal.returns-in-TooManyAgents-clause-named
returns-in-TooManyAgents-clause-named c = ap kind_text c.in-TooManyAgents.is ∙ below_ten 6 (omega arith) (codes "too_many_agents")

pub returns-in-DuplicateAgent-clause-named : goal.returns-in-DuplicateAgent-clause-named
returns-in-DuplicateAgent-clause-named c = ap kind_text c.in-DuplicateAgent.is ∙ below_ten 7 (omega arith) (codes "duplicate_agent")

pub returns-in-LiteralRange-clause-named : goal.returns-in-LiteralRange-clause-named
returns-in-LiteralRange-clause-named c = ap kind_text c.in-LiteralRange.is ∙ below_ten 8 (omega arith) (codes "literal_range")

pub returns-in-OutOfBlock-clause-named : goal.returns-in-OutOfBlock-clause-named
returns-in-OutOfBlock-clause-named c = ap kind_text c.in-OutOfBlock.is ∙ below_ten 9 (omega arith) (codes "out_of_block")

pub returns-in-UnknownName-clause-named : goal.returns-in-UnknownName-clause-named
returns-in-UnknownName-clause-named c = ap kind_text c.in-UnknownName.is ∙ teen 0 (omega arith) (codes "unknown_name")

pub returns-in-TooDeep-clause-named : goal.returns-in-TooDeep-clause-named
returns-in-TooDeep-clause-named c = ap kind_text c.in-TooDeep.is ∙ teen 1 (omega arith) (codes "too_deep")

pub returns-in-MissingPart-clause-named : goal.returns-in-MissingPart-clause-named
returns-in-MissingPart-clause-named c = ap kind_text c.in-MissingPart.is ∙ teen 2 (omega arith) (codes "missing_part")

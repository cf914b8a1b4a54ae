-- What is wrong with a text, as it is shown (this project's own).
use Rattle.std.specs.Prelude.{ℕ, List, codes}
use Rattle.lit_read.specs.declared.fault.ReadKind.{ReadKind}
use Rattle.lit_read.specs.declared.fault.ReadKind.TheVariants as kinds

-- what is wrong with a text, by its number and its name
abbrev pub kind_text : ReadKind → List ℕ
kind_text kinds.TooLong = codes "1 too_long"
kind_text kinds.NotAscii = codes "2 not_ascii"
kind_text kinds.Syntax = codes "3 syntax"
kind_text kinds.Misplaced = codes "4 misplaced"
kind_text kinds.BlockSize = codes "5 block_size"
kind_text kinds.TooManyAgents = codes "6 too_many_agents"
kind_text kinds.DuplicateAgent = codes "7 duplicate_agent"
kind_text kinds.LiteralRange = codes "8 literal_range"
kind_text kinds.OutOfBlock = codes "9 out_of_block"
kind_text kinds.UnknownName = codes "10 unknown_name"
kind_text kinds.TooDeep = codes "11 too_deep"
kind_text kinds.MissingPart = codes "12 missing_part"
kind_text kinds.OutOfMemory = codes "out_of_memory"

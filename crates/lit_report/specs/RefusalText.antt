-- The line that says why a text or its test is refused, as bytes (this project's own).
use Rattle.std.specs.Prelude.{ℕ, List, ◌++◌, codes}
use Rattle.std.specs.Fmt.{decimal}
use Rattle.lit_read.specs.declared.fault.ReadFault.{ReadFault}
use Rattle.lit_read.specs.FaultNames.{kind_text}
use Rattle.lit_paths.specs.declared.fault.PlanFault.{PlanFault}
use Rattle.lit_paths.specs.FaultNames.{limit_text}
use Rattle.lit_report.specs.EntryText.{line}

-- of a text that spells no test
abbrev pub read_fault_line : ReadFault → List ℕ
read_fault_line fault = line (codes "refused " ++ kind_text fault.kind ++ codes " line " ++ decimal fault.line)

-- of a test that exceeds a limit
abbrev pub plan_fault_line : PlanFault → List ℕ
plan_fault_line fault = line (codes "refused " ++ limit_text fault)

-- of a schedule that names no agent of the test
abbrev pub unknown_agent_line : List ℕ
unknown_agent_line = line (codes "refused 20 unknown_agent")

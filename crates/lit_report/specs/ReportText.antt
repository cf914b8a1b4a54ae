-- The text of a report, and of the outcome of a schedule, as bytes (this project's own).
use Rattle.std.specs.Prelude.{ℕ, Bool, true, false, Option, None, Some, List, ◌++◌, length, codes}
use Rattle.std.specs.List.{flat_map}
use Rattle.std.specs.Fmt.{decimal}
use Rattle.lit_syntax.specs.Syntax.{Litmus}
use Rattle.lit_paths.specs.Outcome.{meets, names_of}
use Rattle.lit_search.specs.Report.{Entry, Report}
use Rattle.lit_report.specs.EntryText.{entry_text, line, registers_text}
use Rattle.lit_report.specs.declared.verdict.Verdict.{Verdict}
use Rattle.lit_report.specs.declared.verdict.Verdict.TheVariants.{Always, Sometimes, Never}

-- the word of a verdict
abbrev pub verdict_text : Verdict → List ℕ
verdict_text Always = codes "always"
verdict_text Sometimes = codes "sometimes"
verdict_text Never = codes "never"

-- the word of an answer
abbrev pub yes_or_no : Bool → List ℕ
yes_or_no true = codes "yes"
yes_or_no false = codes "no"

-- the whole report
unfoldable pub report_text : Litmus → Report → Verdict → List ℕ
report_text t report verdict =
    line (codes "test " ++ t.name)
    ++ flat_map (entry_text t) report.entries
    ++ line (codes "outcomes " ++ decimal (length report.entries))
    ++ line (codes "verdict " ++ verdict_text verdict)
    ++ line (codes "data race " ++ yes_or_no report.race)

-- in a quick report what is said of a class of outcomes, by its word: its first outcome and example, or that there is none
abbrev pub class_text : Litmus → List ℕ → Option Entry → List ℕ
class_text t word None = line (word ++ codes " none")
class_text t word (Some entry) = word ++ codes " " ++ entry_text t entry

-- the quick report
unfoldable pub quick_text : Litmus → (met unmet : Option Entry) → Verdict → List ℕ
quick_text t met unmet verdict =
    line (codes "test " ++ t.name)
    ++ class_text t (codes "met") met
    ++ class_text t (codes "unmet") unmet
    ++ line (codes "verdict " ++ verdict_text verdict)

-- the outcome of a schedule, and whether it meets the condition
unfoldable pub interleaving_text : Litmus → List ℕ → List ℕ
interleaving_text t outcome =
    line (codes "test " ++ t.name)
    ++ line (codes "interleaving" ++ registers_text t (names_of t) outcome)
    ++ line (codes "meets " ++ yes_or_no (meets t outcome))

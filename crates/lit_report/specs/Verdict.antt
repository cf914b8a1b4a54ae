-- The verdict on a test (this project's own).
use Rattle.std.specs.Prelude.{◌≡◌, ◌<◌, Bool, true, false, All, length}
use Rattle.lit_syntax.specs.Syntax.{Litmus}
use Rattle.lit_paths.specs.Outcome.{meets}
use Rattle.lit_search.specs.Report.{Report}
use Rattle.lit_report.specs.declared.verdict.Verdict.{Verdict}
use Rattle.lit_report.specs.declared.verdict.Verdict.TheVariants.{Always, Sometimes, Never}

-- all outcomes of a report meet the condition, or none does
abbrev pub AllMeet : Litmus → Report → Bool → Type 0
AllMeet t report met = All (λ entry. meets t entry.outcome ≡ met) report.entries

-- what is true of the outcomes of a report
abbrev pub IsVerdict : Litmus → Report → Verdict → Type 0
IsVerdict t report Never = AllMeet t report false
IsVerdict t report Always = (0 < length report.entries) × AllMeet t report true
IsVerdict t report Sometimes = ¬ AllMeet t report false × ¬ AllMeet t report true

-- the verdict, from whether some outcome meets the condition and whether some does not
abbrev pub verdict_of : (met unmet : Bool) → Verdict
verdict_of false unmet = Never
verdict_of true false = Always
verdict_of true true = Sometimes

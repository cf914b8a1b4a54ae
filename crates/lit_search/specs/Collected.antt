-- A collector as contracts see it (this project's own).
use Rattle.std.specs.Prelude.{ℕ, ◌<◌, Bool, IsTrue, List}
use Rattle.std.proofs.Common.{refl}
use Rattle.std.specs.Coded.{Coded, code_by, coded×, coded_ℕ, coded_bool, coded_list}
use Rattle.lit_syntax.specs.Syntax.{Litmus}
use Rattle.lit_syntax.specs.SyntaxCodes.{coded_litmus}
use Rattle.lit_search.specs.Report.{Entry, Report, IsReport}

-- the test, the number behind the last choice taken, and the report so far
pub record Collected : Type 0 where
  pub test : Litmus
  pub end : ℕ
  pub report : Report

-- codes, by which a proof tells two of them apart
abbrev coded_entry : Coded Entry
coded_entry =
    code_by (List ℕ × (ℕ × List ℕ)) (coded× (coded_list coded_ℕ) (coded× coded_ℕ (coded_list coded_ℕ)))
    (λ e. (e.outcome, (e.choice, e.order)))
    (λ x. record { outcome = x.0; choice = x.1.0; order = x.1.1 }) (λ _. refl)

abbrev pub coded_collected : Coded Collected
coded_collected =
    code_by (Litmus × (ℕ × (List Entry × Bool))) (coded× coded_litmus (coded× coded_ℕ (coded× (coded_list coded_entry) coded_bool)))
    (λ c. (c.test, (c.end, (c.report.entries, c.report.race))))
    (λ x. record { test = x.0; end = x.1.0; report = record { entries = x.1.1.0; race = x.1.1.1 } }) (λ _. refl)

-- The choices with these numbers were taken, and no others.
pub record HasTaken (taken : ℕ → Bool) (c : Collected) : Type 0 where
  pub below : (n : ℕ) → IsTrue (taken n) → n < c.end
  pub reported : IsReport c.test taken c.report

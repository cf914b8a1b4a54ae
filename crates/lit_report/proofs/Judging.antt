-- The verdict, outcome by outcome.
use Rattle.std.proofs.Common.{◌≡◌, ℕ, ◌<◌, Bool, true, false, length, get_or, refl, sym, ap, ◌∙◌, arith}
use Rattle.std.proofs.lemmas.Bool.{false≢true}
use Rattle.std.proofs.lemmas.List.{get_or_default}
use Rattle.lit_syntax.specs.Syntax.{Litmus}
use Rattle.lit_paths.specs.Outcome.{meets}
use Rattle.lit_search.specs.Report.{Entry, Report}
use Rattle.lit_report.specs.declared.verdict.Verdict.TheVariants.{Always, Sometimes, Never}
use Rattle.lit_report.specs.Verdict.{IsVerdict, verdict_of}
use Rattle.lit_report.specs.Internal.Judging.{AllAnswer, SomeAnswers}

-- what two marks say of the outcomes: whether some meets the condition, and whether some does not
pub record IsJudged (t : Litmus) (report : Report) (met unmet : Bool) : Type 0 where
  pub none_met : met ≡ false → AllAnswer t report (length report.entries) false
  pub some_met : met ≡ true → SomeAnswers t report (length report.entries) true
  pub none_unmet : unmet ≡ false → AllAnswer t report (length report.entries) true
  pub some_unmet : unmet ≡ true → SomeAnswers t report (length report.entries) false

module _ (t : Litmus) (report : Report) where
  -- of every outcome, whatever stands past the last
  all_of : (b : Bool) → AllAnswer t report (length report.entries) b → (k : ℕ) (d : Entry) → k < length report.entries → meets t (get_or report.entries k d).outcome ≡ b
  all_of b h k d lt = ap (λ (e : Entry). meets t e.outcome) (get_or_default report.entries k d _ lt) ∙ h k lt

  pub judged_never : (unmet : Bool) → IsJudged t report false unmet → IsVerdict t report Never
  judged_never unmet h = all_of false (h.none_met refl)

  pub judged_always : IsJudged t report true false → IsVerdict t report Always
  judged_always h = let s = h.some_met refl in (omega (arith, s.1), all_of true (h.none_unmet refl))

  pub judged_sometimes : IsJudged t report true true → IsVerdict t report Sometimes
  judged_sometimes h =
      let s = h.some_met refl in
      let u = h.some_unmet refl in
      (λ none. false≢true (sym (none s.0 _ s.1) ∙ s.2), λ all. false≢true (sym u.2 ∙ all u.0 _ u.1))

  pub judged_by : (met unmet : Bool) → IsJudged t report met unmet → IsVerdict t report (verdict_of met unmet)
  judged_by false unmet h = judged_never unmet h
  judged_by true false h = judged_always h
  judged_by true true h = judged_sometimes h

-- A report on all choices of a test has the outcome of each valid execution.
use Rattle.std.proofs.Common.{◌≡◌, ℕ, ◌<◌, List, length, map, Some, refl, ap, ◌∙◌, arith}
use Rattle.std.specs.Prelude.{slice_get, Contains, IsTrue}
use Rattle.std.proofs.lemmas.Bool.Decides.{nat_tests}
use Rattle.std.proofs.lemmas.List.{length-map, get_or-map}
use Rattle.std.proofs.lemmas.Option.{slice_get_within, get_or_from_slice_get}
use Rattle.lit_syntax.specs.Syntax.{Litmus}
use Rattle.lit_paths.specs.Choice.{choices_of}
use Rattle.lit_paths.specs.Members.{IsChoice, ListsChoices}
use Rattle.lit_search.specs.Report.{Entry, Report, IsReport, in_range}
use Rattle.lit_paths.specs.Execution.{Execution, execution_choice, execution_outcome, IsCandidateExecution}
use Rattle.jslit.specs.Answer.{IsComplete}

-- what an entry has is among the outcomes
listed : (entries : List Entry) (i : ℕ) (entry : Entry) (outcome : List ℕ) → slice_get entries i ≡ Some entry → entry.outcome ≡ outcome
    → Contains (map (λ e. e.outcome) entries) outcome
listed entries i entry outcome at is =
    let lt : i < length entries = slice_get_within entries i entry at in (
      i,
      omega (arith, lt, length-map entries (λ (e : Entry). e.outcome)),
      get_or-map (λ (e : Entry). e.outcome) entries i entry outcome lt ∙ ap (λ (e : Entry). e.outcome) (get_or_from_slice_get entries i entry entry at) ∙ is,
    )

below_total : (total n : ℕ) → n < total → IsTrue (in_range 0 total n)
below_total total n lt = grind (arith, nat_tests)

pub complete : (t : Litmus) (report : Report) → ((x : Execution) → IsCandidateExecution t x → IsChoice t (execution_choice x)) → ListsChoices t
    → IsReport t (in_range 0 (length (choices_of t))) report → IsComplete t report
complete t report chosen lists is x valid =
    let number = lists.all (execution_choice x) (chosen x valid.candidate) in
    let lt : number.0 < length (choices_of t) = slice_get_within (choices_of t) number.0 (execution_choice x) number.1 in
    let found = is.listed.whole number.0 (execution_outcome t x) (below_total (length (choices_of t)) number.0 lt) (record { execution = x; valid = valid; chosen = number.1; result = refl }) in
    listed report.entries found.0 found.1 (execution_outcome t x) found.2 found.3

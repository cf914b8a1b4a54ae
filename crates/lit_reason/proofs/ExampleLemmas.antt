-- The entry of a choice's report, and the text that a writer to memory has.
use Rattle.std.proofs.Common.{◌≡◌, ℕ, ◌+◌, ◌<◌, List, [], ◌++◌, Option, Some, false, length, refl, sym, ap, subst, ◌∙◌, arith}
use Rattle.std.specs.Prelude.{IsTrue}
use Rattle.std.proofs.lemmas.Bool.Decides.{nat_tests}
use Rattle.std.proofs.lemmas.Option.{slice_get-get_or, slice_get_within}
use Rattle.std.specs.Io.KnownBytes.{Appends}
use Rattle.std.proofs.KnownBytes.{Appends-trans}
use Rattle.lit_syntax.specs.Syntax.{Litmus}
use Rattle.lit_valid.specs.Gives.{Gives, HasLeastOrder}
use Rattle.lit_search.specs.Report.{IsReport, Report, entry_at, in_range}
use Rattle.lit_report.specs.Writing.{HasPut, IsFinished, Writing}
use Rattle.lit_reason.specs.Example.{HasNoOutcome, IsEntryOf}

-- a number in a range of one
pub only_one : (n m : ℕ) → IsTrue (in_range n (n + 1) m) → m ≡ n
only_one n m is = grind (arith, nat_tests)

pub itself : (n : ℕ) → IsTrue (in_range n (n + 1) n)
itself n = grind (arith, nat_tests)

module _ (t : Litmus) (n : ℕ) (report : Report) (is : IsReport t (in_range n (n + 1)) report) where
  pub its_entry : 0 < length report.entries → IsEntryOf t n (entry_at report 0)
  its_entry some =
      let entry = is.listed.each 0 (entry_at report 0) (slice_get-get_or report.entries 0 _ some) in
      let chosen = only_one n (entry_at report 0).choice entry.among in
      record {
        chosen = chosen;
        gives = subst (λ (m : ℕ). Gives t m (entry_at report 0).outcome) chosen entry.gives;
        least_order = subst (λ (m : ℕ). HasLeastOrder t m (entry_at report 0).order) chosen entry.least_order;
      }

  -- an entry with its outcome and order is its entry
  pub told : 0 < length report.entries → (outcome order : List ℕ) → outcome ≡ (entry_at report 0).outcome → order ≡ (entry_at report 0).order
      → IsEntryOf t n (record { outcome = outcome; choice = n; order = order })
  told some outcome order same same_too =
      let entry = its_entry some in
      record {
        chosen = refl;
        gives = subst (λ (o : List ℕ). Gives t n o) (sym same) entry.gives;
        least_order = subst (λ (o : List ℕ). HasLeastOrder t n o) (sym same_too) entry.least_order;
      }

  pub no_entry : length report.entries ≡ 0 → HasNoOutcome t n
  no_entry none outcome gives =
      let found = is.listed.whole n outcome (itself n) gives in
      omega (arith, none, slice_get_within report.entries found.0 found.1 found.2)

-- where all that was put into an empty buffer has been written to empty memory, this has the text
pub written : (old new : Writing) (text items : List ℕ) (failures : ℕ) → old.known ≡ Some [] → old.waiting ≡ [] → old.failed ≡ false
    → HasPut old new text → IsFinished new (Some items) failures → items ≡ text
written old new text items failures empty nothing going put finished =
    let on = put.going going finished.going in
    let appended = Appends-trans old.known new.known (Some items) on.front new.waiting on.appended finished.appended in
    let all : items ≡ on.front ++ new.waiting = subst (λ (k : Option (List ℕ)). Appends k (Some items) (on.front ++ new.waiting)) empty appended in
    all ∙ on.parts ∙ ap (λ (w : List ℕ). w ++ text) nothing

use Rattle.std.proofs.Common.{◌≡◌, ℕ, refl, ap}
use Rattle.lit_syntax.specs.Syntax.{Litmus}
use Rattle.lit_search.specs.Report.{Entry, entry_at}
use Rattle.lit_report.proofs.Putting.{HasPut-then, HasPut-is}
use Rattle.lit_report.proofs.ReportLines.{class_none, class_some}
use Rattle.lit_report.proofs.report_writer.put_class.Goals as goal

pub returns-in_default : goal.returns-in_default
returns-in_default g c = HasPut-is _ _ _ _ (HasPut-then _ _ _ _ _ c.put.ensures c.put-in_default.ensures) (class_none c.args.plan.now c.args.word.now c.args.first.now c.in_default.not-Some)

pub put_entry-requires-clause-plan : goal.put_entry-requires-clause-plan
put_entry-requires-clause-plan g c = ap (λ (e : Litmus × ℕ). e.0) c.enter-combination.ensures

pub put_entry-requires-clause-cache : goal.put_entry-requires-clause-cache
put_entry-requires-clause-cache g c = c.new.ensures _ _

pub returns : goal.returns
returns g c =
    let entry : Entry = record { outcome = c.outcome.result.now; choice = c.example-example.result.now.choice; order = c.as_slice.result.now } in
    let is : entry ≡ entry_at c.in-Some.found 0 = rw (c.outcome.ensures, c.example-example.ensures.choice, c.as_slice.ensures.value, c.example-example.ensures.order) refl in
    HasPut-is _ _ _ _ (HasPut-then _ _ _ _ _ (HasPut-then _ _ _ _ _ c.put.ensures c.put_byte.ensures) c.put_entry.ensures.text) (class_some c.args.plan.now c.args.word.now c.args.first.now c.in-Some.found entry c.in-Some.is is)

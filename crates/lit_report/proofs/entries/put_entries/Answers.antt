use Rattle.std.proofs.Common.{◌≡◌, ℕ, ◌<◌, length, refl, ap, arith}
use Rattle.lit_syntax.specs.Syntax.{Litmus}
use Rattle.lit_paths.specs.Choice.{choices_of}
use Rattle.lit_search.specs.Report.{Entry, entry_at}
use Rattle.lit_report.proofs.ReportEntries.{entry_in, among_all}
use Rattle.lit_report.proofs.PageTexts.{page_more, page_none}
use Rattle.lit_report.proofs.Putting.{puts_end, puts_more, puts_start}
use Rattle.lit_report.proofs.entries.put_entries.Goals as goal

pub loop-place-init : goal.loop-place-init
loop-place-init g c = record { entered = ap (λ (e : Litmus × ℕ). e.0) c.enter-combination.ensures; example = c.example_at-choice.ensures; cache = c.new-cache.ensures _ _; so_far = puts_start _ _ }

pub put_entry-requires-clause-known : goal.put_entry-requires-clause-known
put_entry-requires-clause-known g c =
    let lt : c.loop-place.place < length c.args.found.now.entries = omega (arith, c.loop-place-test.true, c.requires.known) in
    rw ((c.loop-place.invariant.example lt).0) (among_all (length (choices_of c.args.plan.now)) _ (entry_in c.args.plan.now _ c.args.found.now c.loop-place.place c.requires.report lt).among)

pub put_entry-requires-clause-gives : goal.put_entry-requires-clause-gives
put_entry-requires-clause-gives g c =
    let lt : c.loop-place.place < length c.args.found.now.entries = omega (arith, c.loop-place-test.true, c.requires.known) in
    rw (c.outcome.ensures, (c.loop-place.invariant.example lt).0) (entry_in c.args.plan.now _ c.args.found.now c.loop-place.place c.requires.report lt).gives

pub put_entry-requires-clause-least_order : goal.put_entry-requires-clause-least_order
put_entry-requires-clause-least_order g c =
    let lt : c.loop-place.place < length c.args.found.now.entries = omega (arith, c.loop-place-test.true, c.requires.known) in
    rw ((c.loop-place.invariant.example lt).0, (c.loop-place.invariant.example lt).1) (entry_in c.args.plan.now _ c.args.found.now c.loop-place.place c.requires.report lt).least_order

pub put_entry-requires-clause-cache : goal.put_entry-requires-clause-cache
put_entry-requires-clause-cache g c = c.loop-place.invariant.cache

pub loop-place-preserved : goal.loop-place-preserved
loop-place-preserved g c =
    let lt : c.loop-place.place < length c.args.found.now.entries = omega (arith, c.loop-place-test.true, c.requires.known) in
    let entry : Entry = record { outcome = c.outcome.result.now; choice = c.loop-place.choice; order = c.loop-place.order.now } in
    let is : entry ≡ entry_at c.args.found.now c.loop-place.place = rw (c.outcome.ensures, (c.loop-place.invariant.example lt).0, (c.loop-place.invariant.example lt).1) refl in
    record {
      entered = c.put_entry.ensures.plan;
      example = c.example_at-next_choice.ensures;
      cache = c.put_entry.ensures.cache;
      so_far = puts_more _ _ _ _ _ _ _ c.loop-place.invariant.so_far c.put_entry.ensures.text (page_more c.args.plan.now c.args.found.now c.loop-place.place c.args.end entry c.loop-place-test.true lt is);
    }

pub returns : goal.returns
returns g c =
    puts_end _ _ _ _ c.loop-place.invariant.so_far
    (page_none c.args.plan.now c.args.found.now c.loop-place.place c.args.end (omega (arith, c.loop-place-test.false)))

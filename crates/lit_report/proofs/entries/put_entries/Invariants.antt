use Rattle.std.proofs.Common.{◌≡◌, ◌<◌, length}
use Rattle.lit_search.specs.Report.{entry_at}
use Rattle.lit_report.specs.Internal.Pages.{page_text}
use Rattle.lit_report.specs.EntryCache.{IsCacheOf}
use Rattle.lit_report.specs.Writing.{writing_of}
use Rattle.lit_report.proofs.Putting.{PutsOf}
use Rattle.lit_report.proofs.entries.put_entries.Given as goal

abbrev pub invariant-loop-place : goal.invariant-loop-place
invariant-loop-place g l = record {
  entered : l.combination.0 ≡ l.plan;
  example : l.place < length l.found.entries → (l.choice ≡ (entry_at l.found l.place).choice) × (l.order ≡ (entry_at l.found l.place).order);
  cache : IsCacheOf l.plan l.combination.1 l.cache;
  so_far : PutsOf (writing_of g.W.Write.contents l.fn.output l.fn.buffer) (writing_of g.W.Write.contents l.output l.buffer) (page_text l.plan l.found l.place l.fn.end) (page_text l.plan l.found l.fn.first l.fn.end);
}

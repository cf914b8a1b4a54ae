use Rattle.std.proofs.Common.{◌<◌, ◌≤◌, length}
use Rattle.lit_report.specs.Internal.Pages.{page_text}
use Rattle.lit_report.specs.Writing.{HasPut, writing_of}
use Rattle.lit_report.proofs.pages.put_printed.Given as goal

abbrev pub invariant-loop-index : goal.invariant-loop-index
invariant-loop-index g l = record {
  rising : l.fn.first ≤ l.place;
  more : 0 < l.index → l.fn.first < l.place;
  known : l.place ≤ length l.found.entries;
  so_far : HasPut (writing_of g.W.Write.contents l.fn.output l.fn.buffer) (writing_of g.W.Write.contents l.output l.buffer) (page_text l.plan l.found l.fn.first l.place);
}

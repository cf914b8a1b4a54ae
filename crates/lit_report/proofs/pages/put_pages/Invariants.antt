use Rattle.std.proofs.Common.{◌-◌, ◌≤◌, length}
use Rattle.lit_report.specs.Internal.Pages.{page_text}
use Rattle.lit_report.specs.Writing.{HasPut, writing_of}
use Rattle.lit_report.proofs.pages.put_pages.Given as goal

abbrev pub invariant-loop-place : goal.invariant-loop-place
invariant-loop-place g l = record {
  known : l.place ≤ length l.found.entries;
  so_far : HasPut (writing_of g.W.Write.contents l.fn.output l.fn.buffer) (writing_of g.W.Write.contents l.output l.buffer) (page_text l.plan l.found 0 l.place);
}

abbrev pub decreases-loop-place : goal.decreases-loop-place
decreases-loop-place g l = length l.found.entries - l.place

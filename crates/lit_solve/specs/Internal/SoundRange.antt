-- The invariant of `Boxes`.
use Rattle.std.specs.Prelude.{◌<◌, length}
use Rattle.lit_paths.specs.ByteReads.{byte_reads}
use Rattle.lit_paths.specs.Choice.{combinations_of}
use Rattle.lit_paths.specs.Plan.{AreEventsIn}
use Rattle.lit_solve.specs.declared.boxes.Boxes.TheInside.{Inside}
use Rattle.lit_solve.specs.Boxes.{BoxesModel, boxes_events}
use Rattle.lit_solve.specs.Internal.Cut.{AreEndSources, IsRangeCut, end_sources}

-- the combination is one of the test, the ends have sources of it, and the counts of boxes are those of the cut
pub record IsSoundRange (boxes : BoxesModel) : Type 0 where
  pub known : boxes.combination < length (combinations_of boxes.test)
  pub sound : AreEventsIn boxes.test.bytes (boxes_events boxes)
  pub low_sources : AreEndSources (boxes_events boxes) boxes.low
  pub high_sources : AreEndSources (boxes_events boxes) boxes.high
  pub cut : IsRangeCut (length (byte_reads (boxes_events boxes))) boxes.low boxes.high boxes.shared boxes.lows boxes.highs

abbrev pub IsSoundInside : Inside → Type 0
IsSoundInside x =
    IsSoundRange (record {
      test = x.combination.now.0;
      combination = x.combination.now.1;
      low = end_sources x.low;
      high = end_sources x.high;
      shared = x.shared;
      lows = x.lows;
      highs = x.highs;
    })

-- The forbidden triples of a part.
use Rattle.std.proofs.Common.{length}
use Rattle.lit_rel.specs.Forbidden.{IsForbidden}
use Rattle.lit_rel.specs.ByteReadList.{AreOfEvents}
use Rattle.lit_rel.specs.Part.{AreFirstSources, PartModel, part_events}
use Rattle.lit_rel.proofs.ReadingLemmas.{write_known}
use Rattle.lit_order.proofs.ForcedLemmas.{AreTriplesBelow}

-- they speak of its events
pub triples_below : (part : PartModel) → AreFirstSources part → AreOfEvents (part_events part) → AreTriplesBelow (length (part_events part)) (IsForbidden (part_events part) part.sources)
triples_below part first of_events = record {
  source = λ w r v f. let given = f.reads.1 in (first given.0 r f.reads.0 w given.1 given.2).known;
  read = λ w r v f. let given = f.reads.1 in of_events.known given.0 r f.reads.0 given.1;
  other = λ w r v f. write_known (part_events part) v f.between.writes;
}
